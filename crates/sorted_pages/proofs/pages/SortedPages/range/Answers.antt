use Rattle.sorted_pages.proofs.pages.SortedPages.range.Goals as goal
use Rattle.std.proofs.Common.{ap, sym, ◌∙◌}
use Rattle.sorted_pages.proofs.Passed.{knows_pages}
use Rattle.sorted_pages.specs.Pages.{PagesValue}

pub up_to-requires : goal.up_to-requires
up_to-requires g c = rw c.as_slice-pages.ensures c.self.invariant

pub within-requires : goal.within-requires
within-requires g c = record {
  order = rw c.as_slice-pages.ensures c.self.invariant;
  summaries = (c.self.inside.pages.held, c.reader-reader.ensures.slot, rw c.as_slice-pages.ensures c.summaries-summaries.ensures.summaries);
}

pub within-requires-in-Some : goal.within-requires-in-Some
within-requires-in-Some g c = record {
  order = c.up_to.ensures.order;
  summaries = (
    c.self.inside.pages.held,
    c.reader-reader.ensures.slot,
    c.up_to.ensures.summaries _ _ (rw c.as_slice-pages.ensures c.summaries-summaries.ensures.summaries),
  );
}

pub returns-in-None : goal.returns-in-None
returns-in-None g c =
    let n = c.reader-reader.ensures.number in
    let same = c.as_slice-pages.ensures ∙ ap (λ (v : PagesValue g.row.V.Denot). v.pages) c.self.view_is in
    let knows = knows_pages c.reader-reader.result c.args.number c.self.inside.pages c.summaries-summaries.result.now n c.reader-reader.ensures.known
    c.summaries-summaries.ensures.late in
    record {
      entries = rw (sym n, sym same, c.in-None.is) c.within.ensures.entries;
      ahead = λ known. rw (sym n) (c.within.ensures.ahead (knows (rw c.self.view_is known)));
      looked_at = c.within.ensures.looked_at;
    }

pub returns-in-Some : goal.returns-in-Some
returns-in-Some g c =
    let n = c.reader-reader.ensures.number in
    let hides = g.V.Versioned.hides c.reader-reader.result.number in
    let same = c.as_slice-pages.ensures ∙ ap (λ (v : PagesValue g.row.V.Denot). v.pages) c.self.view_is in
    let knows = knows_pages c.reader-reader.result c.args.number c.self.inside.pages c.summaries-summaries.result.now n c.reader-reader.ensures.known
    c.summaries-summaries.ensures.late in
    record {
      entries = rw (sym n, sym same, c.in-Some.is) (c.within-in-Some.ensures.entries ∙ c.up_to.ensures.same hides c.args.range.lo.bytes.now);
      ahead = λ known. rw (sym n) (c.within-in-Some.ensures.ahead (knows (rw c.self.view_is known)));
      looked_at = c.within-in-Some.ensures.looked_at;
    }
