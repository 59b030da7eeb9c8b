use Rattle.sorted_pages.proofs.page.Page.push.Goals as goal
use Rattle.std.proofs.Common.{List, [], ◌∷◌, ◌≡◌, ◌∙◌, ap, arith, length, subst}
use Rattle.model.proofs.Elements.{all-append}
use Rattle.model.specs.Map.{Bytes}
use Rattle.sorted_pages.proofs.Changed.{all-later, over_from, raises-push}
use Rattle.sorted_pages.proofs.FirstBytes.{head-push}
use Rattle.sorted_pages.proofs.Flags.{count-push, flags-push}
use Rattle.sorted_pages.specs.Pages.{Page}
use Rattle.sorted_pages.specs.Summaries.{RaisesSummaries}
use Rattle.sorted_pages.specs.Values.{IsOver}

pub renewed_head-self-inside-requires : goal.renewed_head-self-inside-requires
renewed_head-self-inside-requires g c = λ later.
    let es = c.self.inside.entries.items in
    let long : c.len-last.result ≡ length es = (let w = c.self.inside.entries.ok.0 in omega arith) in
    rw (c.deref.ensures.value, c.push_reserved.ensures.items) (head-push es c.self.inside.head _ (omega (arith, long, later)) c.self.invariant.0)

pub invariant_of-self : goal.invariant_of-self
invariant_of-self g c =
    let V = g.V.Versioned in
    let es = c.self.inside.entries.items in
    let fs = c.self.inside.flags.items in
    let e : Bytes × g.row.V.Denot = (c.args.key, c.args.value) in
    let inv = c.self.invariant in
    let last = c.max-self-inside.result in
    let late = all-later V.hides V.shows V.last c.self.inside.last last es (omega arith) inv.3 in
    let over = over_from V.hides V.shows V.last last e.1 (omega arith) (rw c.last.ensures.value at c.last.ensures.seen) in
    let counted = rw c.shows-shows.ensures at c.recounted-self-inside.ensures in (
      rw c.deref.ensures.value at c.renewed_head-self-inside.ensures,
      record {
        flags = rw (c.push_reserved-2.ensures.items, c.push_reserved.ensures.items)
            (flags-push V.shows es fs e c.shows-shows.result inv.1.flags c.shows-shows.ensures);
        places = omega (arith, inv.1.places);
      },
      rw c.push_reserved.ensures.items
          (count-push (λ (x : Bytes × g.row.V.Denot). V.shows x.1) es e c.self.inside.showing c.recounted-self-inside.result inv.2 counted),
      rw c.push_reserved.ensures.items (all-append (λ (x : Bytes × g.row.V.Denot). IsOver V.hides V.shows V.last last x.1) es (e ∷ []) late (over, tt)),
    )

-- numbers below that of the value see nothing of it
pub returns-clause-summaries : goal.returns-clause-summaries
returns-clause-summaries g c =
    let V = g.V.Versioned in
    let es = c.self.inside.entries.items in
    let e : Bytes × g.row.V.Denot = (c.args.key, c.args.value) in
    let n = V.last c.args.value in
    let over = over_from V.hides V.shows V.last n e.1 (omega arith) (rw c.last.ensures.value at c.last.ensures.seen) in
    subst (λ (l : List (Bytes × g.row.V.Denot)). RaisesSummaries V.hides V.shows V.last n l c.push_reserved.new.self.items)
    (ap (λ (p : Page g.row.V.Denot). p.0) c.self.view_is ∙ c.in_ok-reserve.ensures.entries)
    (rw c.push_reserved.ensures.items (raises-push V.hides V.shows V.last n es e c.requires.fresh over))
