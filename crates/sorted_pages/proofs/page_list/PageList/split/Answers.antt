use Rattle.std.proofs.Common.{◌≡◌, ◌∙◌, ◌+◌, ◌<◌, List, ap, arith, drop, get_or, length, set, subst, sym, take}
use Rattle.std.proofs.lemmas.List.{get_or_default, get_or-set_same}
use Rattle.std.specs.List.{insert}
use Rattle.sorted_pages.proofs.Summaries.{have-read, have-split, hidden-parts, over-drop, over-take}
use Rattle.sorted_pages.specs.Pages.{Page, PagesValue}
use Rattle.sorted_pages.specs.Rooms.{HasRoomFor}
use Rattle.sorted_pages.specs.Summaries.{IsSummary}
use Rattle.sorted_pages.proofs.page_list.PageList.split.Goals as goal

pub of-requires : goal.of-requires
of-requires g c =
    let v = g.V.Versioned in
    let s = c.self.inside in
    let old = c.index_mut.result.now in
    let within : c.args.i < length s.pages.items = subst (λ (p : PagesValue g.row.V.Denot). c.args.i < length p.pages) (sym c.self.view_is) c.requires.page in
    let known = have-read v.hides v.shows v.last s.pages.items s.held s.last s.summaries.items c.self.invariant c.reserve-2.new.self.items
    c.reserve.new.self.items c.args.i old c.index.result.now c.in_ok-reserve-2.ensures.items c.in_ok-reserve.ensures.items within
    c.index_mut.ensures.value c.index.ensures in
    let lower = c.split_off.new.self in
    let read : c.index-2.result.now ≡ lower =
    c.index-2.ensures ∙ get_or-set_same c.reserve-2.new.self.items c.args.i lower c.index-2.result.now
    (subst (λ (l : List (Page g.row.V.Denot)). c.args.i < length l) (sym c.in_ok-reserve-2.ensures.items) within) in
    let parts = hidden-parts v.hides v.shows v.last s.held old.0 c.index.result.now c.args.at known.0 in
    rw (read, c.in_ok-upper.ensures.lower.entries) (record {
      over = over-take v.hides v.shows v.last c.index.result.now.last c.args.at old.0 known.0.over;
      known = parts.0;
    })

pub of-summary-requires : goal.of-summary-requires
of-summary-requires g c =
    let v = g.V.Versioned in
    let s = c.self.inside in
    let old = c.index_mut.result.now in
    let within : c.args.i < length s.pages.items = subst (λ (p : PagesValue g.row.V.Denot). c.args.i < length p.pages) (sym c.self.view_is) c.requires.page in
    let known = have-read v.hides v.shows v.last s.pages.items s.held s.last s.summaries.items c.self.invariant c.reserve-2.new.self.items
    c.reserve.new.self.items c.args.i old c.index.result.now c.in_ok-reserve-2.ensures.items c.in_ok-reserve.ensures.items within
    c.index_mut.ensures.value c.index.ensures in
    let parts = hidden-parts v.hides v.shows v.last s.held old.0 c.index.result.now c.args.at known.0 in
    rw c.in_ok-upper.ensures.upper.entries (record {
      over = over-drop v.hides v.shows v.last c.index.result.now.last c.args.at old.0 known.0.over;
      known = parts.1;
    })

pub invariant_of-self-2 : goal.invariant_of-self-2
invariant_of-self-2 g c =
    let v = g.V.Versioned in
    let s = c.self.inside in
    let old = c.index_mut.result.now in
    let within : c.args.i < length s.pages.items = subst (λ (p : PagesValue g.row.V.Denot). c.args.i < length p.pages) (sym c.self.view_is) c.requires.page in
    let known = have-read v.hides v.shows v.last s.pages.items s.held s.last s.summaries.items c.self.invariant c.reserve-2.new.self.items
    c.reserve.new.self.items c.args.i old c.index.result.now c.in_ok-reserve-2.ensures.items c.in_ok-reserve.ensures.items within
    c.index_mut.ensures.value c.index.ensures in
    let lower = c.split_off.new.self in
    let read : c.index-2.result.now ≡ lower =
    c.index-2.ensures ∙ get_or-set_same c.reserve-2.new.self.items c.args.i lower c.index-2.result.now
    (subst (λ (l : List (Page g.row.V.Denot)). c.args.i < length l) (sym c.in_ok-reserve-2.ensures.items) within) in
    let low = c.of.ensures in
    let high = c.of-summary.ensures in
    let late = known.1 in
    let pages : c.insert.new.self.items ≡ insert (set c.reserve-2.new.self.items c.args.i lower) (c.args.i + 1) c.in_ok-upper.upper = c.in-Ok.ensures.items in
    let summaries : c.insert-2.new.self.items ≡ insert (set c.reserve.new.self.items c.args.i c.of.result) (c.args.i + 1) c.of-summary.result =
    c.in-Ok-insert.ensures.items in
    rw (pages, summaries, c.in_ok-reserve-2.ensures.items, c.in_ok-reserve.ensures.items)
    (have-split v.hides v.shows v.last s.pages.items s.held s.last s.summaries.items c.self.invariant c.args.i lower c.in_ok-upper.upper
    c.of.result c.of-summary.result within
    (subst (λ (p : Page g.row.V.Denot). IsSummary v.hides v.shows v.last s.held p.0 c.of.result) read low.summary) high.summary
    (omega (arith, low.last, late)) (omega (arith, high.last, late)))

pub returns-clause-parts : goal.returns-clause-parts
returns-clause-parts g c p =
    let i = c.args.i in
    let old = c.index_mut.result.now in
    let lower = c.split_off.new.self in
    let upper = c.in_ok-upper.upper in
    let same : c.reserve-2.new.self.items ≡ c.args.self.now.pages =
    c.in_ok-reserve-2.ensures.items ∙ ap (λ (q : PagesValue g.row.V.Denot). q.pages) c.self.view_is in
    let read : old ≡ get_or c.args.self.now.pages i p =
    c.index_mut.ensures.value ∙ ap (λ (l : List (Page g.row.V.Denot)). get_or l i old) same
    ∙ get_or_default c.args.self.now.pages i old p c.requires.page in
    let all : c.insert.new.self.items ≡ insert (set c.reserve-2.new.self.items i lower) (i + 1) upper = c.in-Ok.ensures.items in
    record {
      lower = lower;
      upper = upper;
      is = all ∙ ap (λ (l : List (Page g.row.V.Denot)). insert (set l i lower) (i + 1) upper) same;
      low = subst (λ (q : Page g.row.V.Denot). HasRoomFor c.args.n (take c.args.at q.0) lower) read c.in_ok-upper.ensures.lower;
      high = subst (λ (q : Page g.row.V.Denot). HasRoomFor c.args.n (drop c.args.at q.0) upper) read c.in_ok-upper.ensures.upper;
    }
