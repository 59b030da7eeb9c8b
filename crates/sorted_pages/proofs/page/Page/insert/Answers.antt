use Rattle.sorted_pages.proofs.page.Page.insert.Goals as goal
use Rattle.std.proofs.Common.{List, ap, arith, subst}
use Rattle.model.specs.Map.{Bytes}
use Rattle.sorted_pages.proofs.Changed.{all-later, over-insert, over_from, raises-insert}
use Rattle.sorted_pages.proofs.FirstBytes.{head-insert}
use Rattle.sorted_pages.proofs.Flags.{count-insert, flags-insert}
use Rattle.sorted_pages.specs.Pages.{Page}
use Rattle.sorted_pages.specs.Summaries.{RaisesSummaries}

pub renewed_head-self-inside-requires : goal.renewed_head-self-inside-requires
renewed_head-self-inside-requires g c = λ later.
    let es = c.self.inside.entries.items in
    let gap = rw (← c.self.view_is) at c.requires.gap in
    rw (c.deref.ensures.value, c.in-Ok.ensures.items) (head-insert es c.args.i c.self.inside.head _ later gap.in_range c.self.invariant.0)

pub invariant_of-self : goal.invariant_of-self
invariant_of-self g c =
    let V = g.V.Versioned in
    let es = c.self.inside.entries.items in
    let fs = c.self.inside.flags.items in
    let i = c.args.i in
    let e : Bytes × g.row.V.Denot = (c.args.key, c.args.value) in
    let inv = c.self.invariant in
    let within = (rw (← c.self.view_is) at c.requires.gap).in_range in
    let room = rw (← c.self.view_is) at c.requires.room in
    let same_block = (c.in-Ok.ensures.in_place (omega arith)).1 in
    let last = c.max-self-inside.result in
    let late = all-later V.hides V.shows V.last c.self.inside.last last es (omega arith) inv.3 in
    let over = over_from V.hides V.shows V.last last e.1 (omega arith) (rw c.last.ensures.value at c.last.ensures.seen) in
    let counted = rw c.shows-shows.ensures at c.recounted-self-inside.ensures in (
      rw c.deref.ensures.value at c.renewed_head-self-inside.ensures,
      record {
        flags = rw (c.in-Ok-insert.ensures.items, c.in-Ok.ensures.items)
            (flags-insert V.shows es fs i e c.shows-shows.result within inv.1.flags c.shows-shows.ensures);
        places = omega (arith, same_block, c.in-Ok-insert.ensures.capacity, inv.1.places);
      },
      rw c.in-Ok.ensures.items
          (count-insert (λ (x : Bytes × g.row.V.Denot). V.shows x.1) es i e c.self.inside.showing c.recounted-self-inside.result inv.2 counted),
      rw c.in-Ok.ensures.items (over-insert V.hides V.shows V.last last es i e within over late),
    )

-- numbers below that of the value see nothing of it
pub returns-clause-summaries : goal.returns-clause-summaries
returns-clause-summaries g c =
    let V = g.V.Versioned in
    let es = c.self.inside.entries.items in
    let e : Bytes × g.row.V.Denot = (c.args.key, c.args.value) in
    let within = (rw (← c.self.view_is) at c.requires.gap).in_range in
    let n = V.last c.args.value in
    let over = over_from V.hides V.shows V.last n e.1 (omega arith) (rw c.last.ensures.value at c.last.ensures.seen) in
    subst (λ (l : List (Bytes × g.row.V.Denot)). RaisesSummaries V.hides V.shows V.last n l c.insert.new.self.items)
    (ap (λ (p : Page g.row.V.Denot). p.0) c.self.view_is)
    (rw c.in-Ok.ensures.items (raises-insert V.hides V.shows V.last n es c.args.i e within c.requires.fresh over))
