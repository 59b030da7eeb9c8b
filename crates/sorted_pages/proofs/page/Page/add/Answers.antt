use Rattle.sorted_pages.proofs.page.Page.add.Goals as goal
use Rattle.std.proofs.Common.{◌-◌, List, subst, ap, refl, set, sym, arith, ◌≤◌, ◌∙◌}
use Rattle.std.specs.Vec.{vec_capacity, vec_len}
use Rattle.model.specs.Map.{Bytes}
use Rattle.sorted_pages.proofs.Changed.{all-later, changes-set, over_from, over-set, raises-set}
use Rattle.sorted_pages.proofs.FirstBytes.{head-set}
use Rattle.sorted_pages.proofs.Flags.{count-set, count-some, flag_at, flags-set}
use Rattle.sorted_pages.specs.Changes.{ChangesEntry}
use Rattle.sorted_pages.specs.Pages.{Page}
use Rattle.sorted_pages.specs.Summaries.{RaisesSummaries}

-- a value that showed was counted
pub recounted-self-inside-requires-clause-some : goal.recounted-self-inside-requires-clause-some
recounted-self-inside-requires-clause-some g c = λ shown.
    let V = g.V.Versioned in
    let es = c.self.inside.entries.items in
    let fs = c.self.inside.flags.items in
    let i = c.args.i in
    let d = c.index_mut.result.now in
    let is = c.index_mut.ensures.value in
    let inv = c.self.invariant in
    let within = (rw (← c.self.view_is) at c.requires.place).in_range in
    let flag = flag_at V.shows es fs i d c.index.result.now within inv.1.flags is c.index.ensures in
    count-some (λ (x : Bytes × g.row.V.Denot). V.shows x.1) es i d c.self.inside.showing within is (sym flag ∙ shown) inv.2

pub returns-clause-changed : goal.returns-clause-changed
returns-clause-changed g c =
    let es = c.self.inside.entries.items in
    let i = c.args.i in
    let k = c.args.key.bytes.now in
    let R = g.V.Versioned.adds c.args.version in
    let d = c.index_mut.result.now in
    let v = c.add.new.self in
    let room = vec_capacity c.self.inside.entries - vec_len c.self.inside.entries in
    let at = rw (← c.self.view_is) at c.requires.place in
    subst (λ (p : Page g.row.V.Denot). ChangesEntry k R p (set es i (d.0, v), room)) c.self.view_is
    (changes-set R k es i d v room at c.index_mut.ensures.value c.add.ensures.added)

pub invariant_of-self : goal.invariant_of-self
invariant_of-self g c =
    let V = g.V.Versioned in
    let es = c.self.inside.entries.items in
    let fs = c.self.inside.flags.items in
    let i = c.args.i in
    let d = c.index_mut.result.now in
    let e : Bytes × g.row.V.Denot = (d.0, c.add.new.self) in
    let is = c.index_mut.ensures.value in
    let inv = c.self.invariant in
    let within = (rw (← c.self.view_is) at c.requires.place).in_range in
    let last = c.max-self-inside.result in
    let late = all-later V.hides V.shows V.last c.self.inside.last last es (omega arith) inv.3 in
    let over = over_from V.hides V.shows V.last last e.1 (omega arith) (rw c.last.ensures.value at c.last.ensures.seen) in (
      head-set es i c.self.inside.head e d is refl inv.0,
      record { flags = flags-set V.shows es fs i e c.shows-shows.result inv.1.flags c.shows-shows.ensures; places = inv.1.places },
      count-set (λ (x : Bytes × g.row.V.Denot). V.shows x.1) es i e d c.self.inside.showing c.recounted-self-inside.result c.index.result.now within is
          (flag_at V.shows es fs i d c.index.result.now within inv.1.flags is c.index.ensures) inv.2
          (rw c.shows-shows.ensures at c.recounted-self-inside.ensures),
      over-set V.hides V.shows V.last last es i e d is (λ o. over) late,
    )

-- numbers below that of the change see what they saw
pub returns-clause-summaries : goal.returns-clause-summaries
returns-clause-summaries g c =
    let V = g.V.Versioned in
    let d = c.index_mut.result.now in
    let e : Bytes × g.row.V.Denot = (d.0, c.add.new.self) in
    let es = c.self.inside.entries.items in
    let n = V.change_number c.args.version in
    let changed = c.add.ensures.changed in
    let late : V.last e.1 ≤ n = omega (arith, changed.latest) in
    let over = over_from V.hides V.shows V.last n e.1 late (rw c.last.ensures.value at c.last.ensures.seen) in
    subst (λ (l : List (Bytes × g.row.V.Denot)). RaisesSummaries V.hides V.shows V.last n l (set es c.args.i e))
    (ap (λ (p : Page g.row.V.Denot). p.0) c.self.view_is)
    (raises-set V.hides V.shows V.last n es c.args.i e d c.index_mut.ensures.value changed.before over)
