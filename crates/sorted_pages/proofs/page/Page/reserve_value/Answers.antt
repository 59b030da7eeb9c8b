use Rattle.sorted_pages.proofs.page.Page.reserve_value.Goals as goal
use Rattle.std.proofs.Common.{List, Option, subst, ◌<◌, ◌∙◌, ap, sym, refl, set}
use Rattle.std.proofs.lemmas.Result.{on_ok_weaker}
use Rattle.std.specs.Prelude.{IfSome}
use Rattle.model.specs.Map.{Bytes}
use Rattle.sorted_pages.proofs.Changed.{over_alike, over-set, keeps-set}
use Rattle.sorted_pages.proofs.FirstBytes.{head-set}
use Rattle.sorted_pages.proofs.Flags.{count-alike, flags-alike}
use Rattle.sorted_pages.proofs.Values.{find-written}
use Rattle.sorted_pages.specs.Pages.{Page}
use Rattle.sorted_pages.specs.Summaries.{KeepsSummaries}

pub invariant_of-self : goal.invariant_of-self
invariant_of-self g c =
    let V = g.V.Versioned in
    let es = c.self.inside.entries.items in
    let fs = c.self.inside.flags.items in
    let i = c.args.i in
    let d = c.index_mut.result.now in
    let e : Bytes × g.row.V.Denot = (d.0, c.reserve.new.self) in
    let is = c.index_mut.ensures.value in
    let inv = c.self.invariant in
    let alike = c.reserve.ensures.alike in (
      head-set es i c.self.inside.head e d is refl inv.0,
      record { flags = inv.1.flags ∙ sym (flags-alike V.shows es i e d is alike.newest); places = inv.1.places },
      count-alike V.shows es i e d is alike.newest ∙ inv.2,
      over-set V.hides V.shows V.last c.self.inside.last es i e d is (over_alike V.hides V.shows V.last c.self.inside.last d.1 e.1 alike) inv.3,
    )

pub returns-clause-made : goal.returns-clause-made
returns-clause-made g c =
    let d = c.index_mut.result.now in
    let v = c.reserve.new.self in
    let room = g.V.Versioned.room in
    let at = rw (← c.self.view_is) at c.requires.place in
    let found = find-written (λ w. w) c.args.key.bytes.now c.self.inside.entries.items c.args.i d v at c.index_mut.ensures.value in
    on_ok_weaker c.reserve.result (λ h. subst (λ (o : Option g.row.V.Denot). IfSome o (λ w. 0 < room w)) (sym found) h) c.reserve.ensures.made

pub returns-clause-summaries : goal.returns-clause-summaries
returns-clause-summaries g c =
    let V = g.V.Versioned in
    let d = c.index_mut.result.now in
    let e : Bytes × g.row.V.Denot = (d.0, c.reserve.new.self) in
    let es = c.self.inside.entries.items in
    subst (λ (l : List (Bytes × g.row.V.Denot)). KeepsSummaries V.hides V.shows V.last l (set es c.args.i e))
    (ap (λ (p : Page g.row.V.Denot). p.0) c.self.view_is)
    (keeps-set V.hides V.shows V.last es c.args.i e d c.index_mut.ensures.value c.reserve.ensures.alike)
