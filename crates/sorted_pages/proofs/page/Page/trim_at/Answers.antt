use Rattle.sorted_pages.proofs.page.Page.trim_at.Goals as goal
use Rattle.std.proofs.Common.{List, ◌∙◌, ap, refl, rules, set, subst, sym}
use Rattle.model.specs.Map.{Bytes}
use Rattle.sorted_pages.proofs.Changed.{keeps_of-set, over-set, over_trimmed}
use Rattle.sorted_pages.proofs.FirstBytes.{head-set}
use Rattle.sorted_pages.proofs.Flags.{count-alike, flags-alike}
use Rattle.sorted_pages.proofs.Values.{find-written, written_changed}
use Rattle.sorted_pages.specs.Pages.{Page}
use Rattle.sorted_pages.specs.Summaries.{KeepsSummariesOf}
use Rattle.sorted_pages.specs.Trims.{changed_at, passes}

pub invariant_of-self : goal.invariant_of-self
invariant_of-self g c =
    let V = g.V.Versioned in
    let es = c.self.inside.entries.items in
    let i = c.in-Ok.i in
    let d = c.index_mut.result.now in
    let e : Bytes × g.row.V.Denot = (d.0, c.trim.new.self) in
    let is = c.index_mut.ensures.value in
    let inv = c.self.invariant in
    let last = c.self.inside.last in
    let trimmed = c.trim.ensures.trimmed in (
      head-set es i c.self.inside.head e d is refl inv.0,
      record { flags = inv.1.flags ∙ sym (flags-alike V.shows es i e d is trimmed.newest); places = inv.1.places },
      count-alike V.shows es i e d is trimmed.newest ∙ inv.2,
      over-set V.hides V.shows V.last last es i e d is (over_trimmed V.hides V.shows V.last c.args.numbers.now last d.1 e.1 trimmed) inv.3,
    )

pub returns-in-Ok : goal.returns-in-Ok
returns-in-Ok g c =
    let V = g.V.Versioned in
    let ns = c.args.numbers.now in
    let f = V.trimmed ns in
    let k = c.args.key.bytes.now in
    let es = c.self.inside.entries.items in
    let i = c.in-Ok.i in
    let d = c.index_mut.result.now in
    let v = c.trim.new.self in
    let e : Bytes × g.row.V.Denot = (d.0, v) in
    let at = rw (← c.self.view_is) at c.in-Ok.ensures.found in
    let is = c.index_mut.ensures.value in
    record {
      entries = written_changed f k es i d v at is c.trim.ensures.value ∙ ap (λ (p : Page g.row.V.Denot). changed_at f k p.0) c.self.view_is;
      room = search rules;
      left = c.has.ensures ∙ sym (ap (passes (V.has c.args.number)) (find-written f k es i d v at is));
      summaries = subst (λ (l : List (Bytes × g.row.V.Denot)). KeepsSummariesOf ns V.hides V.shows V.last l (set es i e))
          (ap (λ (p : Page g.row.V.Denot). p.0) c.self.view_is)
          (keeps_of-set V.hides V.shows V.last ns es i e d at.in_range is c.trim.ensures.trimmed);
    }
