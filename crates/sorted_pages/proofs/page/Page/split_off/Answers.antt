use Rattle.sorted_pages.proofs.page.Page.split_off.Goals as goal
use Rattle.std.proofs.Common.{◌≡◌, ◌-◌, ◌≤◌, length, take, drop, ap, arith, ◌∙◌}
use Rattle.std.proofs.lemmas.List.{length-take, length-drop, take_rest}
use Rattle.std.specs.Vec.{vec_items, vec_len}
use Rattle.model.proofs.Elements.{all-take}
use Rattle.model.specs.Map.{Bytes}
use Rattle.sorted_pages.proofs.Changed.{over-drop}
use Rattle.sorted_pages.proofs.FirstBytes.{head-take}
use Rattle.sorted_pages.proofs.Flags.{count_from, flags-drop, flags-take}
use Rattle.sorted_pages.specs.Pages.{Page}
use Rattle.sorted_pages.specs.Values.{IsOver}

pub invariant_of-self : goal.invariant_of-self
invariant_of-self g c =
    let V = g.V.Versioned in
    let es = c.self.inside.entries.items in
    let fs = c.self.inside.flags.items in
    let gs = c.in_ok-lower_flags.lower_flags.items in
    let at = c.args.at in
    let inv = c.self.invariant in
    let lower : c.deal.new.lower.items ≡ take at es = c.deal.ensures.lower ∙ ap (λ v. take at (vec_items v)) c.replace-entries.ensures.value in
    let dealt : gs ≡ take at fs = c.in_ok-lower_flags.ensures.same ∙ ap (take at) c.deref.ensures.value in
    let flags = dealt ∙ flags-take V.shows at es fs inv.1.flags in
    let counted = rw c.deref-3.ensures.value at c.count_flagged-self-inside.ensures in (
      rw (← lower) at (head-take at c.self.inside.head es inv.0),
      record { flags = rw lower flags; places = omega (arith, c.in_ok-lower_flags.ensures.places) },
      rw lower (count_from V.shows (take at es) gs c.count_flagged-self-inside.result flags counted),
      rw lower (all-take (λ (e : Bytes × g.row.V.Denot). IsOver V.hides V.shows V.last c.self.inside.last e.1) es at inv.3),
    )

pub invariant_of-result : goal.invariant_of-result
invariant_of-result g c =
    let V = g.V.Versioned in
    let es = c.self.inside.entries.items in
    let fs = c.self.inside.flags.items in
    let gs = c.in_ok-flags.flags.items in
    let at = c.args.at in
    let inv = c.self.invariant in
    let upper : c.deal.new.upper.items ≡ drop at es = c.deal.ensures.upper ∙ ap (λ v. drop at (vec_items v)) c.replace-entries.ensures.value in
    let whole = take_rest c.deref-2.result.now at in
    let dealt : gs ≡ drop at fs = c.in_ok-flags.ensures.same ∙ whole ∙ ap (drop at) c.deref-2.ensures.value in
    let flags = dealt ∙ flags-drop V.shows at es fs inv.1.flags in
    let counted = rw c.deref-5.ensures.value at c.count_flagged.ensures in (
      rw c.deref-4.ensures.value at c.first_head-head.ensures,
      record { flags = rw upper flags; places = omega (arith, c.in_ok-flags.ensures.places) },
      rw upper (count_from V.shows (drop at es) gs c.count_flagged.result flags counted),
      rw upper (over-drop V.hides V.shows V.last c.self.inside.last at es inv.3),
    )

pub returns-clause-lower : goal.returns-clause-lower
returns-clause-lower g c =
    let es = c.self.inside.entries.items in
    let lower : c.deal.new.lower.items ≡ take c.args.at es = c.deal.ensures.lower ∙ ap (λ v. take c.args.at (vec_items v)) c.replace-entries.ensures.value in
    let within : c.args.at ≤ length es = rw (← c.self.view_is) at c.requires in
    let counted = c.deal.new.lower.ok.0 in
    let long : vec_len c.deal.new.lower ≡ c.args.at = omega (arith, ap length lower, length-take c.args.at es) in
    record {
      entries = lower ∙ ap (λ (p : Page g.row.V.Denot). take c.args.at p.0) c.self.view_is;
      room = omega (arith, long, c.in_ok-lower.ensures.least);
      tight = omega (arith, long, c.in_ok-lower.ensures.most);
    }

pub returns-clause-upper : goal.returns-clause-upper
returns-clause-upper g c =
    let es = c.self.inside.entries.items in
    let upper : c.deal.new.upper.items ≡ drop c.args.at es = c.deal.ensures.upper ∙ ap (λ v. drop c.args.at (vec_items v)) c.replace-entries.ensures.value in
    let counted = c.deal.new.upper.ok.0 in
    let counted_before = c.self.inside.entries.ok.0 in
    let long : vec_len c.deal.new.upper ≡ vec_len c.self.inside.entries - c.args.at = omega (arith, ap length upper, length-drop c.args.at es) in
    record {
      entries = upper ∙ ap (λ (p : Page g.row.V.Denot). drop c.args.at p.0) c.self.view_is;
      room = omega (arith, long, c.in_ok-upper.ensures.least);
      tight = omega (arith, long, c.in_ok-upper.ensures.most);
    }
