use Rattle.event_loop.proofs.order.classes_of.Goals as goal
use Rattle.std.proofs.Common.{◌+◌, ◌<◌, None, arith, inl, inr, subst, sym}
use Rattle.std.proofs.Math.ListN.{get_or-eq_default}
use Rattle.std.proofs.lemmas.Bool.{cases_Bool}
use Rattle.std.proofs.lemmas.Bool.Decides.{nat_tests}
use Rattle.std.specs.Prelude.{nat_le}
use Rattle.arrayvec.specs.ArrayVec.{array_vec_len}
use Rattle.event_loop.proofs.Classes.{classes_all, classes_more, ClassesBelow}
use Rattle.event_loop.proofs.Widths.{beyond_places}
use Rattle.event_loop.specs.Tables.{slot_at}
use Rattle.event_loop.specs.declared.order.Class.{Class}

pub loop-key-preserved : goal.loop-key-preserved
loop-key-preserved g c =
    subst (ClassesBelow c.args.hub.now c.args.table.now.slots (c.loop-key.key + 1)) (sym c.push.ensures.items)
    (classes_more c.args.hub.now c.args.table.now.slots c.loop-key.key c.loop-key.classes.items c.loop-key.invariant c.class_at.result c.class_at.ensures)

pub returns : goal.returns
returns g c =
    let slots = c.args.table.now.slots in
    classes_all c.args.hub.now slots c.loop-key.key c.loop-key.classes.items c.loop-key.invariant (λ key beyond. elim (cases_Bool (nat_le 128 key)) [
      | inl far ↦ beyond_places slots c.requires key (grind (arith, nat_tests))
      | inr near ↦ (let within : key < 128 = grind (arith, nat_tests) in get_or-eq_default slots None
          (omega (arith, c.capacity.ensures.slots, c.min-key-end.ensures, c.loop-key-test.false, beyond, within)))
    ])
