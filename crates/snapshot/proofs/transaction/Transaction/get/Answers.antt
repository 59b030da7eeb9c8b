use Rattle.snapshot.proofs.transaction.Transaction.get.Goals as goal
use Rattle.std.proofs.Common.{arith, refl, ap, ◌∙◌}
use Rattle.std.proofs.lemmas.Grind.{common_steps}
use Rattle.model.specs.Map.{KeyMap}
use Rattle.snapshot.proofs.Copies.{get-value, get-leaves, get-fault, read-after_get, err_iff, fault_iff, ok_iff}
use Rattle.snapshot.proofs.Copies.{room_of, never_of}
use Rattle.snapshot.specs.View.{value_read}

pub returns-in-Ok : goal.returns-in-Ok
returns-in-Ok c =
    let t = c.args.self.now in
    let k = c.args.key.bytes.now in
    let room = room_of c.in-Ok.ensures.faults.full in (
      (refl, λ _. tt, (c.in-Ok.ensures.ok, get-leaves t c.mark_key.new.self k room c.in-Ok.ensures.ok)),
      record {
        known = λ t. refl;
        full = ok_iff c.peek.result room;
        short = c.peek.ensures.short;
        reply = λ m qs is h. get-value t m qs k c.peek.result room (c.peek.ensures.value
            ∙ read-after_get t c.mark_key.new.self c.args.versions.now k c.in-Ok.ensures.ok ∙ ap (λ (n : KeyMap). value_read t n k) is) h;
        after = tt;
      },
    )

pub returns-in-Err : goal.returns-in-Err
returns-in-Err c = grind (arith, common_steps, err_iff, get-fault, never_of, fault_iff)
