use Rattle.snapshot.proofs.transaction.Transaction.delete.Goals as goal
use Rattle.std.proofs.Common.{◌≡◌, arith, Option, None, Err, sym, ap, subst, ◌∙◌, IsTrue, OnOk, ◌↔◌}
use Rattle.std.proofs.lemmas.Grind.{common_steps}
use Rattle.model.specs.Map.{Bytes}
use Rattle.model.specs.PrivateCopy.{answer}
use Rattle.write_buffer.specs.Buffered.{is_full_for_key}
use Rattle.write_buffer.specs.declared.faults.WritesFault.{WritesFault}
use Rattle.snapshot.proofs.Copies.{Answered, write-reply, write-made, write-full, write_of, as_fault}
use Rattle.snapshot.proofs.transaction.Transaction.delete.Goals.{in-Ok, in-Err-FullWrites, in-Err-Memory}
use Rattle.snapshot.specs.Made.{HasMade, MakesOneMore, IsDoneReply}
use Rattle.snapshot.specs.View.{View}
use Rattle.snapshot.specs.declared.faults.SnapshotFault.TheVariants.{FullWrites}

pub invariant_of-self : goal.invariant_of-self
invariant_of-self c = c.delete.ensures.entries

pub returns : goal.returns
returns c =
    let t : View = record { begin = c.self.inside.begin; writes = c.self.inside.buffer; marks = c.self.inside.marks } in
    let k = c.args.key.bytes.now in
    let v : Option Bytes = None in
    let did = c.delete.ensures in
    let after : View = record t { writes = c.delete.new.self } in
    let answered : Answered c.delete.result t.writes c.delete.new.self k v =
    record { ok = did.ok; err = did.err; entries = did.entries; full = did.full } in
    let of = λ (e : WritesFault). as_fault (Err e) in
    let is : as_fault c.delete.result ≡ c.match-delete.result = elim c.match-delete.branch [
      | in-Ok w ↦ ap as_fault w.in-Ok.is ∙ sym w.result-is
      | in-Err-FullWrites w ↦ ap as_fault w.in-Err-FullWrites.is ∙ ap of w.in-Err-FullWrites.field-0-is ∙ sym w.result-is
      | in-Err-Memory w ↦ ap as_fault w.in-Err-Memory.is ∙ ap of w.in-Err-Memory.field-0-is ∙ sym w.result-is
    ] in
    let full = write-full c.delete.result c.self.inside.buffer c.delete.new.self k v answered in
    let made = write-made c.delete.result t c.delete.new.self k v answered in
    record {
      ok = grind (arith, common_steps);
      err = grind (arith, common_steps);
      known = grind (arith, common_steps);
      full = subst (λ (u : View). (c.match-delete.result ≡ Err FullWrites) ↔ IsTrue (is_full_for_key u.writes k)) c.self.view_is
          (subst (λ r. (r ≡ Err FullWrites) ↔ IsTrue (is_full_for_key c.self.inside.buffer k)) is full);
      reply = λ m qs h. subst (λ r. IsDoneReply r (answer m qs (write_of k v))) is
          (write-reply c.delete.result t c.delete.new.self m qs k v answered (subst (λ (u : View). HasMade u m qs) (sym c.self.view_is) h));
      made = subst (λ (u : View). OnOk c.match-delete.result (MakesOneMore u after (write_of k v))) c.self.view_is
          (subst (λ r. OnOk r (MakesOneMore t after (write_of k v))) is made);
    }
