use Rattle.commit_log.proofs.copying.write_records.Goals as goal
use Rattle.std.proofs.Common.{◌≡◌, ◌+◌, ◌*◌, ◌∙◌, ℕ, length, take, drop, min, refl, sym, ap, subst, arith}
use Rattle.std.proofs.Common.{length-drop}
use Rattle.model.specs.Machine.{payload_size}
use Rattle.model.specs.Map.{KeyMap, IsInBounds}
use Rattle.commit_log.proofs.CopyProtocol.{next_set_of, none_copied, copied_more, in_range, next_gate_le}
use Rattle.commit_log.proofs.CopyProtocol.{done_are_all, all_read, shut_read, record_within, last_gate}
use Rattle.commit_log.proofs.Putting.{bounds_drop}
use Rattle.commit_log.specs.Copying.{puts}
use Rattle.commit_log.specs.RecordFormat.{closed_gate, body_sectors}

pub loop-left-init : goal.loop-left-init
loop-left-init g c = record {
  left = c.len-left.ensures.len ∙ ap length (sym c.pairs-pairs.ensures);
  ahead = c.pairs-ahead.ensures ∙ sym c.pairs-pairs.ensures;
  in_bounds = subst IsInBounds (sym c.pairs-pairs.ensures) c.len-left.ensures.in_bounds;
  memory = c.requires.memory;
  size = refl;
  failures = refl;
  copied = none_copied g.D.Sectors c.args.device.now c.args.map.now c.pairs-pairs.result c.pairs-pairs.ensures (λ keeps. g.met.D.Sectors.only_now keeps);
}

pub write_open_record-requires : goal.write_open_record-requires
write_open_record-requires g c =
    let next = next_set_of c.loop-left.pairs c.min-count.result c.next_payload_len-len.result (c.min-count.ensures
    ∙ ap (λ (n : ℕ). min n 64) c.loop-left.invariant.left) (omega (arith, c.loop-left.invariant.left, c.loop-left-test.true))
    (c.next_payload_len-len.ensures.len ∙ ap (λ (l : KeyMap). payload_size (puts (take c.min-count.result l))) c.loop-left.invariant.ahead) in
    let long = ap length c.deref.ensures.value in
    let sectors = c.encode_pairs-digest.ensures.encoded.sectors in
    let within = next_gate_le g.D.Sectors _ _ _ _ _ _ _ c.loop-left.invariant.copied c.min-count.result c.next_payload_len-len.result next in
    record {
      whole = omega (arith, long, sectors);
      room = omega (arith, long, sectors, next.sectors, within, c.requires.room, c.loop-left.invariant.size);
      fits = omega (arith, long, sectors, next.sectors, within, c.requires.room, c.requires.fits);
    }

pub overflow_add-gate-in-loop-left : goal.overflow_add-gate-in-loop-left
overflow_add-gate-in-loop-left g c =
    let next = next_set_of c.loop-left.pairs c.min-count.result c.next_payload_len-len.result (c.min-count.ensures
    ∙ ap (λ (n : ℕ). min n 64) c.loop-left.invariant.left) (omega (arith, c.loop-left.invariant.left, c.loop-left-test.true))
    (c.next_payload_len-len.ensures.len ∙ ap (λ (l : KeyMap). payload_size (puts (take c.min-count.result l))) c.loop-left.invariant.ahead) in
    omega (
      arith,
      c.sectors_for.ensures,
      next_gate_le g.D.Sectors _ _ _ _ _ _ _ c.loop-left.invariant.copied c.min-count.result c.next_payload_len-len.result next,
      c.requires.room,
      c.requires.fits,
    )

pub overflow_add-records : goal.overflow_add-records
overflow_add-records g c =
    omega (
      arith,
      (in_range g.D.Sectors _ _ _ _ _ _ _ c.loop-left.invariant.copied).0,
      (in_range g.D.Sectors _ _ _ _ _ _ _ c.loop-left.invariant.copied).1,
      c.requires.room,
      c.requires.fits,
    )

pub loop-left-preserved : goal.loop-left-preserved
loop-left-preserved g c =
    let next = next_set_of c.loop-left.pairs c.min-count.result c.next_payload_len-len.result (c.min-count.ensures
    ∙ ap (λ (n : ℕ). min n 64) c.loop-left.invariant.left) (omega (arith, c.loop-left.invariant.left, c.loop-left-test.true))
    (c.next_payload_len-len.ensures.len ∙ ap (λ (l : KeyMap). payload_size (puts (take c.min-count.result l))) c.loop-left.invariant.ahead) in
    let size : length c.deref.result.now ≡ 512 * body_sectors (puts (take c.min-count.result c.loop-left.pairs)) =
    ap length c.deref.ensures.value ∙ c.encode_pairs-digest.ensures.encoded.sectors in
    let rest = c.encode_pairs-digest.ensures.rest in
    record {
      left = omega (arith, c.loop-left.invariant.left, ap length rest, length-drop c.min-count.result c.loop-left.pairs);
      ahead = c.next_payload_len-len.ensures.rest ∙ ap (λ (l : KeyMap). drop c.min-count.result l) c.loop-left.invariant.ahead ∙ sym rest;
      in_bounds = subst IsInBounds (sym rest) (bounds_drop c.min-count.result c.loop-left.pairs c.loop-left.invariant.in_bounds);
      memory = omega (arith, c.loop-left.invariant.memory, c.encode_pairs-digest.ensures.capacity);
      size = c.write_open_record.ensures.calls.0 ∙ c.loop-left.invariant.size;
      failures = c.in_ok-write_open_record.ensures.calls.1.0 ∙ c.loop-left.invariant.failures;
      copied = copied_more g.D.Sectors c.args.device.now c.args.map.now c.loop-left.device c.write_open_record.new.device c.loop-left.pairs
          c.encode_pairs-digest.new.pairs c.loop-left.gate _ c.loop-left.records c.min-count.result c.next_payload_len-len.result c.loop-left.digest
          c.deref.result.now c.encode_pairs-digest.result
          c.loop-left.invariant.copied next (ap (λ (n : ℕ). c.loop-left.gate + (1 + n)) c.sectors_for.ensures) rest (c.deref.ensures.value
          ∙ c.encode_pairs-digest.ensures.encoded.body) size c.encode_pairs-digest.ensures.encoded.digest_is
          (λ keeps. c.in_ok-write_open_record.ensures.written keeps)
          (λ keeps. c.write_open_record.ensures.alone keeps);
    }

pub write-requires : goal.write-requires
write-requires g c = omega (arith, (in_range g.D.Sectors _ _ _ _ _ _ _ c.loop-left.invariant.copied).1, c.requires.room, c.loop-left.invariant.size)

pub returns-clause-number : goal.returns-clause-number
returns-clause-number g c =
    c.loop-left.invariant.copied.records_are
    ∙ ap length (done_are_all g.D.Sectors _ _ _ _ _ _ _ c.loop-left.invariant.copied (omega (arith, c.loop-left.invariant.left, c.loop-left-test.false)))

pub returns-clause-copied : goal.returns-clause-copied
returns-clause-copied g c keeps =
    let none_left : length c.loop-left.pairs ≡ 0 = omega (arith, c.loop-left.invariant.left, c.loop-left-test.false) in
    record {
      records = all_read g.D.Sectors _ _ _ _ _ _ _ c.loop-left.invariant.copied none_left c.write.new.self keeps (c.write.ensures.others keeps);
      behind = shut_read g.D.Sectors _ _ _ _ _ _ _ c.loop-left.invariant.copied none_left c.write.new.self closed_gate
          (λ s read. c.in_ok-write.ensures.written keeps s read ∙ c.closed_gate.ensures);
    }

pub returns-in_err-write_open_record-clause-alone : goal.returns-in_err-write_open_record-clause-alone
returns-in_err-write_open_record-clause-alone g c keeps =
    let next = next_set_of c.loop-left.pairs c.min-count.result c.next_payload_len-len.result (c.min-count.ensures
    ∙ ap (λ (n : ℕ). min n 64) c.loop-left.invariant.left) (omega (arith, c.loop-left.invariant.left, c.loop-left-test.true))
    (c.next_payload_len-len.ensures.len ∙ ap (λ (l : KeyMap). payload_size (puts (take c.min-count.result l))) c.loop-left.invariant.ahead) in
    let size : length c.deref.result.now ≡ 512 * body_sectors (puts (take c.min-count.result c.loop-left.pairs)) =
    ap length c.deref.ensures.value ∙ c.encode_pairs-digest.ensures.encoded.sectors in
    record_within g.D.Sectors _ _ _ _ _ _ _ c.loop-left.invariant.copied c.write_open_record.new.device c.min-count.result c.next_payload_len-len.result
    (length c.deref.result.now) next size (c.loop-left.invariant.copied.within keeps) (c.write_open_record.ensures.alone keeps)

pub returns-in_err-write-clause-alone : goal.returns-in_err-write-clause-alone
returns-in_err-write-clause-alone g c keeps =
    last_gate g.D.Sectors _ _ _ _ _ _ _ c.loop-left.invariant.copied c.write.new.self keeps (c.write.ensures.others keeps) (c.write.ensures.crash keeps)
    (c.write.ensures.time keeps)

pub returns-clause-alone : goal.returns-clause-alone
returns-clause-alone g c keeps =
    last_gate g.D.Sectors _ _ _ _ _ _ _ c.loop-left.invariant.copied c.write.new.self keeps (c.write.ensures.others keeps) (c.write.ensures.crash keeps)
    (c.write.ensures.time keeps)
