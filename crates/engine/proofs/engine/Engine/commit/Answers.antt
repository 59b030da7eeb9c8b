use Rattle.engine.proofs.engine.Engine.commit.Goals as goal
use Rattle.std.proofs.Common.{inl, refl, sym, ap, ◌∙◌, Err}
use Rattle.model.specs.Operations.Operation.{Commit}
use Rattle.model.specs.Operations.Response.{Number}
use Rattle.model.specs.declared.refusals.Refusal.TheVariants.{NotOpen}
use Rattle.commit_log.specs.LogState.{log_device}
use Rattle.engine.proofs.Calls.{gathered_none, refused_outside}
use Rattle.engine.proofs.Committing.{cleared_still, ended_refused, ended_overwritten, ended_fault, joined, risen}
use Rattle.engine.proofs.Committing.{not_risen, commit_memory, unwritten, crash_stored, added_faulty, added_once}
use Rattle.engine.specs.Meaning.{device_of}

pub returns-in_default-clause-step : goal.returns-in_default-clause-step
returns-in_default-clause-step g c =
    refused_outside c.args.self.now _ c.args.s Commit _ NotOpen (record { log = refl; history = refl }) refl (inl refl)
    (sym c.in_default.ensures.value) (λ m h. refl)

pub returns-in-Refused-clause-step : goal.returns-in-Refused-clause-step
returns-in-Refused-clause-step g c =
    ended_refused c.args.self.now c.refuse.new.self c.args.s _ (λ n. Number n) c.refuse.result c.in-Refused.refusal
    (c.in-Refused.ensures c.args.self.now c.args.s refl refl (sym c.in-Some.ensures.value))
    c.refuse.ensures.leaves c.refuse.ensures.refusal

pub returns-in-Overwritten-clause-step : goal.returns-in-Overwritten-clause-step
returns-in-Overwritten-clause-step g c =
    ended_overwritten c.args.self.now c.end.new.self c.args.s c.in-Some.transaction.now c.end.result _ c.in-Overwritten.i c.into_key-key.result
    (c.in-Overwritten.ensures c.args.self.now c.args.s refl refl (sym c.in-Some.ensures.value)).1 c.end.ensures.leaves (sym c.in-Some.ensures.value)
    c.end.ensures.taken c.into_key-key.ensures

pub returns-in-Err-Memory-clause-step : goal.returns-in-Err-Memory-clause-step
returns-in-Err-Memory-clause-step g c =
    let j = (c.in-Clear.ensures c.args.self.now c.args.s refl refl (sym c.in-Some.ensures.value)).0 in
    commit_memory c.args.self.now _ c.args.s c.in-Some.transaction.now j (c.in-Err-Memory.ensures.fails.unchanged (ap Err c.in-Err-Memory.field-0-is)) refl refl
    c.reserve_and_append.ensures.same

pub returns-in-Err-Device-clause-step : goal.returns-in-Err-Device-clause-step
returns-in-Err-Device-clause-step g c =
    let j = (c.in-Clear.ensures c.args.self.now c.args.s refl refl (sym c.in-Some.ensures.value)).0 in
    let stops = c.in-Err-Device.ensures.fails.stopped (ap Err c.in-Err-Device.field-0-is) in
    let leaves = c.refuse-in-Err-Device.ensures.leaves in
    ended_fault c.args.self.now _ c.reserve_and_append.new.log c.reserve_and_append.new.history c.args.s _ _ (λ n. Number n) _
    c.refuse-in-Err-Device.ensures.refusal j stops
    c.reserve_and_append.ensures.same leaves (rw leaves.store.log (risen _ _ stops.fault))
    (c.in-Err-Device.ensures.fails.left (ap Err c.in-Err-Device.field-0-is))

pub returns-in-Err-Device-clause-appends : goal.returns-in-Err-Device-clause-appends
returns-in-Err-Device-clause-appends g c =
    let j = (c.in-Clear.ensures c.args.self.now c.args.s refl refl (sym c.in-Some.ensures.value)).0 in
    let stops = c.in-Err-Device.ensures.fails.stopped (ap Err c.in-Err-Device.field-0-is) in
    record {
      once = rw c.refuse-in-Err-Device.ensures.leaves.store.log (added_faulty _ _ c.in-Some.transaction.now.writes stops);
      read_only = λ m h none. absurd (stops.written (unwritten c.args.self.now c.args.s c.in-Some.transaction.now m h j none));
    }

pub returns-in-Err-Device-clause-crash : goal.returns-in-Err-Device-clause-crash
returns-in-Err-Device-clause-crash g c keeps =
    crash_stored c.args.self.now c.reserve_and_append.new.log (device_of c.refuse-in-Err-Device.new.self) c.args.s c.in-Some.transaction.now
    (c.in-Clear.ensures c.args.self.now c.args.s refl refl (sym c.in-Some.ensures.value)).0
    (ap log_device c.refuse-in-Err-Device.ensures.leaves.store.log) (c.in-Err-Device.ensures.crash keeps) keeps

pub join-requires-clause-cleared : goal.join-requires-clause-cleared
join-requires-clause-cleared g c =
    let j = c.in-Clear.ensures c.args.self.now c.args.s refl refl (sym c.in-Some.ensures.value) in
    cleared_still c.args.self.now c.end-ended.new.self c.reserve_and_append.new.log c.reserve_and_append.new.history c.args.s _ c.end-ended.result
    c.in-Clear.cleared
    j.0.asked.entry j.2 c.reserve_and_append.ensures.same c.end-ended.ensures.leaves c.end-ended.ensures.taken

pub returns-clause-step : goal.returns-clause-step
returns-clause-step g c =
    let j = (c.in-Clear.ensures c.args.self.now c.args.s refl refl (sym c.in-Some.ensures.value)).0 in
    let leaves = c.end-ended.ensures.leaves in
    joined c.args.self.now c.end-ended.new.self c.reserve_and_append.new.log c.reserve_and_append.new.history c.join.new.self c.gather.new.self
    c.numbers.result.now c.args.s _ c.end-ended.result _ _ j
    c.in-Ok.ensures.logged c.in-Ok.ensures.stored c.reserve_and_append.ensures.same leaves
    c.end-ended.ensures.taken c.join.ensures.numbered.last (c.gather.ensures (gathered_none _ _ leaves.forgets)) c.numbers.ensures.gathered
    c.join.ensures.joins
    (λ some. rw leaves.store.log (not_risen _ _ (c.in-Ok.ensures.logged.no_fault some))) c.join.ensures.numbered.number

pub returns-clause-appends : goal.returns-clause-appends
returns-clause-appends g c =
    let j = (c.in-Clear.ensures c.args.self.now c.args.s refl refl (sym c.in-Some.ensures.value)).0 in
    let leaves = c.end-ended.ensures.leaves in
    record {
      once = rw leaves.store.log (added_once _ _ c.in-Some.transaction.now.writes c.in-Ok.ensures.logged);
      read_only = λ m h none. leaves.store.log
          ∙ c.in-Ok.ensures.logged.untouched (unwritten c.args.self.now c.args.s c.in-Some.transaction.now m h j none);
    }

pub returns-clause-crash : goal.returns-clause-crash
returns-clause-crash g c keeps =
    crash_stored c.args.self.now c.reserve_and_append.new.log c.end-ended.new.self.log.device c.args.s c.in-Some.transaction.now
    (c.in-Clear.ensures c.args.self.now c.args.s refl refl (sym c.in-Some.ensures.value)).0
    (ap log_device c.end-ended.ensures.leaves.store.log) (c.in-Ok.ensures.crash keeps) keeps
