use Rattle.engine.proofs.validating.validate.Goals as goal
use Rattle.std.proofs.Common.{◌≤◌, ◌-◌, ◌^◌, ap, sym, subst, ◌∙◌, arith}
use Rattle.commit_log.specs.LogState.{is_log_stopped}
use Rattle.pivot_check.specs.Kept.{CommittedValue}
use Rattle.engine.proofs.Calls.{running_if}
use Rattle.engine.proofs.Committing.{stopped_refuses, numbers_refuse}
use Rattle.engine.specs.HistoryValue.{HistoryValue}

pub returns-then-is_stopped : goal.returns-then-is_stopped
returns-then-is_stopped g c e s log history entry =
    stopped_refuses e s c.args.transaction.now entry (ap is_log_stopped log ∙ c.is_stopped.ensures.0 c.if-is_stopped.true)

pub returns-then-last-ge-LAST_MAX : goal.returns-then-last-ge-LAST_MAX
returns-then-last-ge-LAST_MAX g c e s log history entry =
    numbers_refuse e s c.args.transaction.now entry (ap is_log_stopped log ∙ running_if _ _ c.is_stopped.ensures c.if-is_stopped.false)
    (subst (λ n. 2 ^ 63 - 1 ≤ n) (c.last.ensures ∙ ap (λ (v : CommittedValue). v.facts.last) c.committed.ensures
    ∙ sym (ap (λ (v : HistoryValue). v.committed.facts.last) history)) c.if-last-ge-LAST_MAX.true)

pub returns : goal.returns
returns g c e s log history entry =
    let last = c.last.ensures ∙ ap (λ (v : CommittedValue). v.facts.last) c.committed.ensures
    ∙ sym (ap (λ (v : HistoryValue). v.committed.facts.last) history) in
    c.check_conflicts_and_space.ensures e s log history
    (record { entry = entry; running = ap is_log_stopped log ∙ running_if _ _ c.is_stopped.ensures c.if-is_stopped.false; numbers = omega (arith, last) })
