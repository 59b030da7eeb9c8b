use Rattle.engine.proofs.engine.Engine.begin.Goals as goal
use Rattle.std.proofs.Common.{refl, sym, ◌∙◌, ap, arith, subst, [], ◌≡◌}
use Rattle.std.proofs.lemmas.Result.{err_from_is_err_and}
use Rattle.std.specs.BTreeMap.{insert_entry}
use Rattle.std.specs.Ordering.{nat_cmp}
use Rattle.snapshot.specs.Made.{HasMade}
use Rattle.snapshot.specs.View.{new_view}
use Rattle.pivot_check.specs.Kept.{CommittedValue}
use Rattle.engine.proofs.Calls.{begin_inside, begin_stopped, begin_full, begin_memory, begin_call, is_some_there}
use Rattle.engine.proofs.Calls.{is_some_absent, running_if}

pub returns-then-contains_key-clause-step : goal.returns-then-contains_key-clause-step
returns-then-contains_key-clause-step g c =
    let there = is_some_there _ (sym c.contains_key.ensures ∙ c.if-contains_key.true) in
    begin_inside c.args.self.now c.args.s there.0 there.1

pub returns-then-is_stopped-clause-step : goal.returns-then-is_stopped-clause-step
returns-then-is_stopped-clause-step g c =
    begin_stopped c.args.self.now c.args.s (is_some_absent _ (sym c.contains_key.ensures ∙ c.if-contains_key.false))
    (c.is_stopped.ensures.0 c.if-is_stopped.true)

pub returns-then-len-ge-OPEN_MAX-clause-step : goal.returns-then-len-ge-OPEN_MAX-clause-step
returns-then-len-ge-OPEN_MAX-clause-step g c =
    begin_full c.args.self.now c.args.s (is_some_absent _ (sym c.contains_key.ensures ∙ c.if-contains_key.false))
    (running_if _ _ c.is_stopped.ensures c.if-is_stopped.false) (omega (arith, c.len.ensures.len))

pub returns-clause-step : goal.returns-clause-step
returns-clause-step g c =
    let last = c.last-last.ensures ∙ ap (λ (v : CommittedValue). v.facts.last) c.committed.ensures in
    let is : c.new.result ≡ new_view c.args.self.now.history.committed.facts.last = c.new.ensures.new ∙ ap new_view last in
    begin_call c.args.self.now _ c.args.s c.law_numbers_change.ensures (λ m is_map. subst (λ t. HasMade t m []) is (c.new.ensures.made m is_map))
    (record { log = refl; history = refl })
    (is_some_absent _ (sym c.contains_key.ensures ∙ c.if-contains_key.false)) (running_if _ _ c.is_stopped.ensures c.if-is_stopped.false)
    (omega (arith, c.len.ensures.len))
    (c.in_ok-insert.ensures.entries
    ∙ ap (insert_entry nat_cmp c.args.self.now.running.entries c.args.s) is) (grind (arith, c.in_ok-insert.ensures.len, c.len.ensures.len)) c.forget.ensures

pub returns-in_err-insert-clause-step : goal.returns-in_err-insert-clause-step
returns-in_err-insert-clause-step g c =
    let p = err_from_is_err_and c.from_residual.result c.from_residual.ensures.1 in
    rw (p.1, p.2)
    (begin_memory c.args.self.now _ c.args.s (record { log = refl; history = refl }) c.in_err-insert.ensures.err refl
    (is_some_absent _ (sym c.contains_key.ensures ∙ c.if-contains_key.false))
    (running_if _ _ c.is_stopped.ensures c.if-is_stopped.false) (omega (arith, c.len.ensures.len)))
