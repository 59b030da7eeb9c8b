use Rattle.sessions.proofs.session.Session.serve.Goals as goal
use Rattle.std.proofs.Common.{[], true, drop, refl, sym, ap, ◌∙◌}
use Rattle.sessions.proofs.RequestSteps.{whole, more, bad, test_refused_memory, nothing_pending, nothing_came}
use Rattle.sessions.specs.SessionStreams.{may_serve}

pub returns-in-Answered-clause-step : goal.returns-in-Answered-clause-step
returns-in-Answered-clause-step g c =
    let may = ap may_serve c.self.view_is ∙ sym c.is_ready.ensures ∙ c.if-not-is_ready.false in
    let found = c.in-Answered.ensures.step in
    let head = rw c.as_slice-2.ensures at found.1 in
    rw (← c.self.view_is) (whole c.args.engine.now c.serve_request.new.engine c.args.s _ _ may
    found.0 c.in-Answered.used head found.2 c.consume.ensures.rest refl)

pub returns-in-Incomplete-clause-step : goal.returns-in-Incomplete-clause-step
returns-in-Incomplete-clause-step g c =
    let may = ap may_serve c.self.view_is ∙ sym c.is_ready.ensures ∙ c.if-not-is_ready.false in
    let found = c.in-Incomplete.ensures.step in
    let head = rw c.as_slice-2.ensures at found.0 in
    rw (← c.self.view_is) (more c.args.engine.now c.serve_request.new.engine c.args.s _ _ may head found.1 found.2 refl refl)

pub returns-in-Broken-clause-step : goal.returns-in-Broken-clause-step
returns-in-Broken-clause-step g c =
    let may = ap may_serve c.self.view_is ∙ sym c.is_ready.ensures ∙ c.if-not-is_ready.false in
    let found = c.in-Broken.ensures.step in
    let head = rw c.as_slice-2.ensures at found.0 in
    let emptied = ap (λ xs. drop c.clear.new.self.start xs) c.clear.ensures.empty ∙ ap (λ k. drop k []) c.clear.ensures.start in
    rw (← c.self.view_is) (bad c.args.engine.now c.serve_request.new.engine c.args.s _ _ may head found.1 emptied found.2 refl)

pub returns-in-Refused-clause-step : goal.returns-in-Refused-clause-step
returns-in-Refused-clause-step g c =
    let may = ap may_serve c.self.view_is ∙ sym c.is_ready.ensures ∙ c.if-not-is_ready.false in
    let found = c.in-Refused.ensures.step in
    let head = rw c.as_slice-2.ensures at found.2 in
    let emptied = ap (λ xs. drop c.clear-in-Refused.new.self.start xs) c.clear-in-Refused.ensures.empty
    ∙ ap (λ k. drop k []) c.clear-in-Refused.ensures.start in
    rw (← c.self.view_is) (test_refused_memory c.args.engine.now c.serve_request.new.engine c.args.s _ _ may
    found.0 found.1 head found.3 found.4 emptied found.5 found.6 refl)

pub returns-then-is_empty-clause-step : goal.returns-then-is_empty-clause-step
returns-then-is_empty-clause-step g c =
    let may = ap may_serve c.self.view_is ∙ sym c.is_ready.ensures ∙ c.if-not-is_ready.false in
    let none = sym c.as_slice.ensures ∙ nothing_pending true c.as_slice.result.now (sym c.is_empty.ensures ∙ c.if-is_empty.true) in
    rw (← c.self.view_is) (nothing_came c.args.engine.now c.args.s _ may none)
