use Rattle.event_loop.proofs.lingering.drop_input.Goals as goal
use Rattle.std.proofs.Common.{[], ◌∙◌, arith, refl, rules, sym}
use Rattle.std.proofs.lemmas.Grind.{common_steps}
use Rattle.std.proofs.lemmas.List.{append-nil}
use Rattle.stream_driver.proofs.Buffering.{departed_then, none_departed}
use Rattle.stream_driver.proofs.Sends.{begins_through}

pub loop-left-init : goal.loop-left-init
loop-left-init g c = (search rules, λ t. none_departed refl, λ t. record { rest = []; all_is = sym (append-nil _) })

pub loop-left-preserved : goal.loop-left-preserved
loop-left-preserved g c = (
  grind (arith, common_steps),
  λ t. departed_then [] ((c.read.ensures.moved t).sent ∙ sym (append-nil _)) (c.loop-left.invariant.1 t) ((c.read.ensures.moved t).departed),
  λ t. begins_through _ _ _ (c.loop-left.invariant.2 t) (record { rest = _; all_is = (c.read.ensures.moved t).received }),
)

pub returns-in-Blocked-clause-departed : goal.returns-in-Blocked-clause-departed
returns-in-Blocked-clause-departed g c = λ t.
    departed_then [] ((c.read.ensures.moved t).sent ∙ sym (append-nil _)) (c.loop-left.invariant.1 t) ((c.read.ensures.moved t).departed)

pub returns-in-Blocked-clause-goes_on : goal.returns-in-Blocked-clause-goes_on
returns-in-Blocked-clause-goes_on g c = λ t.
    begins_through _ _ _ (c.loop-left.invariant.2 t) (record { rest = _; all_is = (c.read.ensures.moved t).received })

pub returns-in-Failed-clause-departed : goal.returns-in-Failed-clause-departed
returns-in-Failed-clause-departed g c = λ t.
    departed_then [] ((c.read.ensures.moved t).sent ∙ sym (append-nil _)) (c.loop-left.invariant.1 t) ((c.read.ensures.moved t).departed)

pub returns-in-Failed-clause-goes_on : goal.returns-in-Failed-clause-goes_on
returns-in-Failed-clause-goes_on g c = λ t.
    begins_through _ _ _ (c.loop-left.invariant.2 t) (record { rest = _; all_is = (c.read.ensures.moved t).received })
