use Rattle.latest_writes.proofs.latest.LatestWrites.write.Goals as goal
use Rattle.std.proofs.Common.{◌≡◌, ℕ, ◌+◌, ◌-◌, ◌^◌, min, subst, ap, ◌∙◌}
use Rattle.std.specs.Prelude.{IfOk}
use Rattle.model.specs.Map.{KeyMap}
use Rattle.latest_writes.proofs.Holding.{held_more}
use Rattle.latest_writes.proofs.Stable.{pushed}

pub returns-then-weight-limit : goal.returns-then-weight-limit
returns-then-weight-limit c = pushed _ _ _ _ _ c.in_ok-push.ensures.items c.new-entry.ensures c.self.view_is

pub returns : goal.returns
returns c =
    subst (λ (m : KeyMap). IfOk c.sweep.result (λ latest. latest ≡ m)) (pushed _ _ _ _ _ c.in_ok-push.ensures.items c.new-entry.ensures c.self.view_is)
    c.sweep.ensures

pub invariant_of-result : goal.invariant_of-result
invariant_of-result c = held_more _ _ _ _ _ _ c.self.invariant c.in_ok-push.ensures.items
    (c.saturating_add-weight.ensures ∙ ap (λ (n : ℕ). min (c.self.inside.weight + n) (2 ^ 64 - 1)) c.weight.ensures) c.if-weight-limit.true
