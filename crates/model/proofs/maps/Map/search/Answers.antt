use Rattle.model.proofs.maps.Map.search.Goals as goal
use Rattle.std.proofs.Common.{arith, rules}
use Rattle.std.proofs.lemmas.Fn.{always_returns_same}
use Rattle.std.proofs.lemmas.Grind.{common_steps}
use Rattle.model.proofs.Entries.{searched, gap_behind}
use Rattle.model.specs.Map.{key_cmp}

pub returns-in-Some-clause-absent : goal.returns-in-Some-clause-absent
returns-in-Some-clause-absent c = grind (arith, common_steps, gap_behind)

pub returns-in_default : goal.returns-in_default
returns-in_default c =
    let facts = c.binary_search_by.ensures in
    let by_key = facts.position (λ p. key_cmp p.0 c.args.key.now) (always_returns_same _ _ _ (λ a r f' called. search rules)) in
    rw (← c.self.view_is, ← c.deref-in_default.ensures.value)
    (searched _ c.args.key.now (rw c.deref-in_default.ensures.value c.self.invariant.0) _ facts.bound by_key)
