use Rattle.write_buffer.proofs.buffer.WriteBuffer.search.Goals as goal
use Rattle.std.proofs.Common.{rules}
use Rattle.std.proofs.lemmas.Fn.{always_returns_same}
use Rattle.model.proofs.Entries.{searched}
use Rattle.model.specs.Map.{key_cmp}

pub returns : goal.returns
returns c =
    let facts = c.binary_search_by.ensures in
    let by_key = facts.position (λ w. key_cmp w.0 c.args.key.now) (always_returns_same _ _ _ (λ a r f' called. search rules)) in
    rw (← c.self.view_is, ← c.deref.ensures.value) (searched _ c.args.key.now (rw c.deref.ensures.value c.self.invariant.sorted) _ facts.bound by_key)
