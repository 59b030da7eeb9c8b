use Rattle.commit_log.proofs.encode.payload_len.Goals as goal
use Rattle.std.proofs.Common.{List, ℕ, Option, IfSome, ap, sym, subst, ◌∙◌, arith}
use Rattle.std.proofs.lemmas.Grind.{common_steps}
use Rattle.std.proofs.lemmas.List.{take_all}
use Rattle.model.specs.Key.{IsValue}
use Rattle.model.specs.Machine.{payload_size}
use Rattle.commit_log.proofs.Encoding.{payload_size-more}

pub entry_len-len-requires : goal.entry_len-len-requires
entry_len-len-requires c = subst (λ (o : Option (List ℕ)). IfSome o IsValue) (sym c.value.ensures.value) c.value.ensures.bound

pub loop-write-preserved : goal.loop-write-preserved
loop-write-preserved c = grind (arith, common_steps, payload_size-more)

pub returns-clause-len : goal.returns-clause-len
returns-clause-len c = c.loop-write.invariant.len ∙ ap payload_size (take_all _ _ c.loop-write-test.false)
