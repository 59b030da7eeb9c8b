use Rattle.commit_log.proofs.read.apply.Goals as goal
use Rattle.std.proofs.Common.{arith, ◌≡◌, ◌∷◌, List}
use Rattle.std.proofs.lemmas.Grind.{common_steps}
use Rattle.std.proofs.lemmas.List.Elements.{All-rest}
use Rattle.model.specs.Map.{KeyMap, KeyWrite, after_write, after_writes}
use Rattle.commit_log.specs.Format.{current}
use Rattle.commit_log.specs.RecordFormat.{FitsFormat}

applied : (m after all : KeyMap) (writes rest : List KeyWrite) (w : KeyWrite) → writes ≡ w ∷ rest → after_writes m writes ≡ all → after ≡ after_write m w.0 w.1
    → after_writes after rest ≡ all
applied m after all writes rest w is so_far next = grind (arith, common_steps)

pub loop-write-preserved : goal.loop-write-preserved
loop-write-preserved c = record {
  map = applied _ _ _ _ _ c.in-Some.write c.in-Some.ensures.steps.0 c.loop-write.invariant.map c.in_ok-latest.ensures;
  limits = All-rest (FitsFormat current) c.in-Some.write _ _ c.in-Some.ensures.steps.0 c.loop-write.invariant.limits;
}
