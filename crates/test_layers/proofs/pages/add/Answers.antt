use Rattle.test_layers.proofs.pages.add.Goals as goal
use Rattle.std.proofs.Common.{arith}
use Rattle.std.proofs.lemmas.Bool.Decides.{nat_tests}
use Rattle.std.proofs.lemmas.Grind.{common_steps}

pub insert-requires-clause-new : goal.insert-requires-clause-new
insert-requires-clause-new r c = record {
  fresh = λ n lt. grind (arith, common_steps, nat_tests, c.set_at.ensures.first, c.set_at.ensures.second, c.set_at.ensures.was);
  late = omega (arith, c.set_at.ensures.second);
}
