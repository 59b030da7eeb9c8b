use Rattle.snapshot.proofs.transaction.Transaction.entries.Goals as goal
use Rattle.std.proofs.Common.{ap, ◌∙◌}
use Rattle.snapshot.proofs.Copies.{writes-made}
use Rattle.snapshot.specs.View.{View}

pub returns-clause-made : goal.returns-clause-made
returns-clause-made c = λ m qs h. c.entries.ensures.writes ∙ ap (λ (v : View). v.writes) c.self.view_is ∙ writes-made c.args.self.now m qs h
