use Rattle.snapshot.proofs.transaction.Transaction.into_writes.Goals as goal
use Rattle.std.proofs.Common.{ap, ◌∙◌}
use Rattle.snapshot.proofs.Copies.{writes-made}
use Rattle.snapshot.specs.View.{View}

pub returns-clause-made : goal.returns-clause-made
returns-clause-made c = λ m qs h. c.into_entries.ensures.writes ∙ ap (λ (v : View). v.writes) c.self.view_is ∙ writes-made c.args.self m qs h
