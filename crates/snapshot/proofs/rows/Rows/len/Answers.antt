use Rattle.snapshot.proofs.rows.Rows.len.Goals as goal
use Rattle.std.proofs.Common.{refl}
use Rattle.std.proofs.lemmas.Iterator.Consumers.{YieldsList-from_first}
use Rattle.model.specs.KeyBytes.{pair_bytes}
use Rattle.snapshot.specs.RowPairs.{row_pairs}

pub returns-clause-gives : goal.returns-clause-gives
returns-clause-gives c = (YieldsList-from_first pair_bytes row_pairs (row_pairs c.args.self.now) refl).runs
