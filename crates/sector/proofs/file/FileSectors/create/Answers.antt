use Rattle.sector.proofs.file.FileSectors.create.Goals as goal
use Rattle.std.proofs.Common.{rules}
use Rattle.sector.proofs.MadeOfZeros.{made_of_zeros}
use Rattle.sector.specs.FileOpening.{WasMadeOfZeros}

pub returns-in-Ok-clause-zeros : goal.returns-in-Ok-clause-zeros
returns-in-Ok-clause-zeros g c keeps =
    let made : WasMadeOfZeros c.args.path.now c.args.count c.settle_zeros.new.file = search rules in
    made_of_zeros _ _ _ keeps made
