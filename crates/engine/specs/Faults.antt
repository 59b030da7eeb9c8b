-- The faults of a transaction as faults of the engine.
use Rattle.model.specs.declared.refusals.Refusal.TheVariants as refusals
use Rattle.engine.specs.declared.faults.EngineFault.TheVariants as faults
use Rattle.engine.specs.declared.faults.ReadFault.TheVariants as reads
use Rattle.snapshot.specs.declared.faults.SnapshotFault.{SnapshotFault}
use Rattle.snapshot.specs.declared.faults.SnapshotFault.TheVariants.{FullWrites, FullMarks, Memory}
use Rattle.engine.specs.declared.faults.EngineFault.{EngineFault}
use Rattle.engine.specs.declared.faults.ReadFault.{ReadFault}

abbrev pub of_write : SnapshotFault → EngineFault
of_write FullWrites = faults.Refused refusals.FullWrites
of_write FullMarks = faults.Refused refusals.FullMarks
of_write Memory = faults.Memory

abbrev pub of_read : SnapshotFault → ReadFault
of_read FullWrites = reads.Memory
of_read FullMarks = reads.FullMarks
of_read Memory = reads.Memory
