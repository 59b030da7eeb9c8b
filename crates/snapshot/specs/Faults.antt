-- The faults of marks and of the buffer as faults of the transaction.
use Rattle.marks.specs.declared.faults.MarksFault.TheVariants as m
use Rattle.write_buffer.specs.declared.faults.WritesFault.TheVariants as w
use Rattle.marks.specs.declared.faults.MarksFault.{MarksFault}
use Rattle.write_buffer.specs.declared.faults.WritesFault.{WritesFault}
use Rattle.snapshot.specs.declared.faults.SnapshotFault.{SnapshotFault}
use Rattle.snapshot.specs.declared.faults.SnapshotFault.TheVariants.{FullWrites, FullMarks, Memory}

abbrev pub of_marks : MarksFault → SnapshotFault
of_marks m.FullMarks = FullMarks
of_marks m.Memory = Memory

abbrev pub of_writes : WritesFault → SnapshotFault
of_writes w.FullWrites = FullWrites
of_writes w.Memory = Memory
