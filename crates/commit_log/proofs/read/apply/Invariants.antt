use Rattle.commit_log.proofs.read.apply.Given as goal
use Rattle.std.proofs.Common.{◌≡◌, All}
use Rattle.model.specs.Map.{after_writes}
use Rattle.commit_log.specs.Format.{current}
use Rattle.commit_log.specs.RecordFormat.{FitsFormat}

abbrev pub invariant-loop-write : goal.invariant-loop-write
invariant-loop-write l = record {
  map : after_writes l.latest l.write-iterator.rest.items ≡ after_writes l.fn.latest l.fn.writes.items;
  limits : All (FitsFormat current) l.write-iterator.rest.items;
}
