use Rattle.commit_log.proofs.read.read_records.Given as goal
use Rattle.std.proofs.Common.{◌≡◌, ◌-◌, ◌<◌, ◌≤◌, ℕ, List, length}
use Rattle.commit_log.proofs.Recovering.{HasRead}
use Rattle.commit_log.specs.Reading.{ReadsImage, OnlyReads}

abbrev pub invariant-records : goal.invariant-records
invariant-records g l = record {
  size : g.D.Sectors.size l.device ≡ g.D.Sectors.size l.fn.device;
  failures : g.D.Sectors.failures l.device ≡ g.D.Sectors.failures l.fn.device;
  only_reads : g.D.Sectors.keeps_model → OnlyReads g.D.Sectors l.fn.device l.device;
  in_range : l.gate < l.count;
  counted : l.records ≤ l.gate;
  found : g.D.Sectors.keeps_model → (image : List (List ℕ)) → length image ≡ l.count → ReadsImage (g.D.Sectors.may_read l.fn.device) image
      → HasRead l.format image l.gate l.records l.digest.bytes l.latest;
}

abbrev pub decreases-records : goal.decreases-records
decreases-records g l = l.count - l.gate
