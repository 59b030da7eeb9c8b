use Rattle.commit_log.proofs.copying.write_records.Given as goal
use Rattle.std.proofs.Common.{◌≡◌, ◌≤◌, ◌*◌, length, vec_capacity}
use Rattle.model.specs.Bounds.{value_max, body_bound}
use Rattle.model.specs.Map.{IsInBounds}
use Rattle.commit_log.proofs.CopyProtocol.{Copied}

abbrev pub invariant-loop-left : goal.invariant-loop-left
invariant-loop-left g l = record {
  left : l.left ≡ length l.pairs;
  ahead : l.ahead ≡ l.pairs;
  in_bounds : IsInBounds l.pairs;
  memory : 512 * body_bound value_max ≤ vec_capacity l.body;
  size : g.D.Sectors.size l.device ≡ g.D.Sectors.size l.fn.device;
  failures : g.D.Sectors.failures l.device ≡ g.D.Sectors.failures l.fn.device;
  copied : Copied g.D.Sectors l.fn.device l.map l.device l.pairs l.gate l.records l.digest;
}

abbrev pub decreases-loop-left : goal.decreases-loop-left
decreases-loop-left g l = l.left
