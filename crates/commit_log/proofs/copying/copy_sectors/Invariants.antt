use Rattle.commit_log.proofs.copying.copy_sectors.Given as goal
use Rattle.std.proofs.Common.{◌≡◌, ◌+◌, length}
use Rattle.model.specs.Map.{IsInBounds}
use Rattle.commit_log.specs.Copying.{write_sets_of}
use Rattle.commit_log.specs.LogImage.{span}

abbrev pub invariant-loop-left : goal.invariant-loop-left
invariant-loop-left l = record {
  left : l.left ≡ length l.pairs;
  in_bounds : IsInBounds l.pairs;
  sectors : l.sectors + span (write_sets_of l.pairs) ≡ 2 + span (write_sets_of l.map);
}

abbrev pub decreases-loop-left : goal.decreases-loop-left
decreases-loop-left l = l.left
