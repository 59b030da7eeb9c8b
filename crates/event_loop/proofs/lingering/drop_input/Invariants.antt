use Rattle.event_loop.proofs.lingering.drop_input.Given as goal
use Rattle.std.proofs.Common.{◌≡◌, ◌+◌, ◌≤◌, length}
use Rattle.stream_driver.specs.Traffic.{DepartAt, IsBeginning, SameCounts}

abbrev pub invariant-loop-left : goal.invariant-loop-left
invariant-loop-left g l =
    ((l.left ≤ l.most)
    × (g.S.Stream.reports → length (g.S.Stream.traffic l.stream).received + l.left ≡ length (g.S.Stream.traffic l.initial.stream).received + l.most)
    × (g.S.Stream.reports → (g.S.Stream.traffic l.stream).sent ≡ (g.S.Stream.traffic l.initial.stream).sent)
    × SameCounts (g.S.Stream.traffic l.stream) (g.S.Stream.traffic l.initial.stream))
    × (g.S.Stream.reports → DepartAt (g.D.Sectors.moment l.device) (g.S.Stream.traffic l.initial.stream) (g.S.Stream.traffic l.stream))
    × (g.S.Stream.reports → IsBeginning (g.S.Stream.traffic l.initial.stream).received (g.S.Stream.traffic l.stream).received)

abbrev pub decreases-loop-left : goal.decreases-loop-left
decreases-loop-left g l = l.left
