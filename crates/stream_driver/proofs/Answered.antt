-- Calls of a stream follow one another.
use Rattle.std.proofs.Common.{refl, ◌∙◌, arith}
use Rattle.stream_driver.specs.Traffic.{Traffic, SameCounts, after_call, AllMoved, CountsLast}
use Rattle.stream_driver.specs.Types.{Call}

pub none_called : (t : Traffic) → AllMoved t t
none_called t = (refl, refl, refl, refl, refl, refl)

pub moved_then : (a b c : Traffic) → AllMoved a b → AllMoved b c → AllMoved a c
moved_then a b c (p, q, r, t, u, v) (p', q', r', t', u', v') = (p' ∙ p, q' ∙ q, r' ∙ r, t' ∙ t, u' ∙ u, v' ∙ v)

-- all moved, and then a call was answered
same_after : (call : Call) (a b : Traffic) → SameCounts b a → SameCounts (after_call call b) (after_call call a)
same_after call a b s = grind arith

pub ends_then : (call : Call) (a b c : Traffic) → AllMoved a b → CountsLast call b c → CountsLast call a c
ends_then call a b c p (counts, last) = (moved_then (after_call call a) (after_call call b) c (same_after call a b p) counts, last)
