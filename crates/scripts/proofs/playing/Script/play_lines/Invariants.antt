use Rattle.scripts.proofs.playing.Script.play_lines.Given as goal
use Rattle.std.specs.Prelude.{IfSome}
use Rattle.scripts.specs.Calls.{IsAtScene, RunSoFar}
use Rattle.scripts.specs.Lines.{lines_of}
use Rattle.scripts.specs.Transcript.{Scene}

-- the lines so far were run
abbrev pub invariant-loop-number : goal.invariant-loop-number
invariant-loop-number g l = (first : Scene) → IsAtScene l.fn.self first → IfSome (g.R.Read.remaining l.fn.reader) (λ script.
    RunSoFar first (lines_of script) l.number l.self (g.R.Read.remaining l.reader) (g.O.Write.contents l.fn.out) (g.O.Write.contents l.out))
