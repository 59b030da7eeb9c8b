use Rattle.commands.proofs.serving.serve_turns.Given as goal
use Rattle.commands.specs.Serving.{TakesTurns}

abbrev pub invariant-loop-turn : goal.invariant-loop-turn
invariant-loop-turn g l = TakesTurns g.S.Turns.turns g.S.Turns.stops g.E.Lines.writes l.initial.server l.initial.err l._turn l.server l.reported l.err
