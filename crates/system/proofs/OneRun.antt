-- The turns that a server takes are turns of its loop.
use Rattle.std.proofs.Common.{ℕ, List, Bool, Result, Ok, Err}
use Rattle.std.specs.declared.io.Error.{Error}
use Rattle.commands.specs.Serving.{EndsTurns, TakesTurns}
use Rattle.commands.specs.Serving.TakesTurns.{More, None as NoneTaken}
use Rattle.commands.specs.declared.faults.Fault.{Fault}
use Rattle.event_loop.specs.AllThatLeft.{TurnsTo}
use Rattle.event_loop.specs.AllThatLeft.TurnsTo.{Fault as PollFailed, NoTurn, OneMore}
use Rattle.system.specs.SystemTurns.{HasStopped, TurnedSo}
use Rattle.system.specs.declared.ports.SystemServer.{SystemServer}

abbrev Turned : SystemServer → Result (Unit {0}) Error → SystemServer → Type 0
Turned old result new = TurnedSo old.events result new.events

abbrev Stopped : SystemServer → Bool → Type 0
Stopped server stopped = HasStopped server.events stopped

taken : {E : Type 0} {writes : E → List ℕ → Result (Unit {0}) Error → E → Type 0} {first : SystemServer} {err : E} {count : ℕ} {last : SystemServer}
    {reported : Bool} {later : E} → TakesTurns Turned Stopped writes first err count last reported later → TurnsTo first.events last.events
taken NoneTaken = NoTurn
taken (More count before after reported stopped now done so_far later since turned stops reports) =
    OneMore before.events after.events (taken since) turned.1

pub turns_ended : {E : Type 0} (writes : E → List ℕ → Result (Unit {0}) Error → E → Type 0) (first : SystemServer) (err : E)
    (result : Result (Unit {0}) Fault) (last : SystemServer) (reported : E) → EndsTurns Turned Stopped writes first err result last reported
    → TurnsTo first.events last.events
turns_ended writes first err (Err fault) last reported (count, before, now, since, (error, failed, reports)) =
    PollFailed before.events last.events (taken since) failed.2
turns_ended writes first err (Ok done) last reported (now, since) = taken since
