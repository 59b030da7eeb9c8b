-- All turns that a server takes are in one run, with all that ever left over its connections.
use Rattle.std.specs.Prelude.{ℕ, List, Result}
use Rattle.std.specs.declared.io.Error.{Error}
use Rattle.sessions.specs.Restarts.{Served}
use Rattle.commands.specs.Serving.{EndsTurns}
use Rattle.commands.specs.declared.faults.Fault.{Fault}
use Rattle.event_loop.specs.AllThatLeft.{IsOneRun, TurnsTo}
use Rattle.event_loop.specs.Loops.{hub_of}
use Rattle.system.specs.SystemTurns.{HasStopped, TurnedSo}
use Rattle.system.specs.declared.ports.SystemServer.{SystemServer}

-- However the server's turns end, there is one run from the opening to the hub after the last of them, in which each
-- departure is kept of each connection that ever was.
abbrev pub ServesInOneRun : {E : Type 0} → (E → List ℕ → Result (Unit {0}) Error → E → Type 0) → SystemServer → E
    → Type 0
ServesInOneRun {E} writes first err = (result : Result (Unit {0}) Fault) (last : SystemServer) (reported : E)
    → EndsTurns (λ old result new. TurnedSo old.events result new.events) (λ server stopped. HasStopped server.events
    stopped) writes first err result last reported
    → ∥ ((turns : TurnsTo first.events last.events) × (served : Served (hub_of last.events)) × IsOneRun served turns) ∥₁
