-- What a command line does, over the outputs that it was given.
use Rattle.std.specs.Prelude.{◌≡◌, ℕ, List, map}
use Rattle.std.specs.Borrow.{Bor, MutBor}
use Rattle.sector.specs.declared.device.Sectors.{Ghosts}
use Rattle.sessions.specs.declared.hub.Hub.{Hub}
use Rattle.commands.specs.Running.{RunsInvocation}
use Rattle.commands.specs.Words.{AnswersTo}
use Rattle.commands.specs.declared.system.Environment.{Environment}
use Rattle.commands.specs.declared.system.DataFiles.{Ghosts as DataFiles}
use Rattle.commands.specs.declared.system.Lines.{Ghosts as Lines}
use Rattle.commands.specs.declared.system.Ports.{Ghosts as Ports}
use Rattle.commands.specs.declared.system.Scripts.{Ghosts as Scripts}
use Rattle.commands.specs.declared.system.Turns.{Ghosts as Turns}

module _ {F P S O E D V : Type 0} {g : Ghosts D} (files : DataFiles F D) (ports : Ports P (Hub D g) V)
    (server : Turns V (Hub D g)) where
  module _ (player : Scripts S (MutBor O)) (out : Lines (MutBor O)) (err : Lines (MutBor E)) where
    -- what the words ask for is done, the outputs were these before, and the status is that of the ending
    abbrev pub RunsWords : List (Bor (List ℕ)) → S → O → E → ℕ → Type 0
    RunsWords words reader o e status =
        (old : Environment F P (MutBor O) (MutBor E)) × (new : Environment F P (MutBor O) (MutBor E))
        × RunsInvocation files ports server player out err AnswersTo (map (λ word. word.now) words) reader old status
        new
        × (old.out.now ≡ o) × (old.err.now ≡ e)
