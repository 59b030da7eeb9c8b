-- What a command line does, call by call, over whatever says what is asked, opens and makes files, listens, plays
-- scripts and takes lines.
use Rattle.std.specs.Prelude.{◌≡◌, ℕ, Result, Ok, Err}
use Rattle.sector.specs.declared.device.Sectors.{Ghosts}
use Rattle.sessions.specs.declared.hub.Hub.{Hub}
use Rattle.command_line.specs.declared.invocation.Invocation.{Invocation}
use Rattle.command_line.specs.declared.invocation.Invocation.TheVariants.{Create, Serve, Check, Compact, Play}
use Rattle.command_line.specs.declared.refusals.Refusal.{Refusal}
use Rattle.scripts.specs.declared.faults.ScriptFault.{ScriptFault}
use Rattle.commands.specs.Checking.{Checking}
use Rattle.commands.specs.Compacting.{Compacting}
use Rattle.commands.specs.Endings.{ReportsEnding, of_outcome, of_refusal}
use Rattle.commands.specs.Faults.{of_script}
use Rattle.commands.specs.Making.{Creating}
use Rattle.commands.specs.Serving.{EndsServing}
use Rattle.commands.specs.declared.endings.Reported.{Reported}
use Rattle.commands.specs.declared.faults.Fault.{Fault}
use Rattle.commands.specs.declared.system.Environment.{Environment}
use Rattle.commands.specs.declared.system.DataFiles.{Ghosts as DataFiles}
use Rattle.commands.specs.declared.system.Lines.{Ghosts as Lines}
use Rattle.commands.specs.declared.system.Ports.{Ghosts as Ports}
use Rattle.commands.specs.declared.system.Scripts.{Ghosts as Scripts}
use Rattle.commands.specs.declared.system.Turns.{Ghosts as Turns}

-- a script's outcome as a command's
abbrev pub of_played : Result (Unit {0}) ScriptFault → Result (Unit {0}) Fault
of_played (Ok done) = Ok done
of_played (Err fault) = Err (of_script fault)

module _ {F P S O E D V : Type 0} {g : Ghosts D} (files : DataFiles F D) (ports : Ports P (Hub D g) V)
    (server : Turns V (Hub D g)) where
  module _ (player : Scripts S O) (out : Lines O) (err : Lines E) where
    -- what was asked for is done, and nothing else is called
    abbrev pub Does : S → Environment F P O E → Invocation → Result (Unit {0}) Fault → Environment F P O E → Type 0
    Does scripts old (Create name sectors) ended new =
        Creating g files name.now sectors old.files ended new.files × (new ≡ record old { files = new.files })
    Does scripts old (Serve name listen) ended new =
        EndsServing files ports server out err name.now listen.now old ended new
    Does scripts old (Check name) ended new =
        Checking g files out name.now old.files old.out ended (new.files, new.out)
        × (new ≡ record old { files = new.files; out = new.out })
    Does scripts old (Compact from to sectors) ended new =
        Compacting g files out err from.now to.now sectors old ended new
    Does scripts old (Play sectors) ended new =
        (played : Result (Unit {0}) ScriptFault) × player.plays scripts sectors old.out played new.out
        × (ended ≡ of_played played)
        × (new ≡ record old { out = new.out })

    -- how a command line ended: what was asked for was done, if its words ask for a command, and the ending is reported
    abbrev pub EndsLine : S → Environment F P O E → Result Invocation Refusal → Reported → Environment F P O E → Type 0
    EndsLine scripts old (Err refusal) reported new =
        ReportsEnding out.writes err.writes (of_refusal refusal) old.out old.err reported new.out new.err
        × (new ≡ record old { out = new.out; err = new.err })
    EndsLine scripts old (Ok invocation) reported new =
        (ended : Result (Unit {0}) Fault) × (done : Environment F P O E) × Does scripts old invocation ended done
        × ReportsEnding out.writes err.writes (of_outcome ended) done.out done.err reported new.out new.err
        × (new ≡ record done { out = new.out; err = new.err })

    -- A command line is run: the words say what is asked, and the status is that of the ending.
    abbrev pub RunsInvocation : {W : Type 0} → (W → Result Invocation Refusal → Type 0) → W → S → Environment F P O E
        → ℕ
        → Environment F P O E → Type 0
    RunsInvocation asks words scripts old status new =
        (invocation : Result Invocation Refusal) × (reported : Reported) × asks words invocation
        × EndsLine scripts old invocation reported new
        × (status ≡ reported.status)
