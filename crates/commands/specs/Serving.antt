-- What serving does, call by call, over whatever opens files, listens, takes turns and takes lines. Each relation given
-- is of one call: what was called before it, what it was given, how it came out, and what was called afterwards.
use Rattle.std.specs.Net.Grammar.{IsSocketText}
use Rattle.std.specs.Prelude.{◌≡◌, ◌+◌, ◌-◌, ◌^◌, ℕ, List, Bool, true, false, Result, Ok, Err, IfOk, MatchResult}
use Rattle.std.specs.declared.io.Error.{Error}
use Rattle.std.specs.declared.net.socket_addr.SocketAddr.{SocketAddr}
use Rattle.model.specs.Map.{IsInBounds, KeyMap}
use Rattle.sector.specs.declared.device.Sectors.{Ghosts}
use Rattle.commit_log.specs.declared.faults.Unopened.{Unopened}
use Rattle.sessions.specs.Restarts.{Begins, IsOpened, Opens, ReportsWhy}
use Rattle.sessions.specs.StandsFor.{device, device_after}
use Rattle.sessions.specs.declared.hub.Hub.{Hub}
use Rattle.commands.specs.Faults.{of_log}
use Rattle.commands.specs.Notices.{listening_line, stopped_line}
use Rattle.commands.specs.Printing.{IsReportedAs, Prints}
use Rattle.commands.specs.Steps.{Calls, Reports, Step, Try}
use Rattle.commands.specs.declared.faults.Fault.{Fault}
use Rattle.commands.specs.declared.faults.Fault.TheVariants.{File, Listen, Poll}
use Rattle.commands.specs.declared.system.Environment.{Environment}
use Rattle.commands.specs.declared.system.DataFiles.{Ghosts as DataFiles}
use Rattle.commands.specs.declared.system.Lines.{Ghosts as Lines}
use Rattle.commands.specs.declared.system.Ports.{Ghosts as Ports}
use Rattle.commands.specs.declared.system.Turns.{Ghosts as Turns}

-- each hub that was opened is taken
abbrev pub TakesOpened : {D : Type 0} {g : Ghosts D} → (Hub D g → Type 0) → Type 0
TakesOpened {D} {g} takes = (hub : Hub D g) → IsOpened hub → takes hub

-- the address that a text spells, or none
abbrev pub ReadsAddress : List ℕ → Step SocketAddr (Unit {0})
ReadsAddress text (Ok address) _ = IsSocketText text address
ReadsAddress text (Err fault) _ = (fault ≡ Listen) × ((address : SocketAddr) → IsSocketText text address → ⊥)

-- opening a store on a device: what came of it, and how the device then is
abbrev pub Starts : {D : Type 0} {g : Ghosts D} → D → Result (Hub D g) (Unopened D) → D → Type 0
Starts {g = g} dev result after =
    ReportsWhy dev result × IfOk result (λ hub. (map : KeyMap) × Begins dev hub map × IsInBounds map)
    × (g.keeps_model → Opens dev result) × (after ≡ device_after result)

-- After a turn that left the store stopped or not: where it is and that was not reported, it now is, by one line; else
-- nothing is done.
abbrev pub ReportsStop : {E : Type 0} → (E → List ℕ → Result (Unit {0}) Error → E → Type 0) → Bool → Bool → E → Bool → E
    → Type 0
ReportsStop writes false true err reported' err' =
    (reported' ≡ true) × (written : Result (Unit {0}) Error) × writes err stopped_line written err'
ReportsStop writes false false err reported' err' = (reported' ≡ false) × (err' ≡ err)
ReportsStop writes true stopped err reported' err' = (reported' ≡ true) × (err' ≡ err)

module _ {V E : Type 0} (turns : V → Result (Unit {0}) Error → V → Type 0) (stops : V → Bool → Type 0)
    (writes : E → List ℕ → Result (Unit {0}) Error → E → Type 0) where
  -- so many turns that did not fail, one after the other, after each of which it was reported that the store has
  -- stopped, if it has, unless that was reported
  pub data TakesTurns (first : V) (err : E) : ℕ → V → Bool → E → Type 0 where
    None : TakesTurns first err 0 first false err
    More : (count : ℕ) (before after : V) (reported stopped reported' : Bool) (done : Unit {0})
        (reported_so_far reported_now : E) → TakesTurns first err count before reported reported_so_far
        → turns before (Ok done) after → stops after stopped
        → ReportsStop writes reported stopped reported_so_far reported' reported_now
        → TakesTurns first err (count + 1) after reported' reported_now

  -- turns until one fails, with its fault, or until as many were taken as are counted; nothing is done behind them
  abbrev pub EndsTurns : V → E → Result (Unit {0}) Fault → V → E → Type 0
  EndsTurns first err (Err fault) last err' =
      (count : ℕ) × (before : V) × (reported : Bool) × TakesTurns first err count before reported err'
      × Calls Poll (turns before) (Err fault) last
  EndsTurns first err (Ok done) last err' = (reported : Bool) × TakesTurns first err (2 ^ 64 - 1) last reported err'

-- What is done with a server: the address that it has is printed, and turns are taken until one fails, or all that are
-- counted were taken.
abbrev pub RunsServer : {V H O E : Type 0} → Turns V H → Lines O → Lines E → V → O → E → Step (Unit {0}) (V × O × E)
RunsServer server out err first old_out old_err =
    Try (Reports (λ _ fault. fault ≡ Listen) (λ at left. server.is_at first at × (left ≡ first)))
    (λ _. (first, old_out, old_err)) λ address _.
    Try (Calls File (Prints out.writes (listening_line address) old_out)) (λ printed. (first, printed, old_err))
    λ _ printed result new.
    EndsTurns server.turns server.stops err.writes first old_err result new.0 new.2 × (new.1 ≡ printed)

module _ {F P D V : Type 0} {g : Ghosts D} (files : DataFiles F D) (ports : Ports P (Hub D g) V) where
  -- opening a store on a device, and listening for its hub; where that fails, how the device then is
  abbrev pub ListensOver : SocketAddr → D → P → Step V (D × P)
  ListensOver address dev port =
      Try (Reports (λ unopened fault. fault ≡ of_log unopened.fault) (Starts dev)) (λ after. (after, port))
      λ hub after result new.
      Reports (λ unserved. IsReportedAs unserved.error Listen) (ports.listens port address hub) result new.1
      × (new.0 ≡ after)

  -- Opening a file of this name, and listening at the address that a text spells. Where no server comes of the file, it
  -- is closed as it then is.
  abbrev pub Opening : List ℕ → List ℕ → F → P → Step V (F × P)
  Opening name listen old port =
      Try (ReadsAddress listen) (λ _. (old, port)) λ address _.
      Try (Calls File (files.opens old name)) (λ opened. (opened, port)) λ dev opened result new.
      (after : D) × ListensOver address dev port result (after, new.1)
      × MatchResult result (λ _. new.0 ≡ opened) (λ _. files.closes opened after new.0)

  module _ {O E : Type 0} (server : Turns V (Hub D g)) (out : Lines O) (err : Lines E) where
    -- Serving: a file is opened and an address listened at, the server runs, and once that has ended, the hub is taken
    -- back and the file closed as the hub left it. Nothing is done behind it.
    abbrev pub EndsServing : List ℕ → List ℕ → Environment F P O E → Step (Unit {0}) (Environment F P O E)
    EndsServing name listen old =
        Try (Opening name listen old.files old.ports) (λ left. record old { files = left.0; ports = left.1 })
        λ first opened result new.
        (last : V) × (hub : Hub D g) × RunsServer server out err first old.out old.err result (last, new.out, new.err)
        × server.gives_back last hub × files.closes opened.0 (device hub) new.files
        × (new ≡ record old { files = new.files; ports = opened.1; out = new.out; err = new.err })
