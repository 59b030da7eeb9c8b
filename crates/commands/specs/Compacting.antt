-- What copying a data file does, call by call, over whatever opens and makes files and takes lines, and how large a
-- copy is made.
use Rattle.std.specs.Prelude.{◌≡◌, ◌⊎◌, ◌||◌, ◌^◌, ℕ, List, max, Bool, true, false, Option, unwrap_or, Result, Ok}
use Rattle.std.specs.Prelude.{Err, MatchResult, OnOk, IfErr, nat_le, nat_lt, if◌then◌else◌}
use Rattle.std.specs.declared.io.Error.{Error}
use Rattle.model.specs.Map.{KeyMap}
use Rattle.sector.specs.SectorModel.{LeavesOnly}
use Rattle.sector.specs.declared.device.Sectors.{Ghosts}
use Rattle.commit_log.specs.Copying.{write_sets_of, copy_size, IsCopyFault}
use Rattle.commit_log.specs.LogFaults.{IsDeviceOrMemory, IsReadMapFault}
use Rattle.commit_log.specs.LogState.{HoldsLog}
use Rattle.commit_log.specs.MapReading.{IsMapOf, IsMapRefusal}
use Rattle.commit_log.specs.Opening.{MightHold}
use Rattle.commit_log.specs.Reading.{FaultIs}
use Rattle.commit_log.specs.declared.faults.LogFault.{LogFault}
use Rattle.commit_log.specs.declared.faults.LogFault.TheVariants.{Full}
use Rattle.commands.specs.LogCounts.{log_line}
use Rattle.commands.specs.Notices.{copying_line}
use Rattle.commands.specs.Steps.{Calls, CallsLog, Yields, Step, Try}
use Rattle.commands.specs.declared.faults.Fault.{Fault}
use Rattle.commands.specs.declared.faults.Fault.TheVariants.{File, LogFull}
use Rattle.commands.specs.declared.system.Environment.{Environment}
use Rattle.commands.specs.declared.system.DataFiles.{Ghosts as DataFiles}
use Rattle.commands.specs.declared.system.Lines.{Ghosts as Lines}

-- How many sectors a copy is given, over an old device of so many, where so many were asked for and the map needs so
-- many: none, and `LogFull`, where the map needs more than were asked for, or than a number can count.
abbrev pub copy_count : ℕ → Option ℕ → ℕ → Result ℕ Fault
copy_count old requested needed =
    if nat_lt (unwrap_or requested needed) needed || nat_le (2 ^ 64) needed then Err LogFull
    else Ok (max old (unwrap_or requested needed))

-- What reading the map of the log on a device came to, by an image that the device might have held. During it a crash
-- leaves what one before it could have left.
pub record ReadsMap {D : Type 0} (g : Ghosts D) (device : D) (result : Result (KeyMap × ℕ) LogFault) (after : D) : Type
    0 where
  pub fault : FaultIs (g.failures device) (g.failures after) result
  pub alone : IfErr result IsReadMapFault
  pub found : g.keeps_model → MatchResult result (λ r. MightHold g device (λ image. IsMapOf image r.0 r.1))
      (λ f. IsDeviceOrMemory f ⊎ MightHold g device (λ image. IsMapRefusal image f))
  pub during : g.keeps_model → LeavesOnly g.moment g.left_since device after (g.may_leave device)

-- what copying a map to a device with room for its log came to
pub record CopiesMap {D : Type 0} (g : Ghosts D) (device : D) (map : KeyMap) (result : Result (Unit {0}) LogFault)
    (after : D) : Type 0 where
  pub fault : FaultIs (g.failures device) (g.failures after) result
  pub alone : IfErr result (λ f. IsCopyFault f × (f ≡ Full → ⊥))
  pub copied : g.keeps_model → OnOk result (HoldsLog g after (write_sets_of map))

-- copying a map to a device, and printing the line of the copy
abbrev pub Copies : {D O : Type 0} → Ghosts D → Lines O → D → KeyMap → O → Step (Unit {0}) (D × O)
Copies g out device map old =
    Try (CallsLog (CopiesMap g device map)) (λ after. (after, old)) λ _ after result new.
    Calls File (out.writes old (log_line (write_sets_of map) (g.size device))) result new.1 × (new.0 ≡ after)

-- where the error output is a terminal, one line may say there that the copy is being written
abbrev pub MayReport : {E : Type 0} → Lines E → Bool → E → E → Type 0
MayReport err false old new = new ≡ old
MayReport err true old new =
    (new ≡ old) ⊎ ((outcome : Result (Unit {0}) Error) × err.writes old copying_line outcome new)

module _ {F D : Type 0} (g : Ghosts D) (files : DataFiles F D) where
  -- Reading a data file: it is opened to be read alone, its map is read, and it is closed. The map comes with the
  -- file's number of sectors.
  abbrev pub ReadsFile : List ℕ → F → Step (KeyMap × ℕ) F
  ReadsFile name old =
      Try (Calls File (files.reads old name)) (λ opened. opened) λ device opened result new.
      (after : D)
      × Try (CallsLog (ReadsMap g device)) (λ left. left) (λ found. Yields (Ok (found.0, g.size device))) result after
      × files.closes opened after new

  module _ {P O E : Type 0} (out : Lines O) (err : Lines E) where
    -- Copying a data file: the old one is read, and then the new one is made, with so many sectors that the map has
    -- room, written, and closed.
    abbrev pub Compacting : List ℕ → List ℕ → Option ℕ → Environment F P O E → Step (Unit {0}) (Environment F P O E)
    Compacting from to requested old =
        Try (ReadsFile from old.files) (λ read. record old { files = read }) λ found read.
        Try (Yields (copy_count found.1 requested (copy_size found.0)) read) (λ read. record old { files = read })
        λ count read.
        Try (Calls File (files.makes read to count)) (λ made. record old { files = made }) λ device made result new.
        (copied : D) × MayReport err old.is_terminal old.err new.err
        × Copies g out device found.0 old.out result (copied, new.out) × files.closes made copied new.files
        × (new ≡ record old { files = new.files; out = new.out; err = new.err })
