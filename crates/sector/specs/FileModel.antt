-- The premise that files keep the sector model, over the open facts of a file and the calls that were really made of
-- it.
--
-- What breaks it on Linux: after a sync that failed, ext4 and xfs keep the new content of a page in memory and take the
-- page for written. The next sync succeeds and settles nothing of it (`SyncKeeps.settles`), and reads give what a power
-- cut won't leave (Rebello and others, Can Applications Recover from fsync Failures?, USENIX ATC 2020). So an opening
-- asks the system to drop its copies after its first sync.
use Rattle.std.specs.Prelude.{◌≡◌, ℕ, ◌*◌, ◌/◌, ◌≤◌, Bool, true, List, length, replicate}
use Rattle.file_calls.specs.HappenedCalls.{WasRead, WasWritten, WasSynced}
use Rattle.file_calls.specs.OpenFacts.{may_read, may_leave, moment, left_since, file_after_call}
use Rattle.file_calls.specs.declared.counted.CountedFile.{CountedFile}
use Rattle.sector.specs.SectorModel.{FollowsBytes, IsSettled, LeavesNoMore, MightRead, ReadsBytes, ReadsNoMore}
use Rattle.sector.specs.SectorModel.{ReadsNoMoreOutside, Settles, TimeGoesOn}

-- time went on in a call, and a crash within it leaves what one after it may
abbrev pub TimeKeeps : CountedFile → CountedFile → Type 0
TimeKeeps old new = TimeGoesOn moment left_since old new (may_leave new)

-- a read of whole sectors gave what might be read, and changed nothing
pub record ReadKeeps (f : CountedFile) (at : ℕ) (bytes : List ℕ) (ok : Bool) : Type 0 where
  pub gives : ok ≡ true → MightRead (may_read f) at (length bytes / 512) bytes
  pub reads : ReadsNoMore (may_read f) (may_read (file_after_call f))
  pub crash : LeavesNoMore (may_leave f) (may_leave (file_after_call f))
  pub time : TimeKeeps f (file_after_call f)

-- a write of whole sectors changed no other, and where it succeeded reads give what was written
pub record WriteKeeps (f : CountedFile) (at : ℕ) (bytes : List ℕ) (ok : Bool) : Type 0 where
  pub written : ok ≡ true → ReadsBytes (may_read (file_after_call f)) at bytes
  pub others : ReadsNoMoreOutside at (length bytes / 512) (may_read f) (may_read (file_after_call f))
  pub crash : LeavesNoMore (FollowsBytes at bytes (may_leave f)) (may_leave (file_after_call f))
  pub time : TimeKeeps f (file_after_call f)

-- a sync changed nothing, and where it succeeded it settled every sector
pub record SyncKeeps (f : CountedFile) (ok : Bool) : Type 0 where
  pub settles : ok ≡ true → Settles f.sectors (may_read f) (may_read (file_after_call f)) (may_leave f)
      (may_leave (file_after_call f))
  pub reads : ReadsNoMore (may_read f) (may_read (file_after_call f))
  pub crash : LeavesNoMore (may_leave f) (may_leave (file_after_call f))
  pub time : TimeKeeps f (file_after_call f)

-- reads give so many sectors of zeros, and a crash leaves nothing else
abbrev pub HoldsZeros : ℕ → CountedFile → Type 0
HoldsZeros count f = IsSettled count (may_read f) (may_leave f) (replicate count (replicate 512 0))

-- Each call that runs of the program really made of a file kept the sector model, and a crash leaves what the model
-- says. It is neither claimed nor denied: what is read and left of a file, and which calls were made, is open.
pub record FileKeepsModel : Type 0 where
  pub reads : (f : CountedFile) (at : ℕ) (bytes : List ℕ) (ok : Bool) → WasRead f (at * 512) bytes ok
      → ReadKeeps f at bytes ok
  pub writes : (f : CountedFile) (at : ℕ) (bytes : List ℕ) (ok : Bool) → WasWritten f (at * 512) bytes ok
      → WriteKeeps f at bytes ok
  pub syncs : (f : CountedFile) (ok : Bool) → WasSynced f ok → SyncKeeps f ok
  pub leaves_all : (f : CountedFile) (c : List (List ℕ)) → may_leave f c → length c ≡ f.sectors
  pub counts_now : (f : CountedFile) (t : ℕ) (c : List (List ℕ)) → t ≤ moment f → may_leave f c → left_since f t c
  pub only_now : (f : CountedFile) (c : List (List ℕ)) → left_since f (moment f) c → may_leave f c
