-- The last reader of each key, by commit number.
use Rattle.std.specs.List.{list_any}
use Rattle.std.specs.Prelude.{◌≡◌, ℕ, ◌<◌, ◌≤◌, ◌+◌, max, nat_lt, Bool, true, All, List, [], ◌∷◌, length, Option}
use Rattle.std.specs.Prelude.{Some, None, IsSome, if◌then◌else◌}
use Rattle.model.specs.Map.{Bytes}
use Rattle.model.specs.PrivateCopy.{Mark, is_covered}
use Rattle.merging_runs.specs.Contents.{Contents, garbage_upto}
use Rattle.merging_runs.specs.RunSizes.{RunSize, IsMoved, moves_for, with_run}
use Rattle.last_readers.specs.Steps.{StepValue, RunValue, cut, is_named_in, is_run_from, number_at, number_in}

-- what is kept: numbers by key in several runs, some of which may be being made of two, those up to `oldest` counting
-- as none
pub record Readers : Type 0 where
  pub runs : List RunValue
  pub oldest : ℕ

-- the memory that was made ready: free places for runs, and the steps of the marks of one transaction
pub record ReadersRoom : Type 0 where
  pub places : ℕ
  pub ready : Option (List StepValue)

pub record LastReadersValue : Type 0 where
  pub readers : Readers
  pub room : ReadersRoom
  pub contents : Contents
  pub runs : List RunSize
  pub refused : ℕ

-- how much garbage the runs hold: what is to be freed, or looked at, as its numbers are forgotten
abbrev pub garbage_of_readers : LastReadersValue → ℕ
garbage_of_readers v = garbage_upto v.readers.oldest v.contents

-- the greatest number that a run has at the key
abbrev pub greatest_at : List RunValue → Bytes → ℕ
greatest_at [] k = 0
greatest_at (r ∷ rs) k = max (number_in r k) (greatest_at rs k)

-- the greatest numbers are those of the old runs and of one run more
abbrev pub IsWithRun : List RunValue → List RunValue → RunValue → Type 0
IsWithRun new old r = (k : Bytes) → greatest_at new k ≡ max (greatest_at old k) (number_in r k)

-- the number of the last commit after number `oldest` that read the key, 0 where none did
abbrev pub last_reader : Readers → Bytes → ℕ
last_reader r k = cut r.oldest (greatest_at r.runs k)

-- the number, where it is above that of the begin
abbrev pub if_after : ℕ → ℕ → Option ℕ
if_after begin n = if nat_lt begin n then Some n else None

-- each key has the last reader that it had, and the same numbers are forgotten
pub record AnswerAlike (old new : Readers) : Type 0 where
  pub readers : (k : Bytes) → last_reader new k ≡ last_reader old k
  pub oldest : new.oldest ≡ old.oldest

-- no last reader has a number above n
abbrev pub AreUpto : ℕ → Readers → Type 0
AreUpto n r = (k : Bytes) → last_reader r k ≤ n

-- number n has read the keys that the marks cover; the others have the last readers that they had
abbrev pub IsNoted : List Mark → ℕ → Readers → Readers → Type 0
IsNoted marks n old new = (k : Bytes) → last_reader new k ≡ (if is_covered marks k then n else last_reader old k)

-- the last readers up to that number are forgotten
abbrev pub IsForgotten : ℕ → Readers → Readers → Type 0
IsForgotten oldest old new = (k : Bytes) → last_reader new k ≡ cut oldest (last_reader old k)

-- no step of the runs names a number up to that one, but for 0, which is nobody
abbrev pub NameNoneUpto : ℕ → Readers → Type 0
NameNoneUpto oldest r = All (λ (run : RunValue). is_run_from (oldest + 1) run ≡ true) r.runs

-- whether some step names the number
abbrev pub is_named_reader : Readers → ℕ → Bool
is_named_reader r n = list_any (λ run. is_named_in run n) r.runs

-- some marks can be noted
pub record HasSomeReadersRoom (room : ReadersRoom) : Type 0 where
  pub place : 0 < room.places
  pub some : IsSome room.ready

-- 1 at the keys that were made ready, 0 at the others
abbrev pub ready_at : Option (List StepValue) → Bytes → ℕ
ready_at None k = 0
ready_at (Some ss) k = number_at ss k

-- these marks can be noted
pub record HasReadersRoom (marks : List Mark) (room : ReadersRoom) : Type 0 where
  pub ready : HasSomeReadersRoom room
  pub covers : (k : Bytes) → ready_at room.ready k ≡ (if is_covered marks k then 1 else 0)

abbrev pub ready_len : Option (List StepValue) → ℕ
ready_len None = 0
ready_len (Some ss) = length ss

-- The steps that were made ready came with number n as a run, and the merges under way were moved on; a move takes one
-- step, or two of one key. Of those that had ended memory was released. No merge was begun, so no memory for one was
-- refused.
abbrev pub AddsRunAndMerges : ℕ → LastReadersValue → LastReadersValue → Type 0
AddsRunAndMerges n old new =
    let count = ready_len old.room.ready in
    IsMoved 2 new.readers.oldest (moves_for count) (with_run n count old.runs) new.runs × (new.refused ≡ old.refused)

-- the steps that were made ready, so many, came with number n as a run; no memory for a merge was refused
pub record AddsRun (n count : ℕ) (old new : LastReadersValue) : Type 0 where
  pub ready : count ≡ ready_len old.room.ready
  pub runs : new.runs ≡ with_run n count old.runs
  pub refused : new.refused ≡ old.refused
