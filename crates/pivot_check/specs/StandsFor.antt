-- The histories for which what is kept stands, and what the check of a commit says about them.
use Rattle.model.specs.declared.refusals.Refusal.TheVariants as refusal
use Rattle.std.specs.List.{list_any, filter}
use Rattle.std.specs.Prelude.{◌≡◌, ℕ, ◌<◌, ◌+◌, Bool, true, false, ◌&&◌, List, [], ◌∷◌, ◌++◌, Option, Some, None, map}
use Rattle.std.specs.Prelude.{◌≤◌, max, nat_le, nat_lt, if◌then◌else◌, length, All, slice_get, ⊤, ◌↔◌}
use Rattle.model.specs.Dependency.{concurrent_read_write}
use Rattle.model.specs.History.{Record, IsNumberedFrom}
use Rattle.model.specs.Map.{Bytes, KeyWrite}
use Rattle.model.specs.PrivateCopy.{is_covered}
use Rattle.model.specs.Verdict.{verdict, HasNoDangerousPivot}
use Rattle.model.specs.declared.refusals.Refusal.{Refusal}
use Rattle.last_readers.specs.Readers.{last_reader}
use Rattle.last_readers.specs.Steps.{cut}
use Rattle.snapshot.specs.View.{View}
use Rattle.pivot_check.specs.Kept.{KeptRecord, Facts, IsInReach, Reach, keys_of, may_ask}
use Rattle.pivot_check.specs.Postings.{AnswerAs, Posting, postings_by}
use Rattle.pivot_check.specs.declared.verdict.Cleared.{Cleared}
use Rattle.pivot_check.specs.declared.verdict.Verdict.{Verdict}
use Rattle.pivot_check.specs.declared.verdict.Verdict.TheVariants.{Clear, Overwritten, PivotSelf, Pivot}

-- what is kept of a record of the history, the whole of which decides its flag
abbrev pub kept_of : List Record → Record → KeptRecord
kept_of history r = record {
  begin = r.begin;
  commit = r.commit;
  marks = r.reads;
  keys = keys_of r.writes;
  has_earlier_target = list_any (λ y. concurrent_read_write r y && nat_lt y.commit r.commit) history;
}

-- what is kept of the history: its records with a commit number above `oldest`
abbrev pub kept_above : ℕ → List Record → List KeptRecord
kept_above oldest history = map (kept_of history) (filter (λ r. nat_lt oldest r.commit) history)

-- the greatest commit number of the records that pass, 0 where none does
abbrev pub greatest : (Record → Bool) → List Record → ℕ
greatest p [] = 0
greatest p (r ∷ rs) = max (if p r then r.commit else 0) (greatest p rs)

-- the commit number of the last record of the history that has read the key
abbrev pub last_reader_in : List Record → Bytes → ℕ
last_reader_in history k = greatest (λ r. is_covered r.reads k) history

-- above that number the last readers are those of the history
abbrev pub AreReaders : ℕ → (Bytes → ℕ) → List Record → Type 0
AreReaders oldest readers history = (k : Bytes) → readers k ≡ cut oldest (last_reader_in history k)

abbrev pub postings_of : KeptRecord → List Posting
postings_of r = postings_by r.commit r.has_earlier_target r.keys

abbrev pub all_postings : List KeptRecord → List Posting
all_postings [] = []
all_postings (r ∷ rs) = postings_of r ++ all_postings rs

-- whoever may ask that didn't begin before that number, the postings answer as the records' own do
abbrev pub AreWriters : Reach → ℕ → List Posting → List KeptRecord → Type 0
AreWriters reach oldest ps rs = AnswerAs (λ b. nat_le oldest b && may_ask reach b) ps (all_postings rs)

-- what is kept stands for the history
pub record StandsFor (f : Facts) (history : List Record) : Type 0 where
  pub numbered : IsNumberedFrom 0 history
  pub begun : All (λ r. r.begin < r.commit) history
  pub no_pivot : HasNoDangerousPivot history
  pub last : f.last ≡ length history
  pub readers : AreReaders f.oldest (last_reader f.readers) history
  pub writers : AreWriters f.reach f.oldest f.postings (kept_above f.oldest history)
  -- one who begins now may ask
  pub now : f.reach.since ≤ f.last

-- the record of the transaction that commits as number n
pub record IsRecordOf (t : View) (n : ℕ) (r : Record) : Type 0 where
  pub begin : r.begin ≡ t.begin
  pub commit : r.commit ≡ n
  pub reads : r.reads ≡ t.marks
  pub writes : r.writes ≡ t.writes

-- what the answer says of the writes is the conflict
abbrev pub Says : Verdict → List KeyWrite → Option Refusal → Type 0
Says (Clear cleared) ws conflict = conflict ≡ None
Says (Overwritten i) ws conflict =
    (w : KeyWrite) × (slice_get ws i ≡ Some w) × (conflict ≡ Some (refusal.Overwritten w.0))
Says PivotSelf ws conflict = conflict ≡ Some refusal.PivotSelf
Says (Pivot n) ws conflict = conflict ≡ Some (refusal.Pivot n)

-- an overwritten key has a place among the writes
abbrev pub IsPlaced : Verdict → List KeyWrite → Type 0
IsPlaced (Overwritten i) ws = i < length ws
IsPlaced (Clear cleared) ws = ⊤
IsPlaced PivotSelf ws = ⊤
IsPlaced (Pivot n) ws = ⊤

-- what is answered where the transaction overwrites no concurrent commit: is it a dangerous pivot itself, which other
-- one is the first, and does it follow one that committed before it
abbrev pub verdict_found : Bool → Option ℕ → Bool → Verdict
verdict_found true other follows = PivotSelf
verdict_found false None follows = Clear (record { has_earlier_target = follows })
verdict_found false (Some n) follows = Pivot n

-- the answer is the verdict over each history that is stood for
abbrev pub IsVerdict : Facts → View → Verdict → Type 0
IsVerdict f t answer = (history : List Record) → StandsFor f history → (r : Record) → IsRecordOf t (f.last + 1) r
    → Says answer t.writes (verdict history r)

-- over each of them the transaction may commit
abbrev pub IsClear : Facts → View → Type 0
IsClear f t = (history : List Record) → StandsFor f history → (r : Record) → IsRecordOf t (f.last + 1) r
    → verdict history r ≡ None

-- a transaction in reach was cleared: over each of them it may commit, and has a read-write dependency to a concurrent
-- one where that is said
abbrev pub IsCleared : Facts → View → Cleared → Type 0
IsCleared f t cleared =
    IsInReach f t → (history : List Record) → StandsFor f history → (r : Record) → IsRecordOf t (f.last + 1) r
    → (verdict history r ≡ None) × (cleared.has_earlier_target ≡ list_any (concurrent_read_write r) history)

-- what clears it is its own
abbrev pub IsClearedBy : Facts → View → Verdict → Type 0
IsClearedBy f t (Clear cleared) = IsCleared f t cleared
IsClearedBy f t (Overwritten i) = ⊤
IsClearedBy f t PivotSelf = ⊤
IsClearedBy f t (Pivot n) = ⊤

-- what is kept stands for the same histories, with the same last commit number, and the same were forgotten
pub record StandForSame (old new : Facts) : Type 0 where
  pub stands : (history : List Record) → StandsFor old history ↔ StandsFor new history
  pub oldest : new.oldest ≡ old.oldest
  pub last : new.last ≡ old.last
  pub reach : new.reach ≡ old.reach

-- what the old facts stand for, the new ones stand for with the record of the transaction as number n
abbrev pub StandWithRecord : Facts → Facts → View → ℕ → Type 0
StandWithRecord old new t n =
    IsInReach old t → (h : List Record) → StandsFor old h → (r : Record) → IsRecordOf t n r
    → StandsFor new (h ++ r ∷ [])
