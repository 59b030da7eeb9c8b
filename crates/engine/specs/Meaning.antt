-- What a call of the engine does to the states of the machine that it stands for.
use Rattle.engine.specs.declared.faults.ReadFault.TheVariants as reads
use Rattle.std.specs.Borrow.{Bor}
use Rattle.std.specs.List.{AllByRecursion, list_any}
use Rattle.std.specs.Prelude.{◌≡◌, ◌↔◌, ◌⊎◌, ℕ, ◌+◌, ◌-◌, ◌*◌, ◌^◌, min, Bool, true, false, ◌||◌, nat_lt, ◌==◌, ◌≤◌}
use Rattle.std.specs.Prelude.{Option, Some, None, option_copied, Result, Ok, Err, IsTrue, IsFalse, List, [], ◌∷◌, map}
use Rattle.std.specs.Prelude.{length}
use Rattle.model.specs.KeyBytes.{key_bytes}
use Rattle.model.specs.Leading.{LeadsBy}
use Rattle.model.specs.Machine.{State, Running, running_of, last, snapshot, step}
use Rattle.model.specs.Map.{Bytes, KeyWrite}
use Rattle.model.specs.Operations.{Operation, Response}
use Rattle.model.specs.Operations.Operation.{Commit, Get}
use Rattle.model.specs.Operations.Response.{Refused, Value, Pairs}
use Rattle.model.specs.PrivateCopy.{PrivateCopy, copy_of, copy_after, writes, is_written, is_same_mark}
use Rattle.model.specs.PrivateCopy.Mark.{OfKey}
use Rattle.model.specs.declared.keys.KeyRef.{KeyRef}
use Rattle.model.specs.declared.ranges.RangeRef.{RangeRef}
use Rattle.model.specs.declared.refusals.Refusal.TheVariants.{NotOpen, FullMarks}
use Rattle.sector.specs.SectorModel.{LeavesOnly}
use Rattle.sector.specs.declared.device.Sectors.{Ghosts}
use Rattle.commit_log.specs.LogState.{failure_count, record_count, log_device, is_log_stopped}
use Rattle.commit_log.specs.declared.log.Log.{Log}
use Rattle.versions.specs.Chains.{ChainsValue}
use Rattle.merging_runs.specs.AtRest.{AreAtRest}
use Rattle.snapshot.specs.Made.{is_refused, range_read}
use Rattle.snapshot.specs.RowPairs.{row_pairs}
use Rattle.snapshot.specs.View.{View}
use Rattle.snapshot.specs.declared.rows.Rows.{Rows}
use Rattle.pivot_check.specs.FewKept.{AreOfKeys, KeepsLittle}
use Rattle.pivot_check.specs.Kept.{Facts, CommittedValue, HasForgotten}
use Rattle.engine.specs.Changes.{entry_of, AddsOneAtMost}
use Rattle.engine.specs.Recovery.{HoldsMap, committed_map}
pub use Rattle.engine.specs.StandsFor.{Represents, StandsFor}
use Rattle.engine.specs.declared.engine.Engine.{Engine}
use Rattle.engine.specs.declared.engine.TheConstants.{OPEN_MAX}
use Rattle.engine.specs.declared.faults.EngineFault.{EngineFault}
use Rattle.engine.specs.declared.faults.EngineFault.TheVariants.{Refused as Refusing, Memory}
use Rattle.engine.specs.declared.faults.ReadFault.{ReadFault}

-- the log
abbrev pub log_of : {D : Type 0} {g : Ghosts D} → Engine D g → Log D g
log_of e = e.log

-- the versions that are kept, and what is kept to check later commits
abbrev pub versions_of : {D : Type 0} {g : Ghosts D} → Engine D g → ChainsValue
versions_of e = e.history.versions

abbrev pub committed_of : {D : Type 0} {g : Ghosts D} → Engine D g → CommittedValue
committed_of e = e.history.committed

abbrev pub facts_of : {D : Type 0} {g : Ghosts D} → Engine D g → Facts
facts_of e = e.history.committed.facts

-- how many pages its ranges have looked at
abbrev pub pages_looked_at : {D : Type 0} {g : Ghosts D} → Engine D g → ℕ
pages_looked_at e = e.pages_looked_at

-- the device, how many of its calls have failed, and whether one failed in a commit
abbrev pub device_of : {D : Type 0} {g : Ghosts D} → Engine D g → D
device_of e = log_device e.log

abbrev pub failures_of : {D : Type 0} {g : Ghosts D} → Engine D g → ℕ
failures_of e = failure_count e.log

abbrev pub has_engine_stopped : {D : Type 0} {g : Ghosts D} → Engine D g → Bool
has_engine_stopped e = is_log_stopped e.log

-- whether a count of failures rose, or could rise no more
abbrev pub has_risen : ℕ → ℕ → Bool
has_risen before now = nat_lt before now || (before == 2 ^ 64 - 1)

-- a call of the device failed between the two
abbrev pub has_failed : {D : Type 0} {g : Ghosts D} → Engine D g → Engine D g → Bool
has_failed old new = has_risen (failures_of old) (failures_of new)

-- the new engine has exactly the states that the old one had, and keeps little where the old one did
abbrev pub StandsForSame : {D : Type 0} {g : Ghosts D} → Engine D g → Engine D g → Type 0
StandsForSame old new =
    ((m : State) → Represents old m ↔ Represents new m)
    × (KeepsLittle (committed_of old) → KeepsLittle (committed_of new))

-- the machine refuses the request in no state that the engine stands for, the device's failure aside
abbrev pub IsNotRefused : {D : Type 0} {g : Ghosts D} → Engine D g → ℕ → Operation → Type 0
IsNotRefused e s q = (m : State) → StandsFor e m → IsFalse (is_refused (step m s q false).1)

-- from every state that the old engine stood for to the machine's next one, with the machine's response; where memory
-- was refused, there is no response, the machine's would have been no refusal, and the states are as they were
abbrev pub Leads : {D : Type 0} {g : Ghosts D} → Engine D g → Engine D g → ℕ → Operation → Bool → Option Response
    → Type 0
Leads old new s q failed (Some response) = LeadsBy StandsFor old new (λ m n. step m s q failed ≡ (n, response))
Leads old new s q failed None = StandsForSame old new × IsNotRefused old s q

-- the response that a result says, and nothing where memory was refused
abbrev pub response_to : {T : Type 0} → (T → Response) → Result T EngineFault → Option Response
response_to f (Ok x) = Some (f x)
response_to f (Err (Refusing refusal)) = Some (Refused refusal)
response_to f (Err Memory) = None

-- the same of a read
abbrev pub response_to_read : {T : Type 0} → (T → Response) → Result T ReadFault → Option Response
response_to_read f (Ok x) = Some (f x)
response_to_read f (Err reads.NotOpen) = Some (Refused NotOpen)
response_to_read f (Err reads.FullMarks) = Some (Refused FullMarks)
response_to_read f (Err reads.Memory) = None

-- the pages that a range has looked at are counted, up to 2^64 - 1
abbrev pub CountsPages : {D : Type 0} {g : Ghosts D} → Engine D g → Engine D g → ℕ → Type 0
CountsPages old new pages = pages_looked_at new ≡ min (pages_looked_at old + pages) (2 ^ 64 - 1)

-- where a GET and a RANGE lead, which leave the log and its device alone; a RANGE doesn't count its pages yet
abbrev pub GetLeads : {D : Type 0} {g : Ghosts D} → Engine D g → Engine D g → ℕ → KeyRef
    → Result (Option (Bor Bytes)) ReadFault → Type 0
GetLeads old new s key result =
    Leads old new s (Get (key_bytes key)) false (response_to_read (λ v. Value (option_copied v)) result)
    × (log_of new ≡ log_of old)

abbrev pub RangeLeads : {D : Type 0} {g : Ghosts D} → Engine D g → Engine D g → ℕ → RangeRef → ℕ → Result Rows ReadFault
    → Type 0
RangeLeads old new s r limit result =
    Leads old new s (range_read r limit) false (response_to_read (λ rows. Pairs (row_pairs rows)) result)
    × (log_of new ≡ log_of old)
    × (pages_looked_at new ≡ pages_looked_at old)

-- so it is of the session's open transaction, if it has one
abbrev pub WhereOpen : {D : Type 0} {g : Ghosts D} → Engine D g → ℕ → (State → Running → Type 0) → Type 0
WhereOpen e s P = (m : State) → StandsFor e m → (t : Running) → running_of m s ≡ Some t → P m t

-- the session's private copy
abbrev pub copy_in : State → Running → PrivateCopy
copy_in m t = copy_after (copy_of (snapshot m t)) t.requests

-- the transaction has written the key, or has its mark
abbrev pub IsKnownKey : State → Running → Bytes → Type 0
IsKnownKey m t k = IsTrue (is_written (copy_in m t) k || list_any (is_same_mark (OfKey k)) (copy_in m t).marks)

-- the session's open transaction, if it has one, has written nothing
abbrev pub IsReadOnly : State → ℕ → Type 0
IsReadOnly m s = (t : Running) → running_of m s ≡ Some t → writes (snapshot m t) t.requests ≡ []

-- has the session's open transaction, if it has one, written a key?
abbrev pub has_any : List KeyWrite → Bool
has_any [] = false
has_any (w ∷ ws) = true

abbrev pub has_writes : Option View → Bool
has_writes None = false
has_writes (Some t) = has_any t.writes

abbrev pub has_engine_written : {D : Type 0} {g : Ghosts D} → Engine D g → ℕ → Bool
has_engine_written e s = has_writes (entry_of s e)

-- how many records its log has
abbrev pub engine_records : {D : Type 0} {g : Ghosts D} → Engine D g → ℕ
engine_records e = record_count e.log

-- the begin numbers of the open transactions
abbrev pub open_begins : State → List ℕ
open_begins m = map (λ e. e.1.begin) m.running

-- few postings are kept where all are of these written keys, and nothing is left to do for the runs
abbrev pub KeepsFewPostings : CommittedValue → List Bytes → Type 0
KeepsFewPostings v keys =
    AreOfKeys keys v.facts.postings → AreAtRest v.facts.reach.begins v.facts.oldest v.contents.sizes
    → length v.facts.postings ≤ 2 * ((2 * OPEN_MAX + 2) * length keys) * (2 * OPEN_MAX + 1)

-- commits that no open transaction may be concurrent with are forgotten
abbrev pub HasForgottenOld : State → Facts → Type 0
HasForgottenOld m f = (n : ℕ) → n ≤ last m → AllByRecursion (λ e. n ≤ e.1.begin) m.running → HasForgotten n f

-- the engine stands for each state that it stood for, over the same log and device: so it may keep less
pub record KeepsStates {D : Type 0} {g : Ghosts D} (old new : Engine D g) : Type 0 where
  pub stands : (m : State) → StandsFor old m → StandsFor new m
  pub log : log_of new ≡ log_of old

-- a crash leaves the map of all that has committed
abbrev pub IsDurable : {D : Type 0} {g : Ghosts D} → Engine D g → Type 0
IsDurable {g = g} e = (m : State) → StandsFor e m → (c : List (List ℕ)) → g.may_leave (device_of e) c
    → HoldsMap c (committed_map m)

-- what a crash may leave at a moment of a COMMIT: the map committed before it, or that with the transaction's writes;
-- of a store that was stopped, what it could have left before
abbrev pub IsLeftByCommit : {D : Type 0} {g : Ghosts D} → Engine D g → State → ℕ → List (List ℕ) → Type 0
IsLeftByCommit {g = g} old m s c =
    ((m.stopped ≡ false) × (HoldsMap c (committed_map m) ⊎ HoldsMap c (committed_map (step m s Commit false).0)))
    ⊎ ((m.stopped ≡ true) × g.may_leave (device_of old) c)

-- a crash at any moment of the session's COMMIT leaves that
abbrev pub SurvivesCommit : {D : Type 0} {g : Ghosts D} → Engine D g → Engine D g → ℕ → Type 0
SurvivesCommit {g = g} old new s =
    g.keeps_model → (m : State) → StandsFor old m
    → LeavesOnly g.moment g.left_since (device_of old) (device_of new) (IsLeftByCommit old m s)

-- A COMMIT adds one record to the log at most, and only in more sectors. Where nothing was written, the log and its
-- device are left alone.
pub record Appends {D : Type 0} {g : Ghosts D} (old new : Engine D g) (s : ℕ) : Type 0 where
  pub once : AddsOneAtMost (log_of old) (log_of new)
  pub read_only : (m : State) → StandsFor old m → IsReadOnly m s → log_of new ≡ log_of old
