-- The own requests that a transaction has made, and how a call answers one more.
use Rattle.model.specs.declared.refusals.Refusal.TheVariants as refusal
use Rattle.std.specs.Borrow.{Bor}
use Rattle.std.specs.List.{list_any}
use Rattle.std.specs.Prelude.{◌≡◌, ◌≢◌, ◌↔◌, ◌||◌, ℕ, Bool, true, false, List, [], ◌∷◌, ◌++◌, Option, Result, Ok, Err}
use Rattle.std.specs.Prelude.{option_copied, IsFalse, IsOk, IsTrue}
use Rattle.model.specs.KeyBytes.{key_bytes, end_bytes}
use Rattle.model.specs.Map.{Bytes, KeyMap, IsMap, is_empty_range}
use Rattle.model.specs.Operations.{Operation, Response}
use Rattle.model.specs.Operations.Operation.{Get, Range}
use Rattle.model.specs.Operations.Response.{Done, Value, Refused}
use Rattle.model.specs.PrivateCopy.{PrivateCopy, copy_of, copy_after, is_same_mark, mark_asked}
use Rattle.model.specs.declared.ranges.RangeRef.{RangeRef}
use Rattle.versions.specs.Chains.{ChainsValue}
use Rattle.versions.specs.Meaning.{map_seen}
use Rattle.write_buffer.specs.Buffered.{AreEntries}
use Rattle.snapshot.specs.View.{View, copy_held, after_get}
use Rattle.snapshot.specs.declared.faults.SnapshotFault.{SnapshotFault}
use Rattle.snapshot.specs.declared.faults.SnapshotFault.TheVariants.{FullWrites, FullMarks, Memory}

-- the transaction stands where a private copy of m stands after the own requests qs
pub record HasMade (t : View) (m : KeyMap) (qs : List Operation) : Type 0 where
  pub is_map : IsMap m
  pub entries : AreEntries t.writes
  pub copy : copy_held t m ≡ copy_after (copy_of m) qs

-- so it is of each map m and own requests qs where the transaction has made qs over m
abbrev pub WhereMade : View → (KeyMap → List Operation → Type 0) → Type 0
WhereMade t P = (m : KeyMap) (qs : List Operation) → HasMade t m qs → P m qs

-- the same where m is the map that its begin number sees
abbrev pub WhereSeen : ChainsValue → View → (KeyMap → List Operation → Type 0) → Type 0
WhereSeen v t P = (m : KeyMap) (qs : List Operation) → map_seen v t.begin ≡ m → HasMade t m qs → P m qs

-- whatever own requests the transaction has made over the map m, it has now made one more
abbrev pub MakesOneMoreOver : KeyMap → View → View → Operation → Type 0
MakesOneMoreOver m old new q = (qs : List Operation) → HasMade old m qs → HasMade new m (qs ++ q ∷ [])

-- the same over any map
abbrev pub MakesOneMore : View → View → Operation → Type 0
MakesOneMore old new q = (m : KeyMap) → MakesOneMoreOver m old new q

abbrev pub is_refused : Response → Bool
is_refused (Refused r) = true
is_refused _ = false

-- the fault is the response, or memory was refused where the response is none
abbrev pub IsFault : SnapshotFault → Response → Type 0
IsFault FullWrites response = response ≡ Refused refusal.FullWrites
IsFault FullMarks response = response ≡ Refused refusal.FullMarks
IsFault Memory response = IsFalse (is_refused response)

-- the result is FullMarks exactly when b is true
abbrev pub IsFullWhen : {A : Type 0} → Result A SnapshotFault → Bool → Type 0
IsFullWhen {A} result b = (◌≡◌ {A = Result A SnapshotFault} result (Err FullMarks)) ↔ IsTrue b

-- a read's mark is refused as FullMarks exactly where there is no place for it, not at all where the transaction has
-- it, and never as FullWrites
pub record MarkFaults {A : Type 0} (result : Result A SnapshotFault) (is_full is_known : Bool) : Type 0 where
  pub full : IsFullWhen result is_full
  pub known : IsTrue is_known → IsOk result
  pub never : result ≢ Err FullWrites

abbrev pub IsValueReply : Result (Option (Bor Bytes)) SnapshotFault → Response → Type 0
IsValueReply (Ok v) response = response ≡ Value (option_copied v)
IsValueReply (Err e) response = IsFault e response

-- what a read of the key leaves
abbrev pub IsLeftByGet : View → Bytes → Result (Option (Bor Bytes)) SnapshotFault → View → Type 0
IsLeftByGet old k (Ok v) new = (new ≡ after_get old k) × MakesOneMore old new (Get k)
IsLeftByGet old k (Err e) new = new ≡ old

abbrev pub IsDoneReply : {A : Type 0} → Result A SnapshotFault → Response → Type 0
IsDoneReply (Ok v) response = response ≡ Done
IsDoneReply (Err e) response = IsFault e response

-- a read of the range needs no new mark: it is empty, or the copy has the mark that it asks for
abbrev pub IsKnownRange : PrivateCopy → RangeRef → ℕ → Type 0
IsKnownRange c r limit =
    IsTrue (is_empty_range (key_bytes r.lo) (end_bytes r.hi)
    || list_any (is_same_mark (mark_asked c (key_bytes r.lo) (end_bytes r.hi) limit)) c.marks)

-- the request that reads the range
abbrev pub range_read : RangeRef → ℕ → Operation
range_read r limit = Range (key_bytes r.lo) (end_bytes r.hi) limit
