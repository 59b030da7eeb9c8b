-- What is kept of committed transactions, so that a commit can be checked once older ones are forgotten.
use Rattle.std.specs.List.{list_any}
use Rattle.std.specs.Prelude.{◌≡◌, ℕ, ◌<◌, ◌≤◌, nat_le, nat_lt, Bool, true, false, ◌&&◌, ◌||◌, ◌==◌, List, [], ◌∷◌}
use Rattle.std.specs.Prelude.{Option, Some, None, find, option_map, map, max, ◌+◌, ◌-◌, if◌then◌else◌}
use Rattle.model.specs.Map.{Bytes, KeyWrite, is_same_key}
use Rattle.model.specs.PrivateCopy.{Mark, is_covered}
use Rattle.merging_runs.specs.Contents.{Contents, garbage_upto, freed_a_forget}
use Rattle.merging_runs.specs.Next.{count_upto}
use Rattle.merging_runs.specs.RunSizes.{LeavesMerges, RunSize}
use Rattle.last_readers.specs.Readers.{IsForgotten, NameNoneUpto, Readers, ReadersRoom, is_named_reader, last_reader}
use Rattle.last_readers.specs.Readers.{if_after, HasReadersRoom}
use Rattle.snapshot.specs.View.{View}
use Rattle.pivot_check.specs.Postings.{Posting, are_later}
pub use Rattle.pivot_check.specs.Reach.{Reach, may_ask}
use Rattle.pivot_check.specs.declared.run.WrittenRun.{WrittenRun}

-- what the check needs of a committed transaction: the marks of what it read, the keys that it wrote by rising key, and
-- whether it has a read-write dependency to a concurrent one that committed before it
pub record KeptRecord : Type 0 where
  pub begin : ℕ
  pub commit : ℕ
  pub marks : List Mark
  pub keys : List Bytes
  pub has_earlier_target : Bool

-- what is kept of committed transactions: of each key the last one that has read it, of those with a number above
-- `oldest`; of the keys that they wrote what those who may still ask are answered by, and perhaps some that older ones
-- wrote; and the last commit number
pub record Facts : Type 0 where
  pub readers : Readers
  pub postings : List Posting
  pub oldest : ℕ
  pub last : ℕ
  pub reach : Reach

-- the same, where whoever may ask began at one of these numbers, or begins now
abbrev pub asked_from : List ℕ → Facts → Facts
asked_from begins f = record f { reach = record { begins = begins; since = f.last } }

abbrev pub key_of : KeyWrite → Bytes
key_of w = w.0

abbrev pub keys_of : List KeyWrite → List Bytes
keys_of ws = map key_of ws

-- whether one of the records has written the key
abbrev pub is_key_written : List KeptRecord → Bytes → Bool
is_key_written rs k = list_any (λ r. list_any (is_same_key k) r.keys) rs

-- whether a read-write dependency leads from the concurrent record to the transaction that commits next
abbrev pub leads_to : KeptRecord → View → Bool
leads_to r t = list_any (is_covered r.marks) (keys_of t.writes)

-- whether one leads from that transaction to the concurrent record
abbrev pub follows : KeptRecord → View → Bool
follows r t = list_any (is_covered t.marks) r.keys

-- whether the concurrent record is a dangerous pivot once the transaction has committed
abbrev pub becomes_pivot : View → KeptRecord → Bool
becomes_pivot t r = follows r t && r.has_earlier_target

-- the first of two that may be there, else the other
abbrev pub first_of : {X : Type 0} → Option X → Option X → Option X
first_of None o = o
first_of (Some x) o = Some x

-- the commit number of the first record that passes
abbrev pub first_number : (KeptRecord → Bool) → List KeptRecord → Option ℕ
first_number p rs = option_map (λ r. r.commit) (find p rs)

-- the last element that passes
abbrev pub last_that : {X : Type 0} → (X → Bool) → List X → Option X
last_that p [] = None
last_that p (x ∷ xs) = first_of (last_that p xs) (if p x then Some x else None)

-- the commit number of the last record that passes
abbrev pub last_number : (KeptRecord → Bool) → List KeptRecord → Option ℕ
last_number p rs = option_map (λ r. r.commit) (last_that p rs)

-- whether both are there, the first at most the second
abbrev pub are_in_order : Option ℕ → Option ℕ → Bool
are_in_order None other = false
are_in_order (Some n) None = false
are_in_order (Some n) (Some m) = nat_le n m

-- whether the transaction is a dangerous pivot once it has committed: the first of the concurrent records that it has a
-- dependency to committed no later than the last one with a dependency to it
abbrev pub is_own_pivot : List KeptRecord → View → Bool
is_own_pivot rs t = are_in_order (first_number (λ r. follows r t) rs) (last_number (λ r. leads_to r t) rs)

-- the transaction's own record, where the records are those that are concurrent
abbrev pub own_record : List KeptRecord → View → ℕ → KeptRecord
own_record rs t n = record {
  begin = t.begin;
  commit = n;
  marks = t.marks;
  keys = keys_of t.writes;
  has_earlier_target = list_any (λ r. follows r t) rs;
}

-- the greater of two numbers that may be there
abbrev pub greater : Option ℕ → Option ℕ → Option ℕ
greater None o = o
greater (Some n) None = Some n
greater (Some n) (Some m) = Some (max n m)

-- the greatest of the last readers of these keys that has a number above `begin`
abbrev pub last_source : (Bytes → ℕ) → ℕ → List Bytes → Option ℕ
last_source readers begin [] = None
last_source readers begin (k ∷ ks) = greater (if_after begin (readers k)) (last_source readers begin ks)

-- no last reader has a number up to that one
abbrev pub AreAbove : ℕ → (Bytes → ℕ) → Type 0
AreAbove oldest readers = (k : Bytes) → 0 < readers k → oldest < readers k

-- of the reads of commits up to that number nothing is kept
pub record HasForgotten (oldest : ℕ) (f : Facts) : Type 0 where
  pub upto : oldest ≤ f.oldest
  pub readers : AreAbove oldest (last_reader f.readers)

-- the last readers up to that number are forgotten, the last commit number stays, and the same may ask
pub record Forgets (n : ℕ) (old new : Facts) : Type 0 where
  pub readers : IsForgotten n old.readers new.readers
  pub oldest : new.oldest ≡ max old.oldest n
  pub last : new.last ≡ old.last
  pub reach : new.reach ≡ old.reach
  pub forgotten : HasForgotten n new

-- nothing is kept of a commit up to that number: neither a key that it wrote, nor that it was the last to read one
pub record KeepsNoneUpto (oldest : ℕ) (f : Facts) : Type 0 where
  pub written : are_later oldest f.postings ≡ true
  pub readers : NameNoneUpto oldest f.readers

-- whether something is kept of the commit with that number: a key that it wrote, or that it was the last to read one
abbrev pub is_kept : Facts → ℕ → Bool
is_kept f n = is_named_reader f.readers n || list_any (λ p. n == p.number) f.postings

-- of how many commits something is kept
abbrev pub kept_count : Facts → ℕ
kept_count f = count_upto (is_kept f) f.last

-- nothing is kept
pub record IsEmpty (f : Facts) : Type 0 where
  pub readers : (k : Bytes) → last_reader f.readers k ≡ 0
  pub postings : f.postings ≡ []
  pub oldest : f.oldest ≡ 0
  pub last : f.last ≡ 0
  pub since : f.reach.since ≡ 0

-- a transaction that may ask: it began with a commit number that was given, with none that was forgotten, and with one
-- of those that may still ask
pub record IsInReach (f : Facts) (t : View) : Type 0 where
  pub begun : t.begin ≤ f.last
  pub active : f.oldest ≤ t.begin
  pub asks : may_ask f.reach t.begin ≡ true

-- the same may ask as before
pub record KeepsReach (old new : Facts) : Type 0 where
  pub oldest : new.oldest ≡ old.oldest
  pub reach : new.reach ≡ old.reach

-- n became the last commit number, and the same may ask as before
pub record TakesNumber (n : ℕ) (old new : Facts) : Type 0 where
  pub last : new.last ≡ n
  pub reach : KeepsReach old new

-- the memory that was made ready: that of the last readers, free places for runs of written keys, and the keys of a
-- transaction
pub record Room : Type 0 where
  pub readers : ReadersRoom
  pub runs : ℕ
  pub ready : Option (List Bytes)

-- there is room for what is kept of the transaction
abbrev pub HasRoom : Room → View → Type 0
HasRoom room t = HasReadersRoom t.marks room.readers × (0 < room.runs) × (room.ready ≡ Some (keys_of t.writes))

-- how much the runs of the last readers hold, and those of written keys; how far the latter are merged, and how often
-- memory for that was refused
pub record KeptContents : Type 0 where
  pub readers : Contents
  pub written : Contents
  pub sizes : List RunSize
  pub refused : ℕ

-- what is kept, the memory that was made ready, how much the runs hold, and the runs of written keys
pub record CommittedValue : Type 0 where
  pub facts : Facts
  pub room : Room
  pub contents : KeptContents
  pub runs : List WrittenRun

-- how much garbage there is: of runs of last readers for which none may ask, and of such runs of written keys
abbrev pub garbage_runs : CommittedValue → ℕ
garbage_runs v = garbage_upto v.facts.readers.oldest v.contents.readers + garbage_upto v.facts.oldest v.contents.written

-- A step of the garbage has gone. So where the last numbers stay, all of it is gone after as many steps as it takes.
pub record FreesRuns (old new : CommittedValue) : Type 0 where
  pub readers : garbage_upto new.facts.readers.oldest new.contents.readers
      ≡ garbage_upto new.facts.readers.oldest old.contents.readers - freed_a_forget
  pub written : garbage_upto new.facts.oldest new.contents.written
      ≡ garbage_upto new.facts.oldest old.contents.written - freed_a_forget

-- such a step was done, and garbage is left exactly where that is answered
pub record IsStep (old new : CommittedValue) (more : Bool) : Type 0 where
  pub frees_runs : FreesRuns old new
  pub still : more ≡ nat_lt 0 (garbage_runs new)

-- no more postings are to be moved than before in runs with numbers that may be asked for, and no refusal was counted
abbrev pub LeavesMergesOf : CommittedValue → CommittedValue → Type 0
LeavesMergesOf old new =
    LeavesMerges new.facts.oldest old.contents.sizes new.contents.sizes old.contents.refused new.contents.refused
