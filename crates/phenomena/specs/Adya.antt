-- The dependencies and phenomena of Adya (1999) and of Adya, Liskov, O'Neil (2000), over what transactions asked and
-- were answered.
--
-- A key is an object. A transaction that has committed installed one version of each key that it wrote, by its last
-- write of it: a SET one with a value, a DEL one without (a dead version), also where the key had no value. The
-- versions of a key stand by commit number, after the one of the base, which has no value where the base lacks the key
-- (an unborn version). A key that was deleted goes on, where the thesis has a new object; and a read of a key is one of
-- its version, be it dead or unborn, and one by the predicate that the key has a value. So there may be more
-- dependencies than in the thesis, and never fewer.
--
-- A transaction reads the versions that its begin number sees, until it has written the key. From then on it sees its
-- own version, and depends on others there by its write.
use Rattle.std.specs.Cmp.Lexicographic.{slice_cmp}
use Rattle.std.specs.FinMap.Entries.{find}
use Rattle.std.specs.List.{list_any}
use Rattle.std.specs.Ordering.{is_le, nat_cmp}
use Rattle.std.specs.Prelude.{◌≡◌, ◌≢◌, ◌⊎◌, ℕ, ◌-◌, ◌<◌, ◌≤◌, Bool, false, not, ◌&&◌, ◌||◌, List, [], ◌∷◌, Option}
use Rattle.std.specs.Prelude.{None, length, nat_lt, is_some, unwrap_or, IsTrue, IsFalse, Contains}
use Rattle.model.specs.Dependency.{writes_key}
use Rattle.model.specs.History.{Record, map_at}
use Rattle.model.specs.Map.{Bytes, KeyMap, key_cmp, is_same_key, is_in_range, value_at}
use Rattle.model.specs.Operations.{Operation, Response}
use Rattle.model.specs.Operations.Operation.{Get, Set, Del, Range}
use Rattle.model.specs.Operations.Response.{Done, Value, Pairs}

-- ---- what a transaction reads

-- the request writes the key
abbrev pub puts_key : Bytes → Operation → Response → Bool
puts_key k (Set j v) Done = is_same_key j k
puts_key k (Del j) Done = is_same_key j k
puts_key k request reply = false

-- the request looks at the key: GET at its own, RANGE at all in its range, but where it gave as many pairs as its
-- limit, only up to the last
abbrev pub looks_at : Bytes → Operation → Response → Bool
looks_at k (Get j) (Value v) = is_same_key j k
looks_at k (Range lo hi limit) (Pairs all) =
    is_in_range lo hi k && (nat_lt (length all) limit || list_any (λ p. is_le (key_cmp k p.0)) all)
looks_at k request reply = false

-- the value that the reply gives the key
abbrev pub value_given : Response → Bytes → Option Bytes
value_given (Value v) k = v
value_given (Pairs all) k = value_at all k
value_given reply k = None

-- some request looks at the key before one has written it
abbrev pub reads_version : Bytes → List Operation → List Response → Bool
reads_version k (q ∷ qs) (r ∷ rs) = looks_at k q r || (not (puts_key k q r) && reads_version k qs rs)
reads_version k requests replies = false

-- each request that looks at the key before one has written it is given the value v
abbrev pub ReadsValue : Bytes → Option Bytes → List Operation → List Response → Type 0
ReadsValue k v (q ∷ qs) (r ∷ rs) =
    (IsTrue (looks_at k q r) → value_given r k ≡ v) × (IsFalse (puts_key k q r) → ReadsValue k v qs rs)
ReadsValue k v requests replies = Unit {0}

abbrev pub reads_a_version : Record → Bytes → Bool
reads_a_version t k = reads_version k t.requests t.replies

-- ---- versions

-- the value that the transaction wrote to the key last, and None where that was a deletion
abbrev pub last_written : Record → Bytes → Option Bytes
last_written t k = unwrap_or (find (slice_cmp nat_cmp) k t.writes) None

-- the version of the key that number n sees is the one that t installed
pub record IsSeenVersion (history : List Record) (n : ℕ) (k : Bytes) (t : Record) : Type 0 where
  pub installs : IsTrue (writes_key t k)
  pub before : t.commit ≤ n
  pub last : (r : Record) → Contains history r → IsTrue (writes_key r k) → r.commit ≤ n → r.commit ≤ t.commit

-- the version of the key that follows the one that number n sees is the one that t installed
pub record IsNextVersion (history : List Record) (n : ℕ) (k : Bytes) (t : Record) : Type 0 where
  pub installs : IsTrue (writes_key t k)
  pub after : n < t.commit
  pub first : (r : Record) → Contains history r → IsTrue (writes_key r k) → n < r.commit → t.commit ≤ r.commit

-- whether the version of the key that number n sees has a value, and so matches
abbrev pub matches : KeyMap → List Record → ℕ → Bytes → Bool
matches base history n k = is_some (value_at (map_at base history n) k)

-- t installed a version of the key that matches after one that doesn't, or the other way round
pub record ChangesMatches (base : KeyMap) (history : List Record) (k : Bytes) (t : Record) : Type 0 where
  pub installs : IsTrue (writes_key t k)
  pub changes : matches base history t.commit k ≢ matches base history (t.commit - 1) k

-- ---- direct dependencies of b on a, which are two transactions of the history

pub record AreTwo (history : List Record) (a b : Record) : Type 0 where
  pub first : Contains history a
  pub second : Contains history b
  pub differ : a.commit ≢ b.commit

-- b installed the version that follows a's
abbrev pub WriteDepends : List Record → Record → Record → Type 0
WriteDepends history a b = AreTwo history a b
    × ((k : Bytes) × IsTrue (writes_key a k) × IsNextVersion history a.commit k b)

-- b read a's version
abbrev pub ItemReadDepends : List Record → Record → Record → Type 0
ItemReadDepends history a b = AreTwo history a b
    × ((k : Bytes) × IsTrue (reads_a_version b k) × IsSeenVersion history b.begin k a)

-- a changed the matches of what b read, by the version that b read or by an earlier one
abbrev pub PredicateReadDepends : KeyMap → List Record → Record → Record → Type 0
PredicateReadDepends base history a b =
    AreTwo history a b × ((k : Bytes) × IsTrue (reads_a_version b k) × ChangesMatches base history k a
    × (a.commit ≤ b.begin))

-- b installed the version that follows the one that a read
abbrev pub ItemAntiDepends : List Record → Record → Record → Type 0
ItemAntiDepends history a b = AreTwo history a b
    × ((k : Bytes) × IsTrue (reads_a_version a k) × IsNextVersion history a.begin k b)

-- b changed the matches of what a read, by a version after the one that a read
abbrev pub PredicateAntiDepends : KeyMap → List Record → Record → Record → Type 0
PredicateAntiDepends base history a b =
    AreTwo history a b × ((k : Bytes) × IsTrue (reads_a_version a k) × ChangesMatches base history k b
    × (a.begin < b.commit))

abbrev pub ReadDepends : KeyMap → List Record → Record → Record → Type 0
ReadDepends base history a b = ItemReadDepends history a b ⊎ PredicateReadDepends base history a b

abbrev pub AntiDepends : KeyMap → List Record → Record → Record → Type 0
AntiDepends base history a b = ItemAntiDepends history a b ⊎ PredicateAntiDepends base history a b

-- a dependency by which information flows from a to b
abbrev pub FlowDepends : KeyMap → List Record → Record → Record → Type 0
FlowDepends base history a b = WriteDepends history a b ⊎ ReadDepends base history a b

abbrev pub Depends : KeyMap → List Record → Record → Record → Type 0
Depends base history a b = FlowDepends base history a b ⊎ AntiDepends base history a b

-- ---- phenomena

-- from a along R to the first of rs, from each of rs to the next, and from the last to z
abbrev pub IsPathBy : (Record → Record → Type 0) → Record → List Record → Record → Type 0
IsPathBy R a [] z = R a z
IsPathBy R a (r ∷ rs) z = R a r × IsPathBy R r rs z

abbrev pub HasCycle : (Record → Record → Type 0) → Type 0
HasCycle R = (a : Record) × (rs : List Record) × IsPathBy R a rs a

-- G0, dirty writes: a cycle of write-dependencies
abbrev pub G0 : List Record → Type 0
G0 history = HasCycle (WriteDepends history)

-- G1c, circular information flow: a cycle without anti-dependencies
abbrev pub G1c : KeyMap → List Record → Type 0
G1c base history = HasCycle (FlowDepends base history)

-- G-single: a cycle with one anti-dependency
abbrev pub GSingle : KeyMap → List Record → Type 0
GSingle base history =
    (a b : Record) × (rs : List Record) × AntiDepends base history a b × IsPathBy (FlowDepends base history) b rs a

-- G2: a cycle with an anti-dependency
abbrev pub G2 : KeyMap → List Record → Type 0
G2 base history =
    (a b : Record) × (rs : List Record) × AntiDepends base history a b × IsPathBy (Depends base history) b rs a
