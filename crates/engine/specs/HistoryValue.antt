-- What has committed, as contracts see it: the versions of its writes, and what is kept to check later commits.
use Rattle.std.specs.List.{AllByRecursion}
use Rattle.std.specs.Prelude.{◌≡◌, ◌↔◌, ℕ, ◌+◌, ◌&&◌, Bool, true, IsTrue, max, nat_lt, List, [], ◌∷◌, ◌++◌}
use Rattle.model.specs.History.{Record}
use Rattle.model.specs.Map.{KeyMap}
use Rattle.versions.specs.Chains.{ChainsValue, IsPrepared}
use Rattle.versions.specs.Listings.{IsClassified}
use Rattle.versions.specs.Meaning.{IsSameMeaning, garbage_of, is_among}
use Rattle.versions.specs.StandsFor.{StandsFor as VersionsStandFor}
use Rattle.snapshot.specs.View.{View}
use Rattle.pivot_check.specs.FewKept.{KeepsLittle}
use Rattle.pivot_check.specs.Kept.{CommittedValue, HasForgotten, HasRoom, IsInReach, garbage_runs, may_ask}
use Rattle.pivot_check.specs.StandsFor.{StandsFor as CommittedStandsFor, StandForSame, IsRecordOf}

pub record HistoryValue : Type 0 where
  pub versions : ChainsValue
  pub committed : CommittedValue

-- this history over the base map has committed, and the active numbers see their maps
pub record HistoryStandsFor (h : HistoryValue) (active : ℕ → Bool) (base : KeyMap) (history : List Record) : Type 0
  where
    pub versions : VersionsStandFor h.versions active base history
    pub committed : CommittedStandsFor h.committed.facts history

-- little is kept of the written keys where little was kept before, and one who began at one of these numbers may ask
abbrev pub LeavesLittle : HistoryValue → HistoryValue → List ℕ → Type 0
LeavesLittle old new bs =
    AllByRecursion (λ b. may_ask old.committed.facts.reach b ≡ true) bs → KeepsLittle old.committed
    → KeepsLittle new.committed

-- What the transaction's commit makes of the history, where one who began at one of these numbers may ask: of the
-- active numbers only these stay so, and no one may ask but who began at one of them, or begins now.
pub record Joins (bs : List ℕ) (old new : HistoryValue) (t : View) : Type 0 where
  pub oldest : new.committed.facts.oldest ≡ old.committed.facts.oldest
  pub reach : new.committed.facts.reach ≡ record { begins = bs; since = new.committed.facts.last }
  pub stands : (active : ℕ → Bool) (base : KeyMap) (history : List Record) (r : Record)
      → HistoryStandsFor old active base history → AllByRecursion (λ b. may_ask old.committed.facts.reach b ≡ true) bs
      → IsInReach old.committed.facts t → IsRecordOf t (old.committed.facts.last + 1) r
      → HistoryStandsFor new (λ n. active n && is_among bs n) base (history ++ r ∷ [])
  pub little : LeavesLittle old new bs

-- n is the number of the next commit, and now that of the last
pub record IsNumbered (n : ℕ) (old new : HistoryValue) : Type 0 where
  pub number : n ≡ old.committed.facts.last + 1
  pub last : new.committed.facts.last ≡ old.committed.facts.last + 1

-- what the history stands for stays, with those of the active numbers that are among these, where one who began at one
-- of these may ask
abbrev pub KeepsActive : HistoryValue → HistoryValue → List ℕ → Type 0
KeepsActive old new bs = (active : ℕ → Bool) (base : KeyMap) (history : List Record)
    → HistoryStandsFor old active base history → AllByRecursion (λ b. may_ask old.committed.facts.reach b ≡ true) bs
    → HistoryStandsFor new (λ n. active n && is_among bs n) base history

-- no group is unclassified after a reclaim, where these numbers are active
abbrev pub Classifies : HistoryValue → HistoryValue → List ℕ → Type 0
Classifies old new bs = (active : ℕ → Bool) (base : KeyMap) (history : List Record)
    → HistoryStandsFor old active base history
    → ((n : ℕ) → IsTrue (is_among bs n) → IsTrue (active n)) → AllByRecursion IsClassified new.versions.groups

-- What the history stands for stays, with the last commit number, and no group is unclassified. The commits up to that
-- number are asked for no more, and no one may ask but who began at one of these numbers, or begins now.
pub record Reclaims (bs : List ℕ) (n : ℕ) (old new : HistoryValue) : Type 0 where
  pub stands : KeepsActive old new bs
  pub last : new.committed.facts.last ≡ old.committed.facts.last
  pub oldest : new.committed.facts.oldest ≡ max old.committed.facts.oldest n
  pub forgotten : HasForgotten n new.committed.facts
  pub reach : new.committed.facts.reach ≡ record { begins = bs; since = old.committed.facts.last }
  pub classified : Classifies old new bs
  pub little : LeavesLittle old new bs

-- there is garbage left where these numbers are active
abbrev pub is_garbage : List ℕ → HistoryValue → Bool
is_garbage bs h = nat_lt 0 (garbage_of bs h.versions + garbage_runs h.committed)

-- memory may have been made ready, the history means what it meant, and little is kept where it was before
pub record IsSameHistory (old new : HistoryValue) : Type 0 where
  pub versions : IsSameMeaning old.versions new.versions
  pub stands : (active : ℕ → Bool) (base : KeyMap) (history : List Record)
      → VersionsStandFor old.versions active base history ↔ VersionsStandFor new.versions active base history
  pub committed : StandForSame old.committed.facts new.committed.facts
  pub little : KeepsLittle old.committed → KeepsLittle new.committed

-- the memory that the commit of the transaction needs has been made
pub record IsReady (h : HistoryValue) (t : View) : Type 0 where
  pub versions : IsPrepared h.versions t.writes
  pub room : HasRoom h.committed.room t
