-- What holds of each state that the machine reaches.
use Rattle.std.specs.Prelude.{◌⊎◌, ◌≤◌, ◌<◌, ℕ, List, IsTrue, All, Contains}
use Rattle.model.specs.Cycle.{IsCycle}
use Rattle.model.specs.Dependency.{dependency, writes_key}
use Rattle.model.specs.History.{Record}
use Rattle.model.specs.Machine.{State, IsReached}
use Rattle.model.specs.Map.{Bytes, KeyMap, value_at}
use Rattle.model.specs.Operations.{Operation, Response}
use Rattle.phenomena.specs.Adya.{Depends, G0, G1c, G2, GSingle, HasCycle, IsSeenVersion, ReadsValue, last_written}

-- b depends on a, or began once a had committed
pub record Precedes (history : List Record) (a b : Record) : Type 0 where
  pub first : Contains history a
  pub second : Contains history b
  pub reason : IsTrue (dependency a b) ⊎ (a.commit ≤ b.begin)

-- no cycle of dependencies, nor one that keeps real time
pub record IsAcyclic (history : List Record) : Type 0 where
  pub dependencies : (cycle : List Record) → All (Contains history) cycle → ¬ IsCycle cycle
  pub real_time : ¬ HasCycle (Precedes history)

abbrev pub NoCycle : Type 0
NoCycle = (st : State) → IsReached st → IsAcyclic st.history

-- each direct dependency is one of this profile
abbrev pub DirectIsDependency : Type 0
DirectIsDependency = (st : State) → IsReached st →
    (a b : Record) → Depends st.base st.history a b → IsTrue (dependency a b)

-- none of the phenomena that are cycles
pub record HasNoPhenomena (base : KeyMap) (history : List Record) : Type 0 where
  pub no_G0 : ¬ G0 history
  pub no_G1c : ¬ G1c base history
  pub no_GSingle : ¬ GSingle base history
  pub no_G2 : ¬ G2 base history

abbrev pub NoPhenomena : Type 0
NoPhenomena = (st : State) → IsReached st → HasNoPhenomena st.base st.history

-- What a transaction that began at n read of a key was the last write of the committed transaction whose version n
-- sees, and what the base has where n sees no other: so no write of one that aborted (G1a), and none that its writer
-- wrote over (G1b).
pub record ReadsVersions (base : KeyMap) (history : List Record) (n : ℕ) (requests : List Operation)
    (replies : List Response) : Type 0 where
  pub installed : (k : Bytes) (t : Record) → Contains history t → IsSeenVersion history n k t →
      ReadsValue k (last_written t k) requests replies
  pub first : (k : Bytes) → ((t : Record) → Contains history t → IsTrue (writes_key t k) → n < t.commit) →
      ReadsValue k (value_at base k) requests replies

-- of each that has committed, and of each that is open
pub record ReadsCommitted (st : State) : Type 0 where
  pub committed : All (λ t. ReadsVersions st.base st.history t.begin t.requests t.replies) st.history
  pub open_ones : All (λ e. ReadsVersions st.base st.history e.1.begin e.1.requests e.1.replies) st.running

abbrev pub ReadsLaw : Type 0
ReadsLaw = (st : State) → IsReached st → ReadsCommitted st
