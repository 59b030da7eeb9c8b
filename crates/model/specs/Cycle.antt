-- Cycles of dependencies. That each one has a pivot, and that the one after it committed first of all, is the theorem
-- of Fekete et al. (2005), here for this project's dependencies.
use Rattle.std.specs.Prelude.{◌≡◌, ◌≤◌, ◌<◌, ◌++◌, ◌∷◌, [], List, IsTrue, All, AllPairs, Contains, take}
use Rattle.model.specs.Dependency.{dependency, makes_pivot, is_pivot, is_dangerous_pivot, NoConcurrentWriters}
use Rattle.model.specs.History.{Record}

-- a dependency from a to the first of rs, from each of rs to the next, and from the last to z
abbrev pub IsPath : Record → List Record → Record → Type 0
IsPath a [] z = IsTrue (dependency a z)
IsPath a (r ∷ rs) z = IsTrue (dependency a r) × IsPath r rs z

-- at least two records, each with a dependency to the next, and the last with a dependency to the first
abbrev pub IsCycle : List Record → Type 0
IsCycle [] = ⊥
IsCycle (a ∷ []) = ⊥
IsCycle (a ∷ b ∷ rs) = IsPath a (b ∷ rs) a

-- x, p and y stand one after the other in the cycle, where the first follows the last
abbrev pub StandInRow : List Record → Record → Record → Record → Type 0
StandInRow cycle x p y = (front back : List Record) × (cycle ++ take 2 cycle ≡ front ++ (x ∷ p ∷ y ∷ back))

-- a pivot of the cycle with its neighbours, of which the one after it committed first of all
pub record PivotInCycle (cycle : List Record) : Type 0 where
  pub before : Record
  pub pivot : Record
  pub after : Record
  pub in_row : StandInRow cycle before pivot after
  pub makes : IsTrue (makes_pivot before pivot after)
  pub first : All (λ r. after.commit ≤ r.commit) cycle

-- without concurrent writers of one key each cycle has a pivot
abbrev pub CycleLaw : Type 0
CycleLaw = (history cycle : List Record) →
    AllPairs (λ a b. a.commit < b.commit) history → All (λ r. r.begin < r.commit) history → NoConcurrentWriters history
    →
    All (Contains history) cycle → IsCycle cycle → PivotInCycle cycle

-- a dangerous pivot is a pivot
abbrev pub DangerousPivotLaw : Type 0
DangerousPivotLaw = (history : List Record) (p : Record) → IsTrue (is_dangerous_pivot history p)
    → IsTrue (is_pivot history p)

-- without concurrent writers of one key each cycle has a dangerous pivot
abbrev pub DangerousCycleLaw : Type 0
DangerousCycleLaw = (history cycle : List Record) →
    AllPairs (λ a b. a.commit < b.commit) history → All (λ r. r.begin < r.commit) history → NoConcurrentWriters history
    →
    All (Contains history) cycle → IsCycle cycle →
    (p : Record) × Contains cycle p × IsTrue (is_dangerous_pivot history p)
