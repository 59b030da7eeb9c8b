-- What opening a store finds.
use Rattle.std.specs.Prelude.{◌≡◌, ℕ, ◌+◌, List, []}
use Rattle.model.specs.Machine.{State, opened}
use Rattle.model.specs.Map.{IsInBounds, KeyMap, KeyWrite}
use Rattle.sector.specs.declared.device.Sectors.{Ghosts}
use Rattle.commit_log.specs.LogImage.{span}
use Rattle.commit_log.specs.Recovery.{map_after}
use Rattle.engine.specs.Meaning.{pages_looked_at}
use Rattle.engine.specs.Recovery.{committed_map}
use Rattle.engine.specs.StandsFor.{StandsFor}
use Rattle.engine.specs.declared.engine.Engine.{Engine}

-- the store has the map of these write sets, which fill so much of a log of so many sectors
abbrev pub IsStoreOf : {D : Type 0} {g : Ghosts D} → ℕ → List (List KeyWrite) → Engine D g → Type 0
IsStoreOf count lists e = StandsFor e (opened (map_after [] lists) (2 + span lists) count)

-- A store over so many sectors, as it is opened: it stands for a state over some map. In each state that it stands for
-- no transaction is open, and what has committed is in bounds. Its ranges have looked at no page.
pub record IsJustOpened {D : Type 0} {g : Ghosts D} (count : ℕ) (e : Engine D g) : Type 0 where
  pub map : KeyMap
  pub used : ℕ
  pub stands : StandsFor e (opened map used count)
  pub idle : (m : State) → StandsFor e m → m.running ≡ []
  pub in_bounds : (m : State) → StandsFor e m → IsInBounds (committed_map m)
  pub looked_at : pages_looked_at e ≡ 0
