-- The states that a store comes to in several restarts, of which each begins with the map that the one before left.
use Rattle.std.specs.Prelude.{◌≡◌, List, [], ◌∷◌, ◌++◌}
use Rattle.model.specs.History.{Record, map_at}
use Rattle.model.specs.Machine.{State, IsReached, last}
use Rattle.model.specs.Map.{KeyMap}
use Rattle.model.specs.SerialOrder.{IsSerialOrder, replay, ReplaysReplies}

-- replays one after another are one replay
abbrev pub ReplaysFollow : Type 0
ReplaysFollow = (map : KeyMap) (first second : List Record) → ReplaysReplies map first
    → ReplaysReplies (replay map first) second →
    ReplaysReplies map (first ++ second) × (replay map (first ++ second) ≡ replay (replay map first) second)

-- the machine reaches the states, the first over this map, and each other over the one that the state before it has
-- committed; the last has committed the map found
abbrev pub FollowEachOther : KeyMap → List State → KeyMap → Type 0
FollowEachOther map [] found = found ≡ map
FollowEachOther map (st ∷ states) found =
    IsReached st × (st.base ≡ map) × FollowEachOther (map_at st.base st.history (last st)) states found

-- a serial order of what the first has committed, then one of the second, and so on
abbrev pub IsOrderOfAll : List State → List Record → Type 0
IsOrderOfAll [] order = order ≡ []
IsOrderOfAll (st ∷ states) order =
    (own rest : List Record) × (order ≡ own ++ rest) × IsSerialOrder st.base st.history own × IsOrderOfAll states rest

-- one order of all that has committed, in which each is given the replies that it had, and at whose end the map is the
-- one found
pub record HaveOneOrder (map : KeyMap) (states : List State) (found : KeyMap) : Type 0 where
  pub order : List Record
  pub is : IsOrderOfAll states order
  pub replies : ReplaysReplies map order
  pub final_map : replay map order ≡ found

abbrev pub RestartLaw : Type 0
RestartLaw = (map : KeyMap) (states : List State) (found : KeyMap) → FollowEachOther map states found
    → HaveOneOrder map states found
