-- Serial orders of a history, and its replay. Behind them stands the order that this project gives of a history without
-- dangerous pivots, in which each dependency rises.
use Rattle.std.specs.Prelude.{◌≡◌, ◌<◌, ℕ, Bool, ◌&&◌, ◌||◌, List, [], ◌∷◌, Option, Some, None, find, length, nat_lt}
use Rattle.std.specs.Prelude.{◌==◌, if◌then◌else◌, ⊤, AllPairs, IsPermutation}
use Rattle.model.specs.Dependency.{concurrent_read_write}
use Rattle.model.specs.History.{Record, map_at}
use Rattle.model.specs.Map.{KeyMap}
use Rattle.model.specs.PrivateCopy.{copy_of, copy_after, responses}

-- the map after the transactions have run alone, one after another, each on the copy that the one before left
abbrev pub replay : KeyMap → List Record → KeyMap
replay m [] = m
replay m (r ∷ rs) = replay (copy_after (copy_of m) r.requests).contents rs

-- run so, each is given the replies that its record has
abbrev pub ReplaysReplies : KeyMap → List Record → Type 0
ReplaysReplies m [] = ⊤
ReplaysReplies m (r ∷ rs) =
    (responses (copy_of m) r.requests ≡ r.replies) × ReplaysReplies (copy_after (copy_of m) r.requests).contents rs

-- The order has each record of the history once. A commit number is the next at COMMIT, and a begin number the last at
-- BEGIN: so each record began before any that stands behind it had committed, and one that had committed when another
-- began stands before that. Run one at a time in this order, the transactions give the same replies and the same final
-- map.
pub record IsSerialOrder (base : KeyMap) (history order : List Record) : Type 0 where
  pub each_once : IsPermutation history order
  pub real_time : AllPairs (λ a b. a.begin < b.commit) order
  pub replies : ReplaysReplies base order
  pub final_map : replay base order ≡ map_at base history (length history)

-- where a transaction stands in the order by places: places are compared number by number, from the left
pub record Place : Type 0 where
  pub first : ℕ
  pub second : ℕ
  pub third : ℕ

abbrev pub is_before : Place → Place → Bool
is_before p q =
    nat_lt p.first q.first || (p.first == q.first)
    && (nat_lt p.second q.second || (p.second == q.second) && nat_lt p.third q.third)

-- the first concurrent transaction that committed before t and wrote what t read. Records stand by rising commit number
abbrev pub first_overwriter : List Record → Record → Option Record
first_overwriter history t = find (λ y. concurrent_read_write t y && nat_lt y.commit t.commit) history

-- right before the one that overwrote what t read, and else where t committed
abbrev pub place_before : Option Record → Record → Place
place_before None t = record { first = t.commit; second = 1; third = 0 }
place_before (Some y) t = record { first = y.commit; second = 0; third = t.commit }

abbrev pub place : List Record → Record → Place
place history t = place_before (first_overwriter history t) t

-- ts, which stand by rising place, with t where its place is
abbrev pub placed : List Record → Record → List Record → List Record
placed history t [] = t ∷ []
placed history t (u ∷ us) =
    if is_before (place history t) (place history u) then t ∷ u ∷ us else u ∷ placed history t us

abbrev pub by_place : List Record → List Record → List Record
by_place history [] = []
by_place history (t ∷ ts) = placed history t (by_place history ts)

-- the history sorted by place
unfoldable pub serial_order : List Record → List Record
serial_order history = by_place history history
