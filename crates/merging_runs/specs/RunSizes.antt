-- How runs are merged, some elements at a time.
use Rattle.std.specs.List.{AllZip, list_all}
use Rattle.std.specs.Prelude.{◌≡◌, ◌≤◌, ◌+◌, ◌*◌, ◌-◌, ◌^◌, ◌++◌, ◌⊎◌, ◌&&◌, ◌||◌, ◌==◌, ℕ, Bool, true, false}
use Rattle.std.specs.Prelude.{nat_lt, nat_le, max, min, map, drop, List, [], ◌∷◌, if◌then◌else◌}
use Rattle.merging_runs.specs.declared.merges.TheConstants.{RELEASED_MAX, SWEPT_MAX}

-- a run: a number that none of its numbers is above; how many elements are still to be moved of the two runs that it is
-- being made of; how many were made; and for how many the memory of the longer of the two is still to be released
pub record RunSize : Type 0 where
  pub last : ℕ
  pub left : ℕ
  pub made : ℕ
  pub room : ℕ

-- how many elements are still to be moved in the runs that have numbers above that one
abbrev pub left_above : ℕ → List RunSize → ℕ
left_above o [] = 0
left_above o (r ∷ rs) = (if nat_lt o r.last then r.left else 0) + left_above o rs

-- no more is to be moved than before in those runs, and no refusal was counted
pub record LeavesMerges (o : ℕ) (old new : List RunSize) (was is : ℕ) : Type 0 where
  pub left : left_above o new ≤ left_above o old
  pub refused : is ≡ was

-- as much is to be moved as before in those runs, and no refusal was counted
pub record KeepsMerges (o : ℕ) (old new : List RunSize) (was is : ℕ) : Type 0 where
  pub left : left_above o new ≡ left_above o old
  pub refused : is ≡ was

-- the same run, with so much room
abbrev pub with_room : ℕ → RunSize → RunSize
with_room room r = record r { room = room }

-- nothing is left to move, and no memory to release
abbrev pub is_finished : RunSize → Bool
is_finished r = r.left == 0 && r.room == 0

-- both runs are finished, the first has numbers above that one, and it has at most twice as many elements as the
-- second, and one
abbrev pub are_alike : ℕ → RunSize → RunSize → Bool
are_alike o r s = nat_lt o r.last && (is_finished r && (is_finished s && nat_le r.made (2 * s.made + 1)))

-- whether none of these numbers parts the numbers above `before` from those up to `last`
abbrev pub are_outside : List ℕ → ℕ → ℕ → Bool
are_outside begins before last = list_all (λ b. nat_le b before || nat_le last b) begins

-- Whether two runs are made one: they are of a like size, and short together, or nobody who may still ask began between
-- their numbers, which are above `before`. So no long run holds what is forgotten beside what isn't.
abbrev pub become_one : List ℕ → ℕ → ℕ → RunSize → RunSize → Bool
become_one begins oldest before r s = are_alike oldest r s
    && (nat_le (r.made + s.made) SWEPT_MAX || are_outside begins (max oldest before) s.last)

-- the last number of the last of the runs, and that one where there is none
abbrev pub last_after : ℕ → List RunSize → ℕ
last_after n [] = n
last_after n (r ∷ rs) = last_after r.last rs

-- Whether two runs are alike may go by the last number before them.
abbrev pub starts_alike : (ℕ → RunSize → RunSize → Bool) → ℕ → RunSize → List RunSize → Bool
starts_alike alike before r [] = false
starts_alike alike before r (s ∷ ss) = alike before r s

-- whether two runs beside one another are alike
abbrev pub has_alike : (ℕ → RunSize → RunSize → Bool) → ℕ → List RunSize → Bool
has_alike alike before [] = false
has_alike alike before (r ∷ rs) = starts_alike alike before r rs || has_alike alike r.last rs

-- the run that is to be made of both
abbrev pub joined : RunSize → RunSize → RunSize
joined r s = record {
  last = max r.last s.last;
  left = r.made + s.made;
  made = 0;
  room = max r.made s.made;
}

-- Memory was released, down to so much room: none is left where that is none, and no less than that is kept.
pub record IsReleased (room was is : ℕ) : Type 0 where
  pub all : room ≡ 0 → is ≡ 0
  pub kept : min room was ≤ is

-- some of its elements have been dropped
pub record IsSwept (old new : RunSize) : Type 0 where
  pub last : new.last ≡ old.last
  pub left : new.left ≤ old.left
  pub made : new.made ≤ old.made
  pub room : new.room ≤ old.room

-- of two runs beside one another that are alike one is being made
pub record IsBegun (alike : ℕ → RunSize → RunSize → Bool) (old new : List RunSize) : Type 0 where
  pub earlier : List RunSize
  pub first : RunSize
  pub second : RunSize
  pub later : List RunSize
  pub are : alike (last_after 0 earlier) first second ≡ true
  pub was : old ≡ earlier ++ first ∷ second ∷ later
  pub is : new ≡ earlier ++ joined first second ∷ later

-- one refusal more, up to 2^64 - 1
abbrev pub one_refusal_more : ℕ → ℕ
one_refusal_more refused = min (refused + 1) (2 ^ 64 - 1)

-- nothing has changed, and no refusal was counted
pub record IsUnchanged {X : Type 0} (old new : X) (was is : ℕ) : Type 0 where
  pub same : new ≡ old
  pub refused : is ≡ was

-- a merge was begun, or memory for it was refused, which is counted
abbrev pub IsEnded : (ℕ → RunSize → RunSize → Bool) → List RunSize → List RunSize → ℕ → ℕ → Type 0
IsEnded alike old new was is = (IsBegun alike old new × (is ≡ was)) ⊎ ((new ≡ old) × (is ≡ one_refusal_more was))

-- so it is where that is true
abbrev pub EndsIf : Bool → (ℕ → RunSize → RunSize → Bool) → List RunSize → List RunSize → ℕ → ℕ → Type 0
EndsIf b alike old new was is = b ≡ true → IsEnded alike old new was is

-- the same, or no two runs beside one another are alike
abbrev pub IsTried : (ℕ → RunSize → RunSize → Bool) → List RunSize → List RunSize → ℕ → ℕ → Type 0
IsTried alike old new was is =
    IsEnded alike old new was is ⊎ ((has_alike alike 0 old ≡ false) × IsUnchanged old new was is)

-- the runs, and one of so many elements with that number, where it has any
abbrev pub with_run : ℕ → ℕ → List RunSize → List RunSize
with_run n count rs = if nat_lt 0 count then rs ++ record { last = n; left = 0; made = count; room = 0 } ∷ [] else rs

-- how many moves there are for so many elements that are noted
abbrev pub moves_for : ℕ → ℕ
moves_for count = min (16 * count + 64) (2 ^ 64 - 1)

abbrev pub lasts_of : List RunSize → List ℕ
lasts_of rs = map (λ r. r.last) rs

-- how many elements a run has, made or still to be moved
abbrev pub whole_of : RunSize → ℕ
whole_of r = r.left + r.made

-- each run has at most as many as the one at its place had
abbrev pub AreNoLonger : List RunSize → List RunSize → Type 0
AreNoLonger new old = AllZip (λ r s. whole_of r ≤ whole_of s) new old

-- so many moves of so many elements at most
abbrev pub AtMostMoved : ℕ → ℕ → ℕ → List RunSize → List RunSize → Type 0
AtMostMoved each o n old new = left_above o old ≤ left_above o new + each * n

-- Of a run, so many moves of so many elements at most were made. It may have fewer elements than before.
pub record IsMerged (each moves : ℕ) (old new : RunSize) : Type 0 where
  pub last : new.last ≡ old.last
  pub whole : whole_of new ≤ whole_of old
  pub room : new.room ≤ old.room
  pub moved : new.left + moves ≤ old.left
  pub slowly : old.left ≤ new.left + each * moves

-- for how many elements memory is released of a run, where it has numbers above that one and nothing is left to move
abbrev pub released_of : ℕ → RunSize → ℕ
released_of o r = if nat_lt o r.last && r.left == 0 then RELEASED_MAX else 0

-- of each run so much memory was released, or all
abbrev pub AreReleased : ℕ → List RunSize → List RunSize → Type 0
AreReleased o new old = AllZip (λ r s. r.room ≤ s.room - released_of o s) new old

-- so it is of these runs, which have numbers above that one where something was moved
pub record AreMerged (each o moves : ℕ) (old new : List RunSize) : Type 0 where
  pub lasts : lasts_of new ≡ lasts_of old
  pub wholes : AreNoLonger new old
  pub moved : left_above o new + moves ≤ left_above o old
  pub slowly : AtMostMoved each o moves old new

-- where nothing was left to move behind the place, nothing is left from it on
abbrev pub RestsFrom : ℕ → ℕ → List RunSize → List RunSize → Type 0
RestsFrom o place old new = left_above o (drop (place + 1) old) ≡ 0 → left_above o (drop place new) ≡ 0

-- What is to be moved was moved so many times, unless nothing is left to move; a move takes so many elements at most.
-- Where nothing was left of the two that a run was made of, memory of these was released. No run has more elements
-- than before.
pub record IsMoved (each o most : ℕ) (old new : List RunSize) : Type 0 where
  pub lasts : lasts_of new ≡ lasts_of old
  pub wholes : AreNoLonger new old
  pub moved : left_above o new + min most (left_above o old) ≤ left_above o old
  pub slowly : AtMostMoved each o most old new
  pub released : AreReleased o new old
