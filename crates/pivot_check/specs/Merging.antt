-- Two lists of postings made into one, from their heads.
use Rattle.std.specs.List.{list_all}
use Rattle.std.specs.Ordering.{is_le, is_lt}
use Rattle.std.specs.Prelude.{◌≡◌, ◌≤◌, ◌+◌, ℕ, Bool, true, List, [], ◌∷◌, ◌++◌, length, min, IsTrue, if◌then◌else◌}
use Rattle.std.specs.Vec.{vec_capacity}
use Rattle.model.specs.Map.{Bytes, key_cmp}
use Rattle.pivot_check.specs.KeptShort.{NumbersRise}
use Rattle.pivot_check.specs.Parts.{left, remaining}
use Rattle.pivot_check.specs.Postings.{Posting, keys_rise}
use Rattle.pivot_check.specs.Reach.{Reach}
use Rattle.pivot_check.specs.Redundant.{is_redundant_behind}
use Rattle.pivot_check.specs.declared.part.Part.{Part}

-- whether no key is below this one
abbrev pub are_keys_from : Bytes → List Posting → Bool
are_keys_from k ps = list_all (λ q. is_le (key_cmp k q.key)) ps

-- whether all keys are above this one
abbrev pub are_keys_above : Bytes → List Posting → Bool
are_keys_above k ps = list_all (λ q. is_lt (key_cmp k q.key)) ps

-- no key of ys is below that of the first of xs
abbrev pub BeginsBelow : List Posting → List Posting → Type 0
BeginsBelow xs ys = (w : Posting) (rest : List Posting) → xs ≡ w ∷ rest → are_keys_from w.key ys ≡ true

-- each key of ys is above that of the first of xs
abbrev pub BeginsUnder : List Posting → List Posting → Type 0
BeginsUnder xs ys = (w : Posting) (rest : List Posting) → xs ≡ w ∷ rest → are_keys_above w.key ys ≡ true

-- the first of xs went behind what was made, or was dropped where the last of that makes it redundant
pub record TakesFirst (reach : Reach) (made xs made_then xs_then : List Posting) : Type 0 where
  pub taken : Posting
  pub was : xs ≡ taken ∷ xs_then
  pub is : made_then ≡ (if is_redundant_behind reach made taken then made else made ++ taken ∷ [])

-- what is left of either part rises behind what the third has
pub record RiseBehind (to p q : Part) : Type 0 where
  pub first : IsTrue (keys_rise (remaining to ++ remaining p))
  pub second : IsTrue (keys_rise (remaining to ++ remaining q))

-- a number that none of the three parts has one below, by their bounds
abbrev pub bound_of : Part → Part → Part → ℕ
bound_of to p q = min to.bound.number (min p.bound.number q.bound.number)

-- where the numbers of each key rise, they do so in what becomes of the three, and none is below those that were
pub record KeepNumbers (to first second to_then first_then second_then : Part) : Type 0 where
  pub rise : NumbersRise (remaining to) (remaining first) (remaining second)
      → NumbersRise (remaining to_then) (remaining first_then) (remaining second_then)
  pub from : bound_of to first second ≤ bound_of to_then first_then second_then

-- one posting of so many was put behind those of the part, in the room that it had, or dropped
pub record TakesPosting (before after : ℕ) (old new : Part) : Type 0 where
  pub fewer : after + 1 ≡ before
  pub made : left new ≤ left old + 1
  pub to_len : length new.written.items ≤ length old.written.items + 1
  pub capacity : vec_capacity old.written ≤ vec_capacity new.written
