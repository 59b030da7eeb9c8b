-- The numbers that are held, and a bit for each.
use Rattle.std.specs.Int.{bit_at}
use Rattle.std.specs.List.{list_any}
use Rattle.std.specs.Prelude.{◌≡◌, ℕ, ◌<◌, ◌≤◌, ◌^◌, ◌⊎◌, ◌==◌, Bool, true, List, [], ◌∷◌, map, slice_get, Some}
use Rattle.std.specs.Prelude.{if◌then◌else◌, false, ⊤}
use Rattle.sorted_pages.specs.declared.held.Reader.{Reader}
use Rattle.sorted_pages.specs.declared.held.TheConstants.{FREE}

-- the number is one of these
abbrev pub is_among : List ℕ → ℕ → Bool
is_among ns n = list_any (λ m. m == n) ns

-- what stands in a place is one of these, or the place is free
abbrev pub AreAmong : List ℕ → List ℕ → Type 0
AreAmong ns places = (i n : ℕ) → slice_get places i ≡ Some n → (n ≡ FREE) ⊎ (is_among ns n ≡ true)

abbrev pub bit_of : Bool → ℕ
bit_of b = if b then 1 else 0

-- bit i of m says whether p holds of the number in place i
abbrev pub AreBits : (ℕ → Bool) → List ℕ → ℕ → Type 0
AreBits p ns m = (i n : ℕ) → slice_get ns i ≡ Some n → bit_at m i ≡ bit_of (p n)

-- the reader's bit is that of a place in which its number stands, or it has none
abbrev pub IsReader : List ℕ → Reader → Type 0
IsReader ns r = (r.bit ≡ 0) ⊎ ((i : ℕ) × (slice_get ns i ≡ Some r.number) × (r.bit ≡ 2 ^ i))

-- each of the new numbers stands where it stood, or isn't below `last`
abbrev pub AreHeldFrom : ℕ → List ℕ → List ℕ → Type 0
AreHeldFrom last old new = (i n : ℕ) → slice_get new i ≡ Some n → (slice_get old i ≡ Some n) ⊎ (last ≤ n)

-- each number stays in its place where it is one of these, and else the place is free
abbrev pub AreHeldOf : List ℕ → List ℕ → List ℕ → Type 0
AreHeldOf ns old new = new ≡ map (λ n. if is_among ns n then n else FREE) old

-- the numbers with one in the first free place, if there is one
abbrev pub with_number : ℕ → List ℕ → List ℕ
with_number n [] = []
with_number n (m ∷ ms) = if m == FREE then n ∷ ms else m ∷ with_number n ms

-- the numbers in places that aren't free differ from one another
abbrev pub AreApart : List ℕ → Type 0
AreApart [] = ⊤
AreApart (n ∷ ns) = ((n == FREE) ≡ false → is_among ns n ≡ false) × AreApart ns

-- the number came into the first free place, where it isn't below `last` and wasn't held, and else nothing has changed
abbrev pub IsHeldLate : ℕ → ℕ → List ℕ → List ℕ → Type 0
IsHeldLate last n old new =
    ((last ≤ n) × (is_among old n ≡ false) × (new ≡ with_number n old))
    ⊎ (((n < last) ⊎ (is_among old n ≡ true)) × (new ≡ old))

-- each of the numbers, but for what stands in free places, is below the bound
abbrev pub AreBounded : ℕ → List ℕ → Type 0
AreBounded bound ns = (n : ℕ) → (n == FREE) ≡ false → is_among ns n ≡ true → n < bound

-- the numbers that stand in places that aren't free are among these, and those of them from `since` on are there
pub record AreHeldFor (since : ℕ) (asked ns : List ℕ) : Type 0 where
  pub among : (n : ℕ) → (n == FREE) ≡ false → is_among ns n ≡ true → is_among asked n ≡ true
  pub there : (n : ℕ) → is_among asked n ≡ true → since ≤ n → is_among ns n ≡ true

-- each place from this one on is free
abbrev pub AreFreeFrom : ℕ → List ℕ → Type 0
AreFreeFrom used ns = (i n : ℕ) → used ≤ i → slice_get ns i ≡ Some n → n ≡ FREE
