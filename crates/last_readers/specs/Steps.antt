-- Numbers by key as a step function: its steps by strictly rising key.
use Rattle.std.specs.List.{list_all, list_any}
use Rattle.std.specs.Ordering.{is_lt, is_le}
use Rattle.std.specs.Prelude.{◌≡◌, ℕ, max, nat_lt, nat_le, Bool, true, false, ◌&&◌, ◌||◌, ◌==◌, if◌then◌else◌, List}
use Rattle.std.specs.Prelude.{[], ◌∷◌, ◌++◌, Option, Some, None}
use Rattle.std.specs.declared.cmp.Ordering.{Ordering}
use Rattle.std.specs.declared.cmp.Ordering.TheVariants.{Less, Equal, Greater}
use Rattle.model.specs.Map.{Bytes, key_cmp}

-- the number at exactly this key, and the one at the keys above it, up to the next step
pub record StepValue : Type 0 where
  pub key : Bytes
  pub at : ℕ
  pub above : ℕ

-- steps by rising key, and how many have room where they stand
pub record StepsValue : Type 0 where
  pub items : List StepValue
  pub capacity : ℕ

-- the last of the steps
abbrev pub IsLast : StepValue → List StepValue → Type 0
IsLast s ss = (init : List StepValue) × (ss ≡ init ++ s ∷ [])

-- the number at a key that stands so to a step: it is below the step, at it, or above it
abbrev pub by_order : Ordering → ℕ → ℕ → ℕ → ℕ
by_order Less below at above = below
by_order Equal below at above = at
by_order Greater below at above = above

-- the number at a key, where `below` is the one at the keys below the first step
abbrev pub number_from : ℕ → List StepValue → Bytes → ℕ
number_from below [] k = below
number_from below (s ∷ ss) k = by_order (key_cmp k s.key) below s.at (number_from s.above ss k)

-- the number at a key, 0 below the first step
abbrev pub number_at : List StepValue → Bytes → ℕ
number_at ss k = number_from 0 ss k

-- the number at a key where two lists of steps are being merged from their ends: xs and ys are what is left of them, ts
-- is what was made of their ends. Below ts it is the greater number of xs and ys
abbrev pub merged_at : List StepValue → List StepValue → List StepValue → Bytes → ℕ
merged_at xs ys ts k = number_from (max (number_at xs k) (number_at ys k)) ts k

-- numbers by key that are made of two lists of steps
pub record RunValue : Type 0 where
  pub first : List StepValue
  pub second : List StepValue
  pub made : List StepValue

abbrev pub number_in : RunValue → Bytes → ℕ
number_in r k = merged_at r.first r.second r.made k

-- whether the step says no more than that the numbers from its key on are this one
abbrev pub is_level : ℕ → StepValue → Bool
is_level n s = s.at == n && s.above == n

-- the number at the keys above all steps
abbrev pub end_from : ℕ → List StepValue → ℕ
end_from below [] = below
end_from below (s ∷ ss) = end_from s.above ss

abbrev pub end_of : List StepValue → ℕ
end_of ss = end_from 0 ss

-- whether each step's key is above this one
abbrev pub are_over : Bytes → List StepValue → Bool
are_over k ss = list_all (λ s. is_lt (key_cmp k s.key)) ss

-- whether each step's key is below those of all that follow
abbrev pub steps_rise : List StepValue → Bool
steps_rise [] = true
steps_rise (s ∷ ss) = are_over s.key ss && steps_rise ss

-- whether each step's key is below this one
abbrev pub are_under : Bytes → List StepValue → Bool
are_under k ss = list_all (λ s. is_lt (key_cmp s.key k)) ss

-- n, where it is above o, else 0
abbrev pub cut : ℕ → ℕ → ℕ
cut o n = if nat_lt o n then n else 0

-- 0 in the place of each number up to o
abbrev pub cut_step : ℕ → StepValue → StepValue
cut_step o s = record { key = s.key; at = cut o s.at; above = cut o s.above }

-- whether the step says no more than that the numbers from its key on are the one in force
abbrev pub is_level_in : Option ℕ → StepValue → Bool
is_level_in None s = false
is_level_in (Some n) s = is_level n s

-- 0 in the place of each number up to o, without the steps that say no more then than those before them, where
-- `in_force` is the number that they have at the keys from theirs on
abbrev pub swept : ℕ → Option ℕ → List StepValue → List StepValue
swept o in_force [] = []
swept o in_force (s ∷ ss) = let t =
    cut_step o s in if is_level_in in_force t then swept o in_force ss else t ∷ swept o (Some t.above) ss

-- whether the number is none, or one from n on
abbrev pub is_from : ℕ → ℕ → Bool
is_from n m = m == 0 || nat_le n m

-- whether both numbers of the step are
abbrev pub is_step_from : ℕ → StepValue → Bool
is_step_from n s = is_from n s.at && is_from n s.above

-- whether those of all steps are
abbrev pub steps_from : ℕ → List StepValue → Bool
steps_from n ss = list_all (is_step_from n) ss

-- the number n in the place of one that isn't 0
abbrev pub in_place_of : ℕ → ℕ → ℕ
in_place_of n was = if was == 0 then 0 else n

abbrev pub renumbered : ℕ → StepValue → StepValue
renumbered n s = record { key = s.key; at = in_place_of n s.at; above = in_place_of n s.above }

-- 1 at the keys from lo to below end, and at `end` the number `at`, where end isn't below lo
abbrev pub span_at : Bytes → Bytes → ℕ → Bytes → ℕ
span_at lo end at k = if is_le (key_cmp lo k) then by_order (key_cmp k end) 1 at 0 else 0

-- the steps of that
abbrev pub steps_between : Bytes → Bytes → ℕ → List StepValue
steps_between lo end at = record { key = lo; at = 1; above = 1 } ∷ record { key = end; at = at; above = 0 } ∷ []

-- where two lists of steps are being merged, the numbers are n in the place of those of the steps ss
abbrev pub AreNumbered : ℕ → List StepValue → List StepValue → List StepValue → List StepValue → Type 0
AreNumbered n xs ys ts ss = (k : Bytes) → merged_at xs ys ts k ≡ in_place_of n (number_at ss k)

-- whether those of three lists are
abbrev pub are_from : ℕ → List StepValue → List StepValue → List StepValue → Bool
are_from n xs ys ts = steps_from n xs && (steps_from n ys && steps_from n ts)

-- whether no step of the run names a number below n but 0, which is none
abbrev pub is_run_from : ℕ → RunValue → Bool
is_run_from n r = are_from n r.first r.second r.made

-- whether the step names the number
abbrev pub names : StepValue → ℕ → Bool
names s n = n == s.at || n == s.above

-- whether some step of the run does
abbrev pub is_named_in : RunValue → ℕ → Bool
is_named_in r n = list_any (λ s. names s n) r.first || (list_any (λ s. names s n) r.second || list_any
    (λ s. names s n) r.made)
