-- Worked examples: runs at rest, runs that hold more, since two are to become one, and runs in order and out of it.
use Rattle.std.proofs.Common.{◌≡◌, ◌≤◌, ◌<◌, ℕ, zero, suc, true, false, List, [], ◌∷◌, refl, arith}
use Rattle.std.specs.List.{list_all}
use Rattle.std.specs.List.Sorted.{IsStrictlyIncreasing}
use Rattle.merging_runs.specs.AtRest.{AreAtRest, made_in}
use Rattle.merging_runs.specs.KeptRuns.{AreSound}
use Rattle.merging_runs.specs.RunSizes.{RunSize, become_one, has_alike, is_finished, lasts_of}

-- a finished run of so many elements, with that last number
abbrev run : ℕ → ℕ → RunSize
run n count = record { last = n; left = 0; made = count; room = 0 }

rises_twice : IsStrictlyIncreasing (0 ∷ 2 ∷ 5 ∷ [])
rises_twice zero lt = omega arith
rises_twice (suc zero) lt = omega arith
rises_twice (suc (suc k)) lt = absurd (omega arith)

rises_thrice : IsStrictlyIncreasing (0 ∷ 2 ∷ 5 ∷ 7 ∷ [])
rises_thrice zero lt = omega arith
rises_thrice (suc zero) lt = omega arith
rises_thrice (suc (suc zero)) lt = omega arith
rises_thrice (suc (suc (suc k))) lt = absurd (omega arith)

-- two long runs, between the numbers of which somebody began
are_parted : AreAtRest (3 ∷ []) 0 (run 2 20000 ∷ run 5 20000 ∷ [])
are_parted = record { finished = refl; rising = rises_twice; unlike = refl }

-- each run is more than twice as long as the next
get_shorter : AreAtRest [] 0 (run 2 10 ∷ run 5 4 ∷ run 7 1 ∷ [])
get_shorter = record { finished = refl; rising = rises_thrice; unlike = refl }

-- three runs of one element each
abbrev ones : List RunSize
ones = run 2 1 ∷ run 5 1 ∷ run 7 1 ∷ []

-- Where nobody may ask they hold more than 2 * 1 * (2 * 0 + 1), since two are to become one.
two_become_one : (has_alike (become_one [] 0) 0 ones ≡ true) × (made_in ones ≡ 3)
two_become_one = (refl, refl)

-- If no two ever became one, they would be at rest.
without_become_one : (list_all is_finished ones ≡ true) × IsStrictlyIncreasing (0 ∷ lasts_of ones) × (has_alike (λ before r s. false) 0 ones ≡ false)
without_become_one = (refl, rises_thrice, refl)

-- ---- runs in order

-- runs with a number each that none of theirs is below; of each it holds that it has elements
abbrev AreSoundUpto : ℕ → List (ℕ × RunSize) → Type 0
AreSoundUpto last rs = AreSound (λ (r : ℕ × RunSize). 0 < r.1.made) (λ (r : ℕ × RunSize). r.0) (λ (r : ℕ × RunSize). r.1) last rs

-- the numbers 1 and 2, and those from 3 to 5
are_in_order : AreSoundUpto 5 ((1, run 2 10) ∷ (3, run 5 4) ∷ [])
are_in_order = record {
  each = (omega arith, (omega arith, tt));
  upto = (omega arith, (omega arith, tt));
  order = ((omega arith, tt), (tt, tt));
}

-- the other way round
are_out_of_order : AreSoundUpto 5 ((3, run 5 4) ∷ (1, run 2 10) ∷ []) → ⊥
are_out_of_order h = let first : 5 ≤ 1 = h.order.0.0 in omega arith

-- one has a number above the last
are_not_upto : AreSoundUpto 4 ((1, run 2 10) ∷ (3, run 5 4) ∷ []) → ⊥
are_not_upto h = let second : 5 ≤ 4 = h.upto.1.0 in omega arith
