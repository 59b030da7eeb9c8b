-- Postings that none who may ask is answered by.
use Rattle.std.specs.List.{AllByRecursion, list_all}
use Rattle.std.specs.Prelude.{◌≡◌, ◌≤◌, ◌+◌, ◌*◌, ℕ, Bool, true, false, not, ◌&&◌, ◌||◌, nat_le, nat_lt}
use Rattle.std.specs.Prelude.{List, [], ◌∷◌, length}
use Rattle.model.specs.Map.{is_same_key}
use Rattle.pivot_check.specs.Reach.{Reach, may_ask}
use Rattle.pivot_check.specs.Postings.{AnswerForAll, Posting}

-- whether whoever may ask began before both numbers, or before neither
abbrev pub is_undivided : Reach → ℕ → ℕ → Bool
is_undivided reach n m = nat_le m reach.since && list_all (λ b. nat_lt b n || nat_le m b) reach.begins

-- whether one posting answers whoever may ask wherever a later one of the same key would
abbrev pub is_redundant : Reach → Posting → Posting → Bool
is_redundant reach p q = is_same_key p.key q.key
    && (nat_le p.number q.number
    && ((p.has_earlier_target || not q.has_earlier_target) && is_undivided reach p.number q.number))

-- whoever may ask in the new reach might in the old one
pub record IsWithin (old new : Reach) : Type 0 where
  pub since : old.since ≤ new.since
  pub begins : AllByRecursion (λ b. may_ask old b ≡ true) new.begins

-- whether none of the postings is made redundant by the one before it
abbrev pub are_spaced : Reach → List Posting → Bool
are_spaced reach [] = true
are_spaced reach (p ∷ []) = true
are_spaced reach (p ∷ q ∷ ps) = not (is_redundant reach p q) && are_spaced reach (q ∷ ps)

-- Where none was made so for those who might ask once, among whom are all who may now, none is among the new ones.
abbrev pub StaySpaced : Reach → List Posting → List Posting → Type 0
StaySpaced reach old new = (once : Reach) → IsWithin once reach → are_spaced once old ≡ true
    → are_spaced once new ≡ true

-- Whoever may ask is answered by some of the postings as by all; none of them passes what none of all does; and of
-- those that were made none is redundant.
pub record MakesFor (reach : Reach) (was made some all : List Posting) : Type 0 where
  pub answers : AnswerForAll (may_ask reach) some all
  pub spaced : StaySpaced reach was made

-- whether the last of the postings does so
abbrev pub is_redundant_behind : Reach → List Posting → Posting → Bool
is_redundant_behind reach [] q = false
is_redundant_behind reach (p ∷ []) q = is_redundant reach p q
is_redundant_behind reach (p ∷ o ∷ ps) q = is_redundant_behind reach (o ∷ ps) q

-- whether the postings are of one key, with numbers that don't fall
abbrev pub are_of_one_key : List Posting → Bool
are_of_one_key [] = true
are_of_one_key (p ∷ []) = true
are_of_one_key (p ∷ q ∷ ps) = is_same_key p.key q.key && (nat_le p.number q.number && are_of_one_key (q ∷ ps))

-- Postings of one key by rising number, up to the number from which on all may ask, none of which makes the next
-- redundant, are two for each number at which someone began at most, and two more.
abbrev pub FewPostingsLaw : Type 0
FewPostingsLaw = (reach : Reach) (ps : List Posting) → are_of_one_key ps ≡ true
    → AllByRecursion (λ p. p.number ≤ reach.since) ps → are_spaced reach ps ≡ true
    → length ps ≤ 2 * length reach.begins + 2
