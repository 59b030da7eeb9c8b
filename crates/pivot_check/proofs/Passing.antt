-- Postings are passed over where none that is asked for has a number below the one that was found.
use Rattle.std.proofs.Common.{◌≡◌, ◌≤◌, ◌<◌, ◌+◌, ◌-◌, ◌*◌, ℕ, zero, suc, Bool, true, ◌&&◌, ◌||◌, List, [], ◌∷◌, ◌++◌}
use Rattle.std.proofs.Common.{Option, Some, length, length-drop, get_or, take, drop, refl, sym, ap, subst, ◌∙◌, arith}
use Rattle.std.proofs.Common.{inl, inr, not}
use Rattle.std.proofs.Math.ListN.{set}
use Rattle.std.proofs.Math.Seq.{take-add}
use Rattle.std.proofs.lemmas.Bool.{and_parts, and_from, leb-true, cases_lt}
use Rattle.std.proofs.lemmas.List.{drop-drop, drop-append-le, take-append-le, take-take, drop-take, append-nil}
use Rattle.std.proofs.lemmas.List.{get_or_append_left, get_or_push, length_push}
use Rattle.std.proofs.lemmas.List.Elements.{All-drop, All-from_recursion, recursion_from_All}
use Rattle.std.proofs.lemmas.List.Folds.{list_all-append}
use Rattle.std.specs.List.{AllByRecursion}
use Rattle.std.specs.Prelude.{nat_le, min}
use Rattle.model.proofs.Elements.{all-take}
use Rattle.pivot_check.specs.Agreeing.{lesser_none, lesser_assoc}
use Rattle.pivot_check.specs.Bounds.{is_from_bound, are_from_bound, AreBounds, KeepsFound}
use Rattle.pivot_check.specs.Postings.{Posting, least, lesser, is_asked, between}
use Rattle.pivot_check.specs.declared.bound.Bound.{Bound}

-- ---- bounds

-- a bound of one posting more
pub more_from : (b next : Bound) (ps : List Posting) → ((p : Posting) → is_from_bound b p ≡ true → is_from_bound next p ≡ true) → are_from_bound b ps ≡ true
    → are_from_bound next ps ≡ true
more_from b next [] keeps h = refl
more_from b next (p ∷ ps) keeps h = grind (arith, keeps p, more_from b next ps keeps)

pub pushed_from : (b : Bound) (ps : List Posting) (p : Posting) → are_from_bound b ps ≡ true → is_from_bound b p ≡ true → are_from_bound b (ps ++ p ∷ []) ≡ true
pushed_from b ps p h e = list_all-append (is_from_bound b) ps (p ∷ []) ∙ and_from _ _ h (and_from _ _ e refl)

-- ---- what a bound says

pub upto_last : (b : Bound) (ps : List Posting) → are_from_bound b ps ≡ true → AllByRecursion (λ p. p.number ≤ b.last) ps
upto_last b [] h = tt
upto_last b (p ∷ ps) h = let parts = and_parts _ _ h in (leb-true p.number b.last (and_parts _ _ (and_parts _ _ parts.0).1).0, upto_last b ps parts.1)

-- numbers above `most` keep what was found, and a posting of the bound that is asked for has such a number
pub kept : (found : Option ℕ) (last most b : ℕ) (flagged : Bool) (bound : Bound) → ((n : ℕ) → n ≤ last → most < n → lesser found (Some n) ≡ found)
    → ((p : Posting) → is_from_bound bound p ≡ true → is_asked b flagged p ≡ true → most < p.number)
    → (ps : List Posting) → AllByRecursion (λ p. p.number ≤ last) ps → are_from_bound bound ps ≡ true → KeepsFound found b flagged ps
kept found last most b flagged bound above asked [] upto from = tt
kept found last most b flagged bound above asked (p ∷ ps) upto from =
    grind (arith, above p.number upto.0, asked p, kept found last most b flagged bound above asked ps upto.1)

pub passed_over : (found : Option ℕ) (b : ℕ) (flagged : Bool) (c : Posting → Bool) → ((p : Posting) → c p ≡ true → is_asked b flagged p ≡ true)
    → (ps : List Posting) → KeepsFound found b flagged ps → found ≡ lesser found (least c ps)
passed_over found b flagged c asks [] h = sym (lesser_none found)
passed_over found b flagged c asks (p ∷ ps) h =
    grind (arith, asks p, h.0, lesser_assoc found (Some p.number) (least c ps), passed_over found b flagged c asks ps h.1)

-- ---- parts of a list

pub all_left : {X : Type 0} (P : X → Type 0) (n : ℕ) (xs : List X) → AllByRecursion P xs → AllByRecursion P (drop n xs)
all_left P n xs h = recursion_from_All P (drop n xs) (All-drop P n xs (All-from_recursion P xs h))

-- the postings between two places of those that stand from a place on
pub kept_part : (found : Option ℕ) (b : ℕ) (flagged : Bool) (a n x y : ℕ) (ps : List Posting) → a ≤ x → x ≤ y → y ≤ a + n
    → KeepsFound found b flagged (take n (drop a ps)) → KeepsFound found b flagged (between x y ps)
kept_part found b flagged a n x y ps low order high h =
    let m = x - a in
    let whole : n ≡ m + (n - m) = omega arith in
    let there : x ≡ a + m = omega arith in
    let part : take (y - x) (drop m (take n (drop a ps))) ≡ between x y ps =
    ap (λ k. take (y - x) (drop m (take k (drop a ps)))) whole
    ∙ ap (take (y - x)) (drop-take m (n - m) (drop a ps))
    ∙ take-take (y - x) (n - m) (drop m (drop a ps)) (omega arith)
    ∙ ap (take (y - x)) (drop-drop m a ps ∙ ap (λ k. drop k ps) (sym there)) in
    subst (KeepsFound found b flagged) part (all-take _ (drop m (take n (drop a ps))) (y - x) (all_left _ m (take n (drop a ps)) h))

-- the postings up to the next place, and those behind it
pub split_at : (a n e : ℕ) (ps : List Posting) → a ≤ e → a ≤ n → between a (min e n) ps ++ between n e ps ≡ between a e ps
split_at a n e ps order le = elim (cases_lt e n) [
  | inl past ↦
      let low : min e n ≡ e = omega arith in
      let none : e - n ≡ 0 = omega arith in
      (λ i. between a (low i) ps ++ take (none i) (drop n ps)) ∙ append-nil (between a e ps)
  | inr within ↦
      let low : min e n ≡ n = omega arith in
      let sum : e - a ≡ (n - a) + (e - n) = omega arith in
      let there : n ≡ a + (n - a) = omega arith in
      (λ i. between a (low i) ps ++ take (e - n) ((ap (λ k. drop k ps) there ∙ sym (drop-drop (n - a) a ps)) i))
      ∙ sym (ap (λ k. take k (drop a ps)) sum ∙ take-add (n - a) (e - n) (drop a ps))
]

-- one more block has a bound
pub next_bound : (bs next : List Bound) (ps : List Posting) (i : ℕ) (b : Bound) → next ≡ bs ++ b ∷ [] → length bs ≡ i
    → are_from_bound b (take 64 (drop (64 * i) ps)) ≡ true → AreBounds bs ps → AreBounds next ps
next_bound bs next ps i b is long own known = subst (λ l. AreBounds l ps) (sym is) (λ j d lt. elim (cases_lt j (length bs)) [
  | inl before ↦ ap (λ x. are_from_bound x (take 64 (drop (64 * j) ps))) (get_or_append_left bs (b ∷ []) d j before) ∙ known j d before
  | inr after ↦
      let last : j ≡ i = omega (arith, length_push bs b) in
      let here : length bs ≡ j = omega arith in
      ap (λ x. are_from_bound x (take 64 (drop (64 * j) ps))) (get_or_push bs b d j here) ∙ ap (λ k. are_from_bound b (take 64 (drop (64 * k) ps))) last ∙ own
])

-- ---- one of them was taken: its number and its flag stay

pub same_from : (b : Bound) (p q : Posting) → q.number ≡ p.number → q.has_earlier_target ≡ p.has_earlier_target → is_from_bound b p ≡ true
    → is_from_bound b q ≡ true
same_from b p q number flag h = (λ i. nat_le b.number (number i) && (nat_le (number i) b.last && (not (flag i) || nat_le b.flagged (number i)))) ∙ h

-- those from one place on, up to so many
pub set_from : (b : Bound) (ps : List Posting) (i : ℕ) (q d : Posting) (m n : ℕ) → q.number ≡ (get_or ps i d).number
    → q.has_earlier_target ≡ (get_or ps i d).has_earlier_target
    → are_from_bound b (take n (drop m ps)) ≡ true → are_from_bound b (take n (drop m (set ps i q))) ≡ true
set_from b [] i q d m n number flag h = h
set_from b (p ∷ ps) i q d zero zero number flag h = refl
set_from b (p ∷ ps) zero q d zero (suc n) number flag h = grind (arith, same_from b p q number flag)
set_from b (p ∷ ps) (suc i) q d zero (suc n) number flag h = grind (arith, set_from b ps i q d zero n number flag)
set_from b (p ∷ ps) zero q d (suc m) n number flag h = h
set_from b (p ∷ ps) (suc i) q d (suc m) n number flag h = set_from b ps i q d m n number flag h

pub set_all : (b : Bound) (ps : List Posting) (i : ℕ) (q d : Posting) → q.number ≡ (get_or ps i d).number
    → q.has_earlier_target ≡ (get_or ps i d).has_earlier_target → are_from_bound b ps ≡ true → are_from_bound b (set ps i q) ≡ true
set_all b [] i q d number flag h = h
set_all b (p ∷ ps) zero q d number flag h = let parts = and_parts _ _ h in and_from _ _ (same_from b p q number flag parts.0) parts.1
set_all b (p ∷ ps) (suc i) q d number flag h = let parts = and_parts _ _ h in and_from _ _ parts.0 (set_all b ps i q d number flag parts.1)

-- ---- one more behind them: a whole block stays as it is

pub bounds_stay : (bs : List Bound) (ps : List Posting) (q : Posting) → 64 * length bs ≤ length ps → AreBounds bs ps → AreBounds bs (ps ++ q ∷ [])
bounds_stay bs ps q whole h i b lt =
    let stays = ap (take 64) (drop-append-le (64 * i) ps (q ∷ []) (omega arith))
    ∙ take-append-le 64 (drop (64 * i) ps) (q ∷ []) (omega (arith, length-drop (64 * i) ps)) in
    ap (are_from_bound (get_or bs i b)) stays ∙ h i b lt
