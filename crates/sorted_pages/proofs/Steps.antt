-- A step of a range: what it passes over, and what is left.
use Rattle.std.proofs.Common.{◌≡◌, ℕ, zero, suc, ◌+◌, ◌-◌, ◌<◌, ◌≤◌, Bool, true, false, not, cond, List, [], ◌∷◌}
use Rattle.std.proofs.Common.{◌++◌, drop}
use Rattle.std.proofs.Common.{get_or, length, min, Option, refl, sym, ap, ◌∙◌, arith}
use Rattle.std.proofs.Math.Seq.{drop-nil}
use Rattle.std.proofs.lemmas.Bool.Decides.{nat_tests}
use Rattle.std.proofs.lemmas.Grind.{common_steps}
use Rattle.std.proofs.lemmas.List.{drop-drop, length-drop}
use Rattle.std.proofs.lemmas.List.Recursion.{is_position_or_len}
use Rattle.std.specs.List.{position}
use Rattle.std.specs.Prelude.{unwrap_or}
use Rattle.model.specs.Map.{Bytes, is_below}
use Rattle.sorted_pages.proofs.Seen.{shown-append}
use Rattle.sorted_pages.specs.Pages.{Page, entries}
use Rattle.sorted_pages.specs.Ranges.{IsFirstShown, LooksAhead, entries_from, looked_at, not_passed, shown, up_to}
use Rattle.sorted_pages.specs.Summaries.{is_passed}
use Rattle.sorted_pages.specs.declared.held.Reader.{Reader}
use Rattle.sorted_pages.specs.declared.summary.Summary.{Summary}

-- ---- the pages that are passed

-- how many of the first pages are passed
abbrev leading : Reader → List Summary → ℕ
leading r [] = 0
leading r (s ∷ ss) = cond (not (is_passed r s)) 0 (1 + leading r ss)

leading_within : (r : Reader) (ss : List Summary) → leading r ss ≤ length ss
leading_within r [] = omega arith
leading_within r (s ∷ ss) = let rest = leading_within r ss in grind (arith, common_steps)

-- the place of the first that isn't
leading_is : (r : Reader) (ss : List Summary) → unwrap_or (position (λ s. not (is_passed r s)) ss) (length ss) ≡ leading r ss
leading_is r ss =
    let first = is_position_or_len (leading r) (λ s. not (is_passed r s)) refl (λ s ss. refl) ss in
    let within = leading_within r ss in
    grind (arith, common_steps, nat_tests)

module _ {X : Type 0} where
  -- behind them a range looks at what it doesn't pass over of all
  behind_leading : (r : Reader) (i : ℕ) (ps : List (Page X)) (ss : List Summary) → i ≡ min (leading r ss) (length ps)
      → looked_at r (drop i ps) (drop i ss) ≡ not_passed r ps ss
  behind_leading r i [] ss e = ap (λ l. looked_at r l (drop i ss)) (drop-nil i)
  behind_leading r zero (p ∷ ps) [] e = refl
  behind_leading r (suc i) (p ∷ ps) [] e = absurd (omega (arith, e))
  behind_leading r i (p ∷ ps) (s ∷ ss) e = by (is_passed r s) refl i (e ∙ ap (min (leading r (s ∷ ss))) (omega arith)) (λ j. behind_leading r j ps ss)
    where
      by : (b : Bool) → is_passed r s ≡ b → (j : ℕ) → j ≡ min (cond (not (is_passed r s)) 0 (1 + leading r ss)) (1 + length ps)
          → ((k : ℕ) → k ≡ min (leading r ss) (length ps) → looked_at r (drop k ps) (drop k ss) ≡ not_passed r ps ss)
          → looked_at r (drop j (p ∷ ps)) (drop j (s ∷ ss)) ≡ cond b (not_passed r ps ss) (p ∷ not_passed r ps ss)
      by true w zero d rest = absurd (grind (arith, common_steps, min))
      by true w (suc j) d rest = rest j (grind (arith, common_steps, min))
      by false w zero d rest = refl
      by false w (suc j) d rest = absurd (grind (arith, common_steps, min))

  pub behind_passed : (r : Reader) (m i : ℕ) (o : Option ℕ) (ps : List (Page X)) (ss : List Summary) → o ≡ position (λ s. not (is_passed r s)) ss
      → m ≡ unwrap_or o (length ss) → i ≡ min m (length ps) → looked_at r (drop i ps) (drop i ss) ≡ not_passed r ps ss
  behind_passed r m i o ps ss found first e =
      behind_leading r i ps ss (e ∙ ap (λ k. min k (length ps)) (first ∙ ap (λ q. unwrap_or q (length ss)) found ∙ leading_is r ss))

  -- at most as many pages are passed as have summaries
  pub passed_known : (r : Reader) (m i : ℕ) (o : Option ℕ) (ps : List (Page X)) (ss : List Summary) → o ≡ position (λ s. not (is_passed r s)) ss
      → m ≡ unwrap_or o (length ss) → i ≡ min m (length ps) → i ≤ length ss
  passed_known r m i o ps ss found first e =
      let is = first ∙ ap (λ q. unwrap_or q (length ss)) found ∙ leading_is r ss in
      omega (arith, is, e, leading_within r ss)

  -- what is looked at behind the first
  behind_looked : (r : Reader) (ps : List (Page X)) (ss : List Summary) → not_passed r (drop 1 ps) (drop 1 ss) ≡ drop 1 (looked_at r ps ss)
  behind_looked r [] ss = refl
  behind_looked r (p ∷ ps) ss = refl

  -- all entries of what is looked at
  pub from_first : (r : Reader) (ps : List (Page X)) (ss : List Summary) → entries_from r 0 ps ss ≡ entries (looked_at r ps ss)
  from_first r [] ss = refl
  from_first r (p ∷ ps) ss = refl

  -- the page behind, where there is one, is the next of those that were left to look at
  pub goes_on : (r : Reader) (page : Page X) (ps rest qs all : List (Page X)) (ss ts : List Summary) (count counted new : ℕ) → ps ≡ page ∷ rest
      → looked_at r qs ts ≡ not_passed r rest (drop 1 ss) → new ≡ counted + min (length qs) 1
      → LooksAhead all (not_passed r (drop 1 ps) (drop 1 ss)) count counted → LooksAhead all (not_passed r (drop 1 qs) (drop 1 ts)) count new
  goes_on r page ps rest qs all ss ts count counted new next behind is before =
      let here = behind ∙ ap (λ (l : List (Page X)). not_passed r (drop 1 l) (drop 1 ss)) (sym next) ∙ before.left in
      by qs is here (ap length here ∙ length-drop before.n all)
    where
      by : (qs : List (Page X)) → new ≡ counted + min (length qs) 1 → looked_at r qs ts ≡ drop before.n all
          → length (looked_at r qs ts) ≡ length all - before.n
          → LooksAhead all (not_passed r (drop 1 qs) (drop 1 ts)) count new
      by [] is here long = record {
        n = before.n;
        within = before.within;
        left = here;
        counted = omega (arith, is, before.counted);
      }
      by (q ∷ qs) is here long = record {
        n = before.n + 1;
        within = omega (arith, long, before.within);
        left = ap (drop 1) here ∙ drop-drop 1 before.n all;
        counted = omega (arith, is, before.counted);
      }

-- it goes on, and once more
pub looks_twice : {X : Type 0} (old mid new : List X) (count counted later : ℕ) → LooksAhead old mid count counted → LooksAhead mid new counted later
    → LooksAhead old new count later
looks_twice old mid new count counted later first then = record {
  n = first.n + then.n;
  within = omega (arith, first.within, then.within, ap length first.left, length-drop first.n old);
  left = then.left ∙ ap (drop then.n) first.left ∙ drop-drop then.n first.n old;
  counted = omega (arith, first.counted, then.counted);
}

-- ---- a step

module _ {X : Type 0} (hides : X → Bool) (r : Reader) (hi : Option Bytes) (page : Page X) (ps rest : List (Page X)) (ss : List Summary) (from at : ℕ) where
  first_of : (es : List (Bytes × X)) (i : ℕ) (e : Bytes × X) → i < length es → e ≡ get_or es i e → drop i es ≡ e ∷ drop (i + 1) es
  first_of es i e lt is = grind (arith, common_steps)

  -- what is left, where it is known from which place on the number sees something
  left_from : ps ≡ page ∷ rest → shown hides (drop at page.0) ≡ shown hides (drop from page.0)
      → shown hides (entries_from r from ps ss) ≡ shown hides (drop at page.0 ++ entries (not_passed r rest (drop 1 ss)))
  left_from next same = grind (arith, common_steps, shown-append)

  -- the entry at that place is the next
  pub next_entry : (e : Bytes × X) → ps ≡ page ∷ rest → at < length page.0 → e ≡ get_or page.0 at e → IsFirstShown hides (drop at page.0)
      → shown hides (drop at page.0) ≡ shown hides (drop from page.0) → is_below e.0 hi ≡ true
      → up_to hi (shown hides (entries_from r from ps ss)) ≡ e ∷ up_to hi (shown hides (entries_from r (at + 1) ps ss))
  next_entry e next lt is first same below = grind (arith, common_steps, left_from, first_of)

  -- and the last, where it is behind the range
  pub no_entry : (e : Bytes × X) → ps ≡ page ∷ rest → at < length page.0 → e ≡ get_or page.0 at e → IsFirstShown hides (drop at page.0)
      → shown hides (drop at page.0) ≡ shown hides (drop from page.0) → is_below e.0 hi ≡ false → up_to hi (shown hides (entries_from r from ps ss)) ≡ []
  no_entry e next lt is first same above = grind (arith, common_steps, left_from, first_of)

  -- a page is done with, and those behind it that are passed
  pub next_page : (qs : List (Page X)) (ts : List Summary) → ps ≡ page ∷ rest → length page.0 ≤ at
      → shown hides (drop at page.0) ≡ shown hides (drop from page.0) → looked_at r qs ts ≡ not_passed r rest (drop 1 ss)
      → up_to hi (shown hides (entries_from r 0 qs ts)) ≡ up_to hi (shown hides (entries_from r from ps ss))
  next_page qs ts next le same behind = let whole = from_first r qs ts ∙ ap entries behind in grind (arith, common_steps, left_from)
