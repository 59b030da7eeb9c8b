-- Marks by their places, in whatever order.
use Rattle.std.proofs.Common.{◌≡◌, ◌≤◌, ◌<◌, ◌+◌, ℕ, zero, suc, Bool, ◌&&◌, List, [], ◌∷◌, Option, None, length}
use Rattle.std.proofs.Common.{get_or, take, drop, refl, sym, ap, ◌∙◌, arith}
use Rattle.std.proofs.Math.Seq.{take-add}
use Rattle.std.proofs.lemmas.List.{take_all, drop_all, at_drop_all, at_drop_more}
use Rattle.std.proofs.lemmas.List.Folds.{list_any-append}
use Rattle.std.proofs.lemmas.List.Sorted.{list_any-IsPermutation}
use Rattle.std.specs.List.{list_any}
use Rattle.std.specs.Prelude.{IsPermutation}
use Rattle.model.proofs.Pivots.{or_false}
use Rattle.model.specs.Map.{Bytes}
use Rattle.model.specs.PrivateCopy.{Mark, covers, is_covered}
use Rattle.marks.proofs.MarkLaws.{length-marks_of}
use Rattle.marks.specs.Marked.{mark_of, marks_of}
use Rattle.marks.specs.declared.owned.OwnedMark.{OwnedMark}
use Rattle.pivot_check.proofs.Walks.{least-or, none_asked}
use Rattle.pivot_check.proofs.Writers.{least_alike}
use Rattle.pivot_check.specs.Agreeing.{lesser_none, lesser_assoc}
use Rattle.pivot_check.specs.Places.{places_upto, is_covered_at, covered_at, AreAllPlaces}
use Rattle.pivot_check.specs.Postings.{Posting, least, lesser, is_asked, asked_of, covered_of}

-- ---- all places

upto_covered : (ms : List Mark) (k : Bytes) (n : ℕ) → list_any (λ i. is_covered (take 1 (drop i ms)) k) (places_upto n) ≡ is_covered (take n ms) k
upto_covered ms k zero = refl
upto_covered ms k (suc n) =
    grind (
      arith,
      upto_covered ms k n,
      list_any-append (λ i. is_covered (take 1 (drop i ms)) k) (places_upto n) (n ∷ []),
      list_any-append (λ m. covers m k) (take n ms) (take 1 (drop n ms)),
      take-add n 1 ms,
    )

-- in whatever order the places of all marks stand, these cover the same
pub in_any_order : (hs : List OwnedMark) (places : List ℕ) → IsPermutation (places_upto (length hs)) places → AreAllPlaces (marks_of hs) places
in_any_order hs places all k =
    let long : length (marks_of hs) ≤ length hs = omega (arith, length-marks_of hs) in
    sym (list_any-IsPermutation (λ i. is_covered (take 1 (drop i (marks_of hs))) k) (places_upto (length hs)) places all)
    ∙ upto_covered (marks_of hs) k (length hs)
    ∙ ap (λ l. is_covered l k) (take_all (length hs) (marks_of hs) long)

pub all_places : (ms : List Mark) (places : List ℕ) → AreAllPlaces ms places → (b : ℕ) (flagged : Bool) (ps : List Posting)
    → least (covered_at ms places b flagged) ps ≡ least (covered_of ms b flagged) ps
all_places ms places all b flagged ps = least_alike _ _ (λ p. ap (λ x. x && is_asked b flagged p) (all p.key)) ps

-- ---- one place

covers_at : (hs : List OwnedMark) (i : ℕ) (h : OwnedMark) (k : Bytes) → i < length hs → h ≡ get_or hs i h
    → is_covered (take 1 (drop i (marks_of hs))) k ≡ covers (mark_of h) k
covers_at [] i h k lt is = absurd (omega arith)
covers_at (x ∷ hs) zero h k lt is = or_false (covers (mark_of x) k) ∙ ap (λ (y : OwnedMark). covers (mark_of y) k) (sym is)
covers_at (x ∷ hs) (suc i) h k lt is = covers_at hs i h k (omega arith) is

-- what is asked at a place is asked of the mark that stands there
pub asked_at : (hs : List OwnedMark) (i : ℕ) (h : OwnedMark) (b : ℕ) (flagged : Bool) (ps : List Posting) → i < length hs → h ≡ get_or hs i h
    → least (covered_at (marks_of hs) (i ∷ []) b flagged) ps ≡ least (asked_of (mark_of h) b flagged) ps
asked_at hs i h b flagged ps lt is = least_alike _ _ (λ p. ap (λ x. x && is_asked b flagged p) (or_false _ ∙ covers_at hs i h p.key lt is)) ps

-- nothing is asked where no mark stands
pub asked_past : (hs : List OwnedMark) (i : ℕ) (b : ℕ) (flagged : Bool) (ps : List Posting) → length hs ≤ i
    → least (covered_at (marks_of hs) (i ∷ []) b flagged) ps ≡ None
asked_past hs i b flagged ps le =
    least_alike _ _ (λ p. ap (λ x. x && is_asked b flagged p) (or_false _
    ∙ ap (λ ms. is_covered (take 1 ms) p.key) (drop_all i (marks_of hs) (omega (arith, length-marks_of hs))))) ps ∙ none_asked (is_asked b flagged) ps

-- ---- a walk over places

pub no_place_left : (ms : List Mark) (places : List ℕ) (i : ℕ) (b : ℕ) (flagged : Bool) (ps : List Posting) (found whole : Option ℕ) → length places ≤ i
    → lesser found (least (covered_at ms (drop i places) b flagged) ps) ≡ whole → found ≡ whole
no_place_left ms places i b flagged ps found whole le known =
    grind (arith, lesser_none, at_drop_all (λ l. least (covered_at ms l b flagged) ps) places i le, none_asked (is_asked b flagged) ps)

pub next_place : (ms : List Mark) (places : List ℕ) (i : ℕ) (b : ℕ) (flagged : Bool) (ps : List Posting) (found next whole : Option ℕ) → i < length places
    → next ≡ lesser found (least (covered_at ms (get_or places i 0 ∷ []) b flagged) ps)
    → lesser found (least (covered_at ms (drop i places) b flagged) ps) ≡ whole
    → lesser next (least (covered_at ms (drop (i + 1) places) b flagged) ps) ≡ whole
next_place ms places i b flagged ps found next whole lt more known =
    let x = get_or places i 0 in
    let here = least-or (λ p. is_covered (take 1 (drop x ms)) p.key) (λ p. is_covered_at ms (drop (i + 1) places) p.key) (is_asked b flagged) ps in
    let alone = least_alike _ _ (λ p. ap (λ y. y && is_asked b flagged p) (or_false (is_covered (take 1 (drop x ms)) p.key))) ps in
    grind (arith, lesser_assoc, at_drop_more (λ l. least (covered_at ms l b flagged) ps) places i 0 lt)
