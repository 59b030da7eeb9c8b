-- Marks, and whether one more fits.
use Rattle.std.proofs.Common.{◌≡◌, ℕ, suc, ◌+◌, take, get_or, ◌<◌, ◌≤◌, Bool, true, false, not, ◌&&◌, List, []}
use Rattle.std.proofs.Common.{◌∷◌, ◌++◌, length, Result, Err, refl, sym, ap, ◌∙◌, arith}
use Rattle.std.proofs.lemmas.Bool.{both_ways, lt-ltb, le-ltb}
use Rattle.std.proofs.lemmas.List.{take_more}
use Rattle.std.specs.Prelude.{nat_lt, if◌then◌else◌, IsTrue, ◌↔◌}
use Rattle.model.specs.PrivateCopy.{Mark}
use Rattle.marks.specs.Marked.{mark_of, marks_of, has_mark, is_full_for_mark, with_mark}
use Rattle.marks.specs.declared.faults.MarksFault.{MarksFault}
use Rattle.marks.specs.declared.faults.MarksFault.TheVariants.{FullMarks}
use Rattle.marks.specs.declared.owned.OwnedMark.{OwnedMark}

pub length-marks_of : (hs : List OwnedMark) → length (marks_of hs) ≡ length hs
length-marks_of [] = refl
length-marks_of (h ∷ hs) = ap (λ n. suc n) (length-marks_of hs)

pub marks_of-push : (hs : List OwnedMark) (h : OwnedMark) → marks_of (hs ++ h ∷ []) ≡ marks_of hs ++ mark_of h ∷ []
marks_of-push [] h = refl
marks_of-push (x ∷ hs) h = ap (λ ms. mark_of x ∷ ms) (marks_of-push hs h)

pub full : (hs : List OwnedMark) (ms : List Mark) (m : Mark) → marks_of hs ≡ ms → has_mark ms m ≡ false → 256 ≤ length hs → is_full_for_mark ms m ≡ true
full hs ms m is new many =
    let long : 256 ≤ length ms = omega (arith, length-marks_of hs, ap length is) in
    ap (λ b. not b && not (nat_lt (length ms) 256)) new ∙ ap not (le-ltb (length ms) 256 long)

pub not_full : (hs : List OwnedMark) (ms : List Mark) (m : Mark) → marks_of hs ≡ ms → length hs < 256 → is_full_for_mark ms m ≡ false
not_full hs ms m is few =
    let short : length ms < 256 = omega (arith, length-marks_of hs, ap length is) in
    ap (λ b. not (has_mark ms m) && not b) (lt-ltb (length ms) 256 short) ∙ never (not (has_mark ms m))
  where
    never : (b : Bool) → (b && false) ≡ false
    never true = refl
    never false = refl

-- a refusal that isn't `FullMarks`, where there is room
pub only_full : (r : Result (Unit {0}) MarksFault) (b : Bool) → (r ≡ Err FullMarks → ⊥) → b ≡ false → (r ≡ Err FullMarks) ↔ IsTrue b
only_full r b other fails = (λ e. absurd (other e), λ t. absurd (both_ways b fails t))

pub with_new : (hs gs : List OwnedMark) (h : OwnedMark) (ms : List Mark) (m : Mark) → marks_of hs ≡ ms → has_mark ms m ≡ false → mark_of h ≡ m
    → gs ≡ hs ++ h ∷ [] → marks_of gs ≡ with_mark ms m
with_new hs gs h ms m is new same pushed =
    ap marks_of pushed ∙ marks_of-push hs h ∙ (λ i. is i ++ same i ∷ []) ∙ sym (ap (λ b. if b then ms else ms ++ m ∷ []) new)

pub copied : (hs all : List OwnedMark) (i : ℕ) (h g : OwnedMark) → i < length all → marks_of hs ≡ marks_of (take i all) → mark_of h ≡ mark_of g
    → g ≡ get_or all i g → marks_of (hs ++ h ∷ []) ≡ marks_of (take (i + 1) all)
copied hs all i h g lt same made is =
    marks_of-push hs h ∙ (λ j. same j ++ made j ∷ [])
    ∙ sym (ap marks_of (take_more all i g lt ∙ ap (λ x. take i all ++ x ∷ []) (sym is)) ∙ marks_of-push (take i all) g)
