-- The steps of marks.
use Rattle.std.proofs.Common.{◌≡◌, ◌-◌, ℕ, zero, suc, cond, ◌||◌, List, [], ◌∷◌, None, length, take, drop, refl}
use Rattle.std.proofs.Common.{arith}
use Rattle.std.proofs.lemmas.Bool.Decides.{nat_tests}
use Rattle.std.proofs.lemmas.List.{take_rest}
use Rattle.std.specs.Cmp.Lexicographic.{nat_list_cmp_total}
use Rattle.std.specs.declared.cmp.Ordering.TheVariants.{Less, Equal, Greater}
use Rattle.model.proofs.Entries.{turned}
use Rattle.model.proofs.KeyOrder.{same_keys, less_trans}
use Rattle.model.specs.Map.{Bytes, key_cmp}
use Rattle.model.specs.PrivateCopy.{covers, is_covered}
use Rattle.model.specs.PrivateCopy.Mark.{OfKey, OfRange}
use Rattle.marks.specs.Marked.{marks_of}
use Rattle.marks.specs.declared.owned.OwnedMark.{OwnedMark}
use Rattle.last_readers.specs.Merging.{later}
use Rattle.last_readers.specs.Steps.{by_order, span_at}

-- ---- one mark

pub key_step : (j k : Bytes) → by_order (key_cmp k j) 0 1 0 ≡ cond (covers (OfKey j) k) 1 0
key_step j k = grind (arith, turned k j)

pub open_step : (lo k : Bytes) → by_order (key_cmp k lo) 0 1 1 ≡ cond (covers (OfRange lo None) k) 1 0
open_step lo k = grind (arith, turned k lo)

-- ---- a span

pub two_steps : (lo end : Bytes) (at : ℕ) (k : Bytes) → key_cmp lo end ≡ Less
    → by_order (key_cmp k lo) 0 1 (by_order (key_cmp k end) 1 at 0) ≡ span_at lo end at k
two_steps lo end at k e = grind (arith, turned k lo, nat_list_cmp_total.congr k lo end)

pub one_step : (lo end : Bytes) (at : ℕ) (k : Bytes) → key_cmp lo end ≡ Equal → by_order (key_cmp k lo) 0 at 0 ≡ span_at lo end at k
one_step lo end at k e = let same = same_keys lo end e in grind (arith, turned k lo)

pub no_step : (lo end : Bytes) (at : ℕ) (k : Bytes) → key_cmp lo end ≡ Greater → 0 ≡ span_at lo end at k
no_step lo end at k e = grind (arith, turned lo end, turned end k, less_trans end lo k, same_keys lo k)

-- ---- several marks

covered_by_halves : (hs : List OwnedMark) (i : ℕ) (k : Bytes)
    → (is_covered (marks_of (take i hs)) k || is_covered (marks_of (drop i hs)) k) ≡ is_covered (marks_of hs) k
covered_by_halves hs zero k = refl
covered_by_halves [] (suc i) k = refl
covered_by_halves (h ∷ hs) (suc i) k = grind (arith, covered_by_halves hs i k)

-- the two halves of the marks as one
pub both_covered : (hs : List OwnedMark) (i : ℕ) (k : Bytes)
    → later 0 (cond (is_covered (marks_of (take i hs)) k) 1 0) (cond (is_covered (marks_of (take (length hs - i) (drop i hs))) k) 1 0)
    ≡ cond (is_covered (marks_of hs) k) 1 0
both_covered hs i k =
    grind (arith, nat_tests, take_rest hs i, covered_by_halves hs i k)
