-- What is read of a script.
use Rattle.std.proofs.Common.{◌≡◌, ℕ, suc, ◌+◌, ◌-◌, ◌<◌, Bool, true, false, [], ◌∷◌, length, get_or, take, drop}
use Rattle.std.proofs.Common.{cond, Option, Some, None, refl, sym, ap, ◌∙◌, arith}
use Rattle.std.proofs.Math.Dec.{eqb}
use Rattle.std.proofs.Math.ListN.{drop_of_length-le}
use Rattle.std.proofs.lemmas.Bool.Decides.{nat_tests}
use Rattle.std.proofs.lemmas.List.{drop_more}
use Rattle.std.specs.Cmp.Lexicographic.{pointwise}
use Rattle.std.specs.Io.BufRead.{take_through, ends_with_byte, DropsThrough}
use Rattle.std.specs.Io.Buffered.{reader_remaining, reader_buffer, reader_capacity}
use Rattle.std.specs.Io.KnownBytes.{prepend_known}
use Rattle.std.specs.List.{ends_with}
use Rattle.std.specs.Prelude.{IfSome, ◌==◌, ◌&&◌, nat_lt}
use Rattle.std.specs.declared.io.buffered.BufReader.{BufReader}
use Rattle.model.specs.Map.{Bytes}
use Rattle.scripts.specs.Calls.{ReadsLine}

same_test : (y k : ℕ) → (eqb 10 y && true) ≡ (nat_lt 0 (suc k) && (y == 10))
same_test y k = grind (arith, nat_tests)

-- whether the byte ends a text, in the two words for it
ends_is : (xs : Bytes) → ends_with eqb xs (10 ∷ []) ≡ ends_with_byte 10 xs
ends_is [] = refl
ends_is (x ∷ xs) =
    let l = x ∷ xs in
    let n = length l - 1 in
    let last : drop n l ≡ get_or l n 0 ∷ [] =
    drop_more l n 0 (omega arith) ∙ ap (λ rest. get_or l n 0 ∷ rest) (drop_of_length-le l {i = n + 1} (omega arith)) in
    ap (λ behind. pointwise eqb (10 ∷ []) behind) last ∙ same_test (get_or l n 0) (length xs)

-- a line was read that has no end
pub unended_line : (left : Option Bytes) (items : Bytes) (behind : Option Bytes) → IfSome left (λ xs. items ≡ take_through 10 xs) → DropsThrough left behind 10
    → 0 < length items
    → ends_with eqb items (10 ∷ []) ≡ false → IfSome left (λ xs. ReadsLine xs true items behind)
unended_line None items behind taken dropped some ended = tt
unended_line (Some xs) items behind taken dropped some ended =
    let whole = take_through 10 xs in
    let same : ends_with_byte 10 (take_through 10 xs) ≡ false = ap (ends_with_byte 10) (sym taken) ∙ sym (ends_is items) ∙ ended in (
      (λ none. let nothing : length items ≡ 0 = ap length (taken ∙ ap (take_through 10) none) in omega arith),
      taken ∙ sym (ap (λ (b : Bool). cond b (take (length whole - 1) whole) whole) same),
      dropped,
    )

prepend_nothing : (known : Option Bytes) → prepend_known [] known ≡ known
prepend_nothing None = refl
prepend_nothing (Some xs) = refl

-- a reader over another, of which nothing was read yet
pub fresh_reader : {T A : Type 0} (remaining : T → Option Bytes) (r : BufReader T A) (inner : T) → reader_capacity r ≡ 8192 → reader_buffer r ≡ []
    → r.inner ≡ inner → reader_remaining remaining r ≡ remaining inner
fresh_reader remaining r inner capacity empty is =
    ap (λ (n : ℕ). cond (n == 0) None (prepend_known (reader_buffer r) (remaining r.inner))) capacity
    ∙ ap (λ bytes. prepend_known bytes (remaining r.inner)) empty
    ∙ prepend_nothing (remaining r.inner)
    ∙ ap remaining is
