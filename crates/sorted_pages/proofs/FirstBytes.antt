-- The heads of two keys stand as the keys do, where they differ; and what entries come to has the head of their first key.
use Rattle.std.proofs.Common.{◌≡◌, ℕ, zero, suc, ◌+◌, ◌*◌, ◌^◌, ◌<◌, ◌≤◌, List, [], ◌∷◌, ◌++◌, length, take, drop}
use Rattle.std.proofs.Common.{set, insert, replicate, get_or, nat_lt, refl, sym, subst, ap, ◌∙◌, arith}
use Rattle.std.proofs.lemmas.Bool.Decides.{nat_tests}
use Rattle.std.proofs.lemmas.Grind.{common_steps}
use Rattle.std.specs.Cmp.Lexicographic.{slice_cmp}
use Rattle.std.specs.Ordering.{nat_cmp, is_le}
use Rattle.std.specs.declared.cmp.Ordering.{Ordering}
use Rattle.std.specs.declared.cmp.Ordering.TheVariants.{Less, Greater}
use Rattle.byteorder.specs.Endian.{big_number}
use Rattle.byteorder.specs.Numbers.{big_from-cons}
use Rattle.model.proofs.FirstBytes.{less}
use Rattle.model.proofs.KeyOrder.{turned_less}
use Rattle.model.specs.FirstBytes.{AreBytes, first_bytes}
use Rattle.model.specs.Map.{Bytes}
use Rattle.sorted_pages.specs.Heads.{IsFirstHead, IsHeadOf}
use Rattle.sorted_pages.specs.Pages.{starts_by}

by_order : (h g : ℕ) (o : Ordering) → (h < g → o ≡ Less) → (g < h → o ≡ Greater) → (h ≡ g → ⊥) → nat_lt h g ≡ is_le o
by_order h g o up down differ = grind (arith, common_steps, nat_tests)

-- the keys of two heads stand as the heads do, where these differ
pub by_head : (x k : Bytes) (h g : ℕ) → IsHeadOf x h → IsHeadOf k g → (h ≡ g → ⊥) → nat_lt h g ≡ is_le (slice_cmp nat_cmp x k)
by_head x k h g a b differ =
    let up : h < g → slice_cmp nat_cmp x k ≡ Less = λ p. less 16 x k a.bytes b.bytes (let m = a.number in let n = b.number in omega arith) in
    let down : g < h → slice_cmp nat_cmp x k ≡ Greater =
    λ p. turned_less k x (less 16 k x b.bytes a.bytes (let m = a.number in let n = b.number in omega arith)) in
    by_order h g (slice_cmp nat_cmp x k) up down differ

-- where there are so many bytes, their number is theirs
whole : (n : ℕ) (xs : List ℕ) → n ≤ length xs → big_number n xs ≡ first_bytes n xs
whole zero xs p = refl
whole (suc n) (x ∷ xs) p = ap (λ (r : ℕ). x * 256 ^ n + r) (big_from-cons 0 n x xs ∙ whole n xs (omega arith))
whole (suc n) [] p = absurd (omega arith)

zeros : (n m i : ℕ) → first_bytes n (drop i (replicate m 0)) ≡ 0
zeros zero m i = refl
zeros (suc n) zero zero = refl
zeros (suc n) zero (suc i) = refl
zeros (suc n) (suc m) zero = let rest = zeros n m 0 in grind (arith, common_steps)
zeros (suc n) (suc m) (suc i) = zeros (suc n) m i

-- zeros behind the last change nothing
padded : (n m i : ℕ) (xs : List ℕ) → first_bytes n (xs ++ drop i (replicate m 0)) ≡ first_bytes n xs
padded zero m i xs = refl
padded (suc n) m i [] = zeros (suc n) m i
padded (suc n) m i (x ∷ xs) = ap (λ (r : ℕ). x * 256 ^ n + r) (padded n m i xs)

pub of_whole : (xs : Bytes) (h : ℕ) → AreBytes xs → 16 ≤ length xs → h ≡ big_number 16 xs → IsHeadOf xs h
of_whole xs h bytes long is = record { number = is ∙ whole 16 xs long; bytes = bytes }

pub of_padded : (xs ys : Bytes) (h : ℕ) → AreBytes xs → length xs < 16 → ys ≡ xs → h ≡ big_number 16 (ys ++ drop (length xs) (replicate 16 0)) → IsHeadOf xs h
of_padded xs ys h bytes short same is =
    let long : 16 ≤ length (xs ++ drop (length xs) (replicate 16 0)) = grind (arith, common_steps) in
    record {
      number = is ∙ ap (λ (zs : Bytes). big_number 16 (zs ++ drop (length xs) (replicate 16 0))) same ∙ whole 16 _ long ∙ padded 16 16 (length xs) xs;
      bytes = bytes;
    }

module _ {X : Type 0} where
  pub starts_head : (k : Bytes) (es : List (Bytes × X)) (h g : ℕ) → IsFirstHead es h → IsHeadOf k g → (h ≡ g → ⊥) → 0 < length es
      → nat_lt h g ≡ starts_by k es
  starts_head k [] h g a b differ some = absurd (omega arith)
  starts_head k (e ∷ es) h g a b differ some = by_head e.0 k h g a b differ

  -- an entry that comes in after the first leaves the first
  pub head-insert : (es : List (Bytes × X)) (i h : ℕ) (e : Bytes × X) → 0 < i → i ≤ length es → IsFirstHead es h → IsFirstHead (insert es i e) h
  head-insert es zero h e p within is = absurd (omega arith)
  head-insert [] (suc i) h e p within is = absurd (omega arith)
  head-insert (d ∷ es) (suc i) h e p within is = is

  pub head-push : (es : List (Bytes × X)) (h : ℕ) (e : Bytes × X) → 0 < length es → IsFirstHead es h → IsFirstHead (es ++ e ∷ []) h
  head-push [] h e p is = absurd (omega arith)
  head-push (d ∷ es) h e p is = is

  pub head-take : (n h : ℕ) (es : List (Bytes × X)) → IsFirstHead es h → IsFirstHead (take n es) h
  head-take zero h es is = tt
  head-take (suc n) h [] is = tt
  head-take (suc n) h (e ∷ es) is = is

  -- so does another value of an entry
  pub head-set : (es : List (Bytes × X)) (i h : ℕ) (e d : Bytes × X) → d ≡ get_or es i d → e.0 ≡ d.0 → IsFirstHead es h → IsFirstHead (set es i e) h
  head-set [] i h e d at same is = tt
  head-set (c ∷ es) zero h e d at same is = subst (λ (k : Bytes). IsHeadOf k h) (sym (same ∙ ap (λ (b : Bytes × X). b.0) at)) is
  head-set (c ∷ es) (suc i) h e d at same is = is
