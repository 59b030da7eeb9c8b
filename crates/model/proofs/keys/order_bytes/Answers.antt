use Rattle.model.proofs.keys.order_bytes.Goals as goal
use Rattle.std.proofs.Common.{◌≡◌, ℕ, ◌+◌, ◌<◌, List, drop, sym, subst, ◌∙◌, arith, get_or-drop, nat_cmp}
use Rattle.std.proofs.lemmas.List.{take_rest}
use Rattle.byteorder.specs.Endian.{big_number}
use Rattle.model.proofs.KeyNumbers.{AreBytes, apart, alike}
use Rattle.model.specs.Map.{key_cmp}

later : (n : ℕ) (xs : List ℕ) → AreBytes xs → AreBytes (drop n xs)
later n xs g k = subst (λ (b : ℕ). b < 256) (sym (get_or-drop n xs k 0)) (g (n + k))

pub returns-then-first-second : goal.returns-then-first-second
returns-then-first-second c =
    let xs : List ℕ = c.loop-left.left.now in
    let ys : List ℕ = c.loop-left.right.now in
    let (same, left, right) = c.loop-left.invariant in
    let x : c.read_u64-first.result ≡ big_number 8 xs = c.read_u64-first.ensures in
    let y : c.read_u64-second.result ≡ big_number 8 ys = c.read_u64-second.ensures in
    c.cmp.ensures ∙ (λ i. nat_cmp (x i) (y i)) ∙ apart 8 xs ys (omega arith) (omega arith) left right (λ e. c.if-first-second.true (x ∙ e ∙ sym y)) ∙ same

pub loop-left-preserved : goal.loop-left-preserved
loop-left-preserved c =
    let xs : List ℕ = c.loop-left.left.now in
    let ys : List ℕ = c.loop-left.right.now in
    let (same, left, right) = c.loop-left.invariant in
    let e : big_number 8 xs ≡ big_number 8 ys = sym c.read_u64-first.ensures ∙ c.if-first-second.false ∙ c.read_u64-second.ensures in (
      (λ i. key_cmp (take_rest xs 8 i) (take_rest ys 8 i)) ∙ sym (alike 8 xs ys (omega arith) (omega arith) left right e) ∙ same,
      subst AreBytes (sym (take_rest xs 8)) (later 8 xs left),
      subst AreBytes (sym (take_rest ys 8)) (later 8 ys right),
    )
