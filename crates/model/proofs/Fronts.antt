-- Lists that begin alike.
use Rattle.std.proofs.Common.{◌≡◌, ℕ, List, ◌++◌, length, take, drop, refl, sym, ap, ◌∙◌, take_at, drop_at}

-- lists of one length before others
pub same_front : (xs ys r s : List ℕ) → length xs ≡ length ys → xs ++ r ≡ ys ++ s → (xs ≡ ys) × (r ≡ s)
same_front xs ys r s len same = (
  sym (take_at xs r (length ys) len) ∙ ap (λ (l : List ℕ). take (length ys) l) same ∙ take_at ys s (length ys) refl,
  sym (drop_at xs r (length ys) len) ∙ ap (λ (l : List ℕ). drop (length ys) l) same ∙ drop_at ys s (length ys) refl,
)
