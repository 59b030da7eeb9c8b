-- Open transactions by session: the engine's beside the machine's.
use Rattle.std.proofs.Common.{◌≡◌, ℕ, T, List, [], ◌∷◌, Some, None, refl, arith, inl, inr}
use Rattle.std.proofs.lemmas.Bool.{cases_Bool}
use Rattle.std.proofs.lemmas.Bool.Decides.{nat_tests}
use Rattle.std.proofs.lemmas.Cmp.{nat_cmp_total}
use Rattle.std.proofs.lemmas.Grind.{common_steps}
use Rattle.std.specs.BTreeMap.{insert_entry, is_at}
use Rattle.std.specs.FinMap.Entries.{find, put, where_key, below_all, is_sorted}
use Rattle.std.specs.List.{AllZip}
use Rattle.std.specs.Map.{lookup, remove_entry, set_value}
use Rattle.std.specs.Ordering.{is_eq, nat_cmp}
use Rattle.std.specs.Prelude.{not, ◌==◌}
use Rattle.model.proofs.InOrder.{parts, less, find_none, below_later, below_equal}

all_above : {B : Type 0} (s : ℕ) (rs : List (ℕ × B)) → T (below_all nat_cmp s rs) → where_key nat_cmp (λ x. not (x == s)) rs ≡ rs
all_above s [] h = refl
all_above s (r ∷ rs) h = grind (arith, common_steps, nat_tests, all_above s rs, less, parts)

module _ {A B : Type 0} (R : A → B → Type 0) where
  abbrev pub Beside : List (ℕ × A) → List (ℕ × B) → Type 0
  Beside es rs = AllZip (λ e r. (e.0 ≡ r.0) × R e.1 r.1) es rs

  pub beside_none : (s : ℕ) (es : List (ℕ × A)) (rs : List (ℕ × B)) → Beside es rs → lookup (is_at (nat_cmp s)) es ≡ None → find nat_cmp s rs ≡ None
  beside_none s [] [] h e = refl
  beside_none s (x ∷ xs) (r ∷ rs) h e = grind (arith, common_steps, beside_none s xs rs h.1)
  beside_none s es rs h e = absurd h

  pub record IsFound (s : ℕ) (t : A) (rs : List (ℕ × B)) : Type 0 where
    pub run : B
    pub is : find nat_cmp s rs ≡ Some run
    pub same : R t run

  pub beside_some : (s : ℕ) (t : A) (es : List (ℕ × A)) (rs : List (ℕ × B)) → Beside es rs → lookup (is_at (nat_cmp s)) es ≡ Some t → IsFound s t rs
  beside_some s t [] rs h e = cc
  beside_some s t (x ∷ xs) [] h e = absurd h
  beside_some s t (x ∷ xs) (r ∷ rs) h e = elim (cases_Bool (is_eq (nat_cmp s r.0))) [
    | inl own ↦ record { run = r.1; is = grind (arith, common_steps); same = grind (arith, common_steps) }
    | inr other ↦ let there =
        beside_some s t xs rs h.1 (grind (arith, common_steps)) in record { run = there.run; is = grind (arith, common_steps); same = there.same }
  ]

  pub beside_insert : (s : ℕ) (t : A) (run : B) (es : List (ℕ × A)) (rs : List (ℕ × B)) → Beside es rs → R t run
      → Beside (insert_entry nat_cmp es s t) (put nat_cmp s run rs)
  beside_insert s t run [] [] h same = ((refl, same), tt)
  beside_insert s t run (x ∷ xs) (r ∷ rs) h same = grind (arith, common_steps, nat_tests, beside_insert s t run xs rs h.1 same)
  beside_insert s t run es rs h same = absurd h

  pub beside_remove : (s : ℕ) (es : List (ℕ × A)) (rs : List (ℕ × B)) → T (is_sorted nat_cmp rs) → Beside es rs
      → Beside (remove_entry (is_at (nat_cmp s)) es) (where_key nat_cmp (λ x. not (x == s)) rs)
  beside_remove s [] [] sorted h = tt
  beside_remove s (x ∷ xs) (r ∷ rs) sorted h =
      let p = parts (below_all nat_cmp r.0 rs) (is_sorted nat_cmp rs) sorted in
      grind (arith, common_steps, nat_tests, beside_remove s xs rs p.1 h.1, all_above s rs, below_equal nat_cmp_total s r.0 rs)
  beside_remove s es rs sorted h = absurd h

  -- a transaction written back where it was found
  pub beside_set : (s : ℕ) (t t' : A) (run : B) (es : List (ℕ × A)) (rs : List (ℕ × B)) → T (is_sorted nat_cmp rs) → Beside es rs
      → lookup (is_at (nat_cmp s)) es ≡ Some t → R t' run →
      Beside (set_value (is_at (nat_cmp s)) es t') (put nat_cmp s run rs)
  beside_set s t t' run [] rs sorted h e same = cc
  beside_set s t t' run (x ∷ xs) [] sorted h e same = absurd h
  beside_set s t t' run (x ∷ xs) (r ∷ rs) sorted h e same =
      let p = parts (below_all nat_cmp r.0 rs) (is_sorted nat_cmp rs) sorted in
      let there = beside_some s t xs rs h.1 in
      grind (arith, common_steps, nat_tests, beside_set s t t' run xs rs p.1 h.1, there, find_none nat_cmp s rs, below_later nat_cmp_total s r.0 rs)

-- what holds of each two holds after a change of what is asked
pub beside_weaker : {A B : Type 0} (R S : A → B → Type 0) → ((a : A) (b : B) → R a b → S a b) → (es : List (ℕ × A)) (rs : List (ℕ × B)) → Beside R es rs
    → Beside S es rs
beside_weaker R S f [] [] h = tt
beside_weaker R S f (x ∷ xs) (r ∷ rs) h = ((h.0.0, f x.1 r.1 h.0.1), beside_weaker R S f xs rs h.1)
beside_weaker R S f es rs h = absurd h
