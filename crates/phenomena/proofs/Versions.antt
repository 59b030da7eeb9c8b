-- The value of the version that a number sees: what its writer wrote last, and what the base has where there is none.
use Rattle.std.proofs.Common.{◌≡◌, ℕ, ◌<◌, ◌≤◌, true, cond, List, [], ◌∷◌, Some, None, unwrap_or, refl, sym, ap, ◌∙◌}
use Rattle.std.proofs.Common.{arith, inl, inr, nat_le, nat_cmp}
use Rattle.std.proofs.lemmas.Bool.{leb-true, leb-false, cond_both, or_cases, false_from_ne_true}
use Rattle.std.proofs.lemmas.Grind.{common_steps}
use Rattle.std.specs.Cmp.Lexicographic.{slice_cmp}
use Rattle.std.specs.FinMap.Entries.{find}
use Rattle.std.specs.List.{list_any, AllByRecursion}
use Rattle.model.proofs.Lookups.{same_key, value_after_others, value_after_values, IsMap-after_writes}
use Rattle.model.proofs.Members.{In, IsRising, at_in, each_in}
use Rattle.model.specs.Dependency.{writes_key}
use Rattle.model.specs.History.{Record, map_at, IsTrueRecord}
use Rattle.model.specs.Map.{Bytes, KeyMap, IsMap, value_at, is_same_key, after_writes}
use Rattle.model.specs.PrivateCopy.{values_at, copy_of, copy_after}
use Rattle.phenomena.specs.Adya.{last_written}

pub IsMap-map_at : (rs : List Record) (m : KeyMap) (n : ℕ) → IsMap m → IsMap (map_at m rs n)
IsMap-map_at [] m n h = h
IsMap-map_at (r ∷ rs) m n h =
    IsMap-map_at rs _ n (cond_both (nat_le r.commit n) (after_writes m r.writes) m IsMap (λ _. IsMap-after_writes m r.writes h) (λ _. h))

-- ---- the writes of one transaction

find_values : (c : KeyMap) (ks : List Bytes) (k : Bytes) → list_any (λ w. is_same_key k w.0) (values_at c ks) ≡ true →
    (list_any (is_same_key k) ks ≡ true) × (find (slice_cmp nat_cmp) k (values_at c ks) ≡ Some (value_at c k))
find_values c [] k h = cc
find_values c (j ∷ ks) k h = grind (arith, common_steps, or_cases, same_key k j, find_values c ks k)

-- what they leave at a key is what was written to it last
pub writes_leave : (base : KeyMap) (history : List Record) (t : Record) → IsTrueRecord base history t → (k : Bytes) → writes_key t k ≡ true →
    (m : KeyMap) → value_at (after_writes m t.writes) k ≡ last_written t k
writes_leave base history t is k w m =
    let c : KeyMap = (copy_after (copy_of (map_at base history t.begin)) t.requests).contents in
    let ks : List Bytes = (copy_after (copy_of (map_at base history t.begin)) t.requests).written in
    let found = find_values c ks k (ap (list_any (λ w. is_same_key k w.0)) (sym is.writes) ∙ w) in
    ap (λ ws. value_at (after_writes m ws) k) is.writes ∙ value_after_values ks m c k ∙ ap (λ b. cond b (value_at c k) (value_at m k)) found.0
    ∙ sym (ap (λ ws. unwrap_or (find (slice_cmp nat_cmp) k ws) None) is.writes ∙ ap (λ o. unwrap_or o None) found.1)

-- ---- the writes of all

abbrev pub WritesNot : ℕ → Bytes → Record → Type 0
WritesNot n k r = writes_key r k ≡ true → r.commit ≤ n → ⊥

pub value_unwritten : (rs : List Record) (m : KeyMap) (n : ℕ) (k : Bytes) → AllByRecursion (WritesNot n k) rs → value_at (map_at m rs n) k ≡ value_at m k
value_unwritten [] m n k h = refl
value_unwritten (r ∷ rs) m n k h =
    value_unwritten rs _ n k h.1
    ∙ cond_both (nat_le r.commit n) (after_writes m r.writes) m (λ c. value_at c k ≡ value_at m k)
    (λ e. value_after_others r.writes m k (false_from_ne_true _ (λ w. h.0 w (leb-true r.commit n e)))) (λ _. refl)

module _ (n : ℕ) (k : Bytes) (t : Record) (w : writes_key t k ≡ true) (le : t.commit ≤ n) (leave : (m : KeyMap)
    → value_at (after_writes m t.writes) k ≡ last_written t k) where
  pub value_written : (rs : List Record) (m : KeyMap) → IsRising rs → In t rs →
      AllByRecursion (λ r. writes_key r k ≡ true → r.commit ≤ n → r.commit ≤ t.commit) rs → value_at (map_at m rs n) k ≡ last_written t k
  value_written [] m rise t_in last = absurd t_in
  value_written (r ∷ rs) m rise (inl e) last =
      let same : t.commit ≡ r.commit = ap (λ (x : Record). x.commit) e in
      let later : AllByRecursion (WritesNot n k) rs =
      each_in (WritesNot n k) rs
      (λ s s_in s_w s_le. let above = at_in (λ x. r.commit < x.commit) rs s rise.0 s_in in let below = at_in _ rs s last.1 s_in s_w s_le in omega (
        arith,
        above,
        below,
        same,
      )) in
      value_unwritten rs _ n k later
      ∙ cond_both (nat_le r.commit n) (after_writes m r.writes) m (λ c. value_at c k ≡ last_written t k)
      (λ _. ap (λ (x : Record). value_at (after_writes m x.writes) k) (sym e) ∙ leave m)
      (λ no. absurd (let above = leb-false r.commit n no in omega (arith, above, same)))
  value_written (r ∷ rs) m rise (inr g) last = value_written rs _ rise.1 g last.1
