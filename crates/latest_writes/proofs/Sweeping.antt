-- Of sorted writes those that another has replaced can be left out, and deletions of keys that are not there.
use Rattle.std.proofs.Common.{◌≡◌, ◌⊎◌, ℕ, suc, ◌+◌, Bool, true, false, cond, List, [], ◌∷◌, ◌++◌, get_or, Option}
use Rattle.std.proofs.Common.{None, refl, sym, ap, subst, ◌∙◌, inl, inr, arith}
use Rattle.std.proofs.lemmas.Cmp.{tied_itself, upto}
use Rattle.std.proofs.lemmas.Grind.{common_steps}
use Rattle.std.specs.Cmp.Lexicographic.{nat_list_cmp_total}
use Rattle.std.specs.List.Sorted.{IsSortedBy}
use Rattle.std.specs.Ordering.{is_eq, is_lt, is_gt, ordering_reverse}
use Rattle.std.specs.declared.cmp.Ordering.{Ordering}
use Rattle.std.specs.declared.cmp.Ordering.TheVariants.{Less, Equal, Greater}
use Rattle.model.proofs.Lookups.{same_key, value_after_write, IsMap-after_write, same_map}
use Rattle.model.specs.Map.{Bytes, KeyMap, KeyWrite, IsMap, value_at, key_cmp, is_same_key, after_write, after_writes}
use Rattle.latest_writes.proofs.Stable.{after_writes-push}
use Rattle.latest_writes.specs.Rising.{has_lower_key}

-- q is at most k
abbrev pub IsUpTo : Bytes → Bytes → Type 0
IsUpTo q k = is_gt (key_cmp q k) ≡ false

-- the keys rise, or stay, from k on
abbrev pub Rises : Bytes → List KeyWrite → Type 0
Rises k [] = Unit {0}
Rises k (w ∷ ws) = IsUpTo k w.0 × Rises w.0 ws

turned : (o : Ordering) → is_lt o ≡ false → is_gt (ordering_reverse o) ≡ false
turned o e = grind (arith, common_steps)

pub rises : (w : KeyWrite) (ws : List KeyWrite) → IsSortedBy has_lower_key (w ∷ ws) → Rises w.0 ws
rises w [] h = tt
rises w (v ∷ ws) h = (
  ap is_gt (nat_list_cmp_total.antisymm w.0 v.0) ∙ turned (key_cmp v.0 w.0) (h 0 w (omega arith) (omega arith)),
  rises v ws (λ k d le lt.
      let step : suc k + 1 ≡ suc (k + 1) = omega arith in
      subst (λ (n : ℕ). has_lower_key (get_or (w ∷ v ∷ ws) n d) (get_or (w ∷ v ∷ ws) (suc k) d) ≡ false) step (h (suc k) d (omega arith) (omega arith))),
)

-- what the loop keeps: m is the map of the writes that were kept, p the write that is latest, and behind it come `rest`
pub record IsSwept (all : List KeyWrite) (m : KeyMap) (p : KeyWrite) (rest : List KeyWrite) : Type 0 where
  pub is_map : IsMap m
  pub makes : after_writes (after_write m p.0 p.1) rest ≡ after_writes [] all
  pub fresh : (q : Bytes) → IsUpTo p.0 q → value_at m q ≡ None
  pub rising : Rises p.0 rest

pub begun : (all rest : List KeyWrite) (p : KeyWrite) → all ≡ p ∷ rest → IsSortedBy has_lower_key all → IsSwept all [] p rest
begun all rest p is h = record {
  is_map = tt;
  makes = ap (λ (l : List KeyWrite). after_writes [] l) (sym is);
  fresh = λ q le. refl;
  rising = rises p rest (subst (λ (l : List KeyWrite). IsSortedBy has_lower_key l) is h);
}

itself : (k : Bytes) → IsUpTo k k
itself k = ap is_gt (tied_itself nat_list_cmp_total k)

not_both : (b : Bool) → b ≡ true → b ≡ false → ⊥
not_both b h g = grind (arith, common_steps)

-- the latest write is left out
left_out_at : (m : KeyMap) (p e : KeyWrite) (q : Bytes) → ((q : Bytes) → IsUpTo p.0 q → value_at m q ≡ None) → (is_same_key p.0 e.0 ≡ true) ⊎ (p.1 ≡ None)
    → cond (is_same_key q e.0) e.1 (cond (is_same_key q p.0) p.1 (value_at m q)) ≡ cond (is_same_key q e.0) e.1 (value_at m q)
left_out_at m p e q fresh (inl same) =
    let is : is_same_key q p.0 ≡ is_same_key q e.0 = ap (λ k. is_same_key q k) (same_key p.0 e.0 same) in
    ap (λ b. cond (is_same_key q e.0) e.1 (cond b p.1 (value_at m q))) is ∙ twice (is_same_key q e.0) e.1 p.1 (value_at m q)
  where
    twice : (b : Bool) (x y z : Option Bytes) → cond b x (cond b y z) ≡ cond b x z
    twice true x y z = refl
    twice false x y z = refl
left_out_at m p e q fresh (inr none) = ap (λ o. cond (is_same_key q e.0) e.1 o) (at_key (is_same_key q p.0) refl)
  where
    at_key : (b : Bool) → is_same_key q p.0 ≡ b → cond b p.1 (value_at m q) ≡ value_at m q
    at_key true t = none ∙ sym (fresh q (subst (λ (k : Bytes). IsUpTo p.0 k) (sym (same_key q p.0 t)) (itself p.0)))
    at_key false t = refl

pub left_out : (all rest : List KeyWrite) (m : KeyMap) (p e : KeyWrite) → IsSwept all m p (e ∷ rest) → (is_same_key p.0 e.0 ≡ true) ⊎ (p.1 ≡ None)
    → IsSwept all m e rest
left_out all rest m p e h why = record {
  is_map = h.is_map;
  makes =
      ap (λ (n : KeyMap). after_writes n rest)
      (same_map _ _ (IsMap-after_write m e.0 e.1 h.is_map) (IsMap-after_write (after_write m p.0 p.1) e.0 e.1 (IsMap-after_write m p.0 p.1 h.is_map))
      (λ q. value_after_write m e.0 e.1 q ∙ sym (left_out_at m p e q h.fresh why)
      ∙ ap (λ o. cond (is_same_key q e.0) e.1 o) (sym (value_after_write m p.0 p.1 q)) ∙ sym (value_after_write (after_write m p.0 p.1) e.0 e.1 q)))
      ∙ h.makes;
  fresh = λ q le. h.fresh q (upto nat_list_cmp_total p.0 e.0 q h.rising.0 le);
  rising = h.rising.1;
}

-- the latest write is kept
above : (q e p : Bytes) → IsUpTo e q → IsUpTo p e → is_same_key p e ≡ false → is_same_key q p ≡ false
above q e p le lt apart = at_key (is_same_key q p) refl
  where
    tied : (o : Ordering) → is_gt o ≡ false → is_gt (ordering_reverse o) ≡ false → is_eq o ≡ true
    tied Less h g = sym g
    tied Equal h g = refl
    tied Greater h g = sym h

    at_key : (b : Bool) → is_same_key q p ≡ b → b ≡ false
    at_key false t = refl
    at_key true t =
        let down : IsUpTo e p = subst (λ (k : Bytes). IsUpTo e k) (same_key q p t) le in
        absurd (not_both (is_same_key p e) (tied (key_cmp p e) lt (ap is_gt (sym (nat_list_cmp_total.antisymm e p)) ∙ down)) apart)

pub kept_more : (all rest kept new : List KeyWrite) (p e : KeyWrite) → IsSwept all (after_writes [] kept) p (e ∷ rest) → is_same_key p.0 e.0 ≡ false
    → new ≡ kept ++ p ∷ [] → IsSwept all (after_writes [] new) e rest
kept_more all rest kept new p e h apart is =
    subst (λ (n : KeyMap). IsSwept all n e rest) (sym (ap (λ (l : List KeyWrite). after_writes [] l) is ∙ after_writes-push [] kept p)) record {
      is_map = IsMap-after_write _ p.0 p.1 h.is_map;
      makes = h.makes;
      fresh = λ q le. value_after_write _ p.0 p.1 q ∙ ap (λ b. cond b p.1 (value_at (after_writes [] kept) q)) (above q e.0 p.0 le h.rising.0 apart)
          ∙ h.fresh q (upto nat_list_cmp_total p.0 e.0 q h.rising.0 le);
      rising = h.rising.1;
    }

-- at the end the latest write is kept
pub ended : (all kept new : List KeyWrite) (p : KeyWrite) → IsSwept all (after_writes [] kept) p [] → new ≡ kept ++ p ∷ []
    → after_writes [] new ≡ after_writes [] all
ended all kept new p h is = ap (λ (l : List KeyWrite). after_writes [] l) is ∙ after_writes-push [] kept p ∙ h.makes
