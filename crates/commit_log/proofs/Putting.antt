-- The puts of a map's pairs, cut into write sets.
use Rattle.std.proofs.Common.{◌≡◌, ℕ, zero, suc, ◌<◌, ◌≤◌, ◌+◌, ◌*◌, Bool, ◌&&◌, T, List, [], ◌∷◌, ◌++◌, length, take}
use Rattle.std.proofs.Common.{drop, Some, All, min, refl, sym, ◌∙◌, ap, subst, arith, append_assoc, length-drop}
use Rattle.std.proofs.lemmas.Grind.{common_steps, flat_map-append}
use Rattle.std.proofs.lemmas.List.{append-nil, length-take, take_all, drop_all, take-append-drop}
use Rattle.std.specs.Cmp.Lexicographic.{slice_cmp, nat_list_cmp_total}
use Rattle.std.specs.FinMap.Entries.{put, is_sorted, below_all}
use Rattle.std.specs.List.{flat_map}
use Rattle.std.specs.Ordering.{nat_cmp, is_lt, ordering_reverse}
use Rattle.std.specs.declared.cmp.Ordering.TheVariants.{Greater}
use Rattle.model.proofs.InOrder.{parts, less, below_right, sorted_take, sorted_drop}
use Rattle.model.specs.Key.{IsValue}
use Rattle.model.specs.Machine.{payload_size}
use Rattle.model.specs.Map.{Bytes, KeyMap, KeyWrite, IsMap, IsInBounds, after_writes}
use Rattle.commit_log.proofs.Encoding.{payload_size-push}
use Rattle.commit_log.specs.Copying.{puts, first_sets, set_count, write_sets_of}
use Rattle.commit_log.specs.Format.{current}
use Rattle.commit_log.specs.RecordFormat.{FitsFormat, IsWriteSet, entry_bytes}
use Rattle.commit_log.specs.Recovery.{map_after}

-- one pair more
pub pair_more : (m : KeyMap) (i : ℕ) (p : Bytes × Bytes) (rest : KeyMap) → drop i m ≡ p ∷ rest → (take (i + 1) m ≡ take i m ++ p ∷ []) × (drop (i + 1) m ≡ rest)
pair_more [] (suc i) p rest is = absurd (cc is)
pair_more (x ∷ m) (suc i) p rest is = grind (arith, common_steps, pair_more m i p rest is)
pair_more m zero p rest is = grind (arith, common_steps)

pub length-puts : (m : KeyMap) → length (puts m) ≡ length m
length-puts [] = refl
length-puts (p ∷ m) = ap suc (length-puts m)

puts-push : (m : KeyMap) (p : Bytes × Bytes) → puts (m ++ p ∷ []) ≡ puts m ++ (p.0, Some p.1) ∷ []
puts-push [] p = refl
puts-push (x ∷ m) p = ap (λ (l : List KeyWrite). (x.0, Some x.1) ∷ l) (puts-push m p)

pub bounds_drop : (i : ℕ) (m : KeyMap) → IsInBounds m → IsInBounds (drop i m)
bounds_drop (suc i) (p ∷ m) h = bounds_drop i m h.2
bounds_drop i m h = h

bounds_take : (i : ℕ) (m : KeyMap) → IsInBounds m → IsInBounds (take i m)
bounds_take (suc i) (p ∷ m) h = (h.0, h.1, bounds_take i m h.2)
bounds_take i m h = tt

-- what the next pair makes of a run over pairs
pub record NextPair (m : KeyMap) (i : ℕ) (next : KeyMap) (p : Bytes × Bytes) : Type 0 where
  pub behind : next ≡ drop (i + 1) m
  pub value : IsValue p.1
  pub size : payload_size (puts (take (i + 1) m)) ≡ payload_size (puts (take i m)) + (7 + length p.0 + length p.1)
  pub entries : flat_map entry_bytes (puts (take (i + 1) m)) ≡ flat_map entry_bytes (puts (take i m)) ++ entry_bytes (p.0, Some p.1)

pub next_pair : (m : KeyMap) (i : ℕ) (now next : KeyMap) (p : Bytes × Bytes) → now ≡ drop i m → now ≡ p ∷ next → IsInBounds m → NextPair m i next p
next_pair m i now next p at is h = grind (arith, common_steps, pair_more, bounds_drop, puts-push, payload_size-push, flat_map-append, append-nil)

-- there are more pairs
pub not_none : (m now : KeyMap) (i n : ℕ) → now ≡ drop i m → now ≡ [] → i < n → n ≤ length m → ⊥
not_none m now i n at is lt le = omega (arith, ap length (sym at ∙ is), length-drop i m)

-- a part is no longer than the whole
pub size_le : (i n : ℕ) (m : KeyMap) → i ≤ n → payload_size (puts (take i m)) ≤ payload_size (puts (take n m))
size_le (suc i) (suc n) (p ∷ m) le = omega (arith, size_le i n m (omega arith))
size_le zero (suc n) (p ∷ m) le = omega arith
size_le i n m le = omega arith

-- the pairs of the next write set
pub next_set : (m : KeyMap) (n : ℕ) → n ≡ min (length m) 64 → (take n m ≡ take 64 m) × (drop n m ≡ drop 64 m)
next_set m n is = grind (arith, take_all n m, take_all 64 m, drop_all n m, drop_all 64 m)

pub length-first_sets : (n : ℕ) (m : KeyMap) → length (first_sets n m) ≡ n
length-first_sets zero m = refl
length-first_sets (suc n) m = ap suc (length-first_sets n (drop 64 m))

pub length-write_sets : (m : KeyMap) → length (write_sets_of m) ≡ set_count (length m)
unfolding write_sets_of
length-write_sets m = length-first_sets (set_count (length m)) m

pub no_sets : (m : KeyMap) → length m ≡ 0 → write_sets_of m ≡ []
unfolding write_sets_of
no_sets m none = ap (λ (n : ℕ). first_sets (set_count n) m) none

pub sets_split : (m : KeyMap) → 1 ≤ length m → write_sets_of m ≡ puts (take 64 m) ∷ write_sets_of (drop 64 m)
unfolding write_sets_of
sets_split m some =
    let count : set_count (length m) ≡ suc (set_count (length (drop 64 m))) = omega (arith, length-drop 64 m) in
    ap (λ (n : ℕ). first_sets n m) count

-- a pair behind all others is put there
put_last : (m : KeyMap) (p : Bytes × Bytes) (rest : KeyMap) → IsMap (m ++ p ∷ rest) → put (slice_cmp nat_cmp) p.0 p.1 m ≡ m ++ p ∷ []
put_last [] p rest h = refl
put_last (e ∷ m) p rest h =
    let q = parts _ _ h in
    let reached = parts _ _ (below_right (slice_cmp nat_cmp) e.0 m (p ∷ rest) q.0) in
    let above : slice_cmp nat_cmp p.0 e.0 ≡ Greater = nat_list_cmp_total.antisymm p.0 e.0 ∙ ap ordering_reverse (less _ reached.0) in
    rw above (ap (λ (l : KeyMap). e ∷ l) (put_last m p rest q.1))

puts_give : (xs m rest : KeyMap) → IsMap (m ++ (xs ++ rest)) → after_writes m (puts xs) ≡ m ++ xs
puts_give [] m rest h = sym (append-nil m)
puts_give (p ∷ xs) m rest h =
    grind (arith, put_last m p (xs ++ rest) h, puts_give xs (m ++ p ∷ []) rest, append_assoc m (p ∷ []) (xs ++ rest), append_assoc m (p ∷ []) xs)

sets_give : (n : ℕ) (m rest : KeyMap) → IsMap (m ++ rest) → length rest ≤ 64 * n → map_after m (first_sets n rest) ≡ m ++ rest
sets_give zero m [] h le = sym (append-nil m)
sets_give zero m (p ∷ rest) h le = absurd (omega arith)
sets_give (suc n) m rest h le =
    grind (
      arith,
      take-append-drop 64 rest,
      puts_give (take 64 rest) m (drop 64 rest),
      sets_give n (m ++ take 64 rest) (drop 64 rest),
      append_assoc m (take 64 rest) (drop 64 rest),
      length-drop 64 rest,
    )

-- the write sets of a map give it
pub write_sets_give : (m : KeyMap) → IsMap m → map_after [] (write_sets_of m) ≡ m
unfolding write_sets_of
write_sets_give m h = sets_give (set_count (length m)) [] m h (omega arith)

-- each of these is a write set
abbrev pub AreWriteSets : List (List KeyWrite) → Type 0
AreWriteSets [] = Unit {0}
AreWriteSets (writes ∷ lists) = IsWriteSet current writes × AreWriteSets lists

below-puts : (k : Bytes) (m : KeyMap) → below_all (slice_cmp nat_cmp) k (puts m) ≡ below_all (slice_cmp nat_cmp) k m
below-puts k [] = refl
below-puts k (p ∷ m) = ap (λ (b : Bool). is_lt (slice_cmp nat_cmp k p.0) && b) (below-puts k m)

sorted-puts : (m : KeyMap) → is_sorted (slice_cmp nat_cmp) (puts m) ≡ is_sorted (slice_cmp nat_cmp) m
sorted-puts [] = refl
sorted-puts (p ∷ m) = grind (arith, below-puts p.0 m, sorted-puts m)

limits-puts : (m : KeyMap) → IsInBounds m → All (FitsFormat current) (puts m)
limits-puts [] h k d lt = absurd (omega arith)
limits-puts (p ∷ m) h zero d lt = record { key = h.0; value = h.1 }
limits-puts (p ∷ m) h (suc k) d lt = limits-puts m h.2 k d (omega arith)

-- so many puts of a map's first pairs are a write set
set_is_proper : (m : KeyMap) → IsMap m → IsInBounds m → 1 ≤ length m → IsWriteSet current (puts (take 64 m))
set_is_proper m is bounds some = record {
  some = omega (arith, length-puts (take 64 m), length-take 64 m);
  at_most = omega (arith, length-puts (take 64 m), length-take 64 m);
  limits = limits-puts (take 64 m) (bounds_take 64 m bounds);
  rising = subst T (sym (sorted-puts (take 64 m))) (sorted_take (slice_cmp nat_cmp) 64 m is);
}

sets_are_proper : (n : ℕ) (m : KeyMap) → IsMap m → IsInBounds m → 64 * n < length m + 64 → AreWriteSets (first_sets n m)
sets_are_proper zero m is bounds lt = tt
sets_are_proper (suc n) m is bounds lt = (
  set_is_proper m is bounds (omega arith),
  sets_are_proper n (drop 64 m) (sorted_drop (slice_cmp nat_cmp) 64 m is) (bounds_drop 64 m bounds) (omega (arith, length-drop 64 m)),
)

pub write_sets_are_proper : (m : KeyMap) → IsMap m → IsInBounds m → AreWriteSets (write_sets_of m)
unfolding write_sets_of
write_sets_are_proper m is bounds = sets_are_proper (set_count (length m)) m is bounds (omega arith)
