-- What a binary search by key finds among entries that stand by strictly rising key.
use Rattle.std.proofs.Common.{◌≡◌, ℕ, zero, suc, ◌-◌, ◌<◌, ◌≤◌, true, false, T, not, List, [], ◌∷◌, length, take}
use Rattle.std.proofs.Common.{drop, get_or, Result, Ok, Err, IfOk, IfErr, refl, ap, subst, arith, Less, Greater}
use Rattle.std.proofs.Common.{is_lt, nat_cmp}
use Rattle.std.proofs.lemmas.Cmp.{tied_itself}
use Rattle.std.proofs.lemmas.Grind.{common_steps}
use Rattle.std.proofs.lemmas.Map.Lookups.{exact_bytes}
use Rattle.std.specs.Cmp.Lexicographic.{slice_cmp, nat_list_cmp_total}
use Rattle.std.specs.FinMap.Entries.{where_key, is_sorted, below_all}
use Rattle.std.specs.List.Sorted.{IsSearchInRange, IsBinarySearchResult}
use Rattle.std.specs.Ordering.{ordering_reverse}
use Rattle.model.proofs.InOrder.{below_at, rise}
pub use Rattle.model.proofs.InOrder.{parts}
use Rattle.model.specs.Entries.{IsAt, IsGap, IsSplit}
use Rattle.model.specs.Map.{Bytes, key_cmp}

pub turned : (j k : Bytes) → key_cmp k j ≡ ordering_reverse (key_cmp j k)
turned j k = nat_list_cmp_total.antisymm k j

module _ {X : Type 0} where
  abbrev pub IsSorted : List (Bytes × X) → Type 0
  IsSorted es = T (is_sorted (slice_cmp nat_cmp) es)

  abbrev pub IsBelowAll : Bytes → List (Bytes × X) → Type 0
  IsBelowAll k es = T (below_all (slice_cmp nat_cmp) k es)

  -- ---- the key is there

  abbrev pub key_at : List (Bytes × X) → ℕ → Bytes × X → Bytes
  key_at es i d = (get_or es i d).0

  at_key : (es : List (Bytes × X)) (k : Bytes) (i : ℕ) → IsSorted es → i < length es → ((d : Bytes × X) → key_at es i d ≡ k) → IsAt es k i
  at_key [] k i h lt key = absurd (omega arith)
  at_key (e ∷ es) k zero h lt key =
      let is = key e in let tied = tied_itself nat_list_cmp_total e.0 in
      record { in_range = lt; found = λ d. grind (arith, common_steps); key = key; written = λ c. grind (arith, common_steps) }
  at_key (e ∷ es) k (suc i) h lt key =
      let is = key e in let rest = at_key es k i (parts (below_all (slice_cmp nat_cmp) e.0 es) _ h).1 (omega arith) key in
      record {
        in_range = lt;
        found = λ d. grind (arith, common_steps, turned, below_at, rest.found d);
        key = key;
        written = λ c. grind (arith, common_steps, turned, below_at, rest.written c);
      }

  -- ---- the key isn't there

  abbrev pub LessBefore : List (Bytes × X) → Bytes → ℕ → Type 0
  LessBefore es k i = (j : ℕ) (d : Bytes × X) → j < i → key_cmp (key_at es j d) k ≡ Less

  abbrev pub GreaterFrom : List (Bytes × X) → Bytes → ℕ → Type 0
  GreaterFrom es k i = (j : ℕ) (d : Bytes × X) → i ≤ j → j < length es → key_cmp (key_at es j d) k ≡ Greater

  gap : (es : List (Bytes × X)) (k : Bytes) (i : ℕ) → i ≤ length es → LessBefore es k i → GreaterFrom es k i → IsGap es k i
  gap [] k i le less more = record { in_range = le; absent = refl; inserted = λ c. grind (arith, common_steps) }
  gap (e ∷ es) k zero le less more =
      let rest = gap es k 0 (omega arith) (λ j d lt. absurd (omega arith)) (λ j d le' lt. more (suc j) d (omega arith) (omega arith)) in
      let above = more 0 e (omega arith) (omega arith) in let other = turned e.0 k in
      record { in_range = le; absent = grind (arith, common_steps, rest.absent); inserted = λ c. grind (arith, common_steps) }
  gap (e ∷ es) k (suc i) le less more =
      let rest = gap es k i (omega arith) (λ j d lt. less (suc j) d (omega arith)) (λ j d le' lt. more (suc j) d (omega arith) (omega arith)) in
      let below = less 0 e (omega arith) in let other = turned e.0 k in
      record { in_range = le; absent = grind (arith, common_steps, rest.absent); inserted = λ c. grind (arith, common_steps, rest.inserted c) }

  -- ---- what the binary search asks and answers

  -- a binary search by key ends at the key's chain or at the gap for it
  pub searched : (es : List (Bytes × X)) (k : Bytes) → IsSorted es → (r : Result ℕ ℕ) → IsSearchInRange r (length es)
      → IsBinarySearchResult (λ e. key_cmp e.0 k) es r
      → record { found : IfOk r (IsAt es k); absent : IfErr r (IsGap es k) }
  searched es k h (Ok i) within equal =
      let key : (d : Bytes × X) → key_at es i d ≡ k = λ d. exact_bytes (key_at es i d) k (equal d) in
      record { found = at_key es k i h within key; absent = tt }
  searched es k h (Err i) within parted =
      let p = parted (rise nat_list_cmp_total es k h) in
      record { found = tt; absent = gap es k i within (λ j d lt. p.0 j d (omega arith) lt) (λ j d le lt. p.1 j d le lt) }

  -- a key above the last one has its gap behind it
  pub gap_behind : (es : List (Bytes × X)) (k : Bytes) (n : ℕ) (last : Bytes × X) → IsSorted es → ((d : Bytes × X) → last ≡ get_or es (length es - 1) d)
      → is_lt (key_cmp last.0 k) ≡ true → n ≡ length es → IsGap es k n
  gap_behind es k n last h at lt end = gap es k n (omega arith) before (λ j d le below. absurd (omega arith))
    where
      before : LessBefore es k n
      before j d below =
          let up = rise nat_list_cmp_total es k h j (length es - 1) d (omega arith) (omega arith) in
          let is = at d in grind (arith, common_steps)

  -- ---- a list in two parts by a key

  split_by : (es : List (Bytes × X)) (k : Bytes) (i : ℕ) → i ≤ length es → LessBefore es k i
      → ((j : ℕ) (d : Bytes × X) → i ≤ j → j < length es → is_lt (key_cmp (key_at es j d) k) ≡ false)
      → record {
        before : take i es ≡ where_key (slice_cmp nat_cmp) (λ q. is_lt (key_cmp q k)) es;
        from : drop i es ≡ where_key (slice_cmp nat_cmp) (λ q. not (is_lt (key_cmp q k))) es;
      }
  split_by (e ∷ es) k zero le less more =
      let rest = split_by es k 0 (omega arith) (λ j d lt. absurd (omega arith)) (λ j d le' lt. more (suc j) d (omega arith) (omega arith)) in
      let not_less : is_lt (key_cmp e.0 k) ≡ false = more 0 e (omega arith) (omega arith) in
      grind (arith, common_steps, not_less)
  split_by (e ∷ es) k (suc i) le less more =
      let rest = split_by es k i (omega arith) (λ j d lt. less (suc j) d (omega arith)) (λ j d le' lt. more (suc j) d (omega arith) (omega arith)) in
      let is_less : is_lt (key_cmp e.0 k) ≡ true = ap is_lt (less 0 e (omega arith)) in
      grind (arith, common_steps)
  split_by es k i le less more = grind (arith, common_steps)

  -- where the binary search ends, the list splits
  pub split_at : (es : List (Bytes × X)) (k : Bytes) → IsSorted es → (r : Result ℕ ℕ) → IsSearchInRange r (length es)
      → IsBinarySearchResult (λ e. key_cmp e.0 k) es r
      → record { found : IfOk r (IsSplit es k); absent : IfErr r (IsSplit es k) }
  split_at es k h (Ok i) within equal =
      let key : (d : Bytes × X) → key_at es i d ≡ k = λ d. exact_bytes (key_at es i d) k (equal d) in
      let s = split_by es k i (omega arith) (λ j d lt. subst (λ (q : Bytes). key_cmp (key_at es j d) q ≡ Less) (key d) (ascends es h j i d lt within))
      (λ j d le lt. let up = rise nat_list_cmp_total es k h i j d le lt in let here = equal d in grind (arith, common_steps)) in
      record { found = record { in_range = omega arith; before = s.before; from = s.from }; absent = tt }
    where
      ascends : (fs : List (Bytes × X)) → IsSorted fs → (j i : ℕ) (d : Bytes × X) → j < i → i < length fs → key_cmp (get_or fs j d).0 (get_or fs i d).0 ≡ Less
      ascends (f ∷ fs) g (suc j) (suc i') d lt within' = ascends fs (parts _ _ g).1 j i' d (omega arith) (omega arith)
      ascends fs g j i d lt within' = grind (arith, common_steps, below_at)
  split_at es k h (Err i) within parted =
      let p = parted (rise nat_list_cmp_total es k h) in
      let s = split_by es k i within (λ j d lt. p.0 j d (omega arith) lt) (λ j d le lt. ap is_lt (p.1 j d le lt)) in
      record { found = tt; absent = record { in_range = within; before = s.before; from = s.from } }
