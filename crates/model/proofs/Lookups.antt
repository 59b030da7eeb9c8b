-- What a map has at a key after writes, when two maps are one, a map without a pair, and the first pairs of a range.
use Rattle.std.proofs.Common.{arith, ◌≡◌, Bool, true, false, not, cond, ◌||◌, List, [], ◌∷◌, Option, Some, None}
use Rattle.std.proofs.Common.{unwrap_or, refl, sym, ap, is_eq, nat_cmp, ℕ, suc, ◌<◌, T, get_or, ◌∙◌, length, remove}
use Rattle.std.proofs.Common.{zero, ◌≤◌, ◌&&◌, ◌++◌, subst, take, Less, is_le, is_lt}
use Rattle.std.proofs.lemmas.Bool.{cases_Bool, or_cases, or_parts, and_parts, and_from}
use Rattle.std.proofs.lemmas.Bool.Decides.{nat_tests}
use Rattle.std.proofs.lemmas.Cmp.{tied_itself, eq_by_cmp_equiv}
use Rattle.std.proofs.lemmas.Grind.{common_steps}
use Rattle.std.proofs.lemmas.List.{take-append-le}
use Rattle.std.proofs.lemmas.Map.Lookups.{exact_bytes}
use Rattle.std.specs.BTreeSet.{insert_key}
use Rattle.std.specs.Cmp.Lexicographic.{slice_cmp, nat_list_cmp_total}
use Rattle.std.specs.FinMap.Entries.{find-put, find-where_key, is_sorted-put, is_sorted-where_key, same_entries, put}
use Rattle.std.specs.FinMap.Entries.{where_key, below_all}
use Rattle.std.specs.List.{list_any}
use Rattle.model.proofs.Entries.{turned}
use Rattle.model.proofs.InOrder.{parts, less, below_at}
use Rattle.model.proofs.KeyOrder.{less as less_by_test, itself, same_keys, lt_le_trans}
use Rattle.model.specs.Entries.{IsAt}
use Rattle.model.specs.Key.{IsKey, IsValue}
use Rattle.model.specs.Map.{Bytes, KeyMap, KeyWrite, IsMap, value_at, is_same_key, after_write, after_writes}
use Rattle.model.specs.Map.{is_in_range, pairs_in_range, IsInBounds, key_cmp}
use Rattle.model.specs.PrivateCopy.{values_at, covers, last_key, page_end, mark_up_to, mark_of_reply}

-- what is there is one
pub some_same : {X : Type 0} {x y : X} → Some x ≡ Some y → x ≡ y
some_same {X} {x} e = ap (λ (o : Option X). unwrap_or o x) e

-- ---- keys

pub same_key : (j k : Bytes) → is_same_key j k ≡ true → j ≡ k
same_key j k e = exact_bytes j k (grind (arith, common_steps))

pub same_key_itself : (k : Bytes) → is_same_key k k ≡ true
same_key_itself k = ap is_eq (tied_itself nat_list_cmp_total k)

pub same_key_comm : (j k : Bytes) → is_same_key j k ≡ is_same_key k j
same_key_comm j k = (eq_by_cmp_equiv nat_list_cmp_total).symm j k

-- a test at some key of the list that ties with k
pub any_at_key : (f : Bytes → Bool) (k : Bytes) (ws : List KeyWrite) → list_any (λ w. is_same_key k w.0) ws ≡ true → f k ≡ true
    → list_any (λ w. f w.0) ws ≡ true
any_at_key f k [] h t = h
any_at_key f k (w ∷ ws) h t = grind (arith, common_steps, or_cases, same_key k w.0, any_at_key f k ws)

-- a key of the list joins it once more
pub held_key : (q k : Bytes) (ks : List Bytes) → list_any (is_same_key k) ks ≡ true
    → list_any (is_same_key q) ks ≡ (is_same_key q k || list_any (is_same_key q) ks)
held_key q k ks h = grind (arith, common_steps, cases_Bool, same_key q k)

pub any-insert_key : (q k : Bytes) (ks : List Bytes)
    → list_any (is_same_key q) (insert_key (slice_cmp nat_cmp) ks k) ≡ (is_same_key q k || list_any (is_same_key q) ks)
any-insert_key q k [] = refl
any-insert_key q k (x ∷ xs) = grind (arith, common_steps, exact_bytes, any-insert_key q k xs)

-- ---- one write

pub value_after_write : (m : KeyMap) (k : Bytes) (v : Option Bytes) (q : Bytes) → value_at (after_write m k v) q ≡ cond (is_same_key q k) v (value_at m q)
value_after_write m k (Some v) q = find-put (slice_cmp nat_cmp) nat_list_cmp_total q k v m
value_after_write m k None q =
    let at = find-where_key (slice_cmp nat_cmp) (λ x. not (is_same_key k x)) q (λ x t. ap (λ z. not (is_same_key k z)) (sym (exact_bytes q x t))) m in
    grind (arith, common_steps, same_key_comm k q)

pub IsMap-after_write : (m : KeyMap) (k : Bytes) (v : Option Bytes) → IsMap m → IsMap (after_write m k v)
IsMap-after_write m k (Some v) h = is_sorted-put (slice_cmp nat_cmp) nat_list_cmp_total k v m h
IsMap-after_write m k None h = is_sorted-where_key (slice_cmp nat_cmp) (λ x. not (is_same_key k x)) m h

-- ---- several writes

pub IsMap-after_writes : (m : KeyMap) (ws : List KeyWrite) → IsMap m → IsMap (after_writes m ws)
IsMap-after_writes m [] h = h
IsMap-after_writes m (w ∷ ws) h = IsMap-after_writes (after_write m w.0 w.1) ws (IsMap-after_write m w.0 w.1 h)

pub value_after_alike : (ws : List KeyWrite) (m n : KeyMap) (q : Bytes) → value_at m q ≡ value_at n q
    → value_at (after_writes m ws) q ≡ value_at (after_writes n ws) q
value_after_alike [] m n q h = h
value_after_alike (w ∷ ws) m n q h = grind (arith, common_steps, value_after_write, value_after_alike ws (after_write m w.0 w.1) (after_write n w.0 w.1) q)

pub value_after_others : (ws : List KeyWrite) (m : KeyMap) (q : Bytes) → list_any (λ w. is_same_key q w.0) ws ≡ false
    → value_at (after_writes m ws) q ≡ value_at m q
value_after_others [] m q h = refl
value_after_others (w ∷ ws) m q h = grind (arith, common_steps, or_parts, value_after_write, value_after_others ws)

-- to write the values that c has at keys
pub value_after_values : (ks : List Bytes) (m c : KeyMap) (q : Bytes)
    → value_at (after_writes m (values_at c ks)) q ≡ cond (list_any (is_same_key q) ks) (value_at c q) (value_at m q)
value_after_values [] m c q = refl
value_after_values (k ∷ ks) m c q =
    grind (arith, common_steps, value_after_values ks (after_write m k (value_at c k)) c q, value_after_write m k (value_at c k) q, same_key q k)

-- ---- two maps

pub same_map : (m n : KeyMap) → IsMap m → IsMap n → ((q : Bytes) → value_at m q ≡ value_at n q) → m ≡ n
same_map m n h g e = same_entries (slice_cmp nat_cmp) nat_list_cmp_total exact_bytes m n h g e

pub value_in_range : (m : KeyMap) (lo : Bytes) (hi : Option Bytes) (q : Bytes)
    → value_at (pairs_in_range m lo hi) q ≡ cond (is_in_range lo hi q) (value_at m q) None
value_in_range m lo hi q = find-where_key (slice_cmp nat_cmp) (is_in_range lo hi) q (λ x t. ap (is_in_range lo hi) (sym (exact_bytes q x t))) m

pub same_pairs : (m n : KeyMap) (lo : Bytes) (hi : Option Bytes) → IsMap m → IsMap n → ((q : Bytes) → is_in_range lo hi q ≡ true → value_at m q ≡ value_at n q)
    → pairs_in_range m lo hi ≡ pairs_in_range n lo hi
same_pairs m n lo hi h g e = same_map (pairs_in_range m lo hi) (pairs_in_range n lo hi)
    (is_sorted-where_key (slice_cmp nat_cmp) (is_in_range lo hi) m h) (is_sorted-where_key (slice_cmp nat_cmp) (is_in_range lo hi) n g)
    (λ q. grind (arith, common_steps, value_in_range m lo hi q, value_in_range n lo hi q, e q))

-- ---- a map after its pair at a place is taken out, and the bounds of the pairs that stay

-- past a key there is none like it
kept_above : (q k : Bytes) (es : KeyMap) → q ≡ k → T (below_all (slice_cmp nat_cmp) k es) → after_write es q None ≡ es
kept_above q k [] e h = refl
kept_above q k (f ∷ es) e h = grind (arith, common_steps, parts, less, kept_above q k es e)

-- the key's pair is taken out
removed : (m : KeyMap) (k : Bytes) (i : ℕ) (d : Bytes × Bytes) → IsMap m → i < length m → (get_or m i d).0 ≡ k → remove m i ≡ after_write m k None
removed (e ∷ es) k (suc i) d h lt is = grind (arith, common_steps, parts, turned, below_at, removed es k i d)
removed m k i d h lt is = grind (arith, common_steps, parts, same_key_itself, kept_above)

pub removed_at : (old m new : KeyMap) (k q : Bytes) (i : ℕ) → IsMap old → old ≡ m → k ≡ q → IsAt m k i → new ≡ remove old i → new ≡ after_write m q None
removed_at old m new k q i h is key at e =
    e ∙ removed old k i ([], []) h (rw is at.in_range) (rw is (at.key ([], []))) ∙ (λ j. after_write (is j) (key j) None)

-- without such a pair the map stays
pub removed_none : (m : KeyMap) (k q : Bytes) → k ≡ q → value_at m k ≡ None → m ≡ after_write m q None
removed_none [] k q key none = refl
removed_none (e ∷ es) k q key none = grind (arith, common_steps, removed_none es q q refl)

-- a pair in bounds that is put into a map in bounds leaves one
pub bounds-put : (m : KeyMap) (k v : Bytes) → IsKey k → IsValue v → IsInBounds m → IsInBounds (put (slice_cmp nat_cmp) k v m)
bounds-put [] k v hk hv h = (hk, hv, tt)
bounds-put (e ∷ es) k v hk hv h = grind (arith, common_steps, bounds-put es k v hk hv h.2)

-- so does a part of it
pub bounds-where_key : (p : Bytes → Bool) (m : KeyMap) → IsInBounds m → IsInBounds (where_key (slice_cmp nat_cmp) p m)
bounds-where_key p [] h = tt
bounds-where_key p (e ∷ es) h = grind (arith, common_steps, bounds-where_key p es h.2)

-- so what a `Map` keeps stays when a pair is put
pub put_kept : (old m new : KeyMap) (k v : Bytes) → IsMap old × IsInBounds old → old ≡ m → IsKey k → IsValue v → new ≡ after_write m k (Some v)
    → IsMap new × IsInBounds new
put_kept old m new k v h is hk hv e =
    rw (e, ← is) (IsMap-after_write old k (Some v) h.0, bounds-put old k v hk hv h.1)

-- and when a key is taken out
pub removal_kept : (old m new : KeyMap) (k : Bytes) → IsMap old × IsInBounds old → old ≡ m → new ≡ after_write m k None → IsMap new × IsInBounds new
removal_kept old m new k h is e = rw (e, ← is) (IsMap-after_write old k None h.0, bounds-where_key _ old h.1)

-- ---- the first pairs of a range are decided by the keys up to the last of them

-- x < y and y ≤ z give x ≤ z, and x < z
less_then : (x y z : Bytes) → key_cmp x y ≡ Less → is_le (key_cmp y z) ≡ true → key_cmp x z ≡ Less
less_then x y z h g = less_by_test _ (lt_le_trans x y z (ap is_lt h) g)

-- the pairs up to a key, and those above it
abbrev up_to : Bytes → KeyMap → KeyMap
up_to k es = where_key (slice_cmp nat_cmp) (λ q. is_le (key_cmp q k)) es

abbrev above : Bytes → KeyMap → KeyMap
above k es = where_key (slice_cmp nat_cmp) (λ q. not (is_le (key_cmp q k))) es

-- what stands above a key that is above k is above k too
above_all : (k x y : Bytes) → is_le (key_cmp x k) ≡ false → key_cmp x y ≡ Less → is_le (key_cmp y k) ≡ false
above_all k x y h g = grind (arith, common_steps, cases_Bool, less_then)

none_up_to : (k x : Bytes) (es : KeyMap) → is_le (key_cmp x k) ≡ false → T (below_all (slice_cmp nat_cmp) x es) → (up_to k es ≡ []) × (above k es ≡ es)
none_up_to k x [] h g = (refl, refl)
none_up_to k x (e ∷ es) h g = grind (arith, common_steps, parts, above_all, less, none_up_to k x es h)

-- the pairs up to k come first
split_at_key : (k : Bytes) (es : KeyMap) → IsMap es → es ≡ up_to k es ++ above k es
split_at_key k [] h = refl
split_at_key k (e ∷ es) h = grind (arith, common_steps, parts, none_up_to, split_at_key k es)

-- the first key is at most the last
last_above : (n : ℕ) (e : Bytes × Bytes) (es : KeyMap) (l : Bytes) → IsMap (e ∷ es) → last_key (e ∷ take n es) ≡ Some l → is_le (key_cmp e.0 l) ≡ true
last_above (suc n) e (f ∷ es) l h t = grind (arith, common_steps, parts, less_then, less, last_above n f es l)
last_above n e es l h t = let same : e.0 ≡ l = cc in ap (λ x. is_le (key_cmp e.0 x)) (sym same) ∙ ap is_le (itself e.0)

-- so there are n pairs up to the last of the first n
n_up_to : (n : ℕ) (es : KeyMap) (l : Bytes) → IsMap es → length (take n es) ≡ n → last_key (take n es) ≡ Some l → n ≤ length (up_to l es)
n_up_to (suc zero) (e ∷ es) l h c t = let up = last_above zero e es l h t in grind (arith, common_steps)
n_up_to (suc (suc n)) (e ∷ f ∷ es) l h c t =
    let up = last_above (suc n) e (f ∷ es) l h t in
    let rest = n_up_to (suc n) (f ∷ es) l (parts (below_all (slice_cmp nat_cmp) e.0 (f ∷ es)) _ h).1 (omega arith) t in grind (arith, common_steps)
n_up_to n es l h c t = grind (arith, common_steps)

same_up_to : (c d : KeyMap) (lo : Bytes) (hi : Option Bytes) (l : Bytes) → IsMap c → IsMap d
    → ((k : Bytes) → (is_le (key_cmp lo k) && is_le (key_cmp k l)) ≡ true → value_at c k ≡ value_at d k) →
    up_to l (pairs_in_range c lo hi) ≡ up_to l (pairs_in_range d lo hi)
same_up_to c d lo hi l c_is d_is agree =
    same_map _ _ (sorted c c_is) (sorted d d_is) (λ q. let x = value c q in let y = value d q in grind (arith, common_steps, and_from, and_parts))
  where
    sorted : (m : KeyMap) → IsMap m → IsMap (up_to l (pairs_in_range m lo hi))
    sorted m h = is_sorted-where_key (slice_cmp nat_cmp) (λ q. is_le (key_cmp q l)) (pairs_in_range m lo hi)
        (is_sorted-where_key (slice_cmp nat_cmp) (is_in_range lo hi) m h)

    value : (m : KeyMap) (q : Bytes)
        → value_at (up_to l (pairs_in_range m lo hi)) q ≡ cond (is_le (key_cmp q l)) (cond (is_in_range lo hi q) (value_at m q) None) None
    value m q = find-where_key (slice_cmp nat_cmp) (λ q. is_le (key_cmp q l)) q (λ x t. ap (λ z. is_le (key_cmp z l)) (sym (same_keys q x t)))
        (pairs_in_range m lo hi)
        ∙ ap (λ o. cond (is_le (key_cmp q l)) o None) (value_in_range m lo hi q)

-- maps that agree on what the mark of a reply covers give the same reply
pub same_taken : (c d : KeyMap) (lo : Bytes) (hi : Option Bytes) (limit : ℕ) → IsMap c → IsMap d →
    ((k : Bytes) → covers (mark_of_reply lo hi limit (take limit (pairs_in_range c lo hi))) k ≡ true → value_at c k ≡ value_at d k) →
    take limit (pairs_in_range c lo hi) ≡ take limit (pairs_in_range d lo hi)
same_taken c d lo hi limit c_is d_is agree = by (page_end limit (take limit (pairs_in_range c lo hi))) refl agree
  where
    first : (l : Bytes) (m : KeyMap) → IsMap m → limit ≤ length (up_to l m) → take limit m ≡ take limit (up_to l m)
    first l m m_is enough = ap (take limit) (split_at_key l m m_is) ∙ take-append-le limit _ _ enough

    by : (o : Option Bytes) → page_end limit (take limit (pairs_in_range c lo hi)) ≡ o
        → ((k : Bytes) → covers (mark_up_to lo hi o) k ≡ true → value_at c k ≡ value_at d k) →
        take limit (pairs_in_range c lo hi) ≡ take limit (pairs_in_range d lo hi)
    by None e agree' = ap (take limit) (same_pairs c d lo hi c_is d_is agree')
    by (Some l) e agree' =
        let xs_is : IsMap (pairs_in_range c lo hi) = is_sorted-where_key (slice_cmp nat_cmp) (is_in_range lo hi) c c_is in
        let ys_is : IsMap (pairs_in_range d lo hi) = is_sorted-where_key (slice_cmp nat_cmp) (is_in_range lo hi) d d_is in
        let page = take limit (pairs_in_range c lo hi) in
        let full : (length page ≡ limit) × (last_key page ≡ Some l) = grind (arith, nat_tests) in
        let same = same_up_to c d lo hi l c_is d_is agree' in
        let enough = n_up_to limit (pairs_in_range c lo hi) l xs_is full.0 full.1 in
        first l _ xs_is enough ∙ ap (take limit) same ∙ sym (first l _ ys_is (subst (λ f. limit ≤ length f) same enough))
