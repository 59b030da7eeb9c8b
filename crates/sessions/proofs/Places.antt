-- Where the place found last, or a binary search, stands among sessions by rising number.
use Rattle.std.proofs.Common.{◌≡◌, ℕ, zero, suc, ◌<◌, ◌≤◌, Bool, true, false, T, cond, List, [], ◌∷◌, length, get_or}
use Rattle.std.proofs.Common.{set, insert, Some, Result, Ok, Err, IfOk, IfErr, Less, Equal, Greater, nat_cmp, refl}
use Rattle.std.proofs.Common.{sym, ap, subst, ◌∙◌, arith}
use Rattle.std.proofs.lemmas.Cmp.{nat_cmp_total, tied_itself}
use Rattle.std.proofs.lemmas.Grind.{common_steps}
use Rattle.std.proofs.lemmas.Map.Lookups.{exact_unsigned}
use Rattle.std.specs.BTreeMap.{insert_entry, is_at}
use Rattle.std.specs.FinMap.Entries.{put, below_all, is_sorted, is_sorted-put}
use Rattle.std.specs.List.Sorted.{IsSearchInRange, IsBinarySearchResult}
use Rattle.std.specs.Map.{lookup, remove_entry}
use Rattle.std.specs.Ordering.{is_lt, ordering_reverse}
use Rattle.model.proofs.InOrder.{parts, both, below_at, rise}
use Rattle.sessions.specs.Places.{IsSessionPlace, IsSessionGap}

module _ {X : Type 0} where
  abbrev pub IsRising : List (ℕ × X) → Type 0
  IsRising es = T (is_sorted nat_cmp es)

  module _ (s : ℕ) where
    -- ---- the number is there

    pub is_place : (es : List (ℕ × X)) (i : ℕ) → IsRising es → i < length es → ((d : ℕ × X) → (get_or es i d).0 ≡ s) → IsSessionPlace es s i
    is_place [] i h lt number = absurd (omega arith)
    is_place (e ∷ es) zero h lt number =
        let level : nat_cmp s e.0 ≡ Equal = ap (λ k. nat_cmp k e.0) (sym (number e)) ∙ tied_itself nat_cmp_total e.0 in
        let same = number e in grind (arith, common_steps)
    is_place (e ∷ es) (suc i) h lt number =
        let p = parts _ _ h in
        let above : nat_cmp s e.0 ≡ Greater =
        nat_cmp_total.antisymm s e.0 ∙ ap ordering_reverse (ap (nat_cmp e.0) (sym (number e)) ∙ below_at nat_cmp e.0 es i e p.0 (omega arith)) in
        let rest = is_place es i p.1 (omega arith) number in
        grind (arith, common_steps)

    -- ---- it isn't

    is_gap : (es : List (ℕ × X)) (i : ℕ) → i ≤ length es → ((j : ℕ) (d : ℕ × X) → j < i → nat_cmp (get_or es j d).0 s ≡ Less)
        → ((j : ℕ) (d : ℕ × X) → i ≤ j → j < length es → nat_cmp (get_or es j d).0 s ≡ Greater) → IsSessionGap es s i
    is_gap [] zero le less more = record { in_range = le; absent = refl; unchanged = refl; inserted = λ x. refl }
    is_gap [] (suc i) le less more = absurd (omega arith)
    is_gap (e ∷ es) zero le less more =
        let below : nat_cmp s e.0 ≡ Less = nat_cmp_total.antisymm s e.0 ∙ ap ordering_reverse (more 0 e (omega arith) (omega arith)) in
        let rest = is_gap es 0 (omega arith) (λ j d lt. absurd (omega arith)) (λ j d le' lt. more (suc j) d (omega arith) (omega arith)) in
        record { in_range = le; absent = rw below rest.absent; unchanged = rw below (ap (λ l. e ∷ l) rest.unchanged); inserted = λ x. rw below refl }
    is_gap (e ∷ es) (suc i) le less more =
        let above : nat_cmp s e.0 ≡ Greater = nat_cmp_total.antisymm s e.0 ∙ ap ordering_reverse (less 0 e (omega arith)) in
        let rest = is_gap es i (omega arith) (λ j d lt. less (suc j) d (omega arith)) (λ j d le' lt. more (suc j) d (omega arith) (omega arith)) in
        record {
          in_range = le;
          absent = rw above rest.absent;
          unchanged = rw above (ap (λ l. e ∷ l) rest.unchanged);
          inserted = λ x. rw above (ap (λ l. e ∷ l) (rest.inserted x));
        }

    -- ---- where the binary search ends

    pub searched : (es xs : List (ℕ × X)) → xs ≡ es → IsRising es → (r : Result ℕ ℕ) → IsSearchInRange r (length xs)
        → IsBinarySearchResult (λ (e : ℕ × X). nat_cmp e.0 s) xs r
        → record { found : IfOk r (IsSessionPlace es s); absent : IfErr r (IsSessionGap es s) }
    searched es xs same h r within by =
        ends r (subst (λ (l : List (ℕ × X)). IsSearchInRange r (length l)) same within)
        (subst (λ (l : List (ℕ × X)). IsBinarySearchResult (λ (e : ℕ × X). nat_cmp e.0 s) l r) same by)
      where
        ends : (r : Result ℕ ℕ) → IsSearchInRange r (length es) → IsBinarySearchResult (λ (e : ℕ × X). nat_cmp e.0 s) es r
            → record { found : IfOk r (IsSessionPlace es s); absent : IfErr r (IsSessionGap es s) }
        ends (Ok i) lt equal = record { found = is_place es i h lt (λ d. exact_unsigned (get_or es i d).0 s (equal d)); absent = tt }
        ends (Err i) le parted =
            let p = parted (rise nat_cmp_total es s h) in
            record { found = tt; absent = is_gap es i le (λ j d lt. p.0 j d (omega arith) lt) (λ j d from lt. p.1 j d from lt) }

    -- ---- the place found last

    pub found_last : (es xs : List (ℕ × X)) (i : ℕ) (e : ℕ × X) → xs ≡ es → IsRising es → i < length xs → ((d : ℕ × X) → e ≡ get_or xs i d) → e.0 ≡ s
        → IsSessionPlace es s i
    found_last es xs i e same h lt at is =
        is_place es i h (subst (λ (l : List (ℕ × X)). i < length l) same lt) (λ d. ap (λ (l : List (ℕ × X)). (get_or l i d).0) (sym same)
        ∙ ap (λ (f : ℕ × X). f.0) (sym (at d)) ∙ is)

    -- ---- a row that is written

    module _ (es xs : List (ℕ × X)) (i : ℕ) (e : ℕ × X) (same : xs ≡ es) (at : IsSessionPlace es s i) (is : e ≡ get_or xs i e) where
      row_is : e ≡ get_or es i e
      row_is = is ∙ ap (λ (l : List (ℕ × X)). get_or l i e) same

      pub row_value : lookup (is_at (nat_cmp s)) es ≡ Some e.1
      row_value = at.found e ∙ ap (λ (f : ℕ × X). Some f.1) (sym row_is)

      pub row_set : (x : X) → set xs i (e.0, x) ≡ set es i (s, x)
      row_set x = ap (λ (l : List (ℕ × X)). set l i (e.0, x)) same ∙ ap (λ (k : ℕ). set es i (k, x)) (ap (λ (f : ℕ × X). f.0) row_is ∙ at.number e)

    -- ---- the numbers still rise

    put_is : (x : X) (es : List (ℕ × X)) → put nat_cmp s x es ≡ insert_entry nat_cmp es s x
    put_is x [] = refl
    put_is x (e ∷ es) = grind (arith, common_steps, put_is x es)

    removed_below : (k : ℕ) (es : List (ℕ × X)) → T (below_all nat_cmp k es) → T (below_all nat_cmp k (remove_entry (is_at (nat_cmp s)) es))
    removed_below k [] h = tt
    removed_below k (e ∷ es) h = let p = parts (is_lt (nat_cmp k e.0)) (below_all nat_cmp k es) h in grind (arith, common_steps, both, removed_below k es p.1)

    pub removed_rising : (es : List (ℕ × X)) → IsRising es → IsRising (remove_entry (is_at (nat_cmp s)) es)
    removed_rising [] h = tt
    removed_rising (e ∷ es) h = let p =
        parts (below_all nat_cmp e.0 es) (is_sorted nat_cmp es) h in grind (arith, common_steps, both, removed_below e.0 es p.0, removed_rising es p.1)

    pub put_rising : (es xs : List (ℕ × X)) → IsRising es → (x : X) → xs ≡ insert_entry nat_cmp es s x → IsRising xs
    put_rising es xs h x is = subst IsRising (put_is x es ∙ sym is) (is_sorted-put nat_cmp nat_cmp_total s x es h)

    pub inserted_or_not : (b : Bool) (es xs after : List (ℕ × X)) (i : ℕ) (x : X) → xs ≡ es → IsRising es → IsSessionGap es s i
        → after ≡ cond b (insert xs i (s, x)) xs → IsRising after
    inserted_or_not true es xs after i x same h gap is = put_rising es after h x (is ∙ ap (λ (l : List (ℕ × X)). insert l i (s, x)) same ∙ gap.inserted x)
    inserted_or_not false es xs after i x same h gap is = subst IsRising (sym (is ∙ same)) h
