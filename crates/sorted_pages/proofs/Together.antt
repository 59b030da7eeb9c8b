-- Keys that stand in the same page.
use Rattle.std.proofs.Common.{◌≡◌, ℕ, ◌<◌, Bool, true, false, not, ◌&&◌, List, [], ◌∷◌, ◌++◌, length, get_or, zero}
use Rattle.std.proofs.Common.{suc, refl, sym, ap, ◌∙◌, arith}
use Rattle.std.proofs.lemmas.Bool.{and_from, and_left, and_parts, and_right, both_ways, not-true}
use Rattle.std.proofs.lemmas.Grind.{common_steps}
use Rattle.std.proofs.lemmas.List.{get_or_at, length-append}
use Rattle.std.specs.List.{AllByRecursion, list_all}
use Rattle.std.specs.Ordering.{is_le}
use Rattle.std.specs.Prelude.{if◌then◌else◌}
use Rattle.std.specs.declared.cmp.Ordering.TheVariants.{Less}
use Rattle.model.proofs.Elements.{all-each, all-pass}
use Rattle.model.proofs.Entries.{IsBelowAll, IsSorted}
use Rattle.model.proofs.InOrder.{below_left, below_right, parts, sorted_right}
use Rattle.model.proofs.KeyOrder.{less_trans, same_keys}
use Rattle.model.specs.Map.{Bytes, key_cmp}
use Rattle.sorted_pages.proofs.Keys.{first_of}
use Rattle.sorted_pages.specs.Pages.{HasEntry, IsInOrder, Page, entries, is_together, last_room, room_at}
use Rattle.sorted_pages.specs.Pages.{start_together, starts_by}

refuted : (b : Bool) → (b ≡ true → ⊥) → b ≡ false
refuted true h = absurd (h refl)
refuted false h = refl

alike_same : (x y : Bool) → (if x then y else not y) ≡ true → x ≡ y
alike_same true y h = sym h
alike_same false true h = absurd (both_ways false refl h)
alike_same false false h = refl

same_itself : (x : Bool) → (if x then x else not x) ≡ true
same_itself true = refl
same_itself false = refl

-- the middle one of three, where each implies the next and the first is as the last
in_middle : (x y z : Bool) → (x ≡ true → y ≡ true) → (y ≡ true → z ≡ true) → (if x then z else not z) ≡ true → (if x then y else not y) ≡ true
in_middle true y z f g h = f refl
in_middle false true z f g h = absurd (both_ways (not z) (ap not (g refl)) h)
in_middle false false z f g h = refl

-- a key that is at most a lower one
at_most : (x j k : Bytes) → key_cmp j k ≡ Less → is_le (key_cmp x j) ≡ true → is_le (key_cmp x k) ≡ true
at_most x j k lt le = grind (arith, less_trans x j k, same_keys x j)

module _ {X : Type 0} where
  -- ---- earlier pages start too

  heads : (x k : Bytes) (ps : List (Page X)) (j : ℕ) (d : Page X) → IsBelowAll x (entries ps) → AllByRecursion HasEntry ps → j < length ps
      → starts_by k (get_or ps j d).0 ≡ true → is_le (key_cmp x k) ≡ true
  heads x k [] j d h f lt t = absurd (omega arith)
  heads x k (p ∷ ps) zero d h f lt t = ap is_le (first_of x k p.0 (below_left key_cmp x p.0 (entries ps) h) f.0 t)
  heads x k (p ∷ ps) (suc j) d h f lt t = heads x k ps j d (below_right key_cmp x p.0 (entries ps) h) f.1 (omega arith) t

  pub starts_too : (k : Bytes) (es : List (Bytes × X)) (ps : List (Page X)) (j : ℕ) (d : Page X) → IsSorted (es ++ entries ps) → AllByRecursion HasEntry ps
      → j < length ps → starts_by k (get_or ps j d).0 ≡ true → starts_by k es ≡ true
  starts_too k es ps j d h f lt t = grind (arith, common_steps, heads, below_right, parts)

  -- a page that doesn't start by a key has none behind it that does
  pub none_from : (q : Bytes) (c : Page X) (cs : List (Page X)) → IsSorted (entries (c ∷ cs)) → AllByRecursion HasEntry cs → starts_by q c.0 ≡ false
      → AllByRecursion (λ (p : Page X). starts_by q p.0 ≡ false) cs
  none_from q c [] h f n = tt
  none_from q c (d ∷ cs) h f n =
      let first : starts_by q d.0 ≡ false =
      refuted (starts_by q d.0) (λ t. both_ways (starts_by q c.0) n (starts_too q c.0 (d ∷ cs) 0 d h f (omega arith) t)) in
      (first, none_from q d cs (sorted_right key_cmp c.0 (entries (d ∷ cs)) h) f.1 first)

  -- ---- pages that start alike

  abbrev Alike : Bytes → Bytes → List (Page X) → Bool
  Alike j k ps = list_all (λ (p : Page X). start_together j k p.0) ps

  same_alike : (j k : Bytes) (es fs : List (Bytes × X)) → ((q : Bytes) → starts_by q es ≡ starts_by q fs) → start_together j k es ≡ start_together j k fs
  same_alike j k es fs s = λ i. if s j i then s k i else not (s k i)

  both_alike : (j k : Bytes) (es : List (Bytes × X)) → starts_by j es ≡ true → starts_by k es ≡ true → start_together j k es ≡ true
  both_alike j k es s t = ap (λ b. if b then starts_by k es else not (starts_by k es)) s ∙ t

  neither_alike : (j k : Bytes) (es : List (Bytes × X)) → starts_by j es ≡ false → starts_by k es ≡ false → start_together j k es ≡ true
  neither_alike j k es s t = ap (λ b. if b then starts_by k es else not (starts_by k es)) s ∙ ap not t

  none_alike : (j k : Bytes) (ps : List (Page X)) → AllByRecursion (λ (p : Page X). starts_by j p.0 ≡ false) ps
      → AllByRecursion (λ (p : Page X). starts_by k p.0 ≡ false) ps → Alike j k ps ≡ true
  none_alike j k [] f g = refl
  none_alike j k (p ∷ ps) f g = and_from (start_together j k p.0) (Alike j k ps) (neither_alike j k p.0 f.0 g.0) (none_alike j k ps f.1 g.1)

  alike_before : (j k : Bytes) (before : List (Page X)) (page : Page X) (after : List (Page X)) → IsSorted (entries (before ++ page ∷ after))
      → AllByRecursion HasEntry (before ++ page ∷ after) → starts_by j page.0 ≡ true → starts_by k page.0 ≡ true → Alike j k after ≡ true
      → Alike j k (before ++ page ∷ after) ≡ true
  alike_before j k [] page after h f s t a = and_from (start_together j k page.0) (Alike j k after) (both_alike j k page.0 s t) a
  alike_before j k (b ∷ before) page after h f s t a =
      let rest = before ++ page ∷ after in
      let lt : length before < length rest = omega (arith, length-append before (page ∷ after)) in
      let at = get_or_at before page after page (length before) refl in
      let too = λ (q : Bytes) (w : starts_by q page.0 ≡ true).
      starts_too q b.0 rest (length before) page h f.1 lt (ap (λ (p : Page X). starts_by q p.0) at ∙ w) in
      and_from (start_together j k b.0) (Alike j k rest) (both_alike j k b.0 (too j s) (too k t))
      (alike_before j k before page after (sorted_right key_cmp b.0 (entries rest) h) f.1 s t a)

  not_alike_next : (j k : Bytes) (before : List (Page X)) (page next : Page X) (after : List (Page X)) → start_together j k next.0 ≡ false
      → Alike j k (before ++ page ∷ next ∷ after) ≡ false
  not_alike_next j k [] page next after e =
      and_right (start_together j k page.0) (Alike j k (next ∷ after)) (and_left (start_together j k next.0) (Alike j k after) e)
  not_alike_next j k (b ∷ before) page next after e =
      and_right (start_together j k b.0) (Alike j k (before ++ page ∷ next ∷ after)) (not_alike_next j k before page next after e)

  -- ---- in a page, or not

  pub in_one_page : (j k : Bytes) (before : List (Page X)) (page : Page X) (after : List (Page X)) → IsInOrder (before ++ page ∷ after)
      → (0 < length before → starts_by j page.0 ≡ true) → (0 < length before → starts_by k page.0 ≡ true)
      → AllByRecursion (λ (p : Page X). starts_by j p.0 ≡ false) after → AllByRecursion (λ (p : Page X). starts_by k p.0 ≡ false) after
      → is_together j k (before ++ page ∷ after) ≡ true
  in_one_page j k [] page after h s t f g = none_alike j k after f g
  in_one_page j k (b ∷ before) page after h s t f g =
      alike_before j k before page after (sorted_right key_cmp b.0 (entries (before ++ page ∷ after)) h.sorted) h.filled (s (omega arith)) (t (omega arith))
      (none_alike j k after f g)

  pub behind_page : (j k : Bytes) (before : List (Page X)) (page next : Page X) (after : List (Page X)) → starts_by j next.0 ≡ false
      → starts_by k next.0 ≡ true → is_together j k (before ++ page ∷ next ∷ after) ≡ false
  behind_page j k before page next after s t = by before
    where
      e : start_together j k next.0 ≡ false
      e = ap (λ b. if b then starts_by k next.0 else not (starts_by k next.0)) s ∙ ap not t

      by : (bs : List (Page X)) → is_together j k (bs ++ page ∷ next ∷ after) ≡ false
      by [] = and_left (start_together j k next.0) (Alike j k after) e
      by (b ∷ bs) = not_alike_next j k bs page next after e

  -- ---- another page in a page's place, or two

  replaced : (j k : Bytes) (before : List (Page X)) (p r : Page X) (after : List (Page X)) → start_together j k r.0 ≡ start_together j k p.0
      → Alike j k (before ++ r ∷ after) ≡ Alike j k (before ++ p ∷ after)
  replaced j k [] p r after e = ap (λ b. b && Alike j k after) e
  replaced j k (b ∷ before) p r after e = ap (λ c. start_together j k b.0 && c) (replaced j k before p r after e)

  pub together-replaced : (j k : Bytes) (before : List (Page X)) (p r : Page X) (after : List (Page X))
      → (0 < length before → (q : Bytes) → starts_by q r.0 ≡ starts_by q p.0) → is_together j k (before ++ r ∷ after) ≡ is_together j k (before ++ p ∷ after)
  together-replaced j k [] p r after s = refl
  together-replaced j k (b ∷ before) p r after s = replaced j k before p r after (same_alike j k r.0 p.0 (s (omega arith)))

  alike-split : (j k : Bytes) (before : List (Page X)) (p lo up : Page X) (after : List (Page X)) → start_together j k lo.0 ≡ start_together j k p.0
      → Alike j k (before ++ lo ∷ up ∷ after) ≡ true → Alike j k (before ++ p ∷ after) ≡ true
  alike-split j k [] p lo up after e h =
      let a = and_parts (start_together j k lo.0) (start_together j k up.0 && Alike j k after) h in
      and_from (start_together j k p.0) (Alike j k after) (sym e ∙ a.0) (and_parts (start_together j k up.0) (Alike j k after) a.1).1
  alike-split j k (b ∷ before) p lo up after e h =
      let a = and_parts (start_together j k b.0) (Alike j k (before ++ lo ∷ up ∷ after)) h in
      and_from (start_together j k b.0) (Alike j k (before ++ p ∷ after)) a.0 (alike-split j k before p lo up after e a.1)

  pub together-split : (j k : Bytes) (before : List (Page X)) (p lo up : Page X) (after : List (Page X)) → ((q : Bytes) → starts_by q p.0 ≡ starts_by q lo.0)
      → is_together j k (before ++ lo ∷ up ∷ after) ≡ true → is_together j k (before ++ p ∷ after) ≡ true
  together-split j k [] p lo up after s h = (and_parts (start_together j k up.0) (Alike j k after) h).1
  together-split j k (b ∷ before) p lo up after s h =
      alike-split j k before p lo up after (same_alike j k lo.0 p.0 (λ q. sym (s q))) h

  -- ---- one room for all of a page

  last_room-alike : (j k : Bytes) (n : ℕ) (ps : List (Page X)) → Alike j k ps ≡ true → last_room n j ps ≡ last_room n k ps
  last_room-alike j k n [] h = refl
  last_room-alike j k n (p ∷ ps) h =
      let a = and_parts (start_together j k p.0) (Alike j k ps) h in
      let same = alike_same (starts_by j p.0) (starts_by k p.0) a.0 in
      ap (λ b. last_room (if b then p.1 else n) j ps) same ∙ last_room-alike j k (if starts_by k p.0 then p.1 else n) ps a.1

  pub room-together : (j k : Bytes) (ps : List (Page X)) → is_together j k ps ≡ true → room_at j ps ≡ room_at k ps
  room-together j k [] h = refl
  room-together j k (p ∷ ps) h = last_room-alike j k p.1 ps h

  alike_itself : (k : Bytes) (ps : List (Page X)) → Alike k k ps ≡ true
  alike_itself k [] = refl
  alike_itself k (p ∷ ps) = and_from (start_together k k p.0) (Alike k k ps) (same_itself (starts_by k p.0)) (alike_itself k ps)

  pub together_itself : (k : Bytes) (ps : List (Page X)) → is_together k k ps ≡ true
  together_itself k [] = refl
  together_itself k (p ∷ ps) = alike_itself k ps

  alike_as : (j k q : Bytes) (ps : List (Page X)) → Alike j k ps ≡ true → Alike j q ps ≡ Alike k q ps
  alike_as j k q [] h = refl
  alike_as j k q (p ∷ ps) h =
      let a = and_parts (start_together j k p.0) (Alike j k ps) h in
      let same = alike_same (starts_by j p.0) (starts_by k p.0) a.0 in
      let rest = alike_as j k q ps a.1 in
      λ i. (if same i then starts_by q p.0 else not (starts_by q p.0)) && rest i

  -- two keys in one page stand with the same others
  pub together_as : (j k q : Bytes) (ps : List (Page X)) → is_together j k ps ≡ true → is_together j q ps ≡ is_together k q ps
  together_as j k q [] h = refl
  together_as j k q (p ∷ ps) h = alike_as j k q ps h

  starts_more : (j k : Bytes) (es : List (Bytes × X)) → key_cmp j k ≡ Less → starts_by j es ≡ true → starts_by k es ≡ true
  starts_more j k [] lt s = refl
  starts_more j k (e ∷ es) lt s = at_most e.0 j k lt s

  alike_between : (i j k : Bytes) (ps : List (Page X)) → key_cmp i j ≡ Less → key_cmp j k ≡ Less → Alike i k ps ≡ true → Alike i j ps ≡ true
  alike_between i j k [] l m h = refl
  alike_between i j k (p ∷ ps) l m h =
      let a = and_parts (start_together i k p.0) (Alike i k ps) h in
      let here =
      in_middle (starts_by i p.0) (starts_by j p.0) (starts_by k p.0) (λ s. starts_more i j p.0 l s) (λ s. starts_more j k p.0 m s) a.0 in
      and_from (start_together i j p.0) (Alike i j ps) here (alike_between i j k ps l m a.1)

  -- a key between two of a page stands there
  pub together_between : (i j k : Bytes) (ps : List (Page X)) → key_cmp i j ≡ Less → key_cmp j k ≡ Less → is_together i k ps ≡ true
      → is_together i j ps ≡ true
  together_between i j k [] l m h = refl
  together_between i j k (p ∷ ps) l m h = alike_between i j k ps l m h

  -- ---- the room of other pages

  abbrev none_starts : Bytes → List (Page X) → Bool
  none_starts q ps = list_all (λ (p : Page X). not (starts_by q p.0)) ps

  none_start : (q : Bytes) (ps : List (Page X)) → none_starts q ps ≡ true → AllByRecursion (λ (p : Page X). starts_by q p.0 ≡ false) ps
  none_start q ps h =
      all-each (λ (p : Page X). not (starts_by q p.0) ≡ true) (λ (p : Page X). starts_by q p.0 ≡ false) ps (λ p t. not-true (starts_by q p.0) t)
      (all-pass (λ (p : Page X). not (starts_by q p.0)) ps h)

  some_starts : (q : Bytes) (n m : ℕ) (ps : List (Page X)) → none_starts q ps ≡ false → last_room n q ps ≡ last_room m q ps
  some_starts q n m [] h = absurd (both_ways true h refl)
  some_starts q n m (p ∷ ps) h = by (λ g. some_starts q n m ps g) (starts_by q p.0) refl
    where
      by : (none_starts q ps ≡ false → last_room n q ps ≡ last_room m q ps) → (b : Bool) → starts_by q p.0 ≡ b
          → last_room n q (p ∷ ps) ≡ last_room m q (p ∷ ps)
      by rest true e = ap (λ b. last_room (if b then p.1 else n) q ps) e ∙ sym (ap (λ b. last_room (if b then p.1 else m) q ps) e)
      by rest false e = ap (λ b. last_room (if b then p.1 else n) q ps) e
          ∙ rest (sym (ap (λ b. not b && none_starts q ps) e) ∙ h)
          ∙ sym (ap (λ b. last_room (if b then p.1 else m) q ps) e)

  room_behind : (q : Bytes) (xs ys : List (Page X)) → ((n : ℕ) → last_room n q xs ≡ last_room n q ys) → (n : ℕ) (before : List (Page X))
      → last_room n q (before ++ xs) ≡ last_room n q (before ++ ys)
  room_behind q xs ys same n [] = same n
  room_behind q xs ys same n (b ∷ before) = room_behind q xs ys same (if starts_by q b.0 then b.1 else n) before

  -- another page in the place of the one where k stands leaves the room of keys that don't stand there
  pub room-other : (k q : Bytes) (before : List (Page X)) (p r : Page X) (after : List (Page X)) → IsInOrder (before ++ p ∷ after)
      → (0 < length before → starts_by k p.0 ≡ true) → AllByRecursion (λ (p : Page X). starts_by k p.0 ≡ false) after
      → (0 < length before → starts_by q r.0 ≡ starts_by q p.0) → is_together k q (before ++ p ∷ after) ≡ false
      → room_at q (before ++ r ∷ after) ≡ room_at q (before ++ p ∷ after)
  room-other k q [] p r after h s f same away = by (none_starts q after) refl
    where
      by : (b : Bool) → none_starts q after ≡ b → last_room r.1 q after ≡ last_room p.1 q after
      by true e = absurd (both_ways (Alike k q after) away (none_alike k q after f (none_start q after e)))
      by false e = some_starts q r.1 p.1 after e
  room-other k q (c ∷ before) p r after h s f same away = room_behind q (r ∷ after) (p ∷ after) each c.1 before
    where
      each : (n : ℕ) → last_room n q (r ∷ after) ≡ last_room n q (p ∷ after)
      each n = by (none_starts q after) (starts_by q p.0) refl refl
        where
          by : (b d : Bool) → none_starts q after ≡ b → starts_by q p.0 ≡ d → last_room n q (r ∷ after) ≡ last_room n q (p ∷ after)
          by false d e t = some_starts q (if starts_by q r.0 then r.1 else n) (if starts_by q p.0 then p.1 else n) after e
          by true true e t =
              absurd (both_ways (is_together k q (c ∷ before ++ p ∷ after)) away
              (in_one_page k q (c ∷ before) p after h s (λ _. t) f (none_start q after e)))
          by true false e t =
              ap (λ b. last_room (if b then r.1 else n) q after) (same (omega arith) ∙ t) ∙ sym (ap (λ b. last_room (if b then p.1 else n) q after) t)
