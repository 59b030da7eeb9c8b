-- Another value at a key that the pages have: the entries are those with that value put in, and no room changes.
use Rattle.std.proofs.Common.{arith, ◌≡◌, ℕ, true, false, cond, List, [], ◌∷◌, ◌++◌, get_or, set, None, IsSome, refl}
use Rattle.std.proofs.Common.{sym, ap, ◌∙◌, Option, Some}
use Rattle.std.proofs.lemmas.Bool.{both_ways}
use Rattle.std.proofs.lemmas.Cmp.{tied_itself}
use Rattle.std.proofs.lemmas.Grind.{common_steps}
use Rattle.std.proofs.lemmas.List.{append-nil}
use Rattle.std.proofs.lemmas.Map.Lookups.{exact_bytes}
use Rattle.std.specs.Cmp.Lexicographic.{nat_list_cmp_total}
use Rattle.std.specs.FinMap.Entries.{find, put, find-put}
use Rattle.std.specs.List.{list_all}
use Rattle.std.specs.Ordering.{is_lt, is_eq}
use Rattle.std.specs.Prelude.{is_some, if◌then◌else◌, option_map}
use Rattle.std.specs.declared.cmp.Ordering.TheVariants.{Less}
use Rattle.model.proofs.Elements.{all-front, all-back}
use Rattle.model.proofs.Entries.{IsSorted, IsBelowAll, turned}
use Rattle.model.proofs.InOrder.{below_right, sorted_left, sorted_right, parts}
use Rattle.model.specs.Entries.{IsAt}
use Rattle.model.specs.Map.{Bytes, key_cmp}
use Rattle.sorted_pages.proofs.Keys.{find_behind, put_behind}
use Rattle.sorted_pages.proofs.Placings.{page_is, set_is, find_at, grown, inserted}
use Rattle.sorted_pages.specs.Pages.{Page, entries, starts_by, last_room, room_at, AreBelow, IsPlace, IsInOrder}
use Rattle.sorted_pages.specs.Pages.{is_together, start_together}
use Rattle.sorted_pages.specs.Trims.{put_some, changed_at}

-- the page with this value at a key that it has
abbrev pub with_value_in : {X : Type 0} → Page X → Bytes → X → Page X
with_value_in p k v = (put key_cmp k v p.0, p.1)

-- the pages with this value at a key that they have
abbrev pub with_value : {X : Type 0} → List (Page X) → Bytes → X → List (Page X)
with_value [] k v = []
with_value (p ∷ ps) k v = if is_some (find key_cmp k p.0) then with_value_in p k v ∷ ps else p ∷ with_value ps k v

module _ {X : Type 0} where
  not_found : (k : Bytes) (es : List (Bytes × X)) → AreBelow k es → find key_cmp k es ≡ None
  not_found k es h = ap (find key_cmp k) (sym (append-nil es)) ∙ find_behind k es [] h

  value_parts : (b : List (Page X)) (p : Page X) (a : List (Page X)) (k : Bytes) (v : X) → AreBelow k (entries b) → is_some (find key_cmp k p.0) ≡ true
      → with_value (b ++ p ∷ a) k v ≡ b ++ with_value_in p k v ∷ a
  value_parts [] p a k v h s = ap (λ t. cond t (with_value_in p k v ∷ a) (p ∷ with_value a k v)) s
  value_parts (c ∷ b) p a k v h s =
      ap (λ o. cond (is_some o) (with_value_in c k v ∷ (b ++ p ∷ a)) (c ∷ with_value (b ++ p ∷ a) k v)) (not_found k c.0 (all-front _ c.0 (entries b) h))
      ∙ ap (λ l. c ∷ l) (value_parts b p a k v (all-back _ c.0 (entries b) h) s)

  -- the page where the key stands has it
  pub value_at : (ps : List (Page X)) (k : Bytes) (i : ℕ) (p : Page X) (v : X) → IsPlace ps k i → p ≡ get_or ps i p → IsSome (find key_cmp k p.0)
      → set ps i (with_value_in p k v) ≡ with_value ps k v
  value_at ps k i p v w is some =
      let same = page_is ps k i p w is in
      set_is ps k i (with_value_in p k v) w
      ∙ sym (ap (λ (l : List (Page X)). with_value l k v) w.is
      ∙ value_parts w.before w.page w.after k v w.below (ap (λ (q : Page X). is_some (find key_cmp k q.0)) (sym same) ∙ some)
      ∙ ap (λ (q : Page X). w.before ++ with_value_in q k v ∷ w.after) (sym same))

  -- ---- what a caller gets

  found_above : (x k : Bytes) (es : List (Bytes × X)) → IsBelowAll x es → IsSome (find key_cmp k es) → key_cmp x k ≡ Less
  found_above x k [] h s = absurd (both_ways false refl s)
  found_above x k (e ∷ es) h s =
      let p = parts (is_lt (key_cmp x e.0)) _ h in
      grind (arith, exact_bytes k e.0, found_above x k es p.1)

  below_found : (k : Bytes) (xs ys : List (Bytes × X)) → IsSorted (xs ++ ys) → IsSome (find key_cmp k ys) → AreBelow k xs
  below_found k [] ys h s = tt
  below_found k (x ∷ xs) ys h s = let p = parts _ _ h in (found_above x.0 k ys (below_right key_cmp x.0 xs ys p.0) s, below_found k xs ys p.1 s)

  put_left : (k : Bytes) (v : X) (xs ys : List (Bytes × X)) → IsSome (find key_cmp k xs) → put key_cmp k v (xs ++ ys) ≡ put key_cmp k v xs ++ ys
  put_left k v [] ys s = absurd (both_ways false refl s)
  put_left k v (e ∷ xs) ys s = grind (arith, put_left k v xs ys)

  find_right : (k : Bytes) (xs ys : List (Bytes × X)) → is_some (find key_cmp k xs) ≡ false → find key_cmp k (xs ++ ys) ≡ find key_cmp k ys
  find_right k [] ys s = refl
  find_right k (e ∷ xs) ys s = grind (arith, find_right k xs ys)

  -- the entries are those with the value put in
  pub entries-with_value : (ps : List (Page X)) (k : Bytes) (v : X) → IsSorted (entries ps) → IsSome (find key_cmp k (entries ps))
      → entries (with_value ps k v) ≡ put key_cmp k v (entries ps)
  entries-with_value [] k v h s = absurd (both_ways false refl s)
  entries-with_value (p ∷ ps) k v h s =
      grind (
        arith,
        common_steps,
        sorted_right,
        find_right,
        below_found,
        put_left,
        put_behind,
        entries-with_value ps k v (sorted_right key_cmp p.0 (entries ps) h),
      )

  starts_found : (q k : Bytes) (v : X) (es : List (Bytes × X)) → IsSorted es → IsSome (find key_cmp k es) → starts_by q (put key_cmp k v es) ≡ starts_by q es
  starts_found q k v es h s = grind (arith, common_steps, both_ways, turned, found_above, parts)

  last_room-with_value : (r : ℕ) (q : Bytes) (ps : List (Page X)) (k : Bytes) (v : X) → IsSorted (entries ps)
      → last_room r q (with_value ps k v) ≡ last_room r q ps
  last_room-with_value r q [] k v h = refl
  last_room-with_value r q (p ∷ ps) k v h =
      let first = starts_found q k v p.0 (sorted_left key_cmp p.0 (entries ps) h) in
      let rest = last_room-with_value (if starts_by q p.0 then p.1 else r) q ps k v (sorted_right key_cmp p.0 (entries ps) h) in
      grind (arith, first, rest)

  alike-with_value : (i j : Bytes) (ps : List (Page X)) (k : Bytes) (v : X) → IsSorted (entries ps)
      → list_all (λ (p : Page X). start_together i j p.0) (with_value ps k v) ≡ list_all (λ (p : Page X). start_together i j p.0) ps
  alike-with_value i j [] k v h = refl
  alike-with_value i j (p ∷ ps) k v h =
      let first = λ (q : Bytes). starts_found q k v p.0 (sorted_left key_cmp p.0 (entries ps) h) in
      let rest = alike-with_value i j ps k v (sorted_right key_cmp p.0 (entries ps) h) in
      grind (arith, first i, first j, rest)

  -- nor where a key stands
  pub together-with_value : (i j : Bytes) (ps : List (Page X)) (k : Bytes) (v : X) → IsSorted (entries ps)
      → is_together i j (with_value ps k v) ≡ is_together i j ps
  together-with_value i j [] k v h = refl
  together-with_value i j (p ∷ ps) k v h = grind (arith, alike-with_value i j ps k v (sorted_right key_cmp p.0 (entries ps) h))

  -- no room changes
  pub room-with_value : (q : Bytes) (ps : List (Page X)) (k : Bytes) (v : X) → IsSorted (entries ps) → room_at q (with_value ps k v) ≡ room_at q ps
  room-with_value q ps k v h = grind (arith, common_steps, last_room-with_value, sorted_right)

-- ---- what trimming a value does to entries and to pages

module _ {X : Type 0} (f : X → X) where
  pub find-changed : (k : Bytes) (es : List (Bytes × X)) → find key_cmp k (changed_at f k es) ≡ option_map f (find key_cmp k es)
  find-changed k es = by (find key_cmp k es) refl
    where
      by : (o : Option X) → find key_cmp k es ≡ o → find key_cmp k (put_some k (option_map f o) es) ≡ option_map f o
      by None e = e
      by (Some v) e = find-put key_cmp nat_list_cmp_total k k (f v) es
          ∙ ap (λ o. cond (is_eq o) (Some (f v)) (find key_cmp k es)) (tied_itself nat_list_cmp_total k)

  pub find-written : (k : Bytes) (es : List (Bytes × X)) (i : ℕ) (e : Bytes × X) (v : X) → IsAt es k i → e ≡ get_or es i e
      → find key_cmp k (set es i (e.0, v)) ≡ Some v
  find-written k es i e v at is =
      ap (λ (q : Bytes). find key_cmp k (set es i (q, v))) (ap (λ (d : Bytes × X). d.0) is ∙ at.key e)
      ∙ ap (find key_cmp k) (at.written v)
      ∙ find-put key_cmp nat_list_cmp_total k k v es
      ∙ ap (λ o. cond (is_eq o) (Some v) (find key_cmp k es)) (tied_itself nat_list_cmp_total k)

  -- f of its value is written at the key's place
  pub written_changed : (k : Bytes) (es : List (Bytes × X)) (i : ℕ) (e : Bytes × X) (v : X) → IsAt es k i → e ≡ get_or es i e → v ≡ f e.1
      → set es i (e.0, v) ≡ changed_at f k es
  written_changed k es i e v at is new = grind (arith, common_steps)

  pub record ChangedAt (k : Bytes) (old new : List (Page X)) : Type 0 where
    pub order : IsInOrder new
    pub entries : entries new ≡ changed_at f k (entries old)

  -- the value of a page's key changes
  pub trimmed : (ps : List (Page X)) (k : Bytes) (i : ℕ) (p r : Page X) → IsPlace ps k i → p ≡ get_or ps i p → IsInOrder ps → r.0 ≡ changed_at f k p.0
      → r.1 ≡ p.1 → ChangedAt k ps (set ps i r)
  trimmed ps k i p r w is h same room = by (find key_cmp k p.0) refl
    where
      by : (o : Option X) → find key_cmp k p.0 ≡ o → ChangedAt k ps (set ps i r)
      by None e = let g = grown ps k i p r w is h (rw e at same) (omega arith) in record {
        order = g.order;
        entries = rw (find_at ps k i p w is, e) g.roomier.entries;
      }
      by (Some v) e = let g = inserted ps k (f v) i p r w is h (rw e at same) (omega arith) in record {
        order = g.order;
        entries = rw (find_at ps k i p w is, e) g.entries;
      }
