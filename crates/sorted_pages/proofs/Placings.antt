-- Pages: where a key stands among them, and what a changed page does to all entries and to the rooms.
use Rattle.std.proofs.Common.{◌≡◌, ℕ, zero, suc, max, ◌+◌, ◌-◌, ◌*◌, ◌<◌, ◌≤◌, Bool, true, false, List, [], ◌∷◌, ◌++◌}
use Rattle.std.proofs.Common.{length, get_or, set, take, drop, min, not, refl, sym, ap, subst, ◌∙◌, arith, inl, inr}
use Rattle.std.proofs.Math.Seq.{drop-cons}
use Rattle.std.proofs.lemmas.Bool.{both_ways, cases_Bool}
use Rattle.std.proofs.lemmas.Grind.{common_steps}
use Rattle.std.proofs.lemmas.List.{append_assoc, append-nil, length-append, length-set, set_at, get_or_at}
use Rattle.std.proofs.lemmas.List.{get_or-drop, length-take, length-drop, take-append-drop}
use Rattle.std.proofs.lemmas.List.Edits.{length-insert}
use Rattle.std.proofs.lemmas.List.Elements.{All-from_get_or, recursion_from_All}
use Rattle.std.specs.Cmp.Lexicographic.{nat_list_cmp_total}
use Rattle.std.specs.FinMap.Entries.{find, put, is_sorted-put}
use Rattle.std.specs.List.{AllByRecursion, insert}
use Rattle.std.specs.List.Sorted.{IsPartitionedBy, IsPartitionPoint}
use Rattle.std.specs.Prelude.{if◌then◌else◌, ◌⊎◌}
use Rattle.model.proofs.Elements.{all-append, all-front, all-back}
use Rattle.model.proofs.Entries.{IsSorted, IsBelowAll}
use Rattle.model.proofs.InOrder.{sorted_left, sorted_right}
use Rattle.model.specs.Map.{Bytes, key_cmp}
use Rattle.sorted_pages.proofs.Keys.{below_of, above_of, starts_lower, starts-append, starts-put}
use Rattle.sorted_pages.proofs.Keys.{filled-put, find_middle, put_middle}
use Rattle.sorted_pages.proofs.Together.{behind_page, in_one_page, none_from, room-other, starts_too}
use Rattle.sorted_pages.proofs.Together.{together-replaced, together-split}
use Rattle.sorted_pages.specs.Changes.{ChangesPage}
use Rattle.sorted_pages.specs.Pages.{AreAllFull, AreFull, AreTight, Page, entries, starts_by, last_room, room_at}
use Rattle.sorted_pages.specs.Pages.{last_page, count_at, page_entries, stands_behind, IsHalved, AreLoose, HasEntry}
use Rattle.sorted_pages.specs.Pages.{RestHaveEntries, IsInOrder, AreBelow, IsPlace, IsRoomier, StaysTight}
use Rattle.sorted_pages.specs.Pages.{is_together}

-- ---- lists

two_rooms : (a b c : Bool) (p lo up n : ℕ) → a ≡ b → p ≤ lo → p ≤ up → (c ≡ true → b ≡ true)
    → (if a then p else n) ≤ (if c then up else (if b then lo else n)) + 0
two_rooms a b c p lo up n same l u h = grind (arith, common_steps, both_ways)

-- a list in two parts, each with an element
pub halves : {E : Type 0} (es lo up : List E) (half : ℕ) → lo ≡ take half es → up ≡ drop half es → half ≤ length es - 1 → ¬ (half ≡ 0)
    → record { same : es ≡ lo ++ up; lower : 0 < length lo; upper : 0 < length up }
halves es lo up half l u within some = grind (arith, common_steps, min, length-take, length-drop, take-append-drop)

-- the lists are longer by the page that comes in
pub one_longer : {E : Type 0} (old ps new : List E) (i n : ℕ) (lo up : E) → old ≡ ps → n ≡ i + 1 → i < length ps → new ≡ insert (set ps i lo) n up
    → length new ≡ length old + 1
one_longer old ps new i n lo up same next lt is = grind (arith, common_steps, length-insert, length-set)

module _ {X : Type 0} where
  -- ---- all entries

  pub entries-append : (us bs : List (Page X)) → entries (us ++ bs) ≡ entries us ++ entries bs
  entries-append [] bs = refl
  entries-append (p ∷ us) bs = ap (λ l. p.0 ++ l) (entries-append us bs) ∙ sym (append_assoc p.0 (entries us) (entries bs))

  pub sorted_parts : (before : List (Page X)) (page : Page X) (after : List (Page X)) → IsSorted (entries (before ++ page ∷ after))
      → IsSorted (entries before ++ (page.0 ++ entries after))
  sorted_parts before page after h = subst (λ (l : List (Bytes × X)). IsSorted l) (entries-append before (page ∷ after)) h

  pub sorted_page : (before : List (Page X)) (page : Page X) (after : List (Page X)) → IsSorted (entries (before ++ page ∷ after)) → IsSorted page.0
  sorted_page before page after h =
      sorted_left key_cmp page.0 (entries after) (sorted_right key_cmp (entries before) (page.0 ++ entries after) (sorted_parts before page after h))

  rest_of_all : (ps : List (Page X)) → AllByRecursion HasEntry ps → RestHaveEntries ps
  rest_of_all ps h = grind (arith, common_steps)

  after_filled : (before : List (Page X)) (page : Page X) (after : List (Page X)) → RestHaveEntries (before ++ page ∷ after) → AllByRecursion HasEntry after
  after_filled [] page after h = h
  after_filled (b ∷ before) page after h = (all-back HasEntry before (page ∷ after) h).1

  page_filled : (before : List (Page X)) (page : Page X) (after : List (Page X)) → 0 < length before → RestHaveEntries (before ++ page ∷ after) → HasEntry page
  page_filled [] page after lt h = absurd (omega arith)
  page_filled (b ∷ before) page after lt h = (all-back HasEntry before (page ∷ after) h).0

  -- ---- where a key stands

  -- the pages that start by k come first
  pub parted : (k : Bytes) (ps : List (Page X)) → IsSorted (entries ps) → RestHaveEntries ps → IsPartitionedBy (λ (p : Page X). starts_by k p.0) ps
  parted k [] h f i j d le lt t = absurd (omega arith)
  parted k (p ∷ ps) h f zero zero d le lt t = t
  parted k (p ∷ ps) h f zero (suc j) d le lt t = starts_too k p.0 ps j d h f (omega arith) t
  parted k (p ∷ ps) h f (suc i) zero d le lt t = absurd (omega arith)
  parted k (p ∷ ps) h f (suc i) (suc j) d le lt t = parted k ps (sorted_right key_cmp p.0 (entries ps) h) (rest_of_all ps f) i j d (omega arith) (omega arith) t

  all_above : (k : Bytes) (ps : List (Page X)) → IsSorted (entries ps) → AllByRecursion HasEntry ps
      → AllByRecursion (λ (p : Page X). starts_by k p.0 ≡ false) ps → IsBelowAll k (entries ps)
  all_above k [] h f n = tt
  all_above k (p ∷ ps) h f n = above_of k p.0 (entries ps) h f.0 n.0

  all_below : (k : Bytes) (before : List (Page X)) (page : Page X) (after : List (Page X)) → IsInOrder (before ++ page ∷ after)
      → (0 < length before → starts_by k page.0 ≡ true) → AreBelow k (entries before)
  all_below k [] page after h t = tt
  all_below k (b ∷ before) page after h t =
      let filled = page_filled (b ∷ before) page after (omega arith) h.filled in
      below_of k (entries (b ∷ before)) page.0 (entries after) (sorted_parts (b ∷ before) page after h.sorted) filled (t (omega arith))

  later_above : (k : Bytes) (before : List (Page X)) (page : Page X) (after : List (Page X)) → IsInOrder (before ++ page ∷ after)
      → AllByRecursion (λ (p : Page X). starts_by k p.0 ≡ false) after → IsBelowAll k (entries after)
  later_above k before page after h n = grind (arith, common_steps, all_above, sorted_right, sorted_parts, after_filled)

  -- the last page that starts by k, and the first where none does
  pub placed : (k : Bytes) (ps : List (Page X)) (c i : ℕ) → IsInOrder ps → 0 < length ps → c ≤ length ps → i ≡ c - 1
      → IsPartitionPoint (λ (p : Page X). starts_by k p.0 ≡ true) (λ (p : Page X). starts_by k p.0 ≡ false) ps c → IsPlace ps k i
  placed k [] c i h some le e point = absurd (omega arith)
  placed k (p ∷ rest) c i h some le e point =
      let ps = p ∷ rest in
      let f = λ (q : Page X). starts_by k q.0 in
      let lt : i < length ps = omega arith in
      let page = get_or ps i p in
      let is : ps ≡ take i ps ++ page ∷ drop (suc i) ps = sym (take-append-drop i ps) ∙ ap (λ l. take i ps ++ l) (drop-cons ps i p lt) in
      let g : IsInOrder (take i ps ++ page ∷ drop (suc i) ps) = subst (λ (l : List (Page X)). IsInOrder l) is h in
      let fails = λ (q : Page X). f q ≡ false in
      let behind = All-from_get_or fails (drop (suc i) ps) p (λ j l. ap f (get_or-drop (suc i) ps j p)
      ∙ point.1 (suc i + j) p (omega arith) (omega (arith, length-drop (suc i) ps))) in
      let later = recursion_from_All fails (drop (suc i) ps) behind in
      grind (arith, common_steps, all_below, later_above)

  next_at : (b : List (Page X)) (c d : Page X) (a : List (Page X)) (o : Page X) → get_or (b ++ c ∷ d ∷ a) (length b + 1) o ≡ d
  next_at b c d a o = ap (λ (l : List (Page X)). get_or l (length b + 1) o) (sym (append_assoc b (c ∷ []) (d ∷ a)))
      ∙ get_or_at (b ++ c ∷ []) d a o (length b + 1) (length-append b (c ∷ []))

  -- ---- at a place

  -- there is a page where there is room
  pub has_page : (ps : List (Page X)) (k : Bytes) → 0 < room_at k ps → 0 < length ps
  has_page [] k some = some
  has_page (p ∷ ps) k some = omega arith

  -- the page that is read there
  pub page_is : (ps : List (Page X)) (k : Bytes) (i : ℕ) (p : Page X) → (w : IsPlace ps k i) → p ≡ get_or ps i p → p ≡ w.page
  page_is ps k i p w is = is ∙ ap (λ (l : List (Page X)). get_or l i p) w.is ∙ get_or_at w.before w.page w.after p i w.index

  pub place_within : (ps : List (Page X)) (k : Bytes) (i : ℕ) → IsPlace ps k i → i < length ps
  place_within ps k i w = (let a = ap length w.is in let b = length-append w.before (w.page ∷ w.after) in let e = w.index in omega arith)

  -- whatever would be read where there is none
  pub page_at : (ps : List (Page X)) (k : Bytes) (i : ℕ) (p d : Page X) → IsPlace ps k i → p ≡ get_or ps i p → p ≡ get_or ps i d
  page_at ps k i p d w is =
      page_is ps k i p w is ∙ sym (ap (λ (l : List (Page X)). get_or l i d) w.is ∙ get_or_at w.before w.page w.after d i w.index)

  -- the page of a place, read there, and what a change of it makes of it
  pub place_is : (ps : List (Page X)) (k : Bytes) (i : ℕ) (w : IsPlace ps k i) (d : Page X) → w.page ≡ get_or ps i d
  place_is ps k i w d = sym (ap (λ (l : List (Page X)). get_or l i d) w.is ∙ get_or_at w.before w.page w.after d i w.index)

  pub place_changed : (R : Page X → Page X → Type 0) (ps new : List (Page X)) (k : Bytes) (i : ℕ) (w : IsPlace ps k i) (c : ChangesPage i R ps new)
      → R w.page c.page
  place_changed R ps new k i w c = subst (λ (p : Page X). R p c.page) (sym (place_is ps k i w w.page)) (c.changed w.page)

  pub set_is : (ps : List (Page X)) (k : Bytes) (i : ℕ) (p : Page X) (w : IsPlace ps k i) → set ps i p ≡ w.before ++ p ∷ w.after
  set_is ps k i p w = ap (λ (l : List (Page X)). set l i p) w.is ∙ set_at w.before w.page w.after p i w.index

  pub set_read : (ps : List (Page X)) (k : Bytes) (i : ℕ) (p d : Page X) (w : IsPlace ps k i) → get_or (set ps i p) i d ≡ p
  set_read ps k i p d w = ap (λ (l : List (Page X)). get_or l i d) (set_is ps k i p w) ∙ get_or_at w.before p w.after d i w.index

  pub entries_at : (ps : List (Page X)) (k : Bytes) (i : ℕ) (w : IsPlace ps k i) → entries ps ≡ entries w.before ++ (w.page.0 ++ entries w.after)
  entries_at ps k i w = ap (λ (l : List (Page X)). entries l) w.is ∙ entries-append w.before (w.page ∷ w.after)

  pub page_sorted : (ps : List (Page X)) (k : Bytes) (i : ℕ) (p : Page X) (w : IsPlace ps k i) → p ≡ get_or ps i p → IsInOrder ps → IsSorted p.0
  page_sorted ps k i p w is h = grind (arith, common_steps, page_is, sorted_page)

  -- the key is looked for in that page
  pub find_at : (ps : List (Page X)) (k : Bytes) (i : ℕ) (p : Page X) (w : IsPlace ps k i) → p ≡ get_or ps i p
      → find key_cmp k (entries ps) ≡ find key_cmp k p.0
  find_at ps k i p w is =
      ap (find key_cmp k) (entries_at ps k i w)
      ∙ find_middle k (entries w.before) w.page.0 (entries w.after) w.below w.above
      ∙ sym (ap (λ (q : Page X). find key_cmp k q.0) (page_is ps k i p w is))

  pub sorted_there : (ps : List (Page X)) (k : Bytes) (i : ℕ) (w : IsPlace ps k i) → IsInOrder ps → (d : Page X) → IsSorted (get_or ps i d).0
  sorted_there ps k i w h d = subst (λ (q : Page X). IsSorted q.0) (place_is ps k i w d) (page_sorted ps k i w.page w (place_is ps k i w w.page) h)

  pub found_there : (ps : List (Page X)) (k : Bytes) (i : ℕ) (w : IsPlace ps k i) (d : Page X)
      → find key_cmp k (entries ps) ≡ find key_cmp k (get_or ps i d).0
  found_there ps k i w d = find_at ps k i w.page w (place_is ps k i w w.page) ∙ ap (λ (q : Page X). find key_cmp k q.0) (place_is ps k i w d)

  -- ---- in the page at a place

  -- a key by which that page starts, and by which the next doesn't
  pub together_at : (ps : List (Page X)) (k q : Bytes) (i : ℕ) → IsInOrder ps → (w : IsPlace ps k i) → (0 < i → starts_by q w.page.0 ≡ true)
      → ((d : Page X) → i + 1 < length ps → starts_by q (get_or ps (i + 1) d).0 ≡ false) → is_together k q ps ≡ true
  together_at ps k q i h w s n =
      let order = rw w.is at h in
      let e = w.index in
      let none = none_behind w.before w.page w.after order (λ d lt. ap (λ (l : List (Page X)). starts_by q (get_or l (length w.before + 1) d).0) (sym w.is)
      ∙ ap (λ m. starts_by q (get_or ps (m + 1) d).0) e ∙ n d (omega (arith, ap length w.is))) in
      ap (is_together k q) w.is
      ∙ in_one_page k q w.before w.page w.after order (λ lt. w.starts (omega arith))
      (λ lt. s (omega arith)) w.later none
    where
      none_behind : (b : List (Page X)) (c : Page X) (a : List (Page X)) → IsInOrder (b ++ c ∷ a)
          → ((d : Page X) → length b + 1 < length (b ++ c ∷ a) → starts_by q (get_or (b ++ c ∷ a) (length b + 1) d).0 ≡ false)
          → AllByRecursion (λ (p : Page X). starts_by q p.0 ≡ false) a
      none_behind b c [] h n = tt
      none_behind b c (d ∷ a) h n =
          let at : get_or (b ++ c ∷ d ∷ a) (length b + 1) d ≡ d = next_at b c d a d in
          let first = ap (λ (r : Page X). starts_by q r.0) (sym at) ∙ n d (omega (arith, length-append b (c ∷ d ∷ a))) in
          let from = sorted_right key_cmp (entries b) (c.0 ++ entries (d ∷ a)) (sorted_parts b c (d ∷ a) h.sorted) in
          let sorted = sorted_right key_cmp c.0 (entries (d ∷ a)) from in
          (first, none_from q d a sorted (after_filled b c (d ∷ a) h.filled).1 first)

  -- a key by which the next page starts
  pub apart_behind : (ps : List (Page X)) (k q : Bytes) (i : ℕ) → (w : IsPlace ps k i) → (n : Page X) → i + 1 < length ps → n ≡ get_or ps (i + 1) n
      → starts_by q n.0 ≡ true → is_together k q ps ≡ false
  apart_behind ps k q i w n lt is s = by w.before w.page w.after w.is w.index w.later
    where
      by : (b : List (Page X)) (c : Page X) (a : List (Page X)) → ps ≡ b ++ c ∷ a → length b ≡ i → AllByRecursion (λ (p : Page X). starts_by k p.0 ≡ false) a
          → is_together k q ps ≡ false
      by b c [] e at later = absurd (omega (arith, ap length e, length-append b (c ∷ [])))
      by b c (d ∷ a) e at later =
          let here : n ≡ d = is ∙ ap (λ (l : List (Page X)). get_or l (i + 1) n) e ∙ ap (λ m. get_or (b ++ c ∷ d ∷ a) (m + 1) n) (sym at) ∙ next_at b c d a n in
          ap (is_together k q) e ∙ behind_page k q b c d a later.0 (ap (λ (r : Page X). starts_by q r.0) (sym here) ∙ s)

  -- by the next page it is known, where a key starts that page
  pub placed_by_next : (ps : List (Page X)) (k q : Bytes) (i : ℕ) (n : Page X) → IsInOrder ps → (w : IsPlace ps k i)
      → (0 < i → starts_by q w.page.0 ≡ true) → i + 1 < length ps → ((d : Page X) → n ≡ get_or ps (i + 1) d) → not (starts_by q n.0) ≡ is_together k q ps
  placed_by_next ps k q i n h w s lt is = by (starts_by q n.0) refl
    where
      by : (b : Bool) → starts_by q n.0 ≡ b → not (starts_by q n.0) ≡ is_together k q ps
      by true e = ap not e ∙ sym (apart_behind ps k q i w n lt (is n) e)
      by false e = ap not e ∙ sym (together_at ps k q i h w s (λ d _. ap (λ (r : Page X). starts_by q r.0) (sym (is d)) ∙ e))

  -- ---- rooms

  last_room-more : (d r s : ℕ) (k : Bytes) (ps : List (Page X)) → r ≤ s + d → last_room r k ps ≤ last_room s k ps + d
  last_room-more d r s k [] h = h
  last_room-more d r s k (p ∷ ps) h = grind (arith, last_room-more d p.1 p.1 k ps, last_room-more d r s k ps)

  last_page-none : (r : Page X) (k : Bytes) (ps : List (Page X)) → AllByRecursion (λ (p : Page X). starts_by k p.0 ≡ false) ps → last_page r k ps ≡ r
  last_page-none r k [] h = refl
  last_page-none r k (p ∷ ps) h = ap (λ b. last_page (if b then p else r) k ps) h.0 ∙ last_page-none r k ps h.1

  page_here : (r : Page X) (k : Bytes) (before : List (Page X)) (page : Page X) (after : List (Page X)) → starts_by k page.0 ≡ true
      → AllByRecursion (λ (p : Page X). starts_by k p.0 ≡ false) after → last_page r k (before ++ page ∷ after) ≡ page
  page_here r k [] page after t n = ap (λ b. last_page (if b then page else r) k after) t ∙ last_page-none page k after n
  page_here r k (b ∷ before) page after t n = page_here (if starts_by k b.0 then b else r) k before page after t n

  room-page : (r : Page X) (k : Bytes) (ps : List (Page X)) → last_room r.1 k ps ≡ (last_page r k ps).1
  room-page r k [] = refl
  room-page r k (p ∷ ps) = grind (arith, room-page p k ps, room-page r k ps)

  -- what is asked of the last page that starts by k is that of the page where it stands
  module _ {Y : Type 0} (F : Page X → Y) (at : List (Page X) → Y) (k : Bytes) (asks : (p : Page X) (ps : List (Page X))
      → at (p ∷ ps) ≡ F (last_page p k ps)) where
    asked_here : (before : List (Page X)) (page : Page X) (after : List (Page X)) → (0 < length before → starts_by k page.0 ≡ true)
        → AllByRecursion (λ (p : Page X). starts_by k p.0 ≡ false) after → at (before ++ page ∷ after) ≡ F page
    asked_here [] page after s n = asks page after ∙ ap F (last_page-none page k after n)
    asked_here (b ∷ before) page after s n = asks b (before ++ page ∷ after) ∙ ap F (page_here b k before page after (s (omega arith)) n)

    asked_at : (ps : List (Page X)) (i : ℕ) (p : Page X) → IsPlace ps k i → p ≡ get_or ps i p → at ps ≡ F p
    asked_at ps i p w is = grind (arith, common_steps, asked_here, page_is)

    -- with another page in its place that has the same entries
    asked_changed : (ps : List (Page X)) (i : ℕ) (p r : Page X) → IsPlace ps k i → p ≡ get_or ps i p → r.0 ≡ p.0 → at (set ps i r) ≡ F r
    asked_changed ps i p r w is same =
        ap at (set_is ps k i r w)
        ∙ asked_here w.before r w.after (λ lt. ap (starts_by k) (same ∙ ap (λ (q : Page X). q.0) (page_is ps k i p w is))
        ∙ w.starts (let e = w.index in omega arith)) w.later

  pub room_of : (ps : List (Page X)) (k : Bytes) (i : ℕ) (p : Page X) (w : IsPlace ps k i) → p ≡ get_or ps i p → room_at k ps ≡ p.1
  room_of ps k i p w is = asked_at (λ q. q.1) (room_at k) k (λ q qs. room-page q k qs) ps i p w is

  count_here : (k : Bytes) (before : List (Page X)) (page : Page X) (after : List (Page X)) → (0 < length before → starts_by k page.0 ≡ true)
      → AllByRecursion (λ (p : Page X). starts_by k p.0 ≡ false) after → count_at k (before ++ page ∷ after) ≡ length page.0
  count_here k before page after s n = asked_here (λ q. length q.0) (count_at k) k (λ q qs. refl) before page after s n

  pub count_of : (ps : List (Page X)) (k : Bytes) (i : ℕ) (p : Page X) (w : IsPlace ps k i) → p ≡ get_or ps i p → count_at k ps ≡ length p.0
  count_of ps k i p w is = asked_at (λ q. length q.0) (count_at k) k (λ q qs. refl) ps i p w is

  behind_more : (d : ℕ) (q : Bytes) (xs ys : List (Page X)) → ((n : ℕ) → last_room n q xs ≤ last_room n q ys + d) → (n : ℕ) (before : List (Page X))
      → last_room n q (before ++ xs) ≤ last_room n q (before ++ ys) + d
  behind_more d q xs ys more n [] = more n
  behind_more d q xs ys more n (b ∷ before) = behind_more d q xs ys more (if starts_by q b.0 then b.1 else n) before

  -- another page in its place, with d less room at most
  pub room-replaced : (d : ℕ) (q : Bytes) (before : List (Page X)) (p r : Page X) (after : List (Page X)) → p.1 ≤ r.1 + d
      → (0 < length before → starts_by q r.0 ≡ starts_by q p.0)
      → room_at q (before ++ p ∷ after) ≤ room_at q (before ++ r ∷ after) + d
  room-replaced d q [] p r after h s = last_room-more d p.1 r.1 q after h
  room-replaced d q (b ∷ before) p r after h s =
      let same = s (omega arith) in
      behind_more d q (p ∷ after) (r
      ∷ after) (λ n. last_room-more d (if starts_by q p.0 then p.1 else n) (if starts_by q r.0 then r.1 else n) q after (grind (arith, same, h))) b.1 before

  pub room-split : (q : Bytes) (before : List (Page X)) (p lo up : Page X) (after : List (Page X)) → p.1 ≤ lo.1 → p.1 ≤ up.1
      → starts_by q p.0 ≡ starts_by q lo.0 → (starts_by q up.0 ≡ true → starts_by q lo.0 ≡ true)
      → room_at q (before ++ p ∷ after) ≤ room_at q (before ++ lo ∷ up ∷ after) + 0
  room-split q [] p lo up after l u s t = last_room-more 0 p.1 (if starts_by q up.0 then up.1 else lo.1) q after (grind (arith, l, u))
  room-split q (b ∷ before) p lo up after l u s t =
      let here = λ (n : ℕ). two_rooms (starts_by q p.0) (starts_by q lo.0) (starts_by q up.0) p.1 lo.1 up.1 n s l u t in
      behind_more 0 q (p ∷ after) (lo ∷ up
      ∷ after) (λ n. last_room-more 0 (if starts_by q p.0 then p.1 else n) (if starts_by q up.0 then up.1 else (if starts_by q lo.0 then lo.1 else n)) q
      after (here n)) b.1 before

  -- ---- a changed page

  swap_filled : (before : List (Page X)) (p r : Page X) (after : List (Page X)) → (HasEntry p → HasEntry r) → RestHaveEntries (before ++ p ∷ after)
      → RestHaveEntries (before ++ r ∷ after)
  swap_filled [] p r after g h = h
  swap_filled (b ∷ bs) p r after g h =
      let back = all-back HasEntry bs (p ∷ after) h in
      all-append HasEntry bs (r ∷ after) (all-front HasEntry bs (p ∷ after) h) (g back.0, back.1)

  two_filled : (before : List (Page X)) (p lo up : Page X) (after : List (Page X)) → HasEntry lo → HasEntry up → RestHaveEntries (before ++ p ∷ after)
      → RestHaveEntries (before ++ lo ∷ up ∷ after)
  two_filled [] p lo up after f g h = (g, h)
  two_filled (b ∷ bs) p lo up after f g h =
      all-append HasEntry bs (lo ∷ up ∷ after) (all-front HasEntry bs (p ∷ after) h) (f, (g, (all-back HasEntry bs (p ∷ after) h).1))

  -- pages with more room
  pub record Grown (old new : List (Page X)) : Type 0 where
    pub order : IsInOrder new
    pub roomier : IsRoomier old new

  same_order : (old new : List (Page X)) → entries new ≡ entries old → RestHaveEntries new → IsInOrder old → IsInOrder new
  same_order old new e f h = record { sorted = subst (λ (l : List (Bytes × X)). IsSorted l) (sym e) h.sorted; filled = f }

  grown_parts : (b : List (Page X)) (p r : Page X) (a : List (Page X)) → IsInOrder (b ++ p ∷ a) → r.0 ≡ p.0 → p.1 ≤ r.1 → Grown (b ++ p ∷ a) (b ++ r ∷ a)
  grown_parts b p r a h same le =
      let e : entries (b ++ r ∷ a) ≡ entries (b ++ p ∷ a) =
      entries-append b (r ∷ a) ∙ ap (λ (l : List (Bytes × X)). entries b ++ (l ++ entries a)) same ∙ sym (entries-append b (p ∷ a)) in
      record {
        order = same_order (b ++ p ∷ a) (b ++ r ∷ a) e (swap_filled b p r a (λ f. subst (λ (l : List (Bytes × X)). 0 < length l) (sym same) f) h.filled) h;
        roomier = record {
          entries = e;
          rooms = λ q. omega (arith, room-replaced 0 q b p r a (omega arith) (λ lt. ap (starts_by q) same));
          apart = λ j k t. sym (together-replaced j k b p r a (λ lt q. ap (starts_by q) same)) ∙ t;
        };
      }

  split_parts : (b : List (Page X)) (p lo up : Page X) (a : List (Page X)) → IsInOrder (b ++ p ∷ a) → p.0 ≡ lo.0 ++ up.0 → HasEntry lo → HasEntry up
      → p.1 ≤ lo.1 → p.1 ≤ up.1 → Grown (b ++ p ∷ a) (b ++ lo ∷ up ∷ a)
  split_parts b p lo up a h same f g l u =
      let e : entries (b ++ lo ∷ up ∷ a) ≡ entries (b ++ p ∷ a) =
      entries-append b (lo ∷ up ∷ a)
      ∙ ap (λ (l : List (Bytes × X)). entries b ++ l) (sym (append_assoc lo.0 up.0 (entries a)) ∙ ap (λ (l : List (Bytes × X)). l ++ entries a) (sym same))
      ∙ sym (entries-append b (p ∷ a)) in
      let starts = λ (q : Bytes). ap (starts_by q) same ∙ starts-append q lo.0 up.0 f in
      let sorted = subst (λ (l : List (Bytes × X)). IsSorted l) same (sorted_page b p a h.sorted) in
      record {
        order = same_order (b ++ p ∷ a) (b ++ lo ∷ up ∷ a) e (two_filled b p lo up a f g h.filled) h;
        roomier = record {
          entries = e;
          rooms = λ q. omega (arith, room-split q b p lo up a l u (starts q) (starts_lower q lo.0 up.0 sorted g));
          apart = λ j k t. together-split j k b p lo up a starts t;
        };
      }

  -- pages with an entry more
  pub record Inserted (k : Bytes) (v : X) (old new : List (Page X)) : Type 0 where
    pub order : IsInOrder new
    pub entries : entries new ≡ put key_cmp k v (entries old)
    pub rooms : (q : Bytes) → room_at q old ≤ room_at q new + 1
    pub others : (q : Bytes) → is_together k q old ≡ false → room_at q new ≡ room_at q old
    pub together : (i j : Bytes) → is_together i j new ≡ is_together i j old

  inserted_parts : (k : Bytes) (v : X) (b : List (Page X)) (p r : Page X) (a : List (Page X)) → IsInOrder (b ++ p ∷ a) → AreBelow k (entries b)
      → IsBelowAll k (entries a) → (0 < length b → starts_by k p.0 ≡ true) → AllByRecursion (λ (p : Page X). starts_by k p.0 ≡ false) a
      → r.0 ≡ put key_cmp k v p.0 → p.1 ≤ r.1 + 1 → Inserted k v (b ++ p ∷ a) (b ++ r ∷ a)
  inserted_parts k v b p r a h below above starts later same le =
      let alike = λ (lt : 0 < length b) (q : Bytes). ap (starts_by q) same ∙ starts-put q k v p.0 (page_filled b p a lt h.filled) (starts lt) in
      let e : entries (b ++ r ∷ a) ≡ put key_cmp k v (entries (b ++ p ∷ a)) =
      entries-append b (r ∷ a) ∙ ap (λ (l : List (Bytes × X)). entries b ++ (l ++ entries a)) same
      ∙ sym (ap (put key_cmp k v) (entries-append b (p ∷ a)) ∙ put_middle k v (entries b) p.0 (entries a) below above) in
      record {
        order = record {
          sorted = subst (λ (l : List (Bytes × X)). IsSorted l) (sym e) (is_sorted-put key_cmp nat_list_cmp_total k v (entries (b ++ p ∷ a)) h.sorted);
          filled = swap_filled b p r a (λ f. subst (λ (l : List (Bytes × X)). 0 < length l) (sym same) (filled-put k v p.0)) h.filled;
        };
        entries = e;
        rooms = λ q. room-replaced 1 q b p r a le (λ lt. alike lt q);
        others = λ q away. room-other k q b p r a h starts later (λ lt. alike lt q) away;
        together = λ i j. together-replaced i j b p r a alike;
      }

  -- ---- the same at a place

  pub grown : (ps : List (Page X)) (k : Bytes) (i : ℕ) (p r : Page X) → IsPlace ps k i → p ≡ get_or ps i p → IsInOrder ps → r.0 ≡ p.0 → p.1 ≤ r.1
      → Grown ps (set ps i r)
  grown ps k i p r w is h same le =
      let e = page_is ps k i p w is in
      rw (set_is ps k i r w, w.is)
      (grown_parts w.before w.page r w.after (rw w.is at h) (same ∙ ap (λ (q : Page X). q.0) e) (subst (λ (q : Page X). q.1 ≤ r.1) e le))

  -- the room for the key is now that page's
  pub room_grown : (ps : List (Page X)) (k : Bytes) (i : ℕ) (p r : Page X) → IsPlace ps k i → p ≡ get_or ps i p → r.0 ≡ p.0 → room_at k (set ps i r) ≡ r.1
  room_grown ps k i p r w is same = asked_changed (λ q. q.1) (room_at k) k (λ q qs. room-page q k qs) ps i p r w is same

  pub count_grown : (ps : List (Page X)) (k : Bytes) (i : ℕ) (p r : Page X) → IsPlace ps k i → p ≡ get_or ps i p → r.0 ≡ p.0
      → count_at k (set ps i r) ≡ count_at k ps
  count_grown ps k i p r w is same =
      asked_changed (λ q. length q.0) (count_at k) k (λ q qs. refl) ps i p r w is same ∙ ap length same ∙ sym (count_of ps k i p w is)

  pub inserted : (ps : List (Page X)) (k : Bytes) (v : X) (i : ℕ) (p r : Page X) → IsPlace ps k i → p ≡ get_or ps i p → IsInOrder ps → r.0 ≡ put key_cmp k v p.0
      → p.1 ≤ r.1 + 1 → Inserted k v ps (set ps i r)
  inserted ps k v i p r w is h same le =
      let e = page_is ps k i p w is in
      rw (set_is ps k i r w, w.is)
      (inserted_parts k v w.before w.page r w.after (rw w.is at h) w.below w.above (λ lt. w.starts (let n = w.index in omega arith)) w.later (same
      ∙ ap (λ (q : Page X). put key_cmp k v q.0) e) (subst (λ (q : Page X). q.1 ≤ r.1 + 1) e le))

  insert_after : (b : List (Page X)) (lo up : Page X) (a : List (Page X)) → insert (b ++ lo ∷ a) (suc (length b)) up ≡ b ++ lo ∷ up ∷ a
  insert_after [] lo up a = refl
  insert_after (c ∷ b) lo up a = ap (λ l. c ∷ l) (insert_after b lo up a)

  pub split_is : (ps : List (Page X)) (k : Bytes) (i n : ℕ) (lo up : Page X) (w : IsPlace ps k i) → n ≡ i + 1
      → insert (set ps i lo) n up ≡ w.before ++ lo ∷ up ∷ w.after
  split_is ps k i n lo up w e =
      let at : n ≡ suc (length w.before) = (let s = w.index in omega arith) in
      ap (λ (l : List (Page X)). insert l n up) (set_is ps k i lo w) ∙ ap (λ m. insert (w.before ++ lo ∷ w.after) m up) at ∙ insert_after w.before lo up w.after

  pub split : (ps : List (Page X)) (k : Bytes) (i n : ℕ) (p lo up : Page X) → IsPlace ps k i → p ≡ get_or ps i p → IsInOrder ps → n ≡ i + 1 → p.0 ≡ lo.0 ++ up.0
      → HasEntry lo → HasEntry up → p.1 ≤ lo.1 → p.1 ≤ up.1 → Grown ps (insert (set ps i lo) n up)
  split ps k i n p lo up w is h at same f g l u =
      let e = page_is ps k i p w is in
      rw (split_is ps k i n lo up w at, w.is)
      (split_parts w.before w.page lo up w.after (rw w.is at h) (sym (ap (λ (q : Page X). q.0) e)
      ∙ same) f g (subst (λ (q : Page X). q.1 ≤ lo.1) e l) (subst (λ (q : Page X). q.1 ≤ up.1) e u))

  -- the key stands in one part or the other
  pub split_count : (ps : List (Page X)) (k : Bytes) (i n : ℕ) (p lo up : Page X) → IsPlace ps k i → p ≡ get_or ps i p → n ≡ i + 1 → p.0 ≡ lo.0 ++ up.0
      → HasEntry lo
      → (count_at k (insert (set ps i lo) n up) ≡ length lo.0) ⊎ (count_at k (insert (set ps i lo) n up) ≡ length up.0)
  split_count ps k i n p lo up w is at same f = grind (arith, common_steps, split_is, starts-append, page_is, cases_Bool, append_assoc, count_here)

  -- a page that is cut in the middle
  pub halved : (ps old new : List (Page X)) (k : Bytes) (i n cut : ℕ) (p lo up : Page X) → old ≡ ps → new ≡ insert (set ps i lo) n up → IsPlace ps k i
      → p ≡ get_or ps i p → n ≡ i + 1 → p.0 ≡ lo.0 ++ up.0 → HasEntry lo
      → lo.0 ≡ take cut p.0 → cut ≤ length p.0 → (stands_behind k p.0 ≡ false → 2 * cut ≤ length p.0) → (stands_behind k p.0 ≡ false → length p.0 ≤ 2 * cut + 1)
      → IsHalved k old new
  halved ps old new k i n cut p lo up was now w is at same f lower within under over =
      let a : length lo.0 ≡ min cut (length p.0) = ap length lower ∙ length-take cut p.0 in
      let b : length p.0 ≡ length lo.0 + length up.0 = ap length same ∙ length-append lo.0 up.0 in
      let before : count_at k old ≡ length p.0 = ap (count_at k) was ∙ count_of ps k i p w is in
      let after = ap (count_at k) now in
      let here : stands_behind k (page_entries k old) ≡ stands_behind k p.0 =
      ap (stands_behind k) (ap (page_entries k) was ∙ asked_at (λ q. q.0) (page_entries k) k (λ q qs. refl) ps i p w is) in
      let parts = split_count ps k i n p lo up w is at same f in
      record {
        low = λ g. (let u = under (sym here ∙ g) in let o = over (sym here
            ∙ g) in elim parts [ inl e ↦ omega (arith, a, b, before, after, e, u, o) | inr e ↦ omega (arith, a, b, before, after, e, u, o) ]);
        high = λ g. (let u = under (sym here ∙ g) in let o = over (sym here
            ∙ g) in elim parts [ inl e ↦ omega (arith, a, b, before, after, e, u, o) | inr e ↦ omega (arith, a, b, before, after, e, u, o) ]);
      }

  -- ---- an entry at the end

  all_set : (P : Page X → Type 0) (qs : List (Page X)) (j : ℕ) (q s : Page X) → q ≡ get_or qs j q → (P q → P s) → AllByRecursion P qs
      → AllByRecursion P (set qs j s)
  all_set P qs j q s is f a = grind (arith, common_steps)

  -- ---- how much room there is at most

  all_insert : (P : Page X → Type 0) (qs : List (Page X)) (j : ℕ) (p : Page X) → P p → AllByRecursion P qs → AllByRecursion P (insert qs j p)
  all_insert P qs j p h a = grind (arith, common_steps, take-append-drop, all-append, all-front, all-back)

  pub tight-then : (n : ℕ) (ps qs rs : List (Page X)) → StaysTight n ps qs → StaysTight n qs rs → StaysTight n ps rs
  tight-then n ps qs rs a b = record { tight = λ r le h. b.tight r le (a.tight r le h) }

  -- another page in a page's place
  pub tight-set : (n : ℕ) (ps : List (Page X)) (i : ℕ) (p q : Page X) → p ≡ get_or ps i p → q.1 ≤ max p.1 n → StaysTight n ps (set ps i q)
  tight-set n ps i p q is few = record { tight = λ r le h. all_set (λ (s : Page X). s.1 ≤ r) ps i p q is (λ b. omega arith) h }

  pub tight-split : (n : ℕ) (old ps new : List (Page X)) (i j : ℕ) (p lo up : Page X) → old ≡ ps → new ≡ insert (set ps i lo) j up → p ≡ get_or ps i p
      → lo.1 ≤ n → up.1 ≤ n → StaysTight n old new
  tight-split n old ps new i j p lo up was now is low high = grind (arith, common_steps, all_insert, all_set)

  pub tight-push : (n : ℕ) (ps new : List (Page X)) (p : Page X) → new ≡ ps ++ p ∷ [] → p.1 ≤ n → StaysTight n ps new
  tight-push n ps new p now few =
      record { tight = λ r le h. subst (λ (l : List (Page X)). AreTight r l) (sym now) (all-append (λ (s : Page X). s.1 ≤ r) ps (p ∷ []) h (omega arith, tt)) }

  -- an entry more in a page with fewer than 192
  pub loose-set : (ps : List (Page X)) (e : Bytes × X) (i : ℕ) (p r : Page X) (ok : Bool) → p ≡ get_or ps i p → r.0 ≡ (if ok then p.0 ++ e ∷ [] else p.0)
      → length p.0 + p.1 ≤ length r.0 + r.1 → length p.0 < 192 → AreLoose ps → AreLoose (set ps i r)
  loose-set ps e i p r ok is same places lt h = grind (arith, common_steps, length-append, all_set)

  -- a page of one entry, with 256 places
  pub loose-push : (ps : List (Page X)) (e : Bytes × X) (p q : Page X) → q ≡ ([], 256) → p.0 ≡ q.0 ++ e ∷ [] → length q.0 + q.1 ≤ length p.0 + p.1 → AreLoose ps
      → AreLoose (ps ++ p ∷ [])
  loose-push ps e p q new same places h = all-append _ ps (p ∷ []) h (grind (arith, common_steps), tt)

  -- ---- full pages

  -- the last is full too
  pub all_full : (ps : List (Page X)) (i : ℕ) (q : Page X) → i + 1 ≡ length ps → q ≡ get_or ps i q → 192 ≤ length q.0 → AreFull ps → AreAllFull ps
  all_full [] i q at is le h = tt
  all_full (p ∷ []) zero q at is le h = (subst (λ (r : Page X). 192 ≤ length r.0) is le, tt)
  all_full (p ∷ []) (suc i) q at is le h = absurd (omega arith)
  all_full (p ∷ r ∷ ps) zero q at is le h = absurd (omega arith)
  all_full (p ∷ r ∷ ps) (suc i) q at is le h = (h.0, all_full (r ∷ ps) i q (omega arith) is le h.1)

  -- another page at the end, or another in the place of the last
  pub full-push : (ps : List (Page X)) (p : Page X) → AreAllFull ps → AreFull (ps ++ p ∷ [])
  full-push [] p h = (tt, tt)
  full-push (q ∷ []) p h = (h.0, (tt, tt))
  full-push (q ∷ r ∷ ps) p h = (h.0, full-push (r ∷ ps) p h.1)

  pub full-set : (ps : List (Page X)) (i : ℕ) (p : Page X) → i + 1 ≡ length ps → AreFull ps → AreFull (set ps i p)
  full-set [] i p at h = tt
  full-set (q ∷ []) zero p at h = (tt, tt)
  full-set (q ∷ []) (suc i) p at h = absurd (omega arith)
  full-set (q ∷ r ∷ ps) zero p at h = absurd (omega arith)
  full-set (q ∷ r ∷ ps) (suc zero) p at h = (h.0, full-set (r ∷ ps) zero p (omega arith) h.1)
  full-set (q ∷ r ∷ ps) (suc (suc i)) p at h = (h.0, full-set (r ∷ ps) (suc i) p (omega arith) h.1)

  pub pushed_page : (ps : List (Page X)) (e : Bytes × X) → IsInOrder ps → IsSorted (entries ps ++ e ∷ []) → (p : Page X) → p.0 ≡ e ∷ []
      → record { order : IsInOrder (ps ++ p ∷ []); entries : entries (ps ++ p ∷ []) ≡ entries ps ++ e ∷ [] }
  pushed_page ps e h g p is = grind (arith, common_steps, entries-append)

  set_filled : (qs : List (Page X)) (j : ℕ) (q s : Page X) → q ≡ get_or qs j q → (HasEntry q → HasEntry s) → RestHaveEntries qs → RestHaveEntries (set qs j s)
  set_filled qs j q s is f a = grind (arith, common_steps, all_set)

  same_list : (qs : List (Page X)) (j : ℕ) (q s : Page X) (more : List (Bytes × X)) → j + 1 ≡ length qs → q ≡ get_or qs j q → s.0 ≡ q.0 ++ more
      → entries (set qs j s) ≡ entries qs ++ more
  same_list [] j q s more n is e = absurd (omega arith)
  same_list (t ∷ []) zero q s more n is e =
      append-nil s.0 ∙ e ∙ ap (λ (u : Page X). u.0 ++ more) is ∙ ap (λ (l : List (Bytes × X)). l ++ more) (sym (append-nil t.0))
  same_list (t ∷ u ∷ qs) zero q s more n is e = absurd (omega arith)
  same_list (t ∷ qs) (suc j) q s more n is e =
      ap (λ (l : List (Bytes × X)). t.0 ++ l) (same_list qs j q s more (omega arith) is e) ∙ sym (append_assoc t.0 (entries qs) more)

  -- entries at the end of the last page
  pub pushed_more : (ps : List (Page X)) (more : List (Bytes × X)) (i : ℕ) (p r : Page X) → i + 1 ≡ length ps → p ≡ get_or ps i p → IsInOrder ps
      → IsSorted (entries ps ++ more) → r.0 ≡ p.0 ++ more
      → record { order : IsInOrder (set ps i r); entries : entries (set ps i r) ≡ entries ps ++ more }
  pushed_more ps more i p r at is h g same = grind (arith, common_steps, same_list, set_filled)

  pub pushed_last : (ps : List (Page X)) (e : Bytes × X) (i : ℕ) (p r : Page X) (ok : Bool) → i + 1 ≡ length ps → p ≡ get_or ps i p → IsInOrder ps
      → IsSorted (entries ps ++ e ∷ []) → r.0 ≡ (if ok then p.0 ++ e ∷ [] else p.0)
      → record { order : IsInOrder (set ps i r); entries : entries (set ps i r) ≡ (if ok then entries ps ++ e ∷ [] else entries ps) }
  pushed_last ps e i p r true at is h g same = pushed_more ps (e ∷ []) i p r at is h g same
  pushed_last ps e i p r false at is h g same =
      let s = pushed_more ps [] i p r at is h (subst (λ (l : List (Bytes × X)). IsSorted l) (sym (append-nil (entries ps))) h.sorted) (same
      ∙ sym (append-nil p.0)) in
      record { order = s.order; entries = s.entries ∙ append-nil (entries ps) }
