-- A change of one value of a page, as one of all pages.
use Rattle.std.proofs.Common.{◌≡◌, ℕ, ◌<◌, List, Some, get_or, set, sym, ap, subst, ◌∙◌, arith}
use Rattle.std.proofs.lemmas.Cmp.{tied_itself}
use Rattle.std.specs.Cmp.Lexicographic.{nat_list_cmp_total}
use Rattle.std.specs.FinMap.Entries.{find, find-put, put}
use Rattle.std.specs.Ordering.{is_eq}
use Rattle.std.specs.Prelude.{IfSome, is_some, if◌then◌else◌}
use Rattle.model.specs.Map.{Bytes, key_cmp}
use Rattle.sorted_pages.proofs.Placings.{find_at, found_there, inserted, place_changed, place_is, set_read}
use Rattle.sorted_pages.proofs.Values.{entries-with_value, room-with_value, together-with_value, value_at, with_value}
use Rattle.sorted_pages.proofs.Values.{with_value_in}
use Rattle.sorted_pages.specs.Changes.{ChangesEntry, ChangesPage, ChangesValue, HasRoomAt}
use Rattle.sorted_pages.specs.Pages.{IsInOrder, IsPlace, Page, entries, is_together, room_at}

module _ {X : Type 0} where
  found_put : (k : Bytes) (v : X) (es : List (Bytes × X)) → find key_cmp k (put key_cmp k v es) ≡ Some v
  found_put k v es =
      find-put key_cmp nat_list_cmp_total k k v es ∙ ap (λ o. if is_eq o then Some v else find key_cmp k es) (tied_itself nat_list_cmp_total k)

  -- a value that has room in its page has it in all
  pub has_room : (room : X → ℕ) (ps : List (Page X)) (k : Bytes) (i : ℕ) (w : IsPlace ps k i) (d : Page X) → HasRoomAt room k (entries ps)
      → HasRoomAt room k (get_or ps i d).0
  has_room room ps k i w d h = subst (λ o. IfSome o (λ v. 0 < room v)) (found_there ps k i w d) h

module _ {X : Type 0} (R : X → X → Type 0) (ps new : List (Page X)) (k : Bytes) (i : ℕ) (w : IsPlace ps k i) (h : IsInOrder ps)
    (c : ChangesPage i (ChangesEntry k R) ps new) where
  entry : ChangesEntry k R w.page c.page
  entry = place_changed (ChangesEntry k R) ps new k i w c

  found : find key_cmp k (entries ps) ≡ Some entry.before
  found = find_at ps k i w.page w (place_is ps k i w w.page) ∙ entry.found

  page_with : c.page ≡ with_value_in w.page k entry.after
  page_with = ap (λ es. (es, c.page.1)) entry.entries ∙ ap (λ n. (put key_cmp k entry.after w.page.0, n)) entry.room

  whole : new ≡ with_value ps k entry.after
  whole =
      c.is ∙ ap (set ps i) page_with ∙ value_at ps k i w.page entry.after w (place_is ps k i w w.page) (ap is_some entry.found)

  entries_put : entries new ≡ put key_cmp k entry.after (entries ps)
  entries_put = ap entries whole ∙ entries-with_value ps k entry.after h.sorted (ap is_some found)

  -- the pages are in order, with the value put in
  pub order-changed : IsInOrder new
  order-changed =
      let all = inserted ps k entry.after i w.page c.page w (place_is ps k i w w.page) h entry.entries (let same = entry.room in omega arith) in
      subst (λ (l : List (Page X)). IsInOrder l) (sym c.is) all.order

  pub value_changed : ChangesValue k R ps new
  value_changed = record {
    before = entry.before;
    after = entry.after;
    found = found;
    changed = entry.changed;
    entries = entries_put;
    rooms = λ q. ap (room_at q) whole ∙ room-with_value q ps k entry.after h.sorted;
    together = λ a b. ap (is_together a b) whole ∙ together-with_value a b ps k entry.after h.sorted;
  }

  -- what room the value has now in its page it has in all
  pub room_made : (room : X → ℕ) → HasRoomAt room k (get_or new i c.page).0 → HasRoomAt room k (entries new)
  room_made room some =
      let read = ap (λ (l : List (Page X)). get_or l i c.page) c.is ∙ set_read ps k i c.page c.page w in
      let there = ap (λ (q : Page X). find key_cmp k q.0) read ∙ ap (find key_cmp k) entry.entries ∙ found_put k entry.after w.page.0 in
      let here = ap (find key_cmp k) entries_put ∙ found_put k entry.after (entries ps) in
      subst (λ o. IfSome o (λ v. 0 < room v)) (there ∙ sym here) some
