-- What a change of one value does to a page, and to all of them.
use Rattle.std.specs.Cmp.Lexicographic.{slice_cmp}
use Rattle.std.specs.FinMap.Entries.{find, put}
use Rattle.std.specs.List.{insert}
use Rattle.std.specs.Ordering.{nat_cmp}
use Rattle.std.specs.Prelude.{◌≡◌, ℕ, ◌+◌, ◌-◌, ◌<◌, ◌≤◌, max, Bool, List, [], ◌∷◌, ◌++◌, length, take, drop, Some}
use Rattle.std.specs.Prelude.{IfSome, slice_index_or, slice_set, if◌then◌else◌}
use Rattle.model.specs.Entries.{IsAt}
use Rattle.model.specs.Map.{Bytes}
use Rattle.sorted_pages.specs.Pages.{IsPlace, Page, entries, is_together, pushed, room_at}
pub use Rattle.sorted_pages.specs.Pages.{IsLastRaised, KeepsHeld, KeepsHeldTo}
use Rattle.sorted_pages.specs.Rooms.{HasRoomFor}
use Rattle.sorted_pages.specs.Trims.{changed_at}
use Rattle.sorted_pages.specs.declared.page.TheConstants.{STEP}

-- the key has a value, and that has room
abbrev pub HasRoomAt : {X : Type 0} → (X → ℕ) → Bytes → List (Bytes × X) → Type 0
HasRoomAt room k es = IfSome (find (slice_cmp nat_cmp) k es) (λ v. 0 < room v)

-- the key's value became another of which that holds, and nothing else has changed
pub record ChangesEntry {X : Type 0} (k : Bytes) (R : X → X → Type 0) (old new : Page X) : Type 0 where
  pub before : X
  pub after : X
  pub found : find (slice_cmp nat_cmp) k old.0 ≡ Some before
  pub changed : R before after
  pub entries : new.0 ≡ put (slice_cmp nat_cmp) k after old.0
  pub room : new.1 ≡ old.1

-- the key's value became another of which that holds, and no key's page or room has changed
pub record ChangesValue {X : Type 0} (k : Bytes) (R : X → X → Type 0) (old new : List (Page X)) : Type 0 where
  pub before : X
  pub after : X
  pub found : find (slice_cmp nat_cmp) k (entries old) ≡ Some before
  pub changed : R before after
  pub entries : entries new ≡ put (slice_cmp nat_cmp) k after (entries old)
  pub rooms : (q : Bytes) → room_at q new ≡ room_at q old
  pub together : (i j : Bytes) → is_together i j new ≡ is_together i j old

-- the key has a value, which stands in page i, at j
pub record IsValuePlace {X : Type 0} (ps : List (Page X)) (k : Bytes) (i j : ℕ) : Type 0 where
  pub page : IsPlace ps k i
  pub entry : (p : Page X) → IsAt (slice_index_or ps i p).0 k j

-- ---- one page of them

-- page i became another, of which that holds, and no other has changed
pub record ChangesPage {X : Type 0} (i : ℕ) (R : Page X → Page X → Type 0) (old new : List (Page X)) : Type 0 where
  pub page : Page X
  pub is : new ≡ slice_set old i page
  pub changed : (p : Page X) → R (slice_index_or old i p) page

-- an entry of a new key came into the page, in its room
pub record InsertsEntry {X : Type 0} (k : Bytes) (v : X) (old new : Page X) : Type 0 where
  pub entries : new.0 ≡ put (slice_cmp nat_cmp) k v old.0
  pub room : old.1 ≡ new.1 + 1

-- the page has no less room for the same entries, and no more than for n and a step, unless it had
pub record IsGrownFor {X : Type 0} (n : ℕ) (old new : Page X) : Type 0 where
  pub entries : new.0 ≡ old.0
  pub room : old.1 ≤ new.1
  pub tight : new.1 ≤ max old.1 (n + (STEP - 1))

-- the page has one entry more at its end, where it came, and no fewer places
pub record IsPushedTo {X : Type 0} (came : Bool) (k : Bytes) (v : X) (old new : Page X) : Type 0 where
  pub entries : new.0 ≡ pushed came old.0 (k, v)
  pub places : length old.0 + old.1 ≤ length new.0 + new.1
  pub tight : new.1 ≤ max old.1 STEP

-- the key's value became what f makes of it, where it has one
pub record AppliesAt {X : Type 0} (f : X → X) (k : Bytes) (old new : Page X) : Type 0 where
  pub entries : new.0 ≡ changed_at f k old.0
  pub room : new.1 ≡ old.1

-- the pages, and one more behind them where it came
abbrev pub with_page : {X : Type 0} → Bool → List (Page X) → Page X → List (Page X)
with_page came ps p = if came then ps ++ p ∷ [] else ps

-- in the place of page i, which was p, stand two with its entries before `at` and from there on, each with room for n
pub record PartsPage {X : Type 0} (i at n : ℕ) (p : Page X) (old new : List (Page X)) : Type 0 where
  pub lower : Page X
  pub upper : Page X
  pub is : new ≡ insert (slice_set old i lower) (i + 1) upper
  pub low : HasRoomFor n (take at p.0) lower
  pub high : HasRoomFor n (drop at p.0) upper
