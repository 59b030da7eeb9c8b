-- What making room does to pages.
use Rattle.std.specs.Prelude.{◌≡◌, ◌≤◌, ◌<◌, ◌+◌, ◌-◌, ℕ, Bool, false, List, [], length}
use Rattle.std.specs.Vec.{vec_capacity}
use Rattle.std.specs.declared.vec.Vec.{Vec}
use Rattle.model.specs.Map.{Bytes}
use Rattle.sorted_pages.specs.Pages.{IsHalved, IsInOrder, IsPageWanted, IsRoomier, KeepsHeld, Page}
use Rattle.sorted_pages.specs.Pages.{PagesValue, StaysTight, entries, is_together, pushed, room_at}
use Rattle.sorted_pages.specs.declared.changing.TheConstants.{FILL_PLACES}
use Rattle.sorted_pages.specs.declared.page.TheConstants.{STEP}

-- the vector is empty, and has places for n
pub record IsEmptyFor {X Z : Type 0} (n : ℕ) (v : Vec X Z) : Type 0 where
  pub none : v.items ≡ []
  pub places : n ≤ vec_capacity v

-- the page has these entries and room for n more, and for fewer than a step above these
pub record HasRoomFor {X : Type 0} (n : ℕ) (es : List (Bytes × X)) (p : Page X) : Type 0 where
  pub entries : p.0 ≡ es
  pub room : n ≤ p.1
  pub tight : p.1 ≤ n + (STEP - 1)

-- The pages stand in order and have the same entries. No key has less room, and no page has room for n and a step more,
-- unless one had. The same numbers are held.
pub record MakesRoom {X : Type 0} (n : ℕ) (old new : PagesValue X) : Type 0 where
  pub order : IsInOrder new.pages
  pub roomier : IsRoomier old.pages new.pages
  pub tight : StaysTight (n + (STEP - 1)) old.pages new.pages
  pub held : KeepsHeld old new

-- One entry more stands behind all others, where it came. The pages stand in order, and none has room for more than
-- so many, unless one had.
pub record IsPushed {X : Type 0} (came : Bool) (e : Bytes × X) (old new : List (Page X)) : Type 0 where
  pub order : IsInOrder new
  pub entries : entries new ≡ pushed came (entries old) e
  pub tight : StaysTight FILL_PLACES old new

-- there are more pages, and the one where k stands or would stand is half of what it was
pub record SplitsPage {X : Type 0} (k : Bytes) (old new : List (Page X)) : Type 0 where
  pub more : length old < length new
  pub halved : IsHalved k old new

-- at most one page is made, and only where one is wanted for n more entries at k
pub record MakesOnePage {X : Type 0} (k : Bytes) (n : ℕ) (old new : List (Page X)) : Type 0 where
  pub one : length new ≤ length old + 1
  pub wanted : length old < length new → IsPageWanted k n old

-- An entry more stands at k: the pages stand in order, keys of its page have room for one less, all others for as many,
-- and keys stand in one page where they did.
pub record TakesPlace {X : Type 0} (k : Bytes) (old new : List (Page X)) : Type 0 where
  pub order : IsInOrder new
  pub rooms : (q : Bytes) → room_at q old ≤ room_at q new + 1
  pub others : (q : Bytes) → is_together k q old ≡ false → room_at q new ≡ room_at q old
  pub together : (i j : Bytes) → is_together i j new ≡ is_together i j old
  pub tight : StaysTight 0 old new
