use Rattle.versions.proofs.versions.Versions.prepare.Given as goal
use Rattle.std.proofs.Common.{◌≡◌, ℕ, ◌<◌, ◌≤◌, drop}
use Rattle.model.specs.Map.{Bytes}
use Rattle.sorted_pages.specs.Pages.{StayApart, room_at}
use Rattle.versions.proofs.Stores.{IsPlaced}
use Rattle.versions.specs.Chains.{AreRoomier}

-- the writes so far have room
abbrev pub invariant-loop-i : goal.invariant-loop-i
invariant-loop-i l = record {
  roomier : AreRoomier l.initial.self.chains l.self.chains;
  pages : (q : Bytes) → room_at q l.initial.self.pages ≤ room_at q l.self.pages;
  last : l.self.last ≡ l.initial.self.last;
  held : l.self.held ≡ l.initial.self.held;
  groups : l.self.groups ≡ l.initial.self.groups;
  apart : StayApart l.initial.self.pages l.self.pages;
  prepared : (j : ℕ) → j < l.i → IsPlaced l.self.chains l.self.pages (drop j l.writes);
  listed_spare : l.self.listed_spare ≡ l.initial.self.listed_spare;
  groups_spare : l.self.groups_spare ≡ l.initial.self.groups_spare;
}
