-- The numbers of the sessions in a table.
use Rattle.std.specs.Prelude.{◌≡◌, ◌<◌, ℕ, List, Option, Some, None, slice_index_or}
use Rattle.sessions.specs.declared.events.TheConstants.{SESSIONS_MAX}
use Rattle.socket_calls.specs.declared.counted.CountedSocket.{CountedSocket}
use Rattle.stream_driver.specs.declared.entries.Entry.{Entry}
use Rattle.event_loop.specs.Sockets.{HasItsPlace}

-- each is below the next one's
abbrev pub SessionsAreBelow : {T : Type 0} → ℕ → List (Option (Entry T)) → Type 0
SessionsAreBelow {T} next slots = (key : ℕ) (entry : Entry T) → slice_index_or slots key None ≡ Some entry
    → entry.session < next

-- the connection of this session, as it was once, was registered with the poll under this key
abbrev pub WasRegisteredAs : (key session : ℕ) → Type 0
WasRegisteredAs key session = (first : CountedSocket) × (first.connection ≡ session) × HasItsPlace key first

-- it stands at one of the 128 places of the table, under whose key the poll reports its connection
pub record HasTablePlace (key session : ℕ) : Type 0 where
  pub place : key < SESSIONS_MAX
  pub registered : ∥ WasRegisteredAs key session ∥₁

-- so it is of each
abbrev pub HaveTablePlaces : {T : Type 0} → List (Option (Entry T)) → Type 0
HaveTablePlaces {T} slots = (key : ℕ) (entry : Entry T) → slice_index_or slots key None ≡ Some entry
    → HasTablePlace key entry.session
