-- Which of the entries that are ready a turn drives: so many that have written nothing and were short, and of the
-- others one that writes, and one that reads.
use Rattle.std.specs.Prelude.{◌≡◌, ◌⊎◌, ℕ, zero, suc, ◌+◌, ◌-◌, ◌*◌, ◌/◌, ◌<◌, ◌≤◌, ◌==◌, ◌&&◌, ◌||◌, nat_le, nat_lt}
use Rattle.std.specs.Prelude.{max, min, not, Bool, true, false, cond, length, List, Option, Some, None}
use Rattle.std.specs.Prelude.{slice_index_or}
use Rattle.sector.specs.declared.device.Sectors.{Ghosts}
use Rattle.sessions.specs.StandsFor.{has_written}
use Rattle.sessions.specs.declared.events.TheConstants.{SESSIONS_MAX}
use Rattle.sessions.specs.declared.hub.Hub.{Hub}
use Rattle.stream_driver.specs.Buffers.{in_turn_of, is_heavy, is_late, passed_over}
use Rattle.stream_driver.specs.declared.buffered.BufferedStream.{BufferedStream}
use Rattle.stream_driver.specs.declared.buffered.TheConstants.{LIGHT_MAX, SHARE_MAX}
use Rattle.stream_driver.specs.declared.entries.Entry.{Entry}
use Rattle.stream_driver.specs.declared.entries.EntryState.{EntryState}
use Rattle.stream_driver.specs.declared.entries.EntryState.TheVariants.{Idle, Ready, Gone}
use Rattle.event_loop.specs.Tables.{is_ready, slot_at}
use Rattle.event_loop.specs.declared.order.Class.{Class}
use Rattle.event_loop.specs.declared.order.Class.TheVariants.{Heavy, Late, Light, Writing}
use Rattle.event_loop.specs.declared.order.Kind.{Kind}
use Rattle.event_loop.specs.declared.order.Kind.TheVariants.{Any, Reader, Writer}
use Rattle.event_loop.specs.declared.order.TheConstants.{WIDENED_BY, WIDTH_MIN, WIDTH_PARTS}
use Rattle.event_loop.specs.declared.order.Turns.{Turns}

-- how many places a key stands behind another, round the 128 places of the table: from 1, and 128 behind itself
abbrev pub behind : ℕ → ℕ → ℕ
behind last key = cond (nat_lt last key) (key - last) (SESSIONS_MAX + key - last)

-- of the keys that wait, the first behind this one
pub record IsFirst (waits : ℕ → Bool) (last next : ℕ) : Type 0 where
  pub place : next < SESSIONS_MAX
  pub waiting : waits next ≡ true
  pub first : (key : ℕ) → key < SESSIONS_MAX → waits key ≡ true → behind last next ≤ behind last key

-- and where none waits, this one still
abbrev pub HasNextTurn : (ℕ → Bool) → ℕ → ℕ → Type 0
HasNextTurn waits last next = IsFirst waits last next
    ⊎ ((next ≡ last) × ((key : ℕ) → key < SESSIONS_MAX → waits key ≡ false))

-- a key that waits is the next, or that one is nearer to it
abbrev pub ComesNearer : (ℕ → Bool) → ℕ → ℕ → ℕ → Type 0
ComesNearer waits last next key = HasNextTurn waits last next → last < SESSIONS_MAX → key < SESSIONS_MAX
    → waits key ≡ true → (key ≡ next) ⊎ (behind next key < behind last key)

-- what is so counts as one
abbrev pub is_one : Bool → ℕ
is_one b = cond b 1 0

-- how many of the keys below one pass
abbrev pub count_below : (ℕ → Bool) → ℕ → ℕ
count_below passes zero = 0
count_below passes (suc key) = count_below passes key + is_one (passes key)

-- is one of this class of that kind, and is it late?
abbrev pub is_class_of : Kind → Class → Bool
is_class_of Any Light = false
is_class_of Any Writing = true
is_class_of Any Heavy = true
is_class_of Any Late = true
is_class_of Writer Light = false
is_class_of Writer Writing = true
is_class_of Writer Heavy = false
is_class_of Writer Late = false
is_class_of Reader Light = false
is_class_of Reader Writing = false
is_class_of Reader Heavy = true
is_class_of Reader Late = true

abbrev pub is_late_class : Class → Bool
is_late_class Light = false
is_late_class Writing = false
is_late_class Heavy = false
is_late_class Late = true

module _ {T D : Type 0} {g : Ghosts D} (hub : Hub D g) where
  -- has the session's open transaction written, or did the last drive that answered it append a record behind another
  -- reply?
  abbrev pub is_writer : Entry (BufferedStream T) → Bool
  is_writer entry = has_written hub entry.session || entry.stream.is_writer

  -- of those that take turns: all, those that write, and the others, whose streams are heavy
  abbrev pub is_of_kind : Kind → Entry (BufferedStream T) → Bool
  is_of_kind Any entry = is_writer entry || is_heavy entry.stream
  is_of_kind Writer entry = is_writer entry
  is_of_kind Reader entry = not (is_writer entry) && is_heavy entry.stream

  -- what it is to a turn in which it is to be driven
  abbrev pub class_of : Entry (BufferedStream T) → Class
  class_of entry =
      cond (is_writer entry) Writing (cond (is_late entry.stream) Late (cond (is_heavy entry.stream) Heavy Light))

  -- light where there is none, or it isn't to be driven
  abbrev pub class_in : Option (Entry (BufferedStream T)) → Class
  class_in None = Light
  class_in (Some entry) = cond (is_ready entry.state) (class_of entry) Light

  -- these are the classes of the entries at these keys
  abbrev pub AreClasses : (ℕ → Option (Entry (BufferedStream T))) → List Class → Type 0
  AreClasses slots classes = (key : ℕ) → slice_index_or classes key Light ≡ class_in (slots key)

  -- is it of this kind, and is it to be driven?
  abbrev pub waits_as : Kind → Option (Entry (BufferedStream T)) → Bool
  waits_as kind None = false
  waits_as kind (Some entry) = is_ready entry.state && is_of_kind kind entry

  abbrev pub writes_in : Option (Entry (BufferedStream T)) → Bool
  writes_in None = false
  writes_in (Some entry) = is_writer entry

  -- does it have one of the turns?
  abbrev pub has_turn : Turns → ℕ → Entry (BufferedStream T) → Bool
  has_turn turns key entry = key == turns.next || (key == turns.beside && is_of_kind turns.kind entry)

  -- it takes no turns; it takes them, and is late: it doesn't write, and is heavy for one more turn of its own alone
  abbrev pub is_light : Entry (BufferedStream T) → Bool
  is_light entry = not (is_of_kind Any entry)

  abbrev pub is_late_entry : Entry (BufferedStream T) → Bool
  is_late_entry entry = not (is_writer entry) && is_late entry.stream

  -- and is to be driven
  abbrev pub light_in : Option (Entry (BufferedStream T)) → Bool
  light_in None = false
  light_in (Some entry) = is_ready entry.state && is_light entry

  abbrev pub late_in : Option (Entry (BufferedStream T)) → Bool
  late_in None = false
  late_in (Some entry) = is_ready entry.state && is_late_entry entry

  -- how many of these are below a key
  abbrev pub light_below : (ℕ → Option (Entry (BufferedStream T))) → ℕ → ℕ
  light_below slots = count_below (λ key. light_in (slots key))

  abbrev pub late_below : (ℕ → Option (Entry (BufferedStream T))) → ℕ → ℕ
  late_below slots = count_below (λ key. late_in (slots key))

  -- How many bytes it may be sent in this turn: a whole share where it takes turns and has this. A light one where it
  -- takes none, or is late, and is among so many that the turn drives; and none where it is passed over.
  abbrev pub share_in_turn : Turns → (drives_light drives_late : Bool) → ℕ → Entry (BufferedStream T) → Option ℕ
  share_in_turn turns drives_light drives_late key entry =
      cond (is_of_kind Any entry)
      (cond (has_turn turns key entry) (Some SHARE_MAX)
      (cond (is_late_entry entry && drives_late) (Some LIGHT_MAX) None))
      (cond drives_light (Some LIGHT_MAX) None)

  abbrev pub share_of_slot : Turns → (drives_light drives_late : Bool) → ℕ → Option (Entry (BufferedStream T))
      → Option ℕ
  share_of_slot turns drives_light drives_late key None = None
  share_of_slot turns drives_light drives_late key (Some entry) = share_in_turn turns drives_light drives_late key entry

  -- those that take no turns are as many as the turn is wide, and those that are late one less, with the least keys
  abbrev pub share_at : Turns → (ℕ → Option (Entry (BufferedStream T))) → ℕ → Option ℕ
  share_at turns slots key =
      share_of_slot turns (nat_lt (light_below slots key) turns.width) (nat_lt (late_below slots key) (turns.width - 1))
      key (slots key)

  -- how many more of those that take no turns it might drive, or of those that are late, where these are fewer: over so
  -- many places
  abbrev pub unused_in : Turns → (ℕ → Option (Entry (BufferedStream T))) → ℕ → ℕ
  unused_in turns slots places =
      min (turns.width - light_below slots places) (turns.width - 1 - late_below slots places)

  -- it took no turns
  abbrev pub takes_none : Option (Entry (BufferedStream T)) → Bool
  takes_none None = false
  takes_none (Some entry) = is_light entry

  -- The turns of the entries at these keys: the next has one, and beside it the next of the other kind. So one at most
  -- that writes has one.
  pub record AreNext (slots : ℕ → Option (Entry (BufferedStream T))) (last turns : Turns) : Type 0 where
    pub next : HasNextTurn (λ key. waits_as Any (slots key)) last.next turns.next
    pub kind : turns.kind ≡ cond (writes_in (slots turns.next)) Reader Writer
    pub beside : HasNextTurn (λ key. waits_as turns.kind (slots key)) last.beside turns.beside

-- The key of the one of them that writes, if one does: the next, unless it is the other.
abbrev pub writer_beside : Kind → ℕ → ℕ → ℕ
writer_beside Reader next beside = next
writer_beside Writer next beside = beside
writer_beside Any next beside = beside

abbrev pub writer_of : Turns → ℕ
writer_of turns = writer_beside turns.kind turns.next turns.beside

-- How wide a turn is after one so wide, that might have driven so many more, and in which so many turned out heavy.
-- Widths are in parts of one.
abbrev pub width_after : (last unused heavy : ℕ) → ℕ
width_after last unused heavy =
    cond (nat_le WIDTH_MIN heavy) (WIDTH_MIN * WIDTH_PARTS)
    (cond (unused == 0 && heavy == 0) (min (last + WIDENED_BY) (SESSIONS_MAX * WIDTH_PARTS))
    (max (cond (nat_lt ((last / WIDTH_PARTS - unused) * 2) (last / WIDTH_PARTS)) (last - 1) last)
    (WIDTH_MIN * WIDTH_PARTS)))

-- is it to be driven?
abbrev pub is_ready_slot : {T : Type 0} → Option (Entry T) → Bool
is_ready_slot None = false
is_ready_slot (Some entry) = is_ready entry.state

module _ {T : Type 0} where
  -- it takes turns from now on, since its stream is heavy
  abbrev pub takes_turns : Option (Entry (BufferedStream T)) → Bool
  takes_turns None = false
  takes_turns (Some entry) = is_heavy entry.stream

  -- how many of them have streams that are heavy
  abbrev pub heavy_streams : List (Option (Entry (BufferedStream T))) → ℕ
  heavy_streams slots = count_below (λ key. takes_turns (slot_at slots key)) (length slots)

  -- an entry that is ready, and writes or doesn't, has its share of the turn; or it is passed over, and waits with none
  abbrev pub in_turn : Bool → EntryState → Option ℕ → Entry (BufferedStream T) → Entry (BufferedStream T)
  in_turn writes Ready (Some bytes) entry = record entry { stream = in_turn_of bytes entry.stream }
  in_turn writes Ready None entry = record entry { state = Idle; stream = passed_over writes entry.stream }
  in_turn writes Idle share entry = entry
  in_turn writes Gone share entry = entry

  abbrev pub after_turn : Bool → Option ℕ → Option (Entry (BufferedStream T)) → Option (Entry (BufferedStream T))
  after_turn writes share None = None
  after_turn writes share (Some entry) = Some (in_turn writes entry.state share entry)
