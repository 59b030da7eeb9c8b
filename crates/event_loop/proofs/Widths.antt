-- Counts of the entries of a table, over whichever places: beyond the last entry none counts.
use Rattle.std.proofs.Common.{◌≡◌, ℕ, zero, suc, ◌+◌, ◌-◌, ◌≤◌, List, [], ◌∷◌, Option, Some, None, refl, sym, ap, ◌∙◌}
use Rattle.std.proofs.Common.{arith, length, min, Bool, true, false, ◌==◌}
use Rattle.std.specs.Prelude.{◌||◌}
use Rattle.std.proofs.Math.ListN.{get_or-eq_default}
use Rattle.mio.specs.Event.{event_token, is_priority, is_read_closed}
use Rattle.mio.specs.declared.event.event.Event.{Event}
use Rattle.sector.specs.declared.device.Sectors.{Ghosts}
use Rattle.sessions.specs.declared.events.TheConstants.{SESSIONS_MAX}
use Rattle.sessions.specs.declared.hub.Hub.{Hub}
use Rattle.stream_driver.specs.declared.buffered.BufferedStream.{BufferedStream}
use Rattle.stream_driver.specs.declared.entries.Entry.{Entry}
use Rattle.event_loop.proofs.Slots.{Slots}
use Rattle.event_loop.specs.Numbers.{HaveTablePlaces}
use Rattle.event_loop.specs.Order.{count_below, heavy_streams, is_one, late_below, late_in, light_below, light_in}
use Rattle.event_loop.specs.Order.{takes_turns, unused_in}
use Rattle.event_loop.specs.Tables.{after_event, after_poll, reported_slot, slot_at}
use Rattle.event_loop.specs.declared.order.Turns.{Turns}

plus_none : (n : ℕ) → n + 0 ≡ n
plus_none n = omega arith

one_more : (n k : ℕ) → n + suc k ≡ suc (n + k)
one_more n k = omega arith

-- both are the greater of the two
greater : (m n : ℕ) → m + (n - m) ≡ n + (m - n)
greater m n = omega arith

further : (n k : ℕ) → n ≤ n + k
further n k = omega arith

next_key : (key : ℕ) → key + 1 ≡ suc key
next_key key = omega arith

as_far : (m n : ℕ) → m ≤ n → n ≡ m + (n - m)
as_far m n less = omega (arith, less)

vacant : {T : Type 0} (slot : Option (Entry T)) → ((entry : Entry T) → slot ≡ Some entry → ⊥) → slot ≡ None
vacant None never = refl
vacant (Some entry) never = absurd (never entry refl)

-- beyond the places of the table nothing stands
pub beyond_places : {T : Type 0} (slots : Slots T) → HaveTablePlaces slots → (key : ℕ) → SESSIONS_MAX ≤ key → slot_at slots key ≡ None
beyond_places slots places key beyond = vacant (slot_at slots key) (λ entry e. omega (arith, beyond, (places key entry e).place))

-- ---- counts

-- beyond the last that passes the count stays
count_beyond : (passes : ℕ → Bool) (n k : ℕ) → ((i : ℕ) → n ≤ i → passes i ≡ false) → count_below passes (n + k) ≡ count_below passes n
count_beyond passes n zero none = ap (count_below passes) (plus_none n)
count_beyond passes n (suc k) none =
    ap (count_below passes) (one_more n k) ∙ ap (λ b. count_below passes (n + k) + is_one b) (none (n + k) (further n k))
    ∙ plus_none (count_below passes (n + k)) ∙ count_beyond passes n k none

count_same : (passes : ℕ → Bool) (m n : ℕ) → ((i : ℕ) → m ≤ i → passes i ≡ false) → ((i : ℕ) → n ≤ i → passes i ≡ false)
    → count_below passes m ≡ count_below passes n
count_same passes m n beyond_m beyond_n =
    sym (count_beyond passes m (n - m) beyond_m) ∙ ap (count_below passes) (greater m n) ∙ count_beyond passes n (m - n) beyond_n

-- with the one at the key
pub count_more : (passes : ℕ → Bool) (key : ℕ) → count_below passes (key + 1) ≡ count_below passes key + is_one (passes key)
count_more passes key = ap (count_below passes) (next_key key)

module _ {T : Type 0} where
  -- over as many places as the table has
  pub heavy_over : (slots : Slots (BufferedStream T)) (places : ℕ) → length slots ≤ places
      → count_below (λ key. takes_turns (slot_at slots key)) places ≡ heavy_streams slots
  heavy_over slots places long =
      count_same (λ key. takes_turns (slot_at slots key)) places (length slots)
      (λ i beyond. ap takes_turns (get_or-eq_default slots None (omega (arith, long, beyond))))
      (λ i beyond. ap takes_turns (get_or-eq_default slots None beyond))

  none_reported : (same reads_on : Bool) → reported_slot {T = T} same reads_on None ≡ None
  none_reported true reads_on = refl
  none_reported false reads_on = refl

  after_none : (events : List Event) (key : ℕ) (slot : Option (Entry (BufferedStream T))) → slot ≡ None → after_poll events key slot ≡ None
  after_none [] key slot none = none
  after_none (event ∷ events) key slot none =
      after_none events key (after_event event key slot)
      (ap (after_event event key) none ∙ none_reported ((event_token event).0 == key) (is_priority event || is_read_closed event))

module _ {T D : Type 0} {g : Ghosts D} (hub : Hub D g) where
  module _ (slots : ℕ → Option (Entry (BufferedStream T))) where
    pub unused_same : (turns : Turns) (m n : ℕ) → ((i : ℕ) → m ≤ i → slots i ≡ None) → ((i : ℕ) → n ≤ i → slots i ≡ None)
        → unused_in hub turns slots m ≡ unused_in hub turns slots n
    unused_same turns m n beyond_m beyond_n =
        let same = λ (passes : Option (Entry (BufferedStream T)) → Bool) (none : passes None ≡ false).
        count_same (λ key. passes (slots key)) m n (λ i beyond. ap passes (beyond_m i beyond) ∙ none) (λ i beyond. ap passes (beyond_n i beyond) ∙ none) in
        ap (λ k. min (turns.width - k) (turns.width - 1 - late_below hub slots m)) (same (light_in hub) refl)
        ∙ ap (λ k. min (turns.width - light_below hub slots n) (turns.width - 1 - k)) (same (late_in hub) refl)

  -- over as many places as the table has
  pub unused_over : (turns : Turns) (slots : Slots (BufferedStream T)) (places : ℕ) → length slots ≤ places
      → unused_in hub turns (slot_at slots) places ≡ unused_in hub turns (slot_at slots) (length slots)
  unused_over turns slots places long =
      unused_same (slot_at slots) turns places (length slots) (λ i beyond. get_or-eq_default slots None (omega (arith, long, beyond)))
      (λ i beyond. get_or-eq_default slots None beyond)

  -- and over those of all sessions, where the poll reported what is ready
  pub unused_polled : (turns : Turns) (old polled : Slots (BufferedStream T)) (events : List Event) → HaveTablePlaces old
      → ((key : ℕ) → slot_at polled key ≡ after_poll events key (slot_at old key))
      → unused_in hub turns (slot_at polled) (length polled) ≡ unused_in hub turns (λ key. after_poll events key (slot_at old key)) SESSIONS_MAX
  unused_polled turns old polled events places reported =
      ap (λ (slots : ℕ → Option (Entry (BufferedStream T))). unused_in hub turns slots (length polled)) (λ i key. reported key i)
      ∙ unused_same (λ key. after_poll events key (slot_at old key)) turns (length polled) SESSIONS_MAX
      (λ key beyond. sym (reported key) ∙ get_or-eq_default polled None beyond)
      (λ key beyond. after_none events key (slot_at old key) (beyond_places old places key beyond))
