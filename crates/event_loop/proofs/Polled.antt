-- What a poll and the end of a turn make of a slot, and what becomes of its connection.
use Rattle.std.proofs.Common.{◌≡◌, ◌≢◌, inl, inr, ℕ, ◌<◌, ◌≤◌, ◌==◌, ◌||◌, Bool, true, false, cond, List, [], ◌∷◌}
use Rattle.std.proofs.Common.{◌++◌, map, set, Option, Some, None, option_map, refl, sym, ap, subst, ◌∙◌, arith}
use Rattle.std.proofs.Math.ListN.{get_or-eq_default}
use Rattle.std.proofs.lemmas.Bool.{and_parts, cases_eq, cases_lt}
use Rattle.std.proofs.lemmas.Grind.{common_steps}
use Rattle.std.proofs.lemmas.List.{get_or-set_same, get_or-set_other}
use Rattle.mio.specs.Event.{event_token, is_priority, is_read_closed}
use Rattle.mio.specs.declared.event.event.Event.{Event}
use Rattle.model.proofs.Lookups.{some_same}
use Rattle.stream_driver.proofs.OneEntry.{below}
use Rattle.stream_driver.specs.Buffers.{has_had_share, is_flushed_or_failed, traffic_through}
use Rattle.stream_driver.specs.Entries.{state_at_end, EndsDrive, is_gone, is_over}
use Rattle.stream_driver.specs.Traffic.{Traffic}
use Rattle.stream_driver.specs.declared.buffered.BufferedStream.{BufferedStream}
use Rattle.stream_driver.specs.declared.entries.Entry.{Entry}
use Rattle.stream_driver.specs.declared.entries.EntryState.{EntryState}
use Rattle.stream_driver.specs.declared.entries.EntryState.TheVariants.{Idle, Ready, Gone}
use Rattle.event_loop.proofs.Slots.{Slots}
use Rattle.event_loop.specs.Leavings.{EndAll, EndEach, EndsAt, LeavesAs, LeavesIf}
use Rattle.event_loop.specs.Leavings.EndEach.{NoneEnded, OneMore}
use Rattle.event_loop.specs.Lingerings.{Lingerers}
use Rattle.event_loop.specs.Order.{after_turn}
use Rattle.event_loop.specs.Sockets.{SocketsReport, traffic_of}
use Rattle.event_loop.specs.Tables.{EndsTurn, after_event, after_poll, slot_at, reported, reported_slot}
use Rattle.event_loop.specs.declared.socket.Socket.{Socket}

mapped_some : {A B : Type 0} (f : A → B) (o p : Option A) (y : A) → option_map f p ≡ option_map f o → p ≡ Some y → (x : A) × (o ≡ Some x) × (f y ≡ f x)
mapped_some f None p y same is = absurd (cc (ap (option_map f) is))
mapped_some f (Some x) p y same is = (x, refl, cc (ap (option_map f) is))

pub gone_at : (state : EntryState) → is_gone state ≡ true → state ≡ Gone
gone_at state is = grind arith

-- an entry is gone at the end of its drive exactly where it was
pub gone_at_end : (state : EntryState) (had : Bool) → state ≡ Gone → state_at_end state had ≡ Gone
gone_at_end state had gone = ap (λ s. state_at_end s had) gone

pub was_gone : (state : EntryState) (had : Bool) → state_at_end state had ≡ Gone → state ≡ Gone
was_gone Gone had gone = refl
was_gone Ready had gone = gone
was_gone Idle true gone = absurd (let bad : Ready ≡ Gone = gone in cc)
was_gone Idle false gone = gone

pub gone_as : (a b : EntryState) → is_gone a ≡ is_gone b → a ≡ Gone → b ≡ Gone
gone_as a b same gone = gone_at b (sym same ∙ ap is_gone gone)

-- a light share at least, if one is had
abbrev pub IsSome : Option ℕ → Type 0
IsSome None = Unit {0}
IsSome (Some bytes) = 32768 ≤ bytes

-- each slot is as the poll reported, with a share of the turn, or passed over
abbrev pub TakesTurns : {T : Type 0} → (old new : Slots (BufferedStream T)) → List Event → Type 0
TakesTurns old new events =
    (key : ℕ) → (writes : Bool) × (share : Option ℕ) × (slot_at new key ≡ after_turn writes share (after_poll events key (slot_at old key)))
    × IsSome share

module _ {T : Type 0} where
  poll_more : {R : Type 0} (now : R → Event) (yielded : List R) (event : R) (key : ℕ) (slot : Option (Entry (BufferedStream T)))
      → after_poll (map now (yielded ++ event ∷ [])) key slot ≡ after_event (now event) key (after_poll (map now yielded) key slot)
  poll_more now [] event key slot = refl
  poll_more now (e ∷ es) event key slot = poll_more now es event key (after_event (now e) key slot)

  pub put_there : (slots : Slots (BufferedStream T)) (key : ℕ) (old entry : Entry (BufferedStream T)) → slot_at slots key ≡ Some old
      → slot_at (set slots key (Some entry)) key ≡ Some entry
  put_there slots key old entry e = get_or-set_same slots key (Some entry) None (below slots key old e)

  -- a slot was reported, and the others are as they were
  poll_step : (slots new : Slots (BufferedStream T)) (t : ℕ) (on : Bool) → slot_at new t ≡ reported_slot true on (slot_at slots t)
      → ((other : ℕ) → other ≢ t → slot_at new other ≡ slot_at slots other)
      → (key : ℕ) → slot_at new key ≡ reported_slot (t == key) on (slot_at slots key)
  poll_step slots new t on here others key = grind (arith, common_steps, others key)

  module _ {R : Type 0} (now : R
      → Event) (yielded : List R) (event : R) (initial slots : Slots (BufferedStream T)) (t : ℕ) (names : t ≡ (event_token (now event)).0)
      (before : (key : ℕ) → slot_at slots key ≡ after_poll (map now yielded) key (slot_at initial key)) where
    more : (on : Bool) → on ≡ (is_priority (now event) || is_read_closed (now event)) → (key : ℕ) (new : Slots (BufferedStream T))
        → slot_at new key ≡ reported_slot (t == key) on (slot_at slots key)
        → slot_at new key ≡ after_poll (map now (yielded ++ event ∷ [])) key (slot_at initial key)
    more on on_is key new step =
        rw (step, before key, names, on_is, poll_more)

    pub polled_more_some : (on : Bool) → on ≡ (is_priority (now event) || is_read_closed (now event)) → (entry marked : Entry (BufferedStream T))
        → slot_at slots t ≡ Some entry → marked ≡ reported on entry
        → (key : ℕ) → slot_at (set slots t (Some marked)) key ≡ after_poll (map now (yielded ++ event ∷ [])) key (slot_at initial key)
    polled_more_some on on_is entry marked is same key =
        let here : slot_at (set slots t (Some marked)) t ≡ reported_slot true on (slot_at slots t) =
        put_there slots t entry marked is ∙ ap (λ (x : Entry (BufferedStream T)). Some x) same ∙ ap (reported_slot true on) (sym is) in
        more on on_is key (set slots t (Some marked))
        (poll_step slots (set slots t (Some marked)) t on here (λ other differs. get_or-set_other slots t other (Some marked) None differs) key)

    pub polled_more_none : slot_at slots t ≡ None → (key : ℕ) → slot_at slots key ≡ after_poll (map now (yielded ++ event ∷ [])) key (slot_at initial key)
    polled_more_none is key =
        let on = is_priority (now event) || is_read_closed (now event) in
        more on refl key slots (poll_step slots slots t on (is ∙ ap (reported_slot true on) (sym is)) (λ other differs. refl) key)

  -- what a poll leaves of an entry: its session, whether it is gone, and what its stream has moved
  module _ (traffic : T → Traffic) where
    abbrev left : Entry (BufferedStream T) → ℕ × Bool × Traffic
    left entry = (entry.session, is_gone entry.state, traffic_through traffic entry.stream)

    reported_left : (b on : Bool) (slot : Option (Entry (BufferedStream T))) → option_map left (reported_slot b on slot) ≡ option_map left slot
    reported_left b on slot = grind arith

    poll_left : (events : List Event) (key : ℕ) (slot : Option (Entry (BufferedStream T))) → option_map left (after_poll events key slot) ≡ option_map left slot
    poll_left [] key slot = refl
    poll_left (event ∷ events) key slot =
        poll_left events key (after_event event key slot) ∙ reported_left ((event_token event).0 == key) (is_priority event || is_read_closed event) slot

    turn_left : (writes : Bool) (share : Option ℕ) (slot : Option (Entry (BufferedStream T)))
        → option_map left (after_turn writes share slot) ≡ option_map left slot
    turn_left writes share slot = grind arith

    sent_left : (events : List Event) (key : ℕ) (writes : Bool) (share : Option ℕ) (slot new : Option (Entry (BufferedStream T)))
        → new ≡ after_turn writes share (after_poll events key slot) → option_map left new ≡ option_map left slot
    sent_left events key writes share slot new e = ap (option_map left) e ∙ turn_left writes share (after_poll events key slot) ∙ poll_left events key slot

    -- so one entry is as the other was, or will be
    pub record IsLeft (entry other : Entry (BufferedStream T)) : Type 0 where
      pub session : entry.session ≡ other.session
      pub gone : is_gone entry.state ≡ is_gone other.state
      pub through : traffic_through traffic entry.stream ≡ traffic_through traffic other.stream

    is_left : (o p : Option (Entry (BufferedStream T))) (entry : Entry (BufferedStream T)) → option_map left p ≡ option_map left o → p ≡ Some entry
        → (other : Entry (BufferedStream T)) × (o ≡ Some other) × IsLeft entry other
    is_left o p entry same is =
        let m = mapped_some left o p entry same is in (
          m.0,
          m.1,
          record {
            session = ap (λ (x : ℕ × Bool × Traffic). x.0) m.2;
            gone = ap (λ (x : ℕ × Bool × Traffic). x.1) m.2;
            through = ap (λ (x : ℕ × Bool × Traffic). x.2) m.2;
          },
        )

    pub answered_as_it_was : (events : List Event) (key : ℕ) (slot : Option (Entry (BufferedStream T))) (entry : Entry (BufferedStream T))
        → after_poll events key slot ≡ Some entry → (before : Entry (BufferedStream T)) × (slot ≡ Some before) × IsLeft entry before
    answered_as_it_was events key slot entry is = is_left slot (after_poll events key slot) entry (poll_left events key slot) is

    module _ (old new : Slots (BufferedStream T)) (events : List Event) (polled : TakesTurns old new events) where
      pub was_polled : (key : ℕ) (entry : Entry (BufferedStream T)) → slot_at new key ≡ Some entry
          → (before : Entry (BufferedStream T)) × (slot_at old key ≡ Some before) × IsLeft entry before
      was_polled key entry e =
          is_left (slot_at old key) (slot_at new key) entry
          (sent_left events key (polled key).0 (polled key).1 (slot_at old key) (slot_at new key) (polled key).2) e

      pub then_polled : (key : ℕ) (entry : Entry (BufferedStream T)) → slot_at old key ≡ Some entry
          → (after : Entry (BufferedStream T)) × (slot_at new key ≡ Some after) × IsLeft entry after
      then_polled key entry e =
          is_left (slot_at new key) (slot_at old key) entry
          (sym (sent_left events key (polled key).0 (polled key).1 (slot_at old key) (slot_at new key) (polled key).2)) e

  -- ---- the end of a turn

  module _ (reports : Type 0) (traffic : T → Traffic) (moment : ℕ) where
    -- what an entry was before the end of its drive
    pub was_driven : (slot after : Option (Entry (BufferedStream T))) (entry : Entry (BufferedStream T)) → EndsTurn reports traffic moment slot after
        → after ≡ Some entry
        → (was : Entry (BufferedStream T)) × (slot ≡ Some was) × EndsDrive reports traffic moment was entry
    was_driven None after entry none e = absurd (let bad : None ≡ Some entry = sym none ∙ e in cc)
    was_driven (Some was) after entry (mid, ends, is) e =
        elim (is_over mid) as (λ b. after ≡ cond b None (Some mid)
        → (x : Entry (BufferedStream T)) × (Some was ≡ Some x) × EndsDrive reports traffic moment x entry) [
          | true ↦ λ none. absurd (let bad : None ≡ Some entry = sym none ∙ e in cc)
          | false ↦ λ there. (was, refl, subst (λ (x : Entry (BufferedStream T)). EndsDrive reports traffic moment was x) (some_same (sym there ∙ e)) ends)
        ] is

    -- it was gone where it is taken out, or is gone
    pub gone_before : (was : Entry (BufferedStream T)) (after : Option (Entry (BufferedStream T))) → EndsTurn reports traffic moment (Some was) after
        → ((entry : Entry (BufferedStream T)) → after ≡ Some entry → entry.session ≡ was.session → entry.state ≡ Gone) → was.state ≡ Gone
    gone_before was after (mid, ends, is) without =
        was_gone was.state (has_had_share was.stream) (sym ends.state
        ∙ elim (is_over mid) as (λ b. is_over mid ≡ b → after ≡ cond b None (Some mid) → mid.state ≡ Gone) [
          | true ↦ λ over none. gone_at mid.state (and_parts (is_gone mid.state) (is_flushed_or_failed mid.stream) over).0
          | false ↦ λ lasts there. without mid there ends.session
        ] refl is)

module _ {moment : ℕ} {slots : Slots (BufferedStream Socket)} {old : Lingerers} where
  -- the entries at the keys that come are as they were, and the drives of the others have ended
  pub each_rest : {key : ℕ} {new : Slots (BufferedStream Socket)} {later : Lingerers} → EndEach moment slots old key new later → (other : ℕ) → key ≤ other
      → slot_at new other ≡ slot_at slots other
  each_rest NoneEnded other le = refl
  each_rest (OneMore key between new mid later each at) other le = at.others other (λ same. absurd (omega arith)) ∙ each_rest each other (omega arith)

  each_ended : {key : ℕ} {new : Slots (BufferedStream Socket)} {later : Lingerers} → EndEach moment slots old key new later → (other : ℕ) → other < key
      → EndsTurn SocketsReport traffic_of moment (slot_at slots other) (slot_at new other)
  each_ended NoneEnded other lt = absurd (omega arith)
  each_ended (OneMore key between new mid later each at) other lt = elim (cases_eq other key) [
    | inl same ↦
        subst (λ (k : ℕ). EndsTurn SocketsReport traffic_of moment (slot_at slots k) (slot_at new k)) (sym same)
        (subst (λ slot. EndsTurn SocketsReport traffic_of moment slot (slot_at new key)) (each_rest each key (omega arith)) at.ended)
    | inr differs ↦ subst (λ slot. EndsTurn SocketsReport traffic_of moment (slot_at slots other) slot) (sym (at.others other differs))
        (each_ended each other (omega arith))
  ]

  pub all_ended : (new : Slots (BufferedStream Socket)) (later : Lingerers) → EndAll moment slots old new later → (key : ℕ)
      → EndsTurn SocketsReport traffic_of moment (slot_at slots key) (slot_at new key)
  all_ended new later all key = elim (cases_lt key all.keys) [
    | inl lt ↦ each_ended all.each key lt
    | inr le ↦
        let none : slot_at slots key ≡ None = get_or-eq_default slots None (omega (arith, all.all, le)) in
        subst (λ slot. EndsTurn SocketsReport traffic_of moment slot (slot_at new key)) (sym none) (each_rest all.each key le ∙ none)
  ]

-- ---- what becomes of the connection at a key

module _ (moment key : ℕ) (slots new : Slots (BufferedStream Socket)) (others : (other : ℕ) → other ≢ key → slot_at new other ≡ slot_at slots other) where
  -- at the slot alone
  Ends : Option (Entry (BufferedStream Socket)) → Lingerers → Lingerers → Type 0
  Ends slot old later = (ended : EndsTurn SocketsReport traffic_of moment slot (slot_at new key)) × LeavesAs moment slot (slot_at new key) ended old later

  ends : (slot : Option (Entry (BufferedStream Socket))) (old later : Lingerers) → slot_at slots key ≡ slot → Ends slot old later
      → EndsAt moment key slots old new later
  unfolding Ends
  ends slot old later was here =
      let there = subst (λ slot. Ends slot old later) (sym was) here in
      record { ended = there.0; others = others; leaves = there.1 }

  pub vacant : (old : Lingerers) → slot_at slots key ≡ None → slot_at new key ≡ None → EndsAt moment key slots old new old
  unfolding Ends
  vacant old was is = ends None old old was (is, refl)

  pub there : (old later : Lingerers) (before entry : Entry (BufferedStream Socket)) → slot_at slots key ≡ Some before
      → EndsDrive SocketsReport traffic_of moment before entry → (over : Bool) → over ≡ is_over entry
      → slot_at new key ≡ cond over None (Some entry) → LeavesIf over entry.stream.inner old later → EndsAt moment key slots old new later
  unfolding Ends
  there old later before entry was drove over over_is is leaves =
      ends (Some before) old later was (
        (entry, drove, is ∙ ap (λ b. cond b None (Some entry)) over_is),
        subst (λ b. LeavesIf b entry.stream.inner old later) over_is leaves,
      )
