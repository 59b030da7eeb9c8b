-- What the drives of a turn leave of each entry: its session, the number of its connection, and the bytes of its session.
use Rattle.std.proofs.Common.{◌≡◌, ◌≢◌, inl, inr, ℕ, zero, suc, List, [], ◌∷◌, ◌++◌, length, Option, Some, None, refl}
use Rattle.std.proofs.Common.{sym, ap, subst, ◌∙◌, arith}
use Rattle.mio.specs.declared.event.event.Event.{Event}
use Rattle.model.proofs.Lookups.{some_same}
use Rattle.sessions.specs.SessionStreams.{HubState, SessionStream, stream_of}
use Rattle.stream_driver.proofs.Buffering.{flushed_same, none_departed}
use Rattle.stream_driver.proofs.Carry.{one_history}
use Rattle.stream_driver.proofs.OneEntry.{ends_last, entry_other}
use Rattle.stream_driver.specs.Buffers.{fresh, has_had_share, traffic_through}
use Rattle.stream_driver.specs.Drives.{Why}
use Rattle.stream_driver.specs.Entries.{DrivenAll, DrivenEntry, DrivenIn, DrivenSlot, DrivenThen, EndsIn}
use Rattle.stream_driver.specs.Entries.{entry_state_after, with_last}
use Rattle.stream_driver.specs.Sessions.{Point}
use Rattle.stream_driver.specs.Traffic.{DepartAt, Traffic}
use Rattle.stream_driver.specs.declared.answers.Progress.{Progress}
use Rattle.stream_driver.specs.declared.answers.Progress.TheVariants.{Gone}
use Rattle.stream_driver.specs.declared.buffered.BufferedStream.{BufferedStream}
use Rattle.stream_driver.specs.declared.entries.Entry.{Entry}
use Rattle.stream_driver.specs.declared.entries.EntryState.{EntryState}
use Rattle.stream_driver.specs.declared.entries.EntryState.TheVariants.{Idle, Ready, Gone as EntryGone}
use Rattle.event_loop.proofs.Entries.{no_entry}
use Rattle.event_loop.proofs.GoneSessions.{HasLeft, all_grow, entry_left, slot_grows, stays_left}
use Rattle.event_loop.proofs.LastDriven.{IsPlaced, by_key, in_order, key_of, own_place, place_of, slot_placed}
use Rattle.event_loop.proofs.LastDriven.{then_length}
use Rattle.event_loop.proofs.Polled.{gone_as, gone_at_end, TakesTurns, was_driven, was_polled}
use Rattle.event_loop.proofs.Slots.{Slots}
use Rattle.event_loop.specs.TableBytes.{HasItsBytes, HaveBytes}
use Rattle.event_loop.specs.Tables.{EndsTurn, slot_at}

-- a drive keeps the number of a stream's connection
why_same : (s : ℕ) (last : HubState) (before after : Traffic) (served : ℕ) (answer : Progress) → Why s last before after served answer
    → after.connection ≡ before.connection
why_same s last before after served answer why = grind arith

-- each entry that isn't gone has its own session
abbrev pub AreOwn : {T : Type 0} → Slots T → Type 0
AreOwn {T} slots =
    (key other : ℕ) (entry another : Entry T) → slot_at slots key ≡ Some entry → slot_at slots other ≡ Some another → entry.state ≢ EntryGone
    → another.state ≢ EntryGone → entry.session ≡ another.session → key ≡ other

module _ {T : Type 0} (reports : Type 0) (traffic : T → Traffic) where
  -- ---- one entry is driven

  pub same_numbers : (state : EntryState) (earlier : Point) (old : Entry T) (later : Point) (new : Entry T)
      → DrivenIn reports traffic state earlier old later new → (new.session ≡ old.session) × ((traffic new.stream).connection ≡ (traffic old.stream).connection)
  same_numbers Ready earlier old later new d =
      (d.session, why_same old.session d.drove.last.hub (traffic old.stream) (traffic new.stream) _ d.answer d.drove.why)
  same_numbers _ earlier old later new d = (ap (λ (x : Entry T). x.session) d.0, ap (λ (x : Entry T). (traffic x.stream).connection) d.0)

  -- it was not gone before
  pub was_alive : (state : EntryState) (earlier : Point) (old : Entry T) (later : Point) (new : Entry T) → old.state ≡ state
      → DrivenIn reports traffic state earlier old later new → new.state ≢ EntryGone → old.state ≢ EntryGone
  was_alive state earlier old later new is d alive = grind arith

  entry_bytes : (state : EntryState) (earlier : Point) (old : Entry T) (later : Point) (new : Entry T) → DrivenIn reports traffic state earlier old later new
      → new.state ≢ EntryGone
      → HasItsBytes reports traffic earlier.hub old → HasItsBytes reports traffic later.hub new
  entry_bytes Ready earlier old later new d alive has =
      let runs = d.drove.carried.runs in
      let history = runs.history in
      let going : d.answer ≢ Gone = λ gone. alive (d.state ∙ ap entry_state_after gone) in
      let ends : later ≡ d.drove.last = ends_last old.session d.drove.last later d.answer going d.drove.ends in
      let same : has.0 ≡ runs.first = one_history has.0 runs.first (sym has.1 ∙ runs.first_is) in (
        runs.last,
        ap (stream_of later.hub) d.session ∙ ap (λ (p : Point). stream_of p.hub old.session) ends ∙ runs.last_is,
        λ t. (
          d.drove.carried.received t ∙ ap (λ l. l ++ history.received) ((has.2 t).0 ∙ ap (λ (x : SessionStream). x.received) same) ∙ sym history.received_is,
          d.drove.carried.sent t ∙ ap (λ l. l ++ history.sent) ((has.2 t).1 ∙ ap (λ (x : SessionStream). x.sent) same) ∙ sym history.sent_is,
        ),
      )
  entry_bytes _ earlier old later new d alive has =
      subst (λ (p : Point). HasItsBytes reports traffic p.hub new) (sym d.1) (subst (λ (x : Entry T). HasItsBytes reports traffic earlier.hub x) (sym d.0) has)

  -- ---- all are driven

  pub slot_driven : (earlier : Point) (slot : Option (Entry T)) (later : Point) (after : Option (Entry T)) → DrivenSlot reports traffic earlier slot later after
      → (was entry : Entry T) → slot ≡ Some was → after ≡ Some entry
      → DrivenEntry reports traffic earlier was later entry
  slot_driven earlier None later after d was entry e f = absurd (let bad : None ≡ Some was = e in cc)
  slot_driven earlier (Some old) later after (new, is, d) was entry e f =
      subst (λ (x : Entry T). DrivenEntry reports traffic earlier x later entry) (some_same e)
      (subst (λ (x : Entry T). DrivenEntry reports traffic earlier old later x) (some_same (sym is ∙ f)) d)

  -- each entry was driven between some two points
  abbrev pub WasDriven : Option (Entry T) → Entry T → Type 0
  WasDriven slot entry = (was : Entry T) × (slot ≡ Some was) × (h : Point) × (k : Point) × DrivenEntry reports traffic h was k entry

  driven_at : (earlier : Point) (slots : Slots T) (later : Point) (new : Slots T) → DrivenAll reports traffic earlier slots later new
      → (key : ℕ) (entry : Entry T) → slot_at new key ≡ Some entry → WasDriven (slot_at slots key) entry
  driven_at earlier [] later new d key entry e = absurd (no_entry new d.0 key entry e)
  driven_at earlier (None ∷ slots) later new (first, mid, others, is, d, rest) zero entry e =
      absurd (let bad : None ≡ Some entry = sym d.0 ∙ ap (λ l. slot_at l zero) (sym is) ∙ e in cc)
  driven_at earlier (Some was ∷ slots) later new (first, mid, others, is, d, rest) zero entry e =
      (was, refl, earlier, mid, slot_driven earlier (Some was) mid first d was entry refl (ap (λ l. slot_at l zero) (sym is) ∙ e))
  driven_at earlier (slot ∷ slots) later new (first, mid, others, is, d, rest) (suc key) entry e =
      driven_at mid slots later others rest key entry (ap (λ l. slot_at l (suc key)) (sym is) ∙ e)

  pub slot_other : (earlier : Point) (slot : Option (Entry T)) (later : Point) (new : Option (Entry T)) → DrivenSlot reports traffic earlier slot later new
      → (s : ℕ) → ((entry : Entry T) → slot ≡ Some entry → entry.state ≢ EntryGone → s ≢ entry.session)
      → stream_of later.hub s ≡ stream_of earlier.hub s
  slot_other earlier None later new d s apart = ap (λ (p : Point). stream_of p.hub s) d.1
  slot_other earlier (Some old) later new d s apart = entry_other reports traffic old.state earlier old later d.0 refl d.2 s (apart old refl)

  pub all_other : (earlier : Point) (slots : Slots T) (later : Point) (new : Slots T) → DrivenAll reports traffic earlier slots later new → (s : ℕ)
      → ((key : ℕ) (entry : Entry T) → slot_at slots key ≡ Some entry → entry.state ≢ EntryGone → s ≢ entry.session)
      → stream_of later.hub s ≡ stream_of earlier.hub s
  all_other earlier [] later new d s apart = ap (λ (p : Point). stream_of p.hub s) d.1
  all_other earlier (slot ∷ slots) later new (first, mid, others, is, d, rest) s apart =
      all_other mid slots later others rest s (λ key entry e. apart (suc key) entry e) ∙ slot_other earlier slot mid first d s (λ entry e. apart zero entry e)

  -- an entry whose session no other has that isn't gone
  one_bytes : (earlier : Point) (slots : Slots T) (later : Point) (new : Slots T) → DrivenAll reports traffic earlier slots later new
      → (key : ℕ) (was entry : Entry T) → slot_at slots key ≡ Some was → slot_at new key ≡ Some entry
      → ((other : ℕ) (another : Entry T) → slot_at slots other ≡ Some another → another.state ≢ EntryGone → was.session ≡ another.session → key ≡ other)
      → entry.state ≢ EntryGone
      → HasItsBytes reports traffic earlier.hub was → HasItsBytes reports traffic later.hub entry
  one_bytes earlier [] later new d key was entry e f own alive has = absurd (no_entry [] refl key was e)
  one_bytes earlier (slot ∷ slots) later new (first, mid, others, is, d, rest) zero was entry e f own alive has =
      let here = slot_driven earlier slot mid first d was entry e (ap (λ l. slot_at l zero) (sym is) ∙ f) in
      let session : entry.session ≡ was.session = (same_numbers was.state earlier was mid entry here).0 in
      let now = entry_bytes was.state earlier was mid entry here alive has in
      let stays = all_other mid slots later others rest entry.session
      (λ other another g too same. (let bad : zero ≡ suc other = own (suc other) another g too (sym session ∙ same) in omega arith)) in
      (now.0, stays ∙ now.1, now.2)
  one_bytes earlier (slot ∷ slots) later new (first, mid, others, is, d, rest) (suc key) was entry e f own alive has =
      one_bytes mid slots later others rest key was entry e (ap (λ l. slot_at l (suc key)) (sym is) ∙ f)
      (λ other another g too same. (let up : suc key ≡ suc other = own (suc other) another g too same in omega arith)) alive (
        has.0,
        slot_other earlier slot mid first d was.session (λ another g too same. (let bad : suc key ≡ zero = own zero another g too same in omega arith))
            ∙ has.1,
        has.2,
      )

  driven_bytes : (earlier : Point) (slots : Slots T) (later : Point) (new : Slots T) → DrivenAll reports traffic earlier slots later new → AreOwn slots
      → HaveBytes reports traffic earlier.hub slots → HaveBytes reports traffic later.hub new
  driven_bytes earlier slots later new d own has key entry e alive =
      let w = driven_at earlier slots later new d key entry e in
      let before = was_alive w.0.state w.2 w.0 w.3 entry refl w.4 alive in
      one_bytes earlier slots later new d key w.0 entry w.1 e (λ other another g too same. own key other w.0 another w.1 g before too same) alive
      (has key w.0 w.1 before)

  -- ---- entries that are gone

  one_left : (earlier : Point) (slots : Slots T) (later : Point) (new : Slots T) → DrivenAll reports traffic earlier slots later new
      → (key : ℕ) (was entry : Entry T) → slot_at slots key ≡ Some was → slot_at new key ≡ Some entry
      → (was.state ≢ EntryGone → (other : ℕ) (another : Entry T) → slot_at slots other ≡ Some another → another.state ≢ EntryGone
      → was.session ≡ another.session → key ≡ other)
      → reports → (was.state ≢ EntryGone → HasItsBytes reports traffic earlier.hub was)
      → (was.state ≡ EntryGone → HasLeft earlier.hub was.session (traffic was.stream).received) → entry.state ≡ EntryGone
      → HasLeft later.hub entry.session (traffic entry.stream).received
  one_left earlier [] later new d key was entry e f own t has left gone = absurd (no_entry [] refl key was e)
  one_left earlier (slot ∷ slots) later new (first, mid, others, is, d, rest) zero was entry e f own t has left gone =
      let here = slot_driven earlier slot mid first d was entry e (ap (λ l. slot_at l zero) (sym is) ∙ f) in
      stays_left mid.hub later.hub entry.session (traffic entry.stream).received (all_grow reports traffic mid slots later others rest)
      (entry_left reports traffic was.state earlier was mid entry refl here t has left gone)
  one_left earlier (slot ∷ slots) later new (first, mid, others, is, d, rest) (suc key) was entry e f own t has left gone =
      one_left mid slots later others rest key was entry e (ap (λ l. slot_at l (suc key)) (sym is) ∙ f)
      (λ alive other another g too same. (let up : suc key ≡ suc other = own alive (suc other) another g too same in omega arith)) t
      (λ alive. (let b = has alive in (
        b.0,
        slot_other earlier slot mid first d was.session (λ another g too same. (let bad : suc key ≡ zero = own alive zero another g too same in omega arith))
            ∙ b.1,
        b.2,
      )))
      (λ before. stays_left earlier.hub mid.hub was.session (traffic was.stream).received (slot_grows reports traffic earlier slot mid first d) (left before))
      gone

  -- the session of each has left
  driven_left : (earlier : Point) (slots : Slots T) (later : Point) (new : Slots T) → DrivenAll reports traffic earlier slots later new → AreOwn slots
      → reports → HaveBytes reports traffic earlier.hub slots
      → ((key : ℕ) (entry : Entry T) → slot_at slots key ≡ Some entry → entry.state ≡ EntryGone
      → HasLeft earlier.hub entry.session (traffic entry.stream).received)
      → (key : ℕ) (entry : Entry T) → slot_at new key ≡ Some entry → entry.state ≡ EntryGone
      → HasLeft later.hub entry.session (traffic entry.stream).received
  driven_left earlier slots later new d own t has left key entry e gone =
      let w = driven_at earlier slots later new d key entry e in
      one_left earlier slots later new d key w.0 entry w.1 e (λ alive other another g too same. own key other w.0 another w.1 g alive too same) t
      (λ alive. has key w.0 w.1 alive) (left key w.0 w.1) gone

  -- ---- and one of them last

  module _ (last : ℕ) (earlier : Point) (slots : Slots T) (later : Point) (new : Slots T) (d : DrivenThen reports traffic last earlier slots later new) where
    -- an entry stands where it stood, also in the order of the drives
    pub placed_as : (key place : ℕ) → IsPlaced last (length new) key place
        → IsPlaced last (length slots) key place × (slot_at (with_last last slots) place ≡ slot_at slots key)
    placed_as key place at =
        let was = subst (λ n. IsPlaced last n key place) (then_length reports traffic last earlier slots later new d) at in
        (was, slot_placed last slots key place was)

    pub then_at : (key : ℕ) (entry : Entry T) → slot_at new key ≡ Some entry → WasDriven (slot_at slots key) entry
    then_at key entry e =
        let p = place_of last new key entry e in
        let was = placed_as key p.0 p.1 in
        subst (λ slot. WasDriven slot entry) was.1
        (driven_at earlier (with_last last slots) later (with_last last new) d p.0 entry (slot_placed last new key p.0 p.1 ∙ e))

    -- each keeps its session and the number of its connection
    pub then_was : (key : ℕ) (entry : Entry T) → slot_at new key ≡ Some entry
        → (was : Entry T) × (slot_at slots key ≡ Some was) × (entry.session ≡ was.session)
        × ((traffic entry.stream).connection ≡ (traffic was.stream).connection)
    then_was key entry e =
        let w = then_at key entry e in
        let same = same_numbers w.0.state w.2 w.0 w.3 entry w.4 in
        (w.0, w.1, same.0, same.1)

    own_in_order : AreOwn slots → AreOwn (with_last last slots)
    own_in_order own place other entry another e f alive too same =
        let k = key_of last slots place entry e in
        let at = sym (slot_placed last slots k.0 place k.1) ∙ e in
        own_place (λ (x : Entry T). (x.state ≢ EntryGone) × (entry.session ≡ x.session)) last slots k.0 place k.1
        (λ key x g p. own k.0 key entry x at g alive p.0 p.1) other another f (too, same)

    then_bytes : AreOwn slots → HaveBytes reports traffic earlier.hub slots → HaveBytes reports traffic later.hub new
    then_bytes own has =
        by_key (λ (x : Entry T). x.state ≢ EntryGone → HasItsBytes reports traffic later.hub x) last new
        (driven_bytes earlier (with_last last slots) later (with_last last new) d (own_in_order own)
        (in_order (λ (x : Entry T). x.state ≢ EntryGone → HasItsBytes reports traffic earlier.hub x) last slots has))

    pub then_left : AreOwn slots → reports → HaveBytes reports traffic earlier.hub slots
        → ((key : ℕ) (entry : Entry T) → slot_at slots key ≡ Some entry → entry.state ≡ EntryGone
        → HasLeft earlier.hub entry.session (traffic entry.stream).received)
        → (key : ℕ) (entry : Entry T) → slot_at new key ≡ Some entry → entry.state ≡ EntryGone
        → HasLeft later.hub entry.session (traffic entry.stream).received
    then_left own t has left =
        by_key (λ (x : Entry T). x.state ≡ EntryGone → HasLeft later.hub x.session (traffic x.stream).received) last new
        (driven_left earlier (with_last last slots) later (with_last last new) d (own_in_order own) t
        (in_order (λ (x : Entry T). x.state ≢ EntryGone → HasItsBytes reports traffic earlier.hub x) last slots has)
        (in_order (λ (x : Entry T). x.state ≡ EntryGone → HasLeft earlier.hub x.session (traffic x.stream).received) last slots left))

  -- ---- the table alone changes

  kept_bytes : (h : HubState) (before entry : Entry T) → entry.session ≡ before.session
      → (reports → ((traffic entry.stream).received ≡ (traffic before.stream).received) × ((traffic entry.stream).sent ≡ (traffic before.stream).sent))
      → HasItsBytes reports traffic h before → HasItsBytes reports traffic h entry
  kept_bytes h before entry session moved has = (has.0, ap (stream_of h) session ∙ has.1, λ t. ((moved t).0 ∙ (has.2 t).0, (moved t).1 ∙ (has.2 t).1))

-- ---- streams that buffer bytes

module _ {T : Type 0} (reports : Type 0) (traffic : T → Traffic) (moment : ℕ) where
  abbrev through : BufferedStream T → Traffic
  through = traffic_through traffic

  -- what the end of a drive leaves of a stream: nothing was written to it, and what left leaves now
  pub record IsFinished (old new : BufferedStream T) : Type 0 where
    pub connection : (through new).connection ≡ (through old).connection
    pub received : reports → (through new).received ≡ (through old).received
    pub sent : reports → (through new).sent ≡ (through old).sent
    pub departed : reports → DepartAt moment (through old) (through new)

  still_finished : (old new : BufferedStream T) → new ≡ fresh old → IsFinished old new
  still_finished old new same =
      subst (λ (b : BufferedStream T). IsFinished old b) (sym same)
      (record { connection = refl; received = λ t. refl; sent = λ t. refl; departed = λ t. none_departed refl })

  pub finished : (state : EntryState) (old new : BufferedStream T) → EndsIn reports traffic moment state old new → IsFinished old new
  finished Idle old new ends = still_finished old new ends
  finished _ old new ends = elim ends [
    | inl same ↦ still_finished old new same.1
    | inr y ↦ record {
      connection = flushed_same traffic (fresh old) new y.1 y.2.why;
      received = y.2.kept.received;
      sent = y.2.kept.sent;
      departed = y.2.kept.departed;
    }
  ]

  -- ---- the drives of a turn

  pub polled_bytes : (slots ready : Slots (BufferedStream T)) (events : List Event) → TakesTurns slots ready events → (h : HubState)
      → HaveBytes reports through h slots → HaveBytes reports through h ready
  polled_bytes slots ready events polled h has key entry e alive =
      let b = was_polled traffic slots ready events polled key entry e in
      kept_bytes reports through h b.0 entry b.2.session (λ t. (ap (λ (x : Traffic). x.received) b.2.through, ap (λ (x : Traffic). x.sent) b.2.through))
      (has key b.0 b.1 (λ gone. alive (gone_as b.0.state entry.state (sym b.2.gone) gone)))

  module _ (slots ready driven new : Slots (BufferedStream T)) (events : List Event) (polled : TakesTurns slots ready events)
      (own : AreOwn ready) (ended : (key : ℕ) → EndsTurn reports traffic moment (slot_at driven key) (slot_at new key)) where
    pub drives_bytes : (last : ℕ) (h k : Point) → DrivenThen reports through last h ready k driven → HaveBytes reports through h.hub slots
        → HaveBytes reports through k.hub new
    drives_bytes last h k d has key entry e alive =
        let b = was_driven reports traffic moment (slot_at driven key) (slot_at new key) entry (ended key) e in
        let f = finished entry.state b.0.stream entry.stream b.2.stream in
        kept_bytes reports through k.hub b.0 entry b.2.session (λ t. (f.received t, f.sent t))
        (then_bytes reports through last h ready k driven d own (polled_bytes slots ready events polled h.hub has) key b.0 b.1
        (λ gone. alive (b.2.state ∙ gone_at_end b.0.state (has_had_share b.0.stream) gone)))
