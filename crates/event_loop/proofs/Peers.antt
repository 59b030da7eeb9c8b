-- Each entry that is idle waits for its peer: after the drives of a turn, as connections come, and while nobody is driven.
use Rattle.std.proofs.Common.{◌≡◌, ◌≢◌, ◌⊎◌, inl, inr, ℕ, zero, suc, ◌<◌, ◌≤◌, ◌==◌, ◌||◌, Bool, true, false, []}
use Rattle.std.proofs.Common.{◌∷◌, List, Option, Some, None, refl, sym, ap, subst, ◌∙◌, arith}
use Rattle.std.proofs.Math.Logic.{∥∥₁_map}
use Rattle.std.proofs.lemmas.Bool.{cases_eq}
use Rattle.std.proofs.lemmas.Grind.{common_steps}
use Rattle.mio.specs.Event.{event_token, is_priority, is_read_closed}
use Rattle.mio.specs.declared.event.event.Event.{Event}
use Rattle.model.proofs.Lookups.{some_same}
use Rattle.model.specs.Grammar.{IsProperBeginning}
use Rattle.sector.specs.declared.device.Sectors.{Ghosts}
use Rattle.sessions.proofs.Reached.{reached}
use Rattle.sessions.specs.SessionStreams.{HubState, Joins, hub_step, run, stream_of}
use Rattle.sessions.specs.StandsFor.{StandsFor, HubLeads, pending_in, status_in}
use Rattle.sessions.specs.declared.events.Outcome.{Outcome}
use Rattle.sessions.specs.declared.events.Outcome.TheVariants.{Done}
use Rattle.sessions.specs.declared.hub.Hub.{Hub}
use Rattle.socket_calls.specs.declared.counted.AcceptedSocket.{AcceptedSocket}
use Rattle.stream_driver.proofs.Carry.{run_then}
use Rattle.stream_driver.proofs.States.{at_point, point_of}
use Rattle.stream_driver.specs.Appends.{UsesShare}
use Rattle.stream_driver.specs.Buffers.{fresh, has_had_share, share_of, traffic_through}
use Rattle.stream_driver.specs.Drives.{LeavesIfGone, Why}
use Rattle.stream_driver.specs.Entries.{DrivenAll, DrivenIn, DrivenThen, EndsIn, entry_state_after, state_at_end}
use Rattle.stream_driver.specs.Entries.{with_last}
use Rattle.stream_driver.specs.Sessions.{AwaitsMore, RunLeads, Point, inbox_in, pending_at}
use Rattle.stream_driver.specs.Traffic.{Traffic}
use Rattle.stream_driver.specs.Waits.{EachEntry, HasSoundNotes, SaysWhyBlocked, WaitsSince}
use Rattle.stream_driver.specs.declared.answers.Call.TheVariants.{Read, Write}
use Rattle.stream_driver.specs.declared.answers.Progress.{Progress}
use Rattle.stream_driver.specs.declared.answers.Progress.TheVariants.{Waiting}
use Rattle.stream_driver.specs.declared.answers.ReadAnswer.TheVariants.{Blocked}
use Rattle.stream_driver.specs.declared.answers.WriteAnswer.TheVariants.{Blocked as WriteBlocked}
use Rattle.stream_driver.specs.declared.buffered.BufferedStream.{BufferedStream}
use Rattle.stream_driver.specs.declared.entries.Entry.{Entry}
use Rattle.stream_driver.specs.declared.entries.EntryState.{EntryState}
use Rattle.stream_driver.specs.declared.entries.EntryState.TheVariants.{Idle, Ready, Gone}
use Rattle.event_loop.proofs.Entries.{no_entry}
use Rattle.event_loop.proofs.LastDriven.{IsPlaced, own_place, place_of, slot_placed, then_length}
use Rattle.event_loop.proofs.Polled.{IsSome, TakesTurns, was_driven}
use Rattle.event_loop.proofs.Present.{joins_not, joins_other}
use Rattle.event_loop.proofs.Slots.{Slots}
use Rattle.event_loop.proofs.TableBytes.{AreOwn, all_other, same_numbers, slot_driven, slot_other, then_at, was_alive}
use Rattle.event_loop.proofs.Tables.{admits_table}
use Rattle.event_loop.specs.Numbers.{SessionsAreBelow}
use Rattle.event_loop.specs.Order.{after_turn, in_turn}
use Rattle.event_loop.specs.Peers.{AreRested, IdleWait, IsRested, LackNothing, WaitsForPeer}
use Rattle.event_loop.specs.Progress.{UsesTurn}
use Rattle.event_loop.specs.Sockets.{CameShort, IsNewSocket, traffic_of}
use Rattle.event_loop.specs.Tables.{Admits, AdmitsEach, EndsTurn, LetsIn, TableStands, after_event, after_poll}
use Rattle.event_loop.specs.Tables.{join_of, join_tried, joins_of, reported_slot, slot_at}
use Rattle.event_loop.specs.Tables.AdmitsEach.{Nobody, OneMore}
use Rattle.event_loop.specs.declared.socket.Socket.{Socket}

-- ---- what a drive that waits left

-- its last call was a write or a read, which blocked
abbrev pub WhyIdle : ℕ → HubState → Traffic → Type 0
WhyIdle s h after =
    ((after.last ≡ Some (Write WriteBlocked)) × (pending_at h s ≢ [])) ⊎ ((after.last ≡ Some (Read Blocked)) × AwaitsMore h s)

why_idle : (s : ℕ) (h : HubState) (before after : Traffic) (served : ℕ) → Why s h before after served Waiting → WhyIdle s h after
why_idle s h before after served (inl why) = inl (why.0.1, why.1)
why_idle s h before after served (inr why) = inr (why.0.1, why.1)

pub idle_as : (s : ℕ) (last later : Point) (before after : Traffic) (served : ℕ) (answer : Progress) → entry_state_after answer ≡ Idle
    → LeavesIfGone s last later answer → Why s last.hub before after served answer → WhyIdle s later.hub after
idle_as s last later before after served Waiting e ends why =
    subst (λ (p : Point). WhyIdle s p.hub after) (sym ends) (why_idle s last.hub before after served why)
idle_as s last later before after served _ e ends why = absurd (cc)

-- so it is of a session that stands as it did
pub awaits_same : (h k : HubState) (s : ℕ) → stream_of k s ≡ stream_of h s → AwaitsMore h s → AwaitsMore k s
awaits_same h k s same awaits = (
  ap status_in same ∙ awaits.0,
  ap pending_in same ∙ awaits.1,
  subst IsProperBeginning (sym (ap inbox_in same)) awaits.2,
)

still_pending : (h k : HubState) (s : ℕ) → stream_of k s ≡ stream_of h s → pending_at h s ≢ [] → pending_at k s ≢ []
still_pending h k s same some none = some (sym (ap pending_in same) ∙ none)

idle_same : (s : ℕ) (h k : HubState) (after : Traffic) → stream_of k s ≡ stream_of h s → WhyIdle s h after → WhyIdle s k after
idle_same s h k after same (inl why) = inl (why.0, still_pending h k s same why.1)
idle_same s h k after same (inr why) = inr (why.0, awaits_same h k s same why.1)

module _ {T : Type 0} (reports : Type 0) (traffic : T → Traffic) where
  -- an entry that is idle after the drives was driven, and its last call blocked; or it is as it was
  abbrev Stays : Point → Point → Entry T → Entry T → Type 0
  Stays h k was entry =
      ((was.state ≡ Ready) × WhyIdle entry.session k.hub (traffic entry.stream))
      ⊎ ((entry ≡ was) × (stream_of k.hub was.session ≡ stream_of h.hub was.session))

  idle_driven : (state : EntryState) (earlier : Point) (old : Entry T) (later : Point) (new : Entry T) → old.state ≡ state
      → DrivenIn reports traffic state earlier old later new → new.state ≡ Idle → Stays earlier later old new
  idle_driven Ready earlier old later new is d idle =
      inl (
        is,
        subst (λ s. WhyIdle s later.hub (traffic new.stream)) (sym d.session)
            (idle_as old.session d.drove.last later (traffic old.stream) (traffic new.stream) _ d.answer (sym d.state ∙ idle) d.drove.ends d.drove.why),
      )
  idle_driven Idle earlier old later new is d idle = inr (d.0, ap (λ (p : Point). stream_of p.hub old.session) d.1)
  idle_driven Gone earlier old later new is d idle = inr (d.0, ap (λ (p : Point). stream_of p.hub old.session) d.1)

  one_waits : (earlier : Point) (slots : Slots T) (later : Point) (new : Slots T) → DrivenAll reports traffic earlier slots later new
      → (key : ℕ) (was entry : Entry T) → slot_at slots key ≡ Some was → slot_at new key ≡ Some entry
      → ((other : ℕ) (another : Entry T) → slot_at slots other ≡ Some another → another.state ≢ Gone → was.session ≡ another.session → key ≡ other)
      → entry.state ≡ Idle → Stays earlier later was entry
  one_waits earlier [] later new d key was entry e f own idle = absurd (no_entry [] refl key was e)
  one_waits earlier (slot ∷ slots) later new (first, mid, others, is, d, rest) zero was entry e f own idle =
      let here = slot_driven reports traffic earlier slot mid first d was entry e (ap (λ l. slot_at l zero) (sym is) ∙ f) in
      let session : entry.session ≡ was.session = (same_numbers reports traffic was.state earlier was mid entry here).0 in
      let stays : stream_of later.hub was.session ≡ stream_of mid.hub was.session = all_other reports traffic mid slots later others rest was.session
      (λ other another g too same. (let bad : zero ≡ suc other = own (suc other) another g too same in omega arith)) in
      elim (idle_driven was.state earlier was mid entry refl here idle) [
        | inl why ↦ inl (
          why.0,
          idle_same entry.session mid.hub later.hub (traffic entry.stream)
              (ap (stream_of later.hub) session ∙ stays ∙ ap (stream_of mid.hub) (sym session)) why.1,
        )
        | inr same ↦ inr (same.0, stays ∙ same.1)
      ]
  one_waits earlier (slot ∷ slots) later new (first, mid, others, is, d, rest) (suc key) was entry e f own idle =
      let there = one_waits mid slots later others rest key was entry e (ap (λ l. slot_at l (suc key)) (sym is) ∙ f)
      (λ other another g too same. (let up : suc key ≡ suc other = own (suc other) another g too same in omega arith)) idle in
      elim there [
        | inl why ↦ inl why
        | inr same ↦ inr (
          same.0,
          same.1
              ∙ slot_other reports traffic earlier slot mid first d was.session
              (λ another g too same. (let bad : suc key ≡ zero = own zero another g too same in omega arith)),
        )
      ]

module _ {T : Type 0} (reports : Type 0) (traffic : T → Traffic) where
  -- so it is where one is driven last
  then_waits : (last : ℕ) (earlier : Point) (slots : Slots T) (later : Point) (new : Slots T) → DrivenThen reports traffic last earlier slots later new
      → (key : ℕ) (was entry : Entry T) → slot_at slots key ≡ Some was → slot_at new key ≡ Some entry
      → ((other : ℕ) (another : Entry T) → slot_at slots other ≡ Some another → another.state ≢ Gone → was.session ≡ another.session → key ≡ other)
      → entry.state ≡ Idle → Stays reports traffic earlier later was entry
  then_waits last earlier slots later new d key was entry e f own idle =
      let p = place_of last slots key was e in
      let now = subst (λ n. IsPlaced last n key p.0) (sym (then_length reports traffic last earlier slots later new d)) p.1 in
      one_waits reports traffic earlier (with_last last slots) later (with_last last new) d p.0 was entry (slot_placed last slots key p.0 p.1 ∙ e)
      (slot_placed last new key p.0 now ∙ f)
      (λ other another g too same. own_place (λ (x : Entry T). (x.state ≢ Gone) × (was.session ≡ x.session)) last slots key p.0 p.1
      (λ k x h q. own k x h q.0 q.1) other another g (too, same)) idle

-- ---- what a poll and the turns leave

idle_at_end : (state : EntryState) (had : Bool) → state_at_end state had ≡ Idle → (state ≡ Idle) × (had ≡ false)
idle_at_end Idle false e = (refl, refl)
idle_at_end Idle true e = absurd (cc)
idle_at_end Ready had e = absurd (cc)
idle_at_end Gone had e = absurd (cc)

module _ {T : Type 0} where
  -- one that is idle still was not reported
  event_idle : (b on : Bool) (slot : Option (Entry (BufferedStream T))) (entry : Entry (BufferedStream T)) → reported_slot b on slot ≡ Some entry
      → entry.state ≡ Idle → slot ≡ Some entry
  event_idle b on slot entry e idle = grind (arith, common_steps)

  poll_idle : (events : List Event) (key : ℕ) (slot : Option (Entry (BufferedStream T))) (entry : Entry (BufferedStream T))
      → after_poll events key slot ≡ Some entry → entry.state ≡ Idle → slot ≡ Some entry
  poll_idle [] key slot entry e idle = e
  poll_idle (event ∷ events) key slot entry e idle =
      event_idle ((event_token event).0 == key) (is_priority event || is_read_closed event) slot entry
      (poll_idle events key (after_event event key slot) entry e idle) idle

  -- one that is idle was so, or is passed over
  in_turn_idle : (writes : Bool) (state : EntryState) (share : Option ℕ) (x entry : Entry (BufferedStream T)) → x.state ≡ state
      → in_turn writes state share x ≡ entry
      → entry.state ≡ Idle → (x ≡ entry) ⊎ (entry.stream.share ≡ zero)
  in_turn_idle writes Ready None x entry is e idle = inr (ap (λ (y : Entry (BufferedStream T)). y.stream.share) (sym e))
  in_turn_idle writes Ready (Some bytes) x entry is e idle =
      absurd (let bad : Ready ≡ Idle = sym is ∙ ap (λ (y : Entry (BufferedStream T)). y.state) e ∙ idle in cc)
  in_turn_idle writes Idle share x entry is e idle = inl e
  in_turn_idle writes Gone share x entry is e idle = inl e

  turn_idle : (writes : Bool) (share : Option ℕ) (slot : Option (Entry (BufferedStream T))) (entry : Entry (BufferedStream T))
      → after_turn writes share slot ≡ Some entry
      → entry.state ≡ Idle → (slot ≡ Some entry) ⊎ (entry.stream.share ≡ zero)
  turn_idle writes share None entry e idle = absurd (let bad : None ≡ Some entry = e in cc)
  turn_idle writes share (Some x) entry e idle = elim (in_turn_idle writes x.state share x entry refl (some_same e) idle) [
    | inl same ↦ inl (ap (λ (y : Entry (BufferedStream T)). Some y) same)
    | inr none ↦ inr none
  ]

  -- no drive is under way
  abbrev RestsIn : Option (Entry (BufferedStream T)) → Type 0
  RestsIn None = Unit {0}
  RestsIn (Some entry) = (entry.stream.is_short ≡ false) × (entry.stream.is_drained ≡ false)

  event_rests : (b on : Bool) (slot : Option (Entry (BufferedStream T))) → RestsIn slot → RestsIn (reported_slot b on slot)
  event_rests true on (Some entry) rests = rests
  event_rests true on None rests = tt
  event_rests false on slot rests = rests

  poll_rests : (events : List Event) (key : ℕ) (slot : Option (Entry (BufferedStream T))) → RestsIn slot → RestsIn (after_poll events key slot)
  poll_rests [] key slot rests = rests
  poll_rests (event ∷ events) key slot rests =
      poll_rests events key (after_event event key slot)
      (event_rests ((event_token event).0 == key) (is_priority event || is_read_closed event) slot rests)

  in_turn_rests : (writes : Bool) (state : EntryState) (share : Option ℕ) (x : Entry (BufferedStream T)) → RestsIn (Some x)
      → RestsIn (Some (in_turn writes state share x))
  in_turn_rests writes Ready None x rests = rests
  in_turn_rests writes Ready (Some bytes) x rests = rests
  in_turn_rests writes Idle share x rests = rests
  in_turn_rests writes Gone share x rests = rests

  turn_rests : (writes : Bool) (share : Option ℕ) (slot : Option (Entry (BufferedStream T))) → RestsIn slot → RestsIn (after_turn writes share slot)
  turn_rests writes share None rests = tt
  turn_rests writes share (Some x) rests = in_turn_rests writes x.state share x rests

  slot_rests : (slots : Slots (BufferedStream T)) (key : ℕ) → AreRested slots → (slot : Option (Entry (BufferedStream T))) → slot_at slots key ≡ slot
      → RestsIn slot
  slot_rests slots key rested None is = tt
  slot_rests slots key rested (Some entry) is = let r = rested key entry is in (r.short, r.drained)

  -- who is ready has a share of the turn, a light one at least
  in_turn_some : (writes : Bool) (state : EntryState) (share : Option ℕ) (x entry : Entry (BufferedStream T)) → x.state ≡ state
      → in_turn writes state share x ≡ entry
      → entry.state ≡ Ready → IsSome share → 32768 ≤ entry.stream.share
  in_turn_some writes Ready None x entry is e ready some =
      absurd (let bad : Idle ≡ Ready = ap (λ (y : Entry (BufferedStream T)). y.state) e ∙ ready in cc)
  in_turn_some writes Ready (Some bytes) x entry is e ready some = subst (λ (y : Entry (BufferedStream T)). 32768 ≤ y.stream.share) e some
  in_turn_some writes Idle share x entry is e ready some =
      absurd (let bad : Idle ≡ Ready = sym is ∙ ap (λ (y : Entry (BufferedStream T)). y.state) e ∙ ready in cc)
  in_turn_some writes Gone share x entry is e ready some =
      absurd (let bad : Gone ≡ Ready = sym is ∙ ap (λ (y : Entry (BufferedStream T)). y.state) e ∙ ready in cc)

  turn_some : (writes : Bool) (share : Option ℕ) (slot : Option (Entry (BufferedStream T))) (entry : Entry (BufferedStream T))
      → after_turn writes share slot ≡ Some entry
      → entry.state ≡ Ready → IsSome share → 32768 ≤ entry.stream.share
  turn_some writes share None entry e ready some = absurd (let bad : None ≡ Some entry = e in cc)
  turn_some writes share (Some x) entry e ready some = in_turn_some writes x.state share x entry refl (some_same e) ready some

  polled_some : (slots ready : Slots (BufferedStream T)) (events : List Event) → TakesTurns slots ready events → (key : ℕ)
      → (entry : Entry (BufferedStream T)) → slot_at ready key ≡ Some entry → entry.state ≡ Ready → 32768 ≤ entry.stream.share
  polled_some slots ready events polled key entry e is =
      let turn = polled key in turn_some turn.0 turn.1 (after_poll events key (slot_at slots key)) entry (sym turn.2 ∙ e) is turn.3

  polled_rested : (slots ready : Slots (BufferedStream T)) (events : List Event) → TakesTurns slots ready events → AreRested slots → (key : ℕ)
      → (entry : Entry (BufferedStream T)) → slot_at ready key ≡ Some entry → (entry.stream.is_short ≡ false) × (entry.stream.is_drained ≡ false)
  polled_rested slots ready events polled rested key entry e =
      subst RestsIn (sym (polled key).2 ∙ e)
      (turn_rests (polled key).0 (polled key).1 (after_poll events key (slot_at slots key))
      (poll_rests events key (slot_at slots key) (slot_rests slots key rested (slot_at slots key) refl)))

  rested_as : (old new : BufferedStream T) → new ≡ old → IsRested old → IsRested new
  rested_as old new same rests = subst (λ (b : BufferedStream T). IsRested b) (sym same) rests

  module _ (reports : Type 0) (traffic : T → Traffic) (moment : ℕ) where
    end_rests : (state : EntryState) (old new : BufferedStream T) → EndsIn reports traffic moment state old new
        → IsRested new
    end_rests Idle old new ends = rested_as (fresh old) new ends (record { short = refl; drained = refl })
    end_rests _ old new ends = elim ends [
      | inl same ↦ rested_as (fresh old) new same.1 (record { short = refl; drained = refl })
      | inr y ↦ record { short = y.2.kept.short; drained = y.2.kept.drained }
    ]

    pub ended_rested : (driven new : Slots (BufferedStream T)) → ((key : ℕ) → EndsTurn reports traffic moment (slot_at driven key) (slot_at new key))
        → AreRested new
    ended_rested driven new ended key entry e =
        let b = was_driven reports traffic moment (slot_at driven key) (slot_at new key) entry (ended key) e in
        end_rests entry.state b.0.stream entry.stream b.2.stream

-- ---- the drives of a turn

-- one of which no drive is under way has noted nothing
sound_rested : {T : Type 0} (short : T → Type 0) (b : BufferedStream T) → (b.is_short ≡ false) × (b.is_drained ≡ false) → HasSoundNotes short b
sound_rested short b rests = record {
  short = λ yes. absurd (let no = rests.0 in cc);
  drained = λ yes. absurd (let no = rests.1 in cc);
}

module _ {T : Type 0} (traffic : T → Traffic) (short : T → Type 0) (reports : Type 0) where
  -- each entry that was ready used its turn
  pub drives_use : (slots ready driven : Slots (BufferedStream T)) (events : List Event) → TakesTurns slots ready events → AreRested slots
      → EachEntry (WaitsSince (HasSoundNotes short) (SaysWhyBlocked short traffic)) ready driven
      → EachEntry (UsesShare reports (traffic_through traffic) share_of) ready driven → EachEntry (UsesTurn reports traffic) ready driven
  drives_use slots ready driven events polled rested since uses key was entry e f = record {
    some = polled_some slots ready events polled key was e;
    uses = uses key was entry e f;
    blocked = λ is idle last.
        since key was entry e f is idle (sound_rested short was.stream (polled_rested slots ready events polled rested key was e)) (Write WriteBlocked) last;
  }

module _ {T : Type 0} (traffic : T → Traffic) (short : T → Type 0) where
  -- so it is of an entry whose stream and session stand as they did
  waits_same : (h k : HubState) (s : ℕ) (b : BufferedStream T) → stream_of k s ≡ stream_of h s → WaitsForPeer traffic short h s b
      → WaitsForPeer traffic short k s b
  waits_same h k s b same (inl (last, inl some)) = inl (last, inl (still_pending h k s same some))
  waits_same h k s b same (inl (last, inr some)) = inl (last, inr some)
  waits_same h k s b same (inr (read, awaits)) = inr (read, awaits_same h k s same awaits)

  -- an entry that was driven, and whose share isn't used up
  waits_driven : (h : HubState) (s : ℕ) (b : BufferedStream T) → (b.share ≡ zero → ⊥) → WhyIdle s h (traffic_through traffic b) → SaysWhyBlocked short traffic b
      → WaitsForPeer traffic short h s b
  waits_driven h s b left (inl why) waits = elim (waits (Write WriteBlocked) why.0) [
    | inl none ↦ absurd (left none)
    | inr last ↦ inl (last, inl why.1)
  ]
  waits_driven h s b left (inr why) waits = elim (waits (Read Blocked) why.0) [
    | inl none ↦ absurd (left none)
    | inr (inl holds) ↦ inl (holds.1, inr holds.0)
    | inr (inr read) ↦ inr (read, why.1)
  ]

  module _ (reports : Type 0) (slots ready driven new : Slots (BufferedStream T)) (events : List Event) (polled : TakesTurns slots ready events)
      (own : AreOwn ready) (moment : ℕ) (ended : (key : ℕ) → EndsTurn reports traffic moment (slot_at driven key) (slot_at new key))
      (since : EachEntry (WaitsSince (HasSoundNotes short) (SaysWhyBlocked short traffic)) ready driven) (rested : AreRested slots) where
    pub drives_wait : (last : ℕ) (h k : Point) → DrivenThen reports (traffic_through traffic) last h ready k driven → IdleWait traffic short h.hub slots
        → IdleWait traffic short k.hub new
    drives_wait last h k d has key entry e idle =
        let b = was_driven reports traffic moment (slot_at driven key) (slot_at new key) entry (ended key) e in
        let x = b.0 in
        let at = idle_at_end x.state (has_had_share x.stream) (sym b.2.state ∙ idle) in
        let left : x.stream.share ≡ zero → ⊥ = λ none. (let had = at.1 in grind (arith, common_steps)) in
        let w = then_at reports (traffic_through traffic) last h ready k driven d key x b.1 in
        let was = w.0 in
        let alive : was.state ≢ Gone = was_alive reports (traffic_through traffic) was.state w.2 was w.3 x refl w.4 (λ gone. (let is = at.0 in cc)) in
        let stays = then_waits reports (traffic_through traffic) last h ready k driven d key was x w.1 b.1
        (λ other another g too same. own key other was another w.1 g alive too same) at.0 in
        let rests = polled_rested slots ready events polled rested key was w.1 in
        let sound = sound_rested short was.stream rests in
        let waits : WaitsForPeer traffic short k.hub x.session x.stream = elim stays [
          | inl why ↦ waits_driven k.hub x.session x.stream left why.1 (since key was x w.1 b.1 why.0 at.0 sound)
          | inr same ↦ elim (turn_idle (polled key).0 (polled key).1 (after_poll events key (slot_at slots key)) x
              (sym (polled key).2 ∙ w.1 ∙ ap (λ (y : Entry (BufferedStream T)). Some y) (sym same.0)) at.0) [
                | inl there ↦
                    waits_same h.hub k.hub x.session x.stream
                    (subst (λ (y : Entry (BufferedStream T)). stream_of k.hub y.session ≡ stream_of h.hub y.session) (sym same.0) same.1)
                    (has key x (poll_idle events key (slot_at slots key) x there at.0) at.0)
                | inr none ↦ absurd (left none)
              ]
        ] in
        let stream : entry.stream ≡ fresh x.stream = subst (λ s. EndsIn reports traffic moment s x.stream entry.stream) idle b.2.stream in
        subst (λ (y : BufferedStream T). WaitsForPeer traffic short k.hub entry.session y) (sym stream)
        (subst (λ s. WaitsForPeer traffic short k.hub s (fresh x.stream)) (sym b.2.session) waits)

-- ---- connections that come

module _ {T D : Type 0} {g : Ghosts D} (traffic : T → Traffic) (short : T → Type 0) (IsNew : ℕ → ℕ → BufferedStream T → Type 0) where
  module _ (hub later : Hub D g) (next then : ℕ) (slots new : Slots (BufferedStream T)) (h : HubState) (stands : StandsFor hub h)
      (numbers : SessionsAreBelow next slots) (has : IdleWait traffic short h slots) where
    in_waits : (l : LetsIn IsNew hub next slots later then new) → IdleWait traffic short (hub_step h (Joins next) l.joined.0).0 new
    in_waits l key entry e idle = elim (cases_eq key l.key) [
      | inl at ↦
          let which : l.entry ≡ entry = some_same (sym l.changed ∙ ap (slot_at new) (sym at) ∙ e) in
          absurd (let bad : Ready ≡ Idle = sym l.state ∙ ap (λ (x : Entry (BufferedStream T)). x.state) which ∙ idle in cc)
      | inr differs ↦
          let was : slot_at slots key ≡ Some entry = sym (l.others key differs) ∙ e in
          let apart : entry.session ≢ next = λ same. (let lt : entry.session < next = numbers key entry was in omega arith) in
          waits_same traffic short h (hub_step h (Joins next) l.joined.0).0 entry.session entry.stream
          (joins_other h next l.joined.0 entry.session apart)
          (has key entry was idle)
    ]

    tried_waits : (how : (later ≡ hub) ⊎ ((outcome : Outcome) × (outcome ≢ Done) × HubLeads hub later (Joins next) outcome))
        → StandsFor later (run h (join_tried hub later next how)) × IdleWait traffic short (run h (join_tried hub later next how)) slots
    tried_waits (inl same) = (subst (λ (x : Hub D g). StandsFor x h) (sym same) stands, has)
    tried_waits (inr tried) =
        let there = reached hub later (Joins next) tried.0 tried.2 h stands in (
          there.stands,
          subst (λ (x : HubState). IdleWait traffic short x slots) (sym (joins_not h next tried.2.0 (λ done. tried.1 (there.outcome_is ∙ done)))) has,
        )

    come_waits : (admits : Admits IsNew hub next slots later then new)
        → StandsFor later (run h (join_of IsNew hub next slots later then new admits))
        × IdleWait traffic short (run h (join_of IsNew hub next slots later then new admits)) new
    come_waits (inl away) = let r = tried_waits away.hub_is in (
      r.0,
      subst (λ l. IdleWait traffic short (run h (join_tried hub later next away.hub_is)) l) (sym away.slots_are) r.1,
    )
    come_waits (inr within) = ((reached hub later (Joins next) Done within.joined h stands).stands, in_waits within)

-- and more of them
module _ {T D : Type 0} {g : Ghosts D} (traffic : T → Traffic) (short : T → Type 0)
    (IsNew : AcceptedSocket → ℕ → ℕ → BufferedStream T → Type 0) where
  each_waits : {hub : Hub D g} {next : ℕ} {slots : Slots (BufferedStream T)} {came : List AcceptedSocket} {later : Hub D g} {then : ℕ}
      {new : Slots (BufferedStream T)} (each : AdmitsEach IsNew hub next slots came later then new) (h : HubState) → StandsFor hub h
      → TableStands hub next slots → IdleWait traffic short h slots
      → StandsFor later (run h (joins_of each)) × TableStands later then new × IdleWait traffic short (run h (joins_of each)) new
  each_waits Nobody h stands holds has = (stands, holds, has)
  each_waits (OneMore came accepted mid later number then between new each admits) h stands holds has =
      let before = each_waits each h stands holds has in
      let now = come_waits traffic short (IsNew accepted) mid later number then between new (run h (joins_of each)) before.0 before.1.numbers
      before.2 admits in
      let joined = run_then h (joins_of each) (join_of (IsNew accepted) mid number between later then new admits) in (
        subst (λ (x : HubState). StandsFor later x) (sym joined) now.0,
        admits_table mid later number then between new (IsNew accepted) admits before.1,
        subst (λ (x : HubState). IdleWait traffic short x new) (sym joined) now.1,
      )

  -- no drive of theirs is under way
  module _ (begins : (accepted : AcceptedSocket) (key s : ℕ) (b : BufferedStream T) → IsNew accepted key s b
      → IsRested b) where
    each_rested : {hub : Hub D g} {next : ℕ} {slots : Slots (BufferedStream T)} {came : List AcceptedSocket} {later : Hub D g} {then : ℕ}
        {new : Slots (BufferedStream T)} → AdmitsEach IsNew hub next slots came later then new → AreRested slots → AreRested new
    each_rested Nobody rested key entry e = rested key entry e
    each_rested (OneMore came accepted mid later number then between new each (inl away)) rested key entry e =
        each_rested each rested key entry (ap (λ l. slot_at l key) (sym away.slots_are) ∙ e)
    each_rested (OneMore came accepted mid later number then between new each (inr l)) rested key entry e = elim (cases_eq key l.key) [
      | inl at ↦
          let which : l.entry ≡ entry = some_same (sym l.changed ∙ ap (slot_at new) (sym at) ∙ e) in
          subst (λ (x : Entry (BufferedStream T)). IsRested x.stream) which
          (begins accepted l.key l.entry.session l.entry.stream l.fresh)
      | inr differs ↦ each_rested each rested key entry (sym (l.others key differs) ∙ e)
    ]

-- ---- over a hub

module _ {D : Type 0} {g : Ghosts D} where
  -- each connection that a turn accepts has a turn to come
  pub accepted_lack : {hub : Hub D g} {next : ℕ} {slots : Slots (BufferedStream Socket)} {came : List AcceptedSocket} {later : Hub D g} {then : ℕ}
      {new : Slots (BufferedStream Socket)} → AdmitsEach IsNewSocket hub next slots came later then new → TableStands hub next slots
      → LackNothing hub slots → LackNothing later new
  accepted_lack each holds lack = ∥∥₁_map lack (λ w.
      let now = each_waits traffic_of CameShort IsNewSocket each w.0 w.1 holds w.2 in
      (run w.0 (joins_of each), now.0, now.2))

  pub accepted_rested : {hub : Hub D g} {next : ℕ} {slots : Slots (BufferedStream Socket)} {came : List AcceptedSocket} {later : Hub D g} {then : ℕ}
      {new : Slots (BufferedStream Socket)} → AdmitsEach IsNewSocket hub next slots came later then new → AreRested slots → AreRested new
  accepted_rested each rested =
      each_rested traffic_of CameShort IsNewSocket (λ accepted key s b n. record { short = n.2.short; drained = n.2.drained })
      each rested

  -- what leads from one hub to another, and keeps what is idle waiting
  pub leads_lack : (hub later : Hub D g) {P : Point → Point → Type 0} → RunLeads hub later P → (slots new : Slots (BufferedStream Socket))
      → ((h k : Point) → P h k → IdleWait traffic_of CameShort h.hub slots → IdleWait traffic_of CameShort k.hub new)
      → LackNothing hub slots → LackNothing later new
  leads_lack hub later leads slots new keeps lack = ∥∥₁_map lack (λ w.
      let to = leads.to (point_of hub w.0) (at_point hub w.0 w.1) in
      (to.0.hub, to.1.state, keeps (point_of hub w.0) to.0 to.2.1 w.2))
