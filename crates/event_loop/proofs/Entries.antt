-- Each session that is present has an entry that isn't gone.
use Rattle.std.proofs.Common.{◌≡◌, ◌≢◌, inl, inr, ℕ, zero, suc, ◌<◌, List, [], ◌∷◌, Option, Some, None, refl, sym, ap}
use Rattle.std.proofs.Common.{subst, ◌∙◌}
use Rattle.std.proofs.lemmas.Bool.{cases_eq}
use Rattle.std.specs.Map.{lookup}
use Rattle.mio.specs.declared.event.event.Event.{Event}
use denote.Struct.Props.{props}
use Rattle.model.proofs.Lookups.{some_same}
use Rattle.sector.specs.declared.device.Sectors.{Ghosts}
use Rattle.sessions.proofs.EventSteps.{status_seen}
use Rattle.sessions.specs.SessionStreams.{IsReachedHub, Continued, Leaves}
use Rattle.sessions.specs.StandsFor.{status_in, status_or_absent}
use Rattle.sessions.specs.declared.events.Status.TheVariants.{Absent}
use Rattle.sessions.specs.declared.hub.Hub.{Hub}
use Rattle.stream_driver.proofs.Events.{test}
use Rattle.stream_driver.proofs.OneEntry.{ends_other}
use Rattle.stream_driver.proofs.States.{seen_after}
use Rattle.stream_driver.specs.Buffers.{has_had_share}
use Rattle.stream_driver.specs.Drives.{LeavesIfGone}
use Rattle.stream_driver.specs.Entries.{DrivenAll, DrivenIn, DrivenSlot, DrivenOnce, DrivenThen, HaveSessions}
use Rattle.stream_driver.specs.Entries.{entry_state_after, with_last}
use Rattle.stream_driver.specs.Sessions.{Point, RunLeads, IsPresent, Stands, status_at}
use Rattle.stream_driver.specs.Traffic.{Traffic, untouched}
use Rattle.stream_driver.specs.declared.answers.Progress.{Progress}
use Rattle.stream_driver.specs.declared.answers.Progress.TheVariants.{Gone}
use Rattle.stream_driver.specs.declared.buffered.BufferedStream.{BufferedStream}
use Rattle.stream_driver.specs.declared.entries.Entry.{Entry}
use Rattle.stream_driver.specs.declared.entries.EntryState.{EntryState}
use Rattle.stream_driver.specs.declared.entries.EntryState.TheVariants.{Idle, Ready, Gone as EntryGone}
use Rattle.event_loop.proofs.LastDriven.{by_key, in_order}
use Rattle.event_loop.proofs.Polled.{gone_as, gone_at_end, gone_before, TakesTurns, then_polled, was_driven}
use Rattle.event_loop.proofs.Polled.{was_polled}
use Rattle.event_loop.proofs.Present.{reached-run, absent_then}
use Rattle.event_loop.proofs.Slots.{Slots}
use Rattle.event_loop.specs.Numbers.{SessionsAreBelow}
use Rattle.event_loop.specs.Tables.{EndsTurn, HasNobody, HaveEntries, IsWithoutEntry, slot_at}

-- nobody is there, so each session is absent
pub nobody_entries : {D : Type 0} {g : Ghosts D} {T : Type 0} (hub : Hub D g) (slots : Slots T) → HasNobody hub → HaveEntries hub slots
nobody_entries hub slots nobody s without = ap (λ es. status_or_absent (lookup (test s) es)) nobody.0

-- ---- drives

ends_reached : (s : ℕ) (last new : Point) (answer : Progress) → LeavesIfGone s last new answer → IsReachedHub last.hub → IsReachedHub new.hub
ends_reached s last new Gone e reached = subst (λ h. IsReachedHub h) (sym e.adds.run_is) (Continued last.hub (Leaves s) e.choice tt reached)
ends_reached s last new _ e reached = subst (λ p. IsReachedHub p.hub) (sym e) reached

-- an entry is gone only where its session has left
ends_absent : (s : ℕ) (last new : Point) (answer : Progress) → entry_state_after answer ≡ EntryGone → LeavesIfGone s last new answer → IsReachedHub last.hub
    → status_at new.hub s ≡ Absent
ends_absent s last new Gone gone e reached = ap (λ h. status_at h s) e.adds.run_is ∙ absent_then last.hub s e.choice reached
ends_absent s last new _ gone e reached = absurd (cc)

module _ {T : Type 0} where
  without-cons : (s : ℕ) (slot : Option (Entry T)) (slots : Slots T) → ((entry : Entry T) → slot ≡ Some entry → entry.session ≡ s → entry.state ≡ EntryGone)
      → IsWithoutEntry s slots → IsWithoutEntry s (slot ∷ slots)
  without-cons s slot slots head rest zero entry e same = head entry e same
  without-cons s slot slots head rest (suc key) entry e same = rest key entry e same

  -- a table with no entry
  pub no_entry : (slots : Slots T) → slots ≡ [] → (key : ℕ) (entry : Entry T) → slot_at slots key ≡ Some entry → ⊥
  no_entry slots is key entry e = let bad : None ≡ Some entry = sym (ap (λ (l : Slots T). slot_at l key) is) ∙ e in cc

  module _ (reports : Type 0) (traffic : T → Traffic) (s : ℕ) where
    last_reached : (earlier : Point) (old : Entry T) (later : Point) (new : Entry T) (d : DrivenOnce reports traffic earlier old later new)
        → IsReachedHub earlier.hub → IsReachedHub d.drove.last.hub
    last_reached earlier old later new d reached =
        let runs = d.drove.carried.runs in subst (λ h. IsReachedHub h) (sym runs.adds.run_is) (reached-run earlier.hub runs.events runs.possible reached)

    entry_reached : (state : EntryState) (earlier : Point) (old : Entry T) (later : Point) (new : Entry T)
        → DrivenIn reports traffic state earlier old later new → IsReachedHub earlier.hub → IsReachedHub later.hub
    entry_reached Ready earlier old later new d reached =
        ends_reached old.session d.drove.last later d.answer d.drove.ends (last_reached earlier old later new d reached)
    entry_reached _ earlier old later new d reached = subst (λ p. IsReachedHub p.hub) (sym d.1) reached

    slot_reached : (earlier : Point) (slot : Option (Entry T)) (later : Point) (new : Option (Entry T)) → DrivenSlot reports traffic earlier slot later new
        → IsReachedHub earlier.hub → IsReachedHub later.hub
    slot_reached earlier None later new d reached = subst (λ p. IsReachedHub p.hub) (sym d.1) reached
    slot_reached earlier (Some old) later new d reached = entry_reached old.state earlier old later d.0 d.2 reached

    entry_absent : (state : EntryState) (earlier : Point) (old : Entry T) (later : Point) (new : Entry T) → old.state ≡ state
        → DrivenIn reports traffic state earlier old later new → IsReachedHub earlier.hub
        → (new.session ≡ s → new.state ≡ EntryGone) → ((old.session ≡ s → old.state ≡ EntryGone) → status_at earlier.hub s ≡ Absent)
        → status_at later.hub s ≡ Absent
    entry_absent Idle earlier old later new is d reached without before =
        ap (λ p. status_at p.hub s) d.1 ∙ before (subst (λ (x : Entry T). x.session ≡ s → x.state ≡ EntryGone) d.0 without)
    entry_absent EntryGone earlier old later new is d reached without before = ap (λ p. status_at p.hub s) d.1 ∙ before (λ same. is)
    entry_absent Ready earlier old later new is d reached without before = elim (cases_eq s old.session) [
      | inl same ↦
          let gone : entry_state_after d.answer ≡ EntryGone = sym d.state ∙ without (d.session ∙ sym same) in
          subst (λ t. status_at later.hub t
          ≡ Absent) (sym same) (ends_absent old.session d.drove.last later d.answer gone d.drove.ends (last_reached earlier old later new d reached))
      | inr differs ↦
          ap status_in (ends_other old.session d.drove.last later d.answer s differs d.drove.ends ∙ d.drove.carried.runs.others s differs)
          ∙ before (λ same. absurd (differs (sym same)))
    ]

    slot_absent : (earlier : Point) (slot : Option (Entry T)) (later : Point) (new : Option (Entry T)) → DrivenSlot reports traffic earlier slot later new
        → IsReachedHub earlier.hub
        → ((entry : Entry T) → new ≡ Some entry → entry.session ≡ s → entry.state ≡ EntryGone)
        → (((entry : Entry T) → slot ≡ Some entry → entry.session ≡ s → entry.state ≡ EntryGone) → status_at earlier.hub s ≡ Absent)
        → status_at later.hub s ≡ Absent
    slot_absent earlier None later new d reached without before =
        ap (λ p. status_at p.hub s) d.1 ∙ before (λ entry e. absurd (let bad : None ≡ Some entry = e in cc))
    slot_absent earlier (Some old) later new d reached without before =
        entry_absent old.state earlier old later d.0 refl d.2 reached (without d.0 d.1)
        (λ head. before (λ entry e. subst (λ (x : Entry T). x.session ≡ s → x.state ≡ EntryGone) (some_same e) head))

    driven_absent : (earlier : Point) (slots : Slots T) (later : Point) (new : Slots T) → DrivenAll reports traffic earlier slots later new
        → IsReachedHub earlier.hub → IsWithoutEntry s new
        → (IsWithoutEntry s slots → status_at earlier.hub s ≡ Absent) → status_at later.hub s ≡ Absent
    driven_absent earlier [] later new (is, same) reached without before =
        ap (λ p. status_at p.hub s) same ∙ before (λ key entry e. absurd (no_entry [] refl key entry e))
    driven_absent earlier (slot ∷ slots) later new (first, mid, others, is, d, rest) reached without before =
        let w : IsWithoutEntry s (first ∷ others) = subst (λ l. IsWithoutEntry s l) is without in
        driven_absent mid slots later others rest (slot_reached earlier slot mid first d reached) (λ key entry e. w (suc key) entry e)
        (λ none. slot_absent earlier slot mid first d reached (λ entry e. w zero entry e) (λ head. before (without-cons s slot slots head none)))

  module _ {D : Type 0} {g : Ghosts D} (hub later : Hub D g) where
    pub driven_entries : (reports : Type 0) (traffic : T → Traffic) (last : ℕ) (slots new : Slots T) → Stands hub
        → RunLeads hub later (λ h k. DrivenThen reports traffic last h slots k new) → HaveEntries hub slots → HaveEntries later new
    driven_entries reports traffic last slots new some leads has s without =
        let IsOver : Entry T → Type 0 = λ (x : Entry T). x.session ≡ s → x.state ≡ EntryGone in
        seen_after (hlevel props) some leads
        (λ h k was stands d. status_seen later k.hub stands s
        ∙ driven_absent reports traffic s h (with_last last slots) k (with_last last new) d was.reached (in_order IsOver last new without)
        (λ none. sym (status_seen hub h.hub was s) ∙ has s (by_key IsOver last slots none)))

  -- ---- the table alone changes

  -- each entry was there under its key, with its session, and was not gone where it isn't now
  abbrev pub Remain : Slots T → Slots T → Type 0
  Remain old new = (key : ℕ) (entry : Entry T) → slot_at new key ≡ Some entry
      → (before : Entry T) × (slot_at old key ≡ Some before) × (before.session ≡ entry.session) × (entry.state ≢ EntryGone → before.state ≢ EntryGone)

  pub remain_sessions : {D : Type 0} {g : Ghosts D} (hub : Hub D g) (old new : Slots T) → Remain old new → HaveSessions hub old → HaveSessions hub new
  remain_sessions hub old new remain has = record {
    present = λ key entry e alive. let b = remain key entry e in subst (λ s. IsPresent hub s) b.2 (has.present key b.0 b.1 (b.3 alive));
    own = λ one two first second e f alive too same.
        let a = remain one first e in
        let b = remain two second f in
        has.own one two a.0 b.0 a.1 b.1 (a.3 alive) (b.3 too) (a.2 ∙ same ∙ sym b.2);
  }

  pub remain_numbers : (next : ℕ) (old new : Slots T) → Remain old new → SessionsAreBelow next old → SessionsAreBelow next new
  remain_numbers next old new remain numbers = λ key entry e. let b = remain key entry e in subst (λ s. s < next) b.2 (numbers key b.0 b.1)

module _ {T : Type 0} (old new : Slots (BufferedStream T)) where
  module _ (events : List Event) (polled : TakesTurns old new events) where
    pub polled_remain : Remain old new
    polled_remain key entry e =
        let b = was_polled (λ (x : T). untouched) old new events polled key entry e in
        (b.0, b.1, sym b.2.session, λ alive gone. alive (gone_as b.0.state entry.state (sym b.2.gone) gone))

    pub polled_sessions : {D : Type 0} {g : Ghosts D} (hub : Hub D g) → HaveSessions hub old → HaveSessions hub new
    polled_sessions hub has = remain_sessions hub old new polled_remain has

    pub polled_entries : {D : Type 0} {g : Ghosts D} (hub : Hub D g) → HaveEntries hub old → HaveEntries hub new
    polled_entries hub has s without = has s (λ key entry e same.
        let a = then_polled (λ (x : T). untouched) old new events polled key entry e in
        gone_as a.0.state entry.state (sym a.2.gone) (without key a.0 a.1 (sym a.2.session ∙ same)))

  -- ---- the end of a turn

  module _ (reports : Type 0) (traffic : T → Traffic) (moment : ℕ)
      (ended : (key : ℕ) → EndsTurn reports traffic moment (slot_at old key) (slot_at new key)) where
    pub ended_remain : Remain old new
    ended_remain key entry e =
        let b = was_driven reports traffic moment (slot_at old key) (slot_at new key) entry (ended key) e in
        (b.0, b.1, sym b.2.session, λ alive gone. alive (b.2.state ∙ gone_at_end b.0.state (has_had_share b.0.stream) gone))

    pub ended_entries : {D : Type 0} {g : Ghosts D} (hub : Hub D g) → HaveEntries hub old → HaveEntries hub new
    ended_entries hub has s without = has s (λ key entry e same.
        gone_before reports traffic moment entry (slot_at new key) (subst (λ slot. EndsTurn reports traffic moment slot (slot_at new key)) e (ended key))
        (λ x f session. without key x f (session ∙ same)))
