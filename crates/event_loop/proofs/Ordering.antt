-- Whose turn it is.
use Rattle.std.proofs.Common.{◌≡◌, ◌⊎◌, inl, inr, ℕ, zero, suc, ◌<◌, ◌≤◌, ◌-◌, Bool, true, false, cond, not, List, []}
use Rattle.std.proofs.Common.{◌∷◌, ◌+◌, ◌*◌, ◌/◌, ◌≢◌, Option, Some, None, set, refl, sym, ap, subst, ◌∙◌, arith}
use Rattle.std.proofs.Common.{◌==◌}
use Rattle.std.proofs.lemmas.Bool.{both_ways, cases_eq, cases_Bool, false_from_ne_true}
use Rattle.std.proofs.lemmas.Bool.Decides.{nat_tests}
use Rattle.std.proofs.lemmas.Grind.{common_steps}
use Rattle.std.proofs.lemmas.List.{get_or-set_other}
use Rattle.std.specs.Prelude.{nat_lt, ◌&&◌, ◌||◌}
use Rattle.mio.specs.Events.{items}
use Rattle.mio.specs.declared.event.event.Event.{Event}
use Rattle.slab.specs.Slab.{Slab}
use denote.Struct.Props.{props}
use Rattle.model.proofs.Lookups.{some_same}
use Rattle.sector.specs.declared.device.Sectors.{Ghosts}
use Rattle.sessions.specs.StandsFor.{device}
use Rattle.sessions.specs.declared.hub.Hub.{Hub}
use Rattle.socket_calls.specs.declared.counted.AcceptedSocket.{AcceptedSocket}
use Rattle.stream_driver.proofs.States.{seen_after}
use Rattle.stream_driver.specs.Buffers.{Finishes, fresh, has_had_share, is_flushed_or_failed, is_heavy, passed_over}
use Rattle.stream_driver.specs.Buffers.{traffic_through}
use Rattle.stream_driver.specs.Entries.{DrivenAll, DrivenIn, DrivenSlot, DrivenThen, EndsIn, KeepSessions, is_gone}
use Rattle.stream_driver.specs.Entries.{is_over, with_last, state_at_end}
use Rattle.stream_driver.specs.Sessions.{Point}
use Rattle.stream_driver.specs.Traffic.{Traffic, untouched}
use Rattle.stream_driver.specs.declared.buffered.BufferedStream.{BufferedStream}
use Rattle.stream_driver.specs.declared.entries.Entry.{Entry}
use Rattle.stream_driver.specs.declared.entries.EntryState.{EntryState}
use Rattle.stream_driver.specs.declared.entries.EntryState.TheVariants.{Idle, Gone, Ready}
use Rattle.event_loop.proofs.Entries.{Remain, no_entry}
use Rattle.event_loop.proofs.LastDriven.{IsPlaced, place_of, slot_placed, then_length}
use Rattle.event_loop.proofs.Polled.{IsSome, TakesTurns, answered_as_it_was, put_there}
use Rattle.event_loop.proofs.Slots.{Slots}
use Rattle.event_loop.proofs.Widths.{count_more}
use Rattle.event_loop.specs.Numbers.{HasTablePlace, HaveTablePlaces, WasRegisteredAs}
use Rattle.event_loop.specs.Order.{AreNext, ComesNearer, HasNextTurn, after_turn, behind, has_turn, in_turn}
use Rattle.event_loop.specs.Order.{is_of_kind, is_writer, is_late_entry, is_one, is_ready_slot, late_below, late_in}
use Rattle.event_loop.specs.Order.{light_below}
use Rattle.event_loop.specs.Order.{light_in, share_at, share_in_turn, share_of_slot, takes_none, takes_turns}
use Rattle.event_loop.specs.Order.{waits_as, writer_of, writes_in}
use Rattle.event_loop.specs.declared.order.Kind.TheVariants.{Any, Reader, Writer}
use Rattle.event_loop.specs.declared.order.Turns.{Turns}
use Rattle.event_loop.specs.Sockets.{IsNewSocket}
use Rattle.event_loop.specs.Tables.{AdmitsEach, EndsTurn, after_poll, slot_at, is_ready}
use Rattle.event_loop.specs.Tables.AdmitsEach.{Nobody, OneMore}
use Rattle.event_loop.specs.Turns.{Accepted, IsDrivenSoon, IsPutOff, IsTurn, accepts_now}
use Rattle.event_loop.specs.declared.server.EventLoop.{EventLoop}
use Rattle.event_loop.specs.declared.socket.Socket.{Socket}

-- of the keys below `end`, this is the first behind the last one that waits, or the last one still
pub record IsNearest (waits : ℕ → Bool) (last next end : ℕ) : Type 0 where
  pub place : next < 128
  pub waiting : (next ≡ last) ⊎ (waits next ≡ true)
  pub first : (key : ℕ) → key < end → waits key ≡ true → behind last next ≤ behind last key

-- a share is a light one at least
share_some : (takes has late light : Bool)
    → IsSome (cond {A = Option ℕ} takes (cond has (Some 262144) (cond late (Some 32768) None)) (cond light (Some 32768) None))
share_some true true late light = omega arith
share_some true false true light = omega arith
share_some true false false light = tt
share_some false has late true = omega arith
share_some false has late false = tt

-- some may be driven still exactly where fewer are below than the turn is wide
some_left : (width below left : ℕ) → left ≡ width - below → nat_lt 0 left ≡ nat_lt below width
some_left width below left is = grind (arith, nat_tests)

less_both : (width a b : ℕ) → (width - a) - b ≡ width - (a + b)
less_both width a b = omega arith

not_below : (n : ℕ) → nat_lt n n ≡ false
not_below n = grind (arith, nat_tests)

is_below : (n : ℕ) → true ≡ nat_lt n (n + 1)
is_below n = grind (arith, nat_tests)

same_below : (m n : ℕ) → m ≢ n → nat_lt m n ≡ nat_lt m (n + 1)
same_below m n differs = grind (arith, common_steps, nat_tests)

-- one less is left for each that counts, where so many are below
left_less : (width below one left then more : ℕ) → left ≡ width - below → then ≡ left - one → more ≡ below + one → then ≡ width - more
left_less width below one left then more is less more_is =
    less ∙ ap (λ n. n - one) is ∙ less_both width below one ∙ ap (λ n. width - n) (sym more_is)

module _ {T D : Type 0} {g : Ghosts D} (hub : Hub D g) (turns : Turns) where
  abbrev pub turned_slot : (ℕ → Option (Entry (BufferedStream T))) → ℕ → Option (Entry (BufferedStream T))
  turned_slot slots key = after_turn (writes_in hub (slots key)) (share_at hub turns slots key) (slots key)

  slot_some : (light late : Bool) (key : ℕ) (slot : Option (Entry (BufferedStream T))) → IsSome (share_of_slot hub turns light late key slot)
  slot_some light late key None = tt
  slot_some light late key (Some entry) =
      share_some (is_of_kind hub Any entry) (has_turn hub turns key entry) (is_late_entry hub entry && late) light

  -- so each slot has a share of the turn, or is passed over
  pub turns_taken : (old ready : Slots (BufferedStream T)) (events : List Event)
      → ((key : ℕ) → slot_at ready key ≡ turned_slot (λ other. after_poll events other (slot_at old other)) key) → TakesTurns old ready events
  turns_taken old ready events turned key =
      let slots : ℕ → Option (Entry (BufferedStream T)) = λ other. after_poll events other (slot_at old other) in (
        writes_in hub (slots key),
        share_at hub turns slots key,
        turned key,
        slot_some (nat_lt (light_below hub slots key) turns.width) (nat_lt (late_below hub slots key) (turns.width - 1)) key (slots key),
      )

  -- those below this key have taken their turns; of those that take none, and of those that are late, so many more may
  -- be driven
  pub record TurnedBelow (count light late : ℕ) (old new : Slots (BufferedStream T)) : Type 0 where
    pub slots : (key : ℕ) → slot_at new key ≡ cond (nat_lt key count) (turned_slot (slot_at old) key) (slot_at old key)
    pub light_is : light ≡ turns.width - light_below hub (slot_at old) count
    pub late_is : late ≡ turns.width - 1 - late_below hub (slot_at old) count

  more_light : (slots : ℕ → Option (Entry (BufferedStream T))) (count : ℕ)
      → light_below hub slots (count + 1) ≡ light_below hub slots count + is_one (light_in hub (slots count))
  more_light slots count = count_more (λ key. light_in hub (slots key)) count

  more_late : (slots : ℕ → Option (Entry (BufferedStream T))) (count : ℕ)
      → late_below hub slots (count + 1) ≡ late_below hub slots count + is_one (late_in hub (slots count))
  more_late slots count = count_more (λ key. late_in hub (slots key)) count

  module _ (count light late : ℕ) (old mid : Slots (BufferedStream T)) (below : TurnedBelow count light late old mid) where
    -- the slot at the key is as it was
    stood : slot_at mid count ≡ slot_at old count
    stood = below.slots count ∙ ap (λ b. cond b (turned_slot (slot_at old) count) (slot_at old count)) (not_below count)

    -- what becomes of it
    abbrev turned_here : Option (Entry (BufferedStream T)) → Option (Entry (BufferedStream T))
    turned_here slot = after_turn (writes_in hub slot) (share_of_slot hub turns (nat_lt 0 light) (nat_lt 0 late) count slot) slot

    turned_at : turned_here (slot_at old count) ≡ turned_slot (slot_at old) count
    turned_at =
        ap (λ b. after_turn (writes_in hub (slot_at old count)) (share_of_slot hub turns b (nat_lt 0 late) count (slot_at old count))
        (slot_at old count))
        (some_left turns.width (light_below hub (slot_at old) count) light below.light_is)
        ∙ ap (λ b. after_turn (writes_in hub (slot_at old count))
        (share_of_slot hub turns (nat_lt (light_below hub (slot_at old) count) turns.width) b count (slot_at old count)) (slot_at old count))
        (some_left (turns.width - 1) (late_below hub (slot_at old) count) late below.late_is)

    -- with the one at the key
    turned_more : (light' late' : ℕ) (new : Slots (BufferedStream T)) → slot_at new count ≡ turned_here (slot_at old count)
        → ((other : ℕ) → other ≢ count → slot_at new other ≡ slot_at mid other) → light' ≡ light - is_one (light_in hub (slot_at old count))
        → late' ≡ late - is_one (late_in hub (slot_at old count)) → TurnedBelow (count + 1) light' late' old new
    turned_more light' late' new here others less fewer = record {
      slots = λ key. elim (cases_eq key count) [
        | inl same ↦
            subst (λ k. slot_at new k ≡ cond (nat_lt k (count + 1)) (turned_slot (slot_at old) k) (slot_at old k)) (sym same)
            (here ∙ turned_at ∙ ap (λ b. cond b (turned_slot (slot_at old) count) (slot_at old count)) (is_below count))
        | inr differs ↦
            others key differs ∙ below.slots key
            ∙ ap (λ b. cond b (turned_slot (slot_at old) key) (slot_at old key)) (same_below key count differs)
      ];
      light_is = left_less turns.width (light_below hub (slot_at old) count) (is_one (light_in hub (slot_at old count))) light light'
          (light_below hub (slot_at old) (count + 1)) below.light_is less (more_light (slot_at old) count);
      late_is = left_less (turns.width - 1) (late_below hub (slot_at old) count) (is_one (late_in hub (slot_at old count))) late late'
          (late_below hub (slot_at old) (count + 1)) below.late_is fewer (more_late (slot_at old) count);
    }

    pub turned_some : (light' late' : ℕ) (entry after : Entry (BufferedStream T)) → slot_at mid count ≡ Some entry
        → after ≡ in_turn (is_writer hub entry) entry.state (share_in_turn hub turns (nat_lt 0 light) (nat_lt 0 late) count entry) entry
        → light' ≡ light - is_one (light_in hub (Some entry)) → late' ≡ late - is_one (late_in hub (Some entry))
        → TurnedBelow (count + 1) light' late' old (set mid count (Some after))
    turned_some light' late' entry after is taken less fewer =
        let was : Some entry ≡ slot_at old count = sym is ∙ stood in
        turned_more light' late' (set mid count (Some after))
        (put_there mid count entry after is ∙ ap (λ (x : Entry (BufferedStream T)). Some x) taken ∙ ap turned_here was)
        (λ other differs. get_or-set_other mid count other (Some after) None differs) (less ∙ ap (λ slot. light - is_one (light_in hub slot)) was)
        (fewer ∙ ap (λ slot. late - is_one (late_in hub slot)) was)

    pub turned_none : slot_at mid count ≡ None → TurnedBelow (count + 1) light late old mid
    turned_none is =
        let was : None ≡ slot_at old count = sym is ∙ stood in
        turned_more light late mid (is ∙ ap turned_here was) (λ other differs. refl)
        (let same : light ≡ light - 0 = omega arith in same ∙ ap (λ slot. light - is_one (light_in hub slot)) was)
        (let same : late ≡ late - 0 = omega arith in same ∙ ap (λ slot. late - is_one (late_in hub slot)) was)

-- the same keys wait
pub next_as : (waits then : ℕ → Bool) → ((key : ℕ) → waits key ≡ then key) → (last next : ℕ) → HasNextTurn waits last next → HasNextTurn then last next
next_as waits then same last next (inl first) = inl (record {
  place = first.place;
  waiting = sym (same next) ∙ first.waiting;
  first = λ key in_key waiting. first.first key in_key (same key ∙ waiting);
})
next_as waits then same last next (inr none) = inr (none.0, λ key in_key. sym (same key) ∙ none.1 key in_key)

-- as the poll reported, and then as their turns are
module _ {T D : Type 0} {g : Ghosts D} (hub : Hub D g) (last next : Turns) (old polled : Slots (BufferedStream T)) (events : List Event) (reported : (key : ℕ)
    → slot_at polled key ≡ after_poll events key (slot_at old key)) where
  pub polled_turned : (ready : Slots (BufferedStream T)) → ((key : ℕ) → slot_at ready key ≡ turned_slot hub next (slot_at polled) key) → (key : ℕ)
      → slot_at ready key ≡ turned_slot hub next (λ other. after_poll events other (slot_at old other)) key
  polled_turned ready turned key =
      turned key ∙ ap (λ (slots : ℕ → Option (Entry (BufferedStream T))). turned_slot hub next slots key) (λ i other. reported other i)

  pub polled_next : AreNext hub (slot_at polled) last next → AreNext hub (λ key. after_poll events key (slot_at old key)) last next
  polled_next are = record {
    next = next_as (λ key. waits_as hub Any (slot_at polled key)) _ (λ key. ap (waits_as hub Any) (reported key)) last.next next.next are.next;
    kind = are.kind ∙ ap (λ slot. cond (writes_in hub slot) Reader Writer) (reported next.next);
    beside = next_as (λ key. waits_as hub next.kind (slot_at polled key)) _ (λ key. ap (waits_as hub next.kind) (reported key)) last.beside next.beside
        are.beside;
  }

-- ---- the places of the table

-- a stream that was just made is registered under the key of its place
pub new_registered : (accepted : AcceptedSocket) (key session : ℕ) (b : BufferedStream Socket) → IsNewSocket accepted key session b
    → WasRegisteredAs key session
new_registered accepted key session b new = (new.0.socket, new.1.counts.5, new.4)

module _ {T : Type 0} where
  pub remain_places : (old new : Slots T) → Remain old new → HaveTablePlaces old → HaveTablePlaces new
  remain_places old new remain places key entry e = let b = remain key entry e in subst (HasTablePlace key) b.2 (places key b.0 b.1)

  pub places_after : (old new : Slots T) → KeepSessions old new → HaveTablePlaces old → HaveTablePlaces new
  places_after old new keep places key entry e = let b = keep key entry e in subst (HasTablePlace key) (sym b.2) (places key b.0 b.1)

  -- a poll moves no entry
  pub polled_places : (old polled : Slots (BufferedStream T)) (events : List Event) → ((key : ℕ) → slot_at polled key ≡ after_poll events key (slot_at old key))
      → HaveTablePlaces old → HaveTablePlaces polled
  polled_places old polled events reported places key entry e =
      let b = answered_as_it_was (λ (x : T). untouched) events key (slot_at old key) entry (sym (reported key) ∙ e) in
      subst (HasTablePlace key) (sym b.2.session) (places key b.0 b.1)

  module _ {D : Type 0} {g : Ghosts D} {IsNew : AcceptedSocket → ℕ → ℕ → T → Type 0} {hub : Hub D g} {next : ℕ} {slots : Slots T} where
    pub each_placed : {came : List AcceptedSocket} {later : Hub D g} {then : ℕ} {new : Slots T} → AdmitsEach IsNew hub next slots came later then new
        → ((accepted : AcceptedSocket) (key session : ℕ) (stream : T) → IsNew accepted key session stream → WasRegisteredAs key session)
        → HaveTablePlaces slots → HaveTablePlaces new
    each_placed Nobody begins places key entry e = places key entry e
    each_placed (OneMore came accepted mid later number then between new each (inl away)) begins places key entry e =
        each_placed each begins places key entry (ap (λ l. slot_at l key) (sym away.slots_are) ∙ e)
    each_placed (OneMore came accepted mid later number then between new each (inr l)) begins places key entry e = elim (cases_eq key l.key) [
      | inl same ↦
          let which : l.entry ≡ entry = some_same (sym l.changed ∙ ap (slot_at new) (sym same) ∙ e) in
          subst (λ k. HasTablePlace k entry.session) (sym same) (subst (λ (x : Entry T). HasTablePlace l.key x.session) which
          (record { place = l.key_is; registered = ∣ begins accepted l.key l.entry.session l.entry.stream l.fresh ∣₁ }))
      | inr differs ↦ each_placed each begins places key entry (sym (l.others key differs) ∙ e)
    ]

    -- who is there stays as connections come
    pub each_stays : {came : List AcceptedSocket} {later : Hub D g} {then : ℕ} {new : Slots T} → AdmitsEach IsNew hub next slots came later then new
        → (key : ℕ) (entry : Entry T) → slot_at slots key ≡ Some entry → slot_at new key ≡ Some entry
    each_stays Nobody key entry e = e
    each_stays (OneMore came accepted mid later number then between new each (inl away)) key entry e =
        ap (λ l. slot_at l key) away.slots_are ∙ each_stays each key entry e
    each_stays (OneMore came accepted mid later number then between new each (inr l)) key entry e =
        let there = each_stays each key entry e in
        l.others key (λ same. absurd (let bad : None ≡ Some entry = sym l.vacant ∙ ap (slot_at between) (sym same) ∙ there in cc)) ∙ there

-- ---- the width of a turn, in parts

pub wide_enough : (parts : ℕ) → 2 * 16 ≤ parts → 2 ≤ parts / 16
wide_enough parts some = omega arith

pub few_enough : (parts : ℕ) → parts ≤ 128 * 16 → parts / 16 ≤ 128
few_enough parts few = omega arith

-- ---- each has its turn

behind_few : (last key : ℕ) → key < 128 → behind last key ≤ 128
behind_few last key place = elim (cases_Bool (nat_lt last key)) [
  | inl above ↦ grind (arith, common_steps, nat_tests)
  | inr below ↦ grind (arith, common_steps, nat_tests)
]

apart : (a b : ℕ) → (a == b) ≡ false → a ≡ b → ⊥
apart a b differs same = grind (arith, common_steps, nat_tests)

-- who stands as far behind as the last one itself is that
behind_all : (last key : ℕ) → last < 128 → key < 128 → behind last last ≤ behind last key → key ≡ last
behind_all last key place within far = elim (cases_Bool (nat_lt last key)) [
  | inl above ↦ grind (arith, common_steps, nat_tests)
  | inr below ↦ grind (arith, common_steps, nat_tests)
]

module _ (waits : ℕ → Bool) (last next end : ℕ) (near : IsNearest waits last next end) where
  -- the one at `end` waits and is nearer
  pub nearer_waits : end < 128 → waits end ≡ true → behind last end < behind last next → IsNearest waits last end (end + 1)
  nearer_waits within is less = record {
    place = within;
    waiting = inr is;
    first = λ key below waiting. elim (cases_eq key end) [
      | inl same ↦ omega (arith, ap (behind last) same)
      | inr other ↦ (let least = near.first key (omega arith) waiting in omega (arith, least, less))
    ];
  }

  -- it doesn't, or isn't
  pub nearer_not : (behind last next ≤ behind last end) ⊎ (waits end ≡ false) → IsNearest waits last next (end + 1)
  nearer_not why = record {
    place = near.place;
    waiting = near.waiting;
    first = λ key below waiting. elim (cases_eq key end) [
      | inl same ↦ at_end key same waiting why
      | inr other ↦ near.first key (omega arith) waiting
    ];
  }
    where
      at_end : (key : ℕ) → key ≡ end → waits key ≡ true → (behind last next ≤ behind last end) ⊎ (waits end ≡ false) → behind last next ≤ behind last key
      at_end key same waiting (inl far) = omega (arith, far, ap (behind last) same)
      at_end key same waiting (inr none) = absurd (both_ways (waits end) none (subst (λ k. waits k ≡ true) same waiting))

  -- none waits from `end` on
  pub nearest_of_all : last < 128 → ((key : ℕ) → end ≤ key → key < 128 → waits key ≡ false) → HasNextTurn waits last next
  nearest_of_all place beyond = elim (cases_Bool (waits next)) [
    | inl is ↦ inl (record { place = near.place; waiting = is; first = λ key within waiting. near.first key (before key within waiting) waiting })
    | inr none ↦ elim near.waiting [
      | inl same ↦ inr (same, λ key within. false_from_ne_true (waits key) (λ waiting. alone same none key within waiting))
      | inr is ↦ absurd (both_ways (waits next) none is)
    ]
  ]
    where
      before : (key : ℕ) → key < 128 → waits key ≡ true → key < end
      before key within waiting = elim (cases_Bool (nat_lt key end)) [
        | inl below ↦ grind (arith, nat_tests)
        | inr above ↦ absurd (both_ways (waits key) (beyond key (grind (arith, nat_tests)) within) waiting)
      ]

      alone : next ≡ last → waits next ≡ false → (key : ℕ) → key < 128 → waits key ≡ true → ⊥
      alone same none key within waiting =
          let far = near.first key (before key within waiting) waiting in
          let is = behind_all last key place within (omega (arith, far, ap (behind last) same)) in
          both_ways (waits next) none (subst (λ k. waits k ≡ true) (is ∙ sym same) waiting)

not_first : (a b : Bool) → (a || b) ≡ false → a ≡ false
not_first true b is = absurd (cc)
not_first false b is = refl

-- who has no share takes turns, and has none; or takes none
none_shared : (takes has late light : Bool)
    → cond {A = Option ℕ} takes (cond has (Some 262144) (cond late (Some 32768) None)) (cond light (Some 32768) None) ≡ None
    → ((takes ≡ true) × (has ≡ false)) ⊎ (not takes ≡ true)
none_shared true true late light is = absurd (cc)
none_shared true false late light is = inl (refl, refl)
none_shared false has late true is = absurd (cc)
none_shared false has late false is = inr refl

ready_at : (state : EntryState) → is_ready state ≡ true → state ≡ Ready
ready_at Ready is = refl
ready_at Idle is = absurd (cc)
ready_at Gone is = absurd (cc)

-- what the poll reported was there before
was_answered_then : {T : Type 0} (events : List Event) (key : ℕ) (slot : Option (Entry (BufferedStream T))) (entry : Entry (BufferedStream T))
    → after_poll events key slot ≡ Some entry
    → (before : Entry (BufferedStream T)) × (slot ≡ Some before)
was_answered_then {T} events key slot entry is = let m = answered_as_it_was (λ (x : T). untouched) events key slot entry is in (m.0, m.1)

-- who is idle stays as it was
module _ {T : Type 0} (reports : Type 0) (traffic : T → Traffic) where
  idle_entry : (state : EntryState) (earlier : Point) (old : Entry T) (later : Point) (new : Entry T) → DrivenIn reports traffic state earlier old later new
      → state ≡ Idle → new ≡ old
  idle_entry Idle earlier old later new d idle = d.0
  idle_entry Ready earlier old later new d idle = absurd (cc)
  idle_entry Gone earlier old later new d idle = d.0

  idle_slot : (earlier : Point) (slot : Option (Entry T)) (later : Point) (after : Option (Entry T)) → DrivenSlot reports traffic earlier slot later after
      → (was : Entry T) → slot ≡ Some was → was.state ≡ Idle → after ≡ Some was
  idle_slot earlier None later after d was e idle = absurd (let bad : None ≡ Some was = e in cc)
  idle_slot earlier (Some old) later after (new, is, d) was e idle =
      let same : old ≡ was = some_same e in
      is ∙ ap (λ (x : Entry T). Some x) (idle_entry old.state earlier old later new d (ap (λ (x : Entry T). x.state) same ∙ idle) ∙ same)

  idle_stays : (earlier : Point) (slots : Slots T) (later : Point) (new : Slots T) → DrivenAll reports traffic earlier slots later new
      → (key : ℕ) (was : Entry T) → slot_at slots key ≡ Some was → was.state ≡ Idle → slot_at new key ≡ Some was
  idle_stays earlier [] later new d key was e idle = absurd (no_entry [] refl key was e)
  idle_stays earlier (slot ∷ slots) later new (first, mid, others, is, d, rest) zero was e idle =
      ap (λ l. slot_at l zero) is ∙ idle_slot earlier slot mid first d was e idle
  idle_stays earlier (slot ∷ slots) later new (first, mid, others, is, d, rest) (suc key) was e idle =
      ap (λ l. slot_at l (suc key)) is ∙ idle_stays mid slots later others rest key was e idle

  -- so it is where one is driven last
  then_stays : (last : ℕ) (earlier : Point) (slots : Slots T) (later : Point) (new : Slots T) → DrivenThen reports traffic last earlier slots later new
      → (key : ℕ) (was : Entry T) → slot_at slots key ≡ Some was → was.state ≡ Idle → slot_at new key ≡ Some was
  then_stays last earlier slots later new d key was e idle =
      let p = place_of last slots key was e in
      let now = subst (λ n. IsPlaced last n key p.0) (sym (then_length reports traffic last earlier slots later new d)) p.1 in
      sym (slot_placed last new key p.0 now)
      ∙ idle_stays earlier (with_last last slots) later (with_last last new) d p.0 was (slot_placed last slots key p.0 p.1 ∙ e) idle

module _ {T : Type 0} (reports : Type 0) (traffic : T → Traffic) (moment : ℕ) where
  -- the end of a turn leaves whether a stream is heavy
  ended_heavy : (old new : BufferedStream T) → Finishes reports traffic moment (fresh old) new → new.heavy_for ≡ old.heavy_for
  ended_heavy old new (inl same) = ap (λ (b : BufferedStream T). b.heavy_for) same.1
  ended_heavy old new (inr flushed) = flushed.2.kept.turn.heavy

  -- who has no share of the turn is ready at its end, and heavy if it was
  ended_ready : (was : Entry (BufferedStream T)) (new : Option (Entry (BufferedStream T))) → EndsTurn reports traffic moment (Some was) new → was.state ≡ Idle
      → was.stream.share ≡ 0
      → (entry : Entry (BufferedStream T)) × (new ≡ Some entry) × (entry.state ≡ Ready) × (entry.stream.heavy_for ≡ was.stream.heavy_for)
  ended_ready was new (mid, ends, is) idle none =
      let ready : mid.state ≡ Ready = ends.state ∙ ap (λ s. state_at_end s (has_had_share was.stream)) idle ∙ ap (λ n. state_at_end Idle (n == 0)) none in
      let lasts : is_over mid ≡ false = ap (λ s. is_gone s && is_flushed_or_failed mid.stream) ready in
      let finished : Finishes reports traffic moment (fresh was.stream) mid.stream =
      subst (λ s. EndsIn reports traffic moment s was.stream mid.stream) ready ends.stream in
      (mid, is ∙ ap (λ b. cond b None (Some mid)) lasts, ready, ended_heavy was.stream mid.stream finished)

  -- as it is passed over
  passed : (writes : Bool) (entry : Entry (BufferedStream T)) → entry.state ≡ Ready
      → (after : Entry (BufferedStream T)) × (after_turn writes None (Some entry) ≡ Some after) × (after.state ≡ Idle) × (after.stream.share ≡ 0)
      × (is_heavy after.stream ≡ true)
  passed writes entry ready =
      let after : Entry (BufferedStream T) = record entry { state = Idle; stream = passed_over writes entry.stream } in
      (after, ap (λ s. Some (in_turn writes s None entry)) ready, refl, refl, grind (arith, nat_tests))

  driven : (writes : Bool) (bytes : ℕ) (entry : Entry (BufferedStream T)) → entry.state ≡ Ready
      → is_ready_slot (after_turn writes (Some bytes) (Some entry)) ≡ true
  driven writes bytes entry ready = ap (λ s. is_ready (in_turn writes s (Some bytes) entry).state) ready ∙ ap is_ready ready

module _ {D : Type 0} {g : Ghosts D} (reports : Type 0) (traffic : Socket
    → Traffic) (old new : EventLoop D g) (turn : IsTurn reports traffic old new) (key : ℕ) where
  abbrev polled : Option (Entry (BufferedStream Socket))
  polled = after_poll (items new.poller.events) key (slot_at old.table.slots key)

  -- the table after the accepts, and then the turn's
  accepted_stays : (due : Bool) → Accepted due turn.driven turn.accepted → (entry : Entry (BufferedStream Socket))
      → slot_at turn.driven.table.slots key ≡ Some entry → slot_at new.table.slots key ≡ Some entry
  accepted_stays true accepts entry e =
      ap (λ (t : Slab (Entry (BufferedStream Socket))). slot_at t.slots key) turn.rests.table ∙ each_stays accepts.became.0 key entry e
  accepted_stays false untouched entry e = ap (λ (t : Slab (Entry (BufferedStream Socket))). slot_at t.slots key) (turn.rests.table ∙ untouched.table) ∙ e

  abbrev IsStillReady : Type 0
  IsStillReady = (is_ready_slot (slot_at new.table.slots key) ≡ true) × (takes_turns (slot_at new.table.slots key) ≡ true)

  -- one that was passed over is ready at the end, and takes turns from now on
  still_ready : (was : Entry (BufferedStream Socket)) → slot_at turn.drives.ready key ≡ Some was → was.state ≡ Idle → was.stream.share ≡ 0
      → is_heavy was.stream ≡ true → IsStillReady
  still_ready was e idle none heavy =
      seen_after (hlevel props) old.stands turn.drives.drives.leads (λ h k was_stood stands d.
      let there : slot_at turn.drives.driven key ≡ Some was =
      then_stays reports (traffic_through traffic) (writer_of turn.driven.turns) h turn.drives.ready k turn.drives.driven d key was e idle in
      let ended = ended_ready reports traffic (g.moment (device turn.driven.hub)) was (slot_at turn.driven.table.slots key)
      (subst (λ slot. EndsTurn reports traffic (g.moment (device turn.driven.hub)) slot (slot_at turn.driven.table.slots key)) there (turn.drives.ended key))
      idle
      none in
      let stays = accepted_stays (accepts_now old.backlog (items new.poller.events)) turn.accepts ended.0 ended.1 in
      (ap is_ready_slot stays ∙ ap is_ready ended.2, ap takes_turns stays ∙ ap (nat_lt 0) ended.3 ∙ heavy))

  abbrev Soon : Type 0
  Soon = (is_ready_slot (slot_at turn.drives.ready key) ≡ true)
      ⊎ ((is_ready_slot (slot_at new.table.slots key) ≡ true)
      × ((behind new.turns.next key < behind old.turns.next key) ⊎ IsPutOff old.hub polled (slot_at new.table.slots key)))

  module _ (nearer : (waits : ℕ → Bool) (last next key : ℕ)
      → ComesNearer waits last next key) (entry : Entry (BufferedStream Socket)) (is : polled ≡ Some entry) (ready : entry.state ≡ Ready) (place : key
      < 128) where
    abbrev slots : ℕ → Option (Entry (BufferedStream Socket))
    slots other = after_poll (items new.poller.events) other (slot_at old.table.slots other)

    abbrev light : Bool
    light = nat_lt (light_below old.hub slots key) turn.driven.turns.width

    abbrev late : Bool
    late = nat_lt (late_below old.hub slots key) (turn.driven.turns.width - 1)

    abbrev share : Option ℕ
    share = share_in_turn old.hub turn.driven.turns light late key entry

    turned : slot_at turn.drives.ready key ≡ after_turn (is_writer old.hub entry) share (Some entry)
    turned =
        turn.drives.turned key
        ∙ ap (λ slot. after_turn (writes_in old.hub slot) (share_of_slot old.hub turn.driven.turns light late key slot) slot) is

    by_share : (given : Option ℕ) → share ≡ given → Soon
    by_share (Some bytes) is_so =
        inl (ap is_ready_slot (turned ∙ ap (λ o. after_turn (is_writer old.hub entry) o (Some entry)) is_so)
        ∙ driven reports traffic 0 (is_writer old.hub entry) bytes entry ready)
    by_share None is_so =
        let after = passed reports traffic 0 (is_writer old.hub entry) entry ready in
        let ends = still_ready after.0 (turned ∙ ap (λ o. after_turn (is_writer old.hub entry) o (Some entry)) is_so ∙ after.1) after.2 after.3 after.4 in
        elim (none_shared (is_of_kind old.hub Any entry) (has_turn old.hub turn.driven.turns key entry) (is_late_entry old.hub entry && late) light is_so) [
          | inl parts ↦
              let waits : waits_as old.hub Any polled ≡ true =
              ap (waits_as old.hub Any) is ∙ ap (λ s. is_ready s && is_of_kind old.hub Any entry) ready ∙ parts.0 in
              let differs : (key == turn.driven.turns.next) ≡ false = not_first (key == turn.driven.turns.next) _ parts.1 in
              elim (nearer (λ other. waits_as old.hub Any (after_poll (items new.poller.events) other (slot_at old.table.slots other))) old.turns.next
              turn.driven.turns.next key turn.drives.turn_of.next old.next_place place waits) [
                | inl same ↦ absurd (apart key turn.driven.turns.next differs same)
                | inr near ↦ inr (ends.0, inl (subst (λ (n : Turns). behind n.next key < behind old.turns.next key) (sym turn.turns_are) near))
              ]
          | inr none ↦ inr (ends.0, inr (ap (takes_none old.hub) is ∙ none, ends.1))
        ]

    pub soon : IsDrivenSoon reports traffic old new turn key
    soon = record { soon = by_share share refl; bound = behind_few old.turns.next key place }

  -- who is ready once the poll reported stands at a place of the table
  polled_place : (entry : Entry (BufferedStream Socket)) → polled ≡ Some entry → key < 128
  polled_place entry is =
      let before = was_answered_then (items new.poller.events) key (slot_at old.table.slots key) entry is in
      (old.places key before.0 before.1).place

  pub each_soon : ((waits : ℕ → Bool) (last next key : ℕ) → ComesNearer waits last next key) → is_ready_slot polled ≡ true
      → IsDrivenSoon reports traffic old new turn key
  each_soon nearer ready = by polled refl
    where
      by : (slot : Option (Entry (BufferedStream Socket))) → polled ≡ slot → IsDrivenSoon reports traffic old new turn key
      by None is = absurd (let bad : true ≡ false = sym ready ∙ ap is_ready_slot is in cc)
      by (Some entry) is = soon nearer entry is (ready_at entry.state (sym (ap is_ready_slot is) ∙ ready)) (polled_place entry is)
