-- The turns of the loops.
use denote.Struct.Props.{props}
use Rattle.std.proofs.Common.{◌≡◌, ◌≢◌, ◌⊎◌, inl, inr, ℕ, ◌+◌, ◌-◌, ◌<◌, ◌≤◌, List, [], ◌++◌, length, Some, refl, sym}
use Rattle.std.proofs.Common.{ap, subst, ◌∙◌, arith, length-append}
use Rattle.std.proofs.Math.Nat.{ℕ_set}
use Rattle.model.specs.Bounds.{inbox_max}
use Rattle.model.specs.Grammar.{IsProperBeginning}
use Rattle.sessions.proofs.EventSteps.{pending_seen, room_seen, status_seen}
use Rattle.sessions.specs.Laws.{RunsAlone}
use Rattle.sessions.specs.SessionStreams.{SessionStream, Serves, Choice, hub_step, stream_of}
use Rattle.sessions.specs.StandsFor.{StandsFor, HubLeads, pending_of, room_of, status_of, status_in, pending_in}
use Rattle.sessions.specs.StandsFor.{room_in, failures}
use Rattle.sessions.specs.declared.events.Outcome.{Outcome}
use Rattle.sessions.specs.declared.events.Outcome.TheVariants.{Done, Memory}
use Rattle.sessions.specs.declared.events.Status.{Status}
use Rattle.sessions.specs.declared.events.Status.TheVariants.{Absent, Open, Ending, Refused}
use Rattle.stream_driver.proofs.Answered.{none_called, moved_then, ends_then}
use Rattle.stream_driver.proofs.Carry.{nothing, alone, and_then}
use Rattle.stream_driver.proofs.Events.{Happens, point_after, Comes, comes_idle, comes_to, one_each, serves_is}
use Rattle.stream_driver.proofs.Events.{effect_replied, served_event, effect, open_present}
use Rattle.stream_driver.proofs.Inboxes.{beginning_short}
use Rattle.stream_driver.proofs.Sends.{reports_step, reports_still, reports_three, reports_two_at}
use Rattle.stream_driver.proofs.States.{Follow, seen_after}
use Rattle.stream_driver.specs.Calls.{Moves, WritesSome, ReadsSome, WritesOut, Exchanges, WhyExchanged, WhyFlushed}
use Rattle.stream_driver.specs.Calls.{WrittenSoFar, ReadSoFar, DrivenSoFar, DrivenOut, served_in}
use Rattle.stream_driver.specs.Drives.{Carried, Disconnects, Drove, LeavesIfGone, Why}
use Rattle.stream_driver.specs.Sends.{LeadsAnswering}
use Rattle.stream_driver.specs.Sessions.{Ghosts, Hub, RunLeads, Stands, Point, RunsOneSession, AwaitsMore, status_at}
use Rattle.stream_driver.specs.Sessions.{pending_at, inbox_room, inbox_at, inbox_in, IsPresentIn}
use Rattle.stream_driver.specs.Traffic.{Traffic, AllMoved, CountsLast}
use Rattle.stream_driver.specs.Types.{Read, Write, ReadAnswer, WriteAnswer, Moved, Blocked, Failed, Ended, Wrote}
use Rattle.stream_driver.specs.Types.{WriteBlocked, WriteFailed, Progress, Waiting, Again, Gone, OutputState, Empty}
use Rattle.stream_driver.specs.Types.{FlushBlocked, FlushFailed, Exchange, Replied, Starved as ExchangeStarved}
use Rattle.stream_driver.specs.Types.{ExchangeBlocked}

pub none_in_both : {A : Type 0} {xs ys : List A} → xs ≡ [] → ys ≡ [] → xs ++ ys ≡ []
none_in_both a b = rw (a, b)

-- a status that is neither absent nor open
closed_kinds : (status : Status) → status ≢ Absent → status ≢ Open → {none : List ℕ} → none ≡ [] → (status ≡ Refused) ⊎ ((status ≡ Ending) × (none ≡ []))
closed_kinds status a b e = grind arith

module _ {s : ℕ} {reports : Type 0} where
  pub written_none : {h : Point} {t : Traffic} {owed : ℕ} → IsPresentIn h.hub s → owed ≡ length (pending_at h.hub s) → WrittenSoFar s reports h t h t owed
  written_none {h} {t} present is = record { moves = nothing present; moved = none_called t; room = refl; owed_is = is }

  pub read_nothing : {h : Point} {t : Traffic} {room : ℕ} → status_at h.hub s ≡ Open → pending_at h.hub s ≡ [] → room ≡ inbox_room h.hub s
      → ReadSoFar s reports h t h t room
  read_nothing {h} {t} is_open none is =
      record { moves = nothing (open_present h.hub s is_open); moved = none_called t; none_sent = refl; is_open = is_open; nothing = none; room_is = is }

  pub driven_none : {h : Point} {t : Traffic} → IsPresentIn h.hub s → DrivenOut s reports h t h t 0
  driven_none {h} {t} present =
      record { driven = record { carried = (nothing present).carried; few = omega arith }; moved = none_called t; served_is = λ _. refl }

  module _ {old : Point} {before : Traffic} {mid : Point} {between : Traffic} {new : Point} {after : Traffic} where
    abbrev pub moves_then : Moves s reports old before mid between → Moves s reports mid between new after → Moves s reports old before new after
    moves_then p q =
        let both = length-append p.carried.runs.history.served q.carried.runs.history.served in
        record {
          carried = and_then p.carried q.carried;
          none_served = omega (arith, p.none_served, q.none_served);
          none_replied = none_in_both p.none_replied q.none_replied;
          status = q.status ∙ p.status;
        }

    module _ {owed : ℕ} (p : WrittenSoFar s reports old before mid between owed) where
      pub written_then : (n : ℕ) → WritesSome s reports mid between (Wrote n) new after → WrittenSoFar s reports old before new after (owed - n)
      written_then n q =
          let owed_is : owed - n ≡ length (pending_at new.hub s) = omega (arith, p.owed_is, q.why.1) in
          let moved = moved_then before between after p.moved q.answered.0 in
          record { moves = moves_then p.moves q.moves; moved = moved; room = q.room ∙ p.room; owed_is = owed_is }

      -- the stream stopped
      pub written_stopped : (answer : WriteAnswer) (flush : OutputState) → 0 < owed → (q : WritesSome s reports mid between answer new after)
          → pending_at new.hub s ≡ pending_at mid.hub s
          → (CountsLast (Write answer) before after × (pending_at new.hub s ≢ []) → WhyFlushed s new.hub before after flush)
          → WritesOut s reports old before flush new after
      written_stopped answer flush some q same why =
          let left : pending_at new.hub s ≢ [] = λ none. absurd (omega (arith, p.owed_is, ap length (sym same ∙ none))) in
          let why_so = why (ends_then (Write answer) before between after p.moved q.answered, left) in
          record { moves = moves_then p.moves q.moves; room = q.room ∙ p.room; why = why_so }

    module _ {room : ℕ} (p : ReadSoFar s reports old before mid between room) where
      pub read_then : (n : ℕ) → ReadsSome s reports mid between (Moved n) new after → ReadSoFar s reports old before new after (room - n)
      read_then n q =
          let room_is : room - n ≡ inbox_room new.hub s = omega (arith, p.room_is, q.why.1) in
          let moved = moved_then before between after p.moved q.answered.0 in
          record {
            moves = moves_then p.moves q.moves;
            moved = moved;
            none_sent = none_in_both p.none_sent q.none_sent;
            is_open = q.moves.status ∙ p.is_open;
            nothing = q.pending ∙ p.nothing;
            room_is = room_is;
          }

      -- the stream stopped
      pub read_stopped : (answer : ReadAnswer) (exchange : Exchange) → AwaitsMore mid.hub s
          → (q : ReadsSome s reports mid between answer new after) → new.hub ≡ mid.hub
          → ((served : ℕ) → CountsLast (Read answer) before after × AwaitsMore new.hub s
          → WhyExchanged s new.hub before after served exchange)
          → Exchanges s reports old before exchange new after
      read_stopped answer exchange more q same why =
          let all : Moves s reports old before new after = moves_then p.moves q.moves in
          let few : served_in all.carried ≤ 1 = omega (arith, all.none_served) in
          let why_so = why (served_in all.carried) (ends_then (Read answer) before between after p.moved q.answered, rw same more) in
          record { carried = all.carried; few = few; none_sent = none_in_both p.none_sent q.none_sent; why = why_so }

  -- ---- a request is looked for

  module _ {old : Point} {before : Traffic} {mid : Point} {between : Traffic} {room : ℕ} (p : ReadSoFar s reports old before mid between room) {c : Choice}
      {count : ℕ} (happens : Happens mid (Serves s) c count)
      {outcome : Outcome} (outcome_is : outcome ≡ (hub_step mid.hub (Serves s) c).1) where
    abbrev st : SessionStream
    st = p.moves.carried.runs.last

    abbrev is : stream_of mid.hub s ≡ Some st
    is = p.moves.carried.runs.last_is

    opened : st.now.status ≡ Open
    opened = sym (ap status_in is) ∙ p.is_open

    none : st.now.pending ≡ []
    none = sym (ap pending_in is) ∙ p.nothing

    abbrev new : Point
    new = point_after mid (Serves s) c count

    abbrev served : RunsOneSession s mid new
    served = served_event is opened none happens

    abbrev done : Carried s reports old before new between
    done = and_then p.moves.carried (alone served (tt, tt) refl refl)

    abbrev comes_now : Outcome → Type 0
    comes_now o = Comes o st.now (effect is opened none happens)

    what : (o : Outcome) → outcome ≡ o → comes_now o
    what o e = subst comes_now (sym (ap (λ r. r.1) (serves_is is opened none happens)) ∙ sym outcome_is ∙ e) (comes_to is opened none happens)

    status_is : status_at new.hub s ≡ (effect is opened none happens).now.status
    status_is = ap status_in served.last_is

    how_many : served_in done ≡ length served.history.served
    how_many = length-append p.moves.carried.runs.history.served served.history.served ∙ (let a = p.moves.none_served in omega arith)

    exchanged : (exchange : Exchange) → WhyExchanged s new.hub before between (served_in done) exchange → Exchanges s reports old before exchange new between
    exchanged exchange why =
        let one = one_each c.head c mid.hub.machine s st.now in
        let few : served_in done ≤ 1 = omega (arith, how_many, one) in
        record { carried = done; few = few; none_sent = none_in_both p.none_sent refl; why = why }

    pub serve_starved : outcome ≡ Memory → Exchanges s reports old before ExchangeStarved new between
    serve_starved e = exchanged ExchangeStarved (p.moved, status_is ∙ (what Memory e).0)

    pub serve_done : outcome ≡ Done → Exchanges s reports old before Replied new between
    serve_done e = elim (what Done e) [
      | inl w ↦ exchanged Replied (p.moved, inl (status_is ∙ w.0, how_many ∙ w.1))
      | inr w ↦ exchanged Replied (p.moved, inr (status_is ∙ w.0))
    ]

    pub serve_replied : outcome ≡ Done → pending_at new.hub s ≢ []
    serve_replied e =
        let done = sym (ap (λ r. r.1) (serves_is is opened none happens)) ∙ sym outcome_is ∙ e in
        λ nothing. effect_replied c.head c mid.hub.machine s st.now done (sym (ap pending_in served.last_is) ∙ nothing)

    -- the inbox holds the beginning of a request, and has room for more
    pub serve_awaits : outcome ≢ Done → outcome ≢ Memory → ReadSoFar s reports old before new between room × AwaitsMore new.hub s × (0 < room)
    serve_awaits not_done not_memory =
        let w = comes_idle outcome st.now _ not_done not_memory (what outcome refl) in
        let inbox_now : inbox_at new.hub s ≡ st.now.inbox = ap inbox_in served.last_is ∙ ap (λ n. n.inbox) w.0 in
        let pending_now : pending_at new.hub s ≡ [] = ap pending_in served.last_is ∙ ap (λ n. n.pending) w.0 ∙ none in
        let status_now : status_at new.hub s ≡ Open = status_is ∙ ap (λ n. n.status) w.0 ∙ opened in
        let room_now : inbox_room new.hub s ≡ inbox_room mid.hub s = ap room_in served.last_is ∙ ap (λ n. inbox_max - length n.inbox) w.0
        ∙ sym (ap room_in is) in
        let short : length st.now.inbox < inbox_max = beginning_short st.now.inbox w.3 in
        let room_was : room ≡ inbox_max - length st.now.inbox = p.room_is ∙ ap room_in is in
        let moves : Moves s reports old before new between =
        record {
          carried = done;
          none_served = how_many ∙ ap length w.1;
          none_replied = none_in_both p.moves.none_replied w.2;
          status = status_now ∙ sym p.is_open ∙ p.moves.status;
        } in (
          record {
            moves = moves;
            moved = p.moved;
            none_sent = rw p.none_sent;
            is_open = status_now;
            nothing = pending_now;
            room_is = p.room_is ∙ sym room_now;
          },
          (status_now, pending_now, subst IsProperBeginning (sym inbox_now) w.3),
          omega arith,
        )

  -- ---- between two requests

  module _ {old : Point} {before : Traffic} {mid : Point} {between : Traffic} {new : Point} {after : Traffic} {count : ℕ}
      (p : DrivenSoFar s reports old before mid between count) where
    -- the output was written, as far as it goes
    abbrev pub driven_flushed : Moves s reports mid between new after → DrivenSoFar s reports old before new after count
    driven_flushed q =
        let both = length-append p.carried.runs.history.served q.carried.runs.history.served in
        record { carried = and_then p.carried q.carried; few = omega (arith, p.few, q.none_served) }

    -- a request was looked for
    abbrev pub driven_served : {exchange : Exchange} → Exchanges s reports mid between exchange new after
        → DrivenSoFar s reports old before new after (count + 1)
    driven_served q = record {
      carried = and_then p.carried q.carried;
      few = let all = length-append p.carried.runs.history.served q.carried.runs.history.served in omega (arith, p.few, q.few);
    }

  -- the drive ends
  drove : {old : Point} {before : Traffic} {last : Point} {after : Traffic} {count : ℕ} (p : DrivenSoFar s reports old before last after count) → count ≤ 64
      → (answer : Progress) → {end : Point} → LeavesIfGone s last end answer
      → Why s last.hub before after (served_in p.carried) answer → Drove s reports old before answer end after
  drove {old} {before} {last} p le answer ends why = record { last = last; carried = p.carried; few = (omega (arith, p.few)); ends = ends; why = why }

  -- ---- the output is written

  module _ {old : Point} {before : Traffic} {mid : Point} {between : Traffic} {new : Point} {after : Traffic} {count : ℕ}
      (p : DrivenOut s reports old before mid between count) where
    served_still : (q : Moves s reports mid between new after) → status_at new.hub s ≡ Open → served_in (driven_flushed p.driven q).carried ≡ count
    served_still q is_open =
        omega (arith, length-append p.driven.carried.runs.history.served q.carried.runs.history.served, p.served_is (sym q.status ∙ is_open), q.none_served)

    pub out_flushed : WritesOut s reports mid between Empty new after → DrivenOut s reports old before new after count × (pending_at new.hub s ≡ [])
    out_flushed q = (
      record {
        driven = driven_flushed p.driven q.moves;
        moved = moved_then before between after p.moved q.why.0;
        served_is = served_still q.moves;
      },
      q.why.1,
    )

    pub waits_to_write : count ≤ 64 → WritesOut s reports mid between FlushBlocked new after → Drove s reports old before Waiting new after
    waits_to_write le q = drove (driven_flushed p.driven q.moves) le Waiting refl
        (inl (ends_then (Write WriteBlocked) before between after p.moved q.why.0, q.why.1))

    pub again : count ≡ 64 → WritesOut s reports mid between Empty new after → status_at new.hub s ≡ Open → Drove s reports old before Again new after
    again all q is_open =
        drove (driven_flushed p.driven q.moves) (omega arith) Again refl
        (moved_then before between after p.moved q.why.0, served_still q.moves is_open ∙ all, is_open, q.why.1)

    pub gone_writing : count ≤ 64 → WritesOut s reports mid between FlushFailed new after → {gone : Point} → Disconnects s new gone
        → Drove s reports old before Gone gone after
    gone_writing le q departs =
        drove (driven_flushed p.driven q.moves) le Gone departs (inr (inl (ends_then (Write WriteFailed) before between after p.moved q.why.0, q.why.1)))

    -- nothing is pending, and the session is no longer open
    pub gone_closed : count ≤ 64 → WritesOut s reports mid between Empty new after → status_at new.hub s ≢ Open → {gone : Point} → Disconnects s new gone
        → Drove s reports old before Gone gone after
    gone_closed le q is_closed departs =
        let closed = closed_kinds (status_at new.hub s) q.moves.carried.runs.present is_closed q.why.1 in
        drove (driven_flushed p.driven q.moves) le Gone departs (inr (inr (inr (moved_then before between after p.moved q.why.0, closed))))

  -- ---- a request, once what was pending has left

  module _ {old : Point} {before : Traffic} {mid : Point} {between : Traffic} {count : ℕ} (p : DrivenOut s reports old before mid between count
      × (pending_at mid.hub s ≡ [])) where
    module _ {new : Point} {after : Traffic} {exchange : Exchange} (q : Exchanges s reports mid between exchange new after) where
      abbrev pub on : DrivenSoFar s reports old before new after (count + 1)
      on = driven_served p.0.driven q

      out_on : AllMoved between after → (status_at new.hub s ≡ Open → (status_at mid.hub s ≡ Open) × (served_in q.carried ≡ 1))
          → DrivenOut s reports old before new after (count + 1)
      out_on moved one = record {
        driven = on;
        moved = moved_then before between after p.0.moved moved;
        served_is = λ is_open. omega (
          arith,
          length-append p.0.driven.carried.runs.history.served q.carried.runs.history.served,
          p.0.served_is (one is_open).0,
          (one is_open).1,
        );
      }

    module _ {new : Point} {after : Traffic} where
      pub out_replied : status_at mid.hub s ≡ Open → Exchanges s reports mid between Replied new after
          → DrivenOut s reports old before new after (count + 1)
      out_replied was_open q = out_on q q.why.0 (λ is_open. elim q.why.1 [
        | inl one ↦ (was_open, one.1)
        | inr ending ↦ absurd (let bad : Open ≡ Ending = sym is_open ∙ ending in cc)
      ])

      pub waits_to_read : count < 64 → Exchanges s reports mid between ExchangeBlocked new after → Drove s reports old before Waiting new after
      waits_to_read lt q = drove (on q) (omega arith) Waiting refl (inr (ends_then (Read Blocked) before between after p.0.moved q.why.0, q.why.1))

      pub gone_serving : count < 64 → (answer : Exchange) → answer ≢ Replied → answer ≢ ExchangeBlocked
          → Exchanges s reports mid between answer new after → {gone : Point} → Disconnects s new gone → Drove s reports old before Gone gone after
      gone_serving lt answer a b q departs =
          let why : Why s new.hub before after 0 Gone =
          grind (
            arith,
            q.why,
            moved_then before between after p.0.moved,
            ends_then (Read Failed) before between after p.0.moved,
            ends_then (Read Ended) before between after p.0.moved,
          ) in
          drove (on q) (omega arith) Gone departs why

-- from hub to hub

-- the output was written: the session stands as it stood, and its inbox has as much room
pub status_flushed : {D : Type 0} {g : Ghosts D} {a b : Hub D g} {s : ℕ} {reports : Type 0} {before between : Traffic} {flush : OutputState} → Stands a
    → LeadsAnswering s reports a before b between (λ h k. WritesOut s reports h before flush k between)
    → status_of b s ≡ status_of a s
status_flushed {D} {g} {a} {b} {s} some p =
    seen_after (hlevel props) some p.leads (λ h k was stands q. status_seen b k.hub stands s ∙ q.moves.status ∙ sym (status_seen a h.hub was s))

pub room_flushed : {D : Type 0} {g : Ghosts D} {a b : Hub D g} {s : ℕ} {reports : Type 0} {before between : Traffic} {flush : OutputState} → Stands a
    → LeadsAnswering s reports a before b between (λ h k. WritesOut s reports h before flush k between)
    → room_of b s ≡ room_of a s
room_flushed {D} {g} {a} {b} {s} some p =
    seen_after (hlevel ℕ_set) some p.leads (λ h k was stands q. room_seen b k.hub stands s ∙ q.room ∙ sym (room_seen a h.hub was s))

-- so much is pending
pub owed_now : {D : Type 0} {g : Ghosts D} {a b : Hub D g} {s : ℕ} {reports : Type 0} {before between : Traffic} {owed : ℕ} → Stands a
    → LeadsAnswering s reports a before b between (λ h k. WrittenSoFar s reports h before k between owed)
    → owed ≡ length (pending_of b s)
owed_now {D} {g} {a} {b} {s} some p = seen_after (hlevel ℕ_set) some p.leads (λ h k was stands x. x.owed_is ∙ ap length (sym (pending_seen b k.hub stands s)))

module _ {D : Type 0} {g : Ghosts D} (follow : Follow D g) {a b c : Hub D g} {s : ℕ} {reports : Type 0} {before between behind : Traffic} {count : ℕ}
    (p : LeadsAnswering s reports a before b between (λ h k. DrivenOut s reports h before k between count)) where
  pub flushes_out : LeadsAnswering s reports b between c behind (λ k l. WritesOut s reports k between Empty l behind)
      → LeadsAnswering s reports a before c behind (λ h l. DrivenOut s reports h before l behind count × (pending_at l.hub s ≡ []))
  flushes_out q = reports_two_at follow p q (λ h k x. x.driven.carried) (λ h k l was stands x y. out_flushed x y)

  -- the session leaves after a write of the output
  pub leaves : {d : Hub D g} {answer : Progress} {flush : OutputState} → answer ≡ Gone
      → LeadsAnswering s reports b between c behind (λ k l. WritesOut s reports k between flush l behind) → RunLeads c d (λ l m. Disconnects s l m)
      → ((h k l m : Point) → StandsFor c l.hub → DrivenOut s reports h before k between count → WritesOut s reports k between flush l behind → Disconnects s l m
      → Drove s reports h before Gone m behind)
      → LeadsAnswering s reports a before d behind (λ h m. Drove s reports h before answer m behind)
  leaves is q left f = rw is (reports_three follow p q (reports_still left) (λ h k x. x.driven.carried) (λ k l y. y.moves.carried) f)

-- a request was looked for, and there is only the beginning of one
abbrev pub HasRead : ℕ → Type 0 → Traffic → Traffic → ℕ → Point → Point → Type 0
HasRead s reports before between room h k = ReadSoFar s reports h before k between room × AwaitsMore k.hub s × (0 < room)

pub waits : {D : Type 0} {g : Ghosts D} → Follow D g → {a b c : Hub D g} {s : ℕ} {reports : Type 0} {before between : Traffic} {room : ℕ} {outcome : Outcome}
    → LeadsAnswering s reports a before b between (λ h k. ReadSoFar s reports h before k between room)
    → HubLeads b c (Serves s) outcome → RunsAlone b c (Serves s) → failures b ≤ failures c → outcome ≢ Done → outcome ≢ Memory
    → LeadsAnswering s reports a before c between (HasRead s reports before between room)
waits follow p q alone counted not_done not_memory =
    reports_step follow p q alone counted (λ h k r. r.moves.carried) (λ h k choice happens is stands r. serve_awaits r happens is not_done not_memory)
