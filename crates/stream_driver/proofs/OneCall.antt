-- One read and one write.
use Rattle.std.proofs.Common.{◌≡◌, ◌≢◌, ℕ, ◌-◌, ◌<◌, ◌≤◌, List, ◌++◌, length, take, Some, refl, sym, ap, subst, ◌∙◌}
use Rattle.std.proofs.Common.{arith, length-append}
use Rattle.std.proofs.lemmas.List.{append-nil, length-drop}
use Rattle.model.specs.Bounds.{inbox_max}
use Rattle.model.specs.Map.{Bytes}
use Rattle.sessions.proofs.EventSteps.{pending_seen}
use Rattle.sessions.specs.Laws.{NoneRuns, RunsAlone}
use Rattle.sessions.specs.SessionStreams.{Receives, Sends, hub_step, with_stream, stream_of}
use Rattle.sessions.specs.StandsFor.{HubLeads, status_of, pending_of, status_in, pending_in, room_in, failures}
use Rattle.sessions.specs.declared.events.Outcome.{Outcome}
use Rattle.sessions.specs.declared.events.Outcome.TheVariants.{Done}
use Rattle.sessions.specs.declared.events.Status.TheVariants.{Absent, Open}
use Rattle.stream_driver.proofs.Carry.{answered, moved_by}
use Rattle.stream_driver.proofs.Events.{found, point_after, one_event, received_by, receives, bytes_came, sent_from}
use Rattle.stream_driver.proofs.Events.{sends, bytes_went, open_present}
use Rattle.stream_driver.proofs.States.{leads_event, leads_none, present_in}
use Rattle.stream_driver.specs.Calls.{WritesSome, ReadsSome}
use Rattle.stream_driver.specs.Sessions.{Ghosts, Hub, AwaitsMore, RunLeads, RunsOneSession, inbox_room}
use Rattle.stream_driver.specs.Traffic.{Traffic, CountsLast, ReadsWithin, bytes_read, bytes_written}
use Rattle.stream_driver.specs.Types.{Read, Write, ReadAnswer, Moved, WriteAnswer, Wrote}

module _ {D : Type 0} {g : Ghosts D} {hub new : Hub D g} {s : ℕ} {reports : Type 0} {b a : Traffic} where
  pub wrote_moved : (n : ℕ) → 0 < n → {outcome : Outcome} → HubLeads hub new (Sends s n) outcome → RunsAlone hub new (Sends s n) → failures hub ≤ failures new
      → status_of hub s ≢ Absent → n ≤ length (pending_of hub s) → (reports → a.sent ≡ b.sent ++ take n (pending_of hub s))
      → (reports → a.received ≡ b.received) → CountsLast (Write (Wrote n)) b a → RunLeads hub new (λ h k. WritesSome s reports h b (Wrote n) k a)
  wrote_moved n some {outcome} leads alone counted present long sent received calls =
      leads_event hub new _ (Sends s n) outcome leads alone counted (λ h stands happens outcome_is after.
      let c = leads.0 in
      let here = present_in s stands.state present in
      let st = found (stream_of h.hub s) here in
      let is = st.1 in
      let pending : pending_of hub s ≡ st.0.now.pending = pending_seen hub h.hub stands.state s ∙ ap pending_in is in
      let fits : n ≤ length st.0.now.pending = subst (λ l. n ≤ length l) pending long in
      let stays : st.0.now.status ≢ Absent = λ gone. here (ap status_in is ∙ gone) in
      let step : hub_step h.hub (Sends s n) c ≡ (with_stream h.hub s (sent_from st.0 n), Done) = sends h.hub s n c st.0 is fits in
      let runs : RunsOneSession s h (point_after h (Sends s n) c (failures new)) =
      one_event s h (Sends s n) c (failures new) st.0 (sent_from st.0 n) refl happens is (ap (λ r. r.0.present) step) (bytes_went st.0 n) stays in
      record {
        moves =
            moved_by runs (tt, tt) (λ t. received t ∙ sym (append-nil b.received)) (λ t. sent t ∙ ap (λ l. b.sent ++ take n l) pending)
            refl refl (ap status_in runs.last_is ∙ sym (ap status_in is));
        room = ap room_in runs.last_is ∙ sym (ap room_in is);
        answered = calls;
        why = (some, omega (arith, ap (λ o. length (pending_in o)) runs.last_is, length-drop n st.0.now.pending, ap (λ o. length (pending_in o)) is));
      })

  pub read_moved : (n : ℕ) → 0 < n → (piece : Bytes) → {outcome : Outcome} → HubLeads hub new (Receives s piece) outcome → RunsAlone hub new (Receives s piece)
      → failures hub ≤ failures new
      → length piece ≡ n → {room : ℕ} → n ≤ room → (reports → a.received ≡ b.received ++ piece) → (reports → a.sent ≡ b.sent) → CountsLast (Read (Moved n)) b a
      → RunLeads hub new (λ h k. AwaitsMore h.hub s → room ≡ inbox_room h.hub s → ReadsSome s reports h b (Moved n) k a)
  read_moved n some piece {outcome} leads alone counted long {room} within received sent calls =
      leads_event hub new _ (Receives s piece) outcome leads alone counted (λ h stands happens outcome_is after awaits room_is.
      let c = leads.0 in
      let st = found (stream_of h.hub s) (open_present h.hub s awaits.0) in
      let is : stream_of h.hub s ≡ Some st.0 = st.1 in
      let opened : st.0.now.status ≡ Open = sym (ap status_in is) ∙ awaits.0 in
      let room_now : room ≡ inbox_max - length st.0.now.inbox = room_is ∙ ap room_in is in
      let fits : length piece ≤ inbox_max - length st.0.now.inbox = omega arith in
      let step : hub_step h.hub (Receives s piece) c ≡ (with_stream h.hub s (received_by st.0 piece), Done) = receives h.hub s piece c st.0 is opened fits in
      let stays : st.0.now.status ≢ Absent = λ gone. (let bad : Open ≡ Absent = sym opened ∙ gone in cc) in
      let runs : RunsOneSession s h (point_after h (Receives s piece) c (failures new)) =
      one_event s h (Receives s piece) c (failures new) st.0 (received_by st.0 piece) refl happens is (ap (λ r. r.0.present) step) (bytes_came st.0 piece)
      stays in
      record {
        moves = moved_by runs (awaits, tt) received (λ t. sent t ∙ sym (append-nil b.sent)) refl refl (ap status_in runs.last_is ∙ sym (ap status_in is));
        none_sent = refl;
        pending = ap pending_in runs.last_is ∙ sym (ap pending_in is);
        answered = calls;
        why = (some, omega (arith, ap room_in runs.last_is, ap room_in is, length-append st.0.now.inbox piece));
      })

-- a read of no more than there is room for
pub reads_within : (answer : ReadAnswer) (len room : ℕ) → ReadsWithin answer len → len ≤ room → ReadsWithin answer room
reads_within answer len room within le = grind arith

-- the stream didn't move
module _ {D : Type 0} {g : Ghosts D} {hub : Hub D g} (none : NoneRuns hub) {s : ℕ} {reports : Type 0} {b a : Traffic} where
  pub wrote_none : (answer : WriteAnswer) → ((n : ℕ) → answer ≢ Wrote n) → status_of hub s ≢ Absent
      → (from : List ℕ) → (reports → a.received ≡ b.received) → (reports → a.sent ≡ b.sent ++ take (bytes_written answer) from) → CountsLast (Write answer) b a
      → RunLeads hub hub (λ h k. WritesSome s reports h b answer k a)
  wrote_none (Wrote n) differs present from received sent calls = absurd (differs n refl)
  wrote_none answer differs present from received sent calls =
      leads_none hub none _ (λ h stands. record {
        moves = answered (present_in s stands.state present) (λ t. rw append-nil (received t)) sent;
        room = refl;
        answered = calls;
        why = refl;
      })

  pub read_none : (room : ℕ) (into : List ℕ) → (reports → a.sent ≡ b.sent) → (answer : ReadAnswer) → ((n : ℕ) → answer ≢ Moved n)
      → (reports → a.received ≡ b.received ++ take (bytes_read answer) into) → CountsLast (Read answer) b a
      → RunLeads hub hub (λ h k. AwaitsMore h.hub s → room ≡ inbox_room h.hub s → ReadsSome s reports h b answer k a)
  read_none room into sent (Moved n) differs received calls = absurd (differs n refl)
  read_none room into sent answer differs received calls = leads_none hub none _ (λ h stands awaits room_is.
      let moves = answered (open_present h.hub s awaits.0) received (λ t. rw append-nil (sent t)) in
      record { moves = moves; none_sent = refl; pending = refl; answered = calls; why = refl })
