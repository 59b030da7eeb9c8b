-- What left over the connections stays answered before as the loop goes on, also where a turn takes a connection out or closes it, and is kept.
use Rattle.std.proofs.Common.{◌≡◌, ◌≢◌, ◌⊎◌, inl, inr, ℕ, ◌+◌, ◌-◌, ◌||◌, Bool, true, false, List, [], ◌∷◌, ◌++◌}
use Rattle.std.proofs.Common.{Option, Some, None, length, append_assoc, drop, refl, sym, ap, subst, ◌∙◌, arith}
use Rattle.std.proofs.Math.Logic.{∥∥₁_map}
use Rattle.std.proofs.lemmas.Bool.{and_parts, cases_eq}
use Rattle.std.proofs.lemmas.List.{append-nil}
use Rattle.std.proofs.lemmas.List.Elements.{All-contains, All-drop, All-from_recursion, recursion_from_All}
use Rattle.std.specs.List.{AllByRecursion, Contains}
use Rattle.mio.specs.declared.event.event.Event.{Event}
use Rattle.model.proofs.Elements.{all-append, all-each}
use Rattle.model.proofs.Lookups.{some_same}
use Rattle.model.specs.Map.{KeyMap}
use Rattle.sector.specs.declared.device.Sectors.{Ghosts}
use Rattle.sessions.proofs.RestartLaws.{lose_nothing}
use Rattle.sessions.proofs.Readings.{runs_have_one_reading}
use Rattle.sessions.proofs.Runs.{CountsNow, OnlyNow, no_event, ran_parts, ran_stands, ran_then}
use Rattle.sessions.specs.Laws.{IsSessionStream, IsSound, NoneRuns, Ran}
use Rattle.sessions.specs.FoundMaps.{HoldsFound, LosesNothing, MayFind}
use Rattle.sessions.specs.Restarts.{IsOpened, IsServed, Served}
use Rattle.sessions.specs.Readings.{HasOneReading}
use Rattle.sessions.specs.SessionStreams.{HubState, HubEvent, Choice, SessionStream, replies_text, requests_text, run}
use Rattle.sessions.specs.SessionStreams.{stream_of}
use Rattle.sessions.specs.StandsFor.{StandsFor, device}
use Rattle.sessions.specs.declared.hub.Hub.{Hub}
use Rattle.socket_calls.specs.declared.counted.AcceptedSocket.{AcceptedSocket}
use Rattle.stream_driver.proofs.Carry.{run_then}
use Rattle.stream_driver.proofs.Sends.{all_before, all_since, answered_since, answered_then, begins_through}
use Rattle.stream_driver.proofs.States.{at_point, point_of}
use Rattle.stream_driver.specs.Buffers.{buffered_in, has_had_share, is_flushed_or_failed, traffic_through}
use Rattle.stream_driver.specs.Entries.{DrivenThen, EndsDrive, HaveSessions, is_gone, is_over}
use Rattle.stream_driver.specs.Sends.{WereAnsweredBefore, HasSent, HaveSent, IsAnswered}
use Rattle.stream_driver.specs.Sessions.{Adds, Point, StandsAt}
use Rattle.stream_driver.specs.Traffic.{Departure, DepartAt, IsBeginning, Traffic}
use Rattle.stream_driver.specs.declared.buffered.BufferedStream.{BufferedStream}
use Rattle.stream_driver.specs.declared.entries.Entry.{Entry}
use Rattle.stream_driver.specs.declared.entries.EntryState.TheVariants.{Ready, Gone}
use Rattle.event_loop.proofs.Committed.{answered_committed, run_grown}
use Rattle.event_loop.proofs.Entries.{no_entry, polled_sessions}
use Rattle.event_loop.proofs.FoundCommits.{finds, low, run_base}
use Rattle.event_loop.proofs.GoneSessions.{Grows, HasLeft, left_on, run_grows}
use Rattle.event_loop.proofs.Ordering.{turns_taken}
use Rattle.event_loop.proofs.Polled.{each_rest, gone_at, TakesTurns, was_driven, was_gone, was_polled}
use Rattle.event_loop.proofs.TableBytes.{drives_bytes, finished, polled_bytes, then_left, then_was}
use Rattle.event_loop.proofs.WholeTurns.{all_found, each_bytes, new_begins}
use Rattle.event_loop.specs.Departures.{EntriesWereAnswered, HoldsAtEnds, IsCommitted, IsAfterCommits}
use Rattle.event_loop.specs.Departures.{IsDepartureKept}
use Rattle.event_loop.specs.Departures.{IsOneMore, IsServing, WasAnsweredInRun, LingerersWereAnswered, Serving}
use Rattle.event_loop.specs.Departures.{StreamWasAnswered, WasRequested, first_state, present_state}
use Rattle.event_loop.specs.Leavings.{EndAll, EndEach, LeavesAs, LeavesIf}
use Rattle.event_loop.specs.Leavings.EndEach.{NoneEnded, OneMore as OneEnded}
use Rattle.event_loop.specs.Lingerings.{AllTurned, AreTurned, DropsInput, Lingerers, TurnedIf, LingersOrCloses}
use Rattle.event_loop.specs.Sockets.{IsNewSocket, SocketsReport, socket_session, traffic_of}
use Rattle.event_loop.specs.Order.{writer_of}
use Rattle.event_loop.specs.TableBytes.{HaveBytes}
use Rattle.event_loop.specs.Tables.{AdmitsEach, ComeEach, EndsTurn, TableStands, joins_of, slot_at}
use Rattle.event_loop.specs.Tables.AdmitsEach.{Nobody, OneMore}
use Rattle.event_loop.specs.Turns.{DrivesReady}
use Rattle.event_loop.specs.declared.order.Turns.{Turns}
use Rattle.event_loop.specs.declared.lingering.Dropped.{Dropped}
use Rattle.event_loop.specs.declared.lingering.Lingerer.{Lingerer}
use Rattle.event_loop.specs.declared.lingering.TheConstants.{LINGERING_BYTES, LINGERING_MAX}
use Rattle.event_loop.specs.declared.socket.Socket.{Socket}

abbrev Connection : Type 0
Connection = Entry (BufferedStream Socket)

abbrev pub Slots : Type 0
Slots = List (Option Connection)

abbrev through : BufferedStream Socket → Traffic
through = traffic_through traffic_of

abbrev HaveTheirBytes : HubState → Slots → Type 0
HaveTheirBytes = HaveBytes SocketsReport through

all_drop : {X : Type 0} (P : X → Type 0) (n : ℕ) (xs : List X) → AllByRecursion P xs → AllByRecursion P (drop n xs)
all_drop P n xs all = recursion_from_All P (drop n xs) (All-drop P n xs (All-from_recursion P xs all))

-- ---- the run goes on

pub last_sound : {D : Type 0} {g : Ghosts D} (old new : Hub D g) (es : List (HubEvent × Choice)) → Ran old new es → IsSound new
last_sound old new [] r = r.1
last_sound old new (e ∷ es) r = last_sound r.1 new es r.3

-- what was reported as sent was answered
sent_answered : (s : ℕ) (h : HubState) (es : List (HubEvent × Choice)) (t : Traffic) → HasSent s h t → IsAnswered s h es t.sent
sent_answered s h es t has =
    let begins : IsBeginning t.sent (has.stream.sent ++ has.stream.now.pending) = record { rest = has.stream.now.pending; all_is = rw has.sent } in
    record { by = []; since = es; events_are = refl; stream = has.stream; stream_is = has.stream_is; answered = begins }

module _ {D : Type 0} {g : Ghosts D} {hub : Hub D g} (served : Served hub) where
  pub stands_now : StandsFor hub (present_state served)
  stands_now = ran_stands served.first hub served.choices served.ran (first_state served) served.start.begins.stands

  module _ (later : Hub D g) (fs : List (HubEvent × Choice)) (ran : Ran hub later fs) where
    abbrev pub served_on : Served later
    served_on = record {
      first = served.first;
      start = served.start;
      choices = served.choices ++ fs;
      ran = ran_then served.first hub later served.choices fs served.ran ran;
    }

    bytes_on : (slots : Slots) → HaveTheirBytes (run (present_state served) fs) slots → HaveTheirBytes (present_state served_on) slots
    bytes_on slots has = subst (λ (h : HubState). HaveTheirBytes h slots) (sym (run_then (first_state served) served.choices fs)) has

    -- who has left stays so
    present_grows : Grows (present_state served) (present_state served_on)
    present_grows =
        subst (λ (h : HubState). Grows (present_state served) h) (sym (run_then (first_state served) served.choices fs)) (run_grows (present_state served) fs)

    requested_on : (s : ℕ) (bytes : List ℕ) → WasRequested served s bytes → WasRequested served_on s bytes
    requested_on s bytes w = record {
      stream = w.stream;
      left = left_on (present_state served) (present_state served_on) s w.stream present_grows w.left;
      requests = w.requests;
    }

    -- what was answered before stays so
    pub reports_on : (gone : Bool) (s : ℕ) (t : Traffic) → StreamWasAnswered served gone s t → StreamWasAnswered served_on gone s t
    reports_on gone s t e = record {
      number = e.number;
      was_answered = all_since s (first_state served) ran_then served.first hub later served.choices fs ran t.departed e.was_answered;
      answered = answered_since s (first_state served) served.choices fs t.sent e.answered;
      requested = λ is. requested_on s t.received (e.requested is);
    }

    lingerers_on : (all : List Lingerer) → LingerersWereAnswered served all → LingerersWereAnswered served_on all
    lingerers_on all reports = all-each _ _ all (λ l. reports_on true (socket_session l.socket) (traffic_of l.socket)) reports

    -- a stream was called in a drive, or left alone
    driven_reports : (was gone : Bool) (s : ℕ) (t u : Traffic) → u.connection ≡ t.connection → WereAnsweredBefore s (present_state served) hub later fs t u
        → (u.sent ≡ t.sent) ⊎ IsAnswered s (present_state served) fs u.sent → (gone ≡ true → WasRequested served_on s u.received)
        → StreamWasAnswered served was s t → StreamWasAnswered served_on gone s u
    driven_reports was gone s t u same_number left took asked e =
        let on = reports_on was s t e in
        let was_answered : AllByRecursion (WasAnsweredInRun served_on s) (t.departed ++ left.departures) =
        all-append (WasAnsweredInRun served_on s) t.departed left.departures on.was_answered
        (all_before s (first_state served) ran_then served.first hub later served.choices fs served.ran left.departures left.each) in
        let answered : IsAnswered s (first_state served) (served.choices ++ fs) u.sent =
        elim took [ inl same ↦ rw same on.answered | inr since ↦ answered_then s (first_state served) served.choices fs u.sent since ] in
        record { number = same_number ∙ e.number; was_answered = rw left.departed_are was_answered; answered = answered; requested = asked }

module _ {D : Type 0} {g : Ghosts D} where
  -- a loop that serves on a run goes on with it: what was answered before is so still
  pub record GoesOn {hub : Hub D g} (served : Served hub) (later : Hub D g) (new : Slots) (lingerers : List Lingerer) : Type 0 where
    pub now : Serving later new lingerers
    pub was_answered : (gone : Bool) (s : ℕ) (t : Traffic) → StreamWasAnswered served gone s t → StreamWasAnswered now.served gone s t

-- ---- what a stream buffers leaves

-- what begins an answer was answered too
answered_part : (s : ℕ) (h : HubState) (es : List (HubEvent × Choice)) (less bytes : List ℕ) → IsBeginning less bytes → IsAnswered s h es bytes
    → IsAnswered s h es less
answered_part s h es less bytes begins a =
    search (a.events_are, a.stream_is, begins_through less bytes (a.stream.sent ++ a.stream.now.pending) begins a.answered)

module _ {D : Type 0} {g : Ghosts D} {hub : Hub D g} (served : Served hub) where
  -- no more has left than was written to the connection
  pub inner_reports : (gone : Bool) (s : ℕ) (b : BufferedStream Socket) → StreamWasAnswered served gone s (through b)
      → StreamWasAnswered served gone s (traffic_of b.inner)
  inner_reports gone s b e = record {
    number = e.number;
    was_answered = e.was_answered;
    answered = answered_part s (first_state served) served.choices (traffic_of b.inner).sent (through b).sent
        (record { rest = buffered_in b.buffered; all_is = refl }) e.answered;
    requested = e.requested;
  }

  -- the session is that of the number
  own_reports : (s : ℕ) (socket : Socket) → StreamWasAnswered served true s (traffic_of socket)
      → StreamWasAnswered served true (socket_session socket) (traffic_of socket)
  own_reports s socket e = subst (λ (n : ℕ). StreamWasAnswered served true n (traffic_of socket)) (sym e.number) e

  module _ (none : NoneRuns hub) (moment : ℕ) (now : moment ≡ g.moment (device hub)) where
    leaves_now : (s : ℕ) (took : List ℕ) → IsAnswered s (first_state served) served.choices took → (ds : List Departure)
        → AllByRecursion (λ d. (d.moment ≡ moment) × IsBeginning d.bytes took) ds → AllByRecursion (WasAnsweredInRun served s) ds
    leaves_now s took a ds all = all-each (λ d. (d.moment ≡ moment) × IsBeginning d.bytes took) (WasAnsweredInRun served s) ds (λ d left. record {
      before = served.choices;
      since = [];
      events_are = sym (append-nil served.choices);
      hub = hub;
      came = served.ran;
      goes_on = none;
      moment_is = left.0 ∙ now;
      was_answered = answered_part s (first_state served) served.choices d.bytes took left.1 a;
    }) all

    -- nothing was written to it, and what left leaves now; more may have come in
    departs_reports : (was gone : Bool) (s : ℕ) (t u : Traffic) → (gone ≡ true → was ≡ true) → u.connection ≡ t.connection
        → IsBeginning t.received u.received → u.sent ≡ t.sent → DepartAt moment t u → StreamWasAnswered served was s t → StreamWasAnswered served gone s u
    departs_reports was gone s t u before same_number more same departs e =
        let answered : IsAnswered s (first_state served) served.choices u.sent =
        subst (λ (bytes : List ℕ). IsAnswered s (first_state served) served.choices bytes) (sym same) e.answered in
        let was_answered : AllByRecursion (WasAnsweredInRun served s) (t.departed ++ departs.departures) =
        all-append (WasAnsweredInRun served s) t.departed departs.departures e.was_answered (leaves_now s u.sent answered departs.departures departs.each) in
        record {
          number = same_number ∙ e.number;
          was_answered = subst (λ (ds : List Departure). AllByRecursion (WasAnsweredInRun served s) ds) (sym departs.departed_are) was_answered;
          answered = answered;
          requested = λ is. (let w = e.requested (before is) in record {
            stream = w.stream;
            left = w.left;
            requests = begins_through (requests_text w.stream) t.received u.received w.requests more;
          });
        }

    -- the end of an entry's drive
    end_reports : SocketsReport → (was entry : Connection) → EndsDrive SocketsReport traffic_of moment was entry
        → StreamWasAnswered served (is_gone was.state) was.session (through was.stream)
        → StreamWasAnswered served (is_gone entry.state) entry.session (through entry.stream)
    end_reports t was entry ends e =
        let f = finished SocketsReport traffic_of moment entry.state was.stream entry.stream ends.stream in
        let before : is_gone entry.state ≡ true → is_gone was.state ≡ true =
        λ is. ap is_gone (was_gone was.state (has_had_share was.stream) (sym ends.state ∙ gone_at entry.state is)) in
        let more : IsBeginning (through was.stream).received (through entry.stream).received =
        record { rest = []; all_is = f.received t ∙ sym (append-nil (through was.stream).received) } in
        subst (λ (s : ℕ). StreamWasAnswered served (is_gone entry.state) s (through entry.stream)) (sym ends.session)
        (departs_reports (is_gone was.state) (is_gone entry.state) was.session (through was.stream) (through entry.stream) before f.connection more (f.sent t)
        (f.departed t) e)

    -- ---- those that linger

    one_lingers : (socket : Socket) (old new : Lingerers) → LingersOrCloses socket old new → (s : ℕ) → StreamWasAnswered served true s (traffic_of socket)
        → LingerersWereAnswered served old.all → LingerersWereAnswered served new.all
    one_lingers socket old new leaves s e reports = elim leaves [
      | inl x ↦ rw x.1 reports
      | inr x ↦ elim x.1 [
        | inl refused ↦ rw refused.1 reports
        | inr begun ↦
            let one : Lingerer = record { socket = socket; left = LINGERING_BYTES } in
            rw begun.1
            (all_drop (λ (l : Lingerer). StreamWasAnswered served true (socket_session l.socket) (traffic_of l.socket)) (length old.all + 1 - LINGERING_MAX)
            (old.all ++ one
            ∷ [])
            (all-append (λ (l : Lingerer). StreamWasAnswered served true (socket_session l.socket) (traffic_of l.socket)) old.all (one ∷ []) reports
            (own_reports s socket e, tt)))
      ]
    ]

    leaves_if : (b : Bool) (socket : Socket) (old new : Lingerers) → LeavesIf b socket old new → (s : ℕ)
        → (b ≡ true → StreamWasAnswered served true s (traffic_of socket)) → LingerersWereAnswered served old.all → LingerersWereAnswered served new.all
    leaves_if false socket old new same s e reports = rw same reports
    leaves_if true socket old new leaves s e reports = one_lingers socket old new leaves s (e refl) reports

    -- the session of an entry that is over is gone
    over_reports : (entry : Connection) → StreamWasAnswered served (is_gone entry.state) entry.session (traffic_of entry.stream.inner) → is_over entry ≡ true
        → StreamWasAnswered served true entry.session (traffic_of entry.stream.inner)
    over_reports entry e over =
        subst (λ (gone : Bool). StreamWasAnswered served gone entry.session (traffic_of entry.stream.inner))
        (and_parts (is_gone entry.state) (is_flushed_or_failed entry.stream) over).0 e

    leaves_as : SocketsReport → (slot after : Option Connection) (ended : EndsTurn SocketsReport traffic_of moment slot after) (old new : Lingerers)
        → LeavesAs moment slot after ended old new
        → ((was : Connection) → slot ≡ Some was → StreamWasAnswered served (is_gone was.state) was.session (through was.stream))
        → LingerersWereAnswered served old.all → LingerersWereAnswered served new.all
    leaves_as t None after ended old new same reports all = subst (λ (l : Lingerers). LingerersWereAnswered served l.all) (sym same) all
    leaves_as t (Some was) after (mid, ends, is) old new leaves reports all =
        leaves_if (is_over mid) mid.stream.inner old new leaves mid.session
        (over_reports mid (inner_reports (is_gone mid.state) mid.session mid.stream (end_reports t was mid ends (reports was refl)))) all

    each_lingers : SocketsReport → {slots : Slots} {old : Lingerers} {key : ℕ} {new : Slots} {later : Lingerers} → EndEach moment slots old key new later
        → EntriesWereAnswered served slots → LingerersWereAnswered served old.all
        → LingerersWereAnswered served later.all
    each_lingers t NoneEnded entries reports = reports
    each_lingers t {slots} {old} (OneEnded key between new mid later each at) entries reports =
        leaves_as t (slot_at between key) (slot_at new key) at.ended mid later at.leaves (λ was e. entries key was (sym (each_rest each key (omega arith)) ∙ e))
        (each_lingers t each entries reports)

    drops_reports : SocketsReport → (old : Lingerer) (dropped : Dropped) (new : Lingerer) → DropsInput moment old dropped new → (s : ℕ)
        → StreamWasAnswered served true s (traffic_of old.socket) → StreamWasAnswered served true s (traffic_of new.socket)
    drops_reports t old dropped new drops s e =
        departs_reports true true s (traffic_of old.socket) (traffic_of new.socket) (λ is. is) drops.connection (drops.goes_on t) (drops.sent t)
        (drops.departed t) e

    all_report : SocketsReport → (old new : List Lingerer) (more : Bool) → AllTurned moment old new more → LingerersWereAnswered served old
        → LingerersWereAnswered served new
    all_report t [] new more turned reports = subst (λ (l : List Lingerer). LingerersWereAnswered served l) (sym turned.0) reports
    all_report t (first ∷ others) new more turned reports = elim turned [
      | inl x ↦ all_report t others new more x.1 reports.1
      | inr (dropped, later, rest, of_rest, stays, all, is, more_is) ↦
          subst (λ (l : List Lingerer). LingerersWereAnswered served l) (sym is) (
            own_reports (socket_session first.socket) later.socket (drops_reports t first dropped later stays.0 (socket_session first.socket) reports.0),
            all_report t others rest of_rest all reports.1,
          )
    ]

    turned_report : SocketsReport → (reads : Bool) (old new : Lingerers) → TurnedIf moment reads old new → LingerersWereAnswered served old.all
        → LingerersWereAnswered served new.all
    turned_report t false old new same reports = subst (λ (l : Lingerers). LingerersWereAnswered served l.all) (sym same) reports
    turned_report t true old new turned reports = all_report t old.all new.all new.has_more turned.0 reports

-- ---- the drives of a turn

have_sent : (h : HubState) (slots : Slots) → SocketsReport → HaveTheirBytes h slots → HaveSent through h slots
have_sent h slots t has key entry e alive = let b = has key entry e alive in record { stream = b.0; stream_is = b.1; sent = (b.2 t).1 }

module _ {D : Type 0} {g : Ghosts D} (hub later : Hub D g) (slots new : Slots) (events : List Event) (last next : Turns)
    (d : DrivesReady SocketsReport traffic_of events last hub slots next later new) (sessions : HaveSessions hub slots)
    (old later_all : Lingerers) (left : EndAll (g.moment (device later)) d.driven old new later_all) where
  turned : TakesTurns slots d.ready events
  turned = turns_taken hub next slots d.ready events d.turned

  none_runs : NoneRuns later
  none_runs = no_event later (last_sound hub later d.drives.leads.choices d.drives.leads.ran)

  module _ (s : Serving hub slots old.all) where
    abbrev on : Served later
    on = served_on s.served later d.drives.leads.choices d.drives.leads.ran

    abbrev to : (k : Point) × StandsAt later k
        × (Adds (point_of hub (present_state s.served)) d.drives.leads.choices k
        × DrivenThen SocketsReport through (writer_of next) (point_of hub (present_state s.served)) d.ready k d.driven)
    to = d.drives.leads.to (point_of hub (present_state s.served)) (at_point hub (present_state s.served) (stands_now s.served))

    -- what was served for a session that has left by now was requested
    now_requested : (n : ℕ) (bytes : List ℕ) → HasLeft to.0.hub n bytes → WasRequested on n bytes
    now_requested n bytes l =
        let is : to.0.hub ≡ present_state on = to.2.0.run_is ∙ sym (run_then (first_state s.served) s.served.choices d.drives.leads.choices) in
        let left : Contains (present_state on).gone (n, l.stream) = subst (λ (h : HubState). Contains h.gone (n, l.stream)) is l.left in
        let lawful = (last_sound s.served.first later on.choices on.ran).lawful (present_state on) (stands_now on) in
        record {
          stream = l.stream;
          left = left;
          requests = l.came (All-contains (λ (x : ℕ × SessionStream). IsSessionStream x.1) (present_state on).gone (n, l.stream)
              (All-from_recursion (λ (x : ℕ × SessionStream). IsSessionStream x.1) (present_state on).gone lawful.gone) left);
        }

    -- of the entries that were to be driven those that were gone
    gone_before : SocketsReport → (key : ℕ) (entry : Connection) → slot_at d.ready key ≡ Some entry → entry.state ≡ Gone
        → HasLeft (present_state s.served) entry.session (through entry.stream).received
    gone_before t key entry e gone =
        let before = was_polled traffic_of slots d.ready events turned key entry e in
        let was = (s.reports t key before.0 before.1).requested (sym before.2.gone ∙ ap is_gone gone) in record {
          stream = was.stream;
          left = subst (λ (n : ℕ). Contains (present_state s.served).gone (n, was.stream)) (sym before.2.session) was.left;
          came = λ is. subst (λ (x : Traffic). IsBeginning (requests_text was.stream) x.received) (sym before.2.through) was.requests;
        }

    -- what was answered before the drives' departures stays so
    driven_report : SocketsReport → EntriesWereAnswered on d.driven
    driven_report t key mid e =
        let h = present_state s.served in
        let was = then_was SocketsReport through (writer_of next) (point_of hub h) d.ready to.0 d.driven to.2.1 key mid e in
        let before = was_polled traffic_of slots d.ready events turned key was.0 was.1 in
        let bytes = polled_bytes SocketsReport traffic_of (g.moment (device later)) slots d.ready events turned h s.bytes in
        let sent = have_sent h d.ready t bytes in
        let gone : is_gone mid.state ≡ true → HasLeft to.0.hub mid.session (through mid.stream).received =
        λ is. then_left SocketsReport through (writer_of next) (point_of hub h) d.ready to.0 d.driven to.2.1
        (polled_sessions slots d.ready events turned hub sessions).own t
        bytes (gone_before t) key mid e (gone_at mid.state is) in
        let asked : is_gone mid.state ≡ true → WasRequested on was.0.session (through mid.stream).received =
        λ is. subst (λ (n : ℕ). WasRequested on n (through mid.stream).received) was.2
        (now_requested mid.session (through mid.stream).received (gone is)) in
        subst (λ (n : ℕ). StreamWasAnswered on (is_gone mid.state) n (through mid.stream)) (sym was.2)
        (driven_reports s.served later d.drives.leads.choices d.drives.leads.ran (is_gone before.0.state) (is_gone mid.state) was.0.session
        (through was.0.stream) (through mid.stream) was.3 (d.drives.answering t h (stands_now s.served) sent key was.0 mid was.1 e)
        (d.drives.answered t h (stands_now s.served) sent key was.0 mid was.1 e) asked
        (subst (λ (n : ℕ). StreamWasAnswered s.served (is_gone before.0.state) n (through was.0.stream)) (sym before.2.session)
        (subst (λ (x : Traffic). StreamWasAnswered s.served (is_gone before.0.state) before.0.session x) (sym before.2.through)
        (s.reports t key before.0 before.1))))

    lingered : SocketsReport → LingerersWereAnswered on old.all
    lingered t = lingerers_on s.served later d.drives.leads.choices d.drives.leads.ran old.all (s.lingerers_report t)

    driven_serves : Serving later new later_all.all
    driven_serves = record {
      served = on;
      bytes = bytes_on s.served later d.drives.leads.choices d.drives.leads.ran new
          (subst (λ (x : HubState). HaveTheirBytes x new) to.2.0.run_is
          (drives_bytes SocketsReport traffic_of (g.moment (device later)) slots d.ready d.driven new events turned
          (polled_sessions slots d.ready events turned hub sessions).own d.ended (writer_of next) (point_of hub (present_state s.served)) to.0 to.2.1 s.bytes));
      reports = λ t key entry e.
          let was = was_driven SocketsReport traffic_of (g.moment (device later)) (slot_at d.driven key) (slot_at new key) entry (d.ended key) e in
          end_reports on none_runs (g.moment (device later)) refl t was.0 entry was.2 (driven_report t key was.0 was.1);
      lingerers_report = λ t. each_lingers on none_runs (g.moment (device later)) refl t left.each (driven_report t) (lingered t);
    }

    pub driven_goes : GoesOn s.served later new later_all.all
    unfolding driven_serves
    driven_goes = record { now = driven_serves; was_answered = reports_on s.served later d.drives.leads.choices d.drives.leads.ran }

    -- so it is of each connection as the turn leaves it
    pub ends_report : SocketsReport → HoldsAtEnds (StreamWasAnswered driven_goes.now.served) (g.moment (device later)) d.driven old.all later_all.all
    unfolding driven_goes driven_serves
    ends_report t = record {
      entries = λ key was entry e ends. inner_reports on (is_gone entry.state) entry.session entry.stream
          (end_reports on none_runs (g.moment (device later)) refl t was entry ends (driven_report t key was e));
      linger = lingered t;
      ends = all-each _ _ later_all.all
          (λ l e dropped after drops. drops_reports on none_runs (g.moment (device later)) refl t l dropped after drops (socket_session l.socket) e)
          (each_lingers on none_runs (g.moment (device later)) refl t left.each (driven_report t) (lingered t));
    }

  pub drives_serve : IsServing hub slots old.all → IsServing later new later_all.all
  drives_serve some = ∥∥₁_map some driven_serves

-- ---- those that linger are turned, or closed

module _ {D : Type 0} {g : Ghosts D} (hub : Hub D g) (slots : Slots) where
  relinger : (old new : List Lingerer) → (SocketsReport → (served : Served hub) → LingerersWereAnswered served old → LingerersWereAnswered served new)
      → Serving hub slots old → Serving hub slots new
  relinger old new f s = record { served = s.served; bytes = s.bytes; reports = s.reports; lingerers_report = λ t. f t s.served (s.lingerers_report t) }

  turns_on : (moment : ℕ) → moment ≡ g.moment (device hub) → (is_reported : Bool) (old new : Lingerers) → AreTurned moment is_reported old new
      → Serving hub slots old.all → Serving hub slots new.all
  turns_on moment now is_reported old new turned = relinger old.all new.all (λ t served.
      turned_report served (no_event hub (last_sound served.first hub served.choices served.ran)) moment now t (is_reported || old.has_more) old new turned)

  pub turned_goes : (is_reported : Bool) (old new : Lingerers) → AreTurned (g.moment (device hub)) is_reported old new → (s : Serving hub slots old.all)
      → GoesOn s.served hub slots new.all
  unfolding turns_on relinger
  turned_goes is_reported old new turned s =
      record { now = turns_on (g.moment (device hub)) refl is_reported old new turned s; was_answered = λ b n t e. e }

  pub turns_serve : (moment : ℕ) → moment ≡ g.moment (device hub) → (is_reported : Bool) (old new : Lingerers) → AreTurned moment is_reported old new
      → IsServing hub slots old.all → IsServing hub slots new.all
  turns_serve moment now is_reported old new turned some = ∥∥₁_map some (turns_on moment now is_reported old new turned)

  closed_on : (old new : List Lingerer) → new ≡ [] → Serving hub slots old → Serving hub slots new
  closed_on old new is = relinger old new (λ t served reports. rw is tt)

  pub closed_goes : (old : List Lingerer) (s : Serving hub slots old) → GoesOn s.served hub slots []
  unfolding closed_on relinger
  closed_goes old s = record { now = closed_on old [] refl s; was_answered = λ b n t e. e }

  pub closed_serves : (old new : List Lingerer) → new ≡ [] → IsServing hub slots old → IsServing hub slots new
  closed_serves old new is some = ∥∥₁_map some (closed_on old new is)

-- ---- connections come

-- the stream of a connection that was accepted
abbrev IsSomeNew : (key session : ℕ) → BufferedStream Socket → Type 0
IsSomeNew key session b = (accepted : AcceptedSocket) × IsNewSocket accepted key session b

-- an entry was there, or it is new
abbrev IsOldOrNew : Slots → ℕ → Connection → Type 0
IsOldOrNew slots key entry = (slot_at slots key ≡ Some entry) ⊎ (IsSomeNew key entry.session entry.stream × (entry.state ≢ Gone))

module _ {D : Type 0} {g : Ghosts D} where
  each_from : {hub : Hub D g} {next : ℕ} {slots : Slots} {came : List AcceptedSocket} {later : Hub D g} {then : ℕ} {new : Slots}
      → AdmitsEach IsNewSocket hub next slots came later then new → (key : ℕ) (entry : Connection) → slot_at new key ≡ Some entry
      → IsOldOrNew slots key entry
  each_from Nobody key entry e = inl e
  each_from (OneMore came accepted mid later number then between new each admits) key entry e = elim admits [
    | inl away ↦ each_from each key entry (ap (λ (l : Slots). slot_at l key) (sym away.slots_are) ∙ e)
    | inr within ↦ elim (cases_eq key within.key) [
      | inl at ↦
          let which : within.entry ≡ entry = some_same (sym within.changed ∙ ap (slot_at new) (sym at) ∙ e) in
          inr (
            subst (λ (k : ℕ). IsSomeNew k entry.session entry.stream) (sym at)
                (subst (λ (x : Connection). IsSomeNew within.key x.session x.stream) which (accepted, within.fresh)),
            λ gone. (let bad : Ready ≡ Gone = sym within.state ∙ ap (λ (x : Connection). x.state) which ∙ gone in cc),
          )
      | inr differs ↦ each_from each key entry (sym (within.others key differs) ∙ e)
    ]
  ]

-- nothing left over a new connection
new_reports : {D : Type 0} {g : Ghosts D} {hub : Hub D g} (served : Served hub) (slots : Slots) → SocketsReport → HaveTheirBytes (present_state served) slots
    → (key : ℕ) (entry : Connection) → slot_at slots key ≡ Some entry → IsSomeNew key entry.session entry.stream → entry.state ≢ Gone
    → StreamWasAnswered served (is_gone entry.state) entry.session (through entry.stream)
new_reports served slots t has key entry e (accepted, fresh) alive =
    let none : (through entry.stream).departed ≡ [] = ap (λ (x : Socket). (traffic_of x).departed) fresh.2.inner_is ∙ fresh.1.departed t in
    record {
      number = ap (λ (x : Socket). socket_session x) fresh.2.inner_is ∙ fresh.1.counts.5;
      was_answered = subst (λ (ds : List Departure). AllByRecursion (WasAnsweredInRun served entry.session) ds) (sym none) tt;
      answered = subst (λ (es : List (HubEvent × Choice)). IsAnswered entry.session (first_state served) es (through entry.stream).sent)
          (append-nil served.choices)
          (answered_then entry.session (first_state served) served.choices [] (through entry.stream).sent
          (sent_answered entry.session (present_state served) [] (through entry.stream) (have_sent (present_state served) slots t has key entry e alive)));
      requested = λ is. absurd (alive (gone_at entry.state is));
    }

module _ {D : Type 0} {g : Ghosts D} (hub later : Hub D g) (next then : ℕ) (came : List AcceptedSocket) (refused counted : ℕ) (slots new : Slots)
    (lingerers : List Lingerer) (holds : TableStands hub next slots) (come : ComeEach IsNewSocket hub next slots refused came later then new counted) where
  accepts_on : Serving hub slots lingerers → Serving later new lingerers
  accepts_on s =
      let h = present_state s.served in
      let leads = come.1 in
      let to = leads.to (point_of hub h) (at_point hub h (stands_now s.served)) in
      let same : run h (joins_of come.0) ≡ run h leads.choices = sym to.2.1.run_is ∙ to.2.0.run_is in
      let bytes : HaveTheirBytes (present_state (served_on s.served later leads.choices leads.ran)) new =
      bytes_on s.served later leads.choices leads.ran new
      (subst (λ (x : HubState). HaveTheirBytes x new) same
      (each_bytes SocketsReport through IsNewSocket new_begins come.0 h (stands_now s.served) holds s.bytes).2) in
      record {
        served = served_on s.served later leads.choices leads.ran;
        bytes = bytes;
        reports = λ t key entry e. elim (each_from come.0 key entry e) [
          | inl was ↦ reports_on s.served later leads.choices leads.ran (is_gone entry.state) entry.session (through entry.stream) (s.reports t key entry was)
          | inr (fresh, alive) ↦ new_reports (served_on s.served later leads.choices leads.ran) new t bytes key entry e fresh alive
        ];
        lingerers_report = λ t. lingerers_on s.served later leads.choices leads.ran lingerers (s.lingerers_report t);
      }

  pub accepts_goes : (s : Serving hub slots lingerers) → GoesOn s.served later new lingerers
  unfolding accepts_on
  accepts_goes s = record { now = accepts_on s; was_answered = reports_on s.served later come.1.choices come.1.ran }

  pub accepts_serve : IsServing hub slots lingerers → IsServing later new lingerers
  accepts_serve some = ∥∥₁_map some accepts_on

-- ---- it rests, and begins

module _ {D : Type 0} {g : Ghosts D} (hub later : Hub D g) (ran : Ran hub later []) (slots : Slots) (lingerers : List Lingerer) where
  rests_on : Serving hub slots lingerers → Serving later slots lingerers
  rests_on s = record {
    served = served_on s.served later [] ran;
    bytes = bytes_on s.served later [] ran slots s.bytes;
    reports = λ t key entry e. reports_on s.served later [] ran (is_gone entry.state) entry.session (through entry.stream) (s.reports t key entry e);
    lingerers_report = λ t. lingerers_on s.served later [] ran lingerers (s.lingerers_report t);
  }

  pub rests_goes : (s : Serving hub slots lingerers) → GoesOn s.served later slots lingerers
  unfolding rests_on
  rests_goes s = record { now = rests_on s; was_answered = reports_on s.served later [] ran }

  pub rest_serves : IsServing hub slots lingerers → IsServing later slots lingerers
  rest_serves some = ∥∥₁_map some rests_on

pub begins_serving : {D : Type 0} {g : Ghosts D} (hub : Hub D g) → IsOpened hub → NoneRuns hub → (slots : Slots) → slots ≡ [] → (lingerers : List Lingerer)
    → lingerers ≡ [] → IsServing hub slots lingerers
begins_serving hub start none slots is lingerers nobody = let served : Served hub =
    record { first = hub; start = start; choices = []; ran = none } in ∣ record {
      served = served;
      bytes = λ key entry e alive. absurd (no_entry slots is key entry e);
      reports = λ t key entry e. absurd (no_entry slots is key entry e);
      lingerers_report = λ t. rw nobody tt;
    } ∣₁

-- ---- what follows

module _ {D : Type 0} {g : Ghosts D} (hub : Hub D g) (slots : Slots) (lingerers : List Lingerer) (some : IsServing hub slots lingerers) where
  pub is_served : IsServed hub
  is_served = ∥∥₁_map some (λ s. s.served)

  module _ (crash : LosesNothing hub) (only_now : OnlyNow D g) (counts_now : CountsNow D g) where
    -- what was answered begins the texts of the machine's replies
    texts_begin : (served : Served hub) (by since : List (HubEvent × Choice)) → served.choices ≡ by ++ since → (s : ℕ) (st : SessionStream)
        → stream_of (run (first_state served) by) s ≡ Some st → (bytes : List ℕ)
        → IsBeginning bytes (st.sent ++ st.now.pending) → IsBeginning bytes (replies_text st)
    texts_begin served by since is s st there bytes begins =
        let parts = ran_parts served.first hub by since (subst (λ (es : List (HubEvent × Choice)). Ran served.first hub es) is served.ran) in
        let stands = ran_stands served.first parts.0 by parts.1 (first_state served) served.start.begins.stands in
        let lawful = (last_sound served.first parts.0 by parts.1).lawful (run (first_state served) by) stands in
        let stream : IsSessionStream st = all_found IsSessionStream s (run (first_state served) by).present st lawful.present there in
        subst (λ (all : List ℕ). IsBeginning bytes all) (sym stream.output) begins

    -- what a crash leaves once these events were answered
    is_counted : (served : Served hub) (before since : List (HubEvent × Choice)) → served.choices ≡ before ++ since → (map : KeyMap)
        → MayFind (first_state served) served.choices (length before) map → IsAfterCommits served before map
    is_counted served before since is map found =
        let h = first_state served in
        let now = present_state served in
        let lawful = (last_sound served.first hub served.choices served.ran).lawful now (stands_now served) in
        let numbered = lawful.serializable.faithful.numbered in
        let whole : (run h (before ++ since)).machine.history ≡ now.machine.history =
        ap (λ (es : List (HubEvent × Choice)). (run h es).machine.history) (sym is) in
        let base : h.machine.base ≡ now.machine.base = sym (run_base h served.choices) in
        let x = finds now.machine.base now.machine.history numbered served.first hub before since
        (subst (λ (es : List (HubEvent × Choice)). Ran served.first hub es) is served.ran) h served.start.begins.stands base whole map
        (subst (λ (es : List (HubEvent × Choice)). MayFind h es (length before) map) is found) in
        let grown = run_grown (run h before) since in
        let more : now.machine.history ≡ (run h before).machine.history ++ grown.0 =
        sym whole ∙ ap (λ (k : HubState). k.machine.history) (run_then h before since) ∙ grown.1 in
        record {
          commits = x.commits;
          none_above = all-each _ _ (run h before).machine.history (λ r under. (let least = x.least_is in omega (arith, under, least)))
              (low now.machine.base now.machine.history numbered (run h before).machine grown.0 more);
          found_is = elim x.found [
            | inl at ↦ inl at
            | inr one ↦ inr (subst (λ (es : List (HubEvent × Choice)). IsOneMore h es x.commits map) (sym is) one)
          ];
        }

    is_kept : (served : Served hub) (s : ℕ) (d : Departure) → WasAnsweredInRun served s d → IsDepartureKept served s d
    is_kept served s d t =
        let left : g.keeps_model → (c : List (List ℕ)) → g.left_since (device hub) d.moment c
        → HoldsFound (first_state served) served.choices (length t.before) c =
        λ keeps c l. subst (λ (es : List (HubEvent × Choice)). HoldsFound (first_state served) es (length t.before) c) (sym t.events_are)
        (crash keeps served.first t.hub hub t.before t.since t.came t.goes_on (first_state served) served.start.begins.stands refl c
        (subst (λ (m : ℕ). g.left_since (device hub) m c) t.moment_is l)) in
        let events : t.before ≡ t.was_answered.by ++ t.was_answered.since = t.was_answered.events_are in
        let since = t.was_answered.since ++ t.since in
        let all : served.choices ≡ t.was_answered.by ++ since = t.events_are ∙ ap (λ (es : List (HubEvent × Choice)). es ++ t.since) events
        ∙ append_assoc t.was_answered.by t.was_answered.since t.since in
        record {
          was_answered = t;
          texts = texts_begin served t.was_answered.by since all s t.was_answered.stream t.was_answered.stream_is d.bytes t.was_answered.answered;
          reading = all_found HasOneReading s (run (first_state served) t.was_answered.by).present t.was_answered.stream
              (runs_have_one_reading hub served t.was_answered.by since all).present t.was_answered.stream_is;
          committed = subst (λ (es : List (HubEvent × Choice)). AllByRecursion (IsCommitted (run (first_state served) es).machine.history)
              t.was_answered.stream.replies) (sym events)
              (answered_committed (first_state served) t.was_answered.by t.was_answered.since s t.was_answered.stream refl t.was_answered.stream_is);
          left = left;
          counted = is_counted served t.before t.since t.events_are;
          found = λ keeps restarts follow. lose_nothing hub only_now counts_now keeps restarts (g.left_since (device hub) d.moment)
              (MayFind (first_state served) served.choices (length t.before))
              (λ c l. (let z = left keeps c l in (z.0, z.2, z.1))) follow;
        }

    pub all_kept : (served : Served hub) (s : ℕ) (ds : List Departure) → AllByRecursion (WasAnsweredInRun served s) ds
        → AllByRecursion (IsDepartureKept served s) ds
    all_kept served s ds all = all-each (WasAnsweredInRun served s) (IsDepartureKept served s) ds (is_kept served s) all

-- ---- what leaves in a turn

pub holds_map : (P Q : Bool → ℕ → Traffic → Type 0) → ((b : Bool) (s : ℕ) (t : Traffic) → P b s t → Q b s t)
    → (moment : ℕ) (driven : List (Option (Entry (BufferedStream Socket)))) (lingered turned : List Lingerer) → HoldsAtEnds P moment driven lingered turned
    → HoldsAtEnds Q moment driven lingered turned
holds_map P Q f moment driven lingered turned x = record {
  entries = λ key was entry e ends. f (is_gone entry.state) entry.session (traffic_of entry.stream.inner) (x.entries key was entry e ends);
  linger = all-each _ _ lingered (λ l p. f true (socket_session l.socket) (traffic_of l.socket) p) x.linger;
  ends = all-each _ _ turned (λ l p dropped later drops. f true (socket_session l.socket) (traffic_of later.socket) (p dropped later drops)) x.ends;
}
