-- Drives, accepts and turns keep the bytes of the connections those of their sessions, and so does a hub that rests as it frees what nobody needs.
use Rattle.std.proofs.Common.{◌≡◌, ◌≢◌, ◌⊎◌, inl, inr, ℕ, ◌<◌, List, [], ◌++◌, Some, IfSome, sym, ap, subst, ◌∙◌}
use Rattle.std.proofs.Common.{arith, Bool, true, false, refl}
use Rattle.std.proofs.lemmas.Bool.{cases_eq}
use Rattle.std.proofs.lemmas.List.{append-nil}
use Rattle.std.proofs.lemmas.List.Elements.{All-from_recursion}
use Rattle.std.proofs.lemmas.Map.Entries.{All-lookup}
use Rattle.std.specs.List.{AllByRecursion}
use Rattle.std.specs.Map.{lookup}
use Rattle.slab.specs.Slab.{Slab}
use Rattle.model.proofs.Lookups.{some_same}
use Rattle.sector.specs.declared.device.Sectors.{Ghosts}
use Rattle.sessions.proofs.Reached.{reached}
use Rattle.sessions.specs.Laws.{IsLawful, IsSessionStream, Ran}
use Rattle.sessions.specs.SessionStreams.{HubState, SessionStream, Joins, hub_step, new_stream, run, stream_of}
use Rattle.sessions.specs.StandsFor.{StandsFor, HubLeads}
use Rattle.sessions.specs.declared.events.Outcome.{Outcome}
use Rattle.sessions.specs.declared.events.Outcome.TheVariants.{Done}
use Rattle.sessions.specs.declared.hub.Hub.{Hub}
use Rattle.socket_calls.specs.declared.counted.AcceptedSocket.{AcceptedSocket}
use Rattle.stream_driver.proofs.Carry.{run_then}
use Rattle.stream_driver.proofs.Events.{test, adds_none}
use Rattle.stream_driver.proofs.States.{Follow, leads_map, leads_two_at, leads_then}
use Rattle.stream_driver.specs.Buffers.{traffic_through}
use Rattle.stream_driver.specs.Sessions.{RunLeads, Adds, Point}
use Rattle.stream_driver.specs.Traffic.{Traffic}
use Rattle.stream_driver.specs.declared.buffered.BufferedStream.{BufferedStream}
use Rattle.stream_driver.specs.declared.entries.Entry.{Entry}
use Rattle.stream_driver.specs.declared.entries.EntryState.TheVariants.{Gone}
use Rattle.event_loop.proofs.Present.{joins_not, joins_other, joins_same}
use Rattle.event_loop.proofs.Slots.{Slots}
use Rattle.event_loop.proofs.Tables.{admits_table}
use Rattle.event_loop.specs.Numbers.{SessionsAreBelow}
use Rattle.event_loop.specs.Sockets.{IsNewSocket, SocketsReport, traffic_of}
use Rattle.event_loop.specs.TableBytes.{HaveBytes, KeepBytes, SpeaksFor}
use Rattle.event_loop.specs.Tables.{Admits, AdmitsEach, LetsIn, TableStands, join_of, join_tried, joins_of, slot_at}
use Rattle.event_loop.specs.Tables.AdmitsEach.{Nobody, OneMore}
use Rattle.event_loop.specs.Turns.{Accepted, Rests, accepted_joins}
use Rattle.event_loop.specs.declared.server.EventLoop.{EventLoop}
use Rattle.event_loop.specs.declared.socket.Socket.{Socket}

-- ---- a connection that comes

module _ {T D : Type 0} {g : Ghosts D} (reports : Type 0) (traffic : T → Traffic) (IsNew : ℕ → ℕ → T → Type 0)
    (begins : (key s : ℕ) (stream : T) → IsNew key s stream → reports
    → ((traffic stream).received ≡ []) × ((traffic stream).sent ≡ [])) where
  module _ (hub later : Hub D g) (next then : ℕ) (slots new : Slots T) (h : HubState) (stands : StandsFor hub h) (numbers : SessionsAreBelow next slots)
      (has : HaveBytes reports traffic h slots) where
    in_bytes : (l : LetsIn IsNew hub next slots later then new) → HaveBytes reports traffic (hub_step h (Joins next) l.joined.0).0 new
    in_bytes l key entry e alive = elim (cases_eq key l.key) [
      | inl at ↦
          let which : l.entry ≡ entry = some_same (sym l.changed ∙ ap (slot_at new) (sym at) ∙ e) in
          let session : entry.session ≡ next = ap (λ (x : Entry T). x.session) (sym which) ∙ l.session in
          let fresh : IsNew l.key entry.session entry.stream = subst (λ (x : Entry T). IsNew l.key x.session x.stream) which l.fresh in (
            new_stream,
            ap (stream_of (hub_step h (Joins next) l.joined.0).0) session
                ∙ joins_same h next l.joined.0 (reached hub later (Joins next) Done l.joined h stands).outcome_is,
            λ t. begins l.key entry.session entry.stream fresh t,
          )
      | inr differs ↦
          let was : slot_at slots key ≡ Some entry = sym (l.others key differs) ∙ e in
          let w = has key entry was alive in
          (w.0, joins_other h next l.joined.0 entry.session (λ same. (let lt : entry.session < next = numbers key entry was in omega arith)) ∙ w.1, w.2)
    ]

    tried_bytes : (how : (later ≡ hub) ⊎ ((outcome : Outcome) × (outcome ≢ Done) × HubLeads hub later (Joins next) outcome))
        → StandsFor later (run h (join_tried hub later next how)) × HaveBytes reports traffic (run h (join_tried hub later next how)) slots
    tried_bytes (inl same) = (subst (λ (x : Hub D g). StandsFor x h) (sym same) stands, has)
    tried_bytes (inr tried) =
        let there = reached hub later (Joins next) tried.0 tried.2 h stands in (
          there.stands,
          subst (λ (x : HubState). HaveBytes reports traffic x slots) (sym (joins_not h next tried.2.0 (λ done. tried.1 (there.outcome_is ∙ done))))
              has,
        )

    come_bytes : (admits : Admits IsNew hub next slots later then new)
        → StandsFor later (run h (join_of IsNew hub next slots later then new admits))
        × HaveBytes reports traffic (run h (join_of IsNew hub next slots later then new admits)) new
    come_bytes (inl away) = let r =
        tried_bytes away.hub_is in (r.0, subst (λ l. HaveBytes reports traffic (run h (join_tried hub later next away.hub_is)) l) (sym away.slots_are) r.1)
    come_bytes (inr within) = ((reached hub later (Joins next) Done within.joined h stands).stands, in_bytes within)

-- and more of them
module _ {T D : Type 0} {g : Ghosts D} (reports : Type 0) (traffic : T → Traffic) (IsNew : AcceptedSocket → ℕ → ℕ → T → Type 0)
    (begins : (accepted : AcceptedSocket) (key s : ℕ) (stream : T) → IsNew accepted key s stream → reports
    → ((traffic stream).received ≡ []) × ((traffic stream).sent ≡ [])) where
  pub each_bytes : {hub : Hub D g} {next : ℕ} {slots : Slots T} {came : List AcceptedSocket} {later : Hub D g} {then : ℕ} {new : Slots T}
      (each : AdmitsEach IsNew hub next slots came later then new) (h : HubState)
      → StandsFor hub h → TableStands hub next slots → HaveBytes reports traffic h slots
      → StandsFor later (run h (joins_of each)) × TableStands later then new × HaveBytes reports traffic (run h (joins_of each)) new
  each_bytes Nobody h stands holds has = (stands, holds, has)
  each_bytes (OneMore came accepted mid later number then between new each admits) h stands holds has =
      let before = each_bytes each h stands holds has in
      let now = come_bytes reports traffic (IsNew accepted)
      (begins accepted) mid later number then between new (run h (joins_of each)) before.0 before.1.numbers
      before.2 admits in
      let joined = run_then h (joins_of each) (join_of (IsNew accepted) mid number between later then new admits) in (
        subst (λ (x : HubState). StandsFor later x) (sym joined) now.0,
        admits_table mid later number then between new (IsNew accepted) admits before.1,
        subst (λ (x : HubState). HaveBytes reports traffic x new) (sym joined) now.1,
      )

-- ---- sockets

-- nothing has moved through a new connection
pub new_begins : (accepted : AcceptedSocket) (key s : ℕ) (b : BufferedStream Socket) → IsNewSocket accepted key s b → SocketsReport
    → ((traffic_through traffic_of b).received ≡ []) × ((traffic_through traffic_of b).sent ≡ [])
new_begins accepted key s b n t = (
  ap (λ (s : Socket). (traffic_of s).received) n.2.inner_is ∙ n.1.received t,
  ap (λ l. (traffic_of b.inner).sent ++ l) n.2.nothing ∙ append-nil (traffic_of b.inner).sent ∙ ap (λ (s : Socket). (traffic_of s).sent) n.2.inner_is
      ∙ n.1.sent t,
)

-- ---- what the connections say

pub all_found : (P : SessionStream → Type 0) (s : ℕ) (es : List (ℕ × SessionStream)) (st : SessionStream) → AllByRecursion (λ e. P e.1) es
    → lookup (test s) es ≡ Some st → P st
all_found P s es st all e = subst (λ o. IfSome o P) e (All-lookup P (test s) es (All-from_recursion (λ x. P x.1) es all))

pub they_speak : (h : HubState) (slots : Slots (BufferedStream Socket)) → IsLawful h → HaveBytes SocketsReport (traffic_through traffic_of) h slots
    → SocketsReport → (key : ℕ) (entry : Entry (BufferedStream Socket)) → slot_at slots key ≡ Some entry → entry.state ≢ Gone
    → (st : SessionStream) × (stream_of h entry.session ≡ Some st) × SpeaksFor entry.stream st
they_speak h slots lawful bytes reports key entry e alive =
    let has = bytes key entry e alive in
    let is : IsSessionStream has.0 = all_found IsSessionStream entry.session h.present has.0 lawful.present has.1 in
    let carried = has.2 reports in (
      has.0,
      has.1,
      record {
        rest = is.rest;
        inbox = is.inbox;
        came = carried.0 ∙ is.input;
        went = is.output ∙ ap (λ l. l ++ has.0.now.pending) (sym carried.1);
      },
    )

-- ---- the end of a turn

-- a hub that rests
pub leads_rest : {D : Type 0} {g : Ghosts D} {hub later : Hub D g} → Ran hub later [] → RunLeads hub later (λ h k. k ≡ h)
leads_rest {D} {g} ran = record {
  choices = [];
  ran = ran;
  to = λ h at. (h, record { state = ran.2.stands h.hub at.state; count = at.count ∙ sym (ap (λ (d : D). g.failures d) ran.2.device_is) }, (adds_none h, refl));
}

module _ {D : Type 0} {g : Ghosts D} (follow : Follow D g) (old : Hub D g) (driven accepted : EventLoop D g) where
  -- what led to the hub before it accepted, if it did, and then its joins
  pub then_accepts : (P : Point → Point → Type 0) → RunLeads old driven.hub P → (due : Bool) (accepts : Accepted due driven accepted)
      → RunLeads old accepted.hub (λ h l. (k : Point) × P h k × Adds k (accepted_joins due driven accepted accepts) l)
  then_accepts P leads true accepts = leads_then follow old driven.hub accepted.hub P _ _ leads accepts.became.1 (λ h k l last p q. (k, p, q))
  then_accepts P leads false untouched =
      subst (λ (x : Hub D g). RunLeads old x (λ h l. (k : Point) × P h k × Adds k [] l)) (sym untouched.hub)
      (leads_map old driven.hub P _ leads (λ h k last p. (k, p, adds_none k)))

  pub accepts_keep : (slots : Slots (BufferedStream Socket)) → KeepBytes old slots driven.hub driven.table.slots → (due : Bool) → Accepted due driven accepted
      → KeepBytes old slots accepted.hub accepted.table.slots
  accepts_keep slots keeps true accepts =
      let holds : TableStands driven.hub driven.next driven.table.slots =
      record { stands = driven.stands; sessions = driven.sessions; numbers = driven.numbers; entries = driven.entries } in
      leads_two_at follow old driven.hub accepted.hub _ _ _ keeps accepts.became.1 (λ h k l stands last kept adds has.
      subst (λ (x : HubState). HaveBytes SocketsReport (traffic_through traffic_of) x accepted.table.slots) (sym adds.run_is)
      (each_bytes SocketsReport (traffic_through traffic_of) IsNewSocket new_begins accepts.became.0 k.hub stands holds (kept has)).2)
  accepts_keep slots keeps false untouched =
      subst (λ (t : Slab (Entry (BufferedStream Socket))). KeepBytes old slots accepted.hub t.slots) (sym untouched.table)
      (subst (λ (x : Hub D g). KeepBytes old slots x driven.table.slots) (sym untouched.hub) keeps)

-- what led to the hub before it rested leads to it
module _ {D : Type 0} {g : Ghosts D} (follow : Follow D g) (old : Hub D g) (accepted new : EventLoop D g) (rests : Rests accepted new) where
  pub rest_leads : (P : Point → Point → Type 0) → RunLeads old accepted.hub P → RunLeads old new.hub P
  rest_leads P leads =
      leads_then follow old accepted.hub new.hub P _ P leads (leads_rest rests.hub) (λ h k l stands p same. subst (λ (x : Point). P h x) (sym same) p)

  pub rest_keeps : (slots : Slots (BufferedStream Socket)) → KeepBytes old slots accepted.hub accepted.table.slots → KeepBytes old slots new.hub new.table.slots
  rest_keeps slots keeps = subst (λ (t : Slab (Entry (BufferedStream Socket))). KeepBytes old slots new.hub t.slots) (sym rests.table) (rest_leads _ keeps)
