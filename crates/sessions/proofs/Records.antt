-- What an event does to the count of the log's records.
use Rattle.std.proofs.Common.{◌≡◌, ◌⊎◌, inl, inr, ℕ, ◌+◌, Bool, false, List, [], ◌∷◌, Option, Some, None}
use Rattle.std.proofs.Common.{◌↔◌, ◌^◌, ◌-◌, not, ◌==◌, nat_le, nat_lt, cond, refl, sym, ap, ◌∙◌, length, arith}
use Rattle.std.proofs.lemmas.Bool.{cases_Bool, cases_eq, eq-eqb}
use Rattle.std.proofs.lemmas.Grind.{common_steps}
use Rattle.model.proofs.Steps.{running_of-leave}
use Rattle.model.specs.Machine.{State, Running, running_of, snapshot, leave, record_to_commit, body_sectors, store}
use Rattle.model.specs.Machine.{store_unless, commit, step, step_of, last}
use Rattle.model.specs.Map.{KeyWrite}
use Rattle.model.specs.Operations.{Operation, Response, Commit, Abort, Begin}
use Rattle.model.specs.PrivateCopy.{writes}
use Rattle.model.specs.Verdict.{verdict}
use Rattle.model.specs.declared.refusals.Refusal.{Refusal}
use Rattle.snapshot.proofs.Copies.{writes-made}
use Rattle.engine.proofs.Requests.{none_read_only, read_only}
use Rattle.engine.specs.Changes.{AddsOneAtMost, entry_of}
use Rattle.engine.specs.Meaning.{IsReadOnly, has_writes, StandsFor as EngineStandsFor, has_engine_written}
use Rattle.engine.specs.declared.engine.Engine.{Engine}
use Rattle.sessions.proofs.Reached.{reached}
use Rattle.sessions.proofs.StreamLaws.{by_if}
use Rattle.sessions.specs.SessionStreams.{Outcome, HubState, SessionState, HubEvent, Joins, Receives}
use Rattle.sessions.specs.SessionStreams.{Serves, Sends, Leaves, Head, Whole, More, Bad, Choice, Effect, hub_step}
use Rattle.sessions.specs.SessionStreams.{stream_of, serve_choice, serve_head, serve_session, may_serve, asks}
use Rattle.sessions.specs.StandsFor.{Ghosts, Hub, StandsFor, HubLeads, CountsRecords, has_written, log, records_of}

-- ---- the machine

-- the log uses as many sectors, or the session's transaction had written, and there is none now
abbrev Adds : State → ℕ → State → Type 0
Adds m s n = (n.used ≡ m.used) ⊎ ((IsReadOnly m s → ⊥) × IsReadOnly n s)

module _ (m : State) (s : ℕ) (f : Bool) where
  abbrev After : State × Response → Type 0
  After r = Adds m s r.0

  module _ (t : Running) (found : running_of m s ≡ Some t) where
    gone : running_of (leave m s) s ≡ None
    gone = running_of-leave m s s ∙ ap (λ b. cond (not b) (running_of m s) None) (eq-eqb s s refl)

    stored : (ws : List KeyWrite) → writes (snapshot m t) t.requests ≡ ws → Adds m s (store m s (record_to_commit m t) ws f).0
    stored [] is = inl (omega arith)
    stored (w ∷ ws) is = by_if After (nat_le m.count (m.used + body_sectors (w ∷ ws))) _ _ (inl refl) (by_if After f _ _ (inl refl)
        (inr (
          λ only. absurd (let bad : [] ≡ w ∷ ws = sym (only t found) ∙ is in cc),
          λ u at. absurd (let bad : None ≡ Some u = sym gone ∙ at in cc),
        )))

    stored_unless : (o : Option Refusal) → Adds m s (store_unless o m s (record_to_commit m t) f).0
    stored_unless (Some conflict) = inl refl
    stored_unless None = stored (writes (snapshot m t) t.requests) refl

    committed : Adds m s (commit m s t f).0
    committed = by_if After m.stopped _ _ (inl refl)
        (by_if After (last m == 2 ^ 63 - 1) _ _ (inl refl) (stored_unless (verdict m.history (record_to_commit m t))))

  by : (o : Option Running) (q : Operation) → running_of m s ≡ o → Adds m s (step_of o m s q f).0
  by None Begin e = by_if After m.stopped _ _ (inl refl) (by_if After (nat_lt (length m.running) 64) _ _ (inl refl) (inl refl))
  by None other e = inl refl
  by (Some t) Commit e = committed t e
  by (Some t) Abort e = inl refl
  by (Some t) other e = inl refl

  step_adds : (q : Operation) → Adds m s (step m s q f).0
  unfolding step
  step_adds q = by (running_of m s) q refl

-- ---- one event

-- the log uses as many sectors, or it is so of the session that is served
abbrev EventAdds : State → HubEvent → State → Type 0
EventAdds m e n = (n.used ≡ m.used) ⊎ ((s : ℕ) × (e ≡ Serves s) × (IsReadOnly m s → ⊥) × IsReadOnly n s)

abbrev Effected : State → ℕ → Effect → Type 0
Effected m s e = Adds m s e.machine

served_adds : (c : Choice) (m : State) (s : ℕ) (n : SessionState) → Adds m s (serve_choice c m s n).machine
served_adds c m s n = by_if (Effected m s) (may_serve n) _ _ (head c.head) (inl refl)
  where
    head : (f : Head) → Adds m s (serve_head f c m s n).machine
    head (Whole parts used) = by_if (Effected m s) c.refused _ _ (inl refl) (step_adds m s c.failed (asks parts))
    head More = inl refl
    head Bad = inl refl

by_serve : (m n : State) (s : ℕ) → Adds m s n → EventAdds m (Serves s) n
by_serve m n s (inl same) = inl same
by_serve m n s (inr x) = inr (s, refl, x.0, x.1)

event_adds : (h : HubState) (e : HubEvent) (c : Choice) → EventAdds h.machine e (hub_step h e c).0.machine
unfolding hub_step
event_adds h (Joins s) c = inl (grind (arith, common_steps))
event_adds h (Receives s piece) c = inl (grind (arith, common_steps))
event_adds h (Serves s) c = elim (stream_of h s) as (λ o. EventAdds h.machine (Serves s) (serve_session o h s c).0.machine) [
  | None ↦ inl refl
  | Some st ↦ by_serve h.machine (serve_choice c h.machine s st.now).machine s (served_adds c h.machine s st.now)
]
event_adds h (Sends s n) c = inl (grind (arith, common_steps))
event_adds h (Leaves s) c = inl (grind (arith, common_steps))

-- ---- what has been written, seen in the engine and in the machine

module _ {D : Type 0} {g : Ghosts D} where
  engine_written : (e : Engine D g) (s : ℕ) (m : State) → EngineStandsFor e m → (has_engine_written e s ≡ false) ↔ IsReadOnly m s
  engine_written e s m stands = elim (entry_of s e) as (λ o. entry_of s e ≡ o → (has_writes o ≡ false) ↔ IsReadOnly m s) [
    | None ↦ λ none. (λ _. none_read_only e s m stands none, λ _. refl)
    | Some t ↦ λ some. read_only e s m stands t _ refl some (λ contents qs made. writes-made t contents qs made)
  ] refl

  pub written_seen : (hub : Hub D g) (h : HubState) → StandsFor hub h → (s : ℕ) → (has_written hub s ≡ false) ↔ IsReadOnly h.machine s
  written_seen hub h stands s = engine_written hub.engine s h.machine stands.engine

  -- ---- the count of the records

  pub counts : (old new : Hub D g) (e : HubEvent) (outcome : Outcome) → HubLeads old new e outcome → AddsOneAtMost (log old) (log new)
      → CountsRecords old new e
  counts old new e outcome leads once h stands =
      let there = reached old new e outcome leads h stands in
      let later : HubState = (hub_step h e leads.0).0 in
      let was = stands.engine.used in
      let is = there.stands.engine.used in
      elim (event_adds h e leads.0) [
        | inl same ↦ inl (once.same (sym is ∙ same ∙ was))
        | inr x ↦ elim (cases_eq (records_of new) (records_of old)) [
          | inl same ↦ inl same
          | inr differs ↦ inr (record {
            session = x.0;
            serves = x.1;
            one = omega (arith, once.kept, once.one, differs);
            wrote = elim (cases_Bool (has_written old x.0)) [ inl on ↦ on | inr off ↦ absurd (x.2 ((written_seen old h stands x.0).0 off)) ];
            ended = (written_seen new later there.stands x.0).1 x.3;
          })
        ]
      ]
