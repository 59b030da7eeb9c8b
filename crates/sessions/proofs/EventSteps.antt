-- What an event does to a hub, by its outcome.
use Rattle.std.proofs.Common.{◌≡◌, ℕ, Bool, List, [], ◌∷◌, length, Some, None, option_map, refl, sym, ap, subst, ◌∙◌}
use Rattle.std.proofs.Common.{nat_cmp, arith}
use Rattle.std.proofs.lemmas.Grind.{common_steps}
use Rattle.std.proofs.lemmas.List.{length-map}
use Rattle.std.proofs.lemmas.Map.Made.{lookup-map_values}
use Rattle.std.specs.BTreeMap.{insert_entry, is_at}
use Rattle.std.specs.Map.{lookup, remove_entry, set_value}
use Rattle.engine.specs.Meaning.{StandsFor as EngineStandsFor}
use Rattle.sessions.specs.Calls.{Aborts, HasEffect, ServesSession, chosen, has_failed}
use Rattle.sessions.specs.SessionStreams.{Outcome, HubState, SessionState, SessionStream, HubEvent, Leaves, Serves}
use Rattle.sessions.specs.SessionStreams.{Head, More, Choice, IsPossible, hub_step, stream_of, Continued}
use Rattle.sessions.specs.SessionStreams.{Done as OfDone}
use Rattle.sessions.specs.StandsFor.{Ghosts, Hub, StandsFor, HubLeads, at_hand, status_or_absent, room_or_none}
use Rattle.sessions.specs.StandsFor.{pending_or_none, status_of, room_of, pending_of, status_in, room_in, pending_in}

-- ---- what is at hand in the list of sessions

abbrev test : ℕ → ℕ → Bool
test s = is_at (nat_cmp s)

module _ (s : ℕ) where
  lookup-at_hand : (es : List (ℕ × SessionStream)) → lookup (test s) (at_hand es) ≡ option_map (λ st. st.now) (lookup (test s) es)
  lookup-at_hand es = lookup-map_values (λ st. st.now) (test s) es

  set-at_hand : (st : SessionStream) (es : List (ℕ × SessionStream)) → set_value (test s) (at_hand es) st.now ≡ at_hand (set_value (test s) es st)
  set-at_hand st [] = refl
  set-at_hand st (e ∷ es) = grind (arith, common_steps, set-at_hand st es)

  pub remove-at_hand : (es : List (ℕ × SessionStream)) → remove_entry (test s) (at_hand es) ≡ at_hand (remove_entry (test s) es)
  remove-at_hand [] = refl
  remove-at_hand (e ∷ es) = grind (arith, common_steps, remove-at_hand es)

  pub insert-at_hand : (st : SessionStream) (es : List (ℕ × SessionStream))
      → insert_entry nat_cmp (at_hand es) s st.now ≡ at_hand (insert_entry nat_cmp es s st)
  insert-at_hand st [] = refl
  insert-at_hand st (e ∷ es) = grind (arith, common_steps, insert-at_hand st es)

pub record FoundStream (h : HubState) (s : ℕ) (n : SessionState) : Type 0 where
  pub stream : SessionStream
  pub is : stream_of h s ≡ Some stream
  pub now : stream.now ≡ n

module _ {D : Type 0} {g : Ghosts D} (hub : Hub D g) (h : HubState) (stands : StandsFor hub h) where
  pub how_many : length hub.sessions ≡ length h.present
  how_many = ap length stands.sessions ∙ length-map h.present _

  module _ (s : ℕ) where
    at_hand_there : lookup (test s) hub.sessions ≡ option_map (λ st. st.now) (stream_of h s)
    at_hand_there = ap (lookup (test s)) stands.sessions ∙ lookup-at_hand s h.present

    pub status_seen : status_of hub s ≡ status_in (stream_of h s)
    status_seen = ap status_or_absent at_hand_there

    pub room_seen : room_of hub s ≡ room_in (stream_of h s)
    room_seen = ap room_or_none at_hand_there

    pub pending_seen : pending_of hub s ≡ pending_in (stream_of h s)
    pending_seen = ap pending_or_none at_hand_there

    pub stream-some : (n : SessionState) → Some n ≡ lookup (test s) hub.sessions → FoundStream h s n
    stream-some n e = let there = e ∙ at_hand_there in grind (arith, common_steps)

    pub stream-none : None ≡ lookup (test s) hub.sessions → stream_of h s ≡ None
    stream-none e = let none = e ∙ at_hand_there in grind (arith, common_steps)

    -- the list of sessions after a change of one
    pub set_is : (t : SessionState) (st : SessionStream) → t ≡ st.now → set_value (test s) hub.sessions t ≡ at_hand (set_value (test s) h.present st)
    set_is t st now =
        ap (λ es. set_value (test s) es t) stands.sessions ∙ ap (λ x. set_value (test s) (at_hand h.present) x) now ∙ set-at_hand s st h.present

-- ---- one event

-- the hub stands for the state to which an event led, and the outcome is the event's
pub record IsAfter {D : Type 0} {g : Ghosts D} (new : Hub D g) (outcome : Outcome) (r : HubState × Outcome) : Type 0 where
  pub engine : EngineStandsFor new.engine r.0.machine
  pub sessions : new.sessions ≡ at_hand r.0.present
  pub latest : new.latest ≡ r.0.latest
  pub outcome_is : outcome ≡ r.1

module _ {D : Type 0} {g : Ghosts D} (old new : Hub D g) (e : HubEvent) (outcome : Outcome) (head : Head) where
  -- memory was refused as the outcome says, and the device failed as its count says
  abbrev pub made : Choice
  made = chosen head outcome (has_failed old.engine new.engine)

  pub leads : ((h : HubState) → StandsFor old h → IsPossible h e made × IsAfter new outcome (hub_step h e made)) → HubLeads old new e outcome
  leads f = (made, refl, refl, λ h stands. (let x = f h stands in let reached = Continued h e made x.0 stands.reached in grind (arith, common_steps)))

pub serves : {D : Type 0} {g : Ghosts D} (old new : Hub D g) (s : ℕ) (before after : SessionState) (outcome : Outcome)
    → Some before ≡ lookup (test s) old.sessions → new.sessions ≡ set_value (test s) old.sessions after → new.latest ≡ old.latest
    → ServesSession old.engine new.engine s before after outcome → HubLeads old new (Serves s) outcome
unfolding hub_step
serves old new s before after outcome found sessions latest x = leads old new (Serves s) outcome x.0 (λ h stands. (
    let f = stream-some old h stands s before found in
    let E : SessionState → Type 0 = λ n. HasEffect old.engine new.engine s (made old new (Serves s) outcome x.0) h.machine n after outcome in
    let effect = subst E (sym f.now) (x.1 h.machine stands.engine) in (
      rw f.is effect.possible,
      rw f.is (record {
        engine = effect.engine;
        sessions = sessions ∙ set_is old h stands s after _ effect.session;
        latest = latest ∙ stands.latest;
        outcome_is = effect.outcome_is;
      }),
    )))

-- a session that is present leaves, and its transaction is aborted
pub goes : {D : Type 0} {g : Ghosts D} (old new : Hub D g) (s : ℕ) (n : SessionState) → Some n ≡ lookup (test s) old.sessions
    → new.sessions ≡ remove_entry (test s) old.sessions → new.latest ≡ old.latest → Aborts old.engine new.engine s → HubLeads old new (Leaves s) OfDone
unfolding hub_step
goes old new s n found sessions latest left = leads old new (Leaves s) OfDone More (λ h stands. (
    let f = stream-some old h stands s n found in (
      tt,
      rw f.is (record {
        engine = left h.machine stands.engine;
        sessions = sessions ∙ ap (remove_entry (test s)) stands.sessions ∙ remove-at_hand s h.present;
        latest = latest ∙ stands.latest;
        outcome_is = refl;
      }),
    )))
