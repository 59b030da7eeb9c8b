-- A drive adds one record to the log at most.
use denote.Struct.Props.{props}
use Rattle.std.proofs.Common.{◌≡◌, ◌≢◌, ◌⊎◌, ◌↔◌, inl, inr, ℕ, zero, suc, ◌+◌, ◌≤◌, Bool, true, false, List, [], ◌∷◌}
use Rattle.std.proofs.Common.{◌++◌, length, length-append, take, get_or, Option, None, Some, refl, sym, ap, subst}
use Rattle.std.proofs.Common.{◌∙◌, arith}
use Rattle.std.proofs.Math.Bool.{Bool-set}
use Rattle.std.proofs.Math.Logic.{∥∥₁_elim}
use Rattle.std.proofs.Math.Nat.{ℕ_set}
use Rattle.std.proofs.lemmas.Bool.{both_ways, cases_eq, cases_lt}
use Rattle.std.proofs.lemmas.Grind.{common_steps}
use Rattle.std.proofs.lemmas.List.{length-take-le, nil_from_length}
use Rattle.engine.specs.Meaning.{IsReadOnly}
use Rattle.sessions.proofs.EventSteps.{pending_seen}
use Rattle.sessions.proofs.Reached.{reached}
use Rattle.sessions.proofs.Records.{written_seen}
use Rattle.sessions.specs.Laws.{HasRun, NoneRuns, Ran}
use Rattle.sessions.specs.SessionStreams.{HubState, HubEvent, Receives, Serves, Sends, Leaves, Choice, hub_step}
use Rattle.sessions.specs.StandsFor.{HubLeads, CountsRecords, has_written, pending_of, records_of}
use Rattle.sessions.specs.declared.events.Outcome.{Outcome}
use Rattle.sessions.specs.declared.events.Outcome.TheVariants.{Done, Memory}
use Rattle.stream_driver.proofs.States.{Follow, seen_after}
use Rattle.stream_driver.specs.Appends.{AddsNone, AddsOne, AppendsOnce, EndsAs, EndsByAppending, EndsByLooking}
use Rattle.stream_driver.specs.Appends.{IsReplied, KeepsShare, LooksOnTheWay, ServesInShare, ServesOnce, Spends}
use Rattle.stream_driver.specs.Appends.{AppendsAtMost, Spent, SpendsShare, pages_between, ready_count, ready_in}
use Rattle.stream_driver.specs.Appends.{count_if_ready, share_end}
use Rattle.stream_driver.specs.Calls.{WritesOut, WritesSome}
use Rattle.stream_driver.specs.Entries.{all_but}
use Rattle.stream_driver.specs.Sends.{LeadsAnswering}
use Rattle.stream_driver.specs.Sessions.{Ghosts, Hub, RunLeads, Stands, pending_at, session_of}
use Rattle.stream_driver.specs.Traffic.{EndsFor, ReceivesBytes, Share, TakesOf, Traffic, SendsBytes}
use Rattle.stream_driver.specs.Traffic.{WritesWithin, bytes_written}
use Rattle.stream_driver.specs.Types.{Appended, Looked, Empty, Exchange, WriteAnswer, Wrote, WriteBlocked}
use Rattle.stream_driver.specs.Types.{WriteFailed, Entry, EntryState, Ready, ShareEnd}
use Rattle.stream_driver.specs.declared.driving.TheConstants.{LOOKED_MAX}

-- ---- one event

-- two tests that are false of the same
same_test : {P : Type 0} (a b : Bool) → (a ≡ false) ↔ P → (b ≡ false) ↔ P → a ≡ b
same_test true true f g = refl
same_test false false f g = refl
same_test true false f g = f.1 (g.0 refl)
same_test false true f g = sym (g.1 (f.0 refl))

-- the machine stays
stays_sends : (h : HubState) (s n : ℕ) (c : Choice) → (hub_step h (Sends s n) c).0.machine ≡ h.machine
unfolding hub_step
stays_sends h s n c = grind (arith, common_steps)

stays_receives : (h : HubState) (s : ℕ) (piece : List ℕ) (c : Choice) → (hub_step h (Receives s piece) c).0.machine ≡ h.machine
unfolding hub_step
stays_receives h s piece c = grind (arith, common_steps)

stays_idle : (h : HubState) (s : ℕ) (c : Choice) → (hub_step h (Serves s) c).1 ≢ Done → (hub_step h (Serves s) c).1 ≢ Memory
    → (hub_step h (Serves s) c).0.machine ≡ h.machine
unfolding hub_step
stays_idle h s c not_done not_memory = grind (arith, common_steps)

same_session : (s x : ℕ) → Serves s ≡ Serves x → x ≡ s
same_session s x is = sym (ap session_of is)

module _ {D : Type 0} {g : Ghosts D} {old new : Hub D g} where
  written_same : {e : HubEvent} {outcome : Outcome} (s : ℕ) → Stands old → (leads : HubLeads old new e outcome)
      → ((h : HubState) → outcome ≡ (hub_step h e leads.0).1 → (hub_step h e leads.0).0.machine ≡ h.machine)
      → has_written new s ≡ has_written old s
  written_same {e} {outcome} s some leads stays = ∥∥₁_elim some (hlevel Bool-set) (λ w.
      let there = reached old new e outcome leads w.0 w.1 in
      let after = written_seen new (hub_step w.0 e leads.0).0 there.stands s in
      same_test _ _ (subst (λ m. (has_written new s ≡ false) ↔ IsReadOnly m s) (stays w.0 there.outcome_is) after) (written_seen old w.0 w.1 s))

  records_same : {e : HubEvent} → Stands old → CountsRecords old new e → ((x : ℕ) → e ≢ Serves x) → records_of new ≡ records_of old
  records_same {e} some counts other =
      ∥∥₁_elim some (hlevel ℕ_set) (λ w. elim (counts w.0 w.1) [ inl same ↦ same | inr adds ↦ absurd (other adds.session adds.serves) ])

  pub sends_none : {s n : ℕ} {outcome : Outcome} → Stands old → HubLeads old new (Sends s n) outcome → CountsRecords old new (Sends s n) → AddsNone s old new
  sends_none {s} {n} some leads counts = record {
    records = records_same some counts (λ x is. cc);
    wrote = written_same s some leads (λ h is. stays_sends h s n leads.0);
  }

  pub receives_none : {s : ℕ} {piece : List ℕ} {outcome : Outcome} → Stands old → HubLeads old new (Receives s piece) outcome
      → CountsRecords old new (Receives s piece) → AddsNone s old new
  receives_none {s} {piece} some leads counts = record {
    records = records_same some counts (λ x is. cc);
    wrote = written_same s some leads (λ h is. stays_receives h s piece leads.0);
  }

  pub leaves_none : {s : ℕ} → Stands old → CountsRecords old new (Leaves s) → records_of new ≡ records_of old
  leaves_none some counts = records_same some counts (λ x is. cc)

  pub serves_none : {s : ℕ} {outcome : Outcome} → Stands old → HubLeads old new (Serves s) outcome → CountsRecords old new (Serves s) → outcome ≢ Done
      → outcome ≢ Memory → AddsNone s old new
  serves_none {s} {outcome} some leads counts not_done not_memory =
      let wrote = written_same s some leads (λ h is. stays_idle h s leads.0 (λ e. not_done (is ∙ e)) (λ e. not_memory (is ∙ e))) in
      record {
        records = ∥∥₁_elim some (hlevel ℕ_set) (λ w. elim (counts w.0 w.1) [
          | inl same ↦ same
          | inr adds ↦
              let is = same_session s adds.session adds.serves in
              absurd (both_ways (has_written old s) (sym wrote ∙ subst (λ x. has_written new x ≡ false) is adds.ended)
              (subst (λ x. has_written old x ≡ true) is adds.wrote))
        ]);
        wrote = wrote;
      }

  pub serves_one : {s : ℕ} → Stands old → CountsRecords old new (Serves s) → AddsOne s old new
  serves_one {s} some counts = record {
    none = λ none. ∥∥₁_elim some (hlevel ℕ_set) (λ w. elim (counts w.0 w.1) [
      | inl same ↦ same
      | inr adds ↦ absurd (both_ways (has_written old s) none
          (subst (λ x. has_written old x ≡ true) (same_session s adds.session adds.serves) adds.wrote))
    ]);
    one = λ differs. ∥∥₁_elim some (hlevel ℕ_set) (λ w. elim (counts w.0 w.1) [ inl same ↦ absurd (differs same) | inr adds ↦ adds.one ]);
    ended = λ differs. ∥∥₁_elim some (hlevel Bool-set) (λ w. elim (counts w.0 w.1) [
      | inl same ↦ absurd (differs same)
      | inr adds ↦ subst (λ x. has_written new x ≡ false) (same_session s adds.session adds.serves) adds.ended
    ]);
  }

-- a reply is pending
pub replied_now : {D : Type 0} {g : Ghosts D} {a b : Hub D g} {s : ℕ} {reports : Type 0} {t u : Traffic} → Stands a
    → LeadsAnswering s reports a t b u (λ h k. pending_at k.hub s ≢ []) → pending_of b s ≢ []
replied_now {D} {g} {a} {b} {s} some p =
    seen_after (hlevel) some p.leads (λ h k was is some_now none. some_now (sym (pending_seen b k.hub is s) ∙ none))

-- nothing is pending once the output was written
pub pending_none : {D : Type 0} {g : Ghosts D} {a b : Hub D g} {s : ℕ} {reports : Type 0} {t u : Traffic} → Stands a
    → LeadsAnswering s reports a t b u (λ h k. WritesOut s reports h t Empty k u) → pending_of b s ≡ []
pending_none {D} {g} {a} {b} {s} some p = seen_after (hlevel props) some p.leads (λ h k was is q. pending_seen b k.hub is s ∙ q.why.1)

pub none_none : {D : Type 0} {g : Ghosts D} (s : ℕ) (hub : Hub D g) → AddsNone s hub hub
none_none s hub = record { records = refl; wrote = refl }

-- ---- the share's end

-- a request adds no record and looks at few pages, or adds one, or looks at many
pub why_ends : {D : Type 0} {g : Ghosts D} (old new : Hub D g)
    → ((records_of new ≡ records_of old) × (share_end old new ≡ None))
    ⊎ (((records_of new ≢ records_of old) × (share_end old new ≡ Some Appended))
    ⊎ ((records_of new ≡ records_of old) × (LOOKED_MAX ≤ pages_between old new) × (share_end old new ≡ Some Looked)))
why_ends old new = elim (cases_eq (records_of new) (records_of old)) [
  | inl same ↦ elim (cases_lt (pages_between old new) LOOKED_MAX) [
    | inl few ↦ inl (same, grind (arith, common_steps))
    | inr many ↦ inr (inr (same, many, grind (arith, common_steps)))
  ]
  | inr differs ↦ inr (inl (differs, grind (arith, common_steps)))
]

-- no event is a run of the hub to which a run leads
still_runs : {D : Type 0} {g : Ghosts D} (old new : Hub D g) (events : List (HubEvent × Choice)) → Ran old new events → NoneRuns new
still_runs old new [] ran = (ran.1, ran.1, record { stands = λ h stands. stands; device_is = refl; stopped_is = refl })
still_runs old new (e ∷ es) ran = still_runs ran.1 new es ran.3

-- one run after another
pub runs_then : {D : Type 0} {g : Ghosts D} {a b c : Hub D g} → Follow D g → HasRun a b → HasRun b c → HasRun a c
runs_then {a} {b} {c} follow p q = (p.0 ++ q.0, follow a b c p.0 q.0 p.1 q.1)

looks_here : {D : Type 0} {g : Ghosts D} {start hub new : Hub D g} → HasRun start hub → HasRun hub new → LOOKED_MAX ≤ pages_between hub new
    → LooksOnTheWay start new
looks_here {hub = hub} {new = new} came ran many = record {
  before = hub;
  after = new;
  came = came;
  looks = ran;
  goes_on = ([], still_runs hub new ran.0 ran.1);
  many = many;
}

module _ {D : Type 0} {g : Ghosts D} {T : Type 0} {share : T → Share} {start hub new : Hub D g} {stream after : T} (same : records_of new ≡ records_of hub)
    (ended : (share after).ended ≡ true) (appended : (share after).appended ≡ (share stream).appended) where
  looking_then : {was : T} → Follow D g → HasRun hub new → EndsByLooking share start was hub stream → EndsByLooking share start was new after
  looking_then follow ran p = record {
    records = same ∙ p.records;
    looked = record {
      before = p.looked.before;
      after = p.looked.after;
      came = p.looked.came;
      looks = p.looked.looks;
      goes_on = runs_then follow p.looked.goes_on ran;
      many = p.looked.many;
    };
    ended = ended;
    appended = appended ∙ p.appended;
  }

  appending_then : EndsByAppending share start hub stream → EndsByAppending share start new after
  appending_then p = record { records = same ∙ p.records; ended = ended; appended = appended ∙ p.appended }

module _ {D : Type 0} {g : Ghosts D} {T : Type 0} (reports : Type 0) (traffic : T → Traffic) (share : T → Share) (s : ℕ) (start : Hub D g) (was : T) where
  -- since a drive began at this hub and with a stream that stood so, a request has ended the share, and the session's transaction, if it added a record
  abbrev pub HasEnded : Hub D g → T → Type 0
  HasEnded hub stream = EndsByLooking share start was hub stream ⊎ (EndsByAppending share start hub stream × (has_written hub s ≡ false))

  -- None has. Or one has, and no more is left of the share than the reply to that; or nothing is left of it, and the reply to the next one is pending.
  pub data SoFar (hub : Hub D g) (stream : T) : Type 0 where
    NotEnded : records_of hub ≡ records_of start → Spent reports traffic share was stream → SoFar hub stream
    Ended : HasEnded hub stream → (share stream).left ≤ length (pending_of hub s) → SoFar hub stream
    TakesNone : EndsByLooking share start was hub stream ⊎ EndsByAppending share start hub stream → pending_of hub s ≢ [] → (share stream).left ≤ 0
        → SoFar hub stream

  -- nothing is pending: none has, or one has, and nothing is left of the share
  abbrev pub IsOut : Hub D g → T → Type 0
  IsOut hub stream =
      ((records_of hub ≡ records_of start) × Spent reports traffic share was stream) ⊎ (HasEnded hub stream × ((share stream).left ≤ 0))

  -- a request was served since
  abbrev pub HasServed : Hub D g → T → Type 0
  HasServed hub stream =
      ((records_of hub ≡ records_of start) × Spent reports traffic share was stream)
      ⊎ ((HasEnded hub stream × ((share stream).left ≤ length (pending_of hub s)))
      ⊎ ((EndsByLooking share start was hub stream ⊎ EndsByAppending share start hub stream) × ((share stream).left ≤ 0)))

pub once_then : {D : Type 0} {g : Ghosts D} {T : Type 0} {reports : Type 0} {traffic : T → Traffic} {share : T → Share} {start now later : Hub D g} {was is : T}
    → Follow D g → HasRun now later → records_of later ≡ records_of now → AppendsOnce reports traffic share start was now is
    → AppendsOnce reports traffic share start was later is
once_then follow ran same (inl x) = inl (same ∙ x.0, x.1)
once_then follow ran same (inr (inl x)) = inr (inl (looking_then same x.ended refl follow ran x))
once_then follow ran same (inr (inr x)) = inr (inr (appending_then same x.ended refl x))

none_then : {D : Type 0} {g : Ghosts D} {s : ℕ} {a b c : Hub D g} → AddsNone s a b → AddsNone s b c → AddsNone s a c
none_then p q = record { records = q.records ∙ p.records; wrote = q.wrote ∙ p.wrote }

-- ---- calls of the stream, one after another

written_within : (answer : WriteAnswer) (from : List ℕ) → WritesWithin answer (length from) → bytes_written answer ≤ length from
written_within (Wrote n) from within = within.1
written_within WriteBlocked from within = omega arith
written_within WriteFailed from within = omega arith

pub none_written : (answer : WriteAnswer) → ((n : ℕ) → answer ≢ Wrote n) → bytes_written answer ≡ 0
none_written (Wrote n) differs = absurd (differs n refl)
none_written _ differs = refl

-- of what is left of a share some bytes are taken, and then others
module _ {T : Type 0} {reports : Type 0} {traffic : T → Traffic} {share : T → Share} where
  pub spends_zero : (t : T) → Spends reports traffic share t 0 t
  spends_zero t = record { takes = record { left = omega arith; stays = refl; appended = refl }; sent = λ r. omega arith }

  spends_both : {t u v : T} {a b c : ℕ} → a + b ≡ c → Spends reports traffic share t a u → Spends reports traffic share u b v
      → Spends reports traffic share t c v
  spends_both all p q = record {
    takes = record {
      left = omega (arith, all, p.takes.left, q.takes.left);
      stays = q.takes.stays ∙ p.takes.stays;
      appended = q.takes.appended ∙ p.takes.appended;
    };
    sent = λ r. omega (arith, all, p.sent r, q.sent r);
  }

  spent_then : {t u v : T} {bytes : ℕ} → Spent reports traffic share t u → Spends reports traffic share u bytes v → Spent reports traffic share t v
  spent_then {bytes = bytes} p q = (p.0 + bytes, spends_both refl p.1 q)

-- what a read and a write did to it
pub spends_read : {T : Type 0} {reports : Type 0} {traffic : T → Traffic} {share : T → Share} {moment : ℕ} {t u : T} {bytes : List ℕ}
    → (reports → ReceivesBytes moment (traffic t) bytes (traffic u)) → TakesOf (share t) 0 (share u) → Spends reports traffic share t 0 u
spends_read {traffic = traffic} {t = t} moved takes = record { takes = takes; sent = λ r. omega (arith, ap length (moved r).sent) }

pub spends_write : {T : Type 0} {reports : Type 0} {traffic : T → Traffic} {share : T → Share} {moment : ℕ} {t u : T} (answer : WriteAnswer) (from : List ℕ)
    → WritesWithin answer (length from) → (reports → SendsBytes moment (traffic t) (take (bytes_written answer) from) (traffic u))
    → TakesOf (share t) (bytes_written answer) (share u) → Spends reports traffic share t (bytes_written answer) u
spends_write {traffic = traffic} {t = t} answer from within moved takes = record {
  takes = takes;
  sent = λ r. omega (
    arith,
    ap length (moved r).sent,
    length-append (traffic t).sent (take (bytes_written answer) from),
    length-take-le (bytes_written answer) from (written_within answer from within),
  );
}

module _ {D : Type 0} {g : Ghosts D} {T : Type 0} {keeps reports : Type 0} {traffic : T → Traffic} {share : T → Share} {s : ℕ} where
  pub spends_none : (hub : Hub D g) (t : T) → SpendsShare keeps reports traffic share s hub t hub t
  spends_none hub t = record {
    sent = 0;
    pending = omega arith;
    spends = λ k. spends_zero t;
    adds = none_none s hub;
  }

  pub keeps_none : (hub : Hub D g) (t : T) → KeepsShare keeps reports traffic share s hub t hub t
  keeps_none hub t = record { spends = λ k. spends_zero t; adds = none_none s hub }

  pub spends_then : {a b c : Hub D g} {t u v : T} → SpendsShare keeps reports traffic share s a t b u → SpendsShare keeps reports traffic share s b u c v
      → SpendsShare keeps reports traffic share s a t c v
  spends_then p q = record {
    sent = p.sent + q.sent;
    pending = omega (arith, p.pending, q.pending);
    spends = λ k. spends_both refl (p.spends k) (q.spends k);
    adds = none_then p.adds q.adds;
  }

  -- what was asked for was only the beginning of a request, and the stream was read
  pub keeps_idle : {a b c d : Hub D g} {t u v : T} → KeepsShare keeps reports traffic share s a t b u → AddsNone s b c
      → KeepsShare keeps reports traffic share s c u d v → KeepsShare keeps reports traffic share s a t d v
  keeps_idle p idle q =
      record { spends = λ k. spends_both refl (p.spends k) (q.spends k); adds = none_then (none_then p.adds idle) q.adds }

  -- and then a request was served
  pub serves_then : {a b c : Hub D g} {t u : T} {answer : Exchange} → KeepsShare keeps reports traffic share s a t b u → AddsOne s b c
      → IsReplied answer (pending_of c s) → ServesOnce keeps reports traffic share s a t answer c u
  serves_then p q replied = record {
    spends = p.spends;
    adds = record {
      none = λ none. q.none (p.adds.wrote ∙ none) ∙ p.adds.records;
      one = λ differs. q.one (λ same. differs (same ∙ p.adds.records)) ∙ ap (λ x. x + 1) p.adds.records;
      ended = λ differs. q.ended (λ same. differs (same ∙ p.adds.records));
    };
    replied = replied;
  }

  -- none was served
  pub serves_not : {a b : Hub D g} {t u : T} {answer : Exchange} → KeepsShare keeps reports traffic share s a t b u → IsReplied answer (pending_of b s)
      → ServesOnce keeps reports traffic share s a t answer b u
  serves_not p replied = record {
    spends = p.spends;
    adds = record { none = λ none. p.adds.records; one = λ differs. absurd (differs p.adds.records); ended = λ differs. absurd (differs p.adds.records) };
    replied = replied;
  }

  -- so many bytes were written of what was pending
  pub spends_some : {a b : Hub D g} {t u : T} {before after : Traffic} (n : ℕ) → Stands a
      → RunLeads a b (λ h k. WritesSome s reports h before (Wrote n) k after) → (keeps → Spends reports traffic share t n u) → AddsNone s a b
      → SpendsShare keeps reports traffic share s a t b u
  spends_some {a} {b} n some leads takes adds = record {
    sent = n;
    pending = seen_after (hlevel ℕ_set) some leads
        (λ h k was is p. omega (arith, p.why.1, ap length (pending_seen a h.hub was s), ap length (pending_seen b k.hub is s)));
    spends = takes;
    adds = adds;
  }

  pub spends_not : {a : Hub D g} {t u : T} (answer : WriteAnswer) → ((n : ℕ) → answer ≢ Wrote n)
      → (keeps → Spends reports traffic share t (bytes_written answer) u) → SpendsShare keeps reports traffic share s a t a u
  spends_not {a} answer differs takes =
      record { sent = bytes_written answer; pending = omega (arith, none_written answer differs); spends = takes; adds = none_none s a }

-- ---- the entries of a table, one after another

pub at_most_one : {D : Type 0} {g : Ghosts D} {T : Type 0} {reports : Type 0} {traffic : T → Traffic} {share : T → Share} {old new : Hub D g}
    {state : EntryState} {was is : T} → state ≡ Ready → AppendsOnce reports traffic share old was new is
    → AppendsAtMost (count_if_ready state) old new
at_most_one e (inl x) = rw e (record { kept = omega (arith, x.0); few = omega (arith, x.0) })
at_most_one e (inr (inl x)) = rw e (record { kept = omega (arith, x.records); few = omega (arith, x.records) })
at_most_one e (inr (inr x)) = rw e (record { kept = omega (arith, x.records); few = omega (arith, x.records) })

pub at_most_none : {D : Type 0} {g : Ghosts D} (hub : Hub D g) (count : ℕ) → AppendsAtMost count hub hub
at_most_none hub count = record { kept = omega arith; few = omega arith }

ready_more : {T : Type 0} (key : ℕ) (slots : List (Option (Entry T))) → ready_count (take (key + 1) slots)
    ≡ ready_count (take key slots) + ready_in (get_or slots key None)
ready_more key [] = grind (arith, common_steps)
ready_more zero (x ∷ xs) = grind (arith, common_steps)
ready_more (suc key) (x ∷ xs) =
    let next : suc key + 1 ≡ suc (key + 1) = omega arith in
    let others : ready_count (take (key + 1) xs) ≡ ready_count (take key xs) + ready_in (get_or xs key None) = ready_more key xs in
    rw next (omega (arith, others))

pub appends_more : {D : Type 0} {g : Ghosts D} {T : Type 0} {a b c : Hub D g} (key : ℕ) (slots : List (Option (Entry T))) (slot : Option (Entry T))
    → get_or slots key None ≡ slot → AppendsAtMost (ready_count (take key slots)) a b → AppendsAtMost (ready_in slot) b c
    → AppendsAtMost (ready_count (take (key + 1) slots)) a c
appends_more key slots slot is p q =
    let more = ready_more key slots ∙ ap (λ o. ready_count (take key slots) + ready_in o) is in
    record { kept = omega (arith, p.kept, q.kept); few = omega (arith, more, p.few, q.few) }

-- those that aren't last, and the last
ready_all : {T : Type 0} (last : ℕ) (slots : List (Option (Entry T))) → ready_count (all_but last slots) + ready_in (get_or slots last None)
    ≡ ready_count slots
ready_all last [] = grind (arith, common_steps)
ready_all zero (x ∷ xs) = grind (arith, common_steps)
ready_all (suc last) (x ∷ xs) =
    let others : ready_count (all_but last xs) + ready_in (get_or xs last None) ≡ ready_count xs = ready_all last xs in
    omega (arith, others)

pub appends_last : {D : Type 0} {g : Ghosts D} {T : Type 0} {a b c : Hub D g} (last : ℕ) (slots : List (Option (Entry T))) (slot : Option (Entry T))
    → get_or slots last None ≡ slot → AppendsAtMost (ready_count (all_but last slots)) a b → AppendsAtMost (ready_in slot) b c
    → AppendsAtMost (ready_count slots) a c
appends_last last slots slot is p q =
    let all = ap (λ o. ready_count (all_but last slots) + ready_in o) (sym is) ∙ ready_all last slots in
    record { kept = omega (arith, p.kept, q.kept); few = omega (arith, all, p.few, q.few) }

-- ---- between two requests

ends_as : {D : Type 0} {g : Ghosts D} {T : Type 0} {keeps reports : Type 0} {traffic : T → Traffic} {share : T → Share} {s : ℕ} {hub new : Hub D g}
    {stream after : T} {answer : Exchange} {end : Option ShareEnd} → keeps → ServesInShare keeps reports traffic share s hub stream answer new after
    → share_end hub new ≡ end → EndsAs end (length (pending_of new s)) (share stream) (share after)
ends_as {share = share} {s = s} {new = new} {stream = stream} {after = after} k q e =
    subst (λ end. EndsAs end (length (pending_of new s)) (share stream) (share after)) e (q.ends k)

module _ {D : Type 0} {g : Ghosts D} {T : Type 0} {keeps reports : Type 0} {traffic : T → Traffic} {share : T → Share} {s : ℕ} {start : Hub D g} {was : T}
    {hub new : Hub D g} {stream after : T} (follow : Follow D g) (k : keeps) (ran : HasRun hub new) where
  module _ (q : SpendsShare keeps reports traffic share s hub stream new after) where
    once_ended : EndsByLooking share start was hub stream ⊎ EndsByAppending share start hub stream
        → EndsByLooking share start was new after ⊎ EndsByAppending share start new after
    once_ended (inl x) = let takes = (q.spends k).takes in inl (looking_then q.adds.records (takes.stays ∙ x.ended) takes.appended follow ran x)
    once_ended (inr x) = let takes = (q.spends k).takes in inr (appending_then q.adds.records (takes.stays ∙ x.ended) takes.appended x)

    pub spent : SoFar reports traffic share s start was hub stream → AppendsOnce reports traffic share start was new after
    spent (NotEnded same so_far) = inl (q.adds.records ∙ same, spent_then so_far (q.spends k))
    spent (Ended (inl x) few) = inr (once_ended (inl x))
    spent (Ended (inr x) few) = inr (once_ended (inr x.0))
    spent (TakesNone x some none) = inr (once_ended x)

    -- all that was pending was written
    pub out : SoFar reports traffic share s start was hub stream → pending_of new s ≡ [] → IsOut reports traffic share s start was new after
    out (NotEnded same so_far) none = inl (q.adds.records ∙ same, spent_then so_far (q.spends k))
    out (Ended x few) none =
        let takes = (q.spends k).takes in
        let left : (share after).left ≤ 0 = omega (arith, few, takes.left, q.pending, ap length none) in
        inr (
          elim x [
            | inl looked ↦ inl (looking_then q.adds.records (takes.stays ∙ looked.ended) takes.appended follow ran looked)
            | inr added ↦ inr (appending_then q.adds.records (takes.stays ∙ added.0.ended) takes.appended added.0, q.adds.wrote ∙ added.1)
          ],
          left,
        )
    out (TakesNone x some left) none =
        absurd (some (nil_from_length (pending_of hub s) (omega (arith, q.pending, ap length none, left, (q.spends k).takes.left))))

  -- a request was looked for, and the share was ended, if that added a record or looked at many pages
  module _ {answer : Exchange} (came : HasRun start hub) (q : ServesInShare keeps reports traffic share s hub stream answer new after) where
    pub serves : IsOut reports traffic share s start was hub stream → HasServed reports traffic share s start was new after
    serves (inl x) = elim (why_ends hub new) [
      | inl none ↦
          let takes : TakesOf (share stream) 0 (share after) = ends_as k q none.1 in
          inl (none.0 ∙ x.0, spent_then {bytes = 0} x.1 (record { takes = takes; sent = λ r. omega (arith, q.sent k r) }))
      | inr (inl adds) ↦
          let ends : EndsFor Appended (length (pending_of new s)) (share stream) (share after) = ends_as k q adds.1 in
          inr (inl (
            inr (
              record {
                records = q.adds.one adds.0 ∙ ap (λ n. n + 1) x.0;
                ended = ends.ended;
                appended = ends.appended;
              },
              q.adds.ended adds.0,
            ),
            omega (arith, ends.left),
          ))
      | inr (inr looks) ↦
          let ends : EndsFor Looked (length (pending_of new s)) (share stream) (share after) = ends_as k q looks.2 in
          inr (inl (
            inl (record {
              records = looks.0 ∙ x.0;
              looked = looks_here came ran looks.1;
              ended = ends.ended;
              appended = ends.appended ∙ x.1.1.takes.appended;
            }),
            omega (arith, ends.left),
          ))
    ]
    serves (inr (inl x, left)) = inr (inr (elim (why_ends hub new) [
      | inl none ↦
          let takes : TakesOf (share stream) 0 (share after) = ends_as k q none.1 in
          (inl (looking_then none.0 (takes.stays ∙ x.ended) takes.appended follow ran x), omega (arith, left, takes.left))
      | inr (inl adds) ↦
          let ends : EndsFor Appended (length (pending_of new s)) (share stream) (share after) = ends_as k q adds.1 in (
            inr (record {
              records = q.adds.one adds.0 ∙ ap (λ n. n + 1) x.records;
              ended = ends.ended;
              appended = ends.appended;
            }),
            omega (arith, left, ends.left),
          )
      | inr (inr looks) ↦
          let ends : EndsFor Looked (length (pending_of new s)) (share stream) (share after) = ends_as k q looks.2 in
          (inl (looking_then looks.0 ends.ended ends.appended follow ran x), omega (arith, left, ends.left))
    ]))
    serves (inr (inr x, left)) = inr (inr (elim (why_ends hub new) [
      | inl none ↦
          let takes : TakesOf (share stream) 0 (share after) = ends_as k q none.1 in
          (inr (appending_then none.0 (takes.stays ∙ x.0.ended) takes.appended x.0), omega (arith, left, takes.left))
      | inr (inl adds) ↦ absurd (adds.0 (q.adds.none x.1))
      | inr (inr looks) ↦
          let ends : EndsFor Looked (length (pending_of new s)) (share stream) (share after) = ends_as k q looks.2 in
          (inr (appending_then looks.0 ends.ended ends.appended x.0), omega (arith, left, ends.left))
    ]))

-- what holds once a request was served
module _ {D : Type 0} {g : Ghosts D} {T : Type 0} {reports : Type 0} {traffic : T → Traffic} {share : T → Share} (s : ℕ) {start new : Hub D g} {was after : T}
  where
    pub so_far : pending_of new s ≢ [] → HasServed reports traffic share s start was new after → SoFar reports traffic share s start was new after
    so_far some (inl x) = NotEnded x.0 x.1
    so_far some (inr (inl x)) = Ended x.0 x.1
    so_far some (inr (inr x)) = TakesNone x.0 some x.1

    pub served_once : HasServed reports traffic share s start was new after → AppendsOnce reports traffic share start was new after
    served_once (inl x) = inl x
    served_once (inr (inl (inl looked, few))) = inr (inl looked)
    served_once (inr (inl (inr added, few))) = inr (inr added.0)
    served_once (inr (inr x)) = inr x.0
