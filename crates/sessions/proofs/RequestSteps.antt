-- How a request's parts make one step of the machine, and the parts of a Serve its effect.
use Rattle.std.proofs.Common.{◌≡◌, ◌≢◌, ℕ, Bool, true, false, not, List, [], ◌∷◌, Option, Some, None, Result}
use Rattle.std.proofs.Common.{Ok, Err, OnOk, OnErr, IsTrue, refl, sym, ap, subst, ◌∙◌, nat_cmp, arith, length, drop}
use Rattle.std.proofs.Common.{if◌then◌else◌, inl, inr, ◌==◌}
use Rattle.std.proofs.lemmas.Grind.{common_steps}
use Rattle.std.specs.FinMap.Entries.{put, where_key}
use Rattle.model.proofs.Leading.{stepped}
use Rattle.model.specs.Grammar.{IsProperBeginning, array_of_bulks}
use Rattle.model.specs.Machine.{State, step, leave}
use Rattle.model.specs.Map.{Bytes}
use Rattle.model.specs.Operations.{Operation, Response, Commit, Done, Refused as Refusing}
use Rattle.model.specs.ReplyText.{reply_text}
use Rattle.model.specs.declared.refusals.Memory.{Memory}
use Rattle.sector.specs.SectorModel.{LeavesOnly}
use Rattle.sector.specs.declared.device.Sectors.{Ghosts}
use Rattle.commit_log.specs.declared.log.Log.{Log}
use Rattle.snapshot.specs.Made.{is_refused}
use Rattle.engine.proofs.Calls.{stands_still}
use Rattle.engine.specs.Changes.{UsesLogOnce}
use Rattle.engine.specs.Meaning.{StandsFor, Leads, IsNotRefused, device_of, failures_of, has_risen, response_to}
use Rattle.engine.specs.Meaning.{response_to_read, IsLeftByCommit, StandsForSame}
use Rattle.engine.specs.declared.engine.Engine.{Engine}
use Rattle.engine.specs.declared.faults.EngineFault.{EngineFault}
use Rattle.engine.specs.declared.faults.EngineFault.TheVariants.{Refused as RefusedFor, Memory as OutOfMemory}
use Rattle.engine.specs.declared.faults.ReadFault.{ReadFault}
use Rattle.sessions.specs.Calls.{Writes, Executes, has_failed, refusal_to_read, LeavesSame, Aborts, HasEffect}
use Rattle.sessions.specs.Calls.{ServesSession}
use Rattle.sessions.specs.Crashes.{SurvivesCommit, SurvivesRequest, SurvivesHead}
use Rattle.sessions.specs.SessionStreams.{Open, Ending, Idle as OfIdle, Outcome, takes_memory, SessionState, Choice}
use Rattle.sessions.specs.SessionStreams.{IsChoiceFor, Whole, More, Bad, IsHead, asks, bad_frame, serve_head}
use Rattle.sessions.specs.SessionStreams.{may_serve, Refused, Done as OfDone, Memory as OfMemory}

-- ---- the machine

-- all but a commit make no call of the device
abbrev pub is_commit : Operation → Bool
is_commit Commit = true
is_commit other = false

pub step_flag : (m : State) (s : ℕ) (q : Operation) (b : Bool) → is_commit q ≡ false → step m s q b ≡ step m s q false
unfolding step
step_flag m s q b e = grind (arith, common_steps)

-- what is put there is among no others
others-put : {X : Type 0} (s : ℕ) (t : X) (es : List (ℕ × X))
    → where_key nat_cmp (λ x. not (x == s)) (put nat_cmp s t es) ≡ where_key nat_cmp (λ x. not (x == s)) es
others-put s t [] = grind (arith, common_steps)
others-put s t (e ∷ es) = grind (arith, common_steps, others-put s t es)

-- an own request, and then the session leaves
leave-own : (m : State) (s : ℕ) (q : Operation) → is_commit q ≡ false → IsTrue (takes_memory q) → leave (step m s q false).0 s ≡ leave m s
unfolding step
leave-own m s q no_commit takes = grind (arith, common_steps, others-put)

-- ---- the log

module _ {D : Type 0} {g : Ghosts D} (old : Log D g) where
  -- where the log is as it was, nothing was asked of its device
  pub uses_none : (new : Log D g) → new ≡ old → UsesLogOnce old new
  uses_none new same = subst (λ (l : Log D g). UsesLogOnce old l) (sym same) (record {
    still = λ _. refl;
    failures = omega arith;
    records = record { kept = omega arith; one = omega arith; same = λ _. refl; syncs = omega arith; quiet = λ _ _. refl };
  })

  -- nor was more asked of it, where it is as a part of the request left it
  pub uses_before : (mid new : Log D g) → new ≡ mid → UsesLogOnce old mid → UsesLogOnce old new
  uses_before mid new same asks = subst (λ (l : Log D g). UsesLogOnce old l) (sym same) asks

-- ---- the parts of a request

module _ {D : Type 0} {g : Ghosts D} (old new : Engine D g) (s : ℕ) (q : Operation) (b : Bool) where
  -- a call that takes no memory, and then its response written
  pub executes_always : (response : Response) (after : Bytes) (r : Result (Unit {0}) Memory) → Leads old new s q b (Some response)
      → Writes (Some response) after r → Executes old new s q b after r
  executes_always response after (Ok done) leads said = λ m h. let n = leads m h in let x =
      stepped StandsFor new n.0 response (step m s q b) n.1 n.2 in (x.0, said ∙ ap reply_text (sym x.1))
  executes_always response after (Err refused) leads said = absurd said

  -- the same of one that may be refused memory
  pub executes_from : (response : Option Response) (after : Bytes) (r : Result (Unit {0}) Memory) → IsTrue (takes_memory q) → Leads old new s q b response
      → Writes response after r → Executes old new s q b after r
  executes_from (Some response) after r takes leads said = executes_always response after r leads said
  executes_from None after (Ok done) takes leads said = absurd said
  executes_from None after (Err refused) takes leads said = (takes, λ m h. (m, stands_still old new leads.0 m h, refl), said, leads.1)

  -- the same with the flag that such a request doesn't see
  pub executes_flag : (after : Bytes) (r : Result (Unit {0}) Memory) → is_commit q ≡ false → Executes old new s q false after r → Executes old new s q b after r
  executes_flag after (Ok done) e x = λ m h. rw (step_flag m s q b e) (x m h)
  executes_flag after (Err refused) e x = x

-- a call that takes no memory and a reclamation after it, and then its response written
executes_kept : {D : Type 0} {g : Ghosts D} (old mid new : Engine D g) (s : ℕ) (q : Operation) (b : Bool) (response : Response) (after : Bytes)
    (r : Result (Unit {0}) Memory) → Leads old mid s q b (Some response)
    → ((m : State) → StandsFor mid m → StandsFor new m) → Writes (Some response) after r → Executes old new s q b after r
executes_kept old mid new s q b response after r leads keeps said =
    executes_always old new s q b response after r (λ m h. let n = leads m h in (n.0, keeps n.0 n.1, n.2)) said

-- the same of a COMMIT
pub executes_commit : {D : Type 0} {g : Ghosts D} (old mid new : Engine D g) (s : ℕ) (response : Response) (after : Bytes) (r : Result (Unit {0}) Memory)
    → device_of new ≡ device_of mid
    → Leads old mid s Commit (has_failed old mid) (Some response) → ((m : State) → StandsFor mid m → StandsFor new m) → Writes (Some response) after r
    → Executes old new s Commit (has_failed old new) after r
executes_commit {D} {g} old mid new s response after r same leads keeps said =
    executes_kept old mid new s Commit (has_failed old new) response after r
    (subst (λ (d : D). Leads old mid s Commit (has_risen (failures_of old) (g.failures d)) (Some response)) (sym same) leads) keeps said

module _ {D : Type 0} {g : Ghosts D} (old new : Engine D g) (s : ℕ) (q : Operation) where
  -- a read whose response may be too long
  pub executes_read : (response : Response) (after : Bytes) (r : Result (Unit {0}) Memory) → is_commit q ≡ false → IsTrue (takes_memory q)
      → Leads old new s q false (Some response) → is_refused response ≡ false → OnOk r (after ≡ reply_text response) → OnErr r (after ≡ [])
      → Executes old new s q false after r
  executes_read response after (Ok done) no_commit takes leads plain ok err = executes_always old new s q false response after (Ok done) leads ok
  executes_read response after (Err refused) no_commit takes leads plain ok err = (
    takes,
    λ m h. let n = leads m h in (n.0, n.1, ap (λ r. leave r.0 s) (sym n.2) ∙ leave-own m s q no_commit takes),
    err,
    λ m h. ap (λ r. is_refused r.1) (leads m h).2 ∙ plain,
  )

-- to an engine that stands for the same states
pub leads_same : {D : Type 0} {g : Ghosts D} (old mid new : Engine D g) (s : ℕ) (q : Operation) (failed : Bool) (response : Response)
    → Leads old mid s q failed (Some response) → StandsForSame mid new → Leads old new s q failed (Some response)
leads_same old mid new s q failed response leads same m h = let n = leads m h in (n.0, stands_still mid new same n.0 n.1, n.2)

-- a read's refusal doesn't depend on what it reads
same_refusal : {T : Type 0} (f : T → Response) (fault : ReadFault) → response_to_read f (Err fault) ≡ refusal_to_read fault
same_refusal f fault = grind (arith, common_steps)

-- a read that was refused
pub executes_refused : {T D : Type 0} {g : Ghosts D} (old new : Engine D g) (s : ℕ) (q : Operation) (f : T
    → Response) (result : Result T ReadFault) (fault : ReadFault) (after : Bytes) (r : Result (Unit {0}) Memory)
    → IsTrue (takes_memory q) → result ≡ Err fault → Leads old new s q false (response_to_read f result) → Writes (refusal_to_read fault) after r
    → Executes old new s q false after r
executes_refused old new s q f result fault after r takes is leads said =
    executes_from old new s q false (refusal_to_read fault) after r takes
    (subst (λ o. Leads old new s q false o) (ap (response_to_read f) is ∙ same_refusal f fault) leads) said

-- a call that takes no memory, and a reclamation after it
pub executes_ended : {D : Type 0} {g : Ghosts D} (old mid new : Engine D g) (s : ℕ) (q : Operation) (answer : Result (Unit {0}) EngineFault) (after : Bytes)
    (r : Result (Unit {0}) Memory)
    → answer ≢ Err OutOfMemory → Leads old mid s q false (response_to (λ (u : Unit {0}). Done) answer) → ((m : State) → StandsFor mid m → StandsFor new m)
    → Writes (response_to (λ (u : Unit {0}). Done) answer) after r → Executes old new s q false after r
executes_ended old mid new s q (Ok done) after r answered leads keeps said = executes_kept old mid new s q false Done after r leads keeps said
executes_ended old mid new s q (Err (RefusedFor refusal)) after r answered leads keeps said =
    executes_kept old mid new s q false (Refusing refusal) after r leads keeps said
executes_ended old mid new s q (Err OutOfMemory) after r answered leads keeps said = absurd (answered refl)

-- ---- a Serve

pub aborts_left : {D : Type 0} {g : Ghosts D} (old mid new : Engine D g) (s : ℕ) → LeavesSame old mid s → Aborts mid new s → Aborts old new s
aborts_left old mid new s f a = λ m h. let x = f m h in let P : State → Type 0 = λ y. StandsFor new y in subst P x.2 (a x.0 x.1)

pub is_open_there : (n : SessionState) → may_serve n ≡ true → n.status ≡ Open
is_open_there n e = grind (arith, common_steps)

pub nothing_pending : (opened : Bool) (xs : Bytes) → (if opened then length xs == 0 else false) ≡ true → xs ≡ []
nothing_pending opened xs there = grind (arith, common_steps)

module _ {D : Type 0} {g : Ghosts D} (old new : Engine D g) (s : ℕ) (before after : SessionState) (may : may_serve before ≡ true) where
  effects : (c : Choice) (m : State) (outcome : Outcome) → IsChoiceFor m s before.inbox c → StandsFor new (serve_head c.head c m s before).machine
      → after ≡ (serve_head c.head c m s before).now → outcome ≡ (serve_head c.head c m s before).outcome
      → HasEffect old new s c m before after outcome
  effects c m outcome head stands now is = grind (arith, common_steps)

  standing : (n : SessionState) → after.inbox ≡ n.inbox → after.pending ≡ n.pending → after.status ≡ n.status → after ≡ n
  standing n inbox pending status = λ i. record { inbox = inbox i; pending = pending i; status = status i }

  -- what is pending was written
  pub whole : (parts : List Bytes) (used : ℕ) → IsHead before.inbox (Whole parts used)
      → ((m : State) → StandsFor old m → StandsFor new (step m s (asks parts) (has_failed old new)).0
      × (after.pending ≡ reply_text (step m s (asks parts) (has_failed old new)).1))
      → after.inbox ≡ drop used before.inbox → after.status ≡ before.status → ServesSession old new s before after OfDone
  whole parts used head steps inbox status = (
    Whole parts used,
    λ m h. (let x = steps m h in effects _ m OfDone (head, λ wrong. absurd (cc)) x.0 (standing _ inbox x.1 (status ∙ is_open_there before may)) refl),
  )

  pub more : IsHead before.inbox More → new ≡ old → after.pending ≡ [] → after.inbox ≡ before.inbox → after.status ≡ before.status
      → ServesSession old new s before after OfIdle
  more head same none inbox status = grind (arith, common_steps, effects, standing, nothing_pending)

  pub bad : IsHead before.inbox Bad → Aborts old new s → after.inbox ≡ [] → after.pending ≡ reply_text bad_frame → after.status ≡ Ending
      → ServesSession old new s before after OfDone
  bad head a inbox text status = (Bad, λ m h. effects _ m OfDone (head, λ wrong. absurd (cc)) (a m h) (standing _ inbox text status) refl)

  pub test_refused_memory : (parts : List Bytes) (used : ℕ) → IsHead before.inbox (Whole parts used) → IsTrue (takes_memory (asks parts)) → Aborts old new s
      → after.inbox ≡ [] → after.pending ≡ [] → IsNotRefused old s (asks parts) → after.status ≡ Refused → ServesSession old new s before after OfMemory
  test_refused_memory parts used head takes a inbox none garbage status =
      (Whole parts used, λ m h. effects _ m OfMemory (head, λ _. (takes, garbage m h)) (a m h) (standing _ inbox none status) refl)

-- nothing is the beginning of a request
nothing_begins : IsProperBeginning []
nothing_begins = (array_of_bulks ([] ∷ []), [] ∷ [], omega arith, (record { some = omega arith; few = omega arith; each = grind (arith, common_steps) }, refl))

-- where nothing came in, nothing is done
pub nothing_came : {D : Type 0} {g : Ghosts D} (e : Engine D g) (s : ℕ) (before : SessionState) → may_serve before ≡ true → before.inbox ≡ []
    → ServesSession e e s before before OfIdle
nothing_came e s before may none =
    more e e s before before may (subst IsProperBeginning (sym none) nothing_begins) refl (nothing_pending _ _ may) refl refl

-- ---- what a crash during it leaves

-- a call that leaves the device alone may follow
pub survives_after : {D : Type 0} {g : Ghosts D} (old mid new : Engine D g) (s : ℕ) → device_of new ≡ device_of mid → SurvivesCommit old mid s
    → SurvivesCommit old new s
survives_after {D} {g} old mid new s same crash keeps m h =
    subst (λ (d : D). LeavesOnly g.moment g.left_since (device_of old) d (IsLeftByCommit old m s)) (sym same) (crash keeps m h)

module _ {D : Type 0} {g : Ghosts D} (old mid new : Engine D g) (s : ℕ) (inbox : Bytes) (same : device_of new ≡ device_of mid) where
  -- a request at the head of the inbox, and then calls that don't reach the device
  pub survives_head : (parts : List Bytes) (used : ℕ) → IsHead inbox (Whole parts used) → SurvivesRequest old mid s (asks parts)
      → SurvivesHead old new s inbox
  survives_head parts used head (inl unchanged) = inl (same ∙ unchanged)
  survives_head parts used head (inr x) = inr (record { parts = parts; used = used; head = head; asked = x.0 }, survives_after old mid new s same x.1)
