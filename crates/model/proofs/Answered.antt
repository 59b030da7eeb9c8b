-- What is answered: to a COMMIT a number that is at most the begin number of a later BEGIN, and no conflict where no other has committed since its
-- own; to a faulty request one of four faults.
use Rattle.std.proofs.Common.{◌≡◌, ℕ, ◌≤◌, Bool, List, [], ◌∷◌, Option, Some, None, arith, ◌<◌, true, false, refl}
use Rattle.std.proofs.Common.{sym, ap, ◌∙◌, if◌then◌else◌, inl, inr, length-append, nat_lt, find, le-ltb, length}
use Rattle.std.proofs.Common.{Result, Ok, IfErr, ◌==◌}
use Rattle.std.proofs.lemmas.Bool.{both_ways, cases_lt}
use Rattle.std.proofs.lemmas.Grind.{common_steps}
use Rattle.model.proofs.Machines.{Sound, IsTrueRunning, commit_low, reached_sound, at_found}
use Rattle.model.proofs.Members.{In, at_in, each_in}
use Rattle.model.proofs.Pivots.{kept_above, verdict_by_kept}
use Rattle.model.proofs.SerialOrders.{filter_none}
use Rattle.model.proofs.Steps.{running_of-with_running}
use Rattle.model.specs.CommandTable.{◌>>=◌, arity, is_key, key_in, end_in, or_limit, alone_in, get_in, set_in, del_in}
use Rattle.model.specs.CommandTable.{range_in, command_in}
use Rattle.model.specs.History.{Record}
use Rattle.model.specs.Laws.{AnswersComeBefore, LastMayCommit, ConflictsAreRecent, IsOfForm, FaultsAreOfForm}
use Rattle.model.specs.Machine.{State, Running, Input, last, record_to_commit, store, store_unless, commit, step}
use Rattle.model.specs.Machine.{next, state_after, step_of}
use Rattle.model.specs.Map.{KeyWrite, Bytes}
use Rattle.model.specs.Operations.{Response}
use Rattle.model.specs.Operations.Operation.{Commit}
use Rattle.model.specs.Operations.Response.{Number, Refused}
use Rattle.model.specs.Verdict.{verdict, is_conflict, conflict_of, HasNoDangerousPivot}
use Rattle.model.specs.declared.refusals.Refusal.{Refusal}

pub by_case : {A : Type 0} (P : A → Type 0) (b : Bool) (x y : A) → P x → P y → P (if b then x else y)
by_case P b x y p q = grind (arith, common_steps)

-- ---- the history never gets shorter, and a number that is answered is the last

-- of the answer to one request of this state
abbrev GoesOn : State → State × Response → Type 0
GoesOn st answer = (last st ≤ last answer.0) × ((n : ℕ) → answer.1 ≡ Number n → n ≤ last answer.0)

refused : (st st' : State) (refusal : Refusal) → last st ≤ last st' → GoesOn st (st', Refused refusal)
refused st st' refusal le = (le, λ n e. let bad : Refused refusal ≡ Number n = e in cc)

module _ (st : State) (s : ℕ) (t : Running) (failed : Bool) where
  stores : (ws : List KeyWrite) → GoesOn st (store st s (record_to_commit st t) ws failed)
  stores ws = grind (arith, common_steps, length-append, by_case, refused)

  judged : (o : Option Refusal) → GoesOn st (store_unless o st s (record_to_commit st t) failed)
  judged o = grind (arith, common_steps, refused, stores)

  commits : GoesOn st (commit st s t failed)
  commits = grind (arith, common_steps, by_case, refused, judged)

-- ---- each input

stays_over : (st : State) (inputs : List Input) → last st ≤ last (state_after st inputs)
unfolding step
stays_over st [] = omega arith
stays_over st (i ∷ inputs) =
    let one : last st ≤ last (next st i) = grind (arith, common_steps) in
    let rest = stays_over (next st i) inputs in omega (arith, one, rest)

-- ---- the number of a COMMIT, and the begin number of a BEGIN

pub law_answers_come_before : AnswersComeBefore
unfolding step
law_answers_come_before st s n failed e inputs s' failed' t none there =
    let before : n ≤ last (step st s Commit failed).0 = grind (arith, common_steps, commits) in
    let grown = stays_over (step st s Commit failed).0 inputs in
    let is : t.begin ≡ last (state_after (step st s Commit failed).0 inputs) = grind (arith, common_steps, by_case, running_of-with_running) in
    omega (arith, before, grown, is)

-- ---- where no other has committed since its begin, a COMMIT is refused for no conflict

find_never : (ws : List KeyWrite) → find (λ (w : KeyWrite). false) ws ≡ None
find_never [] = refl
find_never (w ∷ ws) = find_never ws

-- no record is left that could speak against it
unopposed : (history : List Record) (r : Record) → r.begin < r.commit → ((h : Record) → In h history → h.commit ≤ r.begin) → HasNoDangerousPivot history
    → verdict history r ≡ None
unopposed history r begins over no_pivot =
    let none : kept_above r.begin history ≡ [] =
    filter_none (λ h. nat_lt r.begin h.commit) history (each_in _ history (λ h h_in. le-ltb r.begin h.commit (over h h_in))) in
    verdict_by_kept history r r.begin (omega arith) (λ h h_in. let le = over h h_in in omega arith) no_pivot
    ∙ rw none (ap (λ o. conflict_of o None) (find_never r.writes))

-- of a transaction that began at the last commit, or after it
none_since : (st : State) → Sound st → (t : Running) → last st ≤ t.begin → t.begin ≤ last st → verdict st.history (record_to_commit st t) ≡ None
none_since st k t low high = grind (arith, common_steps, unopposed, at_in, commit_low)

pub last_may_commit : LastMayCommit
last_may_commit st reached s t is since = none_since st (reached_sound st reached) t (omega (arith, since)) (omega (arith, since))

-- ---- what COMMIT answers

-- the answer names no conflict
abbrev IsHarmless : State × Response → Type 0
IsHarmless answer = (refusal : Refusal) → answer.1 ≡ Refused refusal → is_conflict refusal ≡ true → ⊥

harmless : (st : State) (other : Refusal) → is_conflict other ≡ false → IsHarmless (st, Refused other)
harmless st other plain refusal e named = let e' : Refused other ≡ Refused refusal = e in let same : other ≡ refusal =
    cc in both_ways (is_conflict refusal) (ap is_conflict (sym same) ∙ plain) named

in_commit : (st : State) (s : ℕ) (t : Running) (failed : Bool) → verdict st.history (record_to_commit st t) ≡ None → IsHarmless (commit st s t failed)
in_commit st s t failed none = grind (arith, common_steps, by_case, harmless)

pub conflicts_are_recent : ConflictsAreRecent
unfolding step
conflicts_are_recent st reached s t there failed refusal e named = elim (cases_lt t.begin (last st)) [
  | inl since ↦ since
  | inr none ↦
      let k = reached_sound st reached in
      let is : IsTrueRunning st.base st.history t = at_found (IsTrueRunning st.base st.history) s st.running k.open_true t there in
      let low = is.begins in
      absurd (in_commit st s t failed (none_since st k t none low) refusal (ap (λ o. (step_of o st s Commit failed).1) (sym there) ∙ e) named)
]

-- ---- a request is faulty in its form for four faults alone

abbrev Of : {A : Type 0} → Result A Refusal → Type 0
Of r = IfErr r IsOfForm

then_of : {A B : Type 0} (x : Result A Refusal) (f : A → Result B Refusal) → Of x → ((a : A) → Of (f a)) → Of (x >>= f)
then_of x f first rest = grind (arith, common_steps)

counts : (n : ℕ) (parts : List Bytes) → Of (arity n parts)
counts n parts = by_case Of (length parts == n) _ _ tt tt

keys : (bytes : Bytes) → Of (key_in bytes)
keys bytes = by_case Of (is_key bytes) _ _ tt tt

ends : (bytes : Bytes) → Of (end_in bytes)
ends bytes = by_case Of (length bytes == 0) _ _ tt (then_of (key_in bytes) (λ key. Ok (Some key)) (keys bytes) (λ key. tt))

limits : (o : Option ℕ) → Of (or_limit o)
limits o = grind (arith, common_steps)

pub law_faults_are_of_form : FaultsAreOfForm
unfolding command_in alone_in get_in set_in del_in range_in
law_faults_are_of_form parts = grind (arith, common_steps, by_case, then_of, counts, keys, ends, limits)
