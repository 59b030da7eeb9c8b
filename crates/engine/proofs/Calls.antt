-- What each kind of call does to the states that an engine stands for.
use Rattle.std.proofs.Common.{◌≡◌, ◌<◌, ◌≤◌, ◌↔◌, ℕ, Bool, true, false, T, List, [], ◌∷◌, ◌++◌, Option, Some, None}
use Rattle.std.proofs.Common.{refl, sym, ap, subst, ◌∙◌, length, arith, ◌||◌, ◌⊎◌, inl, inr}
use Rattle.std.proofs.lemmas.Bool.{le-leb, lt-ltb, le-ltb, or_left, iff_false, false_from_ne_true}
use Rattle.std.proofs.lemmas.Bool.Decides.{nat_tests}
use Rattle.std.proofs.lemmas.Cmp.{nat_cmp_total}
use Rattle.std.proofs.lemmas.Grind.{common_steps}
use Rattle.std.proofs.lemmas.Map.Steps.{set_value_same}
use Rattle.std.proofs.lemmas.Slice.Zip.{AllZip-long}
use Rattle.std.specs.BTreeMap.{insert_entry, is_at}
use Rattle.std.specs.FinMap.Entries.{put, where_key, is_sorted, is_sorted-put, is_sorted-where_key}
use Rattle.std.specs.Map.{lookup, set_value}
use Rattle.std.specs.Ordering.{nat_cmp}
use Rattle.std.specs.Prelude.{nat_le, not, ◌==◌, IsTrue, IsFalse, is_some}
use Rattle.model.proofs.Steps.{copy_after-push}
use Rattle.model.specs.History.{map_at}
use Rattle.model.specs.Machine.{State, Running, last, snapshot, running_of, with_running, leave, step_outside}
use Rattle.model.specs.Machine.{own_step, step_inside, step, IsReached}
use Rattle.model.specs.Machine.Input.{Leaves as Quits}
use Rattle.model.specs.Map.{KeyMap, IsMap}
use Rattle.model.specs.Operations.{Operation, Response}
use Rattle.model.specs.Operations.Operation.{Begin, Abort}
use Rattle.model.specs.Operations.Response.{Done, Refused}
use Rattle.model.specs.PrivateCopy.{copy_of, copy_after, respond, answer}
use Rattle.model.specs.declared.refusals.Refusal.{Refusal}
use Rattle.model.specs.declared.refusals.Refusal.TheVariants.{AlreadyOpen, StoreStopped, FullTransactions}
use Rattle.sector.specs.declared.device.Sectors.{Ghosts}
use Rattle.commit_log.specs.LogState.{is_log_stopped}
use Rattle.versions.specs.Laws.{HoldingLaw}
use Rattle.versions.specs.Meaning.{is_among, map_seen}
use Rattle.snapshot.specs.Made.{HasMade, WhereMade, WhereSeen, is_refused}
use Rattle.snapshot.specs.View.{View, new_view}
use Rattle.pivot_check.specs.FewKept.{KeepsLittle}
use Rattle.engine.proofs.Sessions.{IsFound, beside_none, beside_some, beside_insert, beside_remove, beside_set}
use Rattle.engine.proofs.Sessions.{beside_weaker}
use Rattle.engine.proofs.Steps.{step_is, reached_by, reached_next, reached_map}
use Rattle.engine.specs.Begins.{AreGathered, begins_of}
use Rattle.engine.specs.Changes.{entry_of, IsSameStore, EndsTransaction}
use Rattle.engine.specs.HistoryValue.{HistoryValue, HistoryStandsFor}
use Rattle.engine.specs.Meaning.{StandsForSame, IsNotRefused, Leads}
use Rattle.engine.specs.StandsFor.{Represents, StandsFor, IsRunning, AreRunning}
use Rattle.engine.specs.declared.engine.Engine.{Engine}

-- a request that changed nothing is one more own request
pub made_same : (t : View) (m : KeyMap) (qs : List Operation) (q : Operation) → HasMade t m qs
    → (respond (copy_after (copy_of m) qs) q).1 ≡ copy_after (copy_of m) qs → HasMade t m (qs ++ q ∷ [])
made_same t m qs q h e = record { is_map = h.is_map; entries = h.entries; copy = h.copy ∙ sym (copy_after-push (copy_of m) qs q ∙ e) }

pub is_some_there : {A : Type 0} (o : Option A) → is_some o ≡ true → (x : A) × (o ≡ Some x)
is_some_there None h = cc
is_some_there (Some x) h = (x, refl)

pub is_some_absent : {A : Type 0} (o : Option A) → is_some o ≡ false → o ≡ None
is_some_absent o h = grind (arith, common_steps)

-- a transaction that begins
abbrev first_run : State → Running
first_run m = record { begin = last m; requests = []; replies = [] }

-- a log that isn't stopped
pub running_if : (b c : Bool) → (IsTrue b ↔ (c ≡ true)) → b ≡ false → c ≡ false
running_if b c h e = false_from_ne_true c (iff_false h e)

-- ---- the begin numbers that were gathered

pub gathered_none : (bs : Option (List ℕ)) (es : List (ℕ × View)) → bs ≡ None → AreGathered bs es
gathered_none bs es none = rw none tt

pub gathered_same : (bs bs' : Option (List ℕ)) (es es' : List (ℕ × View)) → bs' ≡ bs → es' ≡ es → AreGathered bs es → AreGathered bs' es'
gathered_same bs bs' es es' begins entries h = rw (begins, entries) h

-- a transaction of which another is made with the same begin number
begins_set : (s : ℕ) (es : List (ℕ × View)) (t t' : View) → lookup (is_at (nat_cmp s)) es ≡ Some t → t'.begin ≡ t.begin
    → begins_of (set_value (is_at (nat_cmp s)) es t') ≡ begins_of es
begins_set s [] t t' some same = refl
begins_set s (e ∷ es) t t' some same = grind (arith, common_steps, begins_set s es t t')

gathered_set : (bs bs' : Option (List ℕ)) (es es' : List (ℕ × View)) (s : ℕ) (t t' : View) → bs' ≡ bs → es' ≡ set_value (is_at (nat_cmp s)) es t'
    → lookup (is_at (nat_cmp s)) es ≡ Some t → t'.begin ≡ t.begin → AreGathered bs es → AreGathered bs' es'
gathered_set None bs' es es' s t t' begins entries some same h = rw begins tt
gathered_set (Some ns) bs' es es' s t t' begins entries some same h = rw (begins, entries) (h ∙ sym (begins_set s es t t' some same))

module _ {D : Type 0} {g : Ghosts D} where
  -- the begin numbers that were gathered stay, or are forgotten
  abbrev pub KeepsBegins : Engine D g → Engine D g → Type 0
  KeepsBegins e e' = (e'.begins ≡ e.begins) ⊎ (e'.begins ≡ None)

  gathered_kept : (e e' : Engine D g) → e'.running.entries ≡ e.running.entries → KeepsBegins e e' → AreGathered e.begins e.running.entries
      → AreGathered e'.begins e'.running.entries
  gathered_kept e e' entries (inl same) h = gathered_same _ _ _ _ same entries h
  gathered_kept e e' entries (inr none) h = gathered_none _ _ none

  abbrev pub Active : (e : Engine D g) (m : State) → StandsFor e m → View → Running → Type 0
  Active e m h t r = IsRunning e.history.committed.facts h.active m.base m.history t r

  -- the state with other open transactions
  stands_with : (e e' : Engine D g) (m : State) (es : List (ℕ × View)) (rs : List (ℕ × Running)) (active : ℕ → Bool) → IsSameStore e e' → StandsFor e m
      → IsReached (record m { running = rs })
      → HistoryStandsFor e.history active m.base m.history → e'.running.entries ≡ es → AreRunning e.history.committed.facts active m.base m.history es rs
      → T (is_sorted nat_cmp rs) → length e'.running.entries ≤ 64 → AreGathered e'.begins e'.running.entries → StandsFor e' (record m { running = rs })
  stands_with e e' m es rs active same h reached history entries running sorted few gathered = grind (arith, common_steps)

  -- the same open transactions
  represents_same : (e e' : Engine D g) (m : State) → IsSameStore e e' → e'.running.entries ≡ e.running.entries → AreGathered e'.begins e'.running.entries
      → Represents e m → Represents e' m
  represents_same e e' m same entries gathered h = grind (arith, common_steps)

  pub same_states : (e e' : Engine D g) → IsSameStore e e' → e'.running.entries ≡ e.running.entries → e'.begins ≡ e.begins → StandsForSame e e'
  same_states e e' same entries begins = (
    λ m. (
      (λ h. represents_same e e' m same entries (gathered_same _ _ _ _ begins entries h.gathered) h),
      (λ h. represents_same e' e m (record { log = sym same.log; history = sym same.history }) (sym entries)
          (gathered_same _ _ _ _ (sym begins) (sym entries) h.gathered) h),
    ),
    subst (λ (v : HistoryValue). KeepsLittle v.committed) (sym same.history),
  )

  -- each state that the old engine stood for, the new one stands for
  pub stands_still : (e e' : Engine D g) → StandsForSame e e' → (m : State) → StandsFor e m → StandsFor e' m
  stands_still e e' same m h = record { state = (same.0 m).0 h.state; little = same.1 h.little }

  stands_same : (e e' : Engine D g) (m : State) → IsSameStore e e' → e'.running.entries ≡ e.running.entries → KeepsBegins e e' → StandsFor e m → StandsFor e' m
  stands_same e e' m same entries begins h = record {
    state = represents_same e e' m same entries (gathered_kept e e' entries begins h.gathered) h.state;
    little = subst (λ (v : HistoryValue). KeepsLittle v.committed) (sym same.history) h.little;
  }

  pub not_open : (e : Engine D g) (m : State) (s : ℕ) → StandsFor e m → entry_of s e ≡ None → running_of m s ≡ None
  not_open e m s h none = beside_none (Active e m h) s e.running.entries m.running h.running none

  pub found_open : (e : Engine D g) (m : State) (s : ℕ) (t : View) (h : StandsFor e m) → entry_of s e ≡ Some t → IsFound (Active e m h) s t m.running
  found_open e m s t h some = beside_some (Active e m h) s t e.running.entries m.running h.running some

  -- ---- calls outside a transaction

  -- a request that is refused, and changes nothing
  pub refused_outside : (e e' : Engine D g) (s : ℕ) (q : Operation) (failed : Bool) (refusal : Refusal) → IsSameStore e e'
      → e'.running.entries ≡ e.running.entries → KeepsBegins e e' → entry_of s e ≡ None
      → ((m : State) → StandsFor e m → step_outside m s q ≡ (m, Refused refusal)) → Leads e e' s q failed (Some (Refused refusal))
  refused_outside e e' s q failed refusal same entries begins none says m h =
      let is : step m s q failed ≡ (m, Refused refusal) = step_is m s q failed None (not_open e m s h none) ∙ says m h in
      (m, stands_same e e' m same entries begins h, is)

  pub begin_stopped : (e : Engine D g) (s : ℕ) → entry_of s e ≡ None → is_log_stopped e.log ≡ true → Leads e e s Begin false (Some (Refused StoreStopped))
  begin_stopped e s none stopped =
      refused_outside e e s Begin false StoreStopped (record { log = refl; history = refl }) refl (inl refl) none (λ m h. rw (h.stopped ∙ stopped) refl)

  pub begin_full : (e : Engine D g) (s : ℕ) → entry_of s e ≡ None → is_log_stopped e.log ≡ false → 64 ≤ length e.running.entries
      → Leads e e s Begin false (Some (Refused FullTransactions))
  begin_full e s none stopped full =
      refused_outside e e s Begin false FullTransactions (record { log = refl; history = refl }) refl (inl refl) none
      (λ m h. let many : length m.running
      ≡ length e.running.entries = AllZip-long _ _ _ h.running in rw (h.stopped ∙ stopped, le-ltb (length m.running) 64 (omega arith)) refl)

  -- where there is room, the machine begins
  begins : (e : Engine D g) (m : State) (s : ℕ) → StandsFor e m → entry_of s e ≡ None → is_log_stopped e.log ≡ false → length e.running.entries < 64
      → step m s Begin false ≡ (with_running m s (first_run m), Done)
  begins e m s h none stopped few =
      let many : length m.running ≡ length e.running.entries = AllZip-long _ _ _ h.running in
      let outside : step_outside m s Begin ≡ (with_running m s (first_run m), Done) =
      rw (h.stopped ∙ stopped, lt-ltb (length m.running) 64 (omega arith)) refl in
      step_is m s Begin false None (not_open e m s h none) ∙ outside

  pub begin_call : (e e' : Engine D g) (s : ℕ) → HoldingLaw → ((m : KeyMap) → IsMap m → HasMade (new_view e.history.committed.facts.last) m [])
      → IsSameStore e e' → entry_of s e ≡ None → is_log_stopped e.log ≡ false → length e.running.entries < 64
      → e'.running.entries ≡ insert_entry nat_cmp e.running.entries s (new_view e.history.committed.facts.last) → length e'.running.entries ≤ 64
      → e'.begins ≡ None → Leads e e' s Begin false (Some Done)
  begin_call e e' s holding fresh same none stopped few entries few_after forgets m h =
      let run = first_run m in
      let facts = e.history.committed.facts in
      let is = begins e m s h none stopped few in
      let active : ℕ → Bool = λ n. h.active n || nat_le e.history.versions.last n in
      let history : HistoryStandsFor e.history active m.base m.history =
      record { versions = holding e.history.versions h.active active m.base m.history (λ n t. t) h.history.versions; committed = h.history.committed } in
      let last_is = h.history.committed.last in
      let within = h.history.versions.within in
      let kept = h.kept in
      let made = fresh (map_at m.base m.history (last m)) (reached_map m (last m) h.reached) in
      let asks = or_left (nat_le facts.reach.since facts.last) (is_among facts.reach.begins facts.last)
      (le-leb facts.reach.since facts.last h.history.committed.now) in
      let new : IsRunning facts active m.base m.history (new_view facts.last) run = grind (arith, common_steps, nat_tests) in
      let wider : (t : View) (r : Running) → IsRunning facts h.active m.base m.history t r → IsRunning facts active m.base m.history t r =
      λ t r k. grind (arith, common_steps, or_left) in
      let others = beside_weaker (Active e m h) (λ t r. IsRunning facts active m.base m.history t r) wider e.running.entries m.running h.running in
      let running = beside_insert (λ t r. IsRunning facts active m.base m.history t r) s (new_view facts.last) run e.running.entries m.running others new in
      let sorted = is_sorted-put nat_cmp nat_cmp_total s run m.running h.sorted in
      let reached = reached_by m s Begin false _ is h.reached in (
        with_running m s run,
        stands_with e e' m _ (put nat_cmp s run m.running) active same h reached history entries running sorted few_after
            (gathered_none _ _ forgets),
        is,
      )

  -- memory was refused where there is room
  pub begin_memory : (e e' : Engine D g) (s : ℕ) → IsSameStore e e' → e'.running.entries ≡ e.running.entries → e'.begins ≡ e.begins → entry_of s e ≡ None
      → is_log_stopped e.log ≡ false → length e.running.entries < 64 → StandsForSame e e' × IsNotRefused e s Begin
  begin_memory e e' s same entries numbers none stopped few =
      (same_states e e' same entries numbers, λ m h. ap (λ (p : State × Response). is_refused p.1) (begins e m s h none stopped few))

  -- ---- own requests

  -- what a request made of the transaction, and how it was answered; where memory was refused, that it is no refusal
  abbrev pub Answered : Engine D g → View → View → Operation → Option Response → Type 0
  Answered e t t' q (Some response) = WhereSeen e.history.versions t (λ m qs. (answer m qs q ≡ response) × HasMade t' m (qs ++ q ∷ []))
  Answered e t t' q None = (t' ≡ t) × WhereSeen e.history.versions t (λ m qs. IsFalse (is_refused (answer m qs q)))

  -- the transaction sees the map at its begin
  pub map_is : (e : Engine D g) (m : State) (t : View) (r : Running) (h : StandsFor e m) → Active e m h t r → map_seen e.history.versions t.begin ≡ snapshot m r
  map_is e m t r h same =
      ap (map_seen e.history.versions) same.begin
      ∙ h.history.versions.maps r.begin (or_left (h.active r.begin) (nat_le e.history.versions.last r.begin) same.is_active)

  own_answered : (e e' : Engine D g) (s : ℕ) (q : Operation) (failed : Bool) (t t' : View) (response : Response)
      → ((m : State) (r : Running) → step_inside m s r q failed ≡ own_step m s r q)
      → IsSameStore e e' → entry_of s e ≡ Some t → e'.running.entries ≡ set_value (is_at (nat_cmp s)) e.running.entries t'
      → length e'.running.entries ≡ length e.running.entries → e'.begins ≡ e.begins
      → t'.begin ≡ t.begin → Answered e t t' q (Some response) → Leads e e' s q failed (Some response)
  own_answered e e' s q failed t t' response own same some entries long begins begin answered m h =
      let f = found_open e m s t h some in
      let is : step m s q failed ≡ own_step m s f.run q = step_is m s q failed _ f.is ∙ own m f.run in
      let run : Running = record { begin = f.run.begin; requests = f.run.requests ++ q ∷ []; replies = f.run.replies ++ (own_step m s f.run q).1 ∷ [] } in
      let made = answered (snapshot m f.run) f.run.requests (map_is e m t f.run h f.same) f.same.made in
      let here : Active e m h t' run = grind (arith, common_steps) in
      let running = beside_set (Active e m h) s t t' run e.running.entries m.running h.sorted h.running some here in
      let sorted = is_sorted-put nat_cmp nat_cmp_total s run m.running h.sorted in
      let reached = reached_by m s q failed _ is h.reached in
      let stands = stands_with e e' m _ (put nat_cmp s run m.running) h.active same h reached h.history entries running sorted
      (subst (λ n. n ≤ 64) (sym long) h.few_open) (gathered_set e.begins _ e.running.entries _ s t t' begins entries some begin h.gathered) in
      (with_running m s run, stands, is ∙ ap (λ x. (with_running m s run, x)) made.0)

  -- a request of the session's own transaction
  pub own_call : (e e' : Engine D g) (s : ℕ) (q : Operation) (failed : Bool) (t t' : View) (o : Option Response)
      → ((b : Bool) (m : State) (r : Running) → step_inside m s r q b ≡ own_step m s r q)
      → IsSameStore e e' → entry_of s e ≡ Some t → e'.running.entries ≡ set_value (is_at (nat_cmp s)) e.running.entries t'
      → length e'.running.entries ≡ length e.running.entries → e'.begins ≡ e.begins
      → t'.begin ≡ t.begin → Answered e t t' q o → Leads e e' s q failed o
  own_call e e' s q failed t t' None own same some entries long begins begin answered = (
    same_states e e' same (entries ∙ set_value_same (is_at (nat_cmp s)) e.running.entries t' (some ∙ ap Some (sym answered.0))) begins,
    λ m h.
        let f = found_open e m s t h some in
        ap (λ (p : State × Response). is_refused p.1) (step_is m s q false _ f.is ∙ own false m f.run)
        ∙ answered.1 (snapshot m f.run) f.run.requests (map_is e m t f.run h f.same) f.same.made,
  )
  own_call e e' s q failed t t' (Some response) own same some entries long begins begin answered =
      own_answered e e' s q failed t t' response (own failed) same some entries long begins begin answered

  -- one that changes nothing, in an engine that stays
  pub own_same : (e : Engine D g) (s : ℕ) (q : Operation) (failed : Bool) (t : View) (response : Response)
      → ((m : State) (r : Running) → step_inside m s r q failed ≡ own_step m s r q)
      → entry_of s e ≡ Some t → WhereMade t (λ m qs. (answer m qs q ≡ response) × HasMade t m (qs ++ q ∷ [])) → Leads e e s q failed (Some response)
  own_same e s q failed t response own some answered =
      own_answered e e s q failed t t response own (record { log = refl; history = refl }) some
      (sym (set_value_same (is_at (nat_cmp s)) e.running.entries t some)) refl refl refl (λ m qs seen made. answered m qs made)

  -- BEGIN inside a transaction
  pub begin_inside : (e : Engine D g) (s : ℕ) (t : View) → entry_of s e ≡ Some t → Leads e e s Begin false (Some (Refused AlreadyOpen))
  begin_inside e s t some = own_same e s Begin false t (Refused AlreadyOpen) (λ m r. refl) some (λ m qs made. (refl, made_same t m qs Begin made refl))

  -- a request whose reply is the same inside and outside, and that changes nothing
  pub passed : (e : Engine D g) (s : ℕ) (q : Operation) (response : Response) → ((m : State) (r : Running) → step_inside m s r q false ≡ own_step m s r q)
      → ((m : State) → step_outside m s q ≡ (m, response))
      → ((t : View) → WhereMade t (λ m qs. (answer m qs q ≡ response) × HasMade t m (qs ++ q ∷ []))) → Leads e e s q false (Some response)
  passed e s q response own outside answered = elim (entry_of s e) as (λ o. entry_of s e ≡ o → Leads e e s q false (Some response)) [
    | Some t ↦ λ some. own_same e s q false t response own some (answered t)
    | None ↦ λ none m h. (m, h, step_is m s q false None (not_open e m s h none) ∙ outside m)
  ] refl

  -- ---- the end of a transaction

  pub leave_call : (e e' : Engine D g) (s : ℕ) → EndsTransaction e e' s → (m : State) → StandsFor e m → StandsFor e' (leave m s)
  leave_call e e' s leaves m h =
      let running = beside_remove (Active e m h) s e.running.entries m.running h.sorted h.running in
      let sorted = is_sorted-where_key nat_cmp (λ x. not (x == s)) m.running h.sorted in
      let few = h.few_open in let fewer = leaves.fewer in
      stands_with e e' m _ (where_key nat_cmp (λ x. not (x == s)) m.running) h.active leaves.store h (reached_next m (Quits s) h.reached) h.history
      leaves.entries running sorted (omega (arith, few, fewer)) (gathered_none _ _ leaves.forgets)

  pub abort_call : (e e' : Engine D g) (s : ℕ) (t : View) → entry_of s e ≡ Some t → EndsTransaction e e' s → Leads e e' s Abort false (Some Done)
  abort_call e e' s t some leaves m h =
      let f = found_open e m s t h some in
      let is : step m s Abort false ≡ (leave m s, Done) = step_is m s Abort false _ f.is in
      (leave m s, leave_call e e' s leaves m h, is)
