-- What a commit does to the states that an engine stands for.
use Rattle.pivot_check.specs.declared.Verdict.TheVariants as verdicts
use Rattle.std.proofs.Common.{◌≡◌, ◌⊎◌, ◌≤◌, ◌+◌, ◌-◌, ◌^◌, ℕ, suc, Bool, true, false, List, [], ◌∷◌, ◌++◌, Option}
use Rattle.std.proofs.Common.{Some, None, refl, sym, ap, subst, ◌∙◌, length, length-append, arith, ⊎_elim, inl, inr}
use Rattle.std.proofs.lemmas.Bool.{lt-ltb, le-ltb, eq-eqb, ne_eqb, and_parts, or_left, or_right, both_ways}
use Rattle.std.proofs.lemmas.Grind.{common_steps}
use Rattle.std.proofs.lemmas.Option.{get_or_from_slice_get}
use Rattle.std.specs.Prelude.{◌&&◌, slice_index_or, Err, nat_le, IfSome}
use Rattle.model.proofs.Lookups.{some_same}
use Rattle.model.proofs.Machines.{map_at-append}
use Rattle.model.specs.History.{Record}
use Rattle.model.specs.Machine.{State, Running, last, snapshot, leave, record_to_commit, refuse, join_history}
use Rattle.model.specs.Machine.{body_sectors, store, store_unless, commit, step}
use Rattle.model.specs.Map.{Bytes, KeyMap, KeyWrite, after_writes}
use Rattle.model.specs.Operations.{Operation, Response}
use Rattle.model.specs.Operations.Operation.{Commit}
use Rattle.model.specs.Operations.Response.{Number, Refused}
use Rattle.model.specs.PrivateCopy.{writes}
use Rattle.model.specs.Verdict.{verdict}
use Rattle.model.specs.declared.refusals.Refusal.{Refusal}
use Rattle.model.specs.declared.refusals.Refusal.TheVariants.{StoreStopped, FullNumbers, FullLog, StoreFault}
use Rattle.model.specs.declared.refusals.Refusal.TheVariants.{Overwritten}
use Rattle.sector.specs.Counts.{Rose, Stayed}
use Rattle.sector.specs.SectorModel.{LeavesOnly}
use Rattle.sector.specs.declared.device.Sectors.{Ghosts}
use Rattle.commit_log.specs.LogState.{is_log_stopped, used_sectors, sector_count, log_device, record_count}
use Rattle.commit_log.specs.LogState.{sync_count}
use Rattle.commit_log.specs.declared.log.Log.{Log}
use Rattle.versions.specs.StandsFor.{StandsFor as VersionsStandFor}
use Rattle.versions.specs.Meaning.{is_among}
use Rattle.snapshot.specs.Made.{HasMade, is_refused}
use Rattle.snapshot.specs.View.{View}
use Rattle.pivot_check.proofs.SameHistories.{in_reach_still, stand_back, still_cleared}
use Rattle.pivot_check.specs.Kept.{Facts, CommittedValue, IsInReach, may_ask}
use Rattle.pivot_check.specs.StandsFor.{IsRecordOf, IsVerdict, IsClear, IsCleared, StandForSame}
use Rattle.pivot_check.specs.StandsFor.{StandsFor as CommittedStandsFor}
use Rattle.pivot_check.specs.declared.verdict.Cleared.{Cleared}
use Rattle.engine.proofs.Calls.{Active, found_open, gathered_same, leave_call}
use Rattle.engine.proofs.Sessions.{IsFound, beside_weaker}
use Rattle.engine.proofs.Reclaims.{begins_ask, running_among}
use Rattle.engine.proofs.Steps.{step_is, reached_by, store_full, store_fault, store_joined, map_at_next}
use Rattle.engine.specs.Begins.{AreGathered, begins_of}
use Rattle.engine.specs.Changes.{entry_of, EndsTransaction, WritesSomething, HasLogRoom, IsLogged, IsLogStopped}
use Rattle.engine.specs.Changes.{sectors_taken, AddsOneAtMost}
use Rattle.engine.specs.HistoryValue.{HistoryValue, IsSameHistory, Joins}
use Rattle.engine.specs.Validations.{CommitIsRefused, IsToCheck, IsToCommit}
use Rattle.engine.specs.Meaning.{StandsForSame, Leads, IsNotRefused, IsReadOnly, IsLeftByCommit, has_risen}
use Rattle.engine.specs.Meaning.{response_to}
use Rattle.engine.specs.Recovery.{IsStored, WhereStored, SurvivesAppend, LeavesInDoubt, HoldsMap, committed_map}
use Rattle.engine.specs.Recovery.{IsInDoubt}
use Rattle.engine.specs.StandsFor.{Represents, StandsFor, IsRunning, AreRunning}
use Rattle.engine.specs.declared.engine.Engine.{Engine}
use Rattle.engine.specs.declared.faults.EngineFault.{EngineFault}
use Rattle.engine.specs.declared.faults.EngineFault.TheVariants.{Refused as Refusing}

-- ---- the device's failures

pub not_risen : (before now : ℕ) → Stayed before now → has_risen before now ≡ false
not_risen before now h = grind (arith, common_steps, le-ltb, ne_eqb)

pub risen : (before now : ℕ) → Rose before now → has_risen before now ≡ true
risen before now h = grind (arith, common_steps, or_left, lt-ltb, or_right, eq-eqb)

-- a count didn't rise and stay
not_both : {before now : ℕ} → Rose before now → Stayed before now → ⊥
not_both rose stayed = elim rose [ inl less ↦ omega (arith, less, stayed.0) | inr top ↦ omega (arith, top.0, stayed.1) ]

-- ---- the records of the log

module _ {D : Type 0} {g : Ghosts D} (old new : Log D g) where
  -- where the log is as it was
  added_none : new ≡ old → AddsOneAtMost old new
  added_none e =
      let records : record_count new ≡ record_count old = ap (λ (l : Log D g). record_count l) e in
      let syncs : sync_count new ≡ sync_count old = ap (λ (l : Log D g). sync_count l) e in
      record { kept = omega (arith, records); one = omega (arith, records); same = λ _. records; syncs = omega (arith, syncs); quiet = λ _ _. syncs }

  -- a commit adds one where something was written, in the sectors that it takes
  pub added_once : (ws : List KeyWrite) → IsLogged old new ws → AddsOneAtMost old new
  added_once [] logged = added_none (logged.untouched refl)
  added_once (w ∷ ws) logged = record {
    kept = omega (arith, logged.records);
    one = omega (arith, logged.records);
    same = λ e. absurd (omega (arith, logged.used, e));
    syncs = logged.syncs;
    quiet = λ e _. absurd (omega (arith, logged.records, e));
  }

  -- where the device failed, none was added
  pub added_faulty : (ws : List KeyWrite) → IsLogStopped old new ws → AddsOneAtMost old new
  added_faulty ws stops = record {
    kept = omega (arith, stops.records);
    one = omega (arith, stops.records);
    same = λ _. stops.records;
    syncs = stops.syncs;
    quiet = λ _ stayed. absurd (not_both stops.fault stayed);
  }

-- ---- what is validated of a transaction

-- its writes are those of its requests
abbrev HasItsWrites : View → Type 0
HasItsWrites t = (m : KeyMap) (qs : List Operation) → HasMade t m qs → t.writes ≡ writes m qs

-- the verdict over each history that is stood for
abbrev pub HasVerdict : Facts → View → Option Refusal → Type 0
HasVerdict f t o = IsInReach f t → (history : List Record) → CommittedStandsFor f history → (r : Record) → IsRecordOf t (f.last + 1) r → verdict history r ≡ o

-- where each image that a crash leaves has P, it has what follows from P
pub weaker_crash : {D : Type 0} (moment : D → ℕ) (left_since : D → ℕ → List (List ℕ) → Type 0) (old new : D) (P Q : List (List ℕ) → Type 0)
    → ((c : List (List ℕ)) → P c → Q c) → LeavesOnly moment left_since old new P → LeavesOnly moment left_since old new Q
weaker_crash moment left_since old new P Q f h = grind (arith, common_steps, ⊎_elim)

-- a transaction that runs beside what is kept runs beside what stands for the same histories
runs_beside : (old new : Facts) (active : ℕ → Bool) (base : KeyMap) (history : List Record) → StandForSame old new → (t : View) (r : Running)
    → IsRunning old active base history t r → IsRunning new active base history t r
runs_beside old new active base history same t r is =
    record { begin = is.begin; made = is.made; in_reach = in_reach_still old new t same is.in_reach; is_active = is.is_active }

module _ {D : Type 0} {g : Ghosts D} where
  -- only memory was made ready
  same_with : (e e' : Engine D g) (m : State) → e'.log ≡ e.log → e'.running.entries ≡ e.running.entries → e'.begins ≡ e.begins
      → StandForSame e.history.committed.facts e'.history.committed.facts
      → ((active : ℕ → Bool) (base : KeyMap) (history : List Record) → VersionsStandFor e.history.versions active base history
      → VersionsStandFor e'.history.versions active base history) → Represents e m → Represents e' m
  same_with e e' m log entries begins same stands h =
      let stopped : is_log_stopped e'.log ≡ is_log_stopped e.log = ap (λ (l : Log D g). is_log_stopped l) log in
      let used : used_sectors e'.log ≡ used_sectors e.log = ap (λ (l : Log D g). used_sectors l) log in
      let count : sector_count e'.log ≡ sector_count e.log = ap (λ (l : Log D g). sector_count l) log in
      let running = beside_weaker (λ t r. IsRunning e.history.committed.facts h.active m.base m.history t r)
      (λ t r. IsRunning e'.history.committed.facts h.active m.base m.history t r)
      (runs_beside e.history.committed.facts e'.history.committed.facts h.active m.base m.history same) e.running.entries m.running h.running in
      let oldest = same.oldest in
      let kept = h.kept in
      record {
        reached = h.reached;
        stopped = h.stopped ∙ sym stopped;
        used = h.used ∙ sym used;
        count = h.count ∙ sym count;
        stored = λ keeps run. subst (λ (l : Log D g). IsStored l (committed_map m)) (sym log) (h.stored keeps (sym stopped ∙ run));
        doubt = λ keeps stop. subst (λ (l : Log D g). IsInDoubt (committed_map m) (g.may_leave (log_device l))) (sym log) (h.doubt keeps (sym stopped ∙ stop));
        active = h.active;
        history = record { versions = stands h.active m.base m.history h.history.versions; committed = (same.stands m.history).0 h.history.committed };
        kept = omega (arith, kept, oldest);
        few = h.few;
        running = subst (λ (es : List (ℕ × View)). AreRunning e'.history.committed.facts h.active m.base m.history es m.running) (sym entries) running;
        sorted = h.sorted;
        few_open = subst (λ (es : List (ℕ × View)). length es ≤ 64) (sym entries) h.few_open;
        gathered = gathered_same _ _ _ _ begins entries h.gathered;
      }

  -- ---- a commit that is refused, and ends the transaction

  pub ended_refused : {A : Type 0} (e e' : Engine D g) (s : ℕ) (failed : Bool) (f : A → Response) (fault : EngineFault) (refusal : Refusal)
      → CommitIsRefused e s refusal → EndsTransaction e e' s → fault ≡ Refusing refusal → Leads e e' s Commit failed (response_to f (Err fault))
  ended_refused e e' s failed f fault refusal refused leaves is = rw is (λ m h. (leave m s, leave_call e e' s leaves m h, refused m failed h))

  pub ended_overwritten : (e e' : Engine D g) (s : ℕ) (t u : View) (failed : Bool) (i : ℕ) (key : Bytes)
      → ((d : KeyWrite) → CommitIsRefused e s (Overwritten (slice_index_or t.writes i d).0)) → EndsTransaction e e' s
      → entry_of s e ≡ Some t → Some u ≡ entry_of s e → ((d : KeyWrite) → key ≡ (slice_index_or u.writes i d).0)
      → Leads e e' s Commit failed (Some (Refused (Overwritten key)))
  ended_overwritten e e' s t u failed i key refused leaves entry taken at =
      let d : KeyWrite = ([], None) in
      let is : key ≡ (slice_index_or t.writes i d).0 = at d ∙ ap (λ (x : View). (slice_index_or x.writes i d).0) (some_same (taken ∙ entry)) in
      ended_refused {A = ℕ} e e' s failed Number (Refusing (Overwritten key)) (Overwritten key)
      (subst (λ (k : Bytes). CommitIsRefused e s (Overwritten k)) (sym is) (refused d)) leaves refl

  refused_if : (e : Engine D g) (s : ℕ) (t : View) (refusal : Refusal) → entry_of s e ≡ Some t
      → ((m : State) (r : Running) (failed : Bool) (h : StandsFor e m) → Active e m h t r → commit m s r failed ≡ refuse m s refusal)
      → CommitIsRefused e s refusal
  refused_if e s t refusal entry says m failed h = let at = found_open e m s t h entry in step_is m s Commit failed _ at.is ∙ says m at.run failed h at.same

  pub stopped_refuses : (e : Engine D g) (s : ℕ) (t : View) → entry_of s e ≡ Some t → is_log_stopped e.log ≡ true → CommitIsRefused e s StoreStopped
  stopped_refuses e s t entry stopped = refused_if e s t StoreStopped entry (λ m r failed h same. rw (h.stopped ∙ stopped) refl)

  pub numbers_refuse : (e : Engine D g) (s : ℕ) (t : View) → entry_of s e ≡ Some t → is_log_stopped e.log ≡ false → 2 ^ 63 - 1 ≤ e.history.committed.facts.last
      → CommitIsRefused e s FullNumbers
  numbers_refuse e s t entry running numbers = refused_if e s t FullNumbers entry (λ m r failed h same.
      let few = h.few in let l = h.history.committed.last in rw (h.stopped ∙ running, eq-eqb (last m) (2 ^ 63 - 1) (omega arith)) refl)

  -- the machine's record of the transaction
  own_record : (e : Engine D g) (m : State) (t : View) (r : Running) (h : StandsFor e m) → HasItsWrites t → Active e m h t r
      → IsRecordOf t (e.history.committed.facts.last + 1) (record_to_commit m r)
  own_record e m t r h made same = grind (arith, common_steps)

  -- the machine's commit by its verdict
  validated : (e : Engine D g) (m : State) (s : ℕ) (t : View) (r : Running) (failed : Bool) (h : StandsFor e m) → Active e m h t r → IsToCheck e s t
      → HasItsWrites t
      → (o : Option Refusal) → HasVerdict e.history.committed.facts t o
      → commit m s r failed ≡ store_unless o m s (record_to_commit m r) failed
  validated e m s t r failed h same j made o says =
      let numbers = j.numbers in let l = h.history.committed.last in
      rw (
        h.stopped ∙ j.running,
        ne_eqb (last m) (2 ^ 63 - 1) (λ k. omega arith),
        says same.in_reach m.history h.history.committed (record_to_commit m r) (own_record e m t r h made same),
      ) refl

  -- that of what has no conflict
  cleared : (e : Engine D g) (m : State) (s : ℕ) (t : View) (r : Running) (failed : Bool) (h : StandsFor e m) → Active e m h t r → IsToCheck e s t
      → HasItsWrites t
      → (IsInReach e.history.committed.facts t → IsClear e.history.committed.facts t) → commit m s r failed ≡ store m s (record_to_commit m r) t.writes failed
  cleared e m s t r failed h same j made clear =
      validated e m s t r failed h same j made None clear ∙ ap (λ ws. store m s (record_to_commit m r) ws failed) (own_record e m t r h made same).writes

  -- what was found of the transaction's writes, and of what has committed
  module _ (e : Engine D g) (s : ℕ) (t : View) (j : IsToCheck e s t) (committed : CommittedValue) (history : HistoryValue) (found : committed
      ≡ history.committed) (now : e.history ≡ history)
      (ws : List KeyWrite) (is : ws ≡ t.writes) (made : (m : KeyMap) (qs : List Operation) → HasMade t m qs → ws ≡ writes m qs) where
    same : committed ≡ e.history.committed
    same = found ∙ sym (ap (λ (v : HistoryValue). v.committed) now)

    its_writes : HasItsWrites t
    its_writes m qs h = sym is ∙ made m qs h

    pub conflict_refuses : (refusal : Refusal) → HasVerdict committed.facts t (Some refusal) → CommitIsRefused e s refusal
    conflict_refuses refusal says =
        refused_if e s t refusal j.entry
        (λ m r failed h active. validated e m s t r failed h active j its_writes (Some refusal)
        (subst (λ (x : CommittedValue). HasVerdict x.facts t (Some refusal)) same says))

    pub overwritten_refuses : (i : ℕ) (d : KeyWrite) → (IsInReach committed.facts t → IsVerdict committed.facts t (verdicts.Overwritten i))
        → CommitIsRefused e s (Overwritten (slice_index_or t.writes i d).0)
    overwritten_refuses i d says = conflict_refuses (Overwritten (slice_index_or t.writes i d).0) (λ reach history stands r own.
        let said = says reach history stands r own in
        said.2 ∙ ap (λ (w : KeyWrite). Some (Overwritten w.0)) (sym (get_or_from_slice_get t.writes i said.0 d said.1)))

    is_clear : (IsInReach committed.facts t → IsClear committed.facts t) → IsInReach e.history.committed.facts t → IsClear e.history.committed.facts t
    is_clear clear = subst (λ (x : CommittedValue). IsInReach x.facts t → IsClear x.facts t) same clear

    pub full_refuses : (IsInReach committed.facts t → IsClear committed.facts t) → WritesSomething t.writes
        → sector_count e.log ≤ used_sectors e.log + body_sectors t.writes → CommitIsRefused e s FullLog
    full_refuses clear some full = refused_if e s t FullLog j.entry (λ m r failed h active.
        let used = h.used in let count = h.count in
        cleared e m s t r failed h active j its_writes (is_clear clear)
        ∙ store_full m s (record_to_commit m r) t.writes failed some (omega (arith, used, count, full)))

    pub to_commit : (IsInReach committed.facts t → IsClear committed.facts t) → HasLogRoom (used_sectors e.log) (sector_count e.log) t.writes → IsToCommit e s t
    to_commit clear room = record { asked = j; made = its_writes; clear = is_clear clear; room = room }

  -- ---- the end of the transaction, once memory is ready and whatever became of the log

  left_by : (e e' : Engine D g) (log : Log D g) (history : HistoryValue) (s : ℕ) → IsSameHistory e.history history
      → EndsTransaction (record e { log = log; history = history }) e' s
      → (m : State) → StandsFor e m → StandsFor (record e' { log = e.log }) (leave m s)
  left_by e e' log history s same leaves m h =
      leave_call (record e { history = history }) (record e' { log = e.log }) s
      (record { store = record { log = refl; history = leaves.store.history }; entries = leaves.entries; fewer = leaves.fewer; forgets = leaves.forgets }) m
      (record {
        state = same_with e (record e { history = history }) m refl refl refl same.committed
            (λ active base history. (same.stands active base history).0) h.state;
        little = same.little h.little;
      })

  -- ---- a commit in which the device failed

  pub ended_fault : {A : Type 0} (e e' : Engine D g) (log : Log D g) (history : HistoryValue) (s : ℕ) (t : View) (failed : Bool) (f : A
      → Response) (fault : EngineFault) → fault ≡ Refusing StoreFault → IsToCommit e s t
      → IsLogStopped e.log log t.writes → IsSameHistory e.history history → EndsTransaction (record e { log = log; history = history }) e' s → failed ≡ true
      → (g.keeps_model → LeavesInDoubt e.log log) → Leads e e' s Commit failed (response_to f (Err fault))
  ended_fault e e' log history s t failed f fault reported j stops same leaves fails doubt = rw reported (λ m h.
      let at = found_open e m s t h j.asked.entry in
      let used = h.used in let count = h.count in let fits = j.room stops.written in
      let after : State × Response = (record (leave m s) { stopped = true }, Refused StoreFault) in
      let is : step m s Commit failed ≡ after =
      step_is m s Commit failed _ at.is ∙ cleared e m s t at.run failed h at.same j.asked j.made j.clear
      ∙ store_fault m s (record_to_commit m at.run) t.writes failed stops.written (omega (arith, used, count, fits)) fails in
      let left = left_by e e' log history s same leaves m h in
      let reached = reached_by m s Commit failed after is h.reached in
      let in_doubt = λ (keeps : g.keeps_model). doubt keeps (committed_map m) (h.stored keeps j.asked.running) in
      (after.0, grind (arith, common_steps, both_ways), is))

  -- ---- a commit that is answered a number

  -- the machine's step, whether or not the device failed where nothing was written
  step_joined : (e : Engine D g) (s : ℕ) (t : View) (failed : Bool) → IsToCommit e s t → (WritesSomething t.writes → failed ≡ false)
      → (m : State) (h : StandsFor e m) (at : IsFound (Active e m h) s t m.running)
      → step m s Commit failed ≡ join_history m s (record_to_commit m at.run) (sectors_taken t.writes)
  step_joined e s t failed j quiet m h at =
      let used = h.used in let count = h.count in
      step_is m s Commit failed _ at.is ∙ cleared e m s t at.run failed h at.same j.asked j.made j.clear
      ∙ store_joined m s (record_to_commit m at.run) t.writes failed (λ some. let fits = j.room some in omega (arith, used, count, fits)) quiet

  -- memory was refused where nothing else was
  pub commit_memory : (e e' : Engine D g) (s : ℕ) (t : View) → IsToCommit e s t
      → e'.log ≡ e.log → e'.running.entries ≡ e.running.entries → e'.begins ≡ e.begins → IsSameHistory e.history e'.history
      → StandsForSame e e' × IsNotRefused e s Commit
  commit_memory e e' s t j log entries begins same =
      let there = λ (m : State). same_with e e' m log entries begins same.committed (λ active base history. (same.stands active base history).0) in
      let back = λ (m : State). same_with e' e m (sym log) (sym entries) (sym begins) (stand_back _ _ same.committed)
      (λ active base history. (same.stands active base history).1) in (
        (λ m. (there m, back m), same.little),
        λ m h. ap (λ (p : State × Response). is_refused p.1) (step_joined e s t false j (λ _. refl) m h (found_open e m s t h j.asked.entry)),
      )

  -- the committed map with the transaction's writes
  map_joined : (e : Engine D g) (s : ℕ) (t : View) (j : IsToCommit e s t) (m : State) (h : StandsFor e m) (at : IsFound (Active e m h) s t m.running)
      → committed_map (join_history m s (record_to_commit m at.run) (sectors_taken t.writes)).0 ≡ after_writes (committed_map m) t.writes
  map_joined e s t j m h at =
      map_at_next m.base m.history (record_to_commit m at.run) h.history.committed.numbered refl
      ∙ ap (after_writes (committed_map m)) (own_record e m t at.run h j.made at.same).writes

  pub joined : (e e' : Engine D g) (log : Log D g) (history new : HistoryValue) (now : Option (List ℕ)) (bs : List ℕ) (s : ℕ)
      (t u : View) (failed : Bool) (n : ℕ) → IsToCommit e s t
      → IsLogged e.log log t.writes
      → (g.keeps_model → WhereStored e.log (λ map. IsStored log (after_writes map t.writes))) → IsSameHistory e.history history
      → EndsTransaction (record e { log = log; history = history }) e' s
      → Some u ≡ entry_of s e → new.committed.facts.last ≡ e'.history.committed.facts.last + 1
      → (length e'.running.entries ≤ 64 → now ≡ Some (begins_of e'.running.entries)) → IfSome now (λ ns. bs ≡ ns) → Joins bs e'.history new u
      → (WritesSomething t.writes → failed ≡ false) → n ≡ e'.history.committed.facts.last + 1
      → Leads e (record e' { history = new; begins = now }) s Commit failed (Some (Number n))
  joined e e' log history new now bs s t u failed n j logged stored same leaves taken last' gathers numbers joins quiet number m h =
      let at = found_open e m s t h j.asked.entry in
      let r : Record = record_to_commit m at.run in
      let join : State × Response = join_history m s r (sectors_taken t.writes) in
      let is : step m s Commit failed ≡ join = step_joined e s t failed j quiet m h at in
      let left = left_by e e' log history s same leaves m h in
      let stay : StandForSame e.history.committed.facts e'.history.committed.facts =
      subst (λ (v : HistoryValue). StandForSame e.history.committed.facts v.committed.facts) (sym leaves.store.history) same.committed in
      let own = subst (λ (v : View). IsInReach e'.history.committed.facts v × IsRecordOf v (e'.history.committed.facts.last + 1) r)
      (sym (some_same (taken ∙ j.asked.entry))) (
        in_reach_still e.history.committed.facts e'.history.committed.facts t stay at.same.in_reach,
        subst (λ n. IsRecordOf t (n + 1) r) (sym stay.last) (own_record e m t at.run h j.made at.same),
      ) in
      let l = left.history.committed.last in let used = h.used in let taken' = logged.used in let log' = leaves.store.log in
      let long : length (m.history ++ r ∷ []) ≡ length m.history + 1 = length-append m.history (r ∷ []) in
      let counted : suc (length m.history) ≡ n = omega arith in
      let begins = begins_of e'.running.entries in
      let gathered : AreGathered now e'.running.entries = rw (gathers left.few_open) refl in
      let are : bs ≡ begins = subst (λ (o : Option (List ℕ)). IfSome o (λ ns. bs ≡ ns)) (gathers left.few_open) numbers in
      let join' = subst (λ ns. Joins ns e'.history new u) are joins in
      let active : ℕ → Bool = λ k. left.active k && is_among begins k in
      let later : (v : View) (x : Running) → IsRunning e'.history.committed.facts active m.base m.history v x
      → IsRunning new.committed.facts active m.base (m.history ++ r ∷ []) v x =
      λ v x k.
      let oldest' = join'.oldest in
      let own_among = subst (λ n. is_among begins n ≡ true) (sym k.begin)
      (and_parts (left.active x.begin) (is_among begins x.begin) k.is_active).1 in
      let asks = ap (λ reach. may_ask reach v.begin) join'.reach ∙ or_right (nat_le new.committed.facts.last v.begin) (is_among begins v.begin) own_among in
      grind (arith, common_steps, map_at-append m.base m.history r x.begin) in
      let oldest' = join'.oldest in
      let among = running_among e'.history.committed.facts left.active m.base m.history begins e'.running.entries (leave m s).running
      (λ k t. t) left.running in
      let running' = beside_weaker (λ v x. IsRunning e'.history.committed.facts active m.base m.history v x)
      (λ v x. IsRunning new.committed.facts active m.base (m.history ++ r ∷ []) v x) later e'.running.entries (leave m s).running among in
      let reached' = reached_by m s Commit failed join is h.reached in
      let stored' = λ (keeps : g.keeps_model). subst (IsStored log) (sym (map_joined e s t j m h at))
      (stored keeps (committed_map m) (h.stored keeps j.asked.running)) in
      let ask = begins_ask e'.history.committed.facts left.active m.base m.history e'.running.entries (leave m s).running left.running in
      let history' = join'.stands left.active m.base m.history r left.history ask own.0 own.1 in
      let little' = join'.little ask left.little in
      let numbers = j.asked.numbers in let runs = j.asked.running in
      (join.0, grind (arith, common_steps, both_ways), is ∙ ap (λ k. (join.0, Number k)) counted)

  -- the transaction that has ended was cleared, and memory alone was made ready since
  pub cleared_still : (e e' : Engine D g) (log : Log D g) (history : HistoryValue) (s : ℕ) (t u : View) (cleared : Cleared) → entry_of s e ≡ Some t
      → IsCleared e.history.committed.facts t cleared → IsSameHistory e.history history → EndsTransaction (record e { log = log; history = history }) e' s
      → Some u ≡ entry_of s e → IsCleared e'.history.committed.facts u cleared
  cleared_still e e' log history s t u cleared entry is same leaves taken =
      subst (λ (v : View). IsCleared e'.history.committed.facts v cleared) (sym (some_same (taken ∙ entry)))
      (still_cleared e.history.committed.facts e'.history.committed.facts t cleared
      (subst (λ (v : HistoryValue). StandForSame e.history.committed.facts v.committed.facts) (sym leaves.store.history) same.committed) is)

  -- where the session has written nothing, its transaction hasn't
  pub unwritten : (e : Engine D g) (s : ℕ) (t : View) (m : State) → StandsFor e m → IsToCommit e s t → IsReadOnly m s → t.writes ≡ []
  unwritten e s t m h j none = let at = found_open e m s t h j.asked.entry in j.made (snapshot m at.run) at.run.requests at.same.made ∙ none at.run at.is

  -- a crash during a commit that came as far as the log
  pub crash_stored : (e : Engine D g) (log : Log D g) (device : D) (s : ℕ) (t : View) → IsToCommit e s t → device ≡ log.device
      → SurvivesAppend e.log log t.writes
      → g.keeps_model → (m : State) → StandsFor e m → LeavesOnly g.moment g.left_since e.log.device device (IsLeftByCommit e m s)
  crash_stored e log device s t j same crash keeps m h =
      let at = found_open e m s t h j.asked.entry in
      let is = step_joined e s t false j (λ _. refl) m h at in
      let after : after_writes (committed_map m) t.writes ≡ committed_map (step m s Commit false).0 =
      sym (ap (λ (p : State × Response). committed_map p.0) is ∙ map_joined e s t j m h at) in
      rw same (weaker_crash g.moment g.left_since e.log.device log.device (λ c. HoldsMap c (committed_map m)
      ⊎ HoldsMap c (after_writes (committed_map m) t.writes)) (IsLeftByCommit e m s)
      (λ c y. inl (h.stopped ∙ j.asked.running, subst (λ (k : KeyMap). HoldsMap c (committed_map m) ⊎ HoldsMap c k) after y))
      (crash (committed_map m) (h.stored keeps j.asked.running)))
