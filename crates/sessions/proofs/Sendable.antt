-- Every reply of the machine can be sent, over a map in bounds and to requests in bounds.
use Rattle.model.specs.declared.refusals.Refusal.TheVariants as refusals
use Rattle.std.proofs.Common.{◌≡◌, ℕ, suc, ◌+◌, ◌-◌, ◌^◌, ◌<◌, ◌≤◌, Bool, true, List, [], ◌∷◌, ◌++◌, Option, Some}
use Rattle.std.proofs.Common.{None, refl, length, take, arith, nat_cmp, nat_lt, nat_le, ◌==◌, if◌then◌else◌}
use Rattle.std.proofs.Common.{length-append, find as first, not}
use Rattle.std.proofs.lemmas.Bool.{cond_both}
use Rattle.std.proofs.lemmas.Bool.Decides.{nat_tests}
use Rattle.std.proofs.lemmas.Grind.{common_steps}
use Rattle.std.proofs.lemmas.List.Elements.{All-from_recursion}
use Rattle.std.specs.BTreeSet.{insert_key}
use Rattle.std.specs.Cmp.Lexicographic.{slice_cmp}
use Rattle.std.specs.FinMap.Entries.{put}
use Rattle.std.specs.List.{AllByRecursion}
use Rattle.model.proofs.Answered.{by_case}
use Rattle.model.proofs.Elements.{all-append, all-filter}
use Rattle.model.proofs.Lookups.{bounds-put, bounds-where_key}
use Rattle.model.proofs.Machines.{at_found}
use Rattle.model.specs.Dependency.{is_dangerous_pivot}
use Rattle.model.specs.History.{Record, map_at}
use Rattle.model.specs.Key.{IsKey, IsValue}
use Rattle.model.specs.Machine.{State, Running, last, snapshot, step, leave, running_of, step_of, commit, store}
use Rattle.model.specs.Machine.{store_unless, step_outside, step_inside, record_to_commit, join_history, refuse}
use Rattle.model.specs.Machine.{body_sectors, with_running}
use Rattle.model.specs.Map.{Bytes, KeyMap, KeyWrite, IsInBounds, value_at, after_write, after_writes, is_in_range}
use Rattle.model.specs.Map.{pairs_in_range}
use Rattle.model.specs.Operations.{Operation, Response}
use Rattle.model.specs.Operations.Operation.{Begin, Get, Set, Del, Range, Commit, Abort, Faulty}
use Rattle.model.specs.Operations.Response.{Value, Pairs, Refused}
use Rattle.model.specs.PrivateCopy.{PrivateCopy, copy_of, copy_after, respond, values_at, writes, after_put}
use Rattle.model.specs.Verdict.{verdict, conflict_of, pivot_refusal}
use Rattle.model.specs.declared.refusals.Refusal.{Refusal}
use Rattle.resp.specs.Replies.{IsSendable}

-- ---- a private copy

-- a key's bytes are bytes, since a refusal may name it
abbrev pub IsKeyOfBytes : Bytes → Type 0
IsKeyOfBytes k = IsKey k × AllByRecursion (λ b. b < 256) k

-- what a request of the grammar asks: keys, values and limits are in bounds
abbrev pub IsFitOperation : Operation → Type 0
IsFitOperation (Set k v) = IsKeyOfBytes k × IsValue v
IsFitOperation (Del k) = IsKeyOfBytes k
IsFitOperation (Range lo hi limit) = limit ≤ 128
IsFitOperation (Faulty refusal) = IsSendable (Refused refusal)
IsFitOperation other = Unit {0}

abbrev IsFitValue : Option Bytes → Type 0
IsFitValue None = Unit {0}
IsFitValue (Some v) = IsValue v

abbrev IsFitWrite : KeyWrite → Type 0
IsFitWrite w = IsKeyOfBytes w.0 × IsFitValue w.1

record IsFitCopy (c : PrivateCopy) : Type 0 where
  pub contents : IsInBounds c.contents
  pub written : AllByRecursion IsKeyOfBytes c.written

value_fits : (m : KeyMap) (k : Bytes) → IsInBounds m → IsFitValue (value_at m k)
value_fits [] k h = tt
value_fits (e ∷ es) k h = grind (arith, common_steps, value_fits es k h.2)

write_fits : (m : KeyMap) (k : Bytes) (v : Option Bytes) → IsKeyOfBytes k → IsFitValue v → IsInBounds m → IsInBounds (after_write m k v)
write_fits m k None hk hv h = bounds-where_key _ m h
write_fits m k (Some v) hk hv h = bounds-put m k v hk.0 hv h

writes_fit : (ws : List KeyWrite) (m : KeyMap) → AllByRecursion IsFitWrite ws → IsInBounds m → IsInBounds (after_writes m ws)
writes_fit [] m ok h = h
writes_fit (w ∷ ws) m ok h = writes_fit ws (after_write m w.0 w.1) ok.1 (write_fits m w.0 w.1 ok.0.0 ok.0.1 h)

key_inserted : (ks : List Bytes) (k : Bytes) → IsKeyOfBytes k → AllByRecursion IsKeyOfBytes ks
    → AllByRecursion IsKeyOfBytes (insert_key (slice_cmp nat_cmp) ks k)
key_inserted [] k h all = (h, tt)
key_inserted (x ∷ xs) k h all = grind (arith, common_steps, key_inserted xs k h all.1)

values_fit : (m : KeyMap) (ks : List Bytes) → IsInBounds m → AllByRecursion IsKeyOfBytes ks → AllByRecursion IsFitWrite (values_at m ks)
values_fit m [] h all = tt
values_fit m (k ∷ ks) h all = ((all.0, value_fits m k h), values_fit m ks h all.1)

-- ---- its responses

put_fits : (c : PrivateCopy) (k : Bytes) (v : Option Bytes) → IsFitCopy c → IsKeyOfBytes k → IsFitValue v → IsFitCopy (after_put c k v).1
put_fits c k v h hk hv = grind (arith, common_steps, write_fits, key_inserted)

respond_fits : (c : PrivateCopy) (q : Operation) → IsFitCopy c → IsFitOperation q → IsFitCopy (respond c q).1
respond_fits c (Set k v) h fits = put_fits c k (Some v) h fits.0 fits.1
respond_fits c (Del k) h fits = put_fits c k None h fits tt
respond_fits c (Get k) h fits = grind (arith, common_steps)
respond_fits c (Range lo hi limit) h fits = grind (arith, common_steps)
respond_fits c q h fits = h

value_sendable : (v : Option Bytes) → IsFitValue v → IsSendable (Value v)
value_sendable None h = tt
value_sendable (Some v) h = omega arith

abbrev IsShort : Bytes × Bytes → Type 0
IsShort p = (length p.0 < 2 ^ 64) × (length p.1 < 2 ^ 64)

pairs_short : (n : ℕ) (m : KeyMap) → IsInBounds m → (length (take n m) ≤ n) × AllByRecursion IsShort (take n m)
pairs_short (suc n) (e ∷ es) h = let rest = pairs_short n es h.2 in let key = h.0 in let value = h.1 in (omega arith, ((omega arith, omega arith), rest.1))
pairs_short n m h = grind (arith, common_steps)

pairs_sendable : (n : ℕ) (m : KeyMap) → n ≤ 128 → IsInBounds m → IsSendable (Pairs (take n m))
pairs_sendable n m few h = let short = pairs_short n m h in (omega arith, All-from_recursion IsShort (take n m) short.1)

respond_sendable : (c : PrivateCopy) (q : Operation) → IsFitCopy c → IsFitOperation q → IsSendable (respond c q).0
respond_sendable c (Get k) h fits = let there = value_sendable _ (value_fits c.contents k h.contents) in grind (arith, common_steps)
respond_sendable c (Range lo hi limit) h fits =
    let there = pairs_sendable limit (pairs_in_range c.contents lo hi) fits (bounds-where_key (is_in_range lo hi) c.contents h.contents) in
    grind (arith, common_steps)
respond_sendable c (Set k v) h fits = grind (arith, common_steps)
respond_sendable c (Del k) h fits = grind (arith, common_steps)
respond_sendable c (Faulty refusal) h fits = fits
respond_sendable c q h fits = tt

copy_fits : (c : PrivateCopy) (qs : List Operation) → IsFitCopy c → AllByRecursion IsFitOperation qs → IsFitCopy (copy_after c qs)
copy_fits c [] h all = h
copy_fits c (q ∷ qs) h all = copy_fits (respond c q).1 qs (respond_fits c q h all.0) all.1

-- ---- the machine

abbrev AreFitRecords : List Record → Type 0
AreFitRecords history = AllByRecursion (λ r. (r.commit < 2 ^ 63) × AllByRecursion IsFitWrite r.writes) history

-- a state over a map in bounds, whose transactions asked for what is in bounds
pub record IsFitState (st : State) : Type 0 where
  pub base : IsInBounds st.base
  pub few : length st.history < 2 ^ 63
  pub records : AreFitRecords st.history
  pub running : AllByRecursion (λ e. AllByRecursion IsFitOperation e.1.requests) st.running

map_fits : (base : KeyMap) (rs : List Record) (n : ℕ) → IsInBounds base → AreFitRecords rs → IsInBounds (map_at base rs n)
map_fits base [] n h all = h
map_fits base (r ∷ rs) n h all = map_fits (if nat_le r.commit n then after_writes base r.writes else base) rs n
    (by_case IsInBounds (nat_le r.commit n) _ _ (writes_fit r.writes base all.0.1 h) h) all.1

-- ---- the conflict that a verdict names

abbrev IsSendableRefusal : Option Refusal → Type 0
IsSendableRefusal None = Unit {0}
IsSendableRefusal (Some refusal) = IsSendable (Refused refusal)

pivot_is_sendable : (p : Record → Bool) (rs : List Record) → AreFitRecords rs → IsSendableRefusal (pivot_refusal (first p rs))
pivot_is_sendable p [] all = tt
pivot_is_sendable p (r ∷ rs) all = let low = all.0.0 in
    by_case (λ o. IsSendableRefusal (pivot_refusal o)) (p r) _ _ (omega arith) (pivot_is_sendable p rs all.1)

key_is_sendable : (p : KeyWrite → Bool) (ws : List KeyWrite) (other : Option Refusal) → AllByRecursion IsFitWrite ws → IsSendableRefusal other
    → IsSendableRefusal (conflict_of (first p ws) other)
key_is_sendable p [] other all h = h
key_is_sendable p (w ∷ ws) other all h =
    by_case (λ o. IsSendableRefusal (conflict_of o other)) (p w) _ _ (All-from_recursion (λ b. b < 256) w.0 all.0.0.1) (key_is_sendable p ws other all.1 h)

verdict_is_sendable : (history : List Record) (r : Record) → AreFitRecords history → AllByRecursion IsFitWrite r.writes → IsSendableRefusal (verdict history r)
unfolding verdict
verdict_is_sendable history r all ws = key_is_sendable _ r.writes _ ws (by_case IsSendableRefusal (is_dangerous_pivot (history ++ r ∷ []) r)
    (Some refusals.PivotSelf)
    (pivot_refusal (first (is_dangerous_pivot (history ++ r ∷ [])) history)) tt (pivot_is_sendable (is_dangerous_pivot (history ++ r ∷ [])) history all))

-- ---- the steps

-- an answer that can be sent, and a state in which the next ones can be
abbrev pub IsFitAnswer : State × Response → Type 0
IsFitAnswer a = IsFitState a.0 × IsSendable a.1

each_put : (P : Running → Type 0) (es : List (ℕ × Running)) (s : ℕ) (t : Running) → P t → AllByRecursion (λ e. P e.1) es
    → AllByRecursion (λ e. P e.1) (put nat_cmp s t es)
each_put P [] s t h all = (h, tt)
each_put P (e ∷ es) s t h all = grind (arith, common_steps, each_put P es s t h all.1)

module _ (st : State) (h : IsFitState st) where
  pub leave_fits : (s : ℕ) → IsFitState (leave st s)
  leave_fits s = record {
    base = h.base;
    few = h.few;
    records = h.records;
    running = all-filter (λ (e : ℕ × Running). AllByRecursion IsFitOperation e.1.requests) (λ e. not (e.0 == s)) st.running h.running;
  }

  joins : (s : ℕ) (r : Record) (sectors : ℕ) → r.commit ≡ suc (last st) → (last st ≡ 2 ^ 63 - 1 → ⊥) → AllByRecursion IsFitWrite r.writes
      → IsFitAnswer (join_history st s r sectors)
  joins s r sectors e few ws = (
    record {
      base = h.base;
      few = let below = h.few in let one = length-append st.history (r ∷ []) in omega arith;
      records = all-append _ st.history (r ∷ []) h.records ((let below = h.few in omega arith, ws), tt);
      running = (leave_fits s).running;
    },
    let below = h.few in omega arith,
  )

  refuses : (s : ℕ) (refusal : Refusal) → IsSendable (Refused refusal) → IsFitAnswer (refuse st s refusal)
  refuses s refusal can_send = (leave_fits s, can_send)

  stops : (s : ℕ) → IsFitAnswer (record (leave st s) { stopped = true }, Refused refusals.StoreFault)
  stops s = (record { base = h.base; few = h.few; records = h.records; running = (leave_fits s).running }, tt)

  stores : (s : ℕ) (r : Record) (ws : List KeyWrite) (failed : Bool) → r.commit ≡ suc (last st) → (last st ≡ 2 ^ 63 - 1 → ⊥)
      → AllByRecursion IsFitWrite r.writes → IsFitAnswer (store st s r ws failed)
  stores s r [] failed e few all = joins s r _ e few all
  stores s r (w ∷ ws) failed e few all =
      by_case IsFitAnswer (nat_le st.count (st.used + body_sectors (w ∷ ws))) _ _ (refuses s refusals.FullLog tt)
      (by_case IsFitAnswer failed _ _ (stops s) (joins s r _ e few all))

  module _ (s : ℕ) (t : Running) (own : AllByRecursion IsFitOperation t.requests) where
    snapshot_fits : IsFitCopy (copy_after (copy_of (snapshot st t)) t.requests)
    snapshot_fits = copy_fits (copy_of (snapshot st t)) t.requests
        (record { contents = map_fits st.base st.history t.begin h.base h.records; written = tt }) own

    own_writes : AllByRecursion IsFitWrite (writes (snapshot st t) t.requests)
    own_writes = values_fit _ _ snapshot_fits.contents snapshot_fits.written

    judged : (o : Option Refusal) (failed : Bool) → IsSendableRefusal o → (last st ≡ 2 ^ 63 - 1 → ⊥)
        → IsFitAnswer (store_unless o st s (record_to_commit st t) failed)
    judged None failed can_send few = stores s (record_to_commit st t) _ failed refl few own_writes
    judged (Some refusal) failed can_send few = refuses s refusal can_send

    commits : (failed : Bool) → IsFitAnswer (commit st s t failed)
    commits failed = cond_both st.stopped _ _ IsFitAnswer (λ _. refuses s refusals.StoreStopped tt)
        (λ _. cond_both (last st == 2 ^ 63 - 1) _ _ IsFitAnswer (λ _. refuses s refusals.FullNumbers tt)
        (λ differs. judged _ failed (verdict_is_sendable st.history (record_to_commit st t) h.records own_writes) (λ e. grind (arith, nat_tests))))

    runs : (r : Running) → AllByRecursion IsFitOperation r.requests → IsFitState (with_running st s r)
    runs r all = record {
      base = h.base;
      few = h.few;
      records = h.records;
      running = each_put (λ r. AllByRecursion IsFitOperation r.requests) st.running s r all h.running;
    }

    inside : (q : Operation) (failed : Bool) → IsFitOperation q → IsFitAnswer (step_inside st s t q failed)
    inside Commit failed fits = commits failed
    inside Abort failed fits = (leave_fits s, tt)
    inside q failed fits = (runs _ (all-append IsFitOperation t.requests (q ∷ []) own (fits, tt)), respond_sendable _ q snapshot_fits fits)

  outside : (s : ℕ) (q : Operation) → IsFitOperation q → IsFitAnswer (step_outside st s q)
  outside s Begin fits = by_case IsFitAnswer st.stopped _ _ (h, tt)
      (by_case IsFitAnswer (nat_lt (length st.running) 64) _ _ (runs s (record { begin = 0; requests = []; replies = [] }) tt _ tt, tt) (h, tt))
  outside s (Faulty refusal) fits = (h, fits)
  outside s q fits = (h, tt)

  pub step_fits : (s : ℕ) (q : Operation) (failed : Bool) → IsFitOperation q → IsFitAnswer (step st s q failed)
  unfolding step
  step_fits s q failed fits = by (running_of st s) refl
    where
      by : (o : Option Running) → running_of st s ≡ o → IsFitAnswer (step_of o st s q failed)
      by None e = outside s q fits
      by (Some t) e = inside s t (at_found (λ (t : Running). AllByRecursion IsFitOperation t.requests) s st.running h.running t e) q failed fits
