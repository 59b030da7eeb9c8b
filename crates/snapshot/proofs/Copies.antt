-- A transaction's writes and marks against its private copy.
use Rattle.model.specs.declared.refusals.Refusal.TheVariants as refusal
use Rattle.write_buffer.specs.Buffered as buffer
use Rattle.write_buffer.specs.declared.faults.WritesFault as faults
use Rattle.write_buffer.specs.declared.faults.WritesFault.TheVariants as writes_fault
use Rattle.std.proofs.Common.{◌≡◌, ◌≢◌, ℕ, suc, Bool, true, false, T, cond, List, [], ◌∷◌, ◌++◌, length, Option, Some}
use Rattle.std.proofs.Common.{None, Result, Ok, Err, refl, sym, ap, subst, ◌∙◌, arith, inl, inr}
use Rattle.std.proofs.lemmas.Bool.{both_ways, cases_Bool, not-true, not-false}
use Rattle.std.proofs.lemmas.Grind.{common_steps}
use Rattle.std.specs.BTreeSet.{insert_key}
use Rattle.std.specs.Borrow.{Bor}
use Rattle.std.specs.Cmp.Lexicographic.{slice_cmp, nat_list_cmp_total}
use Rattle.std.specs.FinMap.Entries.{put, is_sorted, below_all, find-put, is_sorted-put}
use Rattle.std.specs.List.{AllByRecursion, list_any}
use Rattle.std.specs.Ordering.{is_eq, nat_cmp}
use Rattle.std.specs.Prelude.{is_some, ◌↔◌, option_copied, OnErr, IsTrue, OnOk}
use Rattle.std.specs.declared.cmp.Ordering.TheVariants.{Less}
use Rattle.model.proofs.InOrder.{parts, less, below_later, find_none}
use Rattle.model.proofs.Lookups.{same_key, same_key_comm, same_key_itself, same_map, value_after_write}
use Rattle.model.proofs.Lookups.{IsMap-after_write, IsMap-after_writes}
use Rattle.model.proofs.Steps.{copy_after-push}
use Rattle.model.specs.Map.{Bytes, KeyMap, KeyWrite, IsMap, key_cmp, is_same_key, value_at, after_write, after_writes}
use Rattle.model.specs.Operations.{Operation, Response}
use Rattle.model.specs.Operations.Operation.{Get, Set, Del}
use Rattle.model.specs.Operations.Response.{Done, Value, Refused}
use Rattle.model.specs.PrivateCopy.{PrivateCopy, Mark, respond, answer, after_read, writes, values_at}
use Rattle.model.specs.PrivateCopy.{after_put as copy_put}
use Rattle.model.specs.PrivateCopy.Mark.{OfKey}
use Rattle.versions.specs.Chains.{ChainsValue}
use Rattle.versions.specs.Meaning.{map_seen}
use Rattle.marks.specs.Marked.{is_full_for_mark}
use Rattle.write_buffer.specs.Buffered.{AreEntries, last_write, with_write}
use Rattle.snapshot.specs.Made.{HasMade, MakesOneMore, IsFullWhen, IsDoneReply, IsFault, is_refused}
use Rattle.snapshot.specs.View.{View, new_view, or_else, value_read, after_get, keys_of, copy_held, is_full_get}
use Rattle.snapshot.specs.View.{marked, view_after_put}
use Rattle.snapshot.specs.declared.faults.SnapshotFault.{SnapshotFault}
use Rattle.snapshot.specs.declared.faults.SnapshotFault.TheVariants.{FullWrites, FullMarks, Memory}

-- ---- lookups over writes

-- what the map has at a key after the writes
pub value_held : (ws : List KeyWrite) (m : KeyMap) (q : Bytes) → T (is_sorted (slice_cmp nat_cmp) ws)
    → value_at (after_writes m ws) q ≡ or_else (last_write ws q) (value_at m q)
value_held [] m q h = refl
value_held (w ∷ ws) m q h =
    let p = parts (below_all (slice_cmp nat_cmp) w.0 ws) (is_sorted (slice_cmp nat_cmp) ws) h in
    let rest = value_held ws (after_write m w.0 w.1) q p.1 in
    let none = find_none key_cmp w.0 ws p.0 in
    grind (arith, common_steps, value_after_write m w.0 w.1 q, same_key q w.0)

pub any_keys : (k : Bytes) (ws : List KeyWrite) → list_any (is_same_key k) (keys_of ws) ≡ is_some (last_write ws k)
any_keys k [] = refl
any_keys k (w ∷ ws) = grind (arith, common_steps, any_keys k ws)

pub length-keys_of : (ws : List KeyWrite) → length (keys_of ws) ≡ length ws
length-keys_of [] = refl
length-keys_of (w ∷ ws) = ap (λ n. suc n) (length-keys_of ws)

keys-put : (k : Bytes) (v : Option Bytes) (ws : List KeyWrite) → keys_of (put (slice_cmp nat_cmp) k v ws) ≡ insert_key (slice_cmp nat_cmp) (keys_of ws) k
keys-put k v [] = refl
keys-put k v (w ∷ ws) = grind (arith, common_steps, keys-put k v ws)

keys-put_same : (k : Bytes) (v : Option Bytes) (ws : List KeyWrite) → T (is_sorted (slice_cmp nat_cmp) ws) → is_some (last_write ws k) ≡ true
    → keys_of (put (slice_cmp nat_cmp) k v ws) ≡ keys_of ws
keys-put_same k v [] h e = absurd (both_ways _ refl e)
keys-put_same k v (w ∷ ws) h e =
    let p = parts (below_all (slice_cmp nat_cmp) w.0 ws) (is_sorted (slice_cmp nat_cmp) ws) h in
    let below = λ (o : key_cmp k w.0 ≡ Less). find_none key_cmp k ws (below_later nat_list_cmp_total k w.0 ws o p.0) in
    grind (arith, common_steps, keys-put_same k v ws p.1, below)

pub contents-put : (m : KeyMap) (k : Bytes) (v : Option Bytes) (ws : List KeyWrite) → IsMap m → T (is_sorted (slice_cmp nat_cmp) ws)
    → after_writes m (put (slice_cmp nat_cmp) k v ws) ≡ after_write (after_writes m ws) k v
contents-put m k v ws h s = same_map (after_writes m (put (slice_cmp nat_cmp) k v ws)) (after_write (after_writes m ws) k v)
    (IsMap-after_writes m (put (slice_cmp nat_cmp) k v ws) h) (IsMap-after_write (after_writes m ws) k v (IsMap-after_writes m ws h)) (λ q.
    let found = find-put (slice_cmp nat_cmp) nat_list_cmp_total q k v ws in
    let held = value_held (put (slice_cmp nat_cmp) k v ws) m q (is_sorted-put (slice_cmp nat_cmp) nat_list_cmp_total k v ws s) in
    grind (arith, common_steps, value_held ws m q s, value_after_write (after_writes m ws) k v q))

-- ---- a mark

pub marked_as : (t : View) (m : KeyMap) (mark : Mark) (response : Response) → is_full_for_mark t.marks mark ≡ false
    → after_read (copy_held t m) mark response ≡ (response, copy_held (marked t mark) m)
marked_as t m mark response e = grind (arith, common_steps, not-false)

pub refused_as : (t : View) (m : KeyMap) (mark : Mark) (response : Response) → is_full_for_mark t.marks mark ≡ true
    → (after_read (copy_held t m) mark response).0 ≡ Refused refusal.FullMarks
refused_as t m mark response e = grind (arith, common_steps, both_ways, not-true)

-- ---- a read of a key

module _ (t : View) (m : KeyMap) (k : Bytes) (h : AreEntries t.writes) where
  value_is : value_at (after_writes m t.writes) k ≡ value_read t m k
  value_is = value_held t.writes m k h.sorted

  -- a mark for which there is room
  marking : (response : Response) → is_full_for_mark t.marks (OfKey k) ≡ false
      → after_read (copy_held t m) (OfKey k) response ≡ (response, copy_held (marked t (OfKey k)) m)
  marking response e = marked_as t m (OfKey k) response e

  pub respond-get : is_full_get t k ≡ false → respond (copy_held t m) (Get k) ≡ (Value (value_read t m k), copy_held (after_get t k) m)
  respond-get e = grind (arith, common_steps, any_keys, marking, value_is)

  pub respond-get_full : is_full_get t k ≡ true → (respond (copy_held t m) (Get k)).0 ≡ Refused refusal.FullMarks
  respond-get_full e = grind (arith, common_steps, any_keys, both_ways, refused_as)

-- ---- a write of a key

module _ (t : View) (m : KeyMap) (k : Bytes) (v : Option Bytes) (h : AreEntries t.writes) where
  pub respond-put : IsMap m → buffer.is_full_for_key t.writes k ≡ false → copy_put (copy_held t m) k v ≡ (Done, copy_held (view_after_put t k v) m)
  respond-put is_map e = grind (arith, common_steps, contents-put, any_keys, keys-put_same, length-keys_of, not-false, keys-put)

  pub respond-put_full : buffer.is_full_for_key t.writes k ≡ true → (copy_put (copy_held t m) k v).0 ≡ Refused refusal.FullWrites
  respond-put_full e = grind (arith, common_steps, any_keys, both_ways, length-keys_of, not-true)

-- ---- what the calls answer, after own requests

pub answer_held : (t : View) (m : KeyMap) (qs : List Operation) (q : Operation) → HasMade t m qs → answer m qs q ≡ (respond (copy_held t m) q).0
answer_held t m qs q h = ap (λ c. (respond c q).0) (sym h.copy)

-- the fault of a read is the response, or memory was refused
pub read_fault : (e : SnapshotFault) (full : Bool) (response : Response) → e ≢ FullWrites → (◌≡◌ {A = SnapshotFault} e FullMarks ↔ IsTrue full)
    → (full ≡ true → response ≡ Refused refusal.FullMarks) → (full ≡ false → is_refused response ≡ false) → IsFault e response
read_fault e full response never iff refused kept = grind (arith, common_steps, cases_Bool)

pub get-made : (t : View) (m : KeyMap) (qs : List Operation) (k : Bytes) → is_full_get t k ≡ false → HasMade t m qs
    → HasMade (after_get t k) m (qs ++ Get k ∷ [])
get-made t m qs k e h = grind (arith, common_steps, respond-get, copy_after-push)

pub get-leaves : (t u : View) (k : Bytes) → is_full_get t k ≡ false → u ≡ after_get t k → MakesOneMore t u (Get k)
get-leaves t u k room after = λ m qs h. subst (λ (w : View). HasMade w m (qs ++ Get k ∷ [])) (sym after) (get-made t m qs k room h)

pub get-value : (t : View) (m : KeyMap) (qs : List Operation) (k : Bytes) (v : Option (Bor Bytes)) → is_full_get t k ≡ false
    → option_copied v ≡ value_read t m k → HasMade t m qs → answer m qs (Get k) ≡ Value (option_copied v)
get-value t m qs k v e is h = answer_held t m qs (Get k) h ∙ ap (λ (r : Response × PrivateCopy). r.0) (respond-get t m k h.entries e) ∙ ap Value (sym is)

pub get-fault : (t : View) (m : KeyMap) (qs : List Operation) (k : Bytes) (e : SnapshotFault) → e ≢ FullWrites
    → (◌≡◌ {A = SnapshotFault} e FullMarks ↔ IsTrue (is_full_get t k)) → HasMade t m qs → IsFault e (answer m qs (Get k))
get-fault t m qs k e never iff h = grind (arith, common_steps, read_fault, answer_held, respond-get_full, respond-get)

-- the request that writes the value, or deletes
abbrev pub write_of : Bytes → Option Bytes → Operation
write_of k None = Del k
write_of k (Some v) = Set k v

respond_write : (c : PrivateCopy) (k : Bytes) (v : Option Bytes) → respond c (write_of k v) ≡ copy_put c k v
respond_write c k None = refl
respond_write c k (Some v) = refl

pub put-made : (t : View) (m : KeyMap) (qs : List Operation) (k : Bytes) (v : Option Bytes) → AreEntries (with_write t.writes k v)
    → buffer.is_full_for_key t.writes k ≡ false → HasMade t m qs → HasMade (view_after_put t k v) m (qs ++ write_of k v ∷ [])
put-made t m qs k v entries e h = grind (arith, common_steps, respond_write, respond-put, copy_after-push)

pub put-done : (t : View) (m : KeyMap) (qs : List Operation) (k : Bytes) (v : Option Bytes) → buffer.is_full_for_key t.writes k ≡ false → HasMade t m qs
    → answer m qs (write_of k v) ≡ Done
put-done t m qs k v e h =
    answer_held t m qs (write_of k v) h
    ∙ ap (λ (r : Response × PrivateCopy). r.0) (respond_write (copy_held t m) k v ∙ respond-put t m k v h.entries h.is_map e)

-- a call that answered Ok was not refused
-- the clauses of a write, by what the buffer answered
pub put-refused : (t : View) (m : KeyMap) (qs : List Operation) (k : Bytes) (v : Option Bytes) → buffer.is_full_for_key t.writes k ≡ true → HasMade t m qs
    → answer m qs (write_of k v) ≡ Refused refusal.FullWrites
put-refused t m qs k v full h =
    answer_held t m qs (write_of k v) h ∙ ap (λ (r : Response × PrivateCopy). r.0) (respond_write (copy_held t m) k v) ∙ respond-put_full t m k v h.entries full

pub put-granted : (t : View) (m : KeyMap) (qs : List Operation) (k : Bytes) (v : Option Bytes) → buffer.is_full_for_key t.writes k ≡ false → HasMade t m qs
    → is_refused (answer m qs (write_of k v)) ≡ false
put-granted t m qs k v room h = ap is_refused (put-done t m qs k v room h)

-- what the buffer answered to a write
pub record Answered (r : Result (Unit {0}) faults.WritesFault) (old new : List KeyWrite) (k : Bytes) (v : Option Bytes) : Type 0 where
  pub ok : OnOk r (new ≡ with_write old k v)
  pub err : OnErr r (new ≡ old)
  pub entries : AreEntries new
  pub full : (r ≡ Err writes_fault.FullWrites) ↔ IsTrue (buffer.is_full_for_key old k)

abbrev pub as_fault : Result (Unit {0}) faults.WritesFault → Result (Unit {0}) SnapshotFault
as_fault (Ok x) = Ok x
as_fault (Err writes_fault.FullWrites) = Err FullWrites
as_fault (Err writes_fault.Memory) = Err Memory

room_after : (r : Result (Unit {0}) faults.WritesFault) (b : Bool) → ((r ≡ Err writes_fault.FullWrites) ↔ IsTrue b) → (r ≡ Err writes_fault.FullWrites → ⊥)
    → b ≡ false
room_after r b iff other = elim (cases_Bool b) [ inl t ↦ absurd (other (iff.1 t)) | inr f ↦ f ]

pub write-reply : (r : Result (Unit {0}) faults.WritesFault) (t : View) (new : List KeyWrite) (m : KeyMap) (qs : List Operation) (k : Bytes) (v : Option Bytes)
    → Answered r t.writes new k v → HasMade t m qs → IsDoneReply (as_fault r) (answer m qs (write_of k v))
write-reply r t new m qs k v answered made = grind (arith, common_steps, put-done, room_after, put-refused, put-granted)

pub write-made : (r : Result (Unit {0}) faults.WritesFault) (t : View) (new : List KeyWrite) (k : Bytes) (v : Option Bytes) → Answered r t.writes new k v
    → OnOk (as_fault r) (MakesOneMore t (record t { writes = new }) (write_of k v))
write-made r t new k v answered = grind (arith, common_steps, put-made, room_after)

pub write-full : (r : Result (Unit {0}) faults.WritesFault) (old new : List KeyWrite) (k : Bytes) (v : Option Bytes) → Answered r old new k v
    → (as_fault r ≡ Err FullWrites) ↔ IsTrue (buffer.is_full_for_key old k)
write-full r old new k v answered = grind (arith, common_steps)

-- the mark of a read changes no answer
pub read-after_get : (t u : View) (v : ChainsValue) (k : Bytes) → u ≡ after_get t k → value_read u (map_seen v u.begin) k ≡ value_read t (map_seen v t.begin) k
read-after_get t u v k e = let same = ap (λ (u : View). value_read u (map_seen v u.begin) k) e in grind (arith, common_steps)

pub room_of : {B : Type 0} {x : B} {b : Bool} → IsFullWhen (Ok x) b → b ≡ false
room_of {B} {x} {b} iff = elim (cases_Bool b) [ inl t ↦ let e = iff.1 t in cc | inr f ↦ f ]

pub ok_iff : {A : Type 0} {b : Bool} (x : A) → b ≡ false → IsFullWhen (Ok x) b
ok_iff {A} {b} x f = (λ e. cc, λ t. absurd (both_ways b f t))

-- between faults and results that are faults
same_fault : {A : Type 0} (e f : SnapshotFault) → ◌≡◌ {A = Result A SnapshotFault} (Err e) (Err f) → e ≡ f
same_fault e f is = cc

pub fault_iff : {B : Type 0} {e : SnapshotFault} {b : Bool} → IsFullWhen {A = B} (Err e) b → (e ≡ FullMarks) ↔ IsTrue b
fault_iff {B} {e} {b} iff = (λ is. iff.0 (ap Err is), λ t. same_fault e FullMarks (iff.1 t))

pub err_iff : {A B : Type 0} {e : SnapshotFault} {b : Bool} → IsFullWhen {A = B} (Err e) b → IsFullWhen {A = A} (Err e) b
err_iff {A} {B} {e} {b} iff = (λ is. iff.0 (ap Err (same_fault e FullMarks is)), λ t. ap Err (same_fault e FullMarks (iff.1 t)))

pub never_of : {B : Type 0} {e : SnapshotFault} → ((◌≡◌ {A = Result B SnapshotFault} (Err e) (Err FullWrites)) → ⊥) → e ≢ FullWrites
never_of {B} {e} h is = h (ap Err is)

-- ---- what the own requests wrote and read

all_apart : (x : KeyWrite) (ws us : List KeyWrite) → T (below_all (slice_cmp nat_cmp) x.0 us) → AllByRecursion (λ w. last_write ws w.0 ≡ Some w.1) us
    → AllByRecursion (λ w. last_write (x ∷ ws) w.0 ≡ Some w.1) us
all_apart x ws [] b h = tt
all_apart x ws (u ∷ us) b h = let y = parts _ _ b in
    (ap (λ c. cond c (Some x.1) (last_write ws u.0)) (same_key_comm u.0 x.0 ∙ ap is_eq (less _ y.0)) ∙ h.0, all_apart x ws us y.1 h.1)

all_written : (ws : List KeyWrite) → T (is_sorted (slice_cmp nat_cmp) ws) → AllByRecursion (λ w. last_write ws w.0 ≡ Some w.1) ws
all_written [] h = tt
all_written (x ∷ ws) h = let y = parts _ _ h in
    (ap (λ c. cond c (Some x.1) (last_write ws x.0)) (same_key_itself x.0), all_apart x ws ws y.0 (all_written ws y.1))

values_of : (m : KeyMap) (ws us : List KeyWrite) → T (is_sorted (slice_cmp nat_cmp) ws) → AllByRecursion (λ w. last_write ws w.0 ≡ Some w.1) us
    → us ≡ values_at (after_writes m ws) (keys_of us)
values_of m ws [] s h = refl
values_of m ws (u ∷ us) s h = λ i. (u.0, sym (value_held ws m u.0 s ∙ ap (λ o. or_else o (value_at m u.0)) h.0) i) ∷ values_of m ws us s h.1 i

pub writes-made : (t : View) (m : KeyMap) (qs : List Operation) → HasMade t m qs → t.writes ≡ writes m qs
writes-made t m qs h = values_of m t.writes t.writes h.entries.sorted (all_written t.writes h.entries.sorted)
    ∙ ap (λ (c : PrivateCopy). values_at c.contents c.written) h.copy

pub new-made : (b : ℕ) (m : KeyMap) → IsMap m → HasMade (new_view b) m []
new-made b m is_map = record { is_map = is_map; entries = record { sorted = tt; few = omega arith; within = tt }; copy = refl }
