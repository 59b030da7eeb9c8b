-- The machine keeps its history faithful, without dangerous pivots and without concurrent writers of one key.
use Rattle.std.proofs.Common.{◌≡◌, ◌⊎◌, ℕ, suc, ◌+◌, ◌-◌, ◌<◌, ◌≤◌, Bool, true, false, cond, ◌&&◌, List, [], ◌∷◌}
use Rattle.std.proofs.Common.{◌++◌, Option, Some, None, refl, sym, ap, subst, ◌∙◌, length, length-append, arith, inl}
use Rattle.std.proofs.Common.{inr, not, IsTrue, nat_lt, nat_le, ◌==◌, nat_cmp, ◌^◌, ◌≢◌}
use Rattle.std.proofs.lemmas.Bool.{and_parts, and_from, cond_both, lt-leb, false_from_ne_true}
use Rattle.std.proofs.lemmas.Bool.Decides.{nat_tests}
use Rattle.std.proofs.lemmas.Grind.{common_steps}
use Rattle.std.proofs.lemmas.List.Elements.{All-contains, All-from_recursion, All-push}
use Rattle.std.specs.FinMap.Entries.{put, where_key, find as value_of}
use Rattle.std.specs.List.{AllByRecursion}
use Rattle.model.proofs.Elements.{all-each, all-filter}
use Rattle.model.proofs.Lookups.{same_key_comm}
use Rattle.model.proofs.Members.{In, in_from_Contains, Contains-from_in, at_in, each_in, any_from_in, any_witness}
use Rattle.model.proofs.Members.{none_found}
pub use Rattle.model.proofs.Members.{commit_low}
use Rattle.model.proofs.SerialOrders.{replay_law, places_rise}
use Rattle.model.specs.Dependency.{is_concurrent, writes_key, write_alike, is_dangerous_pivot, NoConcurrentWriters}
use Rattle.model.specs.History.{Record, record_of, map_at, IsNumberedFrom, IsFaithful, IsTrueRecord}
use Rattle.model.specs.Laws.{MachineLaw, PlacesLaw, VerdictHolds}
use Rattle.model.specs.Machine.{Running, State, Input, IsReached, last, snapshot, running_of, store, commit}
use Rattle.model.specs.Machine.{step_outside, own_step, step_inside, step_of, step, next, state_after, store_unless}
use Rattle.model.specs.Machine.{record_to_commit}
use Rattle.model.specs.Machine.Input.{Asks, Leaves}
use Rattle.model.specs.Map.{KeyMap, KeyWrite, is_same_key, after_writes}
use Rattle.model.specs.Operations.{Operation, Response}
use Rattle.model.specs.Operations.Operation.{Begin, Commit, Abort}
use Rattle.model.specs.PrivateCopy.{PrivateCopy, copy_of, copy_after, respond, responses}
use Rattle.model.specs.Restarts.{ReplaysFollow, HaveOneOrder, RestartLaw}
use Rattle.model.specs.SerialOrder.{serial_order, IsSerialOrder, replay, ReplaysReplies}
use Rattle.model.specs.Verdict.{verdict, is_overwritten, HasNoDangerousPivot}
use Rattle.model.specs.declared.refusals.Refusal.{Refusal}

-- ---- lists

pub in_append_cases : (xs : List Record) (y x : Record) → In x (xs ++ y ∷ []) → In x xs ⊎ (x ≡ y)
in_append_cases [] y x h = elim h [ inl e ↦ inr e | inr g ↦ absurd g ]
in_append_cases (z ∷ xs) y x h = grind (arith, common_steps, in_append_cases xs y x)

write_alike_comm : (a b : Record) → write_alike a b ≡ true → write_alike b a ≡ true
write_alike_comm a b h =
    let w = any_witness (λ w. writes_key b w.0) a.writes h in
    let v = any_witness (λ v. is_same_key w.at.0 v.0) b.writes w.passes in
    grind (arith, common_steps, any_from_in, same_key_comm)

each_inserted : {X : Type 0} (P : ℕ × X → Type 0) (es : List (ℕ × X)) (s : ℕ) (x : X) → ((k : ℕ) → P (k, x)) → AllByRecursion P es
    → AllByRecursion P (put nat_cmp s x es)
each_inserted P [] s x h g = (h s, tt)
each_inserted P (e ∷ es) s x h g = grind (arith, common_steps, each_inserted P es s x h g.1)

pub at_found : {X : Type 0} (P : X → Type 0) (s : ℕ) (es : List (ℕ × X)) → AllByRecursion (λ e. P e.1) es → (x : X) → value_of nat_cmp s es ≡ Some x → P x
at_found P s [] g x e = cc
at_found P s (f ∷ es) g x e = grind (arith, common_steps, at_found P s es g.1 x)

-- ---- histories that grow

pub map_at-append : (base : KeyMap) (rs : List Record) (r : Record) (n : ℕ) → n < r.commit → map_at base (rs ++ r ∷ []) n ≡ map_at base rs n
map_at-append base [] r n h = ap (λ b. cond b (after_writes base r.writes) base) (lt-leb r.commit n h)
map_at-append base (s ∷ rs) r n h = map_at-append (cond (nat_le s.commit n) (after_writes base s.writes) base) rs r n h

pub numbered-append : (n : ℕ) (rs : List Record) (r : Record) → IsNumberedFrom n rs → r.commit ≡ suc (n + length rs) → IsNumberedFrom n (rs ++ r ∷ [])
numbered-append n [] r h e = (omega arith, tt)
numbered-append n (s ∷ rs) r h e = (h.0, numbered-append (suc n) rs r h.1 (omega arith))

pub responses-append : (c : PrivateCopy) (qs : List Operation) (q : Operation)
    → responses c (qs ++ q ∷ []) ≡ responses c qs ++ (respond (copy_after c qs) q).0 ∷ []
responses-append c [] q = refl
responses-append c (p ∷ qs) q = ap (λ rs. (respond c p).0 ∷ rs) (responses-append (respond c p).1 qs q)

-- ---- what the machine keeps

-- an open transaction began in the history, and was answered by its private copy
pub record IsTrueRunning (base : KeyMap) (history : List Record) (t : Running) : Type 0 where
  pub begins : t.begin ≤ length history
  pub replies : t.replies ≡ responses (copy_of (map_at base history t.begin)) t.requests

pub record Kept (base : KeyMap) (history : List Record) (running : List (ℕ × Running)) : Type 0 where
  pub faithful : IsFaithful base history
  pub no_pivot : HasNoDangerousPivot history
  pub apart : NoConcurrentWriters history
  pub open_true : AllByRecursion (λ e. IsTrueRunning base history e.1) running

-- ---- a commit without conflict

pub record IsClear (history : List Record) (r : Record) : Type 0 where
  pub not_overwritten : (w : KeyWrite) → In w r.writes → is_overwritten history r w.0 ≡ true → ⊥
  pub self : is_dangerous_pivot (history ++ r ∷ []) r ≡ false
  pub others : (p : Record) → In p history → is_dangerous_pivot (history ++ r ∷ []) p ≡ true → ⊥

pub clear_from : (history : List Record) (r : Record) → verdict history r ≡ None → IsClear history r
unfolding verdict
clear_from history r e = grind (arith, common_steps, none_found)

module _ (base : KeyMap) (history : List Record) where
  true_after : (r : Record) → r.commit ≡ suc (length history) → (s : Record) → s.begin ≤ length history → IsTrueRecord base history s
      → IsTrueRecord base (history ++ r ∷ []) s
  true_after r c s low h = grind (arith, common_steps, map_at-append)

  running_after : (r : Record) → r.commit ≡ suc (length history) → (t : Running) → IsTrueRunning base history t → IsTrueRunning base (history ++ r ∷ []) t
  running_after r c t h = grind (arith, common_steps, length-append, map_at-append)

  -- the record of an open transaction that has no conflict joins the history
  module _ (running : List (ℕ × Running)) (kept : Kept base history running) (t : Running) (true_t : IsTrueRunning base history t) where
    abbrev joining : Record
    joining = record_of t.begin (suc (length history)) (map_at base history t.begin) t.requests t.replies

    old_true : (s : Record) → In s history → IsTrueRecord base (history ++ joining ∷ []) s
    old_true s s_in =
        let is : IsTrueRecord base history s = All-contains (IsTrueRecord base history) history s kept.faithful.records (Contains-from_in history s s_in) in
        let low = at_in (λ r. r.commit ≤ 0 + length history) history s (commit_low 0 history kept.faithful.numbered) s_in in
        let begins = is.begins_before in true_after joining refl s (omega (arith, low, begins)) is

    joined_faithful : IsFaithful base (history ++ joining ∷ [])
    joined_faithful = let low = true_t.begins in record {
      is_map = kept.faithful.is_map;
      numbered = numbered-append 0 history joining kept.faithful.numbered (omega arith);
      records = All-push (IsTrueRecord base (history ++ joining ∷ [])) history joining
          (All-from_recursion _ history (each_in (IsTrueRecord base (history ++ joining ∷ [])) history old_true))
          (true_after joining refl joining low (record { begins_before = omega arith; replies = true_t.replies; reads = refl; writes = refl }));
    }

    module _ (clear : IsClear history joining) where
      joined_no_pivot : HasNoDangerousPivot (history ++ joining ∷ [])
      joined_no_pivot p p_in = grind (arith, common_steps, in_append_cases, in_from_Contains, false_from_ne_true)

      -- one that is concurrent with the new transaction has written none of its keys
      no_overwriter : (a : Record) → In a history → IsTrue (is_concurrent joining a) → ¬ IsTrue (write_alike joining a)
      no_overwriter a a_in conc alike =
          let w = any_witness (λ w. writes_key a w.0) joining.writes alike in
          clear.not_overwritten w.at w.member
          (any_from_in (λ r. writes_key r w.at.0 && nat_lt joining.begin r.commit) history a a_in (and_from _ _ w.passes (and_parts _ _ conc).0))

      apart_from : (a b : Record) → In a history ⊎ (a ≡ joining) → In b history ⊎ (b ≡ joining) → a.commit ≢ b.commit → IsTrue (is_concurrent a b)
          → ¬ IsTrue (write_alike a b)
      apart_from a b (inl a_old) (inl b_old) other conc alike =
          kept.apart a b (Contains-from_in history a a_old) (Contains-from_in history b b_old) other conc alike
      apart_from a b (inl a_old) (inr b_is) other conc alike =
          no_overwriter a a_old (subst (λ x. IsTrue (is_concurrent x a)) b_is (grind (arith, nat_tests)))
          (subst (λ x. IsTrue (write_alike x a)) b_is (write_alike_comm a b alike))
      apart_from a b (inr a_is) (inl b_old) other conc alike =
          no_overwriter b b_old (subst (λ x. IsTrue (is_concurrent x b)) a_is conc) (subst (λ x. IsTrue (write_alike x b)) a_is alike)
      apart_from a b (inr a_is) (inr b_is) other conc alike = other (ap (λ (x : Record). x.commit) (a_is ∙ sym b_is))

      joined_apart : NoConcurrentWriters (history ++ joining ∷ [])
      joined_apart a b a_in b_in =
          apart_from a b (in_append_cases history joining a (in_from_Contains _ a a_in)) (in_append_cases history joining b (in_from_Contains _ b b_in))

      joined : Kept base (history ++ joining ∷ []) running
      joined = grind (arith, common_steps, joined_faithful, joined_no_pivot, joined_apart, each_in, running_after, at_in)

-- ---- the steps

abbrev pub Sound : State → Type 0
Sound st = Kept st.base st.history st.running

leave_kept : (base : KeyMap) (history : List Record) (running : List (ℕ × Running)) (s : ℕ) → Kept base history running
    → Kept base history (where_key nat_cmp (λ x. not (x == s)) running)
leave_kept base history running s k =
    record {
      faithful = k.faithful;
      no_pivot = k.no_pivot;
      apart = k.apart;
      open_true = all-filter (λ e. IsTrueRunning base history e.1) (λ e. not (e.0 == s)) running k.open_true;
    }

open_kept : (base : KeyMap) (history : List Record) (running : List (ℕ × Running)) (s : ℕ) (t : Running) → IsTrueRunning base history t
    → Kept base history running → Kept base history (put nat_cmp s t running)
open_kept base history running s t h k =
    record {
      faithful = k.faithful;
      no_pivot = k.no_pivot;
      apart = k.apart;
      open_true = each_inserted (λ e. IsTrueRunning base history e.1) running s t (λ _. h) k.open_true;
    }

store_kept : (st : State) (s : ℕ) (r : Record) (ws : List KeyWrite) (failed : Bool) → Sound st → Kept st.base (st.history ++ r ∷ []) st.running
    → Sound (store st s r ws failed).0
store_kept st s r ws failed k j = grind (arith, common_steps, leave_kept)

commit_kept : (st : State) (s : ℕ) (t : Running) (failed : Bool) → Sound st → IsTrueRunning st.base st.history t → Sound (commit st s t failed).0
commit_kept st s t failed k h =
    cond_both st.stopped _ _ (λ (a : State × Response). Sound a.0) (λ _. leave_kept st.base st.history st.running s k)
    (λ _. cond_both (last st == 2 ^ 63 - 1) _ _ (λ (a : State × Response). Sound a.0) (λ _. leave_kept st.base st.history st.running s k)
    (λ _. decided (verdict st.history (record_to_commit st t)) refl))
  where
    decided : (o : Option Refusal) → verdict st.history (record_to_commit st t) ≡ o → Sound (store_unless o st s (record_to_commit st t) failed).0
    decided o e = grind (arith, common_steps, leave_kept, store_kept, joined, clear_from)

own_kept : (st : State) (s : ℕ) (t : Running) (q : Operation) → Sound st → IsTrueRunning st.base st.history t → Sound (own_step st s t q).0
own_kept st s t q k h = open_kept st.base st.history st.running s
    (record { begin = t.begin; requests = t.requests ++ q ∷ []; replies = t.replies ++ (respond (copy_after (copy_of (snapshot st t)) t.requests) q).0 ∷ [] })
    (record {
      begins = h.begins;
      replies = ap (λ rs. rs ++ (respond (copy_after (copy_of (snapshot st t)) t.requests) q).0 ∷ []) h.replies
          ∙ sym (responses-append (copy_of (snapshot st t)) t.requests q);
    }) k

inside_kept : (st : State) (s : ℕ) (t : Running) (q : Operation) (failed : Bool) → Sound st → IsTrueRunning st.base st.history t
    → Sound (step_inside st s t q failed).0
inside_kept st s t Commit failed k h = commit_kept st s t failed k h
inside_kept st s t Abort failed k h = leave_kept st.base st.history st.running s k
inside_kept st s t q failed k h = own_kept st s t q k h

outside_kept : (st : State) (s : ℕ) (q : Operation) → Sound st → Sound (step_outside st s q).0
outside_kept st s Begin k =
    cond_both st.stopped _ _ (λ (a : State × Response). Sound a.0) (λ _. k)
    (λ _. cond_both (nat_lt (length st.running) 64) _ _ (λ (a : State × Response). Sound a.0)
    (λ _. open_kept st.base st.history st.running s (record { begin = last st; requests = []; replies = [] }) (record { begins = omega arith; replies = refl })
    k) (λ _. k))
outside_kept st s q k = grind (arith, common_steps)

next_kept : (st : State) (i : Input) → Sound st → Sound (next st i)
unfolding step
next_kept st (Leaves s) k = leave_kept st.base st.history st.running s k
next_kept st (Asks s q failed) k = of (running_of st s) refl
  where
    of : (o : Option Running) → running_of st s ≡ o → Sound (step_of o st s q failed).0
    of None e = outside_kept st s q k
    of (Some t) e = inside_kept st s t q failed k (at_found (IsTrueRunning st.base st.history) s st.running k.open_true t e)

pub state_kept : (st : State) (inputs : List Input) → Sound st → Sound (state_after st inputs)
state_kept st [] k = k
state_kept st (i ∷ inputs) k = state_kept (next st i) inputs (next_kept st i k)

-- ---- what holds of each state that it reaches

pub reached_sound : (st : State) → IsReached st → Sound st
reached_sound st reached = grind (arith, common_steps, state_kept)

pub verdict_holds : VerdictHolds
verdict_holds st reached = let k = reached_sound st reached in (k.no_pivot, k.apart)

pub machine_law : MachineLaw
machine_law st reached =
    let k = reached_sound st reached in (
      All-from_recursion (λ e. e.1.replies ≡ responses (copy_of (snapshot st e.1)) e.1.requests) st.running
          (all-each (λ e. IsTrueRunning st.base st.history e.1) _ st.running (λ e is. is.replies) k.open_true),
      record { faithful = k.faithful; order = serial_order st.history; serial = replay_law st.base st.history k.faithful k.no_pivot k.apart },
    )

pub places_law : PlacesLaw
places_law st reached =
    let k = reached_sound st reached in record {
      no_pivot = k.no_pivot;
      no_concurrent_writers = k.apart;
      rising = places_rise st.base st.history k.faithful k.no_pivot k.apart;
      serial = replay_law st.base st.history k.faithful k.no_pivot k.apart;
    }

-- ---- serial orders of several restarts, one after another, are one order

pub replays_follow : ReplaysFollow
replays_follow map [] second these those = (those, refl)
replays_follow map (r ∷ rs) second these those =
    grind (arith, common_steps, replays_follow (copy_after (copy_of map) r.requests).contents rs second these.1 those)

pub restart_law : RestartLaw
restart_law map [] found follow = record { order = []; is = refl; replies = tt; final_map = sym follow }
restart_law map (st ∷ states) found follow =
    joined (machine_law st follow.0).1.order (machine_law st follow.0).1.serial (restart_law (map_at st.base st.history (last st)) states found follow.2)
  where
    joined : (own : List Record) → IsSerialOrder st.base st.history own → HaveOneOrder (map_at st.base st.history (last st)) states found
        → HaveOneOrder map (st ∷ states) found
    joined own serial rest =
        let ends : replay map own ≡ map_at st.base st.history (last st) = ap (λ m. replay m own) (sym follow.1) ∙ serial.final_map in
        let both = replays_follow map own rest.order (subst (λ m. ReplaysReplies m own) follow.1 serial.replies)
        (subst (λ m. ReplaysReplies m rest.order) (sym ends) rest.replies) in
        grind (arith, common_steps)
