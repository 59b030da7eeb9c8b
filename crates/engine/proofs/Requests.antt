-- What a request of an open transaction is answered, and what it makes of the transaction.
use Rattle.model.specs.declared.refusals.Refusal.TheVariants as refusals
use Rattle.std.proofs.Common.{arith, ◌≡◌, ℕ, Some, None, Err, refl, sym, ap, subst, ◌∙◌, List, [], ◌↔◌, Bool}
use Rattle.std.proofs.Common.{false, length, ◌∷◌}
use Rattle.std.proofs.lemmas.Bool.Decides.{nat_tests}
use Rattle.std.proofs.lemmas.Grind.{common_steps}
use Rattle.std.specs.Prelude.{IsTrue, not, ◌==◌}
use Rattle.model.proofs.Lookups.{some_same}
use Rattle.model.specs.Machine.{State, Running, running_of, snapshot}
use Rattle.model.specs.Map.{Bytes, KeyMap, KeyWrite}
use Rattle.model.specs.Operations.{Operation, Response}
use Rattle.model.specs.Operations.Operation.{Get}
use Rattle.model.specs.Operations.Response.{Refused}
use Rattle.model.specs.PrivateCopy.{PrivateCopy, respond, copy_of, copy_after, answer, writes}
use Rattle.model.specs.declared.ranges.RangeRef.{RangeRef}
use Rattle.model.specs.declared.refusals.Refusal.{Refusal}
use Rattle.sector.specs.declared.device.Sectors.{Ghosts}
use Rattle.versions.specs.Chains.{ChainsValue}
use Rattle.versions.specs.Meaning.{map_seen}
use Rattle.snapshot.proofs.Copies.{any_keys}
use Rattle.snapshot.specs.Made.{WhereSeen, MakesOneMoreOver, IsFault, IsKnownRange, range_read, WhereMade}
use Rattle.snapshot.specs.Merged.{after_range}
use Rattle.snapshot.specs.View.{View, after_get, is_known_get}
use Rattle.snapshot.specs.declared.faults.SnapshotFault.{SnapshotFault}
use Rattle.snapshot.specs.declared.faults.SnapshotFault.TheVariants.{FullWrites, FullMarks, Memory}
use Rattle.engine.proofs.Calls.{Answered, Active, found_open, not_open, made_same, map_is}
use Rattle.engine.proofs.Steps.{refused_same}
use Rattle.engine.specs.Changes.{entry_of}
use Rattle.engine.specs.Faults.{of_read, of_write}
use Rattle.engine.specs.Meaning.{WhereOpen, response_to, response_to_read, copy_in, IsKnownKey, IsReadOnly, has_any}
use Rattle.engine.specs.StandsFor.{StandsFor}
use Rattle.engine.specs.declared.engine.Engine.{Engine}
use Rattle.engine.specs.declared.faults.EngineFault.{EngineFault}
use Rattle.engine.specs.declared.faults.ReadFault.{ReadFault}

pub begin-after_get : (t t' : View) (k : Bytes) → t' ≡ after_get t k → t'.begin ≡ t.begin
begin-after_get t t' k e = grind (arith, common_steps)

pub begin-after_range : (t t' : View) (n : KeyMap) (r : RangeRef) (limit : ℕ) → t' ≡ after_range t n r limit → t'.begin ≡ t.begin
begin-after_range t t' n r limit e = grind (arith, common_steps)

-- a read is not refused for its writes
pub never_get : (k : Bytes) (c : PrivateCopy) → (respond c (Get k)).0 ≡ Refused refusals.FullWrites → ⊥
never_get k c = grind (arith, common_steps)

pub never_range : (r : RangeRef) (limit : ℕ) (c : PrivateCopy) → (respond c (range_read r limit)).0 ≡ Refused refusals.FullWrites → ⊥
never_range r limit c = grind (arith, common_steps)

module _ {D : Type 0} {g : Ghosts D} (e : Engine D g) (t t' : View) where
  -- what the transaction says of the versions that were lent
  abbrev pub Says : ChainsValue → (Response → Type 0) → Operation → Type 0
  Says vs P q = WhereSeen vs t (λ m qs. P (answer m qs q))

  pub read_answered : (vs : ChainsValue) (q : Operation) (response : Response) → vs ≡ e.history.versions → Says vs (λ r. r ≡ response) q
      → MakesOneMoreOver (map_seen vs t.begin) t t' q → Answered e t t' q (Some response)
  read_answered vs q response same says more m qs seen made = grind (arith, common_steps, says m qs, more qs)

  refused : (vs : ChainsValue) (q : Operation) (refusal : Refusal) → vs ≡ e.history.versions → Says vs (λ r. r ≡ Refused refusal) q → t' ≡ t
      → Answered e t t' q (Some (Refused refusal))
  refused vs q refusal same says is m qs seen made = grind (arith, common_steps, says m qs, made_same t m qs q made, refused_same (copy_after (copy_of m) qs) q)

  pub read_refused : {A : Type 0} (vs : ChainsValue) (q : Operation) (f : A → Response) (fault : SnapshotFault) (reported : ReadFault)
      → ((c : PrivateCopy) → (respond c q).0 ≡ Refused refusals.FullWrites → ⊥) → reported ≡ of_read fault
      → vs ≡ e.history.versions → Says vs (IsFault fault) q → t' ≡ t → Answered e t t' q (response_to_read f (Err reported))
  read_refused vs q f FullWrites reported never is same says stays =
      rw is (stays, λ m qs seen made. absurd (never (copy_after (copy_of m) qs) (says m qs (ap (λ (x : ChainsValue). map_seen x t.begin) same ∙ seen) made)))
  read_refused vs q f FullMarks reported never is same says stays = rw is (refused vs q refusals.FullMarks same says stays)
  read_refused vs q f Memory reported never is same says stays =
      rw is (stays, λ m qs seen made. says m qs (ap (λ (x : ChainsValue). map_seen x t.begin) same ∙ seen) made)

  pub write_refused : {A : Type 0} (q : Operation) (f : A → Response) (fault : SnapshotFault) (reported : EngineFault) → reported ≡ of_write fault
      → Says e.history.versions (IsFault fault) q → t' ≡ t
      → Answered e t t' q (response_to f (Err reported))
  write_refused q f FullWrites reported is says stays = rw is (refused e.history.versions q refusals.FullWrites refl says stays)
  write_refused q f FullMarks reported is says stays = rw is (refused e.history.versions q refusals.FullMarks refl says stays)
  write_refused q f Memory reported is says stays = rw is (stays, says)

-- ---- what a transaction has written

no_any : (ws : List KeyWrite) → has_any ws ≡ false → ws ≡ []
no_any ws none = grind (arith, common_steps)

any_of : (ws : List KeyWrite) → not (length ws == 0) ≡ has_any ws
any_of [] = refl
any_of (w ∷ ws) = grind (arith, common_steps, nat_tests)

pub is_any : (empty : Bool) (entries ws : List KeyWrite) → empty ≡ (length entries == 0) → entries ≡ ws → not empty ≡ has_any ws
is_any empty entries ws is same = ap not is ∙ ap (λ (xs : List KeyWrite). not (length xs == 0)) same ∙ any_of ws

module _ {D : Type 0} {g : Ghosts D} (e : Engine D g) (s : ℕ) (m : State) (h : StandsFor e m) where
  pub none_read_only : entry_of s e ≡ None → IsReadOnly m s
  none_read_only none r is = absurd (let bad : None ≡ Some r = sym (not_open e m s h none) ∙ is in cc)

  -- its buffer tells whether it has written
  pub read_only : (t : View) (any : Bool) → any ≡ has_any t.writes → entry_of s e ≡ Some t → WhereMade t (λ m qs. t.writes ≡ writes m qs) → (any ≡ false)
      ↔ IsReadOnly m s
  read_only t any is_any some made =
      let f = found_open e m s t h some in
      let wrote = made (snapshot m f.run) f.run.requests f.same.made in (
        λ none r is. subst (λ (x : Running). writes (snapshot m x) x.requests ≡ []) (some_same (sym f.is ∙ is)) (sym wrote
            ∙ no_any t.writes (sym is_any ∙ none)),
        λ only. is_any ∙ ap has_any (wrote ∙ only f.run f.is),
      )

-- ---- reads that need no memory

module _ {D : Type 0} {g : Ghosts D} (e : Engine D g) (s : ℕ) (t : View) (some : entry_of s e ≡ Some t) where
  active_is : (m : State) (h : StandsFor e m) (r : Running) → running_of m s ≡ Some r → Active e m h t r
  active_is m h r is = let f = found_open e m s t h some in subst (Active e m h t) (some_same (sym f.is ∙ is)) f.same

  pub known_key : (k : Bytes) → WhereOpen e s (λ m r. IsKnownKey m r k → IsTrue (is_known_get t k))
  known_key k m h r is known = let active = active_is m h r is in grind (arith, common_steps, any_keys)

  -- what the transaction says of a range that it knows
  pub known_range : {P : Type 0} (vs : ChainsValue) (range : RangeRef) (limit : ℕ) → vs ≡ e.history.versions
      → WhereSeen vs t (λ n qs. IsKnownRange (copy_after (copy_of n) qs) range limit → P)
      → WhereOpen e s (λ m r. IsKnownRange (copy_in m r) range limit → P)
  known_range vs range limit same says m h r is known =
      let active = active_is m h r is in
      says (snapshot m r) r.requests (ap (λ (x : ChainsValue). map_seen x t.begin) same ∙ map_is e m t r h active) active.made known

-- a session without a transaction knows nothing
pub known_nowhere : {D : Type 0} {g : Ghosts D} (e : Engine D g) (s : ℕ) {P : Type 0} → entry_of s e ≡ None → WhereOpen e s (λ _ _. P)
known_nowhere e s none m h r is = let no : None ≡ Some r = sym (not_open e m s h none) ∙ is in cc
