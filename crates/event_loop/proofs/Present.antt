-- The sessions that are present: what a join does to them, and that they stand by rising number, so one that has left is absent.
use Rattle.std.proofs.Common.{◌≡◌, ℕ, ◌+◌, ◌<◌, ◌≤◌, true, not, nat_le, List, [], ◌∷◌, length, Some, None, refl, ap}
use Rattle.std.proofs.Common.{nat_cmp, arith, ◌≢◌, Bool, false, cond, if◌then◌else◌, sym}
use Rattle.std.proofs.lemmas.Bool.Decides.{nat_tests}
use Rattle.std.proofs.lemmas.Grind.{common_steps}
use Rattle.std.specs.BTreeMap.{insert_entry}
use Rattle.std.specs.Map.{lookup, set_value, remove_entry}
use Rattle.std.specs.declared.cmp.Ordering.TheVariants.{Equal}
use Rattle.sessions.specs.SessionStreams.{HubState, SessionStream, HubEvent, Joins, Choice, ArePossible, IsReachedHub}
use Rattle.sessions.specs.SessionStreams.{Begun, Continued, hub_step, run, stream_of, new_stream, is_above, Leaves}
use Rattle.sessions.specs.StandsFor.{status_in}
use Rattle.sessions.specs.declared.events.Outcome.{Outcome}
use Rattle.sessions.specs.declared.events.Outcome.TheVariants.{Done, Unknown, Crowded, Memory}
use Rattle.sessions.specs.declared.events.Status.TheVariants.{Absent}
use Rattle.stream_driver.proofs.Events.{test}

other_test : (q s : ℕ) → q ≢ s → test q s ≡ false
other_test q s apart = grind (arith, nat_tests)

tied_test : (q s x : ℕ) → q ≢ s → nat_cmp s x ≡ Equal → test q x ≡ false
tied_test q s x apart e = grind (arith, nat_tests)

insert-same : (es : List (ℕ × SessionStream)) (s : ℕ) (w : SessionStream) → lookup (test s) (insert_entry nat_cmp es s w) ≡ Some w
insert-same [] s w = grind (arith, nat_tests)
insert-same (e ∷ es) s w = grind (arith, common_steps, nat_tests, insert-same es s w)

insert-other : (es : List (ℕ × SessionStream)) (q s : ℕ) (w : SessionStream) → q ≢ s → lookup (test q) (insert_entry nat_cmp es s w) ≡ lookup (test q) es
insert-other [] q s w apart = ap (λ b. cond b (Some w) None) (other_test q s apart)
insert-other (e ∷ es) q s w apart = grind (arith, common_steps, other_test, tied_test, nat_tests, insert-other es q s w apart)

-- a test whose two answers have P
pub by_if : {A : Type 0} (P : A → Type 0) (b : Bool) (x y : A) → P x → P y → P (if b then x else y)
by_if P true x y p q = p
by_if P false x y p q = q

module _ (h : HubState) (s : ℕ) (c : Choice) where
  -- a join that is refused changes nothing
  pub join_step : (P : HubState × Outcome → Type 0) → ((outcome : Outcome) → outcome ≢ Done → P (h, outcome))
      → P (record h { present = insert_entry nat_cmp h.present s new_stream; latest = Some s }, Done) → P (hub_step h (Joins s) c)
  unfolding hub_step
  join_step P refused done =
      by_if P (not (is_above s h.latest)) _ _ (refused Unknown (λ e. cc))
      (by_if P (nat_le 128 (length h.present)) _ _ (refused Crowded (λ e. cc)) (by_if P c.refused _ _ (refused Memory (λ e. cc)) done))

  pub joins_not : (hub_step h (Joins s) c).1 ≢ Done → (hub_step h (Joins s) c).0 ≡ h
  joins_not = join_step (λ r. r.1 ≢ Done → r.0 ≡ h) (λ outcome differs refused. refl) (λ refused. absurd (refused refl))

  -- the others stay
  pub joins_other : (t : ℕ) → t ≢ s → stream_of (hub_step h (Joins s) c).0 t ≡ stream_of h t
  joins_other t apart = join_step (λ r. stream_of r.0 t ≡ stream_of h t) (λ outcome differs. refl) (insert-other h.present t s new_stream apart)

  -- and the new one is there
  pub joins_same : Done ≡ (hub_step h (Joins s) c).1 → stream_of (hub_step h (Joins s) c).0 s ≡ Some new_stream
  joins_same = join_step (λ r. Done ≡ r.1
      → stream_of r.0 s ≡ Some new_stream) (λ outcome differs done. absurd (differs (sym done))) (λ done. insert-same h.present s new_stream)

-- ---- they stand by rising number

-- the numbers rise, from this one on
abbrev Rise : ℕ → List (ℕ × SessionStream) → Type 0
Rise n [] = Unit {0}
Rise n (e ∷ es) = (n ≤ e.0) × Rise (e.0 + 1) es

lower : (m n : ℕ) (es : List (ℕ × SessionStream)) → n ≤ m → Rise m es → Rise n es
lower m n [] le rise = tt
lower m n (e ∷ es) le rise = (omega (arith, rise.0), rise.1)

set-rise : (n s : ℕ) (es : List (ℕ × SessionStream)) (w : SessionStream) → Rise n es → Rise n (set_value (test s) es w)
set-rise n s [] w rise = tt
set-rise n s (e ∷ es) w rise = grind (arith, common_steps, set-rise (e.0 + 1) s es w rise.1)

remove-rise : (n s : ℕ) (es : List (ℕ × SessionStream)) → Rise n es → Rise n (remove_entry (test s) es)
remove-rise n s [] rise = tt
remove-rise n s (e ∷ es) rise = grind (arith, common_steps, lower (e.0 + 1) n es, remove-rise (e.0 + 1) s es rise.1)

insert-rise : (n s : ℕ) (es : List (ℕ × SessionStream)) (w : SessionStream) → n ≤ s → Rise n es → Rise n (insert_entry nat_cmp es s w)
insert-rise n s [] w le rise = (le, tt)
insert-rise n s (e ∷ es) w le rise = grind (arith, common_steps, nat_tests, insert-rise (e.0 + 1) s es w)

same_number : (s x : ℕ) → test s x ≡ true → s ≡ x
same_number s x a = grind (arith, nat_tests)

-- none of these numbers is found
none_above : (n s : ℕ) (es : List (ℕ × SessionStream)) → s < n → Rise n es → lookup (test s) es ≡ None
none_above n s [] lt rise = refl
none_above n s (e ∷ es) lt rise = grind (arith, nat_tests, same_number, none_above (e.0 + 1) s es)

-- one that is taken out is not found
removed : (n s : ℕ) (es : List (ℕ × SessionStream)) → Rise n es → lookup (test s) (remove_entry (test s) es) ≡ None
removed n s [] rise = refl
removed n s (e ∷ es) rise = grind (arith, nat_tests, same_number, none_above (e.0 + 1) s es, removed (e.0 + 1) s es)

abbrev Risen : HubState × Outcome → Type 0
Risen r = Rise 0 r.0.present

step-rise : (h : HubState) (e : HubEvent) (c : Choice) → Rise 0 h.present → Risen (hub_step h e c)
unfolding hub_step
step-rise h e c rise = grind (arith, common_steps, insert-rise, set-rise, remove-rise)

reached-rise : (h : HubState) → IsReachedHub h → Rise 0 h.present
reached-rise _ (Begun m reached none) = tt
reached-rise _ (Continued h e c possible reached) = step-rise h e c (reached-rise h reached)

pub reached-run : (h : HubState) (es : List (HubEvent × Choice)) → ArePossible h es → IsReachedHub h → IsReachedHub (run h es)
reached-run h [] possible reached = reached
reached-run h (e ∷ es) (first, rest) reached = reached-run (hub_step h e.0 e.1).0 es rest (Continued h e.0 e.1 first reached)

-- a session that leaves is absent
pub absent_then : (h : HubState) (s : ℕ) (c : Choice) → IsReachedHub h → status_in (stream_of (hub_step h (Leaves s) c).0 s) ≡ Absent
unfolding hub_step
absent_then h s c reached = grind (arith, common_steps, removed 0 s h.present (reached-rise h reached))
