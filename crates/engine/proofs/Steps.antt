-- The machine's steps, case by case.
use Rattle.std.proofs.Common.{◌≡◌, ◌<◌, ◌≤◌, ◌+◌, ℕ, suc, Bool, true, false, List, [], ◌∷◌, ◌++◌, Option, refl, sym}
use Rattle.std.proofs.Common.{ap, subst, ◌∙◌, length, length-append, arith}
use Rattle.std.proofs.lemmas.Bool.{le-leb, lt-leb}
use Rattle.std.proofs.lemmas.Bool.Decides.{nat_tests}
use Rattle.std.proofs.lemmas.Grind.{common_steps}
use Rattle.model.proofs.Machines.{machine_law}
use Rattle.model.specs.History.{Record, map_at, IsNumberedFrom}
use Rattle.model.specs.Machine.{State, Running, Input, opened, running_of, leave, refuse, join_history, body_sectors}
use Rattle.model.specs.Machine.{store, step_of, step, next, state_after, IsReached}
use Rattle.model.specs.Machine.Input.{Asks}
use Rattle.model.specs.Map.{KeyMap, KeyWrite, IsMap, after_writes}
use Rattle.model.specs.Operations.{Operation, Response}
use Rattle.model.specs.Operations.Response.{Refused}
use Rattle.model.specs.PrivateCopy.{PrivateCopy, respond}
use Rattle.model.specs.declared.refusals.Refusal.TheVariants.{FullLog, StoreFault}
use Rattle.versions.proofs.Histories.{map_at-push, maps-history}
use Rattle.snapshot.specs.Made.{is_refused}
use Rattle.engine.specs.Changes.{sectors_taken, HasLogRoom}

pub step_is : (m : State) (s : ℕ) (q : Operation) (failed : Bool) (o : Option Running) → running_of m s ≡ o → step m s q failed ≡ step_of o m s q failed
unfolding step
step_is m s q failed o e = ap (λ r. step_of r m s q failed) e

-- ---- reached states

after_append : (m : State) (is : List Input) (i : Input) → state_after m (is ++ i ∷ []) ≡ next (state_after m is) i
after_append m [] i = refl
after_append m (j ∷ is) i = after_append (next m j) is i

pub reached_next : (m : State) (i : Input) → IsReached m → IsReached (next m i)
reached_next m i h = record {
  contents = h.contents;
  sectors_used = h.sectors_used;
  sectors = h.sectors;
  inputs = h.inputs ++ i ∷ [];
  is_map = h.is_map;
  is = ap (λ st. next st i) h.is ∙ sym (after_append (opened h.contents h.sectors_used h.sectors) h.inputs i);
}

pub reached_by : (m : State) (s : ℕ) (q : Operation) (failed : Bool) (after : State × Response) → step m s q failed ≡ after → IsReached m → IsReached after.0
reached_by m s q failed after is h = subst (λ (p : State × Response). IsReached p.0) is (reached_next m (Asks s q failed) h)

-- each map of a reached state is one
pub reached_map : (m : State) (n : ℕ) → IsReached m → IsMap (map_at m.base m.history n)
reached_map m n h = maps-history m.base m.history n ((machine_law m h).1.faithful.is_map)

-- a request that is refused inside a transaction changes nothing
pub refused_same : (c : PrivateCopy) (q : Operation) → is_refused (respond c q).0 ≡ true → (respond c q).1 ≡ c
refused_same c q refused = grind (arith, common_steps)

-- ---- what is stored by a commit without conflict

module _ (m : State) (s : ℕ) (r : Record) where
  pub store_full : (ws : List KeyWrite) (failed : Bool) → (ws ≡ [] → ⊥) → m.count ≤ m.used + body_sectors ws → store m s r ws failed ≡ refuse m s FullLog
  store_full ws failed some full = grind (arith, common_steps, le-leb)

  pub store_fault : (ws : List KeyWrite) (failed : Bool) → (ws ≡ [] → ⊥) → m.used + body_sectors ws < m.count → failed ≡ true →
      store m s r ws failed ≡ (record (leave m s) { stopped = true }, Refused StoreFault)
  store_fault ws failed some room fails = grind (arith, common_steps, lt-leb)

  pub store_joined : (ws : List KeyWrite) (failed : Bool) → HasLogRoom m.used m.count ws → ((ws ≡ [] → ⊥) → failed ≡ false)
      → store m s r ws failed ≡ join_history m s r (sectors_taken ws)
  store_joined ws failed room stored = grind (arith, common_steps, lt-leb)

-- ---- maps under one more record

map_at_all : (base : KeyMap) (xs : List Record) (n l k : ℕ) → IsNumberedFrom n xs → l ≡ n + length xs → l ≤ k → map_at base xs k ≡ map_at base xs l
map_at_all base [] n l k h is le = refl
map_at_all base (x ∷ xs) n l k h is le = let first =
    h.0 in grind (arith, nat_tests, map_at_all (after_writes base x.writes) xs (suc n) l k h.1 (omega arith) le)

pub map_at_next : (base : KeyMap) (rs : List Record) (r : Record) → IsNumberedFrom 0 rs → r.commit ≡ suc (length rs)
    → map_at base (rs ++ r ∷ []) (length (rs ++ r ∷ [])) ≡ after_writes (map_at base rs (length rs)) r.writes
map_at_next base rs r h commit =
    let long = length-append rs (r ∷ []) in
    let all = map_at_all base rs 0 (length rs) (length (rs ++ r ∷ [])) h (omega arith) (omega arith) in
    grind (arith, nat_tests, map_at-push base rs r (length (rs ++ r ∷ [])))
