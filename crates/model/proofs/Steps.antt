-- What one more request adds to a transaction, and what a step leaves of the sessions: for those who show that an engine steps as the machine does.
use Rattle.std.proofs.Common.{◌≡◌, ℕ, not, cond, List, [], ◌∷◌, ◌++◌, Some, None, refl, sym, ap, ◌==◌, nat_cmp}
use Rattle.std.proofs.lemmas.Cmp.{nat_cmp_total}
use Rattle.std.proofs.lemmas.Map.Lookups.{exact_unsigned}
use Rattle.std.specs.FinMap.Entries.{find-put, find-where_key}
use Rattle.std.specs.Ordering.{eq_by_cmp}
use Rattle.model.specs.Machine.{Running, State, running_of, with_running, leave}
use Rattle.model.specs.Operations.{Operation}
use Rattle.model.specs.PrivateCopy.{PrivateCopy, copy_after, respond}

-- ---- a transaction after one more request

pub copy_after-push : (c : PrivateCopy) (qs : List Operation) (q : Operation) → copy_after c (qs ++ q ∷ []) ≡ (respond (copy_after c qs) q).1
copy_after-push c [] q = refl
copy_after-push c (p ∷ qs) q = copy_after-push (respond c p).1 qs q

-- ---- the sessions after a step

pub running_of-with_running : (st : State) (s : ℕ) (t : Running) (q : ℕ)
    → running_of (with_running st s t) q ≡ cond (eq_by_cmp nat_cmp q s) (Some t) (running_of st q)
running_of-with_running st s t q = find-put nat_cmp nat_cmp_total q s t st.running

pub running_of-leave : (st : State) (s q : ℕ) → running_of (leave st s) q ≡ cond (not (q == s)) (running_of st q) None
running_of-leave st s q = find-where_key nat_cmp (λ x. not (x == s)) q (λ x e. ap (λ z. not (z == s)) (sym (exact_unsigned q x e))) st.running
