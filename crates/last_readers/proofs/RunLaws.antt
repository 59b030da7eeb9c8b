-- The greatest numbers of several runs.
use Rattle.std.proofs.Common.{◌≡◌, ◌≤◌, ◌+◌, true, refl, subst, ◌∙◌, ◌&&◌, ℕ, List, [], ◌∷◌, ◌++◌, length, drop}
use Rattle.std.proofs.Common.{arith}
use Rattle.std.proofs.lemmas.Bool.{and_from, and_parts}
use Rattle.std.proofs.lemmas.List.{nil_from_length}
use Rattle.std.specs.Prelude.{max}
use Rattle.model.specs.Map.{Bytes}
use Rattle.last_readers.proofs.StepLaws.{at_rest}
use Rattle.last_readers.specs.Agreeing.{ReadersAgree, from_more, greatest-append}
use Rattle.last_readers.specs.Inside.{run_of, runs_in}
use Rattle.last_readers.specs.Readers.{AnswerAlike, Readers, greatest_at}
use Rattle.last_readers.specs.Steps.{are_from, steps_from, StepValue, number_at, number_in, merged_at, cut}
use Rattle.last_readers.specs.declared.run.ReadRun.{ReadRun}

pub greatest_added : (rs : List ReadRun) (r : ReadRun) (k : Bytes)
    → greatest_at (runs_in (rs ++ r ∷ [])) k ≡ max (greatest_at (runs_in rs) k) (number_in (run_of r) k)
greatest_added rs r k = omega (arith, greatest-append rs (r ∷ []) k)

-- a run at rest
resting : (r : ReadRun) (k : Bytes) → length r.first.items + length r.second.items ≡ 0 → number_in (run_of r) k ≡ number_at r.made.items k
resting r k none = at_rest r.first.items r.second.items r.made.items k (omega arith) (omega arith)

-- two runs at rest, of which nothing was made yet
pub joined_runs : (first second : ReadRun) (xs made : List StepValue) (k : Bytes) → length first.first.items + length first.second.items ≡ 0
    → length second.first.items + length second.second.items ≡ 0 → xs ≡ first.made.items → length made ≡ 0
    → merged_at xs second.made.items made k ≡ max (number_in (run_of first) k) (number_in (run_of second) k)
joined_runs first second xs made k rest rests is none =
    grind (arith, nil_from_length made none, resting first k rest, resting second k rests)

made_from : (r : ReadRun) → steps_from r.earliest r.made.items ≡ true
made_from r =
    let others = and_parts (steps_from r.earliest r.first.items) (steps_from r.earliest r.second.items && steps_from r.earliest r.made.items) r.numbers in
    (and_parts (steps_from r.earliest r.second.items) (steps_from r.earliest r.made.items) others.1).1

-- the numbers of both are from the lesser of theirs on
pub joined_are_from : (n : ℕ) (first second : ReadRun) (xs made : List StepValue) → n ≤ first.earliest → n ≤ second.earliest → xs ≡ first.made.items
    → length made ≡ 0 → are_from n xs second.made.items made ≡ true
joined_are_from n first second xs made low lower is none =
    (λ i. are_from n (is i) second.made.items (nil_from_length made none i))
    ∙ and_from _ _ (from_more n first.earliest first.made.items low (made_from first))
    (and_from _ _ (from_more n second.earliest second.made.items lower (made_from second)) refl)

-- ---- a look-up in one run after another

-- what was found and what is left of the runs decide
abbrev pub Decides : ℕ → List ReadRun → Bytes → ℕ → ℕ → Type 0
Decides b rs k i g = cut b (max g (greatest_at (runs_in (drop i rs)) k)) ≡ cut b (greatest_at (runs_in rs) k)

-- ---- what is kept

-- runs that answer alike whoever asks have the same last readers
pub answer_alike : (was : Readers) (old new : List ReadRun) (o : ℕ) → record { runs = runs_in old; oldest = o } ≡ was → ReadersAgree (λ _. true) new old
    → AnswerAlike was (record { runs = runs_in new; oldest = o })
answer_alike was old new o is same =
    subst (λ (r : Readers). AnswerAlike r (record { runs = runs_in new; oldest = o })) is (record { readers = λ k. same o refl k; oldest = refl })
