use Rattle.pivot_check.proofs.merges.WrittenRunRun.next_number.Goals as goal
use Rattle.std.proofs.Common.{ℕ, ◌||◌, ◌++◌, ap, ◌∙◌, sym, List}
use Rattle.std.proofs.lemmas.List.Folds.{list_any-append}
use Rattle.std.specs.List.{list_any}
use Rattle.std.specs.Prelude.{◌==◌}
use Rattle.merging_runs.proofs.NextNumbers.{either_of_four, next_same}
use Rattle.pivot_check.specs.Parts.{remaining}
use Rattle.pivot_check.specs.Postings.{Posting}

pub returns : goal.returns
returns c p is =
    let run = c.args.self.now in
    let test = λ (k : ℕ) (q : Posting). k == q.number in
    let any = λ (ps : List Posting) (k : ℕ). list_any (test k) ps in
    let all = λ (k : ℕ). ap (λ b. any (remaining run.made) k || b) (sym (list_any-append (test k) (remaining run.first) (remaining run.second)))
    ∙ sym (list_any-append (test k) (remaining run.made) (remaining run.first ++ remaining run.second)) in
    next_same _ _ c.args.n c.next_number.result
    (λ k. either_of_four (p k) (any (remaining run.made) k) (any (remaining run.first) k) (any (remaining run.second) k)
    ∙ ap (λ b. p k || b) (all k))
    (c.next_number.ensures _ (c.next_number-in_first.ensures _ (c.next_number-in_made.ensures p is)))
