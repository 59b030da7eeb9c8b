use Rattle.last_readers.proofs.last_readers.LastReaders.next_named.Goals as goal
use Rattle.std.proofs.Common.{◌≡◌, ◌||◌, ℕ, List, [], ◌∷◌, refl, ap, ◌∙◌}
use Rattle.std.specs.List.{list_any}
use Rattle.merging_runs.proofs.NextNumbers.{next_same}
use Rattle.last_readers.specs.Inside.{run_of, runs_in}
use Rattle.last_readers.specs.Readers.{LastReadersValue}
use Rattle.last_readers.specs.Steps.{is_named_in, RunValue}
use Rattle.last_readers.specs.declared.run.ReadRun.{ReadRun}

in_runs : (k : ℕ) (rs : List ReadRun) → list_any (λ r. is_named_in (run_of r) k) rs ≡ list_any (λ (run : RunValue). is_named_in run k) (runs_in rs)
in_runs k [] = refl
in_runs k (r ∷ rs) = ap (λ b. is_named_in (run_of r) k || b) (in_runs k rs)

pub returns : goal.returns
returns c p is =
    let same = λ (k : ℕ). in_runs k c.self.inside.runs.runs
    ∙ ap (λ (v : LastReadersValue). list_any (λ (run : RunValue). is_named_in run k) v.readers.runs) c.self.view_is in
    next_same _ _ c.args.n c.next_number.result (λ k. ap (λ b. p k || b) (same k)) (c.next_number.ensures p is)
