use Rattle.pivot_check.proofs.committed.Committed.next_kept.Goals as goal
use Rattle.std.proofs.Common.{◌≡◌, ◌||◌, ℕ, false, List, [], ◌∷◌, refl, ap, sym, ◌∙◌}
use Rattle.std.proofs.lemmas.List.Folds.{list_any-append}
use Rattle.std.specs.List.{list_any}
use Rattle.std.specs.Prelude.{◌==◌}
use Rattle.merging_runs.proofs.NextNumbers.{next_same}
use Rattle.last_readers.specs.Readers.{is_named_reader}
use Rattle.pivot_check.specs.Inside.{in_run, postings_in}
use Rattle.pivot_check.specs.Kept.{CommittedValue, is_kept}
use Rattle.pivot_check.specs.Postings.{Posting}
use Rattle.pivot_check.specs.declared.run.WrittenRun.{WrittenRun}

in_runs : (k : ℕ) (rs : List WrittenRun)
    → list_any (λ r. list_any (λ (q : Posting). k == q.number) (in_run r)) rs ≡ list_any (λ (q : Posting). k == q.number) (postings_in rs)
in_runs k [] = refl
in_runs k (r ∷ rs) = ap (λ b. list_any (λ (q : Posting). k == q.number) (in_run r) || b) (in_runs k rs)
    ∙ sym (list_any-append (λ (q : Posting). k == q.number) (in_run r) (postings_in rs))

pub returns : goal.returns
returns c =
    let named = c.next_named-read.ensures (λ k. false) (λ k lt. refl) in
    let same = λ (k : ℕ). ap (λ b. is_named_reader c.self.inside.readers.readers k || b) (in_runs k c.self.inside.runs.runs)
    ∙ ap (λ (v : CommittedValue). is_kept v.facts k) c.self.view_is in
    next_same _ _ c.args.n c.next_number.result same (c.next_number.ensures _ named)
