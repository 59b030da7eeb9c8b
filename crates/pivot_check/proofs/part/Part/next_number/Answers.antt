use Rattle.pivot_check.proofs.part.Part.next_number.Goals as goal
use Rattle.std.proofs.Common.{◌||◌, List, subst}
use Rattle.std.specs.List.{list_any}
use Rattle.std.specs.Prelude.{◌==◌}
use Rattle.merging_runs.specs.Next.{IsNext}
use Rattle.pivot_check.specs.Postings.{Posting}

pub returns : goal.returns
returns c p is =
    subst (λ (l : List Posting). IsNext (λ k. p k || list_any (λ q. k == q.number) l) c.args.n c.next_written.result) c.postings.ensures
    (c.next_written.ensures p is)
