use Rattle.pivot_check.proofs.written.next_written.Goals as goal
use Rattle.std.proofs.Common.{◌+◌, ◌||◌, ℕ, Bool, subst, arith}
use Rattle.std.specs.Prelude.{◌==◌}
use Rattle.merging_runs.proofs.NextNumbers.{first_all, first_more, first_none, with_first}
use Rattle.merging_runs.specs.Next.{IsNext}
use Rattle.pivot_check.specs.Postings.{Posting}

abbrev has : Posting → ℕ → Bool
has q k = k == q.number

pub loop-posting-init : goal.loop-posting-init
loop-posting-init c p is = first_none has c.args.postings.now p c.args.n c.args.found is

pub loop-posting-preserved : goal.loop-posting-preserved
loop-posting-preserved c p is =
    let i = c.loop-posting.posting-index in
    let found = c.next_of-found.result in
    let tests = with_first has i c.args.postings.now p in
    first_more has c.args.postings.now i (i + 1) c.posting-item.result p c.args.n found (omega arith) c.loop-posting-test.true c.posting-item.is
    (subst (λ m. IsNext (λ k. tests k || k == m) c.args.n found) c.number.ensures (c.next_of-found.ensures _ (c.loop-posting.invariant p is)))

pub returns : goal.returns
returns c p is = first_all has c.args.postings.now c.loop-posting.posting-index p c.args.n c.loop-posting.found (omega arith) (c.loop-posting.invariant p is)
