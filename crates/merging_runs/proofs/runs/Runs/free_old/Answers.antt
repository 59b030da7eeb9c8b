use Rattle.merging_runs.proofs.runs.Runs.free_old.Goals as goal
use Rattle.std.proofs.Common.{rules}

pub returns-in_default-clause-kept : goal.returns-in_default-clause-kept
returns-in_default-clause-kept g c = λ active last h. c.take_old.ensures.kept active last (c.runs.invariant.kept active last h)

pub runs-preserved : goal.runs-preserved
runs-preserved g c =
    let others = c.free_run-left.ensures.others in
    let taken = c.take_old.ensures in
    record {
      agree = search rules;
      whole = search rules;
      partial = search rules;
      credit = search rules;
      left = search rules;
      refused = search rules;
      kept = λ active last h. rw others.runs (taken.kept active last (c.runs.invariant.kept active last h));
      most = search rules;
      ended = search rules;
    }
