use Rattle.pivot_check.proofs.runs.add_run.Goals as goal
use Rattle.std.proofs.Common.{◌∙◌, ◌++◌, ◌∷◌, [], ap, map, subst, sym, arith}
use Rattle.std.proofs.lemmas.List.{map-append}
use Rattle.pivot_check.proofs.Joined.{pushed}
use Rattle.pivot_check.proofs.KeptShort.{once_rises}
use Rattle.pivot_check.proofs.ShortRuns.{added_runs, in_run_at_rest, of_one_commit}
use Rattle.pivot_check.specs.Inside.{written_run_size}
use Rattle.pivot_check.specs.KeptShort.{AreKeptShort}
use Rattle.pivot_check.specs.Postings.{least}

pub of-requires-clause-rising : goal.of-requires-clause-rising
of-requires-clause-rising c = once_rises c.args.written.items c.requires.commit.once

pub returns-clause-same : goal.returns-clause-same
returns-clause-same c = λ t. grind (arith, pushed, ap (least t) (in_run_at_rest c.of.result c.of.ensures.left), ap (least t) c.of.ensures.made)

pub returns-clause-sized : goal.returns-clause-sized
returns-clause-sized c = λ sized.
    c.push.ensures.sizes ∙ ap (λ l. l ++ written_run_size c.of.result ∷ []) sized
    ∙ sym (ap (map written_run_size) c.push.ensures.runs ∙ map-append written_run_size c.args.runs.now.runs (c.of.result ∷ []))

pub returns-clause-kept : goal.returns-clause-kept
returns-clause-kept c = λ reach before le kept.
    let short = of_one_commit reach c.args.last c.of.result c.args.written.items c.of.ensures.left c.of.ensures.made c.requires.commit in
    let from = c.of.ensures.from c.args.last (omega arith) c.requires.commit.from in
    subst (AreKeptShort reach c.args.last) (sym c.push.ensures.runs)
    (added_runs reach before c.args.last c.args.runs.now.runs c.of.result le c.of.ensures.last (omega (arith, from, le)) short kept)
