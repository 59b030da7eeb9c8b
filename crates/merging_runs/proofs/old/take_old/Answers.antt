use Rattle.merging_runs.proofs.old.take_old.Goals as goal
use Rattle.std.proofs.Common.{◌+◌, map, sym, ap, ◌∙◌}
use Rattle.std.specs.Prelude.{nat_le}
use Rattle.merging_runs.proofs.KeptRuns.{rest_sound}
use Rattle.merging_runs.proofs.OldRuns.{old_at, partial_without, part_of, none_old}
use Rattle.merging_runs.proofs.RunSteps.{left_without, rest_agrees}
use Rattle.merging_runs.specs.Contents.{partial_upto, size_upto}
use Rattle.merging_runs.specs.RunSizes.{left_above}
use Rattle.merging_runs.specs.Value.{contents_of}

pub returns-in-Some : goal.returns-in-Some
returns-in-Some g c =
    let r = c.remove.result in
    let rs = c.args.runs.now.items in
    let i = c.in-Some.place in
    let o = c.args.oldest in
    let size = g.R.Run.sizes in
    let contents = contents_of g.R.Run.from size g.R.Run.elements in
    let at = c.remove.ensures.value in
    let found = old_at size o rs c.deref.result.now i r (sym c.deref.ensures.value) (sym c.first_old.ensures ∙ c.in-Some.is) at in
    let items = c.remove.ensures.items in
    record {
      agree = rw items (rest_agrees (g.R.Run.agree (nat_le o)) (g.met.R.Run.between (nat_le o)) rs i r found.0 at (g.met.R.Run.old o r found.1));
      none = λ none. absurd cc;
      size = part_of contents o rs i r found.0 at found.1 ∙ ap (λ l. (contents r).size + size_upto o (map contents l)) (sym items);
      partial = ap (λ l. partial_upto o (map contents l)) items ∙ partial_without contents o rs i r found.0 at found.1;
      left = ap (λ l. left_above o (map size l)) items ∙ left_without size o rs i r found.0 at found.1;
      kept = λ active. rw items (rest_sound (g.R.Run.holds active) g.R.Run.from size rs i found.0);
    }

pub returns-in-None-clause-agree : goal.returns-in-None-clause-agree
returns-in-None-clause-agree g c = g.met.R.Run.same (nat_le c.args.oldest) c.args.runs.now.items

pub returns-in-None-clause-none : goal.returns-in-None-clause-none
returns-in-None-clause-none g c = λ none.
    none_old (contents_of g.R.Run.from g.R.Run.sizes g.R.Run.elements) c.args.oldest c.args.runs.now.items c.deref.result.now (sym c.deref.ensures.value)
    (sym c.first_old.ensures ∙ c.in-None.is)
