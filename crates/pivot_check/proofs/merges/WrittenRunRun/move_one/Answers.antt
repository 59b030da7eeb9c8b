use Rattle.pivot_check.proofs.merges.WrittenRunRun.move_one.Goals as goal
use Rattle.std.proofs.lemmas.Bool.{and_parts}
use Rattle.pivot_check.proofs.Joined.{same_agrees}
use Rattle.pivot_check.proofs.ShortRuns.{upto_by}
use Rattle.pivot_check.specs.Inside.{in_run}
use Rattle.pivot_check.specs.Parts.{remaining_in}
use Rattle.pivot_check.specs.Postings.{asked_in}
use Rattle.std.proofs.Common.{arith, inl, inr}

pub returns-clause-agree : goal.returns-clause-agree
returns-clause-agree c = λ b asks keys flagged.
    let asked = asked_in keys b flagged in
    same_agrees asked _ _ (c.move_least.ensures.made.answers.same b (and_parts _ _ asks).1 keys flagged)

pub returns-clause-holds : goal.returns-clause-holds
returns-clause-holds c = λ holds few.
    let was = c.args.self.now in
    let short = holds few in
    let makes = c.move_least.ensures.made in
    record {
      numbers = c.move_least.ensures.numbers.rise short.numbers;
      kept = elim short.kept [
        | inl one ↦ absurd (omega (arith, one.rest, c.requires.some))
        | inr were ↦ inr (record {
          were = were.were;
          few = were.few;
          within = were.within;
          upto = upto_by were.were.since (in_run was) (remaining_in c.move_least.new.to c.move_least.new.first c.move_least.new.second) makes.answers.none
              were.upto;
          spaced = makes.spaced were.were were.within were.spaced;
        })
      ];
    }
