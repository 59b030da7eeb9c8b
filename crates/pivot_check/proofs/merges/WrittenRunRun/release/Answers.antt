use Rattle.pivot_check.proofs.merges.WrittenRunRun.release.Goals as goal
use Rattle.std.proofs.Common.{◌++◌, [], sym, subst, ◌∙◌, arith, inl, inr}
use Rattle.pivot_check.proofs.Joined.{none_left}
use Rattle.pivot_check.specs.KeptShort.{NumbersRise}
use Rattle.pivot_check.specs.Parts.{remaining}
use Rattle.pivot_check.specs.Postings.{asked_in, keys_rise, least, are_upto}

pub invariant_of-self : goal.invariant_of-self
invariant_of-self c =
    let was = c.args.self.now in
    let first = none_left c.shrink_to.new.self (omega arith) ∙ sym (none_left was.first (omega arith)) in
    let second = none_left c.shrink_to-2.new.self (omega arith) ∙ sym (none_left was.second (omega arith)) in
    record {
      first_rises = (λ i. keys_rise (remaining was.made ++ first i)) ∙ was.first_rises;
      second_rises = (λ i. keys_rise (remaining was.made ++ second i)) ∙ was.second_rises;
      places = omega arith;
      upto = (λ i. are_upto was.last (remaining was.made ++ (first i ++ second i))) ∙ was.upto;
    }

pub returns-clause-agree : goal.returns-clause-agree
returns-clause-agree c = λ begins b asks keys flagged.
    let was = c.args.self.now in
    let first = none_left c.shrink_to.new.self (omega arith) ∙ sym (none_left was.first (omega arith)) in
    let second = none_left c.shrink_to-2.new.self (omega arith) ∙ sym (none_left was.second (omega arith)) in
    λ i. least (asked_in keys b flagged) ((remaining was.made ++ (first i ++ second i)) ++ [])

pub returns-clause-makes : goal.returns-clause-makes
returns-clause-makes c = λ active oldest once within spaced. spaced

pub returns-clause-holds : goal.returns-clause-holds
returns-clause-holds c = λ active holds few.
    let was = c.args.self.now in
    let short = holds few in
    let first = none_left c.shrink_to.new.self (omega arith) ∙ sym (none_left was.first (omega arith)) in
    let second = none_left c.shrink_to-2.new.self (omega arith) ∙ sym (none_left was.second (omega arith)) in
    record {
      numbers = subst (λ l. NumbersRise (remaining was.made) l (remaining c.shrink_to-2.new.self)) (sym first)
          (subst (λ l. NumbersRise (remaining was.made) (remaining was.first) l) (sym second) short.numbers);
      kept = elim short.kept [
        | inl one ↦ inl (record { rest = omega arith; once = one.once })
        | inr were ↦ inr (record {
          were = were.were;
          few = were.few;
          within = were.within;
          upto = (λ i. are_upto were.were.since (remaining was.made ++ (first i ++ second i))) ∙ were.upto;
          spaced = were.spaced;
        })
      ];
    }
