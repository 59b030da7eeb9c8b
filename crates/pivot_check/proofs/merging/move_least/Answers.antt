use Rattle.pivot_check.proofs.merging.move_least.Goals as goal
use Rattle.std.proofs.Common.{arith}
use Rattle.pivot_check.proofs.Redundancy.{first_answers, second_answers}
use Rattle.pivot_check.proofs.Taking.{below_from_under, first_numbers, second_numbers, taken_beside, taken_makes}
use Rattle.pivot_check.proofs.Taking.{taken_rises}
use Rattle.pivot_check.specs.Active.{reach_of}
use Rattle.pivot_check.specs.Kept.{may_ask}
use Rattle.pivot_check.specs.Parts.{remaining}

pub returns-then-is_in_first-clause-made : goal.returns-then-is_in_first-clause-made
returns-then-is_in_first-clause-made c =
    let reach = reach_of c.args.active.now in
    let makes = taken_makes reach (remaining c.args.to.now) (remaining c.args.first.now) (remaining c.move_first.new.to) (remaining c.move_first.new.from)
    c.move_first.ensures.taken in
    record {
      answers = first_answers (may_ask reach) (remaining c.args.to.now) (remaining c.move_first.new.to) (remaining c.args.first.now)
          (remaining c.move_first.new.from) (remaining c.args.second.now) makes.answers;
      spaced = makes.spaced;
    }

pub returns-then-is_in_first-clause-rising : goal.returns-then-is_in_first-clause-rising
returns-then-is_in_first-clause-rising c =
    let reach = reach_of c.args.active.now in
    let made = remaining c.args.to.now in
    let xs = remaining c.args.first.now in
    let made_then = remaining c.move_first.new.to in
    let xs_then = remaining c.move_first.new.from in
    let step = c.move_first.ensures.taken in
    record {
      first = taken_rises reach made xs made_then xs_then step c.requires.rising.first;
      second = taken_beside reach made xs made_then xs_then step (remaining c.args.second.now) c.requires.rising.first
          (c.is_in_first.ensures.first c.if-is_in_first.true) c.requires.rising.second;
    }

pub returns-then-is_in_first-clause-numbers : goal.returns-then-is_in_first-clause-numbers
returns-then-is_in_first-clause-numbers c = record {
  rise = first_numbers (reach_of c.args.active.now) (remaining c.args.to.now) (remaining c.args.first.now) (remaining c.move_first.new.to)
      (remaining c.move_first.new.from)
      c.move_first.ensures.taken (remaining c.args.second.now);
  from = omega (arith, c.move_first.ensures.from);
}

pub returns-else-is_in_first-clause-made : goal.returns-else-is_in_first-clause-made
returns-else-is_in_first-clause-made c =
    let reach = reach_of c.args.active.now in
    let moved = c.move_first-else-is_in_first in
    let makes = taken_makes reach (remaining c.args.to.now) (remaining c.args.second.now) (remaining c.move_first-else-is_in_first.new.to)
    (remaining c.move_first-else-is_in_first.new.from)
    c.move_first-else-is_in_first.ensures.taken in
    record {
      answers = second_answers (may_ask reach) (remaining c.args.to.now) (remaining c.move_first-else-is_in_first.new.to) (remaining c.args.first.now)
          (remaining c.args.second.now) (remaining c.move_first-else-is_in_first.new.from) makes.answers;
      spaced = makes.spaced;
    }

pub returns-else-is_in_first-clause-rising : goal.returns-else-is_in_first-clause-rising
returns-else-is_in_first-clause-rising c =
    let reach = reach_of c.args.active.now in
    let made = remaining c.args.to.now in
    let first = remaining c.args.first.now in
    let xs = remaining c.args.second.now in
    let made_then = remaining c.move_first-else-is_in_first.new.to in
    let xs_then = remaining c.move_first-else-is_in_first.new.from in
    let step = c.move_first-else-is_in_first.ensures.taken in
    record {
      first = taken_beside reach made xs made_then xs_then step first c.requires.rising.second
          (below_from_under xs first (c.is_in_first.ensures.second c.if-is_in_first.false)) c.requires.rising.first;
      second = taken_rises reach made xs made_then xs_then step c.requires.rising.second;
    }

pub returns-else-is_in_first-clause-numbers : goal.returns-else-is_in_first-clause-numbers
returns-else-is_in_first-clause-numbers c = record {
  rise = second_numbers (reach_of c.args.active.now) (remaining c.args.to.now) (remaining c.args.second.now)
      (remaining c.move_first-else-is_in_first.new.to) (remaining c.move_first-else-is_in_first.new.from)
      c.move_first-else-is_in_first.ensures.taken (remaining c.args.first.now)
      (c.is_in_first.ensures.second c.if-is_in_first.false);
  from = omega (arith, c.move_first-else-is_in_first.ensures.from);
}
