use Rattle.last_readers.proofs.merging.move_greatest.Goals as goal
use Rattle.std.proofs.Common.{◌∙◌}
use Rattle.last_readers.proofs.Cuts.{cut_again}
use Rattle.last_readers.proofs.MergeLaws.{moved}
use Rattle.last_readers.proofs.StepLaws.{rises_left}
use Rattle.last_readers.proofs.Sweeps.{joined_from}
use Rattle.last_readers.specs.Merging.{with_step, later}

pub take_greatest-step-requires-clause-first : goal.take_greatest-step-requires-clause-first
take_greatest-step-requires-clause-first c = rises_left c.args.first.now.items c.args.to.now.items c.requires.rising.first

pub take_greatest-step-requires-clause-second : goal.take_greatest-step-requires-clause-second
take_greatest-step-requires-clause-second c = rises_left c.args.second.now.items c.args.to.now.items c.requires.rising.second

pub returns : goal.returns
returns c =
    let step = c.take_greatest-step in
    let o = c.args.oldest in
    let to = c.args.to.now.items in
    let below = c.later-below.ensures ∙ (λ i. later o (c.end_of.ensures i) (c.end_of-2.ensures i)) in
    let added = c.add_step.ensures.added ∙ (λ i. with_step step.result (below i) to) in
    let made = step.ensures.joined in
    let all = moved o _ step.new.first.items _ step.new.second.items to step.result step.ensures.joined c.add_step.new.to.items c.requires.rising.first
    c.requires.rising.second added in
    record {
      moved = record {
        same = all.same;
        made = (step.result, cut_again o _ _ made.at, cut_again o _ _ made.above, added);
        from = λ n h. joined_from n o c.args.first.now.items step.new.first.items c.args.second.now.items step.new.second.items to c.add_step.new.to.items
            step.result _ step.ensures.joined added h;
      };
      rising = record { first = all.first; second = all.second };
      step = record { fewer = step.ensures.fewer; two = step.ensures.two; made = c.add_step.ensures.len };
      capacity = c.add_step.ensures.capacity;
    }
