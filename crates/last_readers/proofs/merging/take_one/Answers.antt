use Rattle.last_readers.proofs.merging.take_one.Goals as goal
use Rattle.std.proofs.Common.{◌≡◌, ◌∙◌}
use Rattle.last_readers.proofs.MergeLaws.{joined_one}
use Rattle.last_readers.specs.Merging.{later}
use Rattle.last_readers.specs.Steps.{end_of}

pub returns-clause-joined : goal.returns-clause-joined
returns-clause-joined c =
    let o = c.args.oldest in
    let step = c.in-Some.step in
    let beyond = c.end_of-beyond.ensures in
    let at : c.later-at.result ≡ later o step.at (end_of c.args.second.now.items) = c.later-at.ensures ∙ (λ i. later o (c.at.ensures i) (beyond i)) in
    let above : c.later-above.result ≡ later o step.above (end_of c.args.second.now.items) =
    c.later-above.ensures ∙ (λ i. later o (c.number_above.ensures i) (beyond i)) in
    joined_one o c.args.first.now.items c.take_greatest.new.self.items c.args.second.now.items step c.new.result c.in-Some.ensures.items c.requires.first
    (c.requires.ends.over c.take_greatest.new.self.items step c.in-Some.ensures.items)
    (c.new.ensures ∙ (λ i. record { key = c.into_key.ensures i; at = at i; above = above i }))
