use Rattle.last_readers.proofs.merging.take_both.Goals as goal
use Rattle.std.proofs.Common.{◌≡◌, ◌∙◌}
use Rattle.last_readers.proofs.MergeLaws.{joined_both}
use Rattle.last_readers.specs.Merging.{later}

pub returns-clause-joined : goal.returns-clause-joined
returns-clause-joined c =
    let o = c.args.oldest in
    let x = c.in-Some.x in
    let y = c.in-Some-take_greatest.y in
    let at : c.later-at.result ≡ later o x.at y.at = c.later-at.ensures ∙ (λ i. later o (c.at.ensures i) (c.at-2.ensures i)) in
    let above : c.later-above.result ≡ later o x.above y.above =
    c.later-above.ensures ∙ (λ i. later o (c.number_above.ensures i) (c.number_above-2.ensures i)) in
    let first = c.take_greatest.new.self.items in
    let second = c.take_greatest-2.new.self.items in
    joined_both o c.args.first.now.items first c.args.second.now.items second x y c.new.result c.in-Some.ensures.items
    c.in-Some-take_greatest.ensures.items c.requires.first c.requires.second
    (c.requires.ends.same first second x y c.in-Some.ensures.items c.in-Some-take_greatest.ensures.items)
    (c.new.ensures ∙ (λ i. record { key = c.into_key.ensures i; at = at i; above = above i }))
