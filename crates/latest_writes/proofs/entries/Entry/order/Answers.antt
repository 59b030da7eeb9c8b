use Rattle.latest_writes.proofs.entries.Entry.order.Goals as goal
use Rattle.std.proofs.Common.{◌∙◌, ap}
use Rattle.model.specs.Map.{KeyWrite, key_cmp}
use Rattle.latest_writes.proofs.Ordered.{by_first, by_next}

pub returns-then-self-other : goal.returns-then-self-other
returns-then-self-other c =
    let mine = c.self.invariant in
    let its = c.other.invariant in
    by_first 8 c.self.inside.write.0 c.other.inside.write.0 _ _ _ mine.2 its.2 mine.0 its.0 c.if-self-other.true c.cmp.ensures
    ∙ ap (λ (w : KeyWrite). key_cmp w.0 c.other.inside.write.0) c.self.view_is ∙ ap (λ (w : KeyWrite). key_cmp c.args.self.now.0 w.0) c.other.view_is

pub returns-then-self-other-2 : goal.returns-then-self-other-2
returns-then-self-other-2 c =
    let mine = c.self.invariant in
    let its = c.other.invariant in
    by_next 8 8 c.self.inside.write.0 c.other.inside.write.0 _ _ _ _ _ mine.2 its.2 mine.0 its.0 c.if-self-other.false mine.1 its.1 c.if-self-other-2.true
    c.cmp-then-self-other-2.ensures
    ∙ ap (λ (w : KeyWrite). key_cmp w.0 c.other.inside.write.0) c.self.view_is ∙ ap (λ (w : KeyWrite). key_cmp c.args.self.now.0 w.0) c.other.view_is
