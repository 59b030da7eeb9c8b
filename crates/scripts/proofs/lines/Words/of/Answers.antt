use Rattle.scripts.proofs.lines.Words.of.Goals as goal
use Rattle.std.proofs.Common.{length, ap, sym, ◌∙◌, rules}
use Rattle.std.specs.Prelude.{not}
use Rattle.std.specs.Slice.Iter.{split_rest, split_done, split_callee}
use Rattle.scripts.proofs.Pieces.{words_more, words_all}

pub returns-then-not-add : goal.returns-then-not-add
returns-then-not-add c =
    let begun = c.into_iter-word-iterator.ensures.into_iter_gives in
    let cut = c.split-word-items.ensures in
    words_more _ _ c.args.text.now c.into_iter-word-iterator.result (ap split_rest begun ∙ cut.rest) (ap split_done begun ∙ cut.done) (ap split_callee begun
    ∙ cut.closure) (λ x b q called. search rules)
    c.loop-word.yielded c.loop-word.word-iterator c.in-Some.word c.next.new.self c.loop-word.yielded_by c.in-Some.ensures.steps
    (ap not (sym c.is_empty.ensures ∙ c.if-not-is_empty.true)) (ap length (sym c.loop-word.invariant.2) ∙ c.add.ensures.full c.if-not-add.true)

pub returns : goal.returns
returns c =
    let begun = c.into_iter-word-iterator.ensures.into_iter_gives in
    let cut = c.split-word-items.ensures in
    c.loop-word.invariant.2 ∙ words_all _ _ c.args.text.now c.into_iter-word-iterator.result (ap split_rest begun ∙ cut.rest) (ap split_done begun
    ∙ cut.done) (ap split_callee begun ∙ cut.closure) (λ x b q called. search rules)
    c.loop-word.yielded c.loop-word.word-iterator c.next.new.self c.loop-word.yielded_by c.in-None.ensures.steps
