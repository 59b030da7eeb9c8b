use Rattle.last_readers.proofs.steps.number_from.Goals as goal
use Rattle.std.proofs.Common.{rules, of_calls, ◌∙◌, ◌<◌, ap, length, sym, arith}
use Rattle.std.proofs.lemmas.Fn.{always_returns_same}
use Rattle.std.specs.Ordering.{is_gt}
use Rattle.model.specs.Map.{key_cmp}
use Rattle.last_readers.proofs.Falling.{found_falling, found_none_falling, parted_falling}
use Rattle.last_readers.specs.Steps.{StepsValue, number_from, steps_rise}

pub returns-then-above-len : goal.returns-then-above-len
returns-then-above-len c =
    let k = c.args.key.bytes.now in
    let falling = c.steps.inside.falling in
    let view = ap (λ (s : StepsValue). s.items) c.steps.view_is in
    let ends =
    c.partition_point-above.ensures.partitioned (λ s. is_gt (key_cmp s.key k)) (always_returns_same _ _ _ (λ a r f g. search (rules, of_calls)))
    (parted_falling k falling.items (ap steps_rise view ∙ c.requires)) in
    sym (ap (λ l. number_from c.args.below l k) (sym view)
    ∙ found_none_falling c.args.below k falling.items c.partition_point-above.result (omega (arith, c.if-above-len.true, c.len.ensures, falling.ok.0)) ends)

pub returns : goal.returns
returns c =
    let k = c.args.key.bytes.now in
    let falling = c.steps.inside.falling in
    let view = ap (λ (s : StepsValue). s.items) c.steps.view_is in
    let rise = ap steps_rise view ∙ c.requires in
    let ends =
    c.partition_point-above.ensures.partitioned (λ s. is_gt (key_cmp s.key k)) (always_returns_same _ _ _ (λ a r f g. search (rules, of_calls)))
    (parted_falling k falling.items rise) in
    let some : c.partition_point-above.result < length falling.items =
    omega (arith, c.if-above-len.false, c.len.ensures, c.partition_point-above.ensures.bound, falling.ok.0) in
    c.number.ensures
    ∙ found_falling c.args.below k falling.items c.partition_point-above.result c.index.result.now some c.index.ensures rise ends
    ∙ ap (λ l. number_from c.args.below l k) view
