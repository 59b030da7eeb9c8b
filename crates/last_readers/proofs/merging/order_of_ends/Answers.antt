use Rattle.last_readers.proofs.merging.order_of_ends.Goals as goal
use Rattle.std.proofs.Common.{sym, ◌∙◌}
use Rattle.model.proofs.KeyOrder.{turned_greater}
use Rattle.model.specs.Map.{key_cmp}
use Rattle.last_readers.proofs.MergeLaws.{ends_over, ends_equal}

pub returns : goal.returns
returns c =
    let first = c.args.first.now in
    let second = c.args.second.now in
    let x = c.in-Some.x.now in
    let y = c.in-Some-greatest.y.now in
    let x_is = c.in-Some.ensures.last.1 in
    let y_is = c.in-Some-greatest.ensures.last.1 in
    let order = sym (c.order.ensures ∙ (λ i. key_cmp (c.key.ensures i) (c.key-2.ensures i))) in
    record {
      greater = λ e. ends_over first.items second.items _ _ x y c.requires.second x_is y_is (turned_greater x.key y.key (order ∙ e));
      less = λ e. ends_over second.items first.items _ _ y x c.requires.first y_is x_is (order ∙ e);
      equal = λ e. ends_equal first.items second.items _ _ x y x_is y_is (order ∙ e);
    }
