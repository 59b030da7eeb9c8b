use Rattle.sorted_pages.proofs.heads.head_of.Goals as goal
use Rattle.std.proofs.Common.{arith, rules}
use Rattle.sorted_pages.proofs.FirstBytes.{of_whole, of_padded}

pub returns-then-bytes-ge-HEAD_SIZE : goal.returns-then-bytes-ge-HEAD_SIZE
returns-then-bytes-ge-HEAD_SIZE c = of_whole c.args.bytes.now c.read_u128.result (λ i. search rules) c.if-bytes-ge-HEAD_SIZE.true c.read_u128.ensures

pub returns : goal.returns
returns c =
    of_padded c.args.bytes.now c.copy_from_slice.new.self c.read_u128-2.result (λ i. search rules) (omega (arith, c.if-bytes-ge-HEAD_SIZE.false))
    c.copy_from_slice.ensures.after c.read_u128-2.ensures
