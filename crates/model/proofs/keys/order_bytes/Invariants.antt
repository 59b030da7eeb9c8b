use Rattle.model.proofs.keys.order_bytes.Given as goal
use Rattle.std.proofs.Common.{◌≡◌, length}
use Rattle.model.proofs.KeyNumbers.{AreBytes}
use Rattle.model.specs.Map.{key_cmp}

-- what is left of both stands as both do
abbrev pub invariant-loop-left : goal.invariant-loop-left
invariant-loop-left l = (key_cmp l.left l.right ≡ key_cmp l.fn.left l.fn.right) × AreBytes l.left × AreBytes l.right

abbrev pub decreases-loop-left : goal.decreases-loop-left
decreases-loop-left l = length l.left
