use Rattle.versions.proofs.reclaiming.is_garbage_left.Goals as goal
use Rattle.std.proofs.Common.{◌∙◌}
use Rattle.versions.proofs.Groups.{any-garbage}

pub returns-then-spare-eq0 : goal.returns-then-spare-eq0
returns-then-spare-eq0 c = c.are_garbage.ensures ∙ any-garbage c.args.begins.now c.args.groups.now
