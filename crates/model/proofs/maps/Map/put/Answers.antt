use Rattle.model.proofs.maps.Map.put.Goals as goal
use Rattle.std.proofs.Common.{rules, subst}
use Rattle.model.proofs.Lookups.{put_kept}
use Rattle.model.specs.Key.{IsKey}

pub invariant_of-self : goal.invariant_of-self
invariant_of-self c = put_kept _ _ _ c.args.key c.args.value.items c.self.invariant c.self.view_is (subst IsKey c.lend.ensures c.lend.result.sized) c.requires
    (search rules)

pub invariant_of-self-in-Ok-2 : goal.invariant_of-self-in-Ok-2
invariant_of-self-in-Ok-2 c =
    put_kept _ _ _ c.args.key c.args.value.items c.self.invariant c.self.view_is (subst IsKey c.lend.ensures c.lend.result.sized) c.requires (search rules)

pub invariant_of-self-in-Continue-1 : goal.invariant_of-self-in-Continue-1
invariant_of-self-in-Continue-1 c =
    put_kept _ _ _ c.args.key c.args.value.items c.self.invariant c.self.view_is (subst IsKey c.lend.ensures c.lend.result.sized) c.requires (search rules)
