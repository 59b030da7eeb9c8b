use Rattle.model.proofs.maps.Map.remove.Goals as goal
use Rattle.model.proofs.Lookups.{removed_at, removed_none, removal_kept}

pub returns-in-Ok : goal.returns-in-Ok
returns-in-Ok c = removed_at _ _ _ _ _ _ c.self.invariant.0 c.self.view_is c.bytes.ensures.bytes c.in-Ok.ensures.found c.remove.ensures.items

pub returns-in_default : goal.returns-in_default
returns-in_default c = removed_none _ c.bytes.result.now _ c.bytes.ensures.bytes c.in_default.ensures.absent.absent

pub invariant_of-self : goal.invariant_of-self
invariant_of-self c = removal_kept _ _ _ c.args.key.bytes.now c.self.invariant c.self.view_is
    (removed_at _ _ _ _ _ _ c.self.invariant.0 c.self.view_is c.bytes.ensures.bytes c.in-Ok.ensures.found c.remove.ensures.items)
