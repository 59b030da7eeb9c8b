-- What an event led to, said of its step.
use Rattle.std.proofs.Common.{arith, ◌≡◌}
use Rattle.std.proofs.lemmas.Grind.{common_steps}
use Rattle.model.proofs.Leading.{stepped}
use Rattle.sessions.specs.SessionStreams.{Outcome, HubState, HubEvent, Choice, IsPossible, hub_step}
use Rattle.sessions.specs.StandsFor.{Ghosts, Hub, StandsFor, HubLeads}

pub record Reached {D : Type 0} {g : Ghosts D} (new : Hub D g) (h : HubState) (e : HubEvent) (c : Choice) (outcome : Outcome) : Type 0 where
  pub possible : IsPossible h e c
  pub stands : StandsFor new (hub_step h e c).0
  pub outcome_is : outcome ≡ (hub_step h e c).1

pub reached : {D : Type 0} {g : Ghosts D} (old new : Hub D g) (e : HubEvent) (outcome : Outcome) (leads : HubLeads old new e outcome) (h : HubState)
    → StandsFor old h → Reached new h e leads.0 outcome
reached old new e outcome leads h stands = grind (arith, common_steps, stepped)
