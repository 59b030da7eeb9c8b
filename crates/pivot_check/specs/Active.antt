-- Who may still ask, as a value of its own.
use Rattle.pivot_check.specs.Reach.{Reach}
use Rattle.pivot_check.specs.declared.active.ActiveBegins.{ActiveBegins}

-- who may still ask
abbrev pub reach_of : ActiveBegins → Reach
reach_of a = record { begins = a.begins.items; since = a.since }
