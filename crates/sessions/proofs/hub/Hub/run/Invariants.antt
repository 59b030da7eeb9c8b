use Rattle.sessions.proofs.hub.Hub.run.Given as goal
use Rattle.std.proofs.Common.{◌≤◌, map, take}
use Rattle.sessions.specs.Laws.{Runs}
use Rattle.sessions.specs.StandsFor.{event_of, failures}

-- the events so far were a run
abbrev pub invariant-loop-event : goal.invariant-loop-event
invariant-loop-event g l = record {
  device : failures l.initial.self ≤ failures l.self;
  runs : Runs l.initial.self l.self (map event_of (take l.event-index l.events));
}
