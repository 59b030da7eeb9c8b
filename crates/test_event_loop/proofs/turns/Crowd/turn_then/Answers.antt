use Rattle.test_event_loop.proofs.turns.Crowd.turn_then.Goals as goal
use Rattle.stream_driver.proofs.States.{stands_after}
use Rattle.event_loop.proofs.Tables.{below_after}

pub invariant_of-self : goal.invariant_of-self
invariant_of-self c = record {
  stands = stands_after c.args.self.now.stands c.drive_ready_then.ensures.driven.leads;
  sessions = c.drive_ready_then.ensures.sessions;
  numbers = below_after c.args.self.now.next c.args.self.now.table.slots c.drive_ready_then.new.table.slots c.args.self.now.numbers
      c.drive_ready_then.ensures.numbers;
}
