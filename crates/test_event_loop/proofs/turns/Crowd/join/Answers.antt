use Rattle.test_event_loop.proofs.turns.Crowd.join.Goals as goal
use Rattle.std.proofs.Common.{◌≡◌, ap, subst, sym}
use Rattle.sessions.specs.declared.events.Outcome.TheVariants.{Done}
use Rattle.stream_driver.specs.Entries.{HaveSessions}
use Rattle.event_loop.proofs.Tables.{joined_numbers, joined_sessions, joined_stands}
use Rattle.event_loop.specs.Numbers.{SessionsAreBelow}

pub invariant_of-result : goal.invariant_of-result
invariant_of-result g c =
    let same : c.args.self.table.slots ≡ c.reserve.new.self.slots = sym (ap (λ t. t.slots) c.reserve.ensures.rest_kept) in
    let numbers : SessionsAreBelow c.args.self.next c.reserve.new.self.slots = subst (λ l. SessionsAreBelow c.args.self.next l) same c.args.self.numbers in
    let sessions : HaveSessions c.args.self.hub c.reserve.new.self.slots = subst (λ l. HaveSessions c.args.self.hub l) same c.args.self.sessions in
    record {
      stands = joined_stands c.args.self.hub c.step.new.self c.args.self.next Done c.in-Done.ensures.step c.args.self.stands;
      sessions = joined_sessions c.args.self.hub c.step.new.self c.reserve.new.self c.insert_reserved.new.self c.insert_reserved.result _
          c.insert_reserved.ensures.updates c.in-Done.ensures.step c.args.self.stands numbers sessions;
      numbers = joined_numbers c.args.self.hub c.step.new.self c.reserve.new.self c.insert_reserved.new.self c.insert_reserved.result _
          c.insert_reserved.ensures.updates c.in-Done.ensures.step numbers;
    }
