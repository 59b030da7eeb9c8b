use Rattle.event_loop.proofs.server.EventLoop.accept.Goals as goal
use Rattle.std.proofs.Common.{ap}
use Rattle.event_loop.proofs.Departing.{accepts_serve, closed_serves}
use Rattle.event_loop.proofs.Ordering.{each_placed, new_registered}
use Rattle.event_loop.proofs.Peers.{accepted_lack, accepted_rested}
use Rattle.event_loop.specs.Lingerings.{Lingerers}

pub invariant_of-self-clause-serving : goal.invariant_of-self-clause-serving
invariant_of-self-clause-serving g c = closed_serves _ _ _ _ (ap (λ (l : Lingerers). l.all) c.close.ensures) (
    accepts_serve c.args.self.now.hub c.accept_some-self.new.hub c.args.self.now.next c.accept_some-self.new.next c.accept_some-self.ensures.accepts.came
    c.args.self.now.refused c.accept_some-self.new.refused
    c.args.self.now.table.slots c.accept_some-self.new.table.slots c.args.self.now.lingering.queue.items
    (record { stands = c.args.self.now.stands; sessions = c.args.self.now.sessions; numbers = c.args.self.now.numbers; entries = c.args.self.now.entries })
    c.accept_some-self.ensures.accepts.became c.args.self.now.serving)

pub invariant_of-self-else-eq-clause-serving : goal.invariant_of-self-else-eq-clause-serving
invariant_of-self-else-eq-clause-serving g c =
    accepts_serve c.args.self.now.hub c.accept_some-self.new.hub c.args.self.now.next c.accept_some-self.new.next c.accept_some-self.ensures.accepts.came
    c.args.self.now.refused c.accept_some-self.new.refused
    c.args.self.now.table.slots c.accept_some-self.new.table.slots c.args.self.now.lingering.queue.items
    (record { stands = c.args.self.now.stands; sessions = c.args.self.now.sessions; numbers = c.args.self.now.numbers; entries = c.args.self.now.entries })
    c.accept_some-self.ensures.accepts.became c.args.self.now.serving

pub invariant_of-self-clause-places : goal.invariant_of-self-clause-places
invariant_of-self-clause-places g c = each_placed c.accept_some-self.ensures.accepts.became.0 new_registered c.args.self.now.places

pub invariant_of-self-else-eq-clause-places : goal.invariant_of-self-else-eq-clause-places
invariant_of-self-else-eq-clause-places g c = each_placed c.accept_some-self.ensures.accepts.became.0 new_registered c.args.self.now.places

pub invariant_of-self-clause-peers : goal.invariant_of-self-clause-peers
invariant_of-self-clause-peers g c =
    accepted_lack c.accept_some-self.ensures.accepts.became.0
    (record { stands = c.args.self.now.stands; sessions = c.args.self.now.sessions; numbers = c.args.self.now.numbers; entries = c.args.self.now.entries })
    c.args.self.now.peers

pub invariant_of-self-clause-rested : goal.invariant_of-self-clause-rested
invariant_of-self-clause-rested g c = accepted_rested c.accept_some-self.ensures.accepts.became.0 c.args.self.now.rested

pub invariant_of-self-else-eq-clause-peers : goal.invariant_of-self-else-eq-clause-peers
invariant_of-self-else-eq-clause-peers g c =
    accepted_lack c.accept_some-self.ensures.accepts.became.0
    (record { stands = c.args.self.now.stands; sessions = c.args.self.now.sessions; numbers = c.args.self.now.numbers; entries = c.args.self.now.entries })
    c.args.self.now.peers

pub invariant_of-self-else-eq-clause-rested : goal.invariant_of-self-else-eq-clause-rested
invariant_of-self-else-eq-clause-rested g c = accepted_rested c.accept_some-self.ensures.accepts.became.0 c.args.self.now.rested
