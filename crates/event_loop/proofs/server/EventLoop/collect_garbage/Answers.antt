use Rattle.event_loop.proofs.server.EventLoop.collect_garbage.Goals as goal
use Rattle.std.proofs.Common.{ap, subst, sym, ◌∙◌}
use denote.Struct.Props.{props}
use Rattle.sessions.proofs.EventSteps.{status_seen}
use Rattle.stream_driver.proofs.States.{present_after, seen_after, stands_after}
use Rattle.stream_driver.specs.Sessions.{IsPresentIn, Point, status_at}
use Rattle.event_loop.proofs.Departing.{rest_serves}
use Rattle.event_loop.proofs.Peers.{leads_lack}
use Rattle.event_loop.proofs.WholeTurns.{leads_rest}
use Rattle.event_loop.specs.Peers.{IdleWait}
use Rattle.event_loop.specs.Sockets.{CameShort, traffic_of}

pub invariant_of-self : goal.invariant_of-self
invariant_of-self g c =
    let old = c.args.self.now in
    let new = c.reclaim_step-self.new.self in
    let rests = leads_rest c.reclaim_step-self.ensures.ran in
    record {
      room = old.room;
      stands = stands_after old.stands rests;
      serving = rest_serves old.hub new c.reclaim_step-self.ensures.ran old.table.slots old.lingering.queue.items old.serving;
      sessions = record {
        present = λ key entry e alive. present_after entry.session entry.session (old.sessions.present key entry e alive) rests
            (λ h k p same. subst (λ (q : Point). IsPresentIn q.hub entry.session) (sym same) p);
        own = old.sessions.own;
      };
      entries = λ s without.
          seen_after (hlevel props) old.stands rests (λ h k was stands same. status_seen new k.hub stands s ∙ ap (λ (q : Point). status_at q.hub s) same
          ∙ sym (status_seen old.hub h.hub was s) ∙ old.entries s without);
      numbers = old.numbers;
      places = old.places;
      peers = leads_lack old.hub new rests old.table.slots old.table.slots
          (λ h k same has. subst (λ (q : Point). IdleWait traffic_of CameShort q.hub old.table.slots) (sym same) has) old.peers;
      rested = old.rested;
      next_place = old.next_place;
      beside_place = old.beside_place;
      width = old.width;
      width_next = old.width_next;
    }

pub returns-clause-collects : goal.returns-clause-collects
returns-clause-collects g c = c.reclaim_step-self.ensures
