use Rattle.event_loop.proofs.server.EventLoop.bind.Goals as goal
use Rattle.std.proofs.Common.{◌≤◌, arith, subst, sym}
use Rattle.std.proofs.Math.Logic.{∥∥₁_map}
use Rattle.sessions.specs.declared.events.TheConstants.{SESSIONS_MAX}
use Rattle.event_loop.proofs.Departing.{begins_serving}
use Rattle.event_loop.proofs.Entries.{no_entry, nobody_entries}
use Rattle.event_loop.proofs.Serving.{opened_nobody, opened_stands}
use Rattle.event_loop.specs.declared.order.TheConstants.{WIDTH_MIN}

pub invariant_of-result : goal.invariant_of-result
invariant_of-result g c = let nothing = no_entry c.new-in-Ok.result.slots c.new-in-Ok.ensures.empty in record {
  room = c.in-Ok.ensures.room;
  stands = opened_stands c.args.hub c.requires;
  serving = begins_serving c.args.hub c.requires c.law_runs_follow.ensures.none c.new-in-Ok.result.slots c.new-in-Ok.ensures.empty
      c.in-Ok.listening.lingering.queue.items
      c.in-Ok.ensures.nobody;
  sessions = record {
    present = λ key entry e alive. absurd (nothing key entry e);
    own = λ one two first second e f alive too same. absurd (nothing one first e);
  };
  entries = nobody_entries c.args.hub c.new-in-Ok.result.slots (opened_nobody c.args.hub c.requires);
  numbers = λ key entry e. absurd (nothing key entry e);
  places = λ key entry e. absurd (nothing key entry e);
  peers = ∥∥₁_map (opened_stands c.args.hub c.requires) (λ w. (w.0, w.1, λ key entry e idle. absurd (nothing key entry e)));
  rested = λ key entry e. absurd (nothing key entry e);
  next_place = c.new.ensures.places.0;
  beside_place = c.new.ensures.places.1;
  width = subst (λ n. (WIDTH_MIN ≤ n) × (n ≤ SESSIONS_MAX)) (sym c.new.ensures.width) (omega arith, omega arith);
  width_next = (omega arith, omega arith);
}
