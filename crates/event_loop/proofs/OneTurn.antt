-- The parts of a turn make it.
use Rattle.std.proofs.Common.{◌≡◌, Bool, false, List, arith, refl, subst, sym}
use Rattle.mio.specs.Events.{items}
use Rattle.mio.specs.declared.event.event.Event.{Event}
use Rattle.sector.specs.declared.device.Sectors.{Ghosts}
use Rattle.sessions.specs.Laws.{CollectsStep}
use Rattle.sessions.specs.StandsFor.{device}
use Rattle.socket_calls.specs.HappenedCalls.{WasReported}
use Rattle.stream_driver.specs.Buffers.{traffic_through}
use Rattle.stream_driver.specs.Entries.{DrivenThen}
use Rattle.stream_driver.specs.Sessions.{Adds, RunLeads, Point}
use Rattle.stream_driver.specs.Traffic.{Traffic}
use Rattle.event_loop.specs.Leavings.{LingerOn}
use Rattle.event_loop.specs.Lingerings.{Lingerers, lingers_in, unless_failed}
use Rattle.event_loop.specs.Order.{writer_of}
use Rattle.event_loop.specs.Turns.{Accepted, DrivesReady, EndsWithGarbage, IsTurn, Rests, accepted_joins, accepts_now}
use Rattle.event_loop.specs.Turns.{SetsWidth, is_reported_of}
use Rattle.event_loop.specs.declared.connections.Backlog.{Backlog}
use Rattle.event_loop.specs.declared.connections.TheConstants.{LINGERER}
use Rattle.event_loop.specs.declared.polling.Poller.{Poller}
use Rattle.event_loop.specs.declared.server.EventLoop.{EventLoop}
use Rattle.event_loop.specs.declared.socket.Socket.{Socket}

-- where a turn doesn't accept, none of those that linger is closed
pub none_closed : (backlog : Backlog) (events : List Event) (all : Lingerers) → accepts_now backlog events ≡ false → all ≡ unless_failed backlog all
none_closed backlog events all e = grind arith

module _ {D : Type 0} {g : Ghosts D} (reports : Type 0) (traffic : Socket
    → Traffic) (old driven accepted new : EventLoop D g) (turns_are : new.turns ≡ driven.turns) (next_width_is : new.next_width
    ≡ driven.next_width) (next_is : driven.next ≡ old.next) (port_is : driven.port
    ≡ old.port) (backlog_is : driven.backlog ≡ old.backlog)
    (refused_is : driven.refused ≡ old.refused) (lingerers_are : lingers_in accepted.lingering
    ≡ unless_failed accepted.backlog (lingers_in driven.lingering)) (rests : Rests accepted new) (ended_with : WasReported old.poller.poll
    (items new.poller.events)) where
  abbrev Drives : Poller → Type 0
  Drives poller = DrivesReady reports traffic (items poller.events) old.turns old.hub old.table.slots driven.turns driven.hub driven.table.slots

  abbrev Linger : (poller : Poller) → Drives poller → Bool → Type 0
  Linger poller drives reported =
      LingerOn (g.moment (device driven.hub)) reported drives.driven (lingers_in old.lingering) driven.table.slots (lingers_in driven.lingering)

  abbrev IsRun : (poller : Poller) → Drives poller → (b : Bool) → Accepted b driven accepted → Type 0
  IsRun poller drives b accepts =
      RunLeads old.hub new.hub (λ h l. (k : Point) × DrivenThen reports (traffic_through traffic) (writer_of driven.turns) h drives.ready k drives.driven
      × Adds k (accepted_joins b driven accepted accepts) l)

  abbrev Widths : (poller : Poller) → Drives poller → Type 0
  Widths poller drives = SetsWidth old driven (items poller.events) drives.ready drives.driven

  -- it is a turn, with that as its part before the last step
  abbrev Turned : Type 0
  Turned = (turn : IsTurn reports traffic old new) × (turn.accepted ≡ accepted)

  pub turned_by : (poller : Poller) → new.poller ≡ poller → (b : Bool) → accepts_now old.backlog (items new.poller.events) ≡ b
      → (reported : Bool) → reported ≡ is_reported_of LINGERER (items poller.events) → (drives : Drives poller) → Widths poller drives
      → Linger poller drives reported
      → (accepts : Accepted b driven accepted) → IsRun poller drives b accepts → Turned
  turned_by poller same b due reported reported_is drives widths linger accepts run =
      subst (λ (poller : Poller). (drives : Drives poller) → Widths poller drives → Linger poller drives (is_reported_of LINGERER (items poller.events))
      → (accepts : Accepted b driven accepted) → IsRun poller drives b accepts → Turned) same
      (λ drives widths linger accepts run. subst (λ (b : Bool). (accepts : Accepted b driven accepted) → IsRun new.poller drives b accepts
      → Turned) due (λ accepts run. (
        record {
          reported = ended_with;
          driven = driven;
          drives = drives;
          widths = widths;
          turns_are = turns_are;
          next_width_is = next_width_is;
          next_is = next_is;
          port_is = port_is;
          backlog_is = backlog_is;
          refused_is = refused_is;
          linger = linger;
          accepted = accepted;
          accepts = accepts;
          lingerers_are = lingerers_are;
          rests = rests;
          run = run;
        },
        refl,
      )) accepts run) drives widths (subst (Linger poller drives) reported_is linger) accepts run

-- and with the step of the garbage it ends so
pub ends_with : {D : Type 0} {g : Ghosts D} (reports : Type 0) (traffic : Socket → Traffic) (old accepted new : EventLoop D g)
    → (turn : IsTurn reports traffic old new) × (turn.accepted ≡ accepted) → CollectsStep accepted.hub new.hub new.has_garbage
    → EndsWithGarbage reports traffic old new
ends_with {D} {g} reports traffic old accepted new turned step =
    record {
      turn = turned.0;
      collects = subst (λ (x : EventLoop D g). CollectsStep x.hub new.hub new.has_garbage) (sym turned.1) step;
    }
