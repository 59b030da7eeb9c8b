-- The connections that linger.
use Rattle.std.specs.Prelude.{◌≡◌, ◌⊎◌, ℕ, ◌<◌, ◌||◌, min, length, List, [], ◌∷◌, ◌++◌, Bool, true, false}
use Rattle.stream_driver.specs.Traffic.{DepartAt, IsBeginning, Traffic, one_more}
use Rattle.event_loop.specs.Drops.{DropsUpTo, WhyDropped, left_after, newest}
use Rattle.event_loop.specs.Sockets.{IsHalfClosed, SystemRefuses, SocketsReport, traffic_of}
use Rattle.event_loop.specs.declared.connections.Backlog.{Backlog}
use Rattle.event_loop.specs.declared.connections.Backlog.TheVariants.{Empty, More, Failed}
use Rattle.event_loop.specs.declared.connections.TheConstants.{LINGERER}
use Rattle.event_loop.specs.declared.lingering.Dropped.{Dropped}
use Rattle.event_loop.specs.declared.lingering.Dropped.TheVariants.{Blocked, All, Over}
use Rattle.event_loop.specs.declared.lingering.Lingerer.{Lingerer}
use Rattle.event_loop.specs.declared.lingering.Lingering.{Lingering}
use Rattle.event_loop.specs.declared.lingering.TheConstants.{LINGERING_MAX, LINGERING_BYTES, LINGERING_BYTES_A_TURN}
use Rattle.event_loop.specs.declared.socket.Socket.{Socket}

-- those that linger, oldest first; whether there may be input that no poll will report; and how often the system
-- refused to let one linger
pub record Lingerers : Type 0 where
  pub all : List Lingerer
  pub has_more : Bool
  pub refused : ℕ

abbrev pub lingers_in : Lingering → Lingerers
lingers_in l = record { all = l.queue.items; has_more = l.has_more; refused = l.refused }

-- ---- how one begins

-- no call of it failed, and its peer has not ended
pub record IsHealthy (t : Traffic) : Type 0 where
  pub read : t.read_failed ≡ 0
  pub written : t.write_failed ≡ 0
  pub going : t.read_ended ≡ 0

-- with one more, of which there may be input
abbrev pub with_one_more : Socket → Lingerers → Lingerers
with_one_more socket old =
    record old {
      all = newest LINGERING_MAX old.all (record { socket = socket; left = LINGERING_BYTES });
      has_more = true;
    }

-- A connection whose session has left lingers, if it is in order and the system doesn't refuse, which is counted, and
-- else is closed. One that lingers is shut down for writing, and the poll reports it under the token of those that
-- linger.
abbrev pub LingersOrCloses : Socket → Lingerers → Lingerers → Type 0
LingersOrCloses socket old new =
    ((IsHealthy (traffic_of socket) → ⊥) × (new ≡ old))
    ⊎ (IsHealthy (traffic_of socket)
    × ((SystemRefuses × (new ≡ record old { refused = one_more old.refused }))
    ⊎ (IsHalfClosed LINGERER socket.socket × (new ≡ with_one_more socket old))))

-- ---- what a turn makes of them

-- the most that one turn drops of it
abbrev pub most_of : Lingerer → ℕ
most_of lingerer = min lingerer.left LINGERING_BYTES_A_TURN

-- what came in was dropped, at this moment of the device
pub record DropsInput (moment : ℕ) (old : Lingerer) (dropped : Dropped) (new : Lingerer) : Type 0 where
  pub received : SocketsReport → DropsUpTo dropped (most_of old) (length (traffic_of old.socket).received)
      (length (traffic_of new.socket).received)
  pub goes_on : SocketsReport → IsBeginning (traffic_of old.socket).received (traffic_of new.socket).received
  pub sent : SocketsReport → (traffic_of new.socket).sent ≡ (traffic_of old.socket).sent
  pub departed : SocketsReport → DepartAt moment (traffic_of old.socket) (traffic_of new.socket)
  pub connection : (traffic_of new.socket).connection ≡ (traffic_of old.socket).connection
  pub why : WhyDropped dropped (most_of old) (traffic_of old.socket) (traffic_of new.socket)
  pub left : new.left ≡ left_after dropped (most_of old) old.left

-- as much was dropped as was asked for, and there may be more
abbrev pub is_all : Dropped → Bool
is_all (Blocked n) = false
is_all All = true
is_all Over = false

module _ (moment : ℕ) where
  -- its peer ended, a call of it failed, or as much was dropped of it as may be
  abbrev pub EndsLingering : Lingerer → Type 0
  EndsLingering old = (dropped : Dropped) × (new : Lingerer) × DropsInput moment old dropped new × (new.left ≡ 0)

  -- it lingers on, and more may be dropped of it
  abbrev pub Stays : Lingerer → Dropped → Lingerer → Type 0
  Stays old dropped new = DropsInput moment old dropped new × (0 < new.left)

  -- the first of them ends, or stays and becomes the last
  abbrev pub FirstTurned : List Lingerer → Lingerers → Lingerers → Type 0
  FirstTurned [] old new = new ≡ old
  FirstTurned (first ∷ others) old new =
      (EndsLingering first × (new ≡ record old { all = others }))
      ⊎ ((dropped : Dropped) × (later : Lingerer) × Stays first dropped later
      × (new ≡ record old { all = others ++ later ∷ []; has_more = old.has_more || is_all dropped }))

  -- Each ends or stays, and those that stay keep their order. Of them there may be more input, which no poll will
  -- report, where as much was dropped of one as was asked for.
  abbrev pub AllTurned : List Lingerer → List Lingerer → Bool → Type 0
  AllTurned [] new more = (new ≡ []) × (more ≡ false)
  AllTurned (first ∷ others) new more =
      (EndsLingering first × AllTurned others new more)
      ⊎ ((dropped : Dropped) × (later : Lingerer) × (rest : List Lingerer) × (of_rest : Bool)
      × Stays first dropped later × AllTurned others rest of_rest × (new ≡ later ∷ rest)
      × (more ≡ (is_all dropped || of_rest)))

  -- all of them, where they are to be read
  abbrev pub TurnedIf : Bool → Lingerers → Lingerers → Type 0
  TurnedIf false old new = new ≡ old
  TurnedIf true old new = AllTurned old.all new.all new.has_more × (new.refused ≡ old.refused)

  -- they are read where the poll reported them, or there may be input that it won't report
  abbrev pub AreTurned : Bool → Lingerers → Lingerers → Type 0
  AreTurned is_reported old new = TurnedIf (is_reported || old.has_more) old new

-- ---- where an accept failed

abbrev pub closed : Lingerers → Lingerers
closed old = record old { all = []; has_more = false }

-- all are closed where an accept failed, perhaps because there are no more descriptors
abbrev pub unless_failed : Backlog → Lingerers → Lingerers
unless_failed Empty old = old
unless_failed More old = old
unless_failed Failed old = closed old
