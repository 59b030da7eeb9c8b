-- How long a poll may wait.
use Rattle.std.specs.Duration.{as_nanos}
use Rattle.std.specs.Prelude.{ℕ, min, Option, Some, None, Bool, true, false}
use Rattle.std.specs.declared.time.Duration.{Duration}
use Rattle.event_loop.specs.declared.connections.Backlog.{Backlog}
use Rattle.event_loop.specs.declared.connections.Backlog.TheVariants.{Empty, More, Failed}

-- a wait in nanoseconds; none is without end
abbrev pub nanos_of : Option Duration → Option ℕ
nanos_of None = None
nanos_of (Some wait) = Some (as_nanos wait)

-- the shorter of two waits
abbrev pub shorter : Option ℕ → Option ℕ → Option ℕ
shorter None other = other
shorter (Some wait) None = Some wait
shorter (Some wait) (Some other) = Some (min wait other)

-- how long the loop itself may wait: not at all where it knows of work, a tenth of a second where an accept failed,
-- else without end
abbrev pub own_limit : Backlog → Bool → Option ℕ
own_limit backlog true = Some 0
own_limit More false = Some 0
own_limit Failed false = Some 100_000_000
own_limit Empty false = None
