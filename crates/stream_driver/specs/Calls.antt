-- What the parts of a drive do.
use Rattle.std.specs.Prelude.{◌≡◌, ◌≢◌, ◌⊎◌, ℕ, ◌+◌, ◌<◌, ◌≤◌, [], length}
use Rattle.sessions.specs.SessionStreams.{HubState}
use Rattle.sessions.specs.StandsFor.{pending_of, room_of, status_of}
use Rattle.sessions.specs.declared.events.Status.TheVariants.{Open, Ending, Refused}
use Rattle.stream_driver.specs.Drives.{Carried}
use Rattle.stream_driver.specs.Sessions.{Ghosts, Hub, Point, status_at, inbox_room, pending_at, AwaitsMore, Stands}
use Rattle.stream_driver.specs.Traffic.{Traffic, AllMoved, CountsLast}
use Rattle.stream_driver.specs.Types.{Read, Write, ReadAnswer, Moved, Blocked, Failed, Ended, WriteAnswer, Wrote}
use Rattle.stream_driver.specs.Types.{WriteBlocked, WriteFailed, OutputState, Empty, FlushBlocked, FlushFailed}
use Rattle.stream_driver.specs.Types.{Exchange, Replied, Starved, ExchangeBlocked, ExchangeFailed, ExchangeEnded}

-- how many requests were served
abbrev pub served_in : {s : ℕ} {reports : Type 0} {old : Point} {before : Traffic} {new : Point} {after : Traffic}
    → Carried s reports old before new after → ℕ
served_in c = length c.runs.history.served

-- nothing was served or replied, and the session stands as it stood
pub record Moves (s : ℕ) (reports : Type 0) (old : Point) (before : Traffic) (new : Point) (after : Traffic) : Type 0
  where
    pub carried : Carried s reports old before new after
    pub none_served : served_in carried ≡ 0
    pub none_replied : carried.runs.history.replies ≡ []
    pub status : status_at new.hub s ≡ status_at old.hub s

-- one write
abbrev pub WhyWrote : ℕ → HubState → HubState → WriteAnswer → Type 0
WhyWrote s old new (Wrote n) = (0 < n) × (length (pending_at new s) + n ≡ length (pending_at old s))
WhyWrote s old new WriteBlocked = pending_at new s ≡ pending_at old s
WhyWrote s old new WriteFailed = pending_at new s ≡ pending_at old s

pub record WritesSome (s : ℕ) (reports : Type 0) (old : Point) (before : Traffic) (answer : WriteAnswer) (new : Point)
    (after : Traffic) : Type 0 where
  pub moves : Moves s reports old before new after
  pub room : inbox_room new.hub s ≡ inbox_room old.hub s
  pub answered : CountsLast (Write answer) before after
  pub why : WhyWrote s old.hub new.hub answer

-- why the writing stopped
abbrev pub WhyFlushed : ℕ → HubState → Traffic → Traffic → OutputState → Type 0
WhyFlushed s new before after Empty = AllMoved before after × (pending_at new s ≡ [])
WhyFlushed s new before after FlushBlocked = CountsLast (Write WriteBlocked) before after × (pending_at new s ≢ [])
WhyFlushed s new before after FlushFailed = CountsLast (Write WriteFailed) before after × (pending_at new s ≢ [])

pub record WritesOut (s : ℕ) (reports : Type 0) (old : Point) (before : Traffic) (answer : OutputState) (new : Point)
    (after : Traffic) : Type 0 where
  pub moves : Moves s reports old before new after
  pub room : inbox_room new.hub s ≡ inbox_room old.hub s
  pub why : WhyFlushed s new.hub before after answer

-- one read
abbrev pub WhyRead : ℕ → HubState → HubState → ReadAnswer → Type 0
WhyRead s old new (Moved n) = (0 < n) × (inbox_room new s + n ≡ inbox_room old s)
WhyRead s old new Blocked = new ≡ old
WhyRead s old new Failed = new ≡ old
WhyRead s old new Ended = new ≡ old

pub record ReadsSome (s : ℕ) (reports : Type 0) (old : Point) (before : Traffic) (answer : ReadAnswer) (new : Point)
    (after : Traffic) : Type 0 where
  pub moves : Moves s reports old before new after
  pub none_sent : moves.carried.runs.history.sent ≡ []
  pub pending : pending_at new.hub s ≡ pending_at old.hub s
  pub answered : CountsLast (Read answer) before after
  pub why : WhyRead s old.hub new.hub answer

-- where the session waits for the rest of a request, and its inbox has so much room
abbrev pub ReadsInTurn : ℕ → ℕ → Type 0 → Point → Traffic → ReadAnswer → Point → Traffic → Type 0
ReadsInTurn room s reports old before answer new after = AwaitsMore old.hub s → room ≡ inbox_room old.hub s
    → ReadsSome s reports old before answer new after

-- a request of the session may be served: the session is open and owes no reply, and its inbox has so much room
pub record MayBeServed {D : Type 0} {g : Ghosts D} (hub : Hub D g) (s room : ℕ) : Type 0 where
  pub stands : Stands hub
  pub opened : status_of hub s ≡ Open
  pub nothing : pending_of hub s ≡ []
  pub room_is : room ≡ room_of hub s

-- one request: it was replied to, as it was executed or no request began there, or memory was refused, or the stream
-- stopped at a beginning of one
abbrev pub WhyExchanged : ℕ → HubState → Traffic → Traffic → ℕ → Exchange → Type 0
WhyExchanged s new before after served Replied =
    AllMoved before after × (((status_at new s ≡ Open) × (served ≡ 1)) ⊎ (status_at new s ≡ Ending))
WhyExchanged s new before after served Starved = AllMoved before after × (status_at new s ≡ Refused)
WhyExchanged s new before after served ExchangeBlocked = CountsLast (Read Blocked) before after × AwaitsMore new s
WhyExchanged s new before after served ExchangeFailed = CountsLast (Read Failed) before after × AwaitsMore new s
WhyExchanged s new before after served ExchangeEnded = CountsLast (Read Ended) before after × AwaitsMore new s

pub record Exchanges (s : ℕ) (reports : Type 0) (old : Point) (before : Traffic) (answer : Exchange) (new : Point)
    (after : Traffic) : Type 0 where
  pub carried : Carried s reports old before new after
  pub few : served_in carried ≤ 1
  pub none_sent : carried.runs.history.sent ≡ []
  pub why : WhyExchanged s new.hub before after (served_in carried) answer

-- between two writes: so much is pending
pub record WrittenSoFar (s : ℕ) (reports : Type 0) (old : Point) (before : Traffic) (new : Point) (after : Traffic)
    (owed : ℕ) : Type 0 where
  pub moves : Moves s reports old before new after
  pub moved : AllMoved before after
  pub room : inbox_room new.hub s ≡ inbox_room old.hub s
  pub owed_is : owed ≡ length (pending_at new.hub s)

-- between two reads: so much room is left
pub record ReadSoFar (s : ℕ) (reports : Type 0) (old : Point) (before : Traffic) (new : Point) (after : Traffic)
    (room : ℕ) : Type 0 where
  pub moves : Moves s reports old before new after
  pub moved : AllMoved before after
  pub none_sent : moves.carried.runs.history.sent ≡ []
  pub is_open : status_at new.hub s ≡ Open
  pub nothing : pending_at new.hub s ≡ []
  pub room_is : room ≡ inbox_room new.hub s

-- between two requests
pub record DrivenSoFar (s : ℕ) (reports : Type 0) (old : Point) (before : Traffic) (new : Point) (after : Traffic)
    (served : ℕ) : Type 0 where
  pub carried : Carried s reports old before new after
  pub few : served_in carried ≤ served

-- each call moved bytes, and while the session is open as many requests were served
pub record DrivenOut (s : ℕ) (reports : Type 0) (old : Point) (before : Traffic) (new : Point) (after : Traffic)
    (served : ℕ) : Type 0 where
  pub driven : DrivenSoFar s reports old before new after served
  pub moved : AllMoved before after
  pub served_is : status_at new.hub s ≡ Open → served_in driven.carried ≡ served
