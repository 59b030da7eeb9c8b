-- What a drive does to the hub and to the stream.
use Rattle.std.specs.Prelude.{◌≡◌, ◌≢◌, ◌⊎◌, ℕ, ◌≤◌, [], ◌∷◌, ◌++◌, length}
use Rattle.engine.specs.Meaning.{has_risen}
use Rattle.sessions.specs.SessionStreams.{HubState, Leaves, Choice}
use Rattle.sessions.specs.declared.events.Status.TheVariants.{Open, Ending, Refused}
use Rattle.stream_driver.specs.Sessions.{Adds, Point, RunsOneSession, AwaitsMore, ComeInTurn, status_at, pending_at}
use Rattle.stream_driver.specs.Traffic.{Traffic, AllMoved, CountsLast}
use Rattle.stream_driver.specs.Types.{Read, Write, Blocked as ReadBlocked, Failed as ReadFailed, Ended as ReadEnded}
use Rattle.stream_driver.specs.Types.{WriteBlocked, WriteFailed, Progress, Waiting, Again, Gone}

-- a run of one session over a stream: what was received over the stream came in, each time where the session waited for
-- it, and what was reported as sent was sent over the stream
pub record Carried (s : ℕ) (reports : Type 0) (old : Point) (before : Traffic) (new : Point) (after : Traffic) : Type 0
  where
    pub runs : RunsOneSession s old new
    pub in_turn : ComeInTurn old.hub runs.events
    pub received : reports → after.received ≡ before.received ++ runs.history.received
    pub sent : reports → after.sent ≡ before.sent ++ runs.history.sent

-- Why a drive that has come this far answers so. Each of its calls of the stream moved bytes, but the last one where
-- that is the reason: so none follows a call that blocked, failed or ended. `Again` comes after 64 requests.
abbrev pub Why : ℕ → HubState → Traffic → Traffic → ℕ → Progress → Type 0
Why s last before after served Waiting =
    (CountsLast (Write WriteBlocked) before after × (pending_at last s ≢ []))
    ⊎ (CountsLast (Read ReadBlocked) before after × AwaitsMore last s)
Why s last before after served Again =
    AllMoved before after × (served ≡ 64) × (status_at last s ≡ Open) × (pending_at last s ≡ [])
Why s last before after served Gone =
    (CountsLast (Read ReadFailed) before after × AwaitsMore last s)
    ⊎ ((CountsLast (Write WriteFailed) before after × (pending_at last s ≢ []))
    ⊎ ((CountsLast (Read ReadEnded) before after × AwaitsMore last s)
    ⊎ (AllMoved before after
    × ((status_at last s ≡ Refused) ⊎ ((status_at last s ≡ Ending) × (pending_at last s ≡ []))))))

-- the session leaves
pub record Disconnects (s : ℕ) (last new : Point) : Type 0 where
  pub choice : Choice
  pub adds : Adds last ((Leaves s, choice) ∷ []) new
  pub counted : last.failures ≤ new.failures
  pub failed : choice.failed ≡ has_risen last.failures new.failures

-- a session that is gone has left at the end
abbrev pub LeavesIfGone : ℕ → Point → Point → Progress → Type 0
LeavesIfGone s last new Waiting = new ≡ last
LeavesIfGone s last new Again = new ≡ last
LeavesIfGone s last new Gone = Disconnects s last new

-- one drive: at most 64 requests were served
pub record Drove (s : ℕ) (reports : Type 0) (old : Point) (before : Traffic) (answer : Progress) (new : Point)
    (after : Traffic) : Type 0 where
  pub last : Point
  pub carried : Carried s reports old before last after
  pub few : length carried.runs.history.served ≤ 64
  pub ends : LeavesIfGone s last new answer
  pub why : Why s last.hub before after (length carried.runs.history.served) answer
