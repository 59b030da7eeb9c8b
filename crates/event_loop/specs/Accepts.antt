-- What a listener has answered so far, and what a turn's accepts come to.
use Rattle.std.specs.Prelude.{◌≡◌, ℕ, ◌+◌, ◌<◌, ◌-◌, ◌^◌, min, max, List, [], ◌∷◌, ◌++◌, length}
use Rattle.sessions.specs.declared.events.TheConstants.{SESSIONS_MAX}
use Rattle.socket_calls.specs.HappenedCalls.{WasAccepted}
use Rattle.socket_calls.specs.OpenFacts.{asked_once}
use Rattle.socket_calls.specs.declared.counted.AcceptedSocket.{AcceptedSocket}
use Rattle.socket_calls.specs.declared.listening.ListeningSocket.{ListeningSocket}
use Rattle.stream_driver.specs.Traffic.{one_more}
use Rattle.event_loop.specs.declared.connections.Backlog.{Backlog}
use Rattle.event_loop.specs.declared.connections.Backlog.TheVariants.{Empty, More, Failed as BacklogFailed}
use Rattle.event_loop.specs.declared.listener.AcceptAnswer.{AcceptAnswer}
use Rattle.event_loop.specs.declared.listener.AcceptAnswer.TheVariants.{Accepted, Blocked, Failed}
use Rattle.event_loop.specs.declared.listener.Port.{Port}

-- how often it was asked, and how often each answer was given
pub record Accepts : Type 0 where
  pub asked : ℕ
  pub accepted : ℕ
  pub blocked : ℕ
  pub failed : ℕ

-- the counts after one that gave this answer
abbrev pub after_accept : AcceptAnswer → Accepts → Accepts
after_accept (Accepted stream) a = record a { asked = one_more a.asked; accepted = one_more a.accepted }
after_accept Blocked a = record a { asked = one_more a.asked; blocked = one_more a.blocked }
after_accept Failed a = record a { asked = one_more a.asked; failed = one_more a.failed }

-- a u64 count after so many more: the highest stays
abbrev pub more : ℕ → ℕ → ℕ
more n count = max count (min (count + n) (2 ^ 64 - 1))

-- the counts after so many connections
abbrev pub after_accepted : ℕ → Accepts → Accepts
after_accepted n a = record a { asked = more n a.asked; accepted = more n a.accepted }

-- why a turn's accepts ended after so many connections: as many were accepted as a turn accepts, or none waits, or a
-- call failed
abbrev pub WhyStopped : ℕ → Accepts → Accepts → Backlog → Type 0
WhyStopped n old new More = (n ≡ SESSIONS_MAX) × (new ≡ after_accepted n old)
WhyStopped n old new Empty = (n < SESSIONS_MAX) × (new ≡ after_accept Blocked (after_accepted n old))
WhyStopped n old new BacklogFailed = (n < SESSIONS_MAX) × (new ≡ after_accept Failed (after_accepted n old))

-- the answer gives no connection but the one that the system gave
abbrev pub IsGiven : ListeningSocket → AcceptAnswer → Type 0
IsGiven listener (Accepted accepted) = WasAccepted listener accepted
IsGiven listener Blocked = Unit {0}
IsGiven listener Failed = Unit {0}

-- a listening socket was asked once; a connection that came is the one that the system gave
pub record AsksOnce (old : Port) (answer : AcceptAnswer) (new : Port) : Type 0 where
  pub once : new.listener ≡ asked_once old.listener
  pub gave : IsGiven old.listener answer

-- accepts of a listener, one after another, which gave these connections in this order
pub data GivesEach {L : Type 0} (answers : L → AcceptAnswer → L → Type 0) (first : L) : List AcceptedSocket → L → Type 0
  where
    NoneCame : GivesEach answers first [] first
    OneCame : (came : List AcceptedSocket) (accepted : AcceptedSocket) (before after : L)
        → GivesEach answers first came before → answers before (Accepted accepted) after
        → GivesEach answers first (came ++ accepted ∷ []) after

-- what was asked of it then: nothing where as many came as a turn accepts, else an accept that gave none
abbrev pub EndsAsking : {L : Type 0} → (L → AcceptAnswer → L → Type 0) → Backlog → L → L → Type 0
EndsAsking answers More before last = last ≡ before
EndsAsking answers Empty before last = answers before Blocked last
EndsAsking answers BacklogFailed before last = answers before Failed last

-- the accepts of a turn: what became of the connections that came is said of these, in the order of the accepts
pub record TurnAccepts {L : Type 0} (answers : L → AcceptAnswer → L → Type 0) (counts : L → Accepts)
    (Became : List AcceptedSocket → Type 0) (first : L) (backlog : Backlog) (last : L) : Type 0 where
  pub came : List AcceptedSocket
  pub before : L
  pub gave : GivesEach answers first came before
  pub ended : EndsAsking answers backlog before last
  pub why : WhyStopped (length came) (counts first) (counts last) backlog
  pub became : Became came
