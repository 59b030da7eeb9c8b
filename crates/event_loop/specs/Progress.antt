-- That a session that is driven gets on: it is served, or it waits for its peer.
use Rattle.std.specs.Prelude.{◌≡◌, ◌≤◌, ◌⊎◌, ◌+◌, ℕ, true, List, length, Option, Some}
use Rattle.sessions.specs.SessionStreams.{HubState, stream_of}
use Rattle.stream_driver.specs.Appends.{UsesShare}
use Rattle.stream_driver.specs.Buffers.{share_of, traffic_through}
use Rattle.stream_driver.specs.Calls.{served_in}
use Rattle.stream_driver.specs.Entries.{DrivenOnce}
use Rattle.stream_driver.specs.Sessions.{AwaitsMore, Point}
use Rattle.stream_driver.specs.Traffic.{Traffic}
use Rattle.stream_driver.specs.Waits.{EndsOn}
use Rattle.stream_driver.specs.declared.answers.Call.TheVariants.{Write}
use Rattle.stream_driver.specs.declared.answers.WriteAnswer.TheVariants.{Blocked as WriteBlocked}
use Rattle.stream_driver.specs.declared.buffered.BufferedStream.{BufferedStream}
use Rattle.stream_driver.specs.declared.buffered.TheConstants.{LIGHT_MAX}
use Rattle.stream_driver.specs.declared.driving.TheConstants.{REQUESTS_MAX}
use Rattle.stream_driver.specs.declared.entries.Entry.{Entry}
use Rattle.stream_driver.specs.declared.entries.EntryState.{EntryState}
use Rattle.stream_driver.specs.declared.entries.EntryState.TheVariants.{Idle, Ready, Gone}
use Rattle.event_loop.specs.Tables.{slot_at}

module _ {T : Type 0} (reports : Type 0) (traffic : T → Traffic) (was entry : Entry (BufferedStream T)) where
  -- An entry that was ready had a share of the turn, a light one at least, and what is gone of it was sent, or it was
  -- ended. Where its last write blocked, nothing is left of the share, or its peer takes no more.
  pub record UsesTurn : Type 0 where
    pub some : was.state ≡ Ready → LIGHT_MAX ≤ was.stream.share
    pub uses : UsesShare reports (traffic_through traffic) share_of was entry
    pub blocked : was.state ≡ Ready → entry.state ≡ Idle
        → (traffic_through traffic entry.stream).last ≡ Some (Write WriteBlocked)
        → (entry.stream.share ≡ 0) ⊎ EndsOn traffic (Write WriteBlocked) entry.stream

  -- all bytes of its share of the turn were sent, 32,768 at least
  pub record WasSentItsShare : Type 0 where
    pub some : LIGHT_MAX ≤ was.stream.share
    pub sent : reports → length (traffic_through traffic entry.stream).sent
        ≡ length (traffic_through traffic was.stream).sent + was.stream.share

  -- it has had its share of the turn: that was sent, or it was ended with the reply to a request that appended a record
  -- or looked at many pages of keys
  abbrev pub HadItsShare : Type 0
  HadItsShare = WasSentItsShare ⊎ (entry.stream.is_ended ≡ true)

  -- How far its drive came, in which so many requests were served. One that is ready still was served 64. One that is
  -- idle was served each request that had come in whole, and is owed nothing; or its peer takes no more; or it has had
  -- its share, and is ready again at the end of the turn. One that is gone has left.
  abbrev pub CameFar : HubState → ℕ → EntryState → Type 0
  CameFar h served Ready = served ≡ REQUESTS_MAX
  CameFar h served Idle =
      AwaitsMore h entry.session
      ⊎ (EndsOn traffic (Write WriteBlocked) entry.stream ⊎ ((entry.stream.share ≡ 0) × HadItsShare))
  CameFar h served Gone = Unit {0}

-- The entry at a key was driven once between these states, before and after which its session stands as it does in
-- them, and came so far.
pub record GetsOn {T : Type 0} (reports : Type 0) (traffic : T → Traffic) (h k : HubState) (key : ℕ)
    (was : Entry (BufferedStream T)) (driven : List (Option (Entry (BufferedStream T)))) : Type 0 where
  pub entry : Entry (BufferedStream T)
  pub entry_is : slot_at driven key ≡ Some entry
  pub first : Point
  pub last : Point
  pub begins : stream_of first.hub was.session ≡ stream_of h was.session
  pub drive : DrivenOnce reports (traffic_through traffic) first was last entry
  pub ends : stream_of last.hub was.session ≡ stream_of k was.session
  pub far : CameFar reports traffic was entry k (served_in drive.drove.carried) entry.state
