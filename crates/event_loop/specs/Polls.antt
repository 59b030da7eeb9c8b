-- How the calls of the system's poll came out.
use Rattle.std.specs.IoError.{error_kind}
use Rattle.std.specs.Prelude.{◌≡◌, ℕ, Option, Some, None, Result, Ok, Err}
use Rattle.std.specs.declared.io.Error.{Error}
use Rattle.std.specs.declared.io.ErrorKind.{ErrorKind}
use Rattle.std.specs.declared.time.Duration.{Duration}
use Rattle.socket_calls.specs.HappenedCalls.{WasAskedToWait}
use Rattle.socket_calls.specs.declared.polled.CountedPoll.{CountedPoll}
use Rattle.stream_driver.specs.Traffic.{one_more}
use Rattle.event_loop.specs.declared.polling.Poller.{Poller}

-- how often it succeeded, even with no event, how often it failed, and of what kind the last call's fault was, none
-- where that succeeded
pub record Polls : Type 0 where
  pub succeeded : ℕ
  pub failed : ℕ
  pub fault : Option ErrorKind

abbrev pub polls_of : Poller → Polls
polls_of poller = record { succeeded = poller.succeeded; failed = poller.failed; fault = poller.fault }

-- the counts after one call that answered so
abbrev pub after_wait : {A : Type 0} → Result A Error → Polls → Polls
after_wait (Ok done) polls = record polls { succeeded = one_more polls.succeeded; fault = None }
after_wait (Err fault) polls = record polls { failed = one_more polls.failed; fault = Some (error_kind fault) }

-- the system's poll was asked once, to wait so long
pub record WasAskedOnce (old : CountedPoll) (wait : Option Duration) (new : CountedPoll) : Type 0 where
  pub asked : WasAskedToWait old wait
  pub once : new.waits ≡ one_more old.waits
