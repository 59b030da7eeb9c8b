-- What a drive adds to the log, and what it takes of its stream's share.
use Rattle.std.specs.Prelude.{◌≡◌, ◌≢◌, ◌⊎◌, ℕ, ◌+◌, ◌-◌, ◌≤◌, ◌==◌, nat_le, cond, true, false, List, [], ◌∷◌, length}
use Rattle.std.specs.Prelude.{Option, Some, None}
use Rattle.sessions.specs.Laws.{HasRun}
use Rattle.sessions.specs.StandsFor.{has_written, pages_looked_at_of, pending_of, records_of}
use Rattle.stream_driver.specs.Sessions.{Ghosts, Hub}
use Rattle.stream_driver.specs.Traffic.{EndsFor, Share, TakesOf, Traffic}
use Rattle.stream_driver.specs.Types.{Exchange, Replied, Starved, ExchangeBlocked, ExchangeFailed}
use Rattle.stream_driver.specs.Types.{ExchangeEnded, EntryState, Idle, Ready, EntryGone, Entry, ShareEnd}
use Rattle.stream_driver.specs.Types.{Appended, Looked}
use Rattle.stream_driver.specs.declared.driving.TheConstants.{LOOKED_MAX}

-- how many pages were looked at between two hubs
abbrev pub pages_between : {D : Type 0} {g : Ghosts D} → Hub D g → Hub D g → ℕ
pages_between old new = pages_looked_at_of new - pages_looked_at_of old

-- why a request that was served between them ends its stream's share, if it does: it added a record, or it looked at
-- so many pages
abbrev pub share_end : {D : Type 0} {g : Ghosts D} → Hub D g → Hub D g → Option ShareEnd
share_end old new =
    cond (records_of new == records_of old)
    (cond (nat_le LOOKED_MAX (pages_between old new)) (Some Looked) None)
    (Some Appended)

-- the share was ended with no more left than so many bytes, for this reason; or it is as it was
abbrev pub EndsAs : Option ShareEnd → (most : ℕ) → (old new : Share) → Type 0
EndsAs None most old new = TakesOf old 0 new
EndsAs (Some cause) most old new = EndsFor cause most old new

-- in a run from one hub to the other so many pages were looked at on the way
pub record LooksOnTheWay {D : Type 0} {g : Ghosts D} (old new : Hub D g) : Type 0 where
  pub before : Hub D g
  pub after : Hub D g
  pub came : HasRun old before
  pub looks : HasRun before after
  pub goes_on : HasRun after new
  pub many : LOOKED_MAX ≤ pages_between before after

module _ {T : Type 0} (share : T → Share) where
  -- the share was ended after a request that looked at many pages, and the log has as many records as before
  pub record EndsByLooking {D : Type 0} {g : Ghosts D} (old : Hub D g) (before : T) (new : Hub D g) (after : T) : Type 0
    where
      pub records : records_of new ≡ records_of old
      pub looked : LooksOnTheWay old new
      pub ended : (share after).ended ≡ true
      pub appended : (share after).appended ≡ (share before).appended

  -- the log has one record more, and the share was ended after that was added
  pub record EndsByAppending {D : Type 0} {g : Ghosts D} (old new : Hub D g) (after : T) : Type 0 where
    pub records : records_of new ≡ records_of old + 1
    pub ended : (share after).ended ≡ true
    pub appended : (share after).appended ≡ true

module _ {T : Type 0} (reports : Type 0) (traffic : T → Traffic) (share : T → Share) where
  -- so many bytes of the share were taken, and as many were sent
  pub record Spends (old : T) (bytes : ℕ) (new : T) : Type 0 where
    pub takes : TakesOf (share old) bytes (share new)
    pub sent : reports → length (traffic new).sent ≡ length (traffic old).sent + bytes

  -- what is gone of the share was sent
  abbrev pub Spent : T → T → Type 0
  Spent old new = (bytes : ℕ) × Spends old bytes new

  -- The log has as many records as before, and what is gone of the stream's share was sent. Or the share was ended: the
  -- log has as many records, and many pages were looked at; or it has one record more.
  abbrev pub AppendsOnce : {D : Type 0} {g : Ghosts D} → Hub D g → T → Hub D g → T → Type 0
  AppendsOnce old before new after =
      ((records_of new ≡ records_of old) × Spent before after)
      ⊎ (EndsByLooking share old before new after ⊎ EndsByAppending share old new after)

  -- since an entry was ready: what is gone of its stream's share was sent, or the share was ended
  abbrev pub UsesShare : Entry T → Entry T → Type 0
  UsesShare old new = old.state ≡ Ready → Spent old.stream new.stream ⊎ ((share new.stream).ended ≡ true)

-- the log has as many records as before, or up to so many more
pub record AppendsAtMost {D : Type 0} {g : Ghosts D} (count : ℕ) (old new : Hub D g) : Type 0 where
  pub kept : records_of old ≤ records_of new
  pub few : records_of new ≤ records_of old + count

-- how many of the entries are to be driven
abbrev pub count_if_ready : EntryState → ℕ
count_if_ready Ready = 1
count_if_ready Idle = 0
count_if_ready EntryGone = 0

abbrev pub ready_in : {T : Type 0} → Option (Entry T) → ℕ
ready_in None = 0
ready_in (Some entry) = count_if_ready entry.state

abbrev pub ready_count : {T : Type 0} → List (Option (Entry T)) → ℕ
ready_count [] = 0
ready_count (slot ∷ slots) = ready_in slot + ready_count slots

-- no record was added, and whether the session's transaction has written is as it was
pub record AddsNone {D : Type 0} {g : Ghosts D} (s : ℕ) (old new : Hub D g) : Type 0 where
  pub records : records_of new ≡ records_of old
  pub wrote : has_written new s ≡ has_written old s

-- A record is added only where the session's transaction had written. Then it is one, and the transaction has ended.
pub record AddsOne {D : Type 0} {g : Ghosts D} (s : ℕ) (old new : Hub D g) : Type 0 where
  pub none : has_written old s ≡ false → records_of new ≡ records_of old
  pub one : records_of new ≢ records_of old → records_of new ≡ records_of old + 1
  pub ended : records_of new ≢ records_of old → has_written new s ≡ false

-- a request that was served, or a broken frame, is answered
abbrev pub IsReplied : Exchange → List ℕ → Type 0
IsReplied Replied pending = pending ≢ []
IsReplied Starved pending = Unit {0}
IsReplied ExchangeBlocked pending = Unit {0}
IsReplied ExchangeFailed pending = Unit {0}
IsReplied ExchangeEnded pending = Unit {0}

-- of a stream that keeps to its share
module _ {D : Type 0} {g : Ghosts D} {T : Type 0} (keeps reports : Type 0) (traffic : T → Traffic) (share : T → Share)
    (s : ℕ) where
  -- nothing was written
  pub record KeepsShare (old : Hub D g) (before : T) (new : Hub D g) (after : T) : Type 0 where
    pub spends : keeps → Spends reports traffic share before 0 after
    pub adds : AddsNone s old new

  -- so many of the pending bytes were written
  pub record SpendsShare (old : Hub D g) (before : T) (new : Hub D g) (after : T) : Type 0 where
    pub sent : ℕ
    pub pending : length (pending_of old s) ≡ length (pending_of new s) + sent
    pub spends : keeps → Spends reports traffic share before sent after
    pub adds : AddsNone s old new

  -- a request was looked for, and nothing was written
  pub record ServesOnce (old : Hub D g) (before : T) (answer : Exchange) (new : Hub D g) (after : T) : Type 0 where
    pub spends : keeps → Spends reports traffic share before 0 after
    pub adds : AddsOne s old new
    pub replied : IsReplied answer (pending_of new s)

  -- And with the reply the share was ended, if the request added a record or looked at many pages.
  pub record ServesInShare (old : Hub D g) (before : T) (answer : Exchange) (new : Hub D g) (after : T) : Type 0 where
    pub sent : keeps → reports → length (traffic after).sent ≡ length (traffic before).sent
    pub ends : keeps → EndsAs (share_end old new) (length (pending_of new s)) (share before) (share after)
    pub adds : AddsOne s old new
    pub replied : IsReplied answer (pending_of new s)
