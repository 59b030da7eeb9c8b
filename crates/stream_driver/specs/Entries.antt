-- What a turn over the table of connections does.
use Rattle.std.specs.Prelude.{◌≡◌, ◌≢◌, ℕ, ◌&&◌, Bool, cond, true, false, List, [], ◌∷◌, ◌++◌, Option, Some, None}
use Rattle.std.specs.Prelude.{slice_index_or, set, take, drop, length}
use Rattle.stream_driver.specs.Buffers.{Finishes, fresh, has_had_share, is_flushed_or_failed}
use Rattle.stream_driver.specs.Drives.{Drove}
use Rattle.stream_driver.specs.Sends.{DrivesAnswering, LeadsAnswering}
use Rattle.stream_driver.specs.Sessions.{Ghosts, Hub, IsPresent, Point}
use Rattle.stream_driver.specs.Traffic.{Traffic}
use Rattle.stream_driver.specs.Types.{Progress, Waiting, Again, Gone, EntryState, Idle, Ready, EntryGone, Entry}
use Rattle.stream_driver.specs.Types.{BufferedStream}

-- what an entry is after its drive
abbrev pub entry_state_after : Progress → EntryState
entry_state_after Waiting = Idle
entry_state_after Again = Ready
entry_state_after Gone = EntryGone

-- each entry that isn't gone has a session that is present, and that no other entry has
pub record HaveSessions {D : Type 0} {g : Ghosts D} {T : Type 0} (hub : Hub D g) (slots : List (Option (Entry T))) :
    Type 0 where
  pub present : (key : ℕ) (entry : Entry T) → slice_index_or slots key None ≡ Some entry → entry.state ≢ EntryGone
      → IsPresent hub entry.session
  pub own : (key other : ℕ) (entry another : Entry T) → slice_index_or slots key None ≡ Some entry
      → slice_index_or slots other None ≡ Some another
      → entry.state ≢ EntryGone → another.state ≢ EntryGone → entry.session ≡ another.session → key ≡ other

-- each entry has the session that it had
abbrev pub KeepSessions : {T : Type 0} → List (Option (Entry T)) → List (Option (Entry T)) → Type 0
KeepSessions {T} old new = (key : ℕ) (entry : Entry T) → slice_index_or new key None ≡ Some entry
    → (was : Entry T) × (slice_index_or old key None ≡ Some was) × (entry.session ≡ was.session)

module _ {T : Type 0} where
  -- the slots without the entry at a key
  abbrev pub all_but : ℕ → List (Option (Entry T)) → List (Option (Entry T))
  all_but key slots = set slots key None

  -- the same, and that entry behind them
  abbrev pub with_last : ℕ → List (Option (Entry T)) → List (Option (Entry T))
  with_last key slots = all_but key slots ++ slice_index_or slots key None ∷ []

module _ {T : Type 0} (reports : Type 0) (traffic : T → Traffic) where
  -- one drive left the entry so
  pub record DrivenOnce (earlier : Point) (old : Entry T) (later : Point) (new : Entry T) : Type 0 where
    pub answer : Progress
    pub drove : Drove old.session reports earlier (traffic old.stream) answer later (traffic new.stream)
    pub session : new.session ≡ old.session
    pub state : new.state ≡ entry_state_after answer

  -- an entry that is ready was driven once, and another is unchanged
  abbrev pub DrivenIn : EntryState → Point → Entry T → Point → Entry T → Type 0
  DrivenIn Ready earlier old later new = DrivenOnce earlier old later new
  DrivenIn Idle earlier old later new = (new ≡ old) × (later ≡ earlier)
  DrivenIn EntryGone earlier old later new = (new ≡ old) × (later ≡ earlier)

  abbrev pub DrivenEntry : Point → Entry T → Point → Entry T → Type 0
  DrivenEntry earlier old later new = DrivenIn old.state earlier old later new

  abbrev pub DrivenSlot : Point → Option (Entry T) → Point → Option (Entry T) → Type 0
  DrivenSlot earlier None later slot = (slot ≡ None) × (later ≡ earlier)
  DrivenSlot earlier (Some old) later slot = (new : Entry T) × (slot ≡ Some new) × DrivenEntry earlier old later new

  -- the slots one after another, by rising key
  abbrev pub DrivenAll : Point → List (Option (Entry T)) → Point → List (Option (Entry T)) → Type 0
  DrivenAll earlier [] later new = (new ≡ []) × (later ≡ earlier)
  DrivenAll earlier (slot ∷ slots) later new =
      (first : Option (Entry T)) × (mid : Point) × (others : List (Option (Entry T))) × (new ≡ first ∷ others)
      × DrivenSlot earlier slot mid first × DrivenAll mid slots later others

  -- the same, with the one at that key behind the others
  abbrev pub DrivenThen : ℕ → Point → List (Option (Entry T)) → Point → List (Option (Entry T)) → Type 0
  DrivenThen last earlier slots later new = DrivenAll earlier (with_last last slots) later (with_last last new)

  -- a run leads from one hub to the other, and drove the entry
  abbrev pub LeadsEntry : {D : Type 0} {g : Ghosts D} → Hub D g → Entry T → Hub D g → Entry T → Type 0
  LeadsEntry hub old later new =
      LeadsAnswering old.session reports hub (traffic old.stream) later (traffic new.stream)
      (λ h k. DrivenEntry h old k new)

  -- and drove the slots
  abbrev pub LeadsAll : {D : Type 0} {g : Ghosts D} → Hub D g → List (Option (Entry T)) → Hub D g
      → List (Option (Entry T)) → Type 0
  LeadsAll hub slots later new = DrivesAnswering traffic reports hub slots later new (λ h k. DrivenAll h slots k new)

  -- the same, with the one at that key behind the others
  abbrev pub LeadsThen : {D : Type 0} {g : Ghosts D} → ℕ → Hub D g → List (Option (Entry T)) → Hub D g
      → List (Option (Entry T)) → Type 0
  LeadsThen last hub slots later new =
      DrivesAnswering traffic reports hub slots later new (λ h k. DrivenThen last h slots k new)

  -- the slots below a key were driven but for the last, and the others stand as they were
  pub record EntriesSoFar {D : Type 0} {g : Ghosts D} (last key : ℕ) (hub : Hub D g) (slots : List (Option (Entry T)))
      (later : Hub D g) (new : List (Option (Entry T))) : Type 0 where
    pub driven : DrivesAnswering traffic reports hub slots later new
        (λ h k. DrivenAll h (take key (all_but last slots)) k (take key (all_but last new)))
    pub rest : drop key new ≡ drop key slots
    pub waits : slice_index_or new last None ≡ slice_index_or slots last None
    pub len : length new ≡ length slots
    pub sessions : HaveSessions later new
    pub numbers : KeepSessions slots new

-- ---- entries whose streams buffer bytes

abbrev pub is_gone : EntryState → Bool
is_gone EntryGone = true
is_gone Idle = false
is_gone Ready = false

-- what an entry is at the end of its drive: one that waits as its stream has had its share is to be driven again
abbrev pub state_at_end : EntryState → Bool → EntryState
state_at_end Idle had = cond had Ready Idle
state_at_end Ready had = Ready
state_at_end EntryGone had = EntryGone

module _ {T : Type 0} where
  -- it is gone, and its stream buffers nothing, or the inner one failed to take it
  abbrev pub is_over : Entry (BufferedStream T) → Bool
  is_over entry = is_gone entry.state && is_flushed_or_failed entry.stream

  module _ (reports : Type 0) (traffic : T → Traffic) (moment : ℕ) where
    abbrev pub EndsIn : EntryState → BufferedStream T → BufferedStream T → Type 0
    EndsIn Idle old new = new ≡ fresh old
    EndsIn Ready old new = Finishes reports traffic moment (fresh old) new
    EndsIn EntryGone old new = Finishes reports traffic moment (fresh old) new

    -- The end of an entry's drive. It is ready exactly where it was, or where it waits as its stream has had its share.
    -- What its stream buffered was written as far as it goes, at this moment of the device, but for a stream that is
    -- waited for.
    pub record EndsDrive (old new : Entry (BufferedStream T)) : Type 0 where
      pub session : new.session ≡ old.session
      pub state : new.state ≡ state_at_end old.state (has_had_share old.stream)
      pub stream : EndsIn new.state old.stream new.stream
