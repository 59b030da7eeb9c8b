-- What a stream that blocks waits for.
use Rattle.std.specs.Prelude.{◌≡◌, ◌≢◌, ◌⊎◌, ◌↔◌, ◌<◌, ℕ, true, false, List, [], Option, Some, None, slice_index_or}
use Rattle.stream_driver.specs.Buffers.{buffered_in}
use Rattle.stream_driver.specs.Traffic.{Traffic}
use Rattle.stream_driver.specs.Types.{Call, Read, Write, ReadAnswer, Moved, Blocked, Failed, Ended, WriteAnswer}
use Rattle.stream_driver.specs.Types.{Wrote, WriteBlocked, WriteFailed, BufferedStream, Entry, Idle, Ready}

-- Whether the last read that moved bytes came short: fewer came than it asked for. Other reads leave that as it was.
abbrev pub ComesShort : {T : Type 0} → (T → Type 0) → T → ℕ → ReadAnswer → T → Type 0
ComesShort short old len (Moved n) new = (n < len) ↔ short new
ComesShort short old len Blocked new = short old ↔ short new
ComesShort short old len Failed new = short old ↔ short new
ComesShort short old len Ended new = short old ↔ short new

-- of a stream that knows whether its last read came short, whose notes may be sound, and that can say why it blocked
module _ {T : Type 0} (came_short is_sound waits : T → Type 0) where
  -- after a read
  pub record ReadStays (old : T) (len : ℕ) (answer : ReadAnswer) (new : T) : Type 0 where
    pub short : ComesShort came_short old len answer new
    pub sound : is_sound old → is_sound new
    pub why : is_sound old → waits new

  -- after a write, which reads nothing
  pub record WriteStays (old new : T) : Type 0 where
    pub short : came_short old ↔ came_short new
    pub sound : is_sound old → is_sound new
    pub why : is_sound old → waits new

-- after several calls, the last of which blocked or not
pub record StaysSound {T : Type 0} (is_sound waits : T → Type 0) (blocked : Type 0) (old new : T) : Type 0 where
  pub sound : is_sound old → is_sound new
  pub why : is_sound old → blocked → waits new

-- after a drive, an entry that waits has a stream that can say why its last call blocked
abbrev pub WaitsSince : {T : Type 0} → (is_sound waits : T → Type 0) → Entry T → Entry T → Type 0
WaitsSince is_sound waits old new = old.state ≡ Ready → new.state ≡ Idle → is_sound old.stream → waits new.stream

-- so it is of each entry of a table
abbrev pub EachEntry : {T : Type 0} → (Entry T → Entry T → Type 0) → (slots later : List (Option (Entry T))) → Type 0
EachEntry {T} P slots later =
    (key : ℕ) (was entry : Entry T) → slice_index_or slots key None ≡ Some was
    → slice_index_or later key None ≡ Some entry → P was entry

module _ {T : Type 0} (traffic : T → Traffic) where
  -- the last call of the inner stream was this one
  abbrev pub EndsOn : Call → BufferedStream T → Type 0
  EndsOn call b = (traffic b.inner).last ≡ Some call

  -- the peer doesn't take what is buffered
  abbrev pub HoldsBack : BufferedStream T → Type 0
  HoldsBack b = (buffered_in b.buffered ≢ []) × EndsOn (Write WriteBlocked) b

module _ {T : Type 0} (came_short : T → Type 0) where
  -- the last read of the inner stream that moved bytes gave fewer than it asked for, which says that no more was there
  abbrev pub IsReadOut : BufferedStream T → Type 0
  IsReadOut b = came_short b.inner × (b.reads_on ≡ false)

  -- what it has noted of its reads in this drive is so
  pub record HasSoundNotes (b : BufferedStream T) : Type 0 where
    pub short : b.is_short ≡ true → IsReadOut b
    pub drained : b.is_drained ≡ true → IsReadOut b

  module _ (traffic : T → Traffic) where
    -- nothing is buffered, and all was read that the peer has sent
    abbrev pub HasReadAll : BufferedStream T → Type 0
    HasReadAll b = (buffered_in b.buffered ≡ []) × (EndsOn traffic (Read Blocked) b ⊎ IsReadOut b)

    -- why a read or a write blocked: its share of the turn is used up, or it waits for its peer
    abbrev pub WhyReadBlocked : ReadAnswer → BufferedStream T → Type 0
    WhyReadBlocked (Moved n) b = Unit {0}
    WhyReadBlocked Blocked b = (b.share ≡ 0) ⊎ (HoldsBack traffic b ⊎ HasReadAll b)
    WhyReadBlocked Failed b = Unit {0}
    WhyReadBlocked Ended b = Unit {0}

    abbrev pub WhyWriteBlocked : WriteAnswer → BufferedStream T → Type 0
    WhyWriteBlocked (Wrote n) b = Unit {0}
    WhyWriteBlocked WriteBlocked b = (b.share ≡ 0) ⊎ EndsOn traffic (Write WriteBlocked) b
    WhyWriteBlocked WriteFailed b = Unit {0}

    abbrev pub WhyBlocked : Call → BufferedStream T → Type 0
    WhyBlocked (Read answer) b = WhyReadBlocked answer b
    WhyBlocked (Write answer) b = WhyWriteBlocked answer b

    -- if its last call blocked, this is why
    abbrev pub SaysWhyBlocked : BufferedStream T → Type 0
    SaysWhyBlocked b = (call : Call) → b.counts.last ≡ Some call → WhyBlocked call b

    -- what a read of it did to its notes, and why it blocked
    pub record GivesSoundly (old : BufferedStream T) (len : ℕ) (answer : ReadAnswer) (new : BufferedStream T) : Type 0
      where
        pub short : ComesShort (λ b. came_short b.inner) old len answer new
        pub sound : HasSoundNotes old → HasSoundNotes new
        pub why : HasSoundNotes old → WhyReadBlocked answer new
