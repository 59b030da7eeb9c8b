-- A stream that buffers what is written to it, over an inner one.
use Rattle.std.specs.Prelude.{◌≡◌, ◌⊎◌, ◌+◌, ◌-◌, ◌<◌, ◌≤◌, ◌==◌, ◌++◌, ◌&&◌, ◌||◌, ◌≢◌, ◌↔◌, ℕ, Bool, true, false}
use Rattle.std.specs.Prelude.{not, List, [], ◌∷◌, cond, take, drop, length, max, min, nat_le, nat_lt, vec_len}
use Rattle.stream_driver.specs.Counts.{counted, counted_with}
use Rattle.stream_driver.specs.Traffic.{AllMoved, DepartAt, CountsLast, Share, Traffic, ReadsWithin, WritesWithin}
use Rattle.stream_driver.specs.Traffic.{bytes_read, bytes_written, untouched}
use Rattle.stream_driver.specs.Types.{Call, Read, Write, ReadAnswer, Moved, Blocked, Failed, Ended, WriteAnswer}
use Rattle.stream_driver.specs.Types.{Wrote, WriteBlocked, WriteFailed, BufferedBytes, Flushed, All}
use Rattle.stream_driver.specs.declared.buffered.TheConstants.{HEAVY_TURNS, LIGHT_MAX}
use Rattle.stream_driver.specs.Types.{FlushedBlocked as FlushBlocked, FlushedFailed as FlushFailed, BufferedStream}
use Rattle.stream_driver.specs.Types.{ShareEnd, Appended, Looked}

-- the bytes that are buffered
abbrev pub buffered_in : BufferedBytes → List ℕ
buffered_in h = drop h.left h.bytes.items

-- for how many more there is room
abbrev pub buffer_room : BufferedBytes → ℕ
buffer_room h = 16384 - vec_len h.bytes

-- nothing is buffered
abbrev pub is_none : List ℕ → Bool
is_none [] = true
is_none (x ∷ xs) = false

module _ {T : Type 0} where
  -- nothing is buffered, or the inner stream failed to take it
  abbrev pub is_flushed_or_failed : BufferedStream T → Bool
  is_flushed_or_failed b = b.has_failed || is_none (buffered_in b.buffered)

  -- one that was just made: nothing is buffered, no write of what is buffered failed, and no call was made
  pub record IsNew (inner : T) (b : BufferedStream T) : Type 0 where
    pub inner_is : b.inner ≡ inner
    pub nothing : buffered_in b.buffered ≡ []
    pub failed : b.has_failed ≡ false
    pub short : b.is_short ≡ false
    pub drained : b.is_drained ≡ false
    pub reads_on : b.reads_on ≡ false
    pub share : b.share ≡ 262144
    pub whole : b.whole ≡ 262144
    pub ended : b.is_ended ≡ false
    pub appended : b.appended ≡ false
    pub writer : b.is_writer ≡ false
    pub heavy : b.heavy_for ≡ 0
    pub counts : counted b.counts ≡ untouched

  -- the next drive may read, and has a share of its own
  abbrev pub fresh : BufferedStream T → BufferedStream T
  fresh b = record b { is_short = false; is_drained = false; share = 262144 }

  -- is it heavy, for one more turn of its own at least?
  abbrev pub is_heavy : BufferedStream T → Bool
  is_heavy b = nat_lt 0 b.heavy_for

  -- is it so for one more alone?
  abbrev pub is_late : BufferedStream T → Bool
  is_late b = b.heavy_for == 1

  -- a turn of its own begins, with a share of so many bytes
  abbrev pub in_turn_of : ℕ → BufferedStream T → BufferedStream T
  in_turn_of bytes b =
      record b { share = bytes; whole = bytes; is_ended = false; appended = false; heavy_for = b.heavy_for - 1 }

  -- it is passed over in this turn, and heavy until a turn of its own has begun; whether its session writes is noted
  abbrev pub passed_over : Bool → BufferedStream T → BufferedStream T
  passed_over writes b = record b { share = 0; heavy_for = max b.heavy_for 1; is_writer = writes }

  -- So many bytes of its share make a drive heavy, and the stream for some turns of its own; unless a request has ended
  -- the share.
  abbrev pub heavy_for_after : BufferedStream T → ℕ
  heavy_for_after b = cond (not b.is_ended && nat_le LIGHT_MAX (b.whole - b.share)) HEAVY_TURNS b.heavy_for

  -- what it notes once it has taken bytes
  abbrev pub after_taking : BufferedStream T → BufferedStream T
  after_taking b = record b { heavy_for = heavy_for_after b }

  -- it has taken its share of this turn
  abbrev pub has_had_share : BufferedStream T → Bool
  has_had_share b = b.share == 0

  -- With a reply of so many bytes its share ends: it is a writer's, where that reports an append and some of the share
  -- was used before, and heavy, where much was looked at.
  abbrev pub share_ended : ShareEnd → ℕ → BufferedStream T → BufferedStream T
  share_ended Appended reply b =
      record b { share = min b.share reply; is_ended = true; appended = true; is_writer = nat_lt b.share b.whole }
  share_ended Looked reply b = record b { share = min b.share reply; is_ended = true; heavy_for = HEAVY_TURNS }

  -- what is left of its share, which a drive may end
  abbrev pub share_of : BufferedStream T → Share
  share_of b = record { left = b.share; ended = b.is_ended; appended = b.appended }

  -- No share is left, and nothing happens: the inner stream isn't called, and what is buffered stays so.
  pub record Pauses (old new : BufferedStream T) : Type 0 where
    pub none_left : old.share ≡ 0
    pub inner_is : new.inner ≡ old.inner
    pub buffered_is : new.buffered ≡ old.buffered

  -- What is buffered has failed to leave, and nothing happens: the inner stream isn't called, and what is buffered
  -- stays so.
  pub record FailsAgain (old new : BufferedStream T) : Type 0 where
    pub failed : old.has_failed ≡ true
    pub inner_is : new.inner ≡ old.inner
    pub buffered_is : new.buffered ≡ old.buffered

  -- it calls the inner stream: some share is left, and what is buffered hasn't failed to leave
  pub record CallsInner (old : BufferedStream T) : Type 0 where
    pub some : 0 < old.share
    pub failed : old.has_failed ≡ false

  -- The traffic of a buffered stream: what it received is what the inner stream received, and what it sent is what the
  -- inner stream sent, followed by what it buffers. What has left, left from the inner stream, whose number it has. The
  -- answers are its own.
  abbrev pub traffic_through : (T → Traffic) → BufferedStream T → Traffic
  traffic_through traffic b =
      counted_with b.counts (traffic b.inner).received ((traffic b.inner).sent
      ++ buffered_in b.buffered) (traffic b.inner).departed (traffic b.inner).connection

  -- A read of fewer bytes than were asked for is short, unless such a read means nothing; where none came, whether the
  -- last read was short stays.
  abbrev pub ShortAfter : BufferedStream T → ℕ → ReadAnswer → BufferedStream T → Type 0
  ShortAfter old len (Moved n) new = (new.is_short ≡ true) ↔ ((n < len) × (old.reads_on ≡ false))
  ShortAfter old len Blocked new = new.is_short ≡ old.is_short
  ShortAfter old len Failed new = new.is_short ≡ old.is_short
  ShortAfter old len Ended new = new.is_short ≡ old.is_short

  -- what it has of its turn is as it was
  pub record KeepsTurn (old new : BufferedStream T) : Type 0 where
    pub share : new.share ≡ old.share
    pub whole : new.whole ≡ old.whole
    pub ended : new.is_ended ≡ old.is_ended
    pub appended : new.appended ≡ old.appended
    pub writer : new.is_writer ≡ old.is_writer
    pub heavy : new.heavy_for ≡ old.heavy_for

  pub record ReadsShort (old : BufferedStream T) (len : ℕ) (answer : ReadAnswer) (new : BufferedStream T) : Type 0 where
    pub short : ShortAfter old len answer new
    pub drained : new.is_drained ≡ old.is_drained
    pub reads_on : new.reads_on ≡ old.reads_on
    pub turn : KeepsTurn old new

  -- once bytes were written after a short read, this drive has read all that is there
  abbrev pub is_drained_after : WriteAnswer → BufferedStream T → Bool
  is_drained_after (Wrote n) b = b.is_drained || b.is_short
  is_drained_after WriteBlocked b = b.is_drained
  is_drained_after WriteFailed b = b.is_drained

  -- for how many turns of its own it is heavy after a write
  abbrev pub heavy_after : WriteAnswer → BufferedStream T → ℕ
  heavy_after (Wrote n) b = heavy_for_after (record b { share = b.share - n })
  heavy_after WriteBlocked b = b.heavy_for
  heavy_after WriteFailed b = b.heavy_for

  -- it is a writer's no longer, once it was answered in a turn in which no record was appended
  abbrev pub is_writer_after : WriteAnswer → BufferedStream T → Bool
  is_writer_after (Wrote n) b = b.is_writer && b.appended
  is_writer_after WriteBlocked b = b.is_writer
  is_writer_after WriteFailed b = b.is_writer

  -- and what was written uses up its share
  pub record Drains (old : BufferedStream T) (answer : WriteAnswer) (new : BufferedStream T) : Type 0 where
    pub drained : new.is_drained ≡ is_drained_after answer old
    pub short : new.is_short ≡ old.is_short
    pub reads_on : new.reads_on ≡ old.reads_on
    pub share : new.share + bytes_written answer ≡ old.share
    pub whole : new.whole ≡ old.whole
    pub ended : new.is_ended ≡ old.is_ended
    pub appended : new.appended ≡ old.appended
    pub writer : new.is_writer ≡ is_writer_after answer old
    pub heavy : new.heavy_for ≡ heavy_after answer old

  -- Nothing of what is buffered has left, and whether it failed to leave is as it was; or some has, and it has not
  -- failed since.
  abbrev pub StaysFailed : BufferedStream T → BufferedStream T → Type 0
  StaysFailed old new =
      ((buffered_in new.buffered ≡ buffered_in old.buffered) × (new.has_failed ≡ old.has_failed))
      ⊎ ((length (buffered_in new.buffered) < length (buffered_in old.buffered)) × (new.has_failed ≡ false))

  -- what is buffered failed to leave, and stays buffered
  abbrev pub HasFailed : BufferedStream T → Type 0
  HasFailed b = (buffered_in b.buffered ≢ []) × (b.has_failed ≡ true)

  -- whether what is buffered failed to leave, once it was to be written
  abbrev pub FlushFails : BufferedStream T → Flushed → BufferedStream T → Type 0
  FlushFails old All new = StaysFailed old new
  FlushFails old FlushBlocked new = StaysFailed old new
  FlushFails old FlushFailed new = HasFailed new

  -- once there was to be room for more: only where there was none has it changed
  abbrev pub StaysWithRoom : BufferedStream T → BufferedStream T → Type 0
  StaysWithRoom old new = (new.has_failed ≡ old.has_failed)
      ⊎ ((buffer_room old.buffered ≡ 0) × (new.has_failed ≡ false))

  abbrev pub RoomFails : BufferedStream T → Flushed → BufferedStream T → Type 0
  RoomFails old All new = StaysWithRoom old new × StaysFailed old new
  RoomFails old FlushBlocked new = StaysFailed old new
  RoomFails old FlushFailed new = HasFailed new

  -- once bytes were to be written
  abbrev pub WriteFails : BufferedStream T → WriteAnswer → BufferedStream T → Type 0
  WriteFails old (Wrote n) new = StaysWithRoom old new
  WriteFails old WriteBlocked new = StaysFailed old new
  WriteFails old WriteFailed new = HasFailed new ⊎ ((buffered_in new.buffered ≡ []) × StaysFailed old new)

  -- once bytes were to be read
  abbrev pub ReadFails : BufferedStream T → ReadAnswer → BufferedStream T → Type 0
  ReadFails old (Moved n) new = StaysFailed old new
  ReadFails old Blocked new = StaysFailed old new
  ReadFails old Failed new = HasFailed new ⊎ ((buffered_in new.buffered ≡ []) × StaysFailed old new)
  ReadFails old Ended new = StaysFailed old new

  module _ (traffic : T → Traffic) where
    -- each call of the inner stream moved bytes, if there was one
    abbrev pub BehindMoved : BufferedStream T → BufferedStream T → Type 0
    BehindMoved old new = AllMoved (traffic old.inner) (traffic new.inner)

    -- the last call of the inner stream was this one, and each before it moved bytes
    abbrev pub BehindEnds : Call → BufferedStream T → BufferedStream T → Type 0
    BehindEnds call old new = CountsLast call (traffic old.inner) (traffic new.inner)

    -- there is room for more, or the inner stream blocked or failed
    abbrev pub WhyRoom : BufferedStream T → Flushed → BufferedStream T → Type 0
    WhyRoom old All new = (0 < buffer_room new.buffered) × BehindMoved old new
    WhyRoom old FlushBlocked new = BehindEnds (Write WriteBlocked) old new
    WhyRoom old FlushFailed new = BehindEnds (Write WriteFailed) old new

    -- why bytes were not written while some share is left: the inner stream blocked or failed
    abbrev pub WhyTookSome : BufferedStream T → WriteAnswer → BufferedStream T → Type 0
    WhyTookSome old (Wrote n) new = BehindMoved old new
    WhyTookSome old WriteBlocked new = BehindEnds (Write WriteBlocked) old new
    WhyTookSome old WriteFailed new = BehindEnds (Write WriteFailed) old new

    -- why a write answers so: it blocks where no share is left, and fails once what is buffered has failed to leave
    abbrev pub WhyTook : BufferedStream T → WriteAnswer → BufferedStream T → Type 0
    WhyTook old answer new =
        (Pauses old new × (answer ≡ WriteBlocked))
        ⊎ ((FailsAgain old new × (answer ≡ WriteFailed)) ⊎ (CallsInner old × WhyTookSome old answer new))

    -- the inner stream was read once nothing was buffered, in a drive that hadn't read all that is there
    abbrev pub InnerWasRead : BufferedStream T → ReadAnswer → BufferedStream T → Type 0
    InnerWasRead old answer new = (old.is_drained ≡ false) × (buffered_in new.buffered ≡ [])
        × BehindEnds (Read answer) old new

    -- Why a read answers so while some share is left. The inner stream was read, and answered that; or it blocked or
    -- failed as what is buffered was written; or this drive had read all that is there, and it wasn't read.
    abbrev pub WhyGaveSome : BufferedStream T → ReadAnswer → BufferedStream T → Type 0
    WhyGaveSome old (Moved n) new = InnerWasRead old (Moved n) new
    WhyGaveSome old Ended new = InnerWasRead old Ended new
    WhyGaveSome old Failed new = InnerWasRead old Failed new ⊎ BehindEnds (Write WriteFailed) old new
    WhyGaveSome old Blocked new =
        InnerWasRead old Blocked new
        ⊎ (BehindEnds (Write WriteBlocked) old new
        ⊎ ((old.is_drained ≡ true) × (buffered_in new.buffered ≡ []) × BehindMoved old new))

    -- why a read answers so: it blocks where no share is left, and fails once what is buffered has failed to leave
    abbrev pub WhyGave : BufferedStream T → ReadAnswer → BufferedStream T → Type 0
    WhyGave old answer new =
        (Pauses old new × (answer ≡ Blocked))
        ⊎ ((FailsAgain old new × (answer ≡ Failed)) ⊎ (CallsInner old × WhyGaveSome old answer new))

    -- a read: why it answers so, whether more is there to read, and whether what is buffered has failed to leave
    pub record AfterRead (old : BufferedStream T) (len : ℕ) (answer : ReadAnswer) (new : BufferedStream T) : Type 0
      where
        pub why : WhyGave old answer new
        pub short : ReadsShort old len answer new
        pub failed : ReadFails old answer new

    -- a write: why it answers so, what is left of the share, and whether what is buffered has failed to leave
    pub record AfterWrite (old : BufferedStream T) (answer : WriteAnswer) (new : BufferedStream T) : Type 0 where
      pub why : WhyTook old answer new
      pub drains : Drains old answer new
      pub failed : WriteFails old answer new

    -- One write of what is buffered: so much has left, or the inner stream blocked or failed, and all stays buffered.
    -- It has failed once the inner stream failed, and no longer once some has left.
    abbrev pub WhyWroteBuffered : BufferedStream T → WriteAnswer → BufferedStream T → Type 0
    WhyWroteBuffered old (Wrote n) new =
        (0 < n) × (n ≤ length (buffered_in old.buffered))
        × (buffered_in new.buffered ≡ drop n (buffered_in old.buffered))
        × (new.has_failed ≡ false) × BehindMoved old new
    WhyWroteBuffered old WriteBlocked new =
        (buffered_in new.buffered ≡ buffered_in old.buffered) × BehindEnds (Write WriteBlocked) old new
        × (new.has_failed ≡ old.has_failed)
    WhyWroteBuffered old WriteFailed new =
        (buffered_in new.buffered ≡ buffered_in old.buffered) × BehindEnds (Write WriteFailed) old new
        × (new.has_failed ≡ true)

    -- why no more of what is buffered was written: nothing is left, or the inner stream blocked or failed
    abbrev pub WhyBufferFlushed : BufferedStream T → Flushed → BufferedStream T → Type 0
    WhyBufferFlushed old All new = (buffered_in new.buffered ≡ []) × BehindMoved old new
    WhyBufferFlushed old FlushBlocked new = BehindEnds (Write WriteBlocked) old new
    WhyBufferFlushed old FlushFailed new = BehindEnds (Write WriteFailed) old new

  module _ (reports : Type 0) (traffic : T → Traffic) (moment : ℕ) where
    -- no byte came or went, lost or twice
    pub record KeepsBytes (old new : BufferedStream T) : Type 0 where
      pub received : reports → (traffic new.inner).received ≡ (traffic old.inner).received
      pub sent : reports → (traffic new.inner).sent ++ buffered_in new.buffered ≡ (traffic old.inner).sent
          ++ buffered_in old.buffered
      pub departed : reports → DepartAt moment (traffic_through traffic old) (traffic_through traffic new)
      pub counts : new.counts ≡ old.counts
      pub short : new.is_short ≡ old.is_short
      pub drained : new.is_drained ≡ old.is_drained
      pub reads_on : new.reads_on ≡ old.reads_on
      pub turn : KeepsTurn old new

    pub record WritesBuffered (old : BufferedStream T) (answer : WriteAnswer) (new : BufferedStream T) : Type 0 where
      pub kept : KeepsBytes old new
      pub why : WhyWroteBuffered traffic old answer new

    pub record Flushes (old : BufferedStream T) (answer : Flushed) (new : BufferedStream T) : Type 0 where
      pub kept : KeepsBytes old new
      pub why : WhyBufferFlushed traffic old answer new
      pub failed : FlushFails old answer new

    -- what is buffered is written, unless the inner stream failed to take it
    abbrev pub Finishes : BufferedStream T → BufferedStream T → Type 0
    Finishes old new = ((old.has_failed ≡ true) × (new ≡ old))
        ⊎ ((old.has_failed ≡ false) × (answer : Flushed) × Flushes old answer new)

    pub record TakesSome (old : BufferedStream T) (from : List ℕ) (answer : WriteAnswer) (new : BufferedStream T) : Type
        0 where
      pub within : WritesWithin answer (length from)
      pub received : reports → (traffic new.inner).received ≡ (traffic old.inner).received
      pub sent : reports → (traffic new.inner).sent ++ buffered_in new.buffered
          ≡ ((traffic old.inner).sent ++ buffered_in old.buffered) ++ take (bytes_written answer) from
      pub departed : reports → DepartAt moment (traffic_through traffic old) (traffic_through traffic new)
      pub counts : new.counts ≡ old.counts
      pub failed : WriteFails old answer new
      pub short : new.is_short ≡ old.is_short
      pub drained : new.is_drained ≡ old.is_drained
      pub reads_on : new.reads_on ≡ old.reads_on
      pub turn : KeepsTurn old new

    pub record GivesSome (old : BufferedStream T) (before : List ℕ) (answer : ReadAnswer) (new : BufferedStream T)
        (after : List ℕ) : Type 0 where
      pub within : ReadsWithin answer (length before)
      pub received : reports → (traffic new.inner).received ≡ (traffic old.inner).received
          ++ take (bytes_read answer) after
      pub sent : reports → (traffic new.inner).sent ++ buffered_in new.buffered ≡ (traffic old.inner).sent
          ++ buffered_in old.buffered
      pub departed : reports → DepartAt moment (traffic_through traffic old) (traffic_through traffic new)
      pub counts : new.counts ≡ old.counts
      pub failed : ReadFails old answer new
      pub short : ReadsShort old (length before) answer new
