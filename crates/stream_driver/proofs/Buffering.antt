-- A stream that buffers nothing has room.
use Rattle.std.proofs.Common.{◌≡◌, ◌≢◌, inl, inr, ℕ, ◌-◌, ◌<◌, ◌≤◌, ◌⊎◌, ◌↔◌, not, true, false, List, [], ◌++◌}
use Rattle.std.proofs.Common.{append_assoc, Bool, length, take, drop, vec_len, refl, sym, ap, subst, ◌∙◌, arith}
use Rattle.std.proofs.Common.{length-drop}
use Rattle.std.proofs.lemmas.Grind.{common_steps}
use Rattle.std.proofs.lemmas.List.{append-nil, take-append-drop, length-take-le, take-take}
use Rattle.std.specs.List.{AllByRecursion}
use Rattle.model.proofs.Elements.{all-each, all-append}
use Rattle.stream_driver.proofs.Answered.{ends_then, moved_then, none_called}
use Rattle.stream_driver.proofs.Carry.{grown}
use Rattle.stream_driver.specs.Buffers.{buffered_in, BehindEnds, BehindMoved, FlushFails, GivesSome, KeepsBytes}
use Rattle.stream_driver.specs.Buffers.{ShortAfter, TakesSome, InnerWasRead, WhyGave, WhyGaveSome, WhyTook}
use Rattle.stream_driver.specs.Buffers.{WhyTookSome, traffic_through, ReadFails, RoomFails, StaysFailed, WhyRoom}
use Rattle.stream_driver.specs.Buffers.{WriteFails, KeepsTurn, WritesBuffered, buffer_room, Flushes, WhyBufferFlushed}
use Rattle.stream_driver.specs.Traffic.{AllMoved, Departure, DepartAt, CountsLast, IsBeginning, ReadsWithin, Traffic}
use Rattle.stream_driver.specs.Traffic.{WritesWithin, bytes_read, bytes_written}
use Rattle.stream_driver.specs.Types.{ReadAnswer, Moved, WriteAnswer, Wrote, WriteBlocked, WriteFailed, Read, Write}
use Rattle.stream_driver.specs.Types.{BufferedBytes, Flushed, All, FlushedBlocked as Blocked, FlushedFailed as Failed}
use Rattle.stream_driver.specs.Types.{BufferedStream}

empty_room : (h : BufferedBytes) → buffered_in h ≡ [] → 0 < buffer_room h
empty_room h e =
    let none : length h.bytes.items - h.left ≡ 0 = sym (length-drop h.left h.bytes.items) ∙ ap length e in
    let len : vec_len h.bytes ≡ length h.bytes.items = h.bytes.ok.0 in
    let at_end : h.left ≡ vec_len h.bytes = omega (arith, h.some_left) in
    let zero : h.left ≡ 0 = h.empty at_end in
    omega arith

pub room_after : {T : Type 0} (traffic : T → Traffic) (answer : Flushed) (a b : BufferedStream T) → WhyBufferFlushed traffic a answer b
    → WhyRoom traffic a answer b
room_after traffic answer a b e = grind (arith, empty_room)

-- a read that moved bytes is short where they are fewer than it asked for, unless such a read means nothing
pub short_moved : (n len : ℕ) (was now short : Bool) → now ≡ was → ((n < len) × (short ≡ not now)) ⊎ ((len ≤ n) × (short ≡ false)) → (short ≡ true)
    ↔ ((n < len) × (was ≡ false))
short_moved n len was now short same how = (λ on. (grind (arith, common_steps), grind (arith, common_steps)), λ p. grind (arith, common_steps))

-- a write of so many bytes
within_most : (answer : WriteAnswer) (most len : ℕ) → most ≤ len → WritesWithin answer most → WritesWithin answer len
within_most answer most len le within = grind arith

pub took_most : (answer : WriteAnswer) (most : ℕ) → WritesWithin answer most → bytes_written answer ≤ most
took_most answer most within = grind arith

-- ---- what left

pub beginnings_then : (moment : ℕ) (all more later : List ℕ) → later ≡ all ++ more → (ds : List Departure)
    → AllByRecursion (λ d. (d.moment ≡ moment) × IsBeginning d.bytes all) ds
    → AllByRecursion (λ d. (d.moment ≡ moment) × IsBeginning d.bytes later) ds
beginnings_then moment all more later e ds = all-each (λ d. (d.moment ≡ moment) × IsBeginning d.bytes all) _ ds
    (λ d h. (h.0, record { rest = h.1.rest ++ more; all_is = e ∙ ap (λ l. l ++ more) h.1.all_is ∙ append_assoc d.bytes h.1.rest more }))

module _ {moment : ℕ} {a b : Traffic} where
  -- nothing left
  pub none_departed : b.departed ≡ a.departed → DepartAt moment a b
  none_departed e = record { departures = []; departed_are = e ∙ sym (append-nil a.departed); each = tt }

  module _ {c : Traffic} where
    -- more was written since
    pub departed_and_sent : (more : List ℕ) → c.departed ≡ b.departed → c.sent ≡ b.sent ++ more → DepartAt moment a b → DepartAt moment a c
    departed_and_sent more e sent p = search (e ∙ p.departed_are, beginnings_then moment b.sent more c.sent sent p.departures p.each)

    pub departed_then : (more : List ℕ) → c.sent ≡ b.sent ++ more → DepartAt moment a b → DepartAt moment b c → DepartAt moment a c
    departed_then more sent p q =
        let each = all-append (λ d. (d.moment ≡ moment)
        × IsBeginning d.bytes c.sent) p.departures q.departures (beginnings_then moment b.sent more c.sent sent p.departures p.each) q.each in
        search (grown a.departed b.departed b.departed c.departed p.departures q.departures p.departed_are refl q.departed_are, each)

-- between two writes of what is buffered
abbrev pub FlushedSoFar : {T : Type 0} (reports : Type 0) (traffic : T → Traffic) (moment : ℕ) → BufferedStream T → BufferedStream T → Type 0
FlushedSoFar reports traffic moment a b = KeepsBytes reports traffic moment a b × StaysFailed a b × BehindMoved traffic a b

-- ---- whether what is buffered failed to leave

module _ {T : Type 0} where
  -- some of it left
  stays_moved : (a b c : BufferedStream T) (n : ℕ) → StaysFailed a b → 0 < n → n ≤ length (buffered_in b.buffered)
      → buffered_in c.buffered ≡ drop n (buffered_in b.buffered)
      → c.has_failed ≡ false → StaysFailed a c
  stays_moved a b c n s some fits buffered failed =
      let left : length (buffered_in c.buffered) ≡ length (buffered_in b.buffered) - n = ap length buffered ∙ length-drop n (buffered_in b.buffered) in
      inr (grind arith, failed)

  -- where there was no room, what is buffered was written
  pub room_flushed : (a : BufferedStream T) (answer : Flushed) (b : BufferedStream T) → buffer_room a.buffered ≡ 0 → FlushFails a answer b
      → RoomFails a answer b
  room_flushed a answer b none s = grind arith

  write_fails : (old new : BufferedStream T) (answer : WriteAnswer) → buffered_in new.buffered ≡ [] → RoomFails old All new → WriteFails old answer new
  write_fails old new answer none stays = grind arith

  same_turn : {b : BufferedStream T} → KeepsTurn b b
  same_turn = record { share = refl; whole = refl; ended = refl; appended = refl; writer = refl; heavy = refl }

  turn_then : {a b c : BufferedStream T} → KeepsTurn a b → KeepsTurn b c → KeepsTurn a c
  turn_then p q = record {
    share = q.share ∙ p.share;
    whole = q.whole ∙ p.whole;
    ended = q.ended ∙ p.ended;
    appended = q.appended ∙ p.appended;
    writer = q.writer ∙ p.writer;
    heavy = q.heavy ∙ p.heavy;
  }

  read_fails : (old new : BufferedStream T) (answer : ReadAnswer) → buffered_in new.buffered ≡ [] → StaysFailed old new → ReadFails old answer new
  read_fails old new answer none stays = grind arith

  -- a read that moved nothing
  pub short_still : (old new : BufferedStream T) (len : ℕ) (answer : ReadAnswer) → ((n : ℕ) → answer ≢ Moved n) → new.is_short ≡ old.is_short
      → ShortAfter old len answer new
  short_still old new len answer differs same = grind arith

  -- a call of a buffered stream is of the connection of the inner stream
  module _ (traffic : T → Traffic) (old new : BufferedStream T) where
    gave_some_same : (answer : ReadAnswer) → WhyGaveSome traffic old answer new → (traffic new.inner).connection ≡ (traffic old.inner).connection
    gave_some_same answer why = grind arith

    took_some_same : (answer : WriteAnswer) → WhyTookSome traffic old answer new → (traffic new.inner).connection ≡ (traffic old.inner).connection
    took_some_same answer why = grind arith

    pub gave_same : (answer : ReadAnswer) → WhyGave traffic old answer new → (traffic new.inner).connection ≡ (traffic old.inner).connection
    gave_same answer (inl pauses) = ap (λ (i : T). (traffic i).connection) pauses.0.inner_is
    gave_same answer (inr (inl stops)) = ap (λ (i : T). (traffic i).connection) stops.0.inner_is
    gave_same answer (inr (inr why)) = gave_some_same answer why.1

    pub took_same : (answer : WriteAnswer) → WhyTook traffic old answer new → (traffic new.inner).connection ≡ (traffic old.inner).connection
    took_same answer (inl pauses) = ap (λ (i : T). (traffic i).connection) pauses.0.inner_is
    took_same answer (inr (inl stops)) = ap (λ (i : T). (traffic i).connection) stops.0.inner_is
    took_same answer (inr (inr why)) = took_some_same answer why.1

    pub flushed_same : (answer : Flushed) → WhyBufferFlushed traffic old answer new → (traffic new.inner).connection ≡ (traffic old.inner).connection
    flushed_same answer why = grind arith

    why_gave : (answer : ReadAnswer) → InnerWasRead traffic old answer new → WhyGaveSome traffic old answer new
    why_gave answer read = grind arith

    why_took : (answer : WriteAnswer) → BehindEnds traffic (Write answer) old new → WhyTookSome traffic old answer new
    why_took answer ends = grind arith

    -- what left in a call of the inner stream
    left_behind : {moment : ℕ} → DepartAt moment (traffic old.inner) (traffic new.inner)
        → DepartAt moment (traffic_through traffic old) (traffic_through traffic new)
    left_behind {moment} p =
        search (
          p.departed_are,
          beginnings_then moment (traffic new.inner).sent (buffered_in new.buffered) (traffic_through traffic new).sent refl p.departures
              p.each,
        )

  pub takes_why : (traffic : T → Traffic) (old mid : BufferedStream T) {inner : T} (answer : WriteAnswer) → BehindMoved traffic old mid
      → CountsLast (Write answer) (traffic mid.inner) (traffic inner) → WhyTookSome traffic old answer (record mid { inner = inner })
  takes_why traffic old mid {inner} answer moved answered =
      why_took traffic old (record mid { inner = inner }) answer
      (ends_then (Write answer) (traffic old.inner) (traffic mid.inner) (traffic inner) moved answered)

  module _ {reports : Type 0} {traffic : T → Traffic} {moment : ℕ} where
    kept_then : {a b c : BufferedStream T} → KeepsBytes reports traffic moment a b → KeepsBytes reports traffic moment b c
        → KeepsBytes reports traffic moment a c
    kept_then {a} {b} p q =
        let departed = λ (t : reports). departed_then [] (q.sent t
        ∙ sym (append-nil ((traffic b.inner).sent ++ buffered_in b.buffered))) (p.departed t) (q.departed t) in
        assumption (
          λ (t : reports). q.received t ∙ p.received t,
          λ (t : reports). q.sent t ∙ p.sent t,
          departed,
          q.counts ∙ p.counts,
          q.short ∙ p.short,
          q.drained ∙ p.drained,
          q.reads_on ∙ p.reads_on,
          turn_then p.turn q.turn,
        )

    pub flushed_none : (b : BufferedStream T) → FlushedSoFar reports traffic moment b b
    flushed_none b = (
      record {
        received = λ t. refl;
        sent = λ t. refl;
        departed = λ t. none_departed refl;
        counts = refl;
        short = refl;
        drained = refl;
        reads_on = refl;
        turn = same_turn;
      },
      inl (refl, refl),
      none_called (traffic b.inner),
    )

    module _ {a b : BufferedStream T} (so_far : FlushedSoFar reports traffic moment a b) {c : BufferedStream T} where
      pub flushed_more : {n : ℕ} → WritesBuffered reports traffic moment b (Wrote n) c → FlushedSoFar reports traffic moment a c
      flushed_more {n} w = (
        kept_then so_far.0 w.kept,
        stays_moved a b c n so_far.1 w.why.0 w.why.1 w.why.2 w.why.3,
        moved_then (traffic a.inner) (traffic b.inner) (traffic c.inner) so_far.2 w.why.4,
      )

      pub flushed_blocked : WritesBuffered reports traffic moment b WriteBlocked c → Flushes reports traffic moment a Blocked c
      flushed_blocked w = record {
        kept = kept_then so_far.0 w.kept;
        why = ends_then (Write WriteBlocked) (traffic a.inner) (traffic b.inner) (traffic c.inner) so_far.2 w.why.1;
        failed = rw (w.why.0, w.why.2) so_far.1;
      }

      pub flushed_failed : buffered_in b.buffered ≢ [] → WritesBuffered reports traffic moment b WriteFailed c → Flushes reports traffic moment a Failed c
      flushed_failed some w = record {
        kept = kept_then so_far.0 w.kept;
        why = ends_then (Write WriteFailed) (traffic a.inner) (traffic b.inner) (traffic c.inner) so_far.2 w.why.1;
        failed =
            (λ none. some (sym w.why.0 ∙ none), w.why.2);
      }

    module _ {old : BufferedStream T} {inner : T} (received : reports → (traffic inner).received ≡ (traffic old.inner).received) (departed : reports
        → DepartAt moment (traffic old.inner) (traffic inner)) where
      keeps : (buffered : BufferedBytes) (failed : Bool) → (reports → (traffic inner).sent ++ buffered_in buffered ≡ (traffic old.inner).sent
          ++ buffered_in old.buffered)
          → KeepsBytes reports traffic moment old (record old { inner = inner; buffered = buffered; has_failed = failed })
      keeps buffered failed sent =
          assumption (λ (t : reports). left_behind traffic old (record old { inner = inner; buffered = buffered; has_failed = failed }) (departed t))

      -- some of what is buffered left
      pub wrote_buffered : {n : ℕ} (buffered : BufferedBytes) {from : List ℕ} → AllMoved (traffic old.inner) (traffic inner) → from ≡ buffered_in old.buffered
          → (0 < n) × (n ≤ length from) → buffered_in buffered ≡ drop n (buffered_in old.buffered)
          → (reports → (traffic inner).sent ≡ (traffic old.inner).sent ++ take n from)
          → WritesBuffered reports traffic moment old (Wrote n) (record old { inner = inner; buffered = buffered; has_failed = false })
      wrote_buffered {n} buffered moved is fits rest sent =
          let kept = keeps buffered false (λ t. rw (sent t, rest, is, append_assoc, take-append-drop)) in
          record { kept = kept; why = (fits.0, subst (λ l. n ≤ length l) is fits.1, rest, refl, moved) }

      -- none of it left
      pub kept_buffered : (failed : Bool) → (reports → (traffic inner).sent ≡ (traffic old.inner).sent ++ [])
          → KeepsBytes reports traffic moment old (record old { inner = inner; has_failed = failed })
      kept_buffered failed sent = keeps old.buffered failed (λ t. ap (λ l. l ++ buffered_in old.buffered) (sent t ∙ append-nil (traffic old.inner).sent))

    -- a call of the inner stream after what is buffered was written
    left_then : (a b c : BufferedStream T) (more : List ℕ) → KeepsBytes reports traffic moment a b → reports
        → (traffic_through traffic c).sent ≡ (traffic_through traffic b).sent ++ more
        → DepartAt moment (traffic b.inner) (traffic c.inner) → DepartAt moment (traffic_through traffic a) (traffic_through traffic c)
    left_then a b c more p t sent q = departed_then more sent (p.departed t) (left_behind traffic b c q)

    -- the inner stream was read once nothing was buffered
    pub gives_some : {old mid : BufferedStream T} {inner : T} (short : Bool) {before after : List ℕ} (answer : ReadAnswer)
        → Flushes reports traffic moment old All mid → ReadsWithin answer (length before)
        → (reports → (traffic inner).received ≡ (traffic mid.inner).received ++ take (bytes_read answer) after)
        → (reports → (traffic inner).sent ≡ (traffic mid.inner).sent) → (reports → DepartAt moment (traffic mid.inner) (traffic inner))
        → ShortAfter old (length before) answer (record mid { inner = inner; is_short = short })
        → GivesSome reports traffic moment old before answer (record mid { inner = inner; is_short = short }) after
    gives_some {old} {mid} {inner} short {before} {after} answer flushed within received sent departed shorter =
        let new : BufferedStream T = record mid { inner = inner; is_short = short } in
        let all = λ (t : reports). ap (λ l. l ++ buffered_in mid.buffered) (sent t) in
        let left = λ (t : reports). left_then old mid new [] flushed.kept t (all t
        ∙ sym (append-nil ((traffic mid.inner).sent ++ buffered_in mid.buffered))) (departed t) in
        assumption (
          λ (t : reports). received t ∙ ap (λ l. l ++ take (bytes_read answer) after) (flushed.kept.received t),
          λ (t : reports). all t ∙ flushed.kept.sent t,
          left,
          read_fails old new answer flushed.why.0 flushed.failed,
        )

    -- why it answers so
    pub gives_why : {old mid : BufferedStream T} {inner : T} (short : Bool) (answer : ReadAnswer) → Flushes reports traffic moment old All mid
        → CountsLast (Read answer) (traffic mid.inner) (traffic inner) → mid.is_drained ≡ false
        → WhyGaveSome traffic old answer (record mid { inner = inner; is_short = short })
    gives_why {old} {mid} {inner} short answer flushed answered more =
        let new : BufferedStream T = record mid { inner = inner; is_short = short } in
        why_gave traffic old new answer (
          sym flushed.kept.drained ∙ more,
          flushed.why.0,
          ends_then (Read answer) (traffic old.inner) (traffic mid.inner) (traffic inner) flushed.why.1 answered,
        )

    -- a share that is used up
    pub took_none : (b : BufferedStream T) (from : List ℕ) → TakesSome reports traffic moment b from WriteBlocked b
    took_none b from = record {
      within = tt;
      received = λ t. refl;
      sent = λ t. sym (append-nil ((traffic b.inner).sent ++ buffered_in b.buffered));
      departed = λ t. none_departed refl;
      counts = refl;
      failed = inl (refl, refl);
      short = refl;
      drained = refl;
      reads_on = refl;
      turn = same_turn;
    }

    -- of the bytes, those at the front were to be written
    module _ {old new : BufferedStream T} {answer : WriteAnswer} (most : ℕ) (piece from : List ℕ) (is : piece ≡ take most from) (le : most ≤ length from)
        (p : TakesSome reports traffic moment old piece answer new) where
      fits_front : WritesWithin answer most
      fits_front = subst (λ n. WritesWithin answer n) (ap length is ∙ length-take-le most from le) p.within

      pub took_front : bytes_written answer ≤ most
      took_front = took_most answer most fits_front

      same_front : take (bytes_written answer) piece ≡ take (bytes_written answer) from
      same_front = ap (λ l. take (bytes_written answer) l) is ∙ take-take (bytes_written answer) most from took_front

      pub takes_front : TakesSome reports traffic moment old from answer new
      takes_front = record {
        within = within_most answer most (length from) le fits_front;
        received = p.received;
        sent = λ t. p.sent t ∙ ap (λ l. ((traffic old.inner).sent ++ buffered_in old.buffered) ++ l) same_front;
        departed = p.departed;
        counts = p.counts;
        failed = p.failed;
        short = p.short;
        drained = p.drained;
        reads_on = p.reads_on;
        turn = p.turn;
      }

    module _ {old mid : BufferedStream T} (kept : KeepsBytes reports traffic moment old mid) (stays : RoomFails old All mid) {from : List ℕ} where
      -- they were written to the inner stream
      pub takes_on : {inner : T} {answer : WriteAnswer} → buffered_in mid.buffered ≡ [] → WritesWithin answer (length from)
          → (reports → (traffic inner).received ≡ (traffic mid.inner).received)
          → (reports → (traffic inner).sent ≡ (traffic mid.inner).sent ++ take (bytes_written answer) from)
          → (reports → DepartAt moment (traffic mid.inner) (traffic inner))
          → TakesSome reports traffic moment old from answer (record mid { inner = inner })
      takes_on {inner} {answer} none within received sent departed =
          let new : BufferedStream T = record mid { inner = inner } in
          let all : reports → (traffic inner).sent ++ buffered_in mid.buffered ≡ ((traffic mid.inner).sent ++ buffered_in mid.buffered)
          ++ take (bytes_written answer) from =
          λ t. rw none (append-nil (traffic inner).sent ∙ sent t
          ∙ ap (λ l. l ++ take (bytes_written answer) from) (sym (append-nil (traffic mid.inner).sent))) in
          let left = λ (t : reports). left_then old mid new (take (bytes_written answer) from) kept t (all t) (departed t) in
          assumption (
            λ (t : reports). received t ∙ kept.received t,
            λ (t : reports). all t ∙ ap (λ l. l ++ take (bytes_written answer) from) (kept.sent t),
            left,
            write_fails old new answer none stays,
          )

      -- they are buffered
      pub takes_in : (buffered : BufferedBytes) {n : ℕ} → (0 < n) × (n ≤ length from) → buffered_in buffered ≡ buffered_in mid.buffered ++ take n from
          → TakesSome reports traffic moment old from (Wrote n) (record mid { buffered = buffered })
      takes_in buffered {n} fits is =
          let all : (traffic mid.inner).sent ++ buffered_in buffered ≡ ((traffic mid.inner).sent ++ buffered_in mid.buffered) ++ take n from =
          ap (λ l. (traffic mid.inner).sent ++ l) is ∙ sym (append_assoc (traffic mid.inner).sent (buffered_in mid.buffered) (take n from)) in
          assumption (
            λ (t : reports). all ∙ ap (λ l. l ++ take n from) (kept.sent t),
            λ (t : reports). departed_and_sent {c = traffic_through traffic (record mid { buffered = buffered })} (take n from) refl all (kept.departed t),
          )
