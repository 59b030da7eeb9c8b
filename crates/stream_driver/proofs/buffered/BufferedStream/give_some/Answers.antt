use Rattle.stream_driver.proofs.buffered.BufferedStream.give_some.Goals as goal
use Rattle.std.proofs.Common.{◌≡◌, ◌<◌, ◌≤◌, ◌⊎◌, inl, inr, not, false, length, arith}
use Rattle.std.proofs.lemmas.Bool.Decides.{nat_tests}
use Rattle.stream_driver.proofs.Buffering.{gives_some, gives_why, short_moved, short_still}
use Rattle.stream_driver.proofs.Waiting.{comes_not, comes_since, sound_kept, sound_moved, why_read}
use Rattle.stream_driver.proofs.buffered.BufferedStream.give_some.Goals.{then-n-into, else-n-into}

pub returns-after-n-into : goal.returns-after-n-into
returns-after-n-into g c =
    let how : ((c.in-Moved.n < length c.args.into.now) × (c.if-n-into.self ≡ not c.flush.new.self.reads_on))
    ⊎ ((length c.args.into.now ≤ c.in-Moved.n) × (c.if-n-into.self ≡ false)) = elim c.if-n-into.branch [
      | then-n-into w ↦ inl (omega (arith, w.if-n-into.true), w.self-is)
      | else-n-into w ↦ inr (omega (arith, w.if-n-into.false), grind (arith, nat_tests, w.if-n-into.false, w.self-is))
    ] in
    record {
      gives = gives_some c.if-n-into.self _ c.in-All.ensures.flushed
          c.in-Moved.ensures.within (λ r. (c.in-Moved.ensures.moved r).received) (λ r. (c.in-Moved.ensures.moved r).sent)
          (λ r. (c.in-Moved.ensures.moved r).departed)
          (short_moved c.in-Moved.n (length c.args.into.now) c.args.self.now.reads_on c.flush.new.self.reads_on c.if-n-into.self
          c.in-All.ensures.flushed.kept.reads_on
          how);
      sound = record {
        short = c.in-Moved.ensures.stays.short;
        sound = λ sound. sound_moved g.S.Stream.came_short c.args.self.now _ c.in-Moved.n (length c.args.into.now) c.in-Moved.ensures.stays.short.0
            (short_moved c.in-Moved.n (length c.args.into.now) c.args.self.now.reads_on c.flush.new.self.reads_on c.if-n-into.self
            c.in-All.ensures.flushed.kept.reads_on
            how) c.if-self.false c.in-All.ensures.flushed.kept.reads_on;
        why = λ sound. tt;
      };
      why = gives_why c.if-n-into.self _ c.in-All.ensures.flushed c.in-Moved.ensures.answered c.if-self.false;
    }

pub returns-in_default : goal.returns-in_default
returns-in_default g c = record {
  gives = gives_some c.flush.new.self.is_short c.read-answer.result c.in-All.ensures.flushed
      c.read-answer.ensures.within (λ r. (c.read-answer.ensures.moved r).received) (λ r. (c.read-answer.ensures.moved r).sent)
      (λ r. (c.read-answer.ensures.moved r).departed)
      (short_still c.args.self.now _ _ c.read-answer.result c.in_default.not-Moved c.in-All.ensures.flushed.kept.short);
  sound = (
      let since = comes_since g.S.Stream.came_short c.args.self.now c.flush.new.self (record c.flush.new.self { inner = c.read-answer.new.self })
      (length c.args.into.now) c.read-answer.result c.in_default.not-Moved
      c.in-All.ensures.short c.read-answer.ensures.stays.short in
      record {
        short = since;
        sound = sound_kept g.S.Stream.came_short c.args.self.now _
            (λ was. (comes_not g.S.Stream.came_short c.flush.new.self.inner c.read-answer.new.self (length c.args.into.now) c.read-answer.result
            c.in_default.not-Moved c.read-answer.ensures.stays.short).0 (c.in-All.ensures.short.0 was)) c.in-All.ensures.flushed.kept.short
            c.in-All.ensures.flushed.kept.drained c.in-All.ensures.flushed.kept.reads_on;
        why = λ sound. why_read g.S.Stream.came_short g.S.Stream.traffic _ c.read-answer.result c.in-All.ensures.flushed.why.0 c.read-answer.ensures.answered.1;
      }
      );
  why = gives_why c.flush.new.self.is_short c.read-answer.result c.in-All.ensures.flushed c.read-answer.ensures.answered c.if-self.false;
}
