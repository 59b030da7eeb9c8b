use Rattle.stream_driver.proofs.buffered.BufferedStreamStream.read.Goals as goal
use Rattle.std.proofs.Common.{[], length, subst, refl}
use Rattle.stream_driver.proofs.Buffering.{gave_same}
use Rattle.stream_driver.proofs.Waiting.{comes_counted, waits_counted}
use Rattle.stream_driver.specs.Counts.{Notes}
use Rattle.stream_driver.specs.declared.answers.Call.TheVariants.{Read}

pub returns-clause-answered : goal.returns-clause-answered
returns-clause-answered g c =
    subst (λ k. Notes (Read c.give_in_share-answer.result) k c.note_read.new.self) c.give_in_share-answer.ensures.gives.counts c.note_read.ensures _ _ [] [] _
    [] _ _
    (gave_same g.S.Stream.traffic c.args.self.now c.give_in_share-answer.new.self c.give_in_share-answer.result c.give_in_share-answer.ensures.why)

pub returns-clause-stays : goal.returns-clause-stays
returns-clause-stays g c =
    let sound = c.give_in_share-answer.ensures.sound in
    record {
      short = comes_counted g.S.Stream.came_short c.args.self.now c.give_in_share-answer.new.self c.note_read.new.self (length c.args.into.now)
          c.give_in_share-answer.result
          sound.short;
      sound = λ was. record { short = (sound.sound was).short; drained = (sound.sound was).drained };
      why = λ was. waits_counted g.S.Stream.came_short g.S.Stream.traffic c.give_in_share-answer.new.self c.note_read.new.self
          c.give_in_share-answer.result
          (c.note_read.ensures [] [] [] [] [] [] 0 0 refl).1
          (sound.why was);
    }
