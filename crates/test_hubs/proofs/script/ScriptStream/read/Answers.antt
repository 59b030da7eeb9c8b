use Rattle.test_hubs.proofs.script.ScriptStream.read.Goals as goal
use Rattle.std.proofs.Common.{◌≤◌, ◌+◌, ◌++◌, ◌∙◌, ap, take, drop, length, arith, [], refl, subst}
use Rattle.std.proofs.lemmas.Grind.{common_steps}
use Rattle.stream_driver.specs.Counts.{Notes}
use Rattle.stream_driver.specs.declared.answers.Call.TheVariants.{Read}
use Rattle.stream_driver.specs.declared.answers.ReadAnswer.TheVariants.{Moved, Blocked, Failed, Ended}
use Rattle.test_hubs.proofs.Copies.{copied_more}

pub returns-clause-moved : goal.returns-clause-moved
returns-clause-moved g c = λ _.
    let fits : c.next_trouble.new.self.at + c.min-n.result ≤ length c.next_trouble.new.self.input.items = grind (arith, common_steps) in
    record {
      received =
          copied_more c.next_trouble.new.self.input.items c.next_trouble.new.self.at c.min-n.result c.copy_from_slice.new.self
          (drop c.min-n.result c.args.into.now) c.deref.result.now c.deref.ensures.value fits c.copy_from_slice.ensures.after
          ∙ ap (λ s. take s.at s.input.items ++ take c.min-n.result (c.copy_from_slice.new.self ++ drop c.min-n.result c.args.into.now))
          c.next_trouble.ensures;
      sent = ap (λ s. s.sent.items) c.next_trouble.ensures;
      departed = record { departures = []; departed_are = refl; each = tt };
    }

pub returns-in-Some-Blocked-clause-answered : goal.returns-in-Some-Blocked-clause-answered
returns-in-Some-Blocked-clause-answered g c =
    subst (λ k. Notes (Read Blocked) k c.note_read.new.self) (ap (λ s. s.counts) c.next_trouble.ensures) c.note_read.ensures [] [] [] [] [] [] 0 0 refl

pub returns-in-Some-Failed-clause-answered : goal.returns-in-Some-Failed-clause-answered
returns-in-Some-Failed-clause-answered g c =
    subst (λ k. Notes (Read Failed) k c.note_read-in-Some-Failed.new.self) (ap (λ s. s.counts) c.next_trouble.ensures) c.note_read-in-Some-Failed.ensures [] []
    [] [] [] [] 0 0 refl

pub returns-then-n-eq0-clause-answered : goal.returns-then-n-eq0-clause-answered
returns-then-n-eq0-clause-answered g c =
    subst (λ k. Notes (Read Ended) k c.note_read-then-n-eq0.new.self) (ap (λ s. s.counts) c.next_trouble.ensures) c.note_read-then-n-eq0.ensures [] [] [] [] []
    [] 0 0 refl

pub returns-clause-answered : goal.returns-clause-answered
returns-clause-answered g c =
    subst (λ k. Notes (Read (Moved c.min-n.result)) k c.note_read-2.new.self) (ap (λ s. s.counts) c.next_trouble.ensures) c.note_read-2.ensures [] [] [] [] []
    [] 0 0 refl
