use Rattle.test_hubs.proofs.script.ScriptStream.write.Goals as goal
use Rattle.std.proofs.Common.{ap, [], refl, subst}
use Rattle.stream_driver.specs.Counts.{Notes}
use Rattle.stream_driver.specs.declared.answers.Call.TheVariants.{Write}
use Rattle.stream_driver.specs.declared.answers.WriteAnswer.TheVariants.{Moved, Blocked, Failed}

pub returns-in-Some-Blocked-clause-answered : goal.returns-in-Some-Blocked-clause-answered
returns-in-Some-Blocked-clause-answered g c =
    subst (λ k. Notes (Write Blocked) k c.note_write.new.self) (ap (λ s. s.counts) c.next_trouble.ensures) c.note_write.ensures [] [] [] [] [] [] 0 0 refl

pub returns-in-Some-Failed-clause-answered : goal.returns-in-Some-Failed-clause-answered
returns-in-Some-Failed-clause-answered g c =
    subst (λ k. Notes (Write Failed) k c.note_write-in-Some-Failed.new.self) (ap (λ s. s.counts) c.next_trouble.ensures) c.note_write-in-Some-Failed.ensures []
    [] [] [] [] [] 0 0 refl

pub returns-then-is_err-clause-answered : goal.returns-then-is_err-clause-answered
returns-then-is_err-clause-answered g c =
    subst (λ k. Notes (Write Failed) k c.note_write-then-is_err.new.self) (ap (λ s. s.counts) c.next_trouble.ensures) c.note_write-then-is_err.ensures [] [] []
    [] [] [] 0 0 refl

pub returns-clause-answered : goal.returns-clause-answered
returns-clause-answered g c =
    subst (λ k. Notes (Write (Moved c.match-next_trouble.n)) k c.note_write-2.new.self) (ap (λ s. s.counts) c.next_trouble.ensures) c.note_write-2.ensures [] []
    [] [] [] [] 0 0 refl
