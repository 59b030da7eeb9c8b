use Rattle.last_readers.proofs.gathering.steps_of_mark.Goals as goal
use Rattle.std.proofs.Common.{ap, sym, cond, ◌∙◌}
use Rattle.std.proofs.lemmas.Result.{IfOk-weaker}
use Rattle.std.specs.Prelude.{Option, option_map}
use Rattle.model.specs.PrivateCopy.{covers}
use Rattle.model.specs.PrivateCopy.Mark.{OfRange}
use Rattle.model.specs.declared.keys.KeyRef.{KeyRef}
use Rattle.marks.specs.Lent.{lent_mark}
use Rattle.last_readers.proofs.MarkSteps.{key_step, open_step}
use Rattle.last_readers.specs.Steps.{number_at}

pub returns-in-Key-clause-covers : goal.returns-in-Key-clause-covers
returns-in-Key-clause-covers c =
    IfOk-weaker c.from_on.result _ _ (λ v is k. ap (λ l. number_at l k) is ∙ key_step c.in-Key.key.bytes.now k
    ∙ ap (λ m. cond (covers (lent_mark m) k) 1 0) (sym c.in-Key.is)) c.from_on.ensures

pub returns-in-None-clause-covers : goal.returns-in-None-clause-covers
returns-in-None-clause-covers c =
    let range = c.in-Range.range in
    IfOk-weaker c.from_on-in-None.result _ _ (λ v is k.
    ap (λ l. number_at l k) is ∙ open_step range.lo.bytes.now k
    ∙ ap (λ (hi : Option KeyRef). cond (covers (OfRange range.lo.bytes.now (option_map (λ (q : KeyRef). q.bytes.now) hi)) k) 1 0) (sym c.in-None.is)
    ∙ ap (λ m. cond (covers (lent_mark m) k) 1 0) (sym c.in-Range.is)) c.from_on-in-None.ensures
