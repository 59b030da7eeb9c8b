use Rattle.last_readers.proofs.gathering.span.Goals as goal
use Rattle.std.proofs.Common.{ap, sym, ◌∙◌}
use Rattle.std.proofs.lemmas.Result.{IfOk-weaker}
use Rattle.last_readers.proofs.MarkSteps.{two_steps, one_step, no_step}
use Rattle.last_readers.specs.Steps.{number_at}

pub returns-in-Less-clause-span : goal.returns-in-Less-clause-span
returns-in-Less-clause-span c =
    IfOk-weaker c.from_to.result _ _ (λ v is k. ap (λ l. number_at l k) is
    ∙ two_steps c.args.lo.bytes.now c.args.end.bytes.now c.args.at k (sym c.order.ensures ∙ c.in-Less.is)) c.from_to.ensures

pub returns-in-Equal-clause-span : goal.returns-in-Equal-clause-span
returns-in-Equal-clause-span c =
    IfOk-weaker c.from_on.result _ _ (λ v is k. ap (λ l. number_at l k) is
    ∙ one_step c.args.lo.bytes.now c.args.end.bytes.now c.args.at k (sym c.order.ensures ∙ c.in-Equal.is)) c.from_on.ensures

pub returns-in-Greater-clause-span : goal.returns-in-Greater-clause-span
returns-in-Greater-clause-span c =
    λ k. ap (λ l. number_at l k) c.new.ensures ∙ no_step c.args.lo.bytes.now c.args.end.bytes.now c.args.at k (sym c.order.ensures ∙ c.in-Greater.is)
