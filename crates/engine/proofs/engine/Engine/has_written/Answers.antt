use Rattle.engine.proofs.engine.Engine.has_written.Goals as goal
use Rattle.std.proofs.Common.{sym, refl, ◌∙◌}
use Rattle.engine.proofs.Requests.{is_any, none_read_only, read_only}

pub returns-in-Some-clause-written : goal.returns-in-Some-clause-written
returns-in-Some-clause-written g c m stands =
    read_only c.args.self.now c.args.s m stands c.in-Some.transaction.now _ (is_any c.is_empty.result _ _ c.is_empty.ensures c.entries.ensures.writes)
    (sym c.in-Some.ensures.value)
    (λ contents requests made. sym c.entries.ensures.writes ∙ c.entries.ensures.made contents requests made)

pub returns-in-None-clause-written : goal.returns-in-None-clause-written
returns-in-None-clause-written g c m stands = (λ none. none_read_only c.args.self.now c.args.s m stands (sym c.in-None.ensures.value), λ only. refl)
