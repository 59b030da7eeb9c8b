use Rattle.engine.proofs.engine.Engine.abort.Goals as goal
use Rattle.std.proofs.Common.{inr, refl, sym, arith}
use Rattle.model.specs.Operations.Operation.{Abort}
use Rattle.model.specs.declared.refusals.Refusal.TheVariants.{NotOpen}
use Rattle.engine.proofs.Calls.{abort_call, leave_call, refused_outside}

pub returns-in-Some-clause-step : goal.returns-in-Some-clause-step
returns-in-Some-clause-step g c = abort_call c.args.self.now _ c.args.s c.in-Some._transaction (sym c.in-Some.ensures.value)
    (record {
      store = record { log = refl; history = refl };
      entries = c.remove.ensures.entries;
      fewer = omega (arith, c.remove.ensures.len);
      forgets = c.forget.ensures;
    })

pub returns-in-None-clause-step : goal.returns-in-None-clause-step
returns-in-None-clause-step g c =
    refused_outside c.args.self.now _ c.args.s Abort _ NotOpen (record { log = refl; history = refl }) c.in-None.ensures.unchanged (inr c.forget.ensures)
    (sym c.in-None.ensures.value)
    (λ m h. refl)

pub returns-in-Some-clause-leaves : goal.returns-in-Some-clause-leaves
returns-in-Some-clause-leaves g c =
    leave_call c.args.self.now _ c.args.s
    (record {
      store = record { log = refl; history = refl };
      entries = c.remove.ensures.entries;
      fewer = omega (arith, c.remove.ensures.len);
      forgets = c.forget.ensures;
    })

pub returns-in-None-clause-leaves : goal.returns-in-None-clause-leaves
returns-in-None-clause-leaves g c =
    leave_call c.args.self.now _ c.args.s
    (record {
      store = record { log = refl; history = refl };
      entries = c.remove.ensures.entries;
      fewer = omega (arith, c.remove.ensures.len);
      forgets = c.forget.ensures;
    })
