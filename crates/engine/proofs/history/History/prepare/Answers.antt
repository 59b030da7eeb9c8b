use Rattle.engine.proofs.history.History.prepare.Goals as goal
use Rattle.std.proofs.Common.{refl, subst}
use Rattle.engine.specs.HistoryValue.{HistoryValue, IsSameHistory}

pub returns-in_err-prepare-clause-same : goal.returns-in_err-prepare-clause-same
returns-in_err-prepare-clause-same c =
    subst (λ (v : HistoryValue). IsSameHistory v (record { versions = c.prepare.new.self; committed = c.self.inside.committed })) c.self.view_is
    (record {
      versions = c.prepare.ensures.same;
      stands = c.prepare.ensures.stands;
      committed =
          record { stands = λ history. (λ s. s, λ s. s); oldest = refl; last = refl; reach = refl };
      little = λ l. l;
    })

pub returns-clause-same : goal.returns-clause-same
returns-clause-same c =
    subst (λ (v : HistoryValue). IsSameHistory v (record { versions = c.prepare.new.self; committed = c.reserve.new.self })) c.self.view_is
    (record {
      versions = c.prepare.ensures.same;
      stands = c.prepare.ensures.stands;
      committed = c.reserve.ensures.same;
      little = c.reserve.ensures.little c.self.invariant.1;
    })
