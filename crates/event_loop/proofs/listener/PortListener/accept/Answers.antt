use Rattle.event_loop.proofs.listener.PortListener.accept.Goals as goal
use Rattle.std.proofs.Common.{ap, arith}
use Rattle.event_loop.proofs.Tables.{blocked_counted, failed_counted, accepted_counted, given}
use Rattle.socket_calls.specs.declared.listening.ListeningSocket.{ListeningSocket}

pub returns-in-Accepted-clause-counted : goal.returns-in-Accepted-clause-counted
returns-in-Accepted-clause-counted c =
    accepted_counted _ _ _ _ _ c.in-Accepted.is (ap (λ (l : ListeningSocket). l.accepts) c.accept.ensures.once) (omega (arith, c.saturating_add-self.ensures))

pub returns-in-Blocked-clause-counted : goal.returns-in-Blocked-clause-counted
returns-in-Blocked-clause-counted c =
    blocked_counted _ _ _ _ c.in-Blocked.is (ap (λ (l : ListeningSocket). l.accepts) c.accept.ensures.once)
    (omega (arith, c.saturating_add-self-in-Blocked.ensures))

pub returns-in-Failed-clause-counted : goal.returns-in-Failed-clause-counted
returns-in-Failed-clause-counted c =
    failed_counted _ _ _ _ c.in-Failed.is (ap (λ (l : ListeningSocket). l.accepts) c.accept.ensures.once)
    (omega (arith, c.saturating_add-self-in-Failed.ensures))

pub returns-in-Accepted-clause-answers : goal.returns-in-Accepted-clause-answers
returns-in-Accepted-clause-answers c =
    record { once = c.accept.ensures.once; gave = given _ _ _ c.accept_answer-answer.ensures c.accept.ensures.gave }

pub returns-in-Blocked-clause-answers : goal.returns-in-Blocked-clause-answers
returns-in-Blocked-clause-answers c =
    record { once = c.accept.ensures.once; gave = given _ _ _ c.accept_answer-answer.ensures c.accept.ensures.gave }

pub returns-in-Failed-clause-answers : goal.returns-in-Failed-clause-answers
returns-in-Failed-clause-answers c =
    record { once = c.accept.ensures.once; gave = given _ _ _ c.accept_answer-answer.ensures c.accept.ensures.gave }
