use Rattle.event_loop.proofs.connections.accept_some.Goals as goal
use Rattle.std.proofs.Common.{◌∙◌, ◌+◌, [], ◌∷◌, ◌++◌, arith, ap, length-append, refl, sym}
use Rattle.event_loop.proofs.Tables.{admits_table, none_come, one_comes, accepted_none, accepted_one}
use Rattle.event_loop.specs.Accepts.{after_accept, after_accepted}
use Rattle.event_loop.specs.Accepts.GivesEach.{NoneCame, OneCame}
use Rattle.event_loop.specs.Sockets.{IsNewSocket}
use Rattle.event_loop.specs.declared.listener.AcceptAnswer.TheVariants.{Blocked, Failed}

pub loop-accepted-init : goal.loop-accepted-init
loop-accepted-init g c = (
  c.requires,
  accepted_none (g.L.Listener.accepts c.args.listener.now),
  [],
  refl,
  NoneCame,
  none_come IsNewSocket c.args.hub.now c.args.next.now c.args.table.now.slots c.args.refused.now c.law_runs_follow.ensures.none,
)

pub loop-accepted-preserved : goal.loop-accepted-preserved
loop-accepted-preserved g c =
    let before = c.loop-accepted.invariant in (
      admits_table c.loop-accepted.hub c.admit.new.hub c.loop-accepted.next c.admit.new.next c.loop-accepted.table.slots c.admit.new.table.slots
          (IsNewSocket c.in-Accepted.accepted) c.admit.ensures.0 before.0,
      accepted_one c.loop-accepted._accepted (g.L.Listener.accepts c.args.listener.now) (g.L.Listener.accepts c.loop-accepted.listener)
          (g.L.Listener.accepts c.accept.new.self) before.1 c.in-Accepted.ensures.counted,
      before.2 ++ c.in-Accepted.accepted ∷ [],
      length-append before.2 (c.in-Accepted.accepted ∷ []) ∙ ap (λ n. n + 1) before.3,
      OneCame before.2 c.in-Accepted.accepted c.loop-accepted.listener c.accept.new.self before.4 c.in-Accepted.ensures.answers,
      one_comes IsNewSocket c.args.hub.now c.args.next.now c.args.table.now.slots c.args.refused.now c.law_runs_follow.ensures.follow before.2
          c.in-Accepted.accepted c.loop-accepted.hub c.admit.new.hub c.loop-accepted.next c.admit.new.next c.loop-accepted.table.slots
          c.admit.new.table.slots c.loop-accepted.refused c.admit.new.refused before.5 c.admit.ensures,
    )

pub returns-clause-accepts : goal.returns-clause-accepts
returns-clause-accepts g c =
    let held = c.loop-accepted.invariant in
    let counted = held.1 ∙ ap (λ n. after_accepted n (g.L.Listener.accepts c.args.listener.now)) (sym held.3) in record {
      came = held.2;
      before = c.loop-accepted.listener;
      gave = held.4;
      ended = refl;
      why = (omega (arith, held.3, c.loop-accepted-test.false, c.loop-accepted.auto._accepted-end), counted);
      became = held.5;
    }

pub returns-in-Blocked-clause-accepts : goal.returns-in-Blocked-clause-accepts
returns-in-Blocked-clause-accepts g c =
    let held = c.loop-accepted.invariant in
    let counted = held.1 ∙ ap (λ n. after_accepted n (g.L.Listener.accepts c.args.listener.now)) (sym held.3) in record {
      came = held.2;
      before = c.loop-accepted.listener;
      gave = held.4;
      ended = c.in-Blocked.ensures.answers;
      why = (omega (arith, held.3, c.loop-accepted-test.true), c.in-Blocked.ensures.counted ∙ ap (after_accept Blocked) counted);
      became = held.5;
    }

pub returns-in-Failed-clause-accepts : goal.returns-in-Failed-clause-accepts
returns-in-Failed-clause-accepts g c =
    let held = c.loop-accepted.invariant in
    let counted = held.1 ∙ ap (λ n. after_accepted n (g.L.Listener.accepts c.args.listener.now)) (sym held.3) in record {
      came = held.2;
      before = c.loop-accepted.listener;
      gave = held.4;
      ended = c.in-Failed.ensures.answers;
      why = (omega (arith, held.3, c.loop-accepted-test.true), c.in-Failed.ensures.counted ∙ ap (after_accept Failed) counted);
      became = held.5;
    }
