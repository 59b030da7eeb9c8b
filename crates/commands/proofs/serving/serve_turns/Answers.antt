use Rattle.commands.proofs.serving.serve_turns.Goals as goal
use Rattle.std.proofs.Common.{arith, ◌≡◌, ◌^◌, ◌-◌, subst}
use Rattle.commands.specs.Serving.{TakesTurns}
use Rattle.commands.specs.Serving.TakesTurns.{None, More}

pub loop-turn-init : goal.loop-turn-init
loop-turn-init g c = None

pub loop-turn-preserved : goal.loop-turn-preserved
loop-turn-preserved g c =
    More c.loop-turn._turn c.loop-turn.server c.next_turn.new.self c.loop-turn.reported c.is_stopped.result c.report_stop.new.reported c.in_default.field-0
    c.loop-turn.err c.report_stop.new.err
    c.loop-turn.invariant c.in_default.ensures c.is_stopped.ensures c.report_stop.ensures

pub returns-in-Err : goal.returns-in-Err
returns-in-Err g c =
    (c.loop-turn._turn, c.loop-turn.server, c.loop-turn.reported, c.loop-turn.invariant, (c.in-Err.error, c.in-Err.ensures, c.or_memory.ensures))

pub returns : goal.returns
returns g c =
    let all : c.loop-turn._turn ≡ 2 ^ 64 - 1 = omega (arith, c.loop-turn-test.false, c.loop-turn.auto._turn-end) in (
      c.loop-turn.reported,
      subst (λ n. TakesTurns g.S.Turns.turns g.S.Turns.stops g.E.Lines.writes c.args.server.now c.args.err.now n c.loop-turn.server
          c.loop-turn.reported
          c.loop-turn.err) all c.loop-turn.invariant,
    )
