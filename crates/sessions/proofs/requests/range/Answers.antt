use Rattle.sessions.proofs.requests.range.Goals as goal
use Rattle.std.proofs.Common.{refl}
use Rattle.model.specs.KeyBytes.{key_bytes, end_bytes}
use Rattle.model.specs.Operations.{Range}
use Rattle.sessions.proofs.RequestSteps.{executes_read, executes_refused, leads_same}

pub returns-in-Ok-clause-step : goal.returns-in-Ok-clause-step
returns-in-Ok-clause-step g c =
    let kept = rw c.in-Ok.is at c.range.follows.holds-at-none in
    let q = Range (key_bytes c.args.range.lo) (end_bytes c.args.range.hi) c.args.limit in
    let leads = leads_same c.args.engine.now c.range.follows.lender-at-none c.count_pages.new.self c.args.s q _ _ kept.0 c.count_pages.ensures.same in
    executes_read c.args.engine.now c.count_pages.new.self c.args.s q _ c.write_pairs-written.new.self c.write_pairs-written.result refl refl leads refl
    c.write_pairs-written.ensures.ok c.write_pairs-written.ensures.err

pub returns-in-Err-clause-step : goal.returns-in-Err-clause-step
returns-in-Err-clause-step g c =
    executes_refused c.args.engine.now c.range.follows.lender-at-none c.args.s (Range (key_bytes c.args.range.lo) (end_bytes c.args.range.hi) c.args.limit) _
    c.range.result c.in-Err.fault _ c.write_read_fault.result refl c.in-Err.is c.range.follows.holds-at-none.0 c.write_read_fault.ensures
