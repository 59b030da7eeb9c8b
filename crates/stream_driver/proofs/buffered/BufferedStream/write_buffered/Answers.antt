use Rattle.stream_driver.proofs.buffered.BufferedStream.write_buffered.Goals as goal
use Rattle.std.proofs.Common.{true, refl}
use Rattle.stream_driver.proofs.Buffering.{kept_buffered, wrote_buffered}

pub returns-in-Moved-clause-wrote : goal.returns-in-Moved-clause-wrote
returns-in-Moved-clause-wrote g c =
    let moved = c.in-Moved.ensures.moved in
    wrote_buffered (λ r. (moved r).received) (λ r. (moved r).departed) c.leave.new.self c.in-Moved.ensures.answered.0 c.as_slice.ensures
    c.in-Moved.ensures.within
    c.leave.ensures.bytes (λ r. (moved r).sent)

pub returns-in-Blocked-clause-wrote : goal.returns-in-Blocked-clause-wrote
returns-in-Blocked-clause-wrote g c =
    let moved = c.in-Blocked.ensures.moved in
    let kept = kept_buffered (λ r. (moved r).received) (λ r. (moved r).departed) c.args.self.now.has_failed (λ r. (moved r).sent) in
    rw c.in-Blocked.is (record { kept = kept; why = (refl, c.in-Blocked.ensures.answered, refl) })

pub returns-in-Failed-clause-wrote : goal.returns-in-Failed-clause-wrote
returns-in-Failed-clause-wrote g c =
    let moved = c.in-Failed.ensures.moved in
    let kept = kept_buffered (λ r. (moved r).received) (λ r. (moved r).departed) true (λ r. (moved r).sent) in
    rw c.in-Failed.is (record { kept = kept; why = (refl, c.in-Failed.ensures.answered, refl) })
