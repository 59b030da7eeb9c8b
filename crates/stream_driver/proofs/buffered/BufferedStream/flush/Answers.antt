use Rattle.stream_driver.proofs.buffered.BufferedStream.flush.Goals as goal
use Rattle.std.proofs.Common.{rules, ◌≢◌, [], sym, ◌∙◌}
use Rattle.stream_driver.proofs.Buffering.{flushed_blocked, flushed_failed, flushed_more, flushed_none}
use Rattle.stream_driver.proofs.Waiting.{short_then}
use Rattle.stream_driver.specs.Buffers.{buffered_in}

pub loop-self-init : goal.loop-self-init
loop-self-init g c = record { so_far = flushed_none c.args.self.now; short = (λ short. short, λ short. short) }

pub loop-self-preserved : goal.loop-self-preserved
loop-self-preserved g c =
    record {
      so_far = flushed_more c.loop-self.invariant.so_far c.in-Moved.ensures.wrote;
      short = short_then c.loop-self.invariant.short c.in-Moved.ensures.short;
    }

pub returns-in-Blocked : goal.returns-in-Blocked
returns-in-Blocked g c =
    let some : buffered_in c.loop-self.self.buffered ≢ [] = search rules in
    record {
      flushed = flushed_blocked c.loop-self.invariant.so_far c.in-Blocked.ensures.wrote;
      some = λ blocked none. some (sym c.in-Blocked.ensures.wrote.why.0 ∙ none);
      short = short_then c.loop-self.invariant.short c.in-Blocked.ensures.short;
    }

pub returns-in-Failed : goal.returns-in-Failed
returns-in-Failed g c =
    let some : buffered_in c.loop-self.self.buffered ≢ [] = search rules in
    record {
      flushed = flushed_failed c.loop-self.invariant.so_far some c.in-Failed.ensures.wrote;
      some = λ blocked none. some (sym c.in-Failed.ensures.wrote.why.0 ∙ none);
      short = short_then c.loop-self.invariant.short c.in-Failed.ensures.short;
    }
