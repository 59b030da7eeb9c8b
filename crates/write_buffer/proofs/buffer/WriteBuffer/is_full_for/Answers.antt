use Rattle.write_buffer.proofs.buffer.WriteBuffer.is_full_for.Goals as goal
use Rattle.std.proofs.Common.{◌≤◌, length, ap, ◌∙◌, arith}
use Rattle.write_buffer.proofs.BufferLaws.{full_by}
use Rattle.write_buffer.specs.Buffered.{is_full_for_key}

pub returns-then-len-ge-WRITES_MAX-clause-full : goal.returns-then-len-ge-WRITES_MAX-clause-full
returns-then-len-ge-WRITES_MAX-clause-full c =
    let ws = c.args.self.now in
    let many : 64 ≤ length ws = omega (arith, c.if-len-ge-WRITES_MAX.true, c.len.ensures, ap length c.self.view_is, c.self.inside.entries.ok.0) in
    c.is_err.ensures.value
    ∙ full_by ws c.bytes.result.now c.search.result c.search.ensures.found c.search.ensures.absent many
    ∙ ap (is_full_for_key ws) c.bytes.ensures.bytes
