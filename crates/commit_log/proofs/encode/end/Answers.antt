use Rattle.commit_log.proofs.encode.end.Goals as goal
use Rattle.std.proofs.Common.{◌++◌, ◌-◌, ◌*◌, ◌∙◌, ℕ, take, replicate, ap, sym, arith}
use Rattle.commit_log.proofs.Encoding.{digest_made, sectors_are, padded_made}

pub returns : goal.returns
returns c =
    let size = c.sectors_for.result * 512 in
    let size_is = ap (λ (n : ℕ). n * 512) c.sectors_for.ensures in
    record {
      body = λ writes is. c.pad.ensures.items ∙ ap (λ (n : ℕ). take size c.seal-digest.new.body.items ++ replicate (size - n) 0) c.seal-digest.new.body.ok.0
          ∙ padded_made c.args.before.now c.args.index c.args.len writes c.args.body.now.items c.seal-digest.result c.seal-digest.new.body.items is
          c.seal-digest.ensures.digest c.seal-digest.ensures.body size size_is;
      sectors = λ writes is. sym c.pad.new.body.ok.0 ∙ c.pad.ensures.len ∙ size_is
          ∙ sectors_are c.args.before.now c.args.index c.args.len writes c.args.body.now.items c.seal-digest.result c.seal-digest.new.body.items is
          c.seal-digest.ensures.digest c.seal-digest.ensures.body;
      digest = λ writes is. digest_made c.args.before.now c.args.index c.args.len writes c.args.body.now.items c.seal-digest.result c.seal-digest.new.body.items
          is c.seal-digest.ensures.digest c.seal-digest.ensures.body;
      capacity = omega (arith, c.seal-digest.ensures.capacity, c.pad.ensures.capacity);
    }
