use Rattle.test_layers.proofs.replies.write_map.Goals as goal
use Rattle.std.proofs.Common.{length, ap, sym, ◌∙◌, refl}
use Rattle.std.proofs.lemmas.Iterator.Consumers.{YieldsList-from_first}
use Rattle.model.specs.KeyBytes.{pair_bytes}

pub write_pairs-requires : goal.write_pairs-requires
write_pairs-requires c κs =
    let all = c.pairs.result in
    ((refl, tt), (tt, (tt, (all, (ap length c.pairs.ensures ∙ sym c.len.ensures.len, (YieldsList-from_first pair_bytes (λ p. p) all refl).runs)))))
