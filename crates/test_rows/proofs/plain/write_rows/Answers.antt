use Rattle.test_rows.proofs.plain.write_rows.Goals as goal
use Rattle.std.proofs.Common.{refl}
use Rattle.std.proofs.lemmas.Iterator.Consumers.{YieldsList-from_first}
use Rattle.model.specs.KeyBytes.{pair_bytes}
use Rattle.test_rows.specs.declared.plain.Lent.{Lent}

pub write_pairs-requires : goal.write_pairs-requires
write_pairs-requires c κs =
    let lent : Lent = record { rows = c.args.rows } in
    ((refl, tt), (tt, (tt, (c.args.rows.now, (refl, (YieldsList-from_first pair_bytes (λ (l : Lent). l.rows.now) {s = lent} c.args.rows.now refl).runs)))))
