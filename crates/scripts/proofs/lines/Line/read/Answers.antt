use Rattle.scripts.proofs.lines.Line.read.Goals as goal
use Rattle.std.proofs.Common.{[], ◌∷◌, length, take, drop, ◌-◌}
use Rattle.std.proofs.lemmas.Bool.Decides.{Decides-eqb}
use Rattle.std.proofs.lemmas.Slice.Eq.{starts_is, ends_is}
use Rattle.scripts.proofs.lines.Line.read.Goals.{then-starts_with-via-then-starts_with}
use Rattle.scripts.proofs.lines.Line.read.Goals.{then-starts_with-via-else-starts_with+then-ends_with}

pub returns-then-starts_with : goal.returns-then-starts_with
returns-then-starts_with c line is =
    let text = c.args.text.now in
    elim c.then-starts_with.branch [
      | then-starts_with-via-then-starts_with w ↦ is.first (drop 1 text)
          ((starts_is Decides-eqb text (32 ∷ []) c.starts_with.result c.starts_with.ensures.value).0 w.if-starts_with.true)
      | then-starts_with-via-else-starts_with+then-ends_with w ↦ is.last (take (length text - 1) text)
          ((ends_is Decides-eqb text (32 ∷ []) w.ends_with.result w.ends_with.ensures.value).0 w.if-ends_with.true)
    ]
