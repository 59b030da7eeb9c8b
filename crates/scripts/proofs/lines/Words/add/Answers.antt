use Rattle.scripts.proofs.lines.Words.add.Goals as goal
use Rattle.std.proofs.Common.{◌<◌, ◌++◌, ◌∷◌, [], List, ℕ, length, ap, ◌∙◌, arith}
use Rattle.resp.proofs.Lent.{lent_more}

pub returns-clause-added : goal.returns-clause-added
returns-clause-added c is_true =
    let words = c.self.inside.parts in
    let count = c.self.inside.count in
    let room : count < length words = omega (arith, c.self.told, c.self.invariant) in
    lent_more words count c.args.word room ∙ ap (λ (xs : List (List ℕ)). xs ++ c.args.word.now ∷ []) c.self.view_is
