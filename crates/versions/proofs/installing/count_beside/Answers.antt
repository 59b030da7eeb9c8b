use Rattle.versions.proofs.installing.count_beside.Goals as goal
use Rattle.std.proofs.Common.{◌≡◌, false, [], length, get_or, None, sym, ap, ◌∙◌, arith}
use Rattle.std.proofs.lemmas.List.Sums.{prefix_len_is}
use Rattle.model.specs.Map.{Bytes, KeyWrite}
use Rattle.sorted_pages.specs.Pages.{is_together}

pub returns-then-not-is_placed_in : goal.returns-then-not-is_placed_in
returns-then-not-is_placed_in c = λ k at.
    let ws = c.args.writes.now in
    let ps = c.args.chains.now.pages in
    let w = c.index-writes-i.result in
    let away : is_together k (get_or ws c.loop-i.i w).0 ps ≡ false =
    ap (λ (v : KeyWrite). is_together k v.0 ps) (sym c.index-writes-i.is)
    ∙ ap (λ (b : Bytes). is_together k b ps) (sym c.lend_key.ensures)
    ∙ sym (c.is_placed_in.ensures k at) ∙ c.if-not-is_placed_in.true in
    sym (prefix_len_is (λ (v : KeyWrite). is_together k v.0 ps) ws c.loop-i.i w (omega arith) (λ j lt. c.loop-i.invariant k at j w lt) (λ lt. away))

pub returns : goal.returns
returns c = λ k at.
    let ws = c.args.writes.now in
    let ps = c.args.chains.now.pages in
    let d : KeyWrite = ([], None) in
    sym (prefix_len_is (λ (v : KeyWrite). is_together k v.0 ps) ws (length ws) d (omega arith)
    (λ j lt. c.loop-i.invariant k at j d (omega (arith, c.loop-i-test.false))) (λ lt. absurd (omega arith)))
