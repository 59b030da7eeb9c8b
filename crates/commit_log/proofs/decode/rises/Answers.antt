use Rattle.commit_log.proofs.decode.rises.Goals as goal
use Rattle.std.proofs.Common.{◌∙◌, ◌-◌, List, ℕ, ap, sym, length, arith}
use Rattle.std.proofs.lemmas.Option.{get_or_from_slice_get, slice_get_within}
use Rattle.model.specs.Map.{KeyWrite, key_cmp}
use Rattle.commit_log.proofs.Parsing.{less_if, less_unless, rising_push}

pub returns-in-Some : goal.returns-in-Some
returns-in-Some c =
    let order = c.compare.ensures ∙ ap (λ (k : List ℕ). key_cmp c.in-Some.last.now.0 k) (c.bytes.ensures.bytes ∙ c.lend_key.ensures) in
    let there = sym c.in-Some.ensures.value in
    let last = λ (d : KeyWrite). ap (λ (w : KeyWrite). key_cmp w.0 c.args.write.now.0)
    (get_or_from_slice_get c.args.writes.now (length c.args.writes.now - 1) c.in-Some.last.now d there) in
    record {
      yes = λ is. rising_push c.args.writes.now c.args.write.now (λ d. last d ∙ sym order ∙ less_if c.compare.result (sym c.eq.ensures ∙ is));
      some = λ is. (let inside = slice_get_within c.args.writes.now (length c.args.writes.now - 1) c.in-Some.last.now there in omega arith);
      falls = λ is d below. less_unless c.compare.result (sym c.eq.ensures ∙ is) (order ∙ sym (last d) ∙ below);
    }
