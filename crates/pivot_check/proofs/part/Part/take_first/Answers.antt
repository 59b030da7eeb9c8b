use Rattle.pivot_check.proofs.part.Part.take_first.Goals as goal
use Rattle.std.proofs.Common.{◌+◌, ◌*◌, drop, ap, sym, ◌∙◌, arith}
use Rattle.std.proofs.lemmas.List.{drop-drop, drop-set-lt, length-set}
use Rattle.pivot_check.proofs.Passing.{set_from, set_all}
use Rattle.pivot_check.proofs.Walks.{rest_rises}
use Rattle.pivot_check.specs.Postings.{Posting, keys_rise}

pub invariant_of-self : goal.invariant_of-self
invariant_of-self c =
    let part = c.args.self.now in
    let ps = part.written.items in
    let i = part.start in
    let was = c.index_mut.result.now in
    let is = c.take-written.new.self in
    let number = c.take-written.ensures.number ∙ ap (λ (p : Posting). p.number) c.index_mut.ensures.value in
    let flag = c.take-written.ensures.flag ∙ ap (λ (p : Posting). p.has_earlier_target) c.index_mut.ensures.value in
    record {
      within = omega (arith, c.requires, length-set ps i is);
      rising = ap keys_rise (drop-set-lt (i + 1) ps i is (omega arith) ∙ sym (drop-drop 1 i ps)) ∙ rest_rises (drop i ps) 1 part.rising;
      bounded = set_all part.bound ps i is was number flag part.bounded;
      blocks = λ j b lt. set_from _ ps i is was (64 * j) 64 number flag (part.blocks j b lt);
      whole = omega (arith, part.whole, length-set ps i is);
    }
