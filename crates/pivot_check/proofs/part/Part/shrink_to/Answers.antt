use Rattle.pivot_check.proofs.part.Part.shrink_to.Goals as goal
use Rattle.std.proofs.Common.{◌≡◌, ℕ, zero, suc, true, List, [], ◌∷◌, take, length, refl, ap, ◌∙◌, arith}
use Rattle.std.proofs.lemmas.Bool.{and_from, and_parts}
use Rattle.std.proofs.lemmas.List.{drop_all}
use Rattle.pivot_check.specs.Bounds.{are_from_bound}
use Rattle.pivot_check.specs.Postings.{Posting, keys_rise}
use Rattle.pivot_check.specs.declared.bound.Bound.{Bound}

front_from : (b : Bound) (n : ℕ) (ps : List Posting) → are_from_bound b ps ≡ true → are_from_bound b (take n ps) ≡ true
front_from b zero ps h = refl
front_from b (suc n) [] h = refl
front_from b (suc n) (p ∷ ps) h = and_from _ _ (and_parts _ _ h).0 (front_from b n ps (and_parts _ _ h).1)

pub invariant_of-self : goal.invariant_of-self
invariant_of-self c =
    let part = c.args.self.now in
    let items = c.shrink_to-2.ensures.items ∙ c.truncate.ensures.items in
    let none : length c.shrink_to.new.self.items ≡ 0 = ap length (c.shrink_to.ensures.items ∙ c.clear.ensures.items) in
    record {
      within = omega arith;
      rising = ap keys_rise (drop_all c.len-self.result c.shrink_to-2.new.self.items (omega arith));
      bounded = ap (are_from_bound part.bound) items ∙ front_from part.bound c.args.most part.written.items part.bounded;
      blocks = λ i b lt. absurd (omega (arith, none));
      whole = omega (arith, none);
    }
