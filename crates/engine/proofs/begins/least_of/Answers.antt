use Rattle.engine.proofs.begins.least_of.Goals as goal
use Rattle.std.proofs.Common.{◌≡◌, ◌<◌, ◌≤◌, ◌+◌, ℕ, List, ◌++◌, ◌∷◌, [], Some, refl, arith, get_or, take, length}
use Rattle.std.proofs.lemmas.List.{take_more}
use Rattle.std.proofs.lemmas.List.Elements.{All-push, All-pop, All-weaker}
use Rattle.std.specs.Prelude.{min}
use Rattle.engine.specs.Least.{IsLeast}

-- the least so far, and one more
least_more : (last : ℕ) (ns : List ℕ) (k n m : ℕ) → IsLeast (λ x. x) last (take k ns) n → k < length ns → m ≡ min n (get_or ns k 0)
    → IsLeast (λ x. x) last (take (k + 1) ns) m
least_more last ns k n m i within next = rw (take_more ns k 0 within) (record {
  below_last = omega (arith, i.below_last);
  below = All-push (λ y. m ≤ y) (take k ns) (get_or ns k 0) (All-weaker (λ y. n ≤ y) (λ y. m ≤ y) (λ y h. omega (arith, h)) (take k ns) i.below) (omega arith);
  greatest = λ j l a. (let p = All-pop (λ y. j ≤ y) (take k ns ++ get_or ns k 0 ∷ []) (take k ns) (Some (get_or ns k 0)) refl a in
      let g = i.greatest j l p.0 in omega (arith, g, p.1));
})

pub loop-number-init : goal.loop-number-init
loop-number-init c = record { below_last = omega arith; below = λ k d lt. absurd (omega (arith, lt)); greatest = λ k l a. l }

pub loop-number-preserved : goal.loop-number-preserved
loop-number-preserved c = least_more c.args.last c.args.numbers.now c.loop-number.number-index _ _ c.loop-number.invariant (omega arith) c.min-least.ensures
