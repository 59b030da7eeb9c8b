use Rattle.engine.proofs.begins.copy_begins.Goals as goal
use Rattle.std.proofs.Common.{◌≡◌, List, ◌++◌, ◌∷◌, [], map, arith}
use Rattle.std.proofs.lemmas.Grind.{common_steps}
use Rattle.std.proofs.lemmas.List.{length_push, map-append, take_more_set}

-- what was gone over, and what is left
one_on : {X Y : Type 0} (f : X → Y) (xs : List X) (x : X) (left rest all : List Y) → left ≡ f x ∷ rest → map f xs ++ left ≡ all
    → map f (xs ++ x ∷ []) ++ rest ≡ all
one_on f xs x left rest all e h = grind (arith, common_steps, map-append f xs (x ∷ []))

pub loop-transaction-preserved-then-count-lt-OPEN_MAX : goal.loop-transaction-preserved-then-count-lt-OPEN_MAX
loop-transaction-preserved-then-count-lt-OPEN_MAX c =
    let pushed = length_push c.loop-transaction.yielded c.in-Some.transaction in
    record {
      few = omega (arith, c.if-count-lt-OPEN_MAX.true);
      counted = λ few. (let before = c.loop-transaction.invariant.counted (omega (arith, pushed, few)) in omega (arith, pushed, before));
      so_far = λ few. grind (arith, common_steps, pushed, take_more_set, map-append);
      all = one_on (λ t. t.now) c.loop-transaction.yielded c.in-Some.transaction c.loop-transaction.transaction-iterator c.next.new.self _
          c.in-Some.ensures.steps c.loop-transaction.invariant.all;
    }

pub loop-transaction-preserved : goal.loop-transaction-preserved
loop-transaction-preserved c =
    let pushed = length_push c.loop-transaction.yielded c.in-Some.transaction in
    record {
      few = c.loop-transaction.invariant.few;
      counted = λ few. (let before = c.loop-transaction.invariant.counted (omega (arith, pushed, few)) in omega (
        arith,
        pushed,
        before,
        c.if-count-lt-OPEN_MAX.false,
        few,
      ));
      so_far = λ few. (let before = c.loop-transaction.invariant.counted (omega (arith, pushed, few)) in absurd
          (omega (arith, pushed, before, c.if-count-lt-OPEN_MAX.false, few)));
      all = one_on (λ t. t.now) c.loop-transaction.yielded c.in-Some.transaction c.loop-transaction.transaction-iterator c.next.new.self _
          c.in-Some.ensures.steps c.loop-transaction.invariant.all;
    }
