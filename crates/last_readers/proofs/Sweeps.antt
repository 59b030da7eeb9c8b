-- Steps of which numbers are forgotten.
use Rattle.std.proofs.Common.{◌≡◌, ◌≤◌, ◌<◌, ◌+◌, ℕ, suc, Bool, true, false, ◌&&◌, List, [], ◌∷◌, ◌++◌}
use Rattle.std.proofs.Common.{length, get_or, drop, map, refl, sym, ap, ◌∙◌, arith, None, Some}
use Rattle.std.proofs.Math.Seq.{drop-cons}
use Rattle.std.proofs.lemmas.Bool.{and_parts, and_from}
use Rattle.std.proofs.lemmas.Bool.Decides.{nat_tests}
use Rattle.std.proofs.lemmas.List.{append-nil, append_assoc, drop_all}
use Rattle.std.specs.Prelude.{max, if◌then◌else◌, Option}
use Rattle.model.proofs.KeyOrder.{same_keys}
use Rattle.model.specs.Map.{Bytes}
use Rattle.last_readers.proofs.StepLaws.{low, over_less, over_both, rises_left, rises_right}
use Rattle.last_readers.specs.Merging.{IsJoined, with_step, later}
use Rattle.last_readers.specs.Steps.{StepValue, number_from, number_at, merged_at, end_from, are_over}
use Rattle.last_readers.specs.Steps.{steps_rise, cut, cut_step, is_level_in, swept, is_from, is_step_from}
use Rattle.last_readers.specs.Steps.{steps_from, are_from, in_place_of, renumbered}
use Rattle.last_readers.specs.Sweeping.{IsInForce, IsTurned}

-- ---- numbers that count as none

pub cut_low : (o n : ℕ) → cut o n ≤ n
cut_low o n = grind (arith, nat_tests)

pub cut_again : (o n : ℕ) → cut o (cut o n) ≡ cut o n
cut_again o n = grind (arith, nat_tests)

cut_none : (o : ℕ) → cut o 0 ≡ 0
cut_none o = grind (arith, nat_tests)

cut_max : (o a b : ℕ) → max (cut o a) (cut o b) ≡ cut o (max a b)
cut_max o a b = grind (arith, nat_tests)

-- ---- the numbers of what was swept

-- none is in force, or the number below
abbrev IsInForceBelow : ℕ → Option ℕ → ℕ → Type 0
IsInForceBelow o None b = Unit {0}
IsInForceBelow o (Some n) b = n ≡ cut o b

-- a step that says no more than what is in force
levelled : (o n b : ℕ) (s : StepValue) (ss : List StepValue) (k : Bytes) → are_over s.key ss ≡ true → n ≡ cut o b → is_level_in (Some n) (cut_step o s) ≡ true
    → (now : ℕ) → now ≡ cut o (number_from s.above ss k) → now ≡ cut o (number_from b (s ∷ ss) k)
levelled o n b s ss k over is_in_force level now is =
    grind (arith, nat_tests, low s.above ss k, over_less k s.key ss, same_keys k s.key)

-- whichever it is
pick : {X : Type 0} (f : List StepValue → X) (c : Bool) (xs ys : List StepValue) (x : X) → (c ≡ true → f xs ≡ x) → (c ≡ false → f ys ≡ x)
    → f (if c then xs else ys) ≡ x
pick f true xs ys x front _ = front refl
pick f false xs ys x _ back = back refl

in_force_is : (o n : ℕ) (s : StepValue) → is_level_in (Some n) (cut_step o s) ≡ true → n ≡ cut o s.above
in_force_is o n s e = grind (arith, nat_tests)

-- a step that says more
unlevelled : (o b : ℕ) (s : StepValue) (ss ts : List StepValue) (k : Bytes) → number_from (cut o s.above) ts k ≡ cut o (number_from s.above ss k)
    → number_from (cut o b) (cut_step o s ∷ ts) k ≡ cut o (number_from b (s ∷ ss) k)
unlevelled o b s ss ts k is = grind (arith, is)

pub numbers : (o : ℕ) (in_force : Option ℕ) (b : ℕ) (ss : List StepValue) (k : Bytes) → steps_rise ss ≡ true → IsInForceBelow o in_force b
    → number_from (cut o b) (swept o in_force ss) k ≡ cut o (number_from b ss k)
numbers o in_force b [] k rise is_in_force = refl
numbers o None b (s ∷ ss) k rise is_in_force =
    unlevelled o b s ss (swept o (Some (cut o s.above)) ss) k (numbers o (Some (cut o s.above)) s.above ss k (and_parts _ _ rise).1 refl)
numbers o (Some n) b (s ∷ ss) k rise is_in_force =
    let rest = and_parts (are_over s.key ss) (steps_rise ss) rise in
    pick (λ l. number_from (cut o b) l k) (is_level_in (Some n) (cut_step o s)) _ _ _
    (λ e.
    let is = in_force_is o n s e in
    levelled o n b s ss k rest.0 is_in_force e _ (ap (λ m. number_from m (swept o (Some n) ss) k) (sym is_in_force ∙ is)
    ∙ numbers o (Some n) s.above ss k rest.1 is))
    (λ e. unlevelled o b s ss (swept o (Some (cut o s.above)) ss) k (numbers o (Some (cut o s.above)) s.above ss k rest.1 refl))

number_is_in_force : (o : ℕ) (in_force : Option ℕ) (xs ys : List StepValue) (k : Bytes) (b : ℕ) → IsInForce in_force xs ys
    → max (number_at xs k) (number_at ys k) ≡ cut o b → IsInForceBelow o in_force b
number_is_in_force o None xs ys k b is_in_force below = tt
number_is_in_force o (Some n) xs ys k b is_in_force below = is_in_force.0 ∙ (λ i. max (number_at (sym is_in_force.1 i) k) (number_at (sym is_in_force.2 i) k))
    ∙ below

pub merged_swept : (o : ℕ) (in_force : Option ℕ) (xs ys ts xs' ys' ts' : List StepValue) (k : Bytes) → steps_rise (xs ++ ts) ≡ true
    → steps_rise (ys ++ ts) ≡ true → xs' ≡ swept o (Some 0) xs → ys' ≡ swept o (Some 0) ys → ts' ≡ swept o in_force ts → IsInForce in_force xs' ys'
    → merged_at xs' ys' ts' k ≡ cut o (merged_at xs ys ts k)
merged_swept o in_force xs ys ts xs' ys' ts' k first second first_is second_is is is_in_force =
    let b = max (number_at xs k) (number_at ys k) in
    let one = λ (ss : List StepValue) (rise : steps_rise ss ≡ true). ap (λ n. number_from n (swept o (Some 0) ss) k) (sym (cut_none o))
    ∙ numbers o (Some 0) 0 ss k rise (sym (cut_none o)) in
    let below : max (number_at xs' k) (number_at ys' k) ≡ cut o b =
    (λ i. max ((ap (λ l. number_at l k) first_is ∙ one xs (rises_left xs ts first)) i)
    ((ap (λ l. number_at l k) second_is ∙ one ys (rises_left ys ts second)) i)) ∙ cut_max o (number_at xs k) (number_at ys k) in
    (λ i. number_from (below i) (is i) k) ∙ numbers o in_force b ts k (rises_right xs ts first) (number_is_in_force o in_force xs' ys' k b is_in_force below)

-- ---- they rise

over_swept : (x : Bytes) (o : ℕ) (in_force : Option ℕ) (ss : List StepValue) → are_over x ss ≡ true → are_over x (swept o in_force ss) ≡ true
over_swept x o in_force [] h = refl
over_swept x o in_force (s ∷ ss) h =
    let parts = and_parts _ _ h in
    pick (are_over x) (is_level_in in_force (cut_step o s)) _ _ true (λ e. over_swept x o in_force ss parts.1)
    (λ e. and_from _ _ parts.0 (over_swept x o (Some (cut o s.above)) ss parts.1))

one_rises : (o : ℕ) (in_force : Option ℕ) (ss : List StepValue) → steps_rise ss ≡ true → steps_rise (swept o in_force ss) ≡ true
one_rises o in_force [] h = refl
one_rises o in_force (s ∷ ss) h =
    let parts = and_parts (are_over s.key ss) (steps_rise ss) h in
    pick steps_rise (is_level_in in_force (cut_step o s)) _ _ true (λ e. one_rises o in_force ss parts.1)
    (λ e. and_from _ _ (over_swept s.key o (Some (cut o s.above)) ss parts.0) (one_rises o (Some (cut o s.above)) ss parts.1))

pub rises_swept : (o : ℕ) (in_force next : Option ℕ) (xs ts : List StepValue) → steps_rise (xs ++ ts) ≡ true
    → steps_rise (swept o in_force xs ++ swept o next ts) ≡ true
rises_swept o in_force next [] ts h = one_rises o next ts h
rises_swept o in_force next (x ∷ xs) ts h =
    let parts = and_parts (are_over x.key (xs ++ ts)) (steps_rise (xs ++ ts)) h in
    let over = and_parts (are_over x.key xs) (are_over x.key ts) (sym (over_both x xs ts) ∙ parts.0) in
    pick (λ l. steps_rise (l ++ swept o next ts)) (is_level_in in_force (cut_step o x)) _ _ true (λ e. rises_swept o in_force next xs ts parts.1)
    (λ e. and_from _ _
    (over_both (cut_step o x) (swept o (Some (cut o x.above)) xs) (swept o next ts)
    ∙ and_from _ _ (over_swept x.key o (Some (cut o x.above)) xs over.0) (over_swept x.key o next ts over.1))
    (rises_swept o (Some (cut o x.above)) next xs ts parts.1))

-- ---- which numbers they name

cut_from : (m n o k : ℕ) → m ≡ max n (o + 1) → is_from n k ≡ true → is_from m (cut o k) ≡ true
cut_from m n o k is h = grind (arith, nat_tests)

pub from_swept : (m n o : ℕ) (in_force : Option ℕ) (ss : List StepValue) → m ≡ max n (o + 1) → steps_from n ss ≡ true
    → steps_from m (swept o in_force ss) ≡ true
from_swept m n o in_force [] is h = refl
from_swept m n o in_force (s ∷ ss) is h =
    let parts = and_parts (is_step_from n s) (steps_from n ss) h in
    let own = and_parts (is_from n s.at) (is_from n s.above) parts.0 in
    pick (steps_from m) (is_level_in in_force (cut_step o s)) _ _ true (λ e. from_swept m n o in_force ss is parts.1)
    (λ e. and_from _ _ (and_from _ _ (cut_from m n o s.at is own.0) (cut_from m n o s.above is own.1))
    (from_swept m n o (Some (cut o s.above)) ss is parts.1))

number_is_from : (n b : ℕ) (ss : List StepValue) (k : Bytes) → is_from n b ≡ true → steps_from n ss ≡ true → is_from n (number_from b ss k) ≡ true
number_is_from n b [] k below h = below
number_is_from n b (s ∷ ss) k below h = grind (arith, number_is_from n s.above ss k)

end_is_from : (n b : ℕ) (ss : List StepValue) → is_from n b ≡ true → steps_from n ss ≡ true → is_from n (end_from b ss) ≡ true
end_is_from n b [] below h = below
end_is_from n b (s ∷ ss) below h = grind (arith, end_is_from n s.above ss)

later_is_from : (n o a b : ℕ) → is_from n a ≡ true → is_from n b ≡ true → is_from n (later o a b) ≡ true
later_is_from n o a b first second = grind (arith, nat_tests)

none_is_from : (n : ℕ) → is_from n 0 ≡ true
none_is_from n = refl

with_from : (n : ℕ) (m : StepValue) (b : ℕ) (ts : List StepValue) → is_step_from n m ≡ true → steps_from n ts ≡ true → steps_from n (with_step m b ts) ≡ true
with_from n m b ts own h = pick (steps_from n) _ ts (m ∷ ts) true (λ e. h) (λ e. and_from _ _ own h)

-- the greatest key was taken off both, and put in front of what was made
pub joined_from : (n o : ℕ) (xs xs' ys ys' ts ts' : List StepValue) (m : StepValue) (b : ℕ) → IsJoined o xs xs' ys ys' m → ts' ≡ with_step m b ts
    → are_from n xs ys ts ≡ true → are_from n xs' ys' ts' ≡ true
joined_from n o xs xs' ys ys' ts ts' m b j is h =
    let first = and_parts (steps_from n xs) (steps_from n ys && steps_from n ts) h in
    let others = and_parts (steps_from n ys) (steps_from n ts) first.1 in
    let at = ap (is_from n) j.at
    ∙ later_is_from n o _ _ (number_is_from n 0 xs m.key (none_is_from n) first.0) (number_is_from n 0 ys m.key (none_is_from n) others.0) in
    let above = ap (is_from n) j.above ∙ later_is_from n o _ _ (end_is_from n 0 xs (none_is_from n) first.0) (end_is_from n 0 ys (none_is_from n) others.0) in
    and_from _ _ (j.first.from n first.0) (and_from _ _ (j.second.from n others.0) (ap (steps_from n) is ∙ with_from n m b ts (and_from _ _ at above) others.1))

pub renumbered_are_from : (n : ℕ) (ss : List StepValue) → steps_from n (map (renumbered n) ss) ≡ true
renumbered_are_from n [] = refl
renumbered_are_from n (s ∷ ss) = and_from _ _ (and_from _ _ (placed s.at) (placed s.above)) (renumbered_are_from n ss)
  where
    placed : (was : ℕ) → is_from n (in_place_of n was) ≡ true
    placed was = grind (arith, nat_tests)

-- ---- one step after another, in place

-- those before a place were swept, and stand behind the others
pub record IsSoFar (o : ℕ) (first in_force : Option ℕ) (xs now : List StepValue) (i : ℕ) : Type 0 where
  pub kept : List StepValue
  pub items : now ≡ drop i xs ++ kept
  pub all : kept ++ swept o in_force (drop i xs) ≡ swept o first xs

pub so_far_none : (o : ℕ) (first : Option ℕ) (xs : List StepValue) → IsSoFar o first first xs xs 0
so_far_none o first xs = record { kept = []; items = sym (append-nil xs); all = refl }

unrolled : (o : ℕ) (in_force : Option ℕ) (s : StepValue) (ss : List StepValue) (c : Bool) → is_level_in in_force (cut_step o s) ≡ c
    → (if c then [] else cut_step o s ∷ []) ++ swept o (if c then in_force else Some (cut o s.above)) ss
    ≡ (if c then swept o in_force ss else cut_step o s ∷ swept o (Some (cut o s.above)) ss)
unrolled o in_force s ss true e = refl
unrolled o in_force s ss false e = refl

pub so_far_more : (o : ℕ) (first in_force later : Option ℕ) (xs now is : List StepValue) (i j : ℕ) → j ≡ suc i → i < length xs
    → IsTurned o in_force later now is → IsSoFar o first in_force xs now i → IsSoFar o first later xs is j
so_far_more o first in_force later xs now is i j next lt turned far =
    let s = turned.step in
    let front : drop i xs ≡ get_or xs i s ∷ drop j xs = drop-cons xs i s lt ∙ ap (λ n. get_or xs i s ∷ drop n xs) (sym next) in
    let both : s ∷ turned.rest ≡ get_or xs i s ∷ (drop j xs ++ far.kept) = sym turned.was ∙ far.items ∙ ap (λ l. l ++ far.kept) front in
    let own : s ≡ get_or xs i s = cc in
    let rest : turned.rest ≡ drop j xs ++ far.kept = cc in
    let c = is_level_in in_force (cut_step o s) in
    let back = if c then [] else cut_step o s ∷ [] in
    record {
      kept = far.kept ++ back;
      items = turned.is ∙ ap (λ l. l ++ back) rest ∙ append_assoc (drop j xs) far.kept back;
      all = append_assoc far.kept back (swept o later (drop j xs))
          ∙ ap (λ l. far.kept ++ l) (ap (λ t. back ++ swept o t (drop j xs)) turned.is_in_force ∙ unrolled o in_force s (drop j xs) c refl
          ∙ ap (λ x. swept o in_force (x ∷ drop j xs)) own ∙ ap (swept o in_force) (sym front))
          ∙ far.all;
    }

pub so_far_all : (o : ℕ) (first in_force : Option ℕ) (xs now : List StepValue) (i : ℕ) → length xs ≤ i → IsSoFar o first in_force xs now i
    → now ≡ swept o first xs
so_far_all o first in_force xs now i le far =
    let none : drop i xs ≡ [] = drop_all i xs le in
    far.items ∙ ap (λ l. l ++ far.kept) none ∙ sym (append-nil far.kept) ∙ ap (λ l. far.kept ++ swept o in_force l) (sym none) ∙ far.all
