-- Runs that answer as others do.
use Rattle.std.proofs.Common.{◌≡◌, ◌≤◌, ◌<◌, ◌+◌, ℕ, Bool, true, refl, List, [], ◌∷◌, ◌++◌, sym, ap, ◌∙◌, arith}
use Rattle.std.proofs.lemmas.Bool.{leb-true}
use Rattle.std.proofs.lemmas.Bool.Decides.{nat_tests}
use Rattle.std.specs.Prelude.{max, nat_le}
use Rattle.model.specs.Map.{Bytes}
use Rattle.last_readers.specs.Inside.{run_of, runs_in}
use Rattle.last_readers.specs.Readers.{greatest_at}
use Rattle.last_readers.specs.Steps.{StepValue, cut, is_run_from, number_in, steps_from}
use Rattle.last_readers.specs.declared.run.ReadRun.{ReadRun}

-- at each key the numbers are the same to whoever asks that began at a number of these, where those up to it count as
-- none
abbrev pub ReadersAgree : (ℕ → Bool) → List ReadRun → List ReadRun → Type 0
ReadersAgree begins new old = (b : ℕ) → begins b ≡ true → (k : Bytes)
    → cut b (greatest_at (runs_in new) k) ≡ cut b (greatest_at (runs_in old) k)

pub greatest-append : (rs qs : List ReadRun) (k : Bytes)
    → greatest_at (runs_in (rs ++ qs)) k ≡ max (greatest_at (runs_in rs) k) (greatest_at (runs_in qs) k)
greatest-append [] qs k = omega arith
greatest-append (r ∷ rs) qs k = let rest = greatest-append rs qs k in omega (arith, rest)

one_of_three : (o m a b n : ℕ) → cut o a ≡ cut o b → cut o (max m (max a n)) ≡ cut o (max m (max b n))
one_of_three o m a b n same = grind (arith, nat_tests)

pub readers_agree_between : (begins : ℕ → Bool) (front xs ys behind : List ReadRun) → ReadersAgree begins xs ys
    → ReadersAgree begins (front ++ (xs ++ behind)) (front ++ (ys ++ behind))
readers_agree_between begins front xs ys behind same b asks k =
    let first = greatest_at (runs_in front) k in
    let last = greatest_at (runs_in behind) k in
    let all : (zs : List ReadRun)
    → greatest_at (runs_in (front ++ (zs ++ behind))) k ≡ max first (max (greatest_at (runs_in zs) k) last)
    = λ zs. greatest-append front (zs ++ behind) k ∙ ap (max first) (greatest-append zs behind k) in
    ap (cut b) (all xs)
    ∙ one_of_three b first (greatest_at (runs_in xs) k) (greatest_at (runs_in ys) k) last (same b asks k)
    ∙ sym (ap (cut b) (all ys))

-- the numbers of a run are above one that the least of them is above
pub from_more : (m n : ℕ) (ss : List StepValue) → m ≤ n → steps_from n ss ≡ true → steps_from m ss ≡ true
from_more m n [] le h = refl
from_more m n (s ∷ ss) le h = grind (arith, nat_tests, from_more m n ss le)

pub run_from_later : (o : ℕ) (r : ReadRun) → o < r.earliest → is_run_from (o + 1) (run_of r) ≡ true
run_from_later o r lt =
    let more = λ (ss : List StepValue). from_more (o + 1) r.earliest ss (omega arith) in
    let numbers = r.numbers in
    grind (arith, more r.first.items, more r.second.items, more r.made.items)

none_up_to : (o n : ℕ) → n ≤ o → cut o 0 ≡ cut o (max n 0)
none_up_to o n le = grind (arith, nat_tests)

pub no_old_readers : (o : ℕ) (r : ReadRun) → r.last ≤ o → ReadersAgree (nat_le o) [] (r ∷ [])
no_old_readers o r le b asks k =
    let upto = r.upto k in
    let low = leb-true o b asks in
    none_up_to b (number_in (run_of r) k) (omega arith)
