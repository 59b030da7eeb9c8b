-- What is left of postings once those up to a number are dropped.
use Rattle.std.proofs.Common.{◌≡◌, ◌≤◌, ◌<◌, ◌+◌, ◌*◌, ℕ, Bool, true, List, [], ◌∷◌, ◌++◌, length}
use Rattle.std.proofs.Common.{length-drop, take, drop, refl, sym, ap, ◌∙◌, arith}
use Rattle.std.proofs.lemmas.Bool.{and_from, and_parts}
use Rattle.std.proofs.lemmas.Bool.Decides.{nat_tests}
use Rattle.std.proofs.lemmas.List.{take-append-drop, length-append}
use Rattle.std.proofs.lemmas.List.Elements.{filter-append, recursion_from_All}
use Rattle.std.proofs.lemmas.List.Folds.{list_all-append}
use Rattle.std.proofs.lemmas.List.Sums.{length-filter}
use Rattle.std.specs.List.{list_all, AllByRecursion}
use Rattle.std.specs.Ordering.{is_le}
use Rattle.std.specs.Prelude.{nat_lt, ◌/◌, All, count_by, min}
use Rattle.model.specs.Map.{key_cmp}
use Rattle.pivot_check.specs.Bounds.{is_from_bound, are_from_bound, bound_count}
use Rattle.pivot_check.specs.Inside.{in_run, postings_in, is_run_later}
use Rattle.pivot_check.specs.Parts.{remaining, left}
use Rattle.pivot_check.specs.Postings.{Posting, keys_rise, are_upto, are_later, later_than}
use Rattle.pivot_check.specs.declared.bound.Bound.{Bound}
use Rattle.pivot_check.specs.declared.part.Part.{Part}
use Rattle.pivot_check.specs.declared.run.WrittenRun.{WrittenRun}

abbrev later : ℕ → Posting → Bool
later o p = nat_lt o p.number

-- ---- lists

pub count_is : (o : ℕ) (ps : List Posting) → count_by (λ p. nat_lt o p.number) ps ≡ length (later_than o ps)
count_is o ps = sym (length-filter (later o) ps)

pub fewer : (o : ℕ) (ps : List Posting) → length (later_than o ps) ≤ length ps
fewer o [] = omega arith
fewer o (p ∷ ps) = grind (arith, fewer o ps)

past : (xs ys : List Posting) → drop (length xs) (xs ++ ys) ≡ ys
past [] ys = refl
past (x ∷ xs) ys = past xs ys

-- those behind a place
pub later_from : (o s n : ℕ) (ps : List Posting) → n ≡ count_by (λ p. nat_lt o p.number) (take s ps) → drop n (later_than o ps) ≡ later_than o (drop s ps)
later_from o s n ps is =
    let whole : later_than o ps ≡ later_than o (take s ps) ++ later_than o (drop s ps) =
    ap (later_than o) (sym (take-append-drop s ps)) ∙ filter-append (later o) (take s ps) (drop s ps) in
    (λ i. drop ((is ∙ count_is o (take s ps)) i) (whole i)) ∙ past (later_than o (take s ps)) (later_than o (drop s ps))

pub later_within : (o s n : ℕ) (ps : List Posting) → n ≡ count_by (λ p. nat_lt o p.number) (take s ps) → n ≤ length (later_than o ps)
later_within o s n ps is =
    let whole : later_than o ps ≡ later_than o (take s ps) ++ later_than o (drop s ps) =
    ap (later_than o) (sym (take-append-drop s ps)) ∙ filter-append (later o) (take s ps) (drop s ps) in
    omega (arith, is, count_is o (take s ps), ap length whole, length-append (later_than o (take s ps)) (later_than o (drop s ps)))

pub all_later : (t : Posting → Bool) (o : ℕ) (ps : List Posting) → list_all t ps ≡ true → list_all t (later_than o ps) ≡ true
all_later t o [] h = refl
all_later t o (p ∷ ps) h = grind (arith, all_later t o ps)

pub rises_later : (o : ℕ) (ps : List Posting) → keys_rise ps ≡ true → keys_rise (later_than o ps) ≡ true
rises_later o [] h = refl
rises_later o (p ∷ ps) h = grind (arith, rises_later o ps, all_later (λ q. is_le (key_cmp p.key q.key)) o ps)

pub both_rise : (o : ℕ) (xs ys : List Posting) → keys_rise (xs ++ ys) ≡ true → keys_rise (later_than o xs ++ later_than o ys) ≡ true
both_rise o xs ys h = ap keys_rise (sym (filter-append (later o) xs ys)) ∙ rises_later o (xs ++ ys) h

pub bound_later : (o : ℕ) (b next : Bound) (ps : List Posting) → ((p : Posting) → o < p.number → is_from_bound b p ≡ true → is_from_bound next p ≡ true)
    → are_from_bound b ps ≡ true → are_from_bound next (later_than o ps) ≡ true
bound_later o b next [] keeps h = refl
bound_later o b next (p ∷ ps) keeps h = grind (arith, nat_tests, keeps p, bound_later o b next ps keeps)

pub upto_later : (last o : ℕ) (ps : List Posting) → are_upto last ps ≡ true → are_upto last (later_than o ps) ≡ true
upto_later last o [] h = refl
upto_later last o (p ∷ ps) h = grind (arith, nat_tests, upto_later last o ps)

-- three parts that were swept
pub all_parts : (o : ℕ) (xs ys zs xs' ys' zs' : List Posting) → xs' ≡ later_than o xs → ys' ≡ later_than o ys → zs' ≡ later_than o zs
    → xs' ++ (ys' ++ zs') ≡ later_than o (xs ++ (ys ++ zs))
all_parts o xs ys zs xs' ys' zs' first second third =
    (λ i. first i ++ (second i ++ third i))
    ∙ ap (λ l. later_than o xs ++ l) (sym (filter-append (later o) ys zs)) ∙ sym (filter-append (later o) xs (ys ++ zs))

pub left_is : (p : Part) → length (remaining p) ≡ left p
left_is p = length-drop p.start p.written.items

pub fewer_left : (o : ℕ) (p q : Part) → remaining q ≡ later_than o (remaining p) → left q ≤ left p
fewer_left o p q is = omega (arith, left_is p, left_is q, ap length is, fewer o (remaining p))

pub fewer_in : (o : ℕ) (p q : Part) → q.written.items ≡ later_than o p.written.items → length q.written.items ≤ length p.written.items
fewer_in o p q is = omega (arith, ap length is, fewer o p.written.items)

-- one more bound, where the block is whole
pub counted_more : (n room count block : ℕ) → block < n / 64 → count ≡ min block room → bound_count n room count ≡ min (block + 1) room
counted_more n room count block lt is =
    let whole : 64 * block + 64 ≤ n = omega arith in
    grind (arith, nat_tests)

-- ---- runs of later postings

later_drop : (o n : ℕ) (ps : List Posting) → are_later o ps ≡ true → are_later o (drop n ps) ≡ true
later_drop o n ps h = (and_parts _ _ (sym (list_all-append (later o) (take n ps) (drop n ps)) ∙ ap (are_later o) (take-append-drop n ps) ∙ h)).1

later_in_run : (o : ℕ) (r : WrittenRun) → is_run_later o r ≡ true → are_later o (in_run r) ≡ true
later_in_run o r h =
    let made = and_parts _ _ h in
    let both = and_parts _ _ made.1 in
    list_all-append (later o) (remaining r.made) (remaining r.first ++ remaining r.second)
    ∙ and_from _ _ (later_drop o r.made.start r.made.written.items made.0)
    (list_all-append (later o) (remaining r.first) (remaining r.second)
    ∙ and_from _ _ (later_drop o r.first.start r.first.written.items both.0) (later_drop o r.second.start r.second.written.items both.1))

by_runs : (o : ℕ) (rs : List WrittenRun) → AllByRecursion (λ r. is_run_later o r ≡ true) rs → are_later o (postings_in rs) ≡ true
by_runs o [] h = refl
by_runs o (r ∷ rs) h = list_all-append (later o) (in_run r) (postings_in rs) ∙ and_from _ _ (later_in_run o r h.0) (by_runs o rs h.1)

pub later_in_runs : (o : ℕ) (rs : List WrittenRun) → All (λ r. is_run_later o r ≡ true) rs → are_later o (postings_in rs) ≡ true
later_in_runs o rs h = by_runs o rs (recursion_from_All (λ r. is_run_later o r ≡ true) rs h)
