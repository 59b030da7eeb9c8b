-- Two lists of postings made into one, from their heads, and what runs answer.
use Rattle.std.proofs.Common.{◌≡◌, ◌≤◌, ◌+◌, ℕ, Bool, true, List, [], ◌∷◌, ◌++◌, None, refl, sym, ap, ◌∙◌, arith}
use Rattle.std.proofs.lemmas.Bool.Decides.{nat_tests}
use Rattle.std.proofs.lemmas.List.{append_assoc, drop_all}
use Rattle.std.proofs.lemmas.List.Folds.{list_all-append}
use Rattle.std.specs.List.{AllByRecursion}
use Rattle.std.specs.Ordering.{is_le}
use Rattle.std.specs.Prelude.{max, nat_lt, is_some, not}
use Rattle.model.specs.Map.{Bytes, key_cmp}
use Rattle.pivot_check.proofs.Walks.{le_trans, rise_between}
use Rattle.pivot_check.specs.Agreeing.{lesser_none, least-append, least-runs}
use Rattle.pivot_check.specs.Inside.{in_run, postings_in}
use Rattle.pivot_check.specs.Merging.{are_keys_from, BeginsBelow}
use Rattle.pivot_check.specs.Parts.{remaining, left, remaining_in}
use Rattle.pivot_check.specs.Postings.{Posting, least, lesser, keys_rise, are_upto}
use Rattle.pivot_check.specs.declared.part.Part.{Part}
use Rattle.pivot_check.specs.declared.run.WrittenRun.{WrittenRun}

-- ---- one was moved from the head of xs behind ms

rises_left : (xs ys : List Posting) → keys_rise (xs ++ ys) ≡ true → keys_rise xs ≡ true
rises_left [] ys h = refl
rises_left (x ∷ xs) ys h = grind (arith, list_all-append (λ q. is_le (key_cmp x.key q.key)) xs ys, rises_left xs ys)

-- those before it are not above it
up_to : (ms xs : List Posting) (w : Posting) → keys_rise (ms ++ w ∷ xs) ≡ true → AllByRecursion (λ m. is_le (key_cmp m.key w.key) ≡ true) ms
up_to [] xs w h = tt
up_to (m ∷ ms) xs w h =
    grind (arith, list_all-append (λ q. is_le (key_cmp m.key q.key)) ms (w ∷ xs), up_to ms xs w)

pub moved_before : (ms xs xs' : List Posting) (w : Posting) → xs ≡ w ∷ xs' → keys_rise (ms ++ xs) ≡ true → keys_rise ((ms ++ w ∷ []) ++ xs') ≡ true
moved_before ms xs xs' w is h = ap keys_rise (append_assoc ms (w ∷ []) xs') ∙ ap (λ l. keys_rise (ms ++ l)) (sym is) ∙ h

pub moved_end : (ms xs xs' : List Posting) (w : Posting) → xs ≡ w ∷ xs' → keys_rise (ms ++ xs) ≡ true → keys_rise (ms ++ w ∷ []) ≡ true
moved_end ms xs xs' w is h = rises_left (ms ++ w ∷ []) xs' (moved_before ms xs xs' w is h)

pub moved_other : (ms xs xs' ys : List Posting) (w : Posting) → xs ≡ w ∷ xs' → keys_rise (ms ++ xs) ≡ true → BeginsBelow xs ys → keys_rise (ms ++ ys) ≡ true
    → keys_rise ((ms ++ w ∷ []) ++ ys) ≡ true
moved_other ms xs xs' ys w is h below g =
    ap keys_rise (append_assoc ms (w ∷ []) ys) ∙ rise_between w ms ys (up_to ms xs' w (ap (λ l. keys_rise (ms ++ l)) (sym is) ∙ h)) (below w xs' is) g

-- ---- three parts

three : (c : Posting → Bool) (ms xs ys : List Posting) → least c (ms ++ (xs ++ ys)) ≡ lesser (least c ms) (lesser (least c xs) (least c ys))
three c ms xs ys = least-append c ms (xs ++ ys) ∙ ap (lesser (least c ms)) (least-append c xs ys)

-- ---- the lesser head

from_head : (k : Bytes) (y : Posting) (ys : List Posting) → is_le (key_cmp k y.key) ≡ true → are_keys_from y.key ys ≡ true → are_keys_from k ys ≡ true
from_head k y [] le h = refl
from_head k y (z ∷ ys) le h = grind (arith, le_trans k y.key z.key le, from_head k y ys le)

pub begins_below : (xs xs' ys ys' : List Posting) (x y : Posting) → xs ≡ x ∷ xs' → ys ≡ y ∷ ys' → keys_rise ys ≡ true → is_le (key_cmp x.key y.key) ≡ true
    → BeginsBelow xs ys
begins_below xs xs' ys ys' x y xs_is ys_is h le w rest is = grind (arith, from_head w.key y ys')

-- ---- parts of which nothing is left

pub none_left : (p : Part) → left p ≡ 0 → remaining p ≡ []
none_left p none = drop_all p.start p.written.items (omega arith)

pub at_rest : (c : Posting → Bool) (made first second : Part) → left first + left second ≡ 0
    → least c (remaining_in made first second) ≡ least c (remaining made)
at_rest c made first second none =
    grind (arith, lesser_none, three c (remaining made) (remaining first) (remaining second), none_left first (omega arith), none_left second (omega arith))

-- two runs at rest, of which nothing was made yet
pub joined : (c : Posting → Bool) (was more : WrittenRun) (made first : Part) → left was.first + left was.second ≡ 0 → left more.first + left more.second ≡ 0
    → left made ≡ 0 → first ≡ was.made
    → least c (remaining_in made first more.made) ≡ lesser (least c (in_run was)) (least c (in_run more))
joined c was more made first rest rests none is =
    grind (
      arith,
      three c (remaining made) (remaining first) (remaining more.made),
      none_left made none,
      at_rest c was.made was.first was.second rest,
      at_rest c more.made more.first more.second rests,
    )

-- ---- numbers

upto_more : (last o : ℕ) (ps : List Posting) → last ≤ o → are_upto last ps ≡ true → least (λ p. nat_lt o p.number) ps ≡ None
upto_more last o [] le h = refl
upto_more last o (p ∷ ps) le h = grind (arith, nat_tests, upto_more last o ps le)

pub both_upto : (a b : ℕ) (ps qs rs : List Posting) → are_upto a ps ≡ true → are_upto b qs ≡ true
    → ((c : Posting → Bool) → least c rs ≡ lesser (least c ps) (least c qs)) → are_upto (max a b) rs ≡ true
both_upto a b ps qs rs h g same =
    ap (λ o. not (is_some o)) (same (λ p. nat_lt (max a b) p.number)
    ∙ (λ i. lesser (upto_more a (max a b) ps (omega arith) h i) (upto_more b (max a b) qs (omega arith) g i)))

-- ---- what a run answers

-- one run
one_agrees : (c : Posting → Bool) (r : WrittenRun) → least c (postings_in (r ∷ [])) ≡ least c (in_run r)
one_agrees c r = least-append c (in_run r) [] ∙ lesser_none (least c (in_run r))

-- one in the place of another
pub same_agrees : (c : Posting → Bool) (ps qs : List Posting) → least c ps ≡ least c qs → least c (ps ++ []) ≡ least c (qs ++ [])
same_agrees c ps qs same = least-append c ps [] ∙ ap (λ n. lesser n None) same ∙ sym (least-append c qs [])

-- one in the place of two
pub both_agree : (c : Posting → Bool) (first second : WrittenRun) (ps : List Posting) → least c ps ≡ lesser (least c (in_run first)) (least c (in_run second))
    → least c (ps ++ []) ≡ least c (postings_in (first ∷ second ∷ []))
both_agree c first second ps same =
    least-append c ps [] ∙ lesser_none (least c ps) ∙ same
    ∙ sym (least-append c (in_run first) (in_run second ++ []) ∙ ap (lesser (least c (in_run first))) (one_agrees c second))

-- one run more
pub pushed : (c : Posting → Bool) (rs : List WrittenRun) (r : WrittenRun)
    → least c (postings_in (rs ++ r ∷ [])) ≡ lesser (least c (postings_in rs)) (least c (in_run r))
pushed c rs r = least-runs c rs (r ∷ []) ∙ ap (lesser (least c (postings_in rs))) (one_agrees c r)
