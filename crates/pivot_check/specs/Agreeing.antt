-- Runs that answer as others do.
use Rattle.std.proofs.Common.{◌≡◌, ◌≤◌, ◌<◌, ℕ, Bool, true, List, [], ◌∷◌, ◌++◌, Option, None, refl, sym, ap, ◌∙◌}
use Rattle.std.proofs.Common.{arith}
use Rattle.std.proofs.lemmas.Bool.{and_from, leb-true}
use Rattle.std.proofs.lemmas.Bool.Decides.{nat_tests}
use Rattle.std.specs.Prelude.{nat_le}
use Rattle.model.specs.Map.{Bytes}
use Rattle.pivot_check.specs.Bounds.{are_from_bound}
use Rattle.pivot_check.specs.Inside.{number_bound, in_run, is_run_later, postings_in}
use Rattle.pivot_check.specs.Postings.{AnswerAs, Posting, are_later, asked_in, least, lesser, are_upto}
use Rattle.pivot_check.specs.declared.bound.Bound.{Bound}
use Rattle.pivot_check.specs.declared.run.WrittenRun.{WrittenRun}

-- whoever asks that began at a number of these, the runs' postings answer as those others do
abbrev pub PostingsAgree : (ℕ → Bool) → List WrittenRun → List WrittenRun → Type 0
PostingsAgree begins new old = AnswerAs begins (postings_in new) (postings_in old)

pub lesser_none : (o : Option ℕ) → lesser o None ≡ o
lesser_none o = grind arith

pub lesser_assoc : (o p q : Option ℕ) → lesser (lesser o p) q ≡ lesser o (lesser p q)
lesser_assoc o p q = grind arith

pub least-append : (c : Posting → Bool) (ps qs : List Posting) → least c (ps ++ qs) ≡ lesser (least c ps) (least c qs)
least-append c [] qs = refl
least-append c (p ∷ ps) qs = grind (arith, lesser_assoc, least-append c ps qs)

pub least-runs : (c : Posting → Bool) (rs qs : List WrittenRun)
    → least c (postings_in (rs ++ qs)) ≡ lesser (least c (postings_in rs)) (least c (postings_in qs))
least-runs c [] qs = refl
least-runs c (r ∷ rs) qs =
    grind (
      arith,
      lesser_assoc,
      least-append c (in_run r) (postings_in (rs ++ qs)),
      least-append c (in_run r) (postings_in rs),
      least-runs c rs qs,
    )

pub postings_agree_between : (begins : ℕ → Bool) (front xs ys behind : List WrittenRun) → PostingsAgree begins xs ys
    → PostingsAgree begins (front ++ (xs ++ behind)) (front ++ (ys ++ behind))
postings_agree_between begins front xs ys behind same b asks keys flagged =
    let asked = asked_in keys b flagged in
    let all : (zs : List WrittenRun)
    → least asked (postings_in (front ++ (zs ++ behind)))
    ≡ lesser (least asked (postings_in front))
    (lesser (least asked (postings_in zs)) (least asked (postings_in behind)))
    = λ zs. least-runs asked front (zs ++ behind)
    ∙ ap (lesser (least asked (postings_in front))) (least-runs asked zs behind) in
    all xs
    ∙ ap (λ n. lesser (least asked (postings_in front)) (lesser n (least asked (postings_in behind))))
    (same b asks keys flagged)
    ∙ sym (all ys)

-- the numbers of a run are above one that the least of them is above
later_by : (o : ℕ) (b : Bound) (ps : List Posting) → o < b.number → are_from_bound b ps ≡ true → are_later o ps ≡ true
later_by o b [] lt h = refl
later_by o b (p ∷ ps) lt h = grind (arith, nat_tests, later_by o b ps)

pub later_from_number : (o : ℕ) (r : WrittenRun) → o < number_bound r → is_run_later o r ≡ true
later_from_number o r lt =
    and_from _ _ (later_by o r.made.bound r.made.written.items (omega arith) r.made.bounded)
    (and_from _ _ (later_by o r.first.bound r.first.written.items (omega arith) r.first.bounded)
    (later_by o r.second.bound r.second.written.items (omega arith) r.second.bounded))

-- none has a number above one that all are up to
none_above : (b last : ℕ) (keys : Bytes → Bool) (flagged : Bool) (ps : List Posting) → last ≤ b
    → are_upto last ps ≡ true → least (asked_in keys b flagged) ps ≡ None
none_above b last keys flagged [] le h = refl
none_above b last keys flagged (p ∷ ps) le h = grind (arith, nat_tests, none_above b last keys flagged ps le)

pub no_old_postings : (o : ℕ) (r : WrittenRun) → r.last ≤ o → PostingsAgree (nat_le o) [] (r ∷ [])
no_old_postings o r le b asks keys flagged =
    let asked = asked_in keys b flagged in
    let low = leb-true o b asks in
    sym (least-append asked (in_run r) [] ∙ lesser_none (least asked (in_run r))
    ∙ none_above b r.last keys flagged (in_run r) (omega (arith, le, low)) r.upto)
