-- How few postings of a key there are, none of which makes the next redundant.
use Rattle.std.proofs.Common.{◌≡◌, ◌+◌, ◌*◌, ◌≤◌, ℕ, length, Bool, true, false, ◌&&◌, ◌||◌, List, []}
use Rattle.std.proofs.Common.{◌∷◌, refl, arith}
use Rattle.std.proofs.lemmas.Bool.{and_parts}
use Rattle.std.proofs.lemmas.Bool.Decides.{nat_tests}
use Rattle.std.specs.List.{AllByRecursion, list_all}
use Rattle.std.specs.Prelude.{not, nat_le, nat_lt, if◌then◌else◌}
use Rattle.model.specs.Map.{is_same_key}
use Rattle.pivot_check.specs.Kept.{Reach}
use Rattle.pivot_check.specs.Postings.{Posting}
use Rattle.pivot_check.specs.Redundant.{FewPostingsLaw, are_of_one_key, are_spaced, is_redundant, is_undivided}

-- 1 where that holds
abbrev one : Bool → ℕ
one f = if f then 1 else 0

-- how many began at that number or later
abbrev begun_from : ℕ → List ℕ → ℕ
begun_from n [] = 0
begun_from n (b ∷ bs) = one (nat_le n b) + begun_from n bs

-- fewer began at a later number or after it
fewer : (n m : ℕ) (bs : List ℕ) → nat_le n m ≡ true → begun_from m bs ≤ begun_from n bs
fewer n m [] h = omega arith
fewer n m (b ∷ bs) h = grind (arith, nat_tests, fewer n m bs h)

-- and one fewer at least where somebody began between
one_fewer : (n m : ℕ) (bs : List ℕ) → nat_le n m ≡ true → list_all (λ b. nat_lt b n || nat_le m b) bs ≡ false
    → begun_from m bs + 1 ≤ begun_from n bs
one_fewer n m [] h f = grind arith
one_fewer n m (b ∷ bs) h f = grind (arith, nat_tests, fewer n m bs h, one_fewer n m bs h)

all_counted : (n : ℕ) (bs : List ℕ) → begun_from n bs ≤ length bs
all_counted n [] = omega arith
all_counted n (b ∷ bs) = grind (arith, all_counted n bs)

-- one posting more, which the next one isn't needed for: somebody began between them, or the next one has the flag alone
one_more : (f g undivided : Bool) (len p q : ℕ) → len + one g ≤ 2 * q + 2 → q ≤ p → (undivided ≡ false → q + 1 ≤ p)
    → ((f || not g) && undivided) ≡ false → len + 1 + one f ≤ 2 * p + 2
one_more true g true len p q h low apart needed = grind arith
one_more true g false len p q h low apart needed = let more = apart refl in grind arith
one_more false true undivided len p q h low apart needed = grind arith
one_more false false true len p q h low apart needed = grind arith
one_more false false false len p q h low apart needed = let more = apart refl in grind arith

-- of two postings of one key, of which the first has no greater number and doesn't make the second redundant
needed_behind : (same order flags undivided : Bool) → same ≡ true → order ≡ true → not (same && (order && (flags && undivided))) ≡ true
    → (flags && undivided) ≡ false
needed_behind same order flags undivided s o h = grind (arith, nat_tests)

apart : (reach : Reach) (n m : ℕ) → nat_le n m ≡ true → m ≤ reach.since → is_undivided reach n m ≡ false
    → begun_from m reach.begins + 1 ≤ begun_from n reach.begins
apart reach n m order upto f = one_fewer n m reach.begins order (grind (arith, nat_tests))

few_from : (reach : Reach) (p : Posting) (ps : List Posting) → are_of_one_key (p ∷ ps) ≡ true → AllByRecursion (λ q. q.number ≤ reach.since) (p ∷ ps)
    → are_spaced reach (p ∷ ps) ≡ true → length (p ∷ ps) + one p.has_earlier_target ≤ 2 * begun_from p.number reach.begins + 2
few_from reach p [] keyed upto spaced = grind arith
few_from reach p (q ∷ ps) keyed upto spaced =
    let keys = and_parts (is_same_key p.key q.key) (nat_le p.number q.number && are_of_one_key (q ∷ ps)) keyed in
    let numbers = and_parts (nat_le p.number q.number) (are_of_one_key (q ∷ ps)) keys.1 in
    let behind = and_parts (not (is_redundant reach p q)) (are_spaced reach (q ∷ ps)) spaced in
    let flags = p.has_earlier_target || not q.has_earlier_target in
    let needed = needed_behind (is_same_key p.key q.key) (nat_le p.number q.number) flags (is_undivided reach p.number q.number) keys.0 numbers.0 behind.0 in
    let rest = few_from reach q ps numbers.1 upto.1 behind.1 in
    let fewer_from = fewer p.number q.number reach.begins numbers.0 in
    let between = apart reach p.number q.number numbers.0 upto.1.0 in
    let found = one_more p.has_earlier_target q.has_earlier_target (is_undivided reach p.number q.number) (length (q ∷ ps))
    (begun_from p.number reach.begins) (begun_from q.number reach.begins) rest fewer_from between needed in
    omega (arith, found)

pub few_postings : FewPostingsLaw
few_postings reach [] keyed upto spaced = omega arith
few_postings reach (p ∷ ps) keyed upto spaced =
    let few = few_from reach p ps keyed upto spaced in
    let all = all_counted p.number reach.begins in
    omega (arith, few, all)
