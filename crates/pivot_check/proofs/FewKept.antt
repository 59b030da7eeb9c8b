-- How many postings are kept, by how many keys there are and how many may ask.
use Rattle.std.proofs.Common.{◌≡◌, ◌+◌, ◌*◌, ◌≤◌, ℕ, length, Bool, true, false, ◌&&◌, ◌||◌, List, [], ◌∷◌, ◌++◌, map}
use Rattle.std.proofs.Common.{refl, sym, ap, ◌∙◌, subst, arith, inl, inr, length-append, length-drop}
use Rattle.std.proofs.Math.Nat.{mul-le-mul_left, mul-le-mul_right}
use Rattle.std.proofs.lemmas.Bool.{and_parts, cases_Bool}
use Rattle.std.proofs.lemmas.Bool.Decides.{nat_tests}
use Rattle.std.proofs.lemmas.Grind.{common_steps}
use Rattle.std.proofs.lemmas.List.{append-nil}
use Rattle.std.specs.List.{AllByRecursion, filter, list_all, list_any}
use Rattle.std.specs.Ordering.{is_le, is_lt}
use Rattle.std.specs.Prelude.{not, nat_le, if◌then◌else◌}
use Rattle.merging_runs.proofs.RunSteps.{finished_left}
use Rattle.merging_runs.proofs.RunsAtRest.{runs_hold_little}
use Rattle.last_readers.specs.declared.runs.TheConstants.{BEGINS_MAX}
use Rattle.merging_runs.specs.AtRest.{AreAtRest, made_in}
use Rattle.merging_runs.specs.RunSizes.{is_finished}
use Rattle.model.proofs.Elements.{all-back, all-filter, all-front}
use Rattle.model.proofs.KeyOrder.{itself, same_keys, turned_greater, turned_less}
use Rattle.model.specs.Map.{Bytes, is_same_key, key_cmp}
use Rattle.pivot_check.proofs.FewPostings.{few_postings}
use Rattle.pivot_check.proofs.Joined.{none_left}
use Rattle.pivot_check.proofs.KeptShort.{all_above, numbers_behind, once_spaced, spaced_behind}
use Rattle.pivot_check.specs.FewKept.{AreKeptFor, AreOfKeys, FewKeptLaw, KeepsLittleLaw}
use Rattle.pivot_check.specs.Inside.{in_run, postings_in, written_run_size}
use Rattle.pivot_check.specs.KeptShort.{IsKeptShort, numbers_rise}
use Rattle.pivot_check.specs.Parts.{left, remaining}
use Rattle.pivot_check.specs.Postings.{Posting, are_upto, keys_rise}
use Rattle.pivot_check.specs.Reach.{Reach}
use Rattle.pivot_check.specs.Redundant.{are_of_one_key, are_spaced, is_redundant}
use Rattle.pivot_check.specs.declared.run.WrittenRun.{WrittenRun}

-- ---- the postings of one key

abbrev is_of : Bytes → Posting → Bool
is_of k p = is_same_key p.key k

abbrev those_of : Bytes → List Posting → List Posting
those_of k ps = filter (is_of k) ps

-- a key that isn't below another, and isn't the same, is above it
apart : (k j : Bytes) → is_le (key_cmp k j) ≡ true → is_same_key j k ≡ false → is_lt (key_cmp k j) ≡ true
apart k j le not_same = grind (arith, common_steps, turned_less j k, turned_greater j k, same_keys k j, itself k)

-- no posting is of a key below all others
none_of : (k : Bytes) (ps : List Posting) → list_all (λ q. is_lt (key_cmp k q.key)) ps ≡ true → those_of k ps ≡ []
none_of k [] h = refl
none_of k (q ∷ ps) h = grind (arith, common_steps, turned_less k q.key, none_of k ps)

-- behind a posting of another key, which isn't below this one, none is of this key
none_behind : (k : Bytes) (q : Posting) (ps : List Posting) → is_le (key_cmp k q.key) ≡ true → is_of k q ≡ false → keys_rise (q ∷ ps) ≡ true
    → those_of k (q ∷ ps) ≡ []
none_behind k q ps le not_same rise =
    let above = apart k q.key le not_same in
    let parts = and_parts (list_all (λ r. is_le (key_cmp q.key r.key)) ps) (keys_rise ps) rise in
    none_of k (q ∷ ps) (grind (arith, above, all_above k q.key ps above parts.0))

-- postings of one key by rising number, none of which makes the next redundant
abbrev AreOfOne : Reach → List Posting → Type 0
AreOfOne reach ps = (are_of_one_key ps ≡ true) × (are_spaced reach ps ≡ true)

same_of : (k : Bytes) (p q : Posting) → is_of k p ≡ true → is_of k q ≡ true → is_same_key p.key q.key ≡ true
same_of k p q h g = grind (arith, common_steps, same_keys p.key k, same_keys q.key k, itself k)

le_of : (k : Bytes) (p q : Posting) → is_of k p ≡ true → is_le (key_cmp p.key q.key) ≡ true → is_le (key_cmp k q.key) ≡ true
le_of k p q h le = grind (arith, common_steps, same_keys p.key k)

-- one posting more before others
one_before : (same order redundant one_key spaced : Bool) → same ≡ true → (not same || order) ≡ true → not redundant ≡ true → one_key ≡ true → spaced ≡ true
    → ((same && (order && one_key)) ≡ true) × ((not redundant && spaced) ≡ true)
one_before same order redundant one_key spaced s o r k h = (grind (arith, nat_tests), grind (arith, nat_tests))

from_first : (reach : Reach) (k : Bytes) (p : Posting) (ps : List Posting) → is_of k p ≡ true → keys_rise (p ∷ ps) ≡ true → numbers_rise (p ∷ ps) ≡ true
    → are_spaced reach (p ∷ ps) ≡ true → AreOfOne reach (p ∷ those_of k ps)
from_first reach k p [] here keys numbers spaced = (refl, refl)
from_first reach k p (q ∷ ps) here keys numbers spaced =
    let rise = and_parts (list_all (λ r. is_le (key_cmp p.key r.key)) (q ∷ ps)) (keys_rise (q ∷ ps)) keys in
    let low = and_parts (is_le (key_cmp p.key q.key)) (list_all (λ r. is_le (key_cmp p.key r.key)) ps) rise.0 in
    let orders = and_parts (not (is_same_key p.key q.key) || nat_le p.number q.number) (numbers_rise (q ∷ ps)) numbers in
    let needed = and_parts (not (is_redundant reach p q)) (are_spaced reach (q ∷ ps)) spaced in
    elim (cases_Bool (is_of k q)) [
      | inl is ↦
          let rest = from_first reach k q ps is rise.1 orders.1 needed.1 in
          let two = one_before (is_same_key p.key q.key) (nat_le p.number q.number) (is_redundant reach p q) (are_of_one_key (q ∷ those_of k ps))
          (are_spaced reach (q ∷ those_of k ps)) (same_of k p q here is) orders.0 needed.0 rest.0 rest.1 in
          let found : those_of k (q ∷ ps) ≡ q ∷ those_of k ps = grind (arith, is) in
          subst (λ l. AreOfOne reach (p ∷ l)) (sym found) two
      | inr isnt ↦
          let none = none_behind k q ps (le_of k p q here low.0) isnt rise.1 in
          subst (λ l. AreOfOne reach (p ∷ l)) (sym none) (refl, refl)
    ]

-- the postings of one key stand beside one another, so none of them makes the next redundant
of_one : (reach : Reach) (k : Bytes) (ps : List Posting) → keys_rise ps ≡ true → numbers_rise ps ≡ true → are_spaced reach ps ≡ true
    → AreOfOne reach (those_of k ps)
of_one reach k [] keys numbers spaced = (refl, refl)
of_one reach k (p ∷ ps) keys numbers spaced =
    let rise = and_parts (list_all (λ r. is_le (key_cmp p.key r.key)) ps) (keys_rise ps) keys in
    elim (cases_Bool (is_of k p)) [
      | inl is ↦
          let found : those_of k (p ∷ ps) ≡ p ∷ those_of k ps = grind (arith, is) in
          subst (AreOfOne reach) (sym found) (from_first reach k p ps is keys numbers spaced)
      | inr isnt ↦
          let gone : those_of k (p ∷ ps) ≡ those_of k ps = grind (arith, isnt) in
          subst (AreOfOne reach) (sym gone) (of_one reach k ps rise.1 (numbers_behind p ps numbers) (spaced_behind reach p ps spaced))
    ]

-- ---- the postings of all keys

-- how many there are of each key, together
abbrev count_of : List Bytes → List Posting → ℕ
count_of [] ps = 0
count_of (k ∷ ks) ps = length (those_of k ps) + count_of ks ps

one_counted : (keys : List Bytes) (p : Posting) (ps : List Posting)
    → count_of keys ps + (if list_any (is_same_key p.key) keys then 1 else 0) ≤ count_of keys (p ∷ ps)
one_counted [] p ps = grind arith
one_counted (k ∷ ks) p ps = grind (arith, nat_tests, one_counted ks p ps)

all_counted : (keys : List Bytes) (ps : List Posting) → AllByRecursion (λ p. list_any (is_same_key p.key) keys ≡ true) ps → length ps ≤ count_of keys ps
all_counted keys [] h = omega arith
all_counted keys (p ∷ ps) h = let here = h.0 in grind (arith, nat_tests, here, one_counted keys p ps, all_counted keys ps h.1)

few_of_each : (most : ℕ) (keys : List Bytes) (ps : List Posting) → ((k : Bytes) → length (those_of k ps) ≤ most) → count_of keys ps ≤ most * length keys
few_of_each most [] ps h = omega arith
few_of_each most (k ∷ ks) ps h = grind (arith, h k, few_of_each most ks ps h)

pub few_kept : FewKeptLaw
few_kept reach keys ps rise kept =
    let most = 2 * length reach.begins + 2 in
    let each = few_of_each most keys ps (λ k.
    let of = of_one reach k ps rise kept.numbers kept.spaced in
    few_postings reach (those_of k ps) of.0 (all-filter (λ p. p.number ≤ reach.since) (is_of k) ps kept.upto) of.1) in
    let all = all_counted keys ps kept.of_keys in
    omega (arith, each, all)

-- ---- the postings of all runs

-- of a finished run nothing is left of the two that it was made of
in_made : (r : WrittenRun) → is_finished (written_run_size r) ≡ true → in_run r ≡ remaining r.made
in_made r is =
    let none = finished_left (written_run_size r) is in
    let first = none_left r.first (omega (arith, none)) in
    let second = none_left r.second (omega (arith, none)) in
    (λ i. remaining r.made ++ (first i ++ second i)) ∙ append-nil (remaining r.made)

length_of : (r : WrittenRun) → is_finished (written_run_size r) ≡ true → length (in_run r) ≡ left r.made
length_of r is = ap length (in_made r is) ∙ length-drop r.made.start r.made.written.items

length_in : (rs : List WrittenRun) → list_all is_finished (map written_run_size rs) ≡ true → length (postings_in rs) ≡ made_in (map written_run_size rs)
length_in [] done = refl
length_in (r ∷ rs) done =
    let parts = and_parts (is_finished (written_run_size r)) (list_all is_finished (map written_run_size rs)) done in
    omega (arith, length-append (in_run r) (postings_in rs), length_of r parts.0, length_in rs parts.1)

upto_each : (last : ℕ) (ps : List Posting) → are_upto last ps ≡ true → AllByRecursion (λ p. p.number ≤ last) ps
upto_each last [] h = tt
upto_each last (p ∷ ps) h = (grind (arith, nat_tests), upto_each last ps (grind (arith, nat_tests)))

-- a finished run holds few postings, where none makes the next redundant for those who might ask then
few_for : (were : Reach) (keys : List Bytes) (r : WrittenRun) → is_finished (written_run_size r) ≡ true → AreOfKeys keys (in_run r)
    → length were.begins ≤ BEGINS_MAX → numbers_rise (remaining r.made ++ remaining r.first) ≡ true → are_upto were.since (in_run r) ≡ true
    → are_spaced were (remaining r.made) ≡ true → left r.made ≤ (2 * BEGINS_MAX + 2) * length keys
few_for were keys r is of_keys few numbers upto spaced =
    let made = in_made r is in
    let none = finished_left (written_run_size r) is in
    let first = none_left r.first (omega (arith, none)) in
    let rise = subst (λ l. keys_rise l ≡ true) (sym made) r.made.rising in
    let kept : AreKeptFor were keys (in_run r) = record {
      of_keys = of_keys;
      numbers = ap numbers_rise (made ∙ sym (append-nil (remaining r.made)) ∙ ap (λ l. remaining r.made ++ l) (sym first)) ∙ numbers;
      upto = upto_each were.since (in_run r) upto;
      spaced = ap (are_spaced were) made ∙ spaced;
    } in
    let held = few_kept were keys (in_run r) rise kept in
    let fewer = mul-le-mul_right {m = 2 * length were.begins + 2} {n = 2 * BEGINS_MAX + 2} (length keys) (omega (arith, few)) in
    omega (arith, held, fewer, length_of r is)

few_in_run : (reach : Reach) (keys : List Bytes) (r : WrittenRun) → is_finished (written_run_size r) ≡ true → AreOfKeys keys (in_run r)
    → IsKeptShort reach r → left r.made ≤ (2 * BEGINS_MAX + 2) * length keys
few_in_run reach keys r is of_keys short = elim short.kept [
  | inl one ↦
      -- as if it had been merged where nobody had begun before its last number
      let alone : Reach = record { begins = []; since = r.last } in
      few_for alone keys r is of_keys (omega arith) short.numbers.first_rises r.upto (once_spaced alone (remaining r.made) one.once)
  | inr was ↦ few_for was.were keys r is of_keys was.few short.numbers.first_rises was.upto was.spaced
]

few_in_runs : (reach : Reach) (keys : List Bytes) (rs : List WrittenRun) → list_all is_finished (map written_run_size rs) ≡ true
    → AreOfKeys keys (postings_in rs) → AllByRecursion (IsKeptShort reach) rs
    → AllByRecursion (λ s. s.made ≤ (2 * BEGINS_MAX + 2) * length keys) (map written_run_size rs)
few_in_runs reach keys [] done of_keys short = tt
few_in_runs reach keys (r ∷ rs) done of_keys short =
    let parts = and_parts (is_finished (written_run_size r)) (list_all is_finished (map written_run_size rs)) done in
    let has_key = λ (p : Posting). list_any (is_same_key p.key) keys ≡ true in (
      few_in_run reach keys r parts.0 (all-front has_key (in_run r) (postings_in rs) of_keys) short.0,
      few_in_runs reach keys rs parts.1 (all-back has_key (in_run r) (postings_in rs) of_keys) short.1,
    )

pub keeps_little : KeepsLittleLaw
keeps_little v keys little of_keys rest =
    let most = (2 * BEGINS_MAX + 2) * length keys in
    let sizes = map written_run_size v.runs in
    let rests = subst (AreAtRest v.facts.reach.begins v.facts.oldest) little.sizes rest in
    let few = few_in_runs v.facts.reach keys v.runs rests.finished (subst (AreOfKeys keys) little.postings of_keys) little.runs.each in
    let held = runs_hold_little v.facts.reach.begins v.facts.oldest most sizes rests few in
    let fewer = mul-le-mul_left {m = 2 * length v.facts.reach.begins + 1} {n = 2 * BEGINS_MAX + 1} (2 * most) (omega (arith, little.few)) in
    omega (arith, held, fewer, length_in v.runs rests.finished, ap length little.postings)
