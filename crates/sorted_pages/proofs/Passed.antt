-- What a reader passes over is hidden from it; where it knows the pages, it sees something of each of the others.
use Rattle.std.proofs.Common.{◌≡◌, ℕ, zero, suc, ◌*◌, ◌<◌, ◌≤◌, Bool, true, false, not, cond, List, [], ◌∷◌, ◌++◌}
use Rattle.std.proofs.Common.{drop}
use Rattle.std.proofs.Common.{take, length, Some, inl, inr, refl, sym, ap, ◌∙◌, arith}
use Rattle.std.proofs.lemmas.Bool.Decides.{nat_tests}
use Rattle.std.proofs.lemmas.Grind.{common_steps}
use Rattle.std.proofs.lemmas.Nat.{and_le_r, pow_pos}
use Rattle.std.proofs.lemmas.Nat.Bits.{and_pow}
use Rattle.std.specs.Int.{bit_at}
use Rattle.std.specs.Int.Bits.{bit_and}
use Rattle.std.specs.List.{AllByRecursion}
use Rattle.std.specs.Prelude.{nat_le, slice_get, ◌⊎◌, ◌==◌, ◌||◌, ◌^◌}
use Rattle.model.proofs.Elements.{all-each}
use Rattle.model.specs.Map.{Bytes}
use Rattle.sorted_pages.proofs.Seen.{shown-append, shown-hidden}
use Rattle.sorted_pages.specs.Held.{IsReader, bit_of, is_among}
use Rattle.sorted_pages.specs.Pages.{Page, PagesValue, entries}
use Rattle.sorted_pages.specs.Ranges.{KnowsPages, entries_from, not_passed, shown}
use Rattle.sorted_pages.specs.Summaries.{AreSeen, AreSummaries, IsSummary, are_hidden, is_known, is_passed}
use Rattle.sorted_pages.specs.declared.held.Reader.{Reader}
use Rattle.sorted_pages.specs.declared.summary.Summary.{Summary}

-- ---- one page

-- the bit of a place is set where it says so
tested_bit : (m i : ℕ) (b : Bool) → bit_at m i ≡ bit_of b → (bit_and m (2 ^ i) == 0) ≡ not b
tested_bit m i true e = ap (λ n. n == 0) (and_pow m i ∙ ap (λ n. n * 2 ^ i) e) ∙ (let some = pow_pos i in grind (arith, nat_tests))
tested_bit m i false e = ap (λ n. n == 0) (and_pow m i ∙ ap (λ n. n * 2 ^ i) e) ∙ grind (arith, nat_tests)

-- no bit is set of none
no_bit : (m : ℕ) → (bit_and m 0 == 0) ≡ true
no_bit m = let least = and_le_r m 0 in grind (arith, nat_tests)

module _ {X : Type 0} (hides : ℕ → X → Bool) (shows : X → Bool) (last : X → ℕ) (held : List ℕ) (r : Reader) where
  -- whether the reader sees something of a page is known
  abbrev Knows : Summary → Type 0
  Knows s = (0 < r.bit) ⊎ (s.last ≤ r.number)

  -- the bit of a reader's place says what the reader sees
  bit_says : (es : List (Bytes × X)) (s : Summary) (i : ℕ) → IsSummary hides shows last held es s → slice_get held i ≡ Some r.number
      → r.bit ≡ 2 ^ i → r.number < s.last → (bit_and s.hidden r.bit == 0) ≡ not (are_hidden (hides r.number) es)
  bit_says es s i h slot bit lt =
      ap (λ b. bit_and s.hidden b == 0) bit ∙ tested_bit s.hidden i (are_hidden (hides r.number) es) (h.before i r.number slot lt)

  passed_hidden : (es : List (Bytes × X)) (s : Summary) → IsReader held r → IsSummary hides shows last held es s → is_passed r s ≡ true
      → are_hidden (hides r.number) es ≡ true
  passed_hidden es s (inl none) h p =
      let bits = ap (λ b. bit_and s.hidden b == 0) none ∙ no_bit s.hidden in
      let after = h.after r.number in
      grind (arith, common_steps, nat_tests)
  passed_hidden es s (inr at) h p =
      let bits = bit_says es s at.0 h at.1 at.2 in
      let after = h.after r.number in
      grind (arith, common_steps, nat_tests)

  left_seen : (es : List (Bytes × X)) (s : Summary) → IsReader held r → Knows s → IsSummary hides shows last held es s → is_passed r s ≡ false
      → are_hidden (hides r.number) es ≡ false
  left_seen es s (inl none) k h p =
      let after = h.after r.number in
      grind (arith, common_steps, nat_tests)
  left_seen es s (inr at) k h p =
      let bits = bit_says es s at.0 h at.1 at.2 in
      let after = h.after r.number in
      grind (arith, common_steps, nat_tests)

  -- ---- all pages

  -- of the pages that are passed the reader sees nothing
  pub shown-passed : (ps : List (Page X)) (ss : List Summary) → IsReader held r → AreSummaries hides shows last held ps ss
      → shown (hides r.number) (entries (not_passed r ps ss)) ≡ shown (hides r.number) (entries ps)
  shown-passed [] ss at h = refl
  shown-passed (p ∷ ps) [] at h = absurd h
  shown-passed (p ∷ ps) (s ∷ ss) at h = by (is_passed r s) refl (shown-passed ps ss at h.1)
    where
      by : (b : Bool) → is_passed r s ≡ b → shown (hides r.number) (entries (not_passed r ps ss)) ≡ shown (hides r.number) (entries ps)
          → shown (hides r.number) (entries (cond b (not_passed r ps ss) (p ∷ not_passed r ps ss))) ≡ shown (hides r.number) (p.0 ++ entries ps)
      by true e rest =
          rest
          ∙ sym (shown-append (hides r.number) p.0 (entries ps)
          ∙ ap (λ l. l ++ shown (hides r.number) (entries ps)) (shown-hidden (hides r.number) p.0 (passed_hidden p.0 s at h.0 e)))
      by false e rest =
          shown-append (hides r.number) p.0 (entries (not_passed r ps ss))
          ∙ ap (λ l. shown (hides r.number) p.0 ++ l) rest
          ∙ sym (shown-append (hides r.number) p.0 (entries ps))

  -- what is left of a page from a place on, and of the pages behind it
  pub shown-from : (n : ℕ) (p : Page X) (ps : List (Page X)) (ss : List Summary) → IsReader held r → AreSummaries hides shows last held ps (drop 1 ss)
      → shown (hides r.number) (entries_from r n (p ∷ ps) ss) ≡ shown (hides r.number) (drop n p.0 ++ entries ps)
  shown-from n p ps ss at h =
      shown-append (hides r.number) (drop n p.0) (entries (not_passed r ps (drop 1 ss)))
      ∙ ap (λ l. shown (hides r.number) (drop n p.0) ++ l) (shown-passed ps (drop 1 ss) at h)
      ∙ sym (shown-append (hides r.number) (drop n p.0) (entries ps))

  known_first : (s : Summary) (ss : List Summary) → KnowsPages r (s ∷ ss) → Knows s
  known_first s ss (inl some) = inl some
  known_first s ss (inr late) = inr late.0

  known_rest : (s : Summary) (ss : List Summary) → KnowsPages r (s ∷ ss) → KnowsPages r ss
  known_rest s ss (inl some) = inl some
  known_rest s ss (inr late) = inr late.1

  -- of each of the others it sees something, where it knows them
  pub others_seen : (ps : List (Page X)) (ss : List Summary) → IsReader held r → KnowsPages r ss → AreSummaries hides shows last held ps ss
      → AreSeen (hides r.number) (not_passed r ps ss)
  others_seen [] ss at k h = tt
  others_seen (p ∷ ps) [] at k h = absurd h
  others_seen (p ∷ ps) (s ∷ ss) at k h = by (is_passed r s) refl (others_seen ps ss at (known_rest s ss k) h.1)
    where
      by : (b : Bool) → is_passed r s ≡ b → AreSeen (hides r.number) (not_passed r ps ss)
          → AreSeen (hides r.number) (cond b (not_passed r ps ss) (p ∷ not_passed r ps ss))
      by true e rest = rest
      by false e rest = (left_seen p.0 s at (known_first s ss k) h.0 e, rest)

module _ {X : Type 0} (hides : ℕ → X → Bool) (shows : X → Bool) (last : X → ℕ) (held : List ℕ) where
  -- there are as many summaries as pages, or more
  pub each-count : (ps : List (Page X)) (ss : List Summary) → AreSummaries hides shows last held ps ss → length ps ≤ length ss
  each-count [] ss h = omega arith
  each-count (p ∷ ps) [] h = absurd h
  each-count (p ∷ ps) (s ∷ ss) h = let rest = each-count ps ss h.1 in omega arith

  -- the first of the pages, and those behind
  pub each-take : (n : ℕ) (ps : List (Page X)) (ss : List Summary) → AreSummaries hides shows last held ps ss
      → AreSummaries hides shows last held (take n ps) ss
  each-take zero ps ss h = tt
  each-take (suc n) [] ss h = tt
  each-take (suc n) (p ∷ ps) [] h = absurd h
  each-take (suc n) (p ∷ ps) (s ∷ ss) h = (h.0, each-take n ps ss h.1)

  pub each-drop : (n : ℕ) (ps : List (Page X)) (ss : List Summary) → AreSummaries hides shows last held ps ss
      → AreSummaries hides shows last held (drop n ps) (drop n ss)
  each-drop zero ps ss h = h
  each-drop (suc n) [] ss h = tt
  each-drop (suc n) (p ∷ ps) [] h = absurd h
  each-drop (suc n) (p ∷ ps) (s ∷ ss) h = each-drop n ps ss h.1

-- a reader who knows the pages knows those behind some of them
pub knows-drop : (r : Reader) (n : ℕ) (ss : List Summary) → KnowsPages r ss → KnowsPages r (drop n ss)
knows-drop r n ss (inl some) = inl some
knows-drop r zero ss (inr late) = inr late
knows-drop r (suc n) [] (inr late) = inr tt
knows-drop r (suc n) (s ∷ ss) (inr late) = knows-drop r n ss (inr late.1)

-- a reader knows the pages where what its number sees is known of them
pub knows_pages : {X : Type 0} (r : Reader) (n : ℕ) (v : PagesValue X) (ss : List Summary) → r.number ≡ n → (is_among v.held n ≡ true → 0 < r.bit)
    → AllByRecursion (λ s. s.last ≤ v.last) ss → is_known n v ≡ true → KnowsPages r ss
knows_pages r n v ss same held late known = by (is_among v.held n) refl
  where
    by : (b : Bool) → is_among v.held n ≡ b → KnowsPages r ss
    by true e = inl (held e)
    by false e =
        let since : nat_le v.last n ≡ true = ap (λ b. b || nat_le v.last n) (sym e) ∙ known in
        let before : v.last ≤ n = grind (arith, nat_tests) in
        inr (all-each (λ (s : Summary). s.last ≤ v.last) (λ s. s.last ≤ r.number) ss (λ s le. omega arith) late)
