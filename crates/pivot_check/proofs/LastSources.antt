-- The last of the concurrent records that has read a key of the transaction's own, found by looking up the last reader of each key.
use Rattle.std.proofs.Common.{◌≡◌, ◌≤◌, ◌<◌, ◌+◌, ℕ, suc, Bool, false, cond, ◌||◌, List, [], ◌∷◌, ◌++◌, length, map}
use Rattle.std.proofs.Common.{refl, sym, ap, ◌∙◌, arith}
use Rattle.std.proofs.lemmas.Bool.Decides.{nat_tests}
use Rattle.std.specs.List.{list_any, filter, AllByRecursion}
use Rattle.std.specs.Prelude.{nat_lt, max}
use Rattle.model.proofs.Members.{IsRising}
use Rattle.model.specs.History.{Record, IsNumberedFrom}
use Rattle.model.specs.Map.{Bytes}
use Rattle.model.specs.PrivateCopy.{Mark, is_covered}
use Rattle.last_readers.proofs.Cuts.{cut_twice}
use Rattle.last_readers.specs.Readers.{if_after}
use Rattle.last_readers.specs.Steps.{cut}
use Rattle.snapshot.specs.View.{View}
use Rattle.pivot_check.proofs.Ends.{number_of}
use Rattle.pivot_check.proofs.Lists.{last_that-map}
use Rattle.pivot_check.specs.Kept.{keys_of, leads_to, AreAbove, last_that, last_number, greater, last_source}
use Rattle.pivot_check.specs.StandsFor.{kept_of, greatest, last_reader_in, AreReaders}

-- ---- numbers above another

pub after_cut : (o b n : ℕ) → o ≤ b → if_after b (cut o n) ≡ if_after b n
after_cut o b n le = grind (arith, nat_tests)

-- ---- the greatest number of records

greatest_or : (p q : Record → Bool) (rs : List Record) → greatest (λ r. p r || q r) rs ≡ max (greatest p rs) (greatest q rs)
greatest_or p q [] = refl
greatest_or p q (r ∷ rs) = grind (arith, greatest_or p q rs)

greatest_none : (rs : List Record) → greatest (λ r. false) rs ≡ 0
greatest_none [] = refl
greatest_none (r ∷ rs) = ap (max 0) (greatest_none rs)

greatest_push : (p : Record → Bool) (rs : List Record) (r : Record) → greatest p (rs ++ r ∷ []) ≡ max (greatest p rs) (cond (p r) r.commit 0)
greatest_push p [] r = grind arith
greatest_push p (s ∷ rs) r = grind (arith, greatest_push p rs r)

greatest_low : (p : Record → Bool) (n : ℕ) (rs : List Record) → IsNumberedFrom n rs → greatest p rs ≤ n + length rs
greatest_low p n [] h = omega arith
greatest_low p n (r ∷ rs) h = let c = h.0 in grind (arith, greatest_low p (suc n) rs h.1)

-- it is above each number that those of the records are above
greatest_above : (p : Record → Bool) (n : ℕ) (rs : List Record) → AllByRecursion (λ s. n < s.commit) rs → 0 < greatest p rs → n < greatest p rs
greatest_above p n [] h some = absurd (omega arith)
greatest_above p n (s ∷ rs) h some = let low = h.0 in grind (arith, greatest_above p n rs h.1)

-- the last record that passes has the greatest number
last_is_greatest : (p : Record → Bool) (b : ℕ) (rs : List Record) → IsRising rs
    → number_of (last_that p (filter (λ r. nat_lt b r.commit) rs)) ≡ if_after b (greatest p rs)
last_is_greatest p b [] rise = grind (arith, nat_tests)
last_is_greatest p b (r ∷ rs) rise = grind (arith, nat_tests, greatest_above p r.commit rs rise.0, last_is_greatest p b rs rise.1)

-- ---- the last readers of the keys

by_keys : (b : ℕ) (h : List Record) (ks : List Bytes) → if_after b (greatest (λ r. list_any (is_covered r.reads) ks) h) ≡ last_source (last_reader_in h) b ks
by_keys b h [] = grind (arith, nat_tests, greatest_none h)
by_keys b h (k ∷ ks) =
    grind (arith, nat_tests, by_keys b h ks, greatest_or (λ r. is_covered r.reads k) (λ r. list_any (is_covered r.reads) ks) h)

looked_up : (o b : ℕ) (readers : Bytes → ℕ) (h : List Record) → o ≤ b → AreReaders o readers h → (ks : List Bytes)
    → last_source readers b ks ≡ last_source (last_reader_in h) b ks
looked_up o b readers h le are [] = refl
looked_up o b readers h le are (k ∷ ks) = λ i. greater ((ap (if_after b) (are k) ∙ after_cut o b (last_reader_in h k) le) i)
    (looked_up o b readers h le are ks i)

-- the last concurrent record that leads to the transaction
pub source_found : (o : ℕ) (readers : Bytes → ℕ) (h : List Record) (t : View) → o ≤ t.begin → AreReaders o readers h → IsRising h →
    last_number (λ k. leads_to k t) (map (kept_of h) (filter (λ r. nat_lt t.begin r.commit) h)) ≡ last_source readers t.begin (keys_of t.writes)
source_found o readers h t le are rise =
    grind (arith, last_that-map (λ k. leads_to k t) (kept_of h) (filter (λ r. nat_lt t.begin r.commit) h))
    ∙ last_is_greatest (λ r. list_any (is_covered r.reads) (keys_of t.writes)) t.begin h rise
    ∙ by_keys t.begin h (keys_of t.writes)
    ∙ sym (looked_up o t.begin readers h le are (keys_of t.writes))

-- ---- the last readers once a transaction has committed, and once older ones are forgotten

pub noted_readers : (o : ℕ) (readers next : Bytes → ℕ) (h : List Record) (r : Record) (marks : List Mark) (n : ℕ) → AreReaders o readers h → IsNumberedFrom 0 h
    → o < n → n ≡ length h + 1 → r.commit ≡ n → r.reads ≡ marks
    → ((k : Bytes) → next k ≡ cond (is_covered marks k) n (readers k)) → AreReaders o next (h ++ r ∷ [])
noted_readers o readers next h r marks n are numbered above is number reads noted k =
    grind (
      arith,
      nat_tests,
      greatest_push (λ s. is_covered s.reads k) h r,
      noted k,
      are k,
      greatest_low (λ s. is_covered s.reads k) 0 h numbered,
      ap (λ ms. is_covered ms k) reads,
    )

pub forgotten_readers : (o newer : ℕ) (readers next : Bytes → ℕ) (h : List Record) → AreReaders o readers h → o ≤ newer
    → ((k : Bytes) → next k ≡ cut newer (readers k)) → AreReaders newer next h
forgotten_readers o newer readers next h are le cut_to k = cut_to k ∙ ap (cut newer) (are k) ∙ cut_twice o newer (last_reader_in h k) le

-- no number comes in but n
pub noted_upto : (readers next : Bytes → ℕ) (marks : List Mark) (last n : ℕ) → n ≡ last + 1 → ((k : Bytes) → readers k ≤ last)
    → ((k : Bytes) → next k ≡ cond (is_covered marks k) n (readers k)) → (k : Bytes) → next k ≤ n
noted_upto readers next marks last n is upto noted k = grind (arith, noted k, upto k)

pub noted_above : (readers next : Bytes → ℕ) (marks : List Mark) (oldest n : ℕ) → oldest < n → AreAbove oldest readers
    → ((k : Bytes) → next k ≡ cond (is_covered marks k) n (readers k)) → AreAbove oldest next
noted_above readers next marks oldest n lt above noted k some = grind (arith, noted k, above k)

-- what is left of a number that is above a
pub cut_later : (a b n left : ℕ) → (0 < n → a < n) → left ≡ cut b n → left ≡ cut (max a b) n
cut_later a b n left above is = grind (arith, nat_tests)
