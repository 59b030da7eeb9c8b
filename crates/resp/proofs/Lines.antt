-- The two kinds of line with a number.
use Rattle.std.proofs.Common.{◌≡◌, ℕ, ◌+◌, ◌-◌, ◌^◌, ◌<◌, ◌≤◌, List, [], ◌∷◌, ◌++◌, length, get_or, take, drop, refl}
use Rattle.std.proofs.Common.{sym, ap, subst, ◌∙◌, append_assoc, arith}
use Rattle.std.proofs.lemmas.Fmt.{decimal_digit, decimal_injective}
use Rattle.std.proofs.lemmas.Grind.{common_steps}
use Rattle.std.proofs.lemmas.List.{append-nil, take_rest}
use Rattle.std.specs.Fmt.{decimal}
use Rattle.model.specs.Bounds.{value_max}
use Rattle.model.specs.Grammar.{crlf}
use Rattle.resp.proofs.Behind.{stops_behind}
use Rattle.resp.proofs.Digits.{IsDigit, AreDigits, same_digits, is_front, decimal_digits, front_of_decimal}
use Rattle.resp.specs.Reading.{Stop, More, Bad, Stops, Only, CountLine, LengthLine}

-- the first byte and the others
pub first_and_rest : (bytes : List ℕ) → 1 ≤ length bytes → bytes ≡ get_or bytes 0 0 ∷ take (length bytes - 1) (drop 1 bytes)
first_and_rest bytes some = grind (arith, common_steps, take_rest)

not_return : IsDigit 13 → ⊥
not_return d = omega arith

-- a number's line, before other bytes
line_text : (n : ℕ) (others : List ℕ) → (decimal n ++ crlf) ++ others ≡ decimal n ++ 13 ∷ (10 ∷ others)
line_text n others = append_assoc (decimal n) crlf others

pub line_one_form : (m n : ℕ) (a b : List ℕ) → m < 2 ^ 64 → n < 2 ^ 64 → (decimal m ++ crlf) ++ a ≡ (decimal n ++ crlf) ++ b → (m ≡ n) × (a ≡ b)
line_one_form m n a b lm ln e = grind (arith, common_steps, same_digits, decimal_digits, not_return, line_text, decimal_injective)

-- ---- the number of parts

digit_text : (d : ℕ) → 48 ≤ d → d ≤ 57 → decimal (d - 48) ≡ d ∷ []
digit_text d low high = let is : 48 + (d - 48) ≡ d = omega arith in decimal_digit (d - 48) (omega arith) ∙ ap (λ (x : ℕ). x ∷ []) is

pub nothing_of_count : (bytes : List ℕ) → length bytes < 1 → Stops CountLine bytes More
nothing_of_count [] none = (decimal 1 ++ crlf, 1, rw (decimal_digit 1 (omega arith)) (omega arith), (omega arith, omega arith, refl))
nothing_of_count (x ∷ bytes) none = absurd (omega arith)

pub no_count : (bytes : List ℕ) → 1 ≤ length bytes → (49 ≤ get_or bytes 0 0 → get_or bytes 0 0 ≤ 52 → ⊥) → Stops CountLine bytes Bad
no_count bytes some no_digit = grind (arith, common_steps, decimal_digit)

pub count_behind : (bytes rest : List ℕ) (d : ℕ) (e : Stop) → bytes ≡ d ∷ rest → 49 ≤ d → d ≤ 52 → Stops (Only crlf) rest e → Stops CountLine bytes e
count_behind bytes rest d e is low high stopped =
    stops_behind (Only crlf) CountLine (d ∷ []) rest bytes e is (crlf, tt, refl)
    (λ t v same. (
      [],
      d - 48,
      (
        omega arith,
        omega arith,
        ap (λ (xs : List ℕ). d ∷ xs) (append-nil t ∙ same) ∙ ap (λ (xs : List ℕ). xs ++ crlf) (sym (digit_text d (omega arith) (omega arith))),
      ),
    ))
    (λ some text more others n h joined.
    let spelled : d ∷ (rest ++ more) ≡ ((48 + n) ∷ crlf) ++ others =
    joined ∙ ap (λ (xs : List ℕ). xs ++ others) (h.2 ∙ ap (λ (xs : List ℕ). xs ++ crlf) (decimal_digit n (omega (arith, h.1)))) in
    (crlf, others, tt, refl, cc))
    stopped

pub count_text : (bytes rest : List ℕ) (d : ℕ) → bytes ≡ d ∷ (crlf ++ rest) → 49 ≤ d → d ≤ 52
    → (text : List ℕ) × CountLine text (d - 48) × (bytes ≡ text ++ rest)
count_text bytes rest d is low high = grind (arith, common_steps, digit_text)

-- ---- the length of a part

pub nothing_of_length : (bytes : List ℕ) → length bytes ≡ 0 → Stops LengthLine bytes More
nothing_of_length [] none = (decimal 0 ++ crlf, 0, rw (decimal_digit 0 (omega arith)) (omega arith), (omega arith, refl))
nothing_of_length (x ∷ bytes) none = absurd (omega arith)

-- no digit stands at the front
abbrev pub NoDigitFirst : List ℕ → Type 0
NoDigitFirst rest = 1 ≤ length rest → IsDigit (get_or rest 0 0) → ⊥

pub no_length : (bytes digits rest : List ℕ) → bytes ≡ digits ++ rest → AreDigits digits → NoDigitFirst rest → 1 ≤ length bytes
    → ((n : ℕ) → n ≤ value_max → digits ≡ decimal n → ⊥) → Stops LengthLine bytes Bad
no_length bytes digits [] is run last some none = λ text more others n h e.
    let same : digits ++ more ≡ decimal n ++ 13 ∷ (10 ∷ others) =
    ap (λ (xs : List ℕ). xs ++ more) (sym (append-nil digits) ∙ sym is) ∙ e ∙ ap (λ (xs : List ℕ). xs ++ others) h.1 ∙ line_text n others in
    let front = is_front digits (decimal n) more (10 ∷ others) 13 run not_return same in
    let len : 1 ≤ length digits = subst (λ (xs : List ℕ). 1 ≤ length xs) (is ∙ append-nil digits) some in
    let found = front_of_decimal n (omega (arith, h.0)) digits front.0 len front.1 in
    none found.0 (omega (arith, found.1, h.0)) found.2
no_length bytes digits (c ∷ rest) is run last some none = grind (arith, common_steps, append_assoc, line_text, same_digits, decimal_digits, not_return)

pub length_behind : (bytes digits rest : List ℕ) (len : ℕ) (e : Stop) → bytes ≡ digits ++ rest → digits ≡ decimal len → len ≤ value_max → NoDigitFirst rest
    → Stops (Only crlf) rest e → Stops LengthLine bytes e
length_behind bytes digits rest len e is number fits last stopped =
    stops_behind (Only crlf) LengthLine digits rest bytes e is (crlf, tt, refl)
    (λ t v same. ([], len, (fits, ap (λ (xs : List ℕ). digits ++ xs) (append-nil t ∙ same) ∙ ap (λ (xs : List ℕ). xs ++ crlf) number)))
    (λ some text more others n h joined. (crlf, others, tt, refl, must rest some last text more others n h joined))
    stopped
  where
    must : (rest : List ℕ) → 1 ≤ length rest → NoDigitFirst rest → (text more others : List ℕ) (n : ℕ) → LengthLine text n
        → digits ++ (rest ++ more) ≡ text ++ others → rest ++ more ≡ crlf ++ others
    must rest some last text more others n h joined = grind (arith, common_steps, same_digits, decimal_digits, not_return, line_text)

pub length_text : (bytes digits rest after : List ℕ) (len : ℕ) → bytes ≡ digits ++ rest → digits ≡ decimal len → len ≤ value_max → rest ≡ crlf ++ after
    → (text : List ℕ) × LengthLine text len × (bytes ≡ text ++ after)
length_text bytes digits rest after len is number fits ended = grind (arith, common_steps, append_assoc)
