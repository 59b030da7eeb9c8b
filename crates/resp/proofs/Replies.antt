-- A stream of replies is read in one way: each reply ends where its text says, and its text says which it is.
use Rattle.model.specs.declared.refusals.Refusal.TheVariants as refusals
use Rattle.std.proofs.Common.{◌==◌, Bool, not, nat_lt, if◌then◌else◌, ◌≡◌, ℕ, ◌+◌, ◌*◌, ◌-◌, ◌/◌, ◌%◌, ◌^◌, ◌<◌, List}
use Rattle.std.proofs.Common.{[], ◌∷◌, ◌++◌, Some, None, length, get_or, drop, true, refl, sym, ap, ◌∙◌, append_assoc}
use Rattle.std.proofs.Common.{arith}
use Rattle.std.proofs.lemmas.Bool.{and_parts, and_from, agree_below_at, both_ways, eq-eqb, ne_eqb, eqb-true}
use Rattle.std.proofs.lemmas.Fmt.{decimal_is_IsNumeral, decimal_nonempty}
use Rattle.std.proofs.lemmas.Grind.{common_steps}
use Rattle.std.proofs.lemmas.List.Elements.{recursion_from_All}
use Rattle.std.specs.Fmt.{decimal}
use Rattle.std.specs.List.{list_all, AllByRecursion, flat_map}
use Rattle.std.specs.Str.Parse.{digits_value}
use Rattle.model.proofs.Fronts.{same_front}
use Rattle.model.specs.Grammar.{crlf, bulk}
use Rattle.model.specs.Operations.{Response}
use Rattle.model.specs.Operations.Response.{Done, Pong, Number, Value, Pairs, Refused}
use Rattle.model.specs.ReplyText.{hex_digit, hex_text, pair_text, reply_text, refusal_text}
use Rattle.model.specs.declared.refusals.Refusal.{Refusal}
use Rattle.resp.proofs.Digits.{AreDigits, IsDigit, decimal_digits, digit_at}
use Rattle.resp.proofs.Lines.{line_one_form}
use Rattle.resp.proofs.Requests.{bulk_text}
use Rattle.resp.specs.Replies.{IsSendable, texts_of, OneReading, FirstReplies}

-- ---- lines

abbrev has_no_return : List ℕ → Bool
has_no_return bytes = list_all (λ b. not (b == 13)) bytes

not_return : (c : ℕ) → c ≡ 13 → not (c == 13) ≡ true → ⊥
not_return c e h = both_ways (not (c == 13)) (ap not (eq-eqb c 13 e)) h

same_line : (xs ys a b : List ℕ) → has_no_return xs ≡ true → has_no_return ys ≡ true → xs ++ 13 ∷ a ≡ ys ++ 13 ∷ b → (xs ≡ ys) × (a ≡ b)
same_line [] [] a b p q e = (refl, cc)
same_line [] (y ∷ ys) a b p q e = let first : y ≡ 13 = cc in absurd (not_return y first (and_parts (not (y == 13)) (has_no_return ys) q).0)
same_line (x ∷ xs) [] a b p q e = let first : x ≡ 13 = cc in absurd (not_return x first (and_parts (not (x == 13)) (has_no_return xs) p).0)
same_line (x ∷ xs) (y ∷ ys) a b p q e =
    let first : x ≡ y = cc in
    let rest : xs ++ 13 ∷ a ≡ ys ++ 13 ∷ b = cc in
    let same = same_line xs ys a b (and_parts (not (x == 13)) (has_no_return xs) p).1 (and_parts (not (y == 13)) (has_no_return ys) q).1 rest in
    ((λ i. first i ∷ same.0 i), same.1)

digits_no_return : (ds : List ℕ) → AreDigits ds → has_no_return ds ≡ true
digits_no_return [] h = refl
digits_no_return (d ∷ ds) h = let digit = h.0 in and_from _ _ (ap not (ne_eqb d 13 (λ e. omega arith))) (digits_no_return ds h.1)

hex_no_return : (key : List ℕ) → AllByRecursion (λ b. b < 256) key → has_no_return (hex_text key) ≡ true
hex_no_return [] h = refl
hex_no_return (b ∷ key) h = let small = h.0 in and_from _ _ (one (b / 16) (omega arith)) (and_from _ _ (one (b % 16) (omega arith)) (hex_no_return key h.1))
  where
    one : (d : ℕ) → d < 16 → not (hex_digit d == 13) ≡ true
    one d lt = agree_below_at (λ x. not (hex_digit x == 13)) (λ x. true) 16 d refl lt

-- ---- refusals

abbrev hex_value : ℕ → ℕ
hex_value c = if nat_lt c 58 then c - 48 else c - 87

abbrev bytes_of_hex : List ℕ → List ℕ
bytes_of_hex (high ∷ low ∷ text) = (hex_value high * 16 + hex_value low) ∷ bytes_of_hex text
bytes_of_hex text = []

hex_back : (key : List ℕ) → AllByRecursion (λ b. b < 256) key → bytes_of_hex (hex_text key) ≡ key
hex_back [] h = refl
hex_back (b ∷ key) h =
    let small = h.0 in
    let high : hex_value (hex_digit (b / 16)) ≡ b / 16 = one (b / 16) (omega arith) in
    let low : hex_value (hex_digit (b % 16)) ≡ b % 16 = one (b % 16) (omega arith) in
    let whole : hex_value (hex_digit (b / 16)) * 16 + hex_value (hex_digit (b % 16)) ≡ b = omega arith in
    λ i. whole i ∷ hex_back key h.1 i
  where
    one : (d : ℕ) → d < 16 → hex_value (hex_digit d) ≡ d
    one d lt = eqb-true (hex_value (hex_digit d)) d (agree_below_at (λ x. hex_value (hex_digit x) == x) (λ x. true) 16 d refl lt)

-- which refusal a text is of, by the bytes in which the texts differ
abbrev form_by : ℕ → Refusal
form_by c =
    if c == 102 then refusals.BadFrame else if c == 99 then refusals.UnknownCommand else if c == 97 then refusals.BadArguments
    else if c == 107 then refusals.BadKey else if c == 108 then refusals.BadLimit else if c == 111 then refusals.AlreadyOpen else refusals.NotOpen

abbrev full_by : ℕ → Refusal
full_by c =
    if c == 119 then refusals.FullWrites else if c == 109 then refusals.FullMarks else if c == 116 then refusals.FullTransactions
    else if c == 108 then refusals.FullLog else refusals.FullNumbers

abbrev pivot_by : List ℕ → Refusal
pivot_by text = if get_or text 0 0 == 115 then refusals.PivotSelf else refusals.Pivot (digits_value 10 text)

abbrev refusal_by : List ℕ → Refusal
refusal_by text =
    if get_or text 0 0 == 69 then form_by (get_or text 4 0) else if get_or text 0 0 == 70 then full_by (get_or text 5 0)
    else if get_or text 0 0 == 83 then (if get_or text 6 0 == 102 then refusals.StoreFault else refusals.StoreStopped)
    else if get_or text 9 0 == 111 then refusals.Overwritten (bytes_of_hex (drop 21 text)) else pivot_by (drop 15 text)

refusal_back : (r : Refusal) → IsSendable (Refused r) → refusal_by (refusal_text r) ≡ r
refusal_back refusals.BadFrame h = refl
refusal_back refusals.UnknownCommand h = refl
refusal_back refusals.BadArguments h = refl
refusal_back refusals.BadKey h = refl
refusal_back refusals.BadLimit h = refl
refusal_back refusals.AlreadyOpen h = refl
refusal_back refusals.NotOpen h = refl
refusal_back refusals.FullWrites h = refl
refusal_back refusals.FullMarks h = refl
refusal_back refusals.FullTransactions h = refl
refusal_back (refusals.Overwritten key) h = ap (λ k. refusals.Overwritten k) (hex_back key (recursion_from_All (λ b. b < 256) key h))
refusal_back refusals.PivotSelf h = refl
refusal_back (refusals.Pivot n) h =
    let digit : IsDigit (get_or (decimal n) 0 0) = digit_at (decimal n) 0 (decimal_digits n h) (decimal_nonempty n h) in
    ap (λ b. if b then refusals.PivotSelf else refusals.Pivot (digits_value 10 (decimal n))) (ne_eqb (get_or (decimal n) 0 0) 115 (λ e. omega arith))
    ∙ ap (λ v. refusals.Pivot v) (decimal_is_IsNumeral n h).1
refusal_back refusals.FullLog h = refl
refusal_back refusals.StoreFault h = refl
refusal_back refusals.StoreStopped h = refl
refusal_back refusals.FullNumbers h = refl

refusal_no_return : (r : Refusal) → IsSendable (Refused r) → has_no_return (refusal_text r) ≡ true
refusal_no_return (refusals.Overwritten key) h = hex_no_return key (recursion_from_All (λ b. b < 256) key h)
refusal_no_return (refusals.Pivot n) h = digits_no_return (decimal n) (decimal_digits n h)
refusal_no_return r h = refl

refusal_one : (r s : Refusal) (a b : List ℕ) → IsSendable (Refused r) → IsSendable (Refused s) → reply_text (Refused r) ++ a ≡ reply_text (Refused s) ++ b
    → (r ≡ s) × (a ≡ b)
refusal_one r s a b p q e =
    let lines : refusal_text r ++ 13 ∷ (10 ∷ a) ≡ refusal_text s ++ 13 ∷ (10 ∷ b) =
    sym (append_assoc (refusal_text r) crlf a) ∙ ap (drop 1) e ∙ append_assoc (refusal_text s) crlf b in
    let same = same_line (refusal_text r) (refusal_text s) (10 ∷ a) (10 ∷ b) (refusal_no_return r p) (refusal_no_return s q) lines in
    (sym (refusal_back r p) ∙ ap refusal_by same.0 ∙ refusal_back s q, ap (drop 1) same.1)

-- ---- bulks and pairs

bulk_one : (p q a b : List ℕ) → length p < 2 ^ 64 → length q < 2 ^ 64 → bulk p ++ a ≡ bulk q ++ b → (p ≡ q) × (a ≡ b)
bulk_one p q a b lp lq e = grind (arith, common_steps, bulk_text, line_one_form, same_front)

abbrev Fits : List ℕ × List ℕ → Type 0
Fits p = (length p.0 < 2 ^ 64) × (length p.1 < 2 ^ 64)

pairs_one : (xs ys : List (List ℕ × List ℕ)) (a b : List ℕ) → length xs ≡ length ys → AllByRecursion Fits xs → AllByRecursion Fits ys →
    flat_map pair_text xs ++ a ≡ flat_map pair_text ys ++ b → (xs ≡ ys) × (a ≡ b)
pairs_one [] [] a b len p q e = (refl, e)
pairs_one [] (y ∷ ys) a b len p q e = absurd (omega arith)
pairs_one (x ∷ xs) [] a b len p q e = absurd (omega arith)
pairs_one (x ∷ xs) (y ∷ ys) a b len p q e =
    let apart : (z : List ℕ × List ℕ) (zs : List (List ℕ × List ℕ)) (c : List ℕ)
    → flat_map pair_text (z ∷ zs) ++ c ≡ bulk z.0 ++ (bulk z.1 ++ (flat_map pair_text zs ++ c)) =
    λ z zs c. append_assoc (bulk z.0 ++ bulk z.1) (flat_map pair_text zs) c ∙ append_assoc (bulk z.0) (bulk z.1) (flat_map pair_text zs ++ c) in
    let key = bulk_one x.0 y.0 _ _ p.0.0 q.0.0 (sym (apart x xs a) ∙ e ∙ apart y ys b) in
    let value = bulk_one x.1 y.1 _ _ p.0.1 q.0.1 key.1 in
    let rest = pairs_one xs ys a b (omega arith) p.1 q.1 value.1 in
    ((λ i. (key.0 i, value.0 i) ∷ rest.0 i), rest.1)

-- ---- replies

first_digit : (n : ℕ) (a b : List ℕ) → n < 2 ^ 64 → (decimal n ++ crlf) ++ a ≡ 45 ∷ b → ⊥
first_digit n a b small e = by (decimal n) (decimal_digits n small) (decimal_nonempty n small) e
  where
    by : (ds : List ℕ) → AreDigits ds → 0 < length ds → (ds ++ crlf) ++ a ≡ 45 ∷ b → ⊥
    by [] digits some e = omega arith
    by (d ∷ ds) digits some e = let low = digits.0 in let first : d ≡ 45 = cc in omega arith

-- the first byte of a reply's text
abbrev kind_of : Response → ℕ
kind_of Done = 43
kind_of Pong = 43
kind_of (Number n) = 58
kind_of (Value v) = 36
kind_of (Pairs all) = 42
kind_of (Refused r) = 45

first_byte : (r : Response) (a : List ℕ) → get_or (reply_text r ++ a) 0 0 ≡ kind_of r
first_byte (Value None) a = refl
first_byte (Value (Some b)) a = refl
first_byte r a = refl

pub law_one_reading : OneReading
law_one_reading Done Done more others p q e = (refl, ap (drop 5) e)
law_one_reading Pong Pong more others p q e = (refl, ap (drop 7) e)
law_one_reading Done Pong more others p q e = let second = ap (λ t. get_or t 1 0) e in absurd (omega arith)
law_one_reading Pong Done more others p q e = let second = ap (λ t. get_or t 1 0) e in absurd (omega arith)
law_one_reading (Number m) (Number n) more others p q e = let same = line_one_form m n more others p q (ap (drop 1) e) in (ap (λ n. Number n) same.0, same.1)
law_one_reading (Value None) (Value None) more others p q e = (refl, ap (drop 5) e)
law_one_reading (Value None) (Value (Some y)) more others p q e = absurd (first_digit (length y) _ _ q (ap (drop 1) (sym (bulk_text y others) ∙ sym e)))
law_one_reading (Value (Some x)) (Value None) more others p q e = absurd (first_digit (length x) _ _ p (ap (drop 1) (sym (bulk_text x more) ∙ e)))
law_one_reading (Value (Some x)) (Value (Some y)) more others p q e = let same = bulk_one x y more others p q e in (ap (λ b. Value (Some b)) same.0, same.1)
law_one_reading (Pairs xs) (Pairs ys) more others p q e =
    let apart : (zs : List (List ℕ × List ℕ)) (c : List ℕ)
    → drop 1 (reply_text (Pairs zs) ++ c) ≡ (decimal (2 * length zs) ++ crlf) ++ (flat_map pair_text zs ++ c) =
    λ zs c. append_assoc (decimal (2 * length zs) ++ crlf) (flat_map pair_text zs) c in
    let lines = line_one_form (2 * length xs) (2 * length ys) _ _ p.0 q.0 (sym (apart xs more) ∙ ap (drop 1) e ∙ apart ys others) in
    let same = pairs_one xs ys more others (let twice = lines.0 in omega arith) (recursion_from_All Fits xs p.1) (recursion_from_All Fits ys q.1) lines.1 in
    (ap (λ all. Pairs all) same.0, same.1)
law_one_reading (Refused r) (Refused s) more others p q e = let same = refusal_one r s more others p q e in (ap (λ x. Refused x) same.0, same.1)
law_one_reading r s more others p q e = let kind : kind_of r ≡ kind_of s =
    sym (first_byte r more) ∙ ap (λ t. get_or t 0 0) e ∙ first_byte s others in absurd (omega arith)

-- a reply's text isn't empty
text_is_some : (r : Response) (a : List ℕ) → reply_text r ++ a ≡ [] → ⊥
text_is_some (Value None) a e = cc
text_is_some (Value (Some b)) a e = cc
text_is_some r a e = cc

first_by : (first all : List Response) (more : List ℕ) → AllByRecursion IsSendable first → AllByRecursion IsSendable all →
    texts_of first ++ more ≡ texts_of all → (rest : List Response) × (all ≡ first ++ rest) × (more ≡ texts_of rest)
first_by [] all more p q e = (all, refl, e)
first_by (r ∷ first) [] more p q e = absurd (text_is_some r _ (sym (append_assoc (reply_text r) (texts_of first) more) ∙ e))
first_by (r ∷ first) (s ∷ all) more p q e =
    let same = law_one_reading r s (texts_of first ++ more) (texts_of all) p.0 q.0 (sym (append_assoc (reply_text r) (texts_of first) more) ∙ e) in
    let rest = first_by first all more p.1 q.1 same.1 in
    (rest.0, (λ i. sym same.0 i ∷ rest.1 i), rest.2)

pub first_replies : FirstReplies
first_replies first all more p q e = first_by first all more (recursion_from_All IsSendable first p) (recursion_from_All IsSendable all q) e
