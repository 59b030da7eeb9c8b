-- Parts and requests: one form, and where a reader stops within one.
use Rattle.std.proofs.Common.{◌≡◌, ℕ, ◌+◌, ◌-◌, ◌<◌, ◌≤◌, List, [], ◌∷◌, ◌++◌, length, replicate, refl, sym, ap, ◌∙◌}
use Rattle.std.proofs.Common.{append_assoc, arith, All, length-append}
use Rattle.std.proofs.lemmas.Grind.{common_steps}
use Rattle.std.proofs.lemmas.List.{append-nil, length-replicate}
use Rattle.std.proofs.lemmas.List.Concat.{flat_map-append}
use Rattle.std.proofs.lemmas.List.Elements.{All-append, All-replicate, All-nil, All-cons, All-head, All-tail}
use Rattle.std.specs.Fmt.{decimal}
use Rattle.std.specs.List.{flat_map}
use Rattle.model.proofs.Fronts.{same_front}
use Rattle.model.specs.Bounds.{value_max}
use Rattle.model.specs.Grammar.{crlf, bulk, array_of_bulks, IsPart, IsRequest, Spells}
use Rattle.resp.proofs.Behind.{stops_behind}
use Rattle.resp.proofs.Lines.{line_one_form}
use Rattle.resp.specs.Reading.{Stop, More, Stops, Only, CountLine, LengthLine, PartText}

-- ---- parts

-- a part's text before other bytes, from left to right
pub bulk_text : (part others : List ℕ) → bulk part ++ others ≡ 36 ∷ ((decimal (length part) ++ crlf) ++ (part ++ (crlf ++ others)))
bulk_text part others = simp append_assoc

pub bulk_one_form : (p q a b : List ℕ) → IsPart p → IsPart q → bulk p ++ a ≡ bulk q ++ b → (p ≡ q) × (a ≡ b)
bulk_one_form p q a b ip iq e = grind (arith, common_steps, bulk_text, line_one_form, same_front)

-- a part's text from its parts
joined_text : (digits front back : List ℕ) → (36 ∷ ((digits ++ crlf) ++ front)) ++ (back ++ crlf) ≡ (((36 ∷ digits) ++ crlf) ++ (front ++ back)) ++ crlf
joined_text digits front back = grind (arith, common_steps, append_assoc)

zeros_part : (n : ℕ) → n ≤ value_max → IsPart (replicate n 0)
zeros_part n le = record { short = omega (arith, length-replicate {A = ℕ} n 0); bytes = All-replicate (λ b. b < 256) n 0 (omega arith) }

empty_part : IsPart []
empty_part = record { short = omega arith; bytes = All-nil (λ b. b < 256) }

pub part_mark : (bytes : List ℕ) (e : Stop) → Stops (Only (36 ∷ [])) bytes e → Stops PartText bytes e
part_mark bytes e stopped =
    stops_behind (Only (36 ∷ [])) PartText [] bytes bytes e refl (36 ∷ [], tt, refl)
    (λ t v is. (
      (decimal 0 ++ crlf) ++ crlf,
      [],
      (
        empty_part,
        ap (λ (xs : List ℕ). xs ++ ((decimal 0 ++ crlf) ++ crlf)) is
            ∙ ap (λ (xs : List ℕ). 36 ∷ (xs ++ crlf)) (sym (append-nil (decimal 0 ++ crlf))),
      ),
    ))
    (λ some text more others p h joined. (
      36 ∷ [],
      (decimal (length p) ++ crlf) ++ (p ++ (crlf ++ others)),
      tt,
      refl,
      joined ∙ ap (λ (xs : List ℕ). xs ++ others) h.1 ∙ bulk_text p others,
    ))
    stopped

pub part_length : (bytes rest : List ℕ) (e : Stop) → bytes ≡ 36 ∷ rest → Stops LengthLine rest e → Stops PartText bytes e
part_length bytes rest e is stopped =
    stops_behind LengthLine PartText (36 ∷ []) rest bytes e is (decimal 0 ++ crlf, 0, (omega arith, refl))
    (λ t n h. (
      replicate n 0 ++ crlf,
      replicate n 0,
      (
        zeros_part n h.0,
        rw (
          h.1,
          length-replicate {A = ℕ} n 0,
        ) (ap (λ (xs : List ℕ). 36 ∷ xs) (sym (append_assoc (decimal n ++ crlf) (replicate n 0) crlf))),
      ),
    ))
    (λ some text more others p h joined.
    let spelled : 36 ∷ (rest ++ more) ≡ 36 ∷ ((decimal (length p) ++ crlf) ++ (p ++ (crlf ++ others))) =
    joined ∙ ap (λ (xs : List ℕ). xs ++ others) h.1 ∙ bulk_text p others in
    (decimal (length p) ++ crlf, p ++ (crlf ++ others), length p, (h.0.short, refl), cc))
    stopped

pub part_short : (bytes line rest : List ℕ) (len : ℕ) → bytes ≡ 36 ∷ (line ++ rest) → LengthLine line len → length rest < len → All (λ b. b < 256) rest
    → Stops PartText bytes More
part_short bytes line rest len is h less bytes_fit =
    let gap = len - length rest in
    let whole : List ℕ = rest ++ replicate gap 0 in
    let whole_len : length whole ≡ len = omega (arith, length-append rest (replicate gap 0), length-replicate {A = ℕ} gap 0) in
    let fits : IsPart whole =
    record {
      short = omega (arith, h.0);
      bytes = All-append (λ b. b < 256) rest (replicate gap 0) bytes_fit (All-replicate (λ b. b < 256) gap 0 (omega arith));
    } in (
      replicate gap 0 ++ crlf,
      whole,
      omega (arith, length-append (replicate gap 0) crlf),
      (fits, rw (is, h.1, whole_len) (joined_text (decimal len) rest (replicate gap 0))),
    )

pub part_end : (bytes line part rest : List ℕ) (len : ℕ) (e : Stop) → bytes ≡ 36 ∷ (line ++ (part ++ rest)) → LengthLine line len → length part ≡ len
    → All (λ b. b < 256) part → Stops (Only crlf) rest e → Stops PartText bytes e
part_end bytes line part rest len e is h same_len bytes_fit stopped =
    let fits : IsPart part = record { short = omega (arith, h.0); bytes = bytes_fit } in
    stops_behind (Only crlf) PartText (36 ∷ (line ++ part)) rest bytes e (is ∙ ap (λ (xs : List ℕ). 36 ∷ xs) (sym (append_assoc line part rest))) (
      crlf,
      tt,
      refl,
    )
    (λ t v same. ([], part, (fits, rw (append-nil t, same, h.1, same_len) refl)))
    (λ some text more others p g joined. (
      crlf,
      others,
      tt,
      refl,
      behind line part len p rest more others h fits same_len g.0 (joined ∙ ap (λ (xs : List ℕ). xs ++ others) g.1),
    ))
    stopped
  where
    behind : (line part : List ℕ) (len : ℕ) (p rest more others : List ℕ) → LengthLine line len → IsPart part → length part ≡ len → IsPart p
        → (36 ∷ (line ++ part)) ++ (rest ++ more) ≡ bulk p ++ others → rest ++ more ≡ crlf ++ others
    behind line part len p rest more others h fits same_len ip joined = grind (arith, common_steps, append_assoc, bulk_text, line_one_form, same_front)

pub part_text : (bytes line part rest after : List ℕ) (len : ℕ) → bytes ≡ 36 ∷ (line ++ (part ++ rest)) → LengthLine line len → length part ≡ len
    → All (λ b. b < 256) part → rest ≡ crlf ++ after → (text : List ℕ) × PartText text part × (bytes ≡ text ++ after)
part_text bytes line part rest after len is h same_len bytes_fit ended = grind (arith, common_steps, bulk_text)

-- ---- requests

-- a request's text before other bytes, from left to right
pub array_text : (parts : List (List ℕ)) (others : List ℕ)
    → array_of_bulks parts ++ others ≡ 42 ∷ ((decimal (length parts) ++ crlf) ++ (flat_map bulk parts ++ others))
array_text parts others = ap (λ (xs : List ℕ). 42 ∷ xs) (append_assoc (decimal (length parts) ++ crlf) (flat_map bulk parts) others)

-- as many parts with one text are the same
parts_one_form : (ps qs : List (List ℕ)) (a b : List ℕ) → length ps ≡ length qs → All IsPart ps → All IsPart qs → flat_map bulk ps ++ a ≡ flat_map bulk qs ++ b
    → (ps ≡ qs) × (a ≡ b)
parts_one_form [] [] a b len ips iqs e = (refl, e)
parts_one_form (p ∷ ps) (q ∷ qs) a b len ips iqs e =
    let one = bulk_one_form p q (flat_map bulk ps ++ a) (flat_map bulk qs
    ++ b) (All-head IsPart p ps ips) (All-head IsPart q qs iqs) (sym (append_assoc (bulk p) (flat_map bulk ps) a) ∙ e
    ∙ append_assoc (bulk q) (flat_map bulk qs) b) in
    grind (arith, one, parts_one_form ps qs a b (omega arith) (All-tail IsPart p ps ips) (All-tail IsPart q qs iqs) one.1)
parts_one_form ps qs a b len ips iqs e = absurd (omega arith)

-- one request's text doesn't begin another's
pub array_one_form : (ps qs : List (List ℕ)) (a b : List ℕ) → IsRequest ps → IsRequest qs → array_of_bulks ps ++ a ≡ array_of_bulks qs ++ b
    → (ps ≡ qs) × (a ≡ b)
array_one_form ps qs a b ips iqs e = grind (arith, common_steps, array_text, line_one_form, parts_one_form)

-- after some of a request's parts, the next one follows
next_part : (done ps : List (List ℕ)) (a b : List ℕ) → All IsPart done → All IsPart ps → length done < length ps
    → flat_map bulk done ++ a ≡ flat_map bulk ps ++ b → (t c : List ℕ) × (p : List ℕ) × PartText t p × (a ≡ t ++ c)
next_part done [] a b idone ips less e = absurd (omega arith)
next_part [] (p ∷ ps) a b idone ips less e =
    (bulk p, flat_map bulk ps ++ b, p, (All-head IsPart p ps ips, refl), e ∙ append_assoc (bulk p) (flat_map bulk ps) b)
next_part (d ∷ done) (p ∷ ps) a b idone ips less e =
    let one = bulk_one_form d p (flat_map bulk done ++ a) (flat_map bulk ps
    ++ b) (All-head IsPart d done idone) (All-head IsPart p ps ips) (sym (append_assoc (bulk d) (flat_map bulk done) a) ∙ e
    ∙ append_assoc (bulk p) (flat_map bulk ps) b) in
    next_part done ps a b (All-tail IsPart d done idone) (All-tail IsPart p ps ips) (omega arith) one.1

empty_parts : (n : ℕ) → All IsPart (replicate n [])
empty_parts n = All-replicate IsPart n [] empty_part

empty_request : (n : ℕ) → 1 ≤ n → n ≤ 4 → IsRequest (replicate n [])
empty_request n some few =
    record { some = omega (arith, length-replicate {A = List ℕ} n []); few = omega (arith, length-replicate {A = List ℕ} n []); each = empty_parts n }

pub request_mark : (bytes : List ℕ) (e : Stop) → Stops (Only (42 ∷ [])) bytes e → Stops Spells bytes e
request_mark bytes e stopped =
    stops_behind (Only (42 ∷ [])) Spells [] bytes bytes e refl (42 ∷ [], tt, refl)
    (λ t v is. (
      (decimal 1 ++ crlf) ++ flat_map bulk ([] ∷ []),
      [] ∷ [],
      (
        record { some = omega arith; few = omega arith; each = All-cons IsPart [] [] empty_part (All-nil IsPart) },
        ap (λ (xs : List ℕ). xs ++ ((decimal 1 ++ crlf) ++ flat_map bulk ([] ∷ []))) is,
      ),
    ))
    (λ some text more others ps h joined. (
      42 ∷ [],
      (decimal (length ps) ++ crlf) ++ (flat_map bulk ps ++ others),
      tt,
      refl,
      joined ∙ ap (λ (xs : List ℕ). xs ++ others) h.1 ∙ array_text ps others,
    ))
    stopped

pub request_count : (bytes rest : List ℕ) (e : Stop) → bytes ≡ 42 ∷ rest → Stops CountLine rest e → Stops Spells bytes e
request_count bytes rest e is stopped =
    stops_behind CountLine Spells (42 ∷ []) rest bytes e is (decimal 1 ++ crlf, 1, (omega arith, omega arith, refl))
    (λ t n h. (flat_map bulk (replicate n []), replicate n [], (empty_request n h.0 h.1, rw (h.2, length-replicate {A = List ℕ} n []) refl)))
    (λ some text more others ps h joined.
    let spelled : 42 ∷ (rest ++ more) ≡ 42 ∷ ((decimal (length ps) ++ crlf) ++ (flat_map bulk ps ++ others)) =
    joined ∙ ap (λ (xs : List ℕ). xs ++ others) h.1 ∙ array_text ps others in
    (decimal (length ps) ++ crlf, flat_map bulk ps ++ others, length ps, (h.0.some, h.0.few, refl), cc))
    stopped

-- a request's line, and the parts so far
abbrev pub request_front : ℕ → List (List ℕ) → List ℕ
request_front count parts = 42 ∷ ((decimal count ++ crlf) ++ flat_map bulk parts)

-- what stands before the rest, while the parts are read
pub record IsReadTo (bytes : List ℕ) (count i : ℕ) (parts : List (List ℕ)) (rest : List ℕ) : Type 0 where
  pub some : 1 ≤ count
  pub few : count ≤ 4
  pub len : length parts ≡ i
  pub each : All IsPart parts
  pub text : bytes ≡ request_front count parts ++ rest

pub read_start : (bytes rest line after : List ℕ) (count : ℕ) → bytes ≡ 42 ∷ rest → CountLine line count → rest ≡ line ++ after
    → IsReadTo bytes count 0 [] after
read_start bytes rest line after count is h line_is = grind (arith, common_steps, append-nil)

pub read_more : (bytes : List ℕ) (count i : ℕ) (parts : List (List ℕ)) (rest part line after : List ℕ) → IsReadTo bytes count i parts rest → PartText line part
    → rest ≡ line ++ after → IsReadTo bytes count (i + 1) (parts ++ part ∷ []) after
read_more bytes count i parts rest part line after so_far h is = grind (arith, common_steps, length-append, flat_map-append, append-nil, append_assoc)

pub read_stops : (bytes : List ℕ) (count i : ℕ) (parts : List (List ℕ)) (rest : List ℕ) (e : Stop) → IsReadTo bytes count i parts rest → i < count
    → Stops PartText rest e → Stops Spells bytes e
read_stops bytes count i parts rest e so_far less stopped =
    stops_behind PartText Spells (request_front count parts) rest bytes e so_far.text (bulk [], [], (empty_part, refl))
    (λ t p h. (flat_map bulk (replicate (count - i - 1) []), parts ++ p ∷ replicate (count - i - 1) [], (whole p h.0, made t p h.1)))
    (λ some text more others ps h joined.
    let spelled : 42 ∷ ((decimal count ++ crlf) ++ (flat_map bulk parts ++ (rest ++ more)))
    ≡ 42 ∷ ((decimal (length ps) ++ crlf) ++ (flat_map bulk ps ++ others)) =
    ap (λ (xs : List ℕ). 42 ∷ xs) (sym (append_assoc (decimal count ++ crlf) (flat_map bulk parts) (rest ++ more))) ∙ joined
    ∙ ap (λ (xs : List ℕ). xs ++ others) h.1 ∙ array_text ps others in
    let lines : (decimal count ++ crlf) ++ (flat_map bulk parts ++ (rest ++ more)) ≡ (decimal (length ps) ++ crlf) ++ (flat_map bulk ps ++ others) = cc in
    let line = line_one_form count (length ps) (flat_map bulk parts ++ (rest ++ more)) (flat_map bulk ps
    ++ others) (omega (arith, so_far.few)) (omega (arith, h.0.few)) lines in
    next_part parts ps (rest ++ more) others so_far.each h.0.each (omega (arith, so_far.len, line.0)) line.1)
    stopped
  where
    gap : List (List ℕ)
    gap = replicate (count - i - 1) []

    len : (p : List ℕ) → length (parts ++ p ∷ replicate (count - i - 1) []) ≡ count
    len p = omega (arith, length-append parts (p ∷ replicate (count - i - 1) []), length-replicate {A = List ℕ} (count - i - 1) [], so_far.len)

    whole : (p : List ℕ) → IsPart p → IsRequest (parts ++ p ∷ replicate (count - i - 1) [])
    whole p ip = record {
      some = omega (arith, len p, so_far.some);
      few = omega (arith, len p, so_far.few);
      each = All-append IsPart parts (p
          ∷ replicate (count - i - 1) []) so_far.each (All-cons IsPart p (replicate (count - i - 1) []) ip (empty_parts (count - i - 1)));
    }

    made : (t p : List ℕ) → t ≡ bulk p
        → request_front count parts ++ (t ++ flat_map bulk (replicate (count - i - 1) [])) ≡ array_of_bulks (parts ++ p ∷ replicate (count - i - 1) [])
    made t p same = rw (
      same,
      len p,
      flat_map-append bulk parts (p ∷ replicate (count - i - 1) []),
    )
        (ap (λ (xs : List ℕ). 42 ∷ xs) (append_assoc (decimal count ++ crlf) (flat_map bulk parts) (bulk p ++ flat_map bulk (replicate (count - i - 1) []))))

pub read_all : (bytes : List ℕ) (count i : ℕ) (parts : List (List ℕ)) (rest : List ℕ) → IsReadTo bytes count i parts rest → i ≡ count
    → (text : List ℕ) × Spells text parts × (bytes ≡ text ++ rest)
read_all bytes count i parts rest so_far done = grind (arith, common_steps)
