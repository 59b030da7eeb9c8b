-- The parts of a request, written one after the other.
use Rattle.std.proofs.Common.{◌≡◌, ℕ, ◌+◌, ◌<◌, ◌≤◌, List, ◌∷◌, ◌++◌, length, get_or, take, drop, map, sym, ap, ◌∙◌}
use Rattle.std.proofs.Common.{append_assoc, arith, length-append}
use Rattle.std.proofs.lemmas.Grind.{common_steps}
use Rattle.std.proofs.lemmas.List.{append-nil, map-append, take_more, take-append-drop}
use Rattle.std.proofs.lemmas.List.Concat.{flat_map-append}
use Rattle.std.specs.Borrow.{Bor}
use Rattle.std.specs.Fmt.{decimal}
use Rattle.std.specs.List.{flat_map}
use Rattle.model.specs.Grammar.{crlf, bulk, array_of_bulks}

-- the bytes of the parts
abbrev pub bytes_of : List (Bor (List ℕ)) → List (List ℕ)
bytes_of parts = map (λ part. part.now) parts

-- the line before n parts, and these parts
abbrev pub parts_text : ℕ → List (Bor (List ℕ)) → List ℕ
parts_text n parts = (42 ∷ decimal n ++ crlf) ++ flat_map bulk (bytes_of parts)

pub parts_more : (n : ℕ) (parts : List (Bor (List ℕ))) (i : ℕ) (d : Bor (List ℕ)) → i < length parts
    → parts_text n (take (i + 1) parts) ≡ parts_text n (take i parts) ++ bulk (get_or parts i d).now
parts_more n parts i d lt = grind (arith, common_steps, take_more, map-append, flat_map-append, append-nil, append_assoc)

-- the line and all the parts are the request
pub parts_all : (n : ℕ) (parts : List (Bor (List ℕ))) → length (bytes_of parts) ≡ n → parts_text n parts ≡ array_of_bulks (bytes_of parts)
parts_all n parts e = ap (λ (k : ℕ). parts_text k parts) (sym e)

-- a front of the parts has no longer text than all
pub parts_front : (n : ℕ) (parts : List (Bor (List ℕ))) (i : ℕ) → length (parts_text n (take i parts)) ≤ length (parts_text n parts)
parts_front n parts i =
    let now = λ (part : Bor (List ℕ)). part.now in
    let line = 42 ∷ decimal n ++ crlf in
    let front = take i parts in
    let behind = drop i parts in
    let whole : flat_map bulk (bytes_of parts) ≡ flat_map bulk (bytes_of front) ++ flat_map bulk (bytes_of behind) =
    ap (λ (ps : List (Bor (List ℕ))). flat_map bulk (bytes_of ps)) (sym (take-append-drop i parts))
    ∙ ap (flat_map bulk) (map-append now front behind)
    ∙ flat_map-append bulk (bytes_of front) (bytes_of behind) in
    omega (
      arith,
      ap length whole,
      length-append (flat_map bulk (bytes_of front)) (flat_map bulk (bytes_of behind)),
      length-append line (flat_map bulk (bytes_of parts)),
      length-append line (flat_map bulk (bytes_of front)),
    )
