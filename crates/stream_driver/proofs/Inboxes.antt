-- The beginning of a request is short: an inbox that holds no more has room.
use Rattle.std.proofs.Common.{lit<, ◌≡◌, ℕ, ◌*◌, ◌<◌, ◌≤◌, List, ◌++◌, length, sum_by, sym, subst, arith}
use Rattle.std.proofs.Common.{length-append}
use Rattle.std.proofs.lemmas.Fmt.{length-decimal-le}
use Rattle.std.proofs.lemmas.List.Concat.{length-flat_map}
use Rattle.std.proofs.lemmas.List.Elements.{All-weaker}
use Rattle.std.proofs.lemmas.List.Sums.{sum_by-le}
use Rattle.std.specs.Fmt.{decimal}
use Rattle.std.specs.List.{flat_map}
use Rattle.model.specs.Bounds.{value_digits, part_max, frame_max, inbox_max}
use Rattle.model.specs.Grammar.{bulk, array_of_bulks, IsPart, IsRequest, IsProperBeginning}

bulk_short : (part : List ℕ) → IsPart part → length (bulk part) ≤ part_max
bulk_short part is =
    let digits : length (decimal (length part)) ≤ value_digits =
    length-decimal-le value_digits (length part) (lit< tt) (omega (arith, is.short)) (omega (arith, is.short)) in
    simp length-append (omega (arith, is.short))

request_short : (parts : List (List ℕ)) → IsRequest parts → length (array_of_bulks parts) ≤ frame_max
request_short parts is =
    let digits : length (decimal (length parts)) ≤ 1 = length-decimal-le 1 (length parts) (lit< tt) (omega (arith, is.few)) (omega (arith, is.few)) in
    let short = All-weaker IsPart (λ p. length (bulk p) ≤ part_max) bulk_short parts is.each in
    let each : sum_by (λ p. length (bulk p)) parts ≤ length parts * part_max = sum_by-le (λ p. length (bulk p)) part_max parts short in
    let all : length (flat_map bulk parts) ≡ sum_by (λ p. length (bulk p)) parts = length-flat_map bulk parts in
    simp length-append (omega (arith, is.few))

pub beginning_short : (inbox : List ℕ) → IsProperBeginning inbox → length inbox < inbox_max
beginning_short inbox b =
    let whole : length (inbox ++ b.0) ≤ frame_max = subst (λ l. length l ≤ frame_max) (sym b.3.1) (request_short b.1 b.3.0) in
    omega (arith, length-append inbox b.0)
