-- How long the text of a reply is.
use Rattle.std.proofs.Common.{◌≡◌, ℕ, ◌*◌, ◌≤◌, [], ◌∷◌, length, Option, Some, None, Result, Ok, Err}
use Rattle.std.proofs.Common.{OnOk, OnErr, arith, length-append, IfSome, option_copied, Bor, flat_map}
use Rattle.std.proofs.lemmas.Fmt.{length-decimal-le}
use Rattle.model.specs.Bounds.{bulk_size, key_digits, key_max, part_max, range_reply_max}
use Rattle.model.specs.Grammar.{bulk}
use Rattle.model.specs.Key.{IsKey, IsValue}
use Rattle.model.specs.Map.{Bytes, KeyMap, IsInBounds}
use Rattle.model.specs.Operations.{Value, Pairs, Response}
use Rattle.model.specs.ReplyText.{reply_text, pair_text}
use Rattle.model.specs.declared.refusals.Memory.{Memory}
use Rattle.sessions.specs.Calls.{Writes}

key_bulk : (key : Bytes) → IsKey key → length (bulk key) ≤ bulk_size key_digits key_max
key_bulk key h =
    let digits = length-decimal-le 3 (length key) (omega arith) (omega (arith, h.1)) (omega (arith, h.1)) in
    simp length-append (omega (arith, h.1, digits))

value_bulk : (value : Bytes) → IsValue value → length (bulk value) ≤ part_max
value_bulk value h =
    let digits = length-decimal-le 5 (length value) (omega arith) (omega (arith, h)) (omega (arith, h)) in
    simp length-append (omega (arith, h, digits))

pairs_length : (all : KeyMap) → IsInBounds all → length (flat_map pair_text all) ≤ length all * 16658
pairs_length [] h = omega arith
pairs_length (p ∷ ps) h =
    let key = key_bulk p.0 h.0 in
    let value = value_bulk p.1 h.1 in
    let others = pairs_length ps h.2 in
    omega (arith, key, value, others, length-append (bulk p.0) (bulk p.1), length-append (pair_text p) (flat_map pair_text ps))

pub pairs_short : (all : KeyMap) → IsInBounds all → length all ≤ 128 → length (reply_text (Pairs all)) ≤ range_reply_max
pairs_short all h few =
    let digits = length-decimal-le 3 (2 * length all) (omega arith) (omega arith) (omega arith) in
    let others = pairs_length all h in
    simp length-append (omega (arith, digits, others))

pub value_short : (value : Option (Bor Bytes)) → IfSome value (λ v. IsValue v.now) → length (reply_text (Value (option_copied value))) ≤ range_reply_max
value_short None h = omega arith
value_short (Some v) h = let bytes = value_bulk v.now h in omega (arith, bytes)

-- what was written is as short as the text
pub written_short : (new text : Bytes) (n : ℕ) (result : Result (Unit {0}) Memory) →
    OnOk result (new ≡ text) → OnErr result (new ≡ []) → length text ≤ n → length new ≤ n
written_short new text n (Ok done) ok err h = rw ok h
written_short new text n (Err refused) ok err h = rw err (omega arith)

-- the same of a reply that always has room
pub brief_short : (new : Bytes) (response : Response) (result : Result (Unit {0}) Memory) →
    Writes (Some response) new result → length (reply_text response) ≤ 536 → length new ≤ range_reply_max
brief_short new response (Ok done) said h = rw said (omega (arith, h))
brief_short new response (Err refused) said h = absurd said
