-- The text of each reply. The forms are RESP2's: simple string, error, integer, bulk string, null bulk string, array.
-- The words of the errors are this project's own.
use Rattle.model.specs.declared.refusals.Refusal.TheVariants as refusals
use Rattle.std.specs.Prelude.{ℕ, ◌*◌, ◌/◌, ◌%◌, List, [], ◌∷◌, ◌++◌, length, slice_index, codes, Some, None, flat_map}
use Rattle.std.specs.Prelude.{decimal}
use Rattle.model.specs.Grammar.{crlf, bulk}
use Rattle.model.specs.Operations.{Response}
use Rattle.model.specs.Operations.Response.{Done, Pong, Number, Value, Pairs, Refused}
use Rattle.model.specs.declared.refusals.Refusal.{Refusal}

-- a byte as two hex digits in lower case
abbrev pub hex_digit : ℕ → ℕ
hex_digit d = slice_index (codes "0123456789abcdef") d

abbrev pub hex_text : List ℕ → List ℕ
hex_text [] = []
hex_text (b ∷ bytes) = hex_digit (b / 16) ∷ hex_digit (b % 16) ∷ hex_text bytes

abbrev pub refusal_text : Refusal → List ℕ
refusal_text refusals.BadFrame = codes "ERR frame"
refusal_text refusals.UnknownCommand = codes "ERR command"
refusal_text refusals.BadArguments = codes "ERR arguments"
refusal_text refusals.BadKey = codes "ERR key"
refusal_text refusals.BadLimit = codes "ERR limit"
refusal_text refusals.AlreadyOpen = codes "ERR open"
refusal_text refusals.NotOpen = codes "ERR none"
refusal_text refusals.FullWrites = codes "FULL writes"
refusal_text refusals.FullMarks = codes "FULL marks"
refusal_text refusals.FullTransactions = codes "FULL transactions"
refusal_text (refusals.Overwritten key) = codes "CONFLICT overwritten " ++ hex_text key
refusal_text refusals.PivotSelf = codes "CONFLICT pivot self"
refusal_text (refusals.Pivot n) = codes "CONFLICT pivot " ++ decimal n
refusal_text refusals.FullLog = codes "FULL log"
refusal_text refusals.StoreFault = codes "STORE fault"
refusal_text refusals.StoreStopped = codes "STORE stopped"
refusal_text refusals.FullNumbers = codes "FULL numbers"

-- a pair's key and value, as bulks
abbrev pub pair_text : List ℕ × List ℕ → List ℕ
pair_text pair = bulk pair.0 ++ bulk pair.1

abbrev pub reply_text : Response → List ℕ
reply_text Done = codes "+OK" ++ crlf
reply_text Pong = codes "+PONG" ++ crlf
reply_text (Number n) = codes ":" ++ decimal n ++ crlf
reply_text (Value None) = codes "$-1" ++ crlf
reply_text (Value (Some bytes)) = bulk bytes
reply_text (Pairs all) = codes "*" ++ decimal (2 * length all) ++ crlf ++ flat_map pair_text all
reply_text (Refused refusal) = codes "-" ++ refusal_text refusal ++ crlf
