-- What a client may read from the texts of replies, one after another.
use Rattle.std.specs.Prelude.{◌≡◌, ℕ, ◌*◌, ◌^◌, ◌<◌, List, ◌++◌, length, Some, All, flat_map}
use Rattle.model.specs.Operations.{Response}
use Rattle.model.specs.Operations.Response.{Number, Value, Pairs, Refused}
use Rattle.model.specs.ReplyText.{reply_text}
use Rattle.model.specs.declared.refusals.Refusal.TheVariants.{Overwritten, Pivot}

-- numbers and lengths fit 64 bits, and the bytes of a key that is named are bytes
abbrev pub IsSendable : Response → Type 0
IsSendable (Number n) = n < 2 ^ 64
IsSendable (Value (Some bytes)) = length bytes < 2 ^ 64
IsSendable (Pairs all) = (2 * length all < 2 ^ 64) × All (λ p. (length p.0 < 2 ^ 64) × (length p.1 < 2 ^ 64)) all
IsSendable (Refused (Overwritten key)) = All (λ b. b < 256) key
IsSendable (Refused (Pivot n)) = n < 2 ^ 64
IsSendable other = Unit {0}

-- the texts of replies, one after another
abbrev pub texts_of : List Response → List ℕ
texts_of replies = flat_map reply_text replies

-- no reply's text begins another's, whatever follows either of them, and each is the text of one reply alone
abbrev pub OneReading : Type 0
OneReading = (r s : Response) (more others : List ℕ) → IsSendable r → IsSendable s →
    reply_text r ++ more ≡ reply_text s ++ others → (r ≡ s) × (more ≡ others)

-- replies whose texts begin those of others are the first of these, and what follows is the texts of the rest
abbrev pub FirstReplies : Type 0
FirstReplies = (first all : List Response) (more : List ℕ) → All IsSendable first → All IsSendable all →
    texts_of first ++ more ≡ texts_of all → (rest : List Response) × (all ≡ first ++ rest) × (more ≡ texts_of rest)
