-- What a writer of some text leaves.
use Rattle.model.specs.declared.commands.Reply.TheVariants as replies
use Rattle.std.specs.Borrow.{Bor}
use Rattle.std.specs.Fmt.{decimal}
use Rattle.std.specs.Global.{Vec}
use Rattle.std.specs.Iterator.{AlwaysYields}
use Rattle.std.specs.List.{flat_map}
use Rattle.std.specs.Prelude.{◌≡◌, ℕ, ◌+◌, ◌≤◌, Option, List, [], ◌++◌, length, vec_len, vec_capacity, Result, OnOk}
use Rattle.std.specs.Prelude.{OnErr, IsOk}
use Rattle.model.specs.KeyBytes.{pair_bytes}
use Rattle.model.specs.Operations.Response.{Pairs}
use Rattle.model.specs.ReplyText.{reply_text, hex_text}
use Rattle.model.specs.declared.commands.Reply.{Reply}
use Rattle.model.specs.declared.keys.KeyRef.{KeyRef}
use Rattle.model.specs.declared.refusals.Memory.{Memory}
use Rattle.model.specs.declared.refusals.Refusal.{Refusal}
use Rattle.model.specs.declared.refusals.Refusal.TheVariants.{Overwritten, Pivot}

-- the text stands at the end of new, or new has what old had; it is never refused where old has the room
pub record AppendsText (old new : Vec ℕ) (text : List ℕ) (result : Result (Unit {0}) Memory) : Type 0 where
  pub ok : OnOk result (new.items ≡ old.items ++ text)
  pub err : OnErr result (new.items ≡ old.items)
  pub room : vec_len old + length text ≤ vec_capacity old → IsOk result
  pub capacity : vec_capacity old ≤ vec_capacity new

-- the pieces, one after the other
abbrev pub joined_pieces : List (Bor (List ℕ)) → List ℕ
joined_pieces pieces = flat_map (λ piece. piece.now) pieces

-- the most digits of a u64
abbrev pub digits_max : ℕ
digits_max = 20

-- the most bytes of a refusal's words
abbrev pub words_max : ℕ
words_max = 24

-- what follows a refusal's words
abbrev pub detail : Refusal → List ℕ
detail (Overwritten key) = hex_text key
detail (Pivot n) = decimal n
detail other = []

-- every run of calls from pairs gives lent pairs with these bytes, n of them, and then `None`
abbrev pub GivesPairs : {S : Type 0} → (S → Option (KeyRef × Bor (List ℕ)) → S → Type 0) → S → ℕ
    → List (List ℕ × List ℕ) → Type 0
GivesPairs steps pairs n all = (length all ≡ n) × AlwaysYields steps pair_bytes pairs all

-- so it is of the text of the n pairs that the calls give
abbrev pub OfText : {S : Type 0} → (S → Option (KeyRef × Bor (List ℕ)) → S → Type 0) → S → ℕ → (List ℕ → Type 0)
    → Type 0
OfText steps pairs n P = (all : List (List ℕ × List ℕ)) → GivesPairs steps pairs n all → P (reply_text (Pairs all))

-- any reply but a value
abbrev pub IsBrief : Reply → Type 0
IsBrief (replies.Value bytes) = ⊥
IsBrief other = Unit {0}
