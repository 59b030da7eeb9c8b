-- The table of commands: which operation a request's parts ask for, or which refusal they get. It is this project's
-- own. Of several faults the first is refused: the name, the number of parts, the keys from left to right, the limit.
use Rattle.model.specs.declared.refusals.Refusal.TheVariants as refusals
use Rattle.std.specs.Prelude.{ℕ, zero, suc, ◌==◌, ◌&&◌, nat_le, Bool, if◌then◌else◌, List, [], length, slice_index_or}
use Rattle.std.specs.Prelude.{codes, Option, Some, None, Result, Ok, Err, decimal}
use Rattle.std.specs.Str.{bytes_eq, str_eq_ignore_ascii_case}
use Rattle.model.specs.Operations.{Operation}
use Rattle.model.specs.Operations.Operation.{Begin, Get, Set, Del, Range, Commit, Abort, Ping}
use Rattle.model.specs.declared.refusals.Refusal.{Refusal}

-- the first refusal ends it
infixl 10 ◌>>=◌
abbrev pub ◌>>=◌ : {A B : Type 0} → Result A Refusal → (A → Result B Refusal) → Result B Refusal
(Ok x) >>= f = f x
(Err e) >>= f = Err e

-- part i of a request
abbrev pub part_at : List (List ℕ) → ℕ → List ℕ
part_at parts i = slice_index_or parts i []

-- as many parts as the command wants
abbrev pub arity : ℕ → List (List ℕ) → Result (Unit {0}) Refusal
arity n parts = if length parts == n then Ok tt else Err refusals.BadArguments

-- a key has 1 to 256 bytes
abbrev pub is_key : List ℕ → Bool
is_key bytes = nat_le 1 (length bytes) && nat_le (length bytes) 256

abbrev pub key_in : List ℕ → Result (List ℕ) Refusal
key_in bytes = if is_key bytes then Ok bytes else Err refusals.BadKey

-- an upper end that is empty is none
abbrev pub end_in : List ℕ → Result (Option (List ℕ)) Refusal
end_in bytes = if length bytes == 0 then Ok None else (key_in bytes >>= λ key. Ok (Some key))

-- the number from 1 to n whose decimal these digits are
unfoldable pub number_up_to : ℕ → List ℕ → Option ℕ
number_up_to zero digits = None
number_up_to (suc n) digits = if bytes_eq digits (decimal (suc n)) then Some (suc n) else number_up_to n digits

abbrev pub or_limit : Option ℕ → Result ℕ Refusal
or_limit None = Err refusals.BadLimit
or_limit (Some n) = Ok n

abbrev pub limit_in : List ℕ → Result ℕ Refusal
limit_in digits = or_limit (number_up_to 128 digits)

-- a command without arguments
unfoldable pub alone_in : Operation → List (List ℕ) → Result Operation Refusal
alone_in command parts = do
  _ ← arity 1 parts
  Ok command

unfoldable pub get_in : List (List ℕ) → Result Operation Refusal
get_in parts = do
  _ ← arity 2 parts
  key ← key_in (part_at parts 1)
  Ok (Get key)

unfoldable pub set_in : List (List ℕ) → Result Operation Refusal
set_in parts = do
  _ ← arity 3 parts
  key ← key_in (part_at parts 1)
  Ok (Set key (part_at parts 2))

unfoldable pub del_in : List (List ℕ) → Result Operation Refusal
del_in parts = do
  _ ← arity 2 parts
  key ← key_in (part_at parts 1)
  Ok (Del key)

unfoldable pub range_in : List (List ℕ) → Result Operation Refusal
range_in parts = do
  _ ← arity 4 parts
  lo ← key_in (part_at parts 1)
  hi ← end_in (part_at parts 2)
  limit ← limit_in (part_at parts 3)
  Ok (Range lo hi limit)

-- names are compared without regard to the case of their letters
abbrev pub is_named : List (List ℕ) → List ℕ → Bool
is_named parts name = str_eq_ignore_ascii_case (part_at parts 0) name

-- the first part names the command
unfoldable pub command_in : List (List ℕ) → Result Operation Refusal
command_in parts =
    if is_named parts (codes "BEGIN") then alone_in Begin parts
    else if is_named parts (codes "GET") then get_in parts
    else if is_named parts (codes "SET") then set_in parts
    else if is_named parts (codes "DEL") then del_in parts
    else if is_named parts (codes "RANGE") then range_in parts
    else if is_named parts (codes "COMMIT") then alone_in Commit parts
    else if is_named parts (codes "ABORT") then alone_in Abort parts
    else if is_named parts (codes "PING") then alone_in Ping parts
    else Err refusals.UnknownCommand
