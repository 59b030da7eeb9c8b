-- The lines of a script, and those that are printed.
use Rattle.std.specs.Fmt.{decimal}
use Rattle.std.specs.List.{filter, slice_split, onto_first}
use Rattle.std.specs.Prelude.{◌≡◌, ◌≢◌, ℕ, ◌≤◌, ◌==◌, ◌&&◌, not, List, [], ◌∷◌, ◌++◌, length, map, if◌then◌else◌}
use Rattle.std.specs.Prelude.{codes, bytes_eq}
use Rattle.model.specs.Grammar.{array_of_bulks}
use Rattle.model.specs.Map.{Bytes}

-- the lines of a text: each ends with a line feed, which the last may lack
abbrev pub lines_of : Bytes → List Bytes
lines_of [] = []
lines_of (byte ∷ bytes) = if byte == 10 then [] ∷ lines_of bytes else onto_first byte (lines_of bytes)

-- what stands between the spaces of a text, without what is empty
abbrev pub words_of : Bytes → List Bytes
words_of text = filter (λ word. not (length word == 0)) (slice_split (λ byte. byte == 32) text)

-- a request of the session that has this label
pub record ScriptLine : Type 0 where
  pub label : ℕ
  pub words : List Bytes

-- a label from 0 to 999,999, with no leading zero, and one to four words, parted by one or more spaces
pub record IsLine (text : Bytes) (line : ScriptLine) : Type 0 where
  pub small : line.label ≤ 999999
  pub some : 1 ≤ length line.words
  pub few : length line.words ≤ 4
  pub words : words_of text ≡ decimal line.label ∷ line.words
  pub first : (rest : Bytes) → text ≢ 32 ∷ rest
  pub last : (front : Bytes) → text ≢ front ++ 32 ∷ []

-- the text is no line
abbrev pub IsNoLine : Bytes → Type 0
IsNoLine text = (line : ScriptLine) → IsLine text line → ⊥

-- the part of a request that a word stands for: two double quotes stand for the empty one
abbrev pub part_of : Bytes → Bytes
part_of word = if bytes_eq word (codes "\"\"") then [] else word

-- the request frame of the words
abbrev pub frame_of : List Bytes → Bytes
frame_of words = array_of_bulks (map part_of words)

-- a text on one line: its last carriage return and line feed are dropped, and each other is a space
abbrev pub on_one_line : Bytes → Bytes
on_one_line [] = []
on_one_line (a ∷ []) = a ∷ []
on_one_line (a ∷ b ∷ rest) =
    if (a == 13) && (b == 10)
    then (if length rest == 0 then [] else 32 ∷ on_one_line rest)
    else a ∷ on_one_line (b ∷ rest)

-- the line that is printed for a reply
abbrev pub printed_line : ℕ → Bytes → Bytes
printed_line label reply = decimal label ++ 32 ∷ on_one_line reply ++ 10 ∷ []
