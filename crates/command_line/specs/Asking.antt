-- What the words of a command line ask for.
use Rattle.std.specs.Prelude.{◌≡◌, ◌⊎◌, ◌≤◌, ℕ, List, [], Option, Some, None, Result, Ok, Err, codes}
use Rattle.std.specs.Str.Parse.{IsNumeral, digits_value, without_leading_plus}
use Rattle.clap.specs.Faults.{fault_of}
use Rattle.clap.specs.Simple.{subcommand_of}
use Rattle.clap.specs.Walk.{Row, Text, first_of, one_of}
use Rattle.command_line.specs.Ranges.{IsInRange}
use Rattle.command_line.specs.Usage.{the_command_line}
use Rattle.command_line.specs.declared.invocation.Invocation.{Invocation}
use Rattle.command_line.specs.declared.invocation.Invocation.TheVariants.{Create, Serve, Check, Compact, Play}
use Rattle.command_line.specs.declared.refusals.Refusal.{Refusal}
use Rattle.command_line.specs.declared.refusals.Refusal.TheVariants.{Memory}

-- the option of this name was given this text
abbrev pub HasText : List Row → Text → Text → Type 0
HasText rows name text = first_of name rows ≡ Some text

-- the option of this name was given this number: in decimal digits, and a plus may stand first
abbrev pub HasNumber : List Row → Text → ℕ → Type 0
HasNumber rows name n = (text : Text) × (one_of name rows ≡ Some text) × IsNumeral 10 (without_leading_plus text)
    × (n ≡ digits_value 10 (without_leading_plus text))

-- the same of an option that may be left out
abbrev pub MayHaveNumber : List Row → Text → Option ℕ → Type 0
MayHaveNumber rows name (Some n) = HasNumber rows name n
MayHaveNumber rows name None = first_of name rows ≡ None

-- the name of the command that is asked for
abbrev pub name_of : Invocation → Text
name_of (Create file n) = codes "create"
name_of (Serve file listen) = codes "serve"
name_of (Check file) = codes "check"
name_of (Compact from to n) = codes "compact"
name_of (Play n) = codes "play"

-- what its options were given
abbrev pub Gives : List Row → Invocation → Type 0
Gives rows (Create file n) = HasText rows (codes "data") file.now × HasNumber rows (codes "sectors") n
Gives rows (Serve file listen) = HasText rows (codes "data") file.now × HasText rows (codes "listen") listen.now
Gives rows (Check file) = HasText rows (codes "data") file.now
Gives rows (Compact from to n) =
    HasText rows (codes "from") from.now × HasText rows (codes "to") to.now × MayHaveNumber rows (codes "sectors") n
Gives rows (Play n) = HasNumber rows (codes "sectors") n

-- the command of this name, with its options given so, asks for this
abbrev pub CommandAsks : Text → List Row → Invocation → Type 0
CommandAsks name rows invocation = (name ≡ name_of invocation) × Gives rows invocation

-- the words, the program's name first, are taken by the command line, name a command of it, and ask for this
pub record AsksFor (words : List Text) (invocation : Invocation) : Type 0 where
  pub options : List Row
  pub taken : fault_of the_command_line words ≡ []
  pub named : subcommand_of the_command_line words ≡ Some (name_of invocation, options)
  pub given : Gives options invocation

-- the words ask for nothing with numbers in range
abbrev pub AskForNothing : List Text → Type 0
AskForNothing words = (invocation : Invocation) → IsInRange invocation → AsksFor words invocation → ⊥

-- what is answered at the words: what they ask for, or a refusal, for memory or since they ask for nothing
abbrev pub AnswersTo : List Text → Result Invocation Refusal → Type 0
AnswersTo words (Ok invocation) = AsksFor words invocation
AnswersTo words (Err refusal) = (refusal ≡ Memory) ⊎ AskForNothing words

-- the same of the command of a name, and of one number
abbrev pub MeansNothing : Text → List Row → Type 0
MeansNothing name rows = (invocation : Invocation) → IsInRange invocation → CommandAsks name rows invocation → ⊥

abbrev pub LacksNumber : List Row → Text → ℕ → Type 0
LacksNumber rows name most = (n : ℕ) → (2 ≤ n) × (n ≤ most) → HasNumber rows name n → ⊥
