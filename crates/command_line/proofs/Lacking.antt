-- Where the words ask for nothing.
use Rattle.std.proofs.Common.{◌≡◌, ◌⊎◌, ◌∙◌, ◌<◌, ◌≤◌, ◌^◌, ℕ, true, false, true≢false, List, Option, Some, None}
use Rattle.std.proofs.Common.{Result, Ok, Err, ap, inl, inr, refl, subst, sym}
use Rattle.std.proofs.Math.Nat.{lt_of_le_of_lt}
use Rattle.std.specs.Prelude.{IfErr, IsErrAnd, codes, option_map}
use Rattle.std.specs.Str.{bytes_eq}
use Rattle.std.specs.Str.Parse.{IsNumeral, digits_value, without_leading_plus}
use Rattle.clap.proofs.WalkLemmas.{one_text-rows}
use Rattle.clap.specs.Faults.{fault_of}
use Rattle.clap.specs.Kinds.{HasKind, IsAmong}
use Rattle.clap.specs.Matches.{one_text, subcommand_name_of}
use Rattle.clap.specs.Simple.{App, HasMatchesOf, is_simple, subcommand_of, subcommand_rows_of}
use Rattle.clap.specs.Values.{kind_of}
use Rattle.clap.specs.Walk.{Row, Text, first_of, rows_of}
use Rattle.clap.specs.declared.error.Error.{Error}
use Rattle.clap.specs.declared.error.kind.ErrorKind.TheVariants.{OutOfMemory}
use Rattle.clap.specs.declared.parser.matches.ArgMatches.{ArgMatches}
use Rattle.clap.specs.declared.parser.matches.ArgMatches.TheViews.{out-ArgMatches}
use Rattle.clap.specs.declared.parser.matches.Found.{Found}
use Rattle.command_line.proofs.Given.{both_given, is_plain}
use Rattle.command_line.specs.Asking.{AskForNothing, Gives, HasText, LacksNumber, CommandAsks, name_of}
use Rattle.command_line.specs.Ranges.{IsInRange}
use Rattle.command_line.specs.Usage.{the_command_line}
use Rattle.command_line.specs.declared.invocation.Invocation.{Invocation}
use Rattle.command_line.specs.declared.invocation.Invocation.TheVariants.{Create, Serve, Check, Compact, Play}

-- ---- a number

-- the text that was given reads as no number
pub lacks_unread : (found : Found) (id : Text) (most : ℕ) → most < 2 ^ 64
    → ((t : Text) → one_text found id ≡ Some t
    → IsNumeral 10 (without_leading_plus t) × (digits_value 10 (without_leading_plus t) < 2 ^ 64) → ⊥)
    → LacksNumber (rows_of found) id most
lacks_unread found id most fits unread n range has =
    let below : digits_value 10 (without_leading_plus has.0) < 2 ^ 64 =
    subst (λ k. k < 2 ^ 64) has.3 (lt_of_le_of_lt range.1 fits) in
    unread has.0 (one_text-rows found id ∙ has.1) (has.2, below)

-- it reads as one that is out of range
pub lacks_outside : (found : Found) (id : Text) (most m : ℕ)
    → ((t : Text) → one_text found id ≡ Some t → m ≡ digits_value 10 (without_leading_plus t))
    → ((2 ≤ m) × (m ≤ most) → ⊥) → LacksNumber (rows_of found) id most
lacks_outside found id most m reads outside n range has =
    outside (subst (λ k. (2 ≤ k) × (k ≤ most)) (has.3 ∙ sym (reads has.0 (one_text-rows found id ∙ has.1))) range)

-- ---- a command

none≢some : {X : Type 0} (o : Option X) (x : X) → o ≡ None → o ≡ Some x → ⊥
none≢some o x e f = let never = sym e ∙ f in cc

-- two names that differ
differ : (a b : Text) → bytes_eq a a ≡ true → bytes_eq a b ≡ false → a ≡ b → ⊥
differ a b same apart e = true≢false (sym same ∙ ap (bytes_eq a) e ∙ apart)

module _ (rows : List Row) where
  -- `create` asks for nothing
  pub create_lacks : (first_of (codes "data") rows ≡ None) ⊎ LacksNumber rows (codes "sectors") 4194304
      → (invocation : Invocation) → IsInRange invocation → CommandAsks (codes "create") rows invocation → ⊥
  create_lacks why (Create file n) range means = elim why [
    | inl none ↦ none≢some (first_of (codes "data") rows) file.now none means.1.0
    | inr lacks ↦ lacks n range means.1.1
  ]
  create_lacks why (Serve file listen) range means = differ (codes "create") (codes "serve") refl refl means.0
  create_lacks why (Check file) range means = differ (codes "create") (codes "check") refl refl means.0
  create_lacks why (Compact from to n) range means = differ (codes "create") (codes "compact") refl refl means.0
  create_lacks why (Play n) range means = differ (codes "create") (codes "play") refl refl means.0

  -- `serve` asks for nothing
  pub serve_lacks : (first_of (codes "data") rows ≡ None) ⊎ (first_of (codes "listen") rows ≡ None)
      → (invocation : Invocation) → IsInRange invocation → CommandAsks (codes "serve") rows invocation → ⊥
  serve_lacks why (Serve file listen) range means = elim why [
    | inl none ↦ none≢some (first_of (codes "data") rows) file.now none means.1.0
    | inr none ↦ none≢some (first_of (codes "listen") rows) listen.now none means.1.1
  ]
  serve_lacks why (Create file n) range means = differ (codes "serve") (codes "create") refl refl means.0
  serve_lacks why (Check file) range means = differ (codes "serve") (codes "check") refl refl means.0
  serve_lacks why (Compact from to n) range means = differ (codes "serve") (codes "compact") refl refl means.0
  serve_lacks why (Play n) range means = differ (codes "serve") (codes "play") refl refl means.0

  -- `check` asks for nothing
  pub check_lacks : first_of (codes "data") rows ≡ None → (invocation : Invocation) → IsInRange invocation → CommandAsks (codes "check") rows invocation → ⊥
  check_lacks none (Check file) range means = none≢some (first_of (codes "data") rows) file.now none means.1
  check_lacks none (Create file n) range means = differ (codes "check") (codes "create") refl refl means.0
  check_lacks none (Serve file listen) range means = differ (codes "check") (codes "serve") refl refl means.0
  check_lacks none (Compact from to n) range means = differ (codes "check") (codes "compact") refl refl means.0
  check_lacks none (Play n) range means = differ (codes "check") (codes "play") refl refl means.0

  -- `compact` asks for nothing where an option has no text, or one of sectors that is no number in range
  pub compact_lacks_text : (first_of (codes "from") rows ≡ None) ⊎ (first_of (codes "to") rows ≡ None)
      → (invocation : Invocation) → IsInRange invocation → CommandAsks (codes "compact") rows invocation → ⊥
  compact_lacks_text why (Compact from to n) range means = elim why [
    | inl none ↦ none≢some (first_of (codes "from") rows) from.now none means.1.0
    | inr none ↦ none≢some (first_of (codes "to") rows) to.now none means.1.1
  ]
  compact_lacks_text why (Create file n) range means = differ (codes "compact") (codes "create") refl refl means.0
  compact_lacks_text why (Serve file listen) range means = differ (codes "compact") (codes "serve") refl refl means.0
  compact_lacks_text why (Check file) range means = differ (codes "compact") (codes "check") refl refl means.0
  compact_lacks_text why (Play n) range means = differ (codes "compact") (codes "play") refl refl means.0

  pub compact_lacks_number : (text : Text) → HasText rows (codes "sectors") text → LacksNumber rows (codes "sectors") 4194304
      → (invocation : Invocation) → IsInRange invocation → CommandAsks (codes "compact") rows invocation → ⊥
  compact_lacks_number text has lacks (Compact from to (Some n)) range means = lacks n range means.1.2
  compact_lacks_number text has lacks (Compact from to None) range means = none≢some (first_of (codes "sectors") rows) text means.1.2 has
  compact_lacks_number text has lacks (Create file n) range means = differ (codes "compact") (codes "create") refl refl means.0
  compact_lacks_number text has lacks (Serve file listen) range means = differ (codes "compact") (codes "serve") refl refl means.0
  compact_lacks_number text has lacks (Check file) range means = differ (codes "compact") (codes "check") refl refl means.0
  compact_lacks_number text has lacks (Play n) range means = differ (codes "compact") (codes "play") refl refl means.0

  -- `play` asks for nothing
  pub play_lacks : LacksNumber rows (codes "sectors") 65536 → (invocation : Invocation) → IsInRange invocation → CommandAsks (codes "play") rows invocation → ⊥
  play_lacks lacks (Play n) range means = lacks n range means.1
  play_lacks lacks (Create file n) range means = differ (codes "play") (codes "create") refl refl means.0
  play_lacks lacks (Serve file listen) range means = differ (codes "play") (codes "serve") refl refl means.0
  play_lacks lacks (Check file) range means = differ (codes "play") (codes "check") refl refl means.0
  play_lacks lacks (Compact from to n) range means = differ (codes "play") (codes "compact") refl refl means.0

-- ---- a command line

both_same : (a b : Text) (x y : List Row) → ◌≡◌ {A = Option (Text × List Row)} (Some (a, x)) (Some (b, y)) → (a ≡ b) × (x ≡ y)
both_same a b x y e =
    let same : ◌≡◌ {A = Text × List Row} (a, x) (b, y) = cc in
    (ap (λ p. p.0) same, ap (λ p. p.1) same)

-- the parser refuses the words
pub refused : (command : App) (words : List Text) (error : Error) → command ≡ the_command_line → HasKind (fault_of command words) error
    → (kind_of error ≡ OutOfMemory) ⊎ AskForNothing words
refused command words error is kinds = elim kinds [
  | inl memory ↦ inl memory
  | inr among ↦ inr (λ invocation range asks. subst (IsAmong (kind_of error)) (ap (λ a. fault_of a words) is ∙ asks.taken) among)
]

-- it takes them, and they name no command
pub unnamed : (command : App) (words : List Text) (m : ArgMatches) → command ≡ the_command_line → HasMatchesOf command words m
    → None ≡ option_map (λ p. p.1) (subcommand_rows_of m) → AskForNothing words
unnamed command words m is matches none invocation range asks =
    let all = matches (ap is_simple is ∙ is_plain) in
    let named : subcommand_rows_of m ≡ Some (name_of invocation, asks.options) = all.1 ∙ ap (λ a. subcommand_of a words) is ∙ asks.named in
    none≢some (option_map (λ (p : Text × List Row). p.1) (subcommand_rows_of m)) asks.options (sym none)
    (ap (option_map (λ (p : Text × List Row). p.1)) named)

-- they name a command that asks for nothing
pub meant_nothing : (command : App) (words : List Text) (m : ArgMatches) (name : Text) (rows : List Row) → command ≡ the_command_line
    → HasMatchesOf command words m → Some name ≡ subcommand_name_of m → Some rows ≡ option_map (λ p. p.1) (subcommand_rows_of m)
    → ((invocation : Invocation) → IsInRange invocation → CommandAsks name rows invocation → ⊥) → AskForNothing words
meant_nothing command words m name rows is matches named given nothing invocation range asks =
    let all = matches (ap is_simple is ∙ is_plain) in
    let here : ◌≡◌ {A = Option (Text × List Row)} (Some (name, rows)) (Some (name_of invocation, asks.options)) =
    sym (both_given (out-ArgMatches m).subcommand name rows named given) ∙ all.1 ∙ ap (λ a. subcommand_of a words) is ∙ asks.named in
    let same : (name ≡ name_of invocation) × (rows ≡ asks.options) = both_same name (name_of invocation) rows asks.options here in
    nothing invocation range (same.0, subst (λ r. Gives r invocation) (sym same.1) asks.given)

-- ---- a refusal

-- `?` passes an error on
pub passed_on : {X : Type 0} (result : Result X Error) (error : Error) (P : Error → Type 0) → IsErrAnd result (λ x. x ≡ error) → P error → IfErr result P
passed_on (Ok x) error P is h = tt
passed_on (Err x) error P is h = subst P (sym is) h
