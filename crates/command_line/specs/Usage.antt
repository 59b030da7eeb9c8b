-- The command line as its usage says it: the commands, and the options of each.
use Rattle.std.specs.Prelude.{ℕ, List, [], ◌∷◌, Some, true, codes, fold}
use Rattle.clap.specs.Walk.{Rule, Text}
use Rattle.clap.specs.Simple.{App, new_app, new_rule, on_top, with_rule, with_subcommand}
use Rattle.clap.specs.declared.builder.action.ArgAction.TheVariants.{Set}
use Rattle.clap.specs.declared.builder.value_parser.ValueParser.TheVariants.{Unsigned}

-- `--name TEXT`
abbrev pub text : Text → Rule
text name = record (new_rule name) { long = Some name; value_names = 1; action = Some Set }

-- `--sectors N`, a number from 2 up to the most
abbrev pub sectors_up_to : ℕ → Rule
sectors_up_to most = record (text (codes "sectors")) { parser = Some (Unsigned 2 most) }

-- an option that must be given
abbrev pub wanted : Rule → Rule
wanted option = record option { required = true }

-- an option that has this value where it isn't given
abbrev pub with_default : Text → Rule → Rule
with_default value option = record option { defaults = value ∷ [] }

-- a command with these options
abbrev pub command : Text → List Rule → App
command name options = fold with_rule (new_app name) options

-- the program, which has a version and wants a command
abbrev pub bare_program : App
bare_program = on_top (λ top. record top { has_version = true; subcommand_required = true }) (new_app (codes "ssikvd"))

abbrev pub create : App
create = command (codes "create") (wanted (text (codes "data")) ∷ wanted (sectors_up_to 4194304) ∷ [])

abbrev pub serve : App
serve = command (codes "serve") (wanted (text (codes "data")) ∷ wanted (text (codes "listen")) ∷ [])

abbrev pub check : App
check = command (codes "check") (wanted (text (codes "data")) ∷ [])

abbrev pub compact : App
compact = command (codes "compact")
    (wanted (text (codes "from")) ∷ wanted (text (codes "to")) ∷ sectors_up_to 4194304 ∷ [])

abbrev pub play : App
play = command (codes "play") (with_default (codes "4096") (sectors_up_to 65536) ∷ [])

unfoldable pub the_command_line : App
the_command_line = fold (λ above below. with_subcommand above below.top) bare_program
    (create ∷ serve ∷ check ∷ compact ∷ play ∷ [])
