-- Some command lines, and what they ask for.
use Rattle.std.proofs.Common.{◌≡◌, List, [], ◌∷◌, Option, Some, codes, refl}
use Rattle.std.specs.Prelude.{option_map}
use Rattle.clap.proofs.OnLiterals.{clap_on_literals}
use Rattle.clap.specs.Faults.{fault_of}
use Rattle.clap.specs.Simple.{subcommand_of}
use Rattle.clap.specs.Walk.{Text, first_of}
use Rattle.clap.specs.declared.error.kind.ErrorKind.TheVariants.{MissingRequiredArgument, ValueValidation}
use Rattle.command_line.specs.Usage.{the_command_line}

abbrev named : List Text → Option Text
named words = option_map (λ p. p.0) (subcommand_of the_command_line words)

abbrev given : List Text → Text → Option (Option Text)
given words name = option_map (λ p. first_of name p.1) (subcommand_of the_command_line words)

-- ssikvd compact --to=b --from a --sectors 12
abbrev compacts : List Text
compacts = codes "ssikvd" ∷ codes "compact" ∷ codes "--to=b" ∷ codes "--from" ∷ codes "a" ∷ codes "--sectors" ∷ codes "12" ∷ []

compacts_is_taken : fault_of the_command_line compacts ≡ []
unfolding clap_on_literals the_command_line
compacts_is_taken = refl

compacts_is_named : named compacts ≡ Some (codes "compact")
unfolding clap_on_literals the_command_line
compacts_is_named = refl

compacts_from : given compacts (codes "from") ≡ Some (Some (codes "a"))
unfolding clap_on_literals the_command_line
compacts_from = refl

compacts_to : given compacts (codes "to") ≡ Some (Some (codes "b"))
unfolding clap_on_literals the_command_line
compacts_to = refl

-- ssikvd play
abbrev plays : List Text
plays = codes "ssikvd" ∷ codes "play" ∷ []

plays_is_taken : fault_of the_command_line plays ≡ []
unfolding clap_on_literals the_command_line
plays_is_taken = refl

plays_sectors : given plays (codes "sectors") ≡ Some (Some (codes "4096"))
unfolding clap_on_literals the_command_line
plays_sectors = refl

-- ssikvd serve --data a
abbrev nowhere : List Text
nowhere = codes "ssikvd" ∷ codes "serve" ∷ codes "--data" ∷ codes "a" ∷ []

nowhere_is_refused : fault_of the_command_line nowhere ≡ MissingRequiredArgument ∷ []
unfolding clap_on_literals the_command_line
nowhere_is_refused = refl

-- ssikvd create --data a --sectors 1
abbrev too_few : List Text
too_few = codes "ssikvd" ∷ codes "create" ∷ codes "--data" ∷ codes "a" ∷ codes "--sectors" ∷ codes "1" ∷ []

too_few_is_refused : fault_of the_command_line too_few ≡ ValueValidation ∷ []
unfolding clap_on_literals the_command_line
too_few_is_refused = refl
