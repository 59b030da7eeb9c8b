-- What the words gave, by what the parser found.
use Rattle.std.proofs.Common.{◌≡◌, ◌∙◌, ◌<◌, ◌^◌, ℕ, true, List, [], Option, Some, None, ap, refl, subst, sym}
use Rattle.std.specs.Prelude.{option_map}
use Rattle.std.specs.Box.{box_value}
use Rattle.std.specs.Str.Parse.{IsNumeral, digits_value, without_leading_plus}
use Rattle.std.specs.Prelude.{Box}
use Rattle.clap.proofs.WalkLemmas.{first_value-rows, one_text-rows}
use Rattle.clap.specs.Faults.{fault_of, is_simple_and_free}
use Rattle.clap.specs.Matches.{first_value, one_text, subcommand_name_of}
use Rattle.clap.specs.Simple.{App, HasMatchesOf, is_simple, subcommand_of, subcommand_rows}
use Rattle.clap.specs.Walk.{Row, Text, first_of, rows_of}
use Rattle.clap.specs.declared.parser.matches.ArgMatches.{ArgMatches}
use Rattle.clap.specs.declared.parser.matches.ArgMatches.TheViews.{out-ArgMatches, out-SubCommand}
use Rattle.clap.specs.declared.parser.matches.Found.{Found}
use Rattle.clap.specs.declared.parser.matches.SubCommand.{SubCommand}
use Rattle.command_line.specs.Asking.{AsksFor, HasNumber, HasText, CommandAsks}
use Rattle.command_line.specs.Usage.{the_command_line}
use Rattle.command_line.specs.declared.invocation.Invocation.{Invocation}

pub text_given : (found : Found) (id text : Text) → Some text ≡ first_value found id → HasText (rows_of found) id text
text_given found id text h = sym (first_value-rows found id) ∙ sym h

pub none_given : (found : Found) (id : Text) → None ≡ first_value found id → first_of id (rows_of found) ≡ None
none_given found id h = sym (first_value-rows found id) ∙ sym h

-- the text that reads as a number was given
pub number_given : (found : Found) (id : Text) (n : ℕ) → (one_text found id ≡ None → Some n ≡ None)
    → ((t : Text) → one_text found id ≡ Some t
    → (IsNumeral 10 (without_leading_plus t) × (digits_value 10 (without_leading_plus t) < 2 ^ 64)) × (n ≡ digits_value 10 (without_leading_plus t)))
    → HasNumber (rows_of found) id n
number_given found id n none reads = go (one_text found id) refl
  where
    go : (o : Option Text) → one_text found id ≡ o → HasNumber (rows_of found) id n
    go None e = let never = none e in cc
    go (Some t) e =
        let read = reads t e in
        (t, sym (one_text-rows found id) ∙ e, read.0.0, read.1)

module _ {Z : Type 0} where
  pub both_given : (met : Option (Box SubCommand Z)) (name : Text) (rows : List Row)
      → Some name ≡ option_map (λ b. (out-SubCommand (box_value b)).name.now) met → Some rows ≡ option_map (λ p. p.1) (subcommand_rows met)
      → subcommand_rows met ≡ Some (name, rows)
  both_given None name rows n r = cc
  both_given (Some b) name rows n r = cc

pub is_plain : is_simple the_command_line ≡ true
unfolding the_command_line
is_plain = refl

pub is_free : is_simple_and_free the_command_line ≡ true
unfolding the_command_line
is_free = refl

-- what the command means that the parser met is what the words ask for
pub met : (command : App) (words : List Text) (m : ArgMatches) (name : Text) (rows : List Row) (invocation : Invocation) → command ≡ the_command_line
    → (is_simple_and_free command ≡ true → fault_of command words ≡ []) → HasMatchesOf command words m → Some name ≡ subcommand_name_of m
    → Some rows ≡ option_map (λ p. p.1) (subcommand_rows (out-ArgMatches m).subcommand) → CommandAsks name rows invocation → AsksFor words invocation
met command words m name rows invocation is kinds matches named given means =
    let all = matches (ap is_simple is ∙ is_plain) in
    record {
      options = rows;
      taken = subst (λ a. fault_of a words ≡ []) is (kinds (ap is_simple_and_free is ∙ is_free));
      named = ap (λ a. subcommand_of a words) (sym is) ∙ sym all.1 ∙ both_given (out-ArgMatches m).subcommand name rows named given
          ∙ ap (λ (n : Text). Some (n, rows)) means.0;
      given = means.1;
    }
