use Rattle.std.proofs.Common.{Ok, codes, ap, rules, ◌≡◌, ◌∙◌, false}
use Rattle.clap.specs.Simple.{new_app}
use Rattle.clap.specs.Walk.{rule_of}
use Rattle.command_line.specs.Usage.{sectors_up_to, with_default}
use Rattle.command_line.proofs.Steps.{option_added}
use Rattle.command_line.proofs.commands.play.Goals as goal

pub returns : goal.returns
returns c =
    let sectors_are : rule_of c.default_value-sectors.result ≡ with_default (codes "4096") (sectors_up_to 65536) =
    ap rule_of c.default_value-sectors.ensures ∙ ap (with_default (codes "4096")) c.sectors_option.ensures.rule in
    let local : c.default_value-sectors.result.global ≡ false = search rules in
    option_added (new_app (codes "play")) (with_default (codes "4096") (sectors_up_to 65536)) c.default_value-sectors.result
    (Ok c.bare_command-command.result) _ c.with_argument.ensures c.bare_command-command.ensures sectors_are local
