use Rattle.std.proofs.Common.{Ok, codes, ap, rules, ◌≡◌, ◌∙◌, false}
use Rattle.clap.specs.Simple.{new_app, with_rule}
use Rattle.clap.specs.Walk.{rule_of}
use Rattle.command_line.specs.Usage.{sectors_up_to, text, wanted}
use Rattle.command_line.proofs.Steps.{option_added}
use Rattle.command_line.proofs.commands.create.Goals as goal

pub returns : goal.returns
returns c =
    let bare = new_app (codes "create") in
    let file = wanted (text (codes "data")) in
    let sectors = wanted (sectors_up_to 4194304) in
    let sectors_are : rule_of c.required-sectors.result ≡ sectors = ap rule_of c.required-sectors.ensures ∙ ap wanted c.sectors_option.ensures.rule in
    let local : c.required-sectors.result.global ≡ false = search rules in
    option_added (with_rule bare file) sectors c.required-sectors.result c.with_argument-command.result _ c.with_argument.ensures
    (option_added bare file c.text_option.result (Ok c.bare_command-command.result) _ c.with_argument-command.ensures
    c.bare_command-command.ensures c.text_option.ensures.rule c.text_option.ensures.local)
    sectors_are local
