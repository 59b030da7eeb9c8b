use Rattle.std.proofs.Common.{Ok, codes}
use Rattle.clap.specs.Simple.{new_app, with_rule}
use Rattle.command_line.specs.Usage.{text, wanted}
use Rattle.command_line.proofs.Steps.{option_added}
use Rattle.command_line.proofs.commands.serve.Goals as goal

pub returns : goal.returns
returns c =
    let bare = new_app (codes "serve") in
    let file = wanted (text (codes "data")) in
    let address = wanted (text (codes "listen")) in
    option_added (with_rule bare file) address c.text_option-2.result c.with_argument-command.result _ c.with_argument.ensures
    (option_added bare file c.text_option.result (Ok c.bare_command-command.result) _ c.with_argument-command.ensures
    c.bare_command-command.ensures c.text_option.ensures.rule c.text_option.ensures.local)
    c.text_option-2.ensures.rule c.text_option-2.ensures.local
