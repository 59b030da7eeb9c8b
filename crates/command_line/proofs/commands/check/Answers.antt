use Rattle.std.proofs.Common.{Ok, codes}
use Rattle.clap.specs.Simple.{new_app}
use Rattle.command_line.specs.Usage.{text, wanted}
use Rattle.command_line.proofs.Steps.{option_added}
use Rattle.command_line.proofs.commands.check.Goals as goal

pub returns : goal.returns
returns c =
    let bare = new_app (codes "check") in
    let file = wanted (text (codes "data")) in
    option_added bare file c.text_option.result (Ok c.bare_command-command.result) _ c.with_argument.ensures
    c.bare_command-command.ensures c.text_option.ensures.rule c.text_option.ensures.local
