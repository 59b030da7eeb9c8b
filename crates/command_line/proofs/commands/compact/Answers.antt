use Rattle.std.proofs.Common.{Ok, codes}
use Rattle.clap.specs.Simple.{new_app, with_rule}
use Rattle.command_line.specs.Usage.{sectors_up_to, text, wanted}
use Rattle.command_line.proofs.Steps.{option_added}
use Rattle.command_line.proofs.commands.compact.Goals as goal

pub returns : goal.returns
returns c =
    let bare = new_app (codes "compact") in
    let from = wanted (text (codes "from")) in
    let to = wanted (text (codes "to")) in
    option_added (with_rule (with_rule bare from) to) (sectors_up_to 4194304) c.sectors_option-sectors.result c.with_argument-command-2.result _
    c.with_argument.ensures
    (option_added (with_rule bare from) to c.text_option-2.result c.with_argument-command.result _ c.with_argument-command-2.ensures
    (option_added bare from c.text_option.result (Ok c.bare_command-command.result) _ c.with_argument-command.ensures
    c.bare_command-command.ensures c.text_option.ensures.rule c.text_option.ensures.local)
    c.text_option-2.ensures.rule c.text_option-2.ensures.local)
    c.sectors_option-sectors.ensures.rule c.sectors_option-sectors.ensures.local
