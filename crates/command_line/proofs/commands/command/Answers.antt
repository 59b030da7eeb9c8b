use Rattle.clap.specs.Simple.{with_subcommand}
use Rattle.command_line.specs.Usage.{bare_program, check, compact, create, play, serve, the_command_line}
use Rattle.command_line.proofs.commands.command.Goals as goal

pub returns : goal.returns
unfolding the_command_line
returns c =
    let one = with_subcommand bare_program create.top in
    let two = with_subcommand one serve.top in
    let three = with_subcommand two check.top in
    let four = with_subcommand three compact.top in
    c.with_command.ensures four play
    (c.with_command-program-4.ensures three compact
    (c.with_command-program-3.ensures two check
    (c.with_command-program-2.ensures one serve
    (c.with_command-program.ensures bare_program create c.bare_program.ensures c.create.ensures)
    c.serve.ensures)
    c.check.ensures)
    c.compact.ensures)
    c.play.ensures
