use Rattle.std.proofs.Common.{refl}
use Rattle.clap.specs.Matches.{found_of}
use Rattle.clap.specs.Walk.{rows_of}
use Rattle.command_line.proofs.Lacking.{play_lacks}
use Rattle.command_line.proofs.reading.play.Goals as goal

pub returns-in_err-sectors-clause-nothing : goal.returns-in_err-sectors-clause-nothing
returns-in_err-sectors-clause-nothing c is =
    play_lacks (rows_of (found_of c.args.found.now)) (c.in_err-sectors.ensures.lacks refl)
