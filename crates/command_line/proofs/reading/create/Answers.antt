use Rattle.std.proofs.Common.{codes, refl, inl, inr}
use Rattle.clap.specs.Matches.{found_of}
use Rattle.clap.specs.Walk.{rows_of}
use Rattle.command_line.proofs.Given.{none_given, text_given}
use Rattle.command_line.proofs.Lacking.{create_lacks}
use Rattle.command_line.proofs.reading.create.Goals as goal

pub returns-clause-means : goal.returns-clause-means
returns-clause-means c =
    (refl, (text_given (found_of c.args.found.now) (codes "data") c.in_ok-get_str.field-0.now c.in_ok-get_str.ensures, c.in_ok-sectors.ensures.given))

pub returns-in_err-get_str-clause-nothing : goal.returns-in_err-get_str-clause-nothing
returns-in_err-get_str-clause-nothing c is =
    let found = found_of c.args.found.now in
    create_lacks (rows_of found) (inl (none_given found (codes "data") c.in_err-get_str.ensures))

pub returns-in_err-sectors-clause-nothing : goal.returns-in_err-sectors-clause-nothing
returns-in_err-sectors-clause-nothing c is =
    create_lacks (rows_of (found_of c.args.found.now)) (inr (c.in_err-sectors.ensures.lacks refl))
