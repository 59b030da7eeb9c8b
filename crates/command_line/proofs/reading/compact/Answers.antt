use Rattle.std.proofs.Common.{codes, inl, inr, refl, subst, sym}
use Rattle.clap.specs.Matches.{found_of}
use Rattle.clap.specs.Walk.{rows_of}
use Rattle.command_line.specs.Asking.{MayHaveNumber}
use Rattle.command_line.proofs.Given.{none_given, text_given}
use Rattle.command_line.proofs.Lacking.{compact_lacks_number, compact_lacks_text}
use Rattle.command_line.proofs.reading.compact.Goals.{in-Some+in_ok-sectors-in-Some, in-None}
use Rattle.command_line.proofs.reading.compact.Goals as goal

pub returns-clause-means : goal.returns-clause-means
returns-clause-means c =
    let found = found_of c.args.found.now in
    let sectors : MayHaveNumber (rows_of found) (codes "sectors") c.match-get_str.sectors = elim c.match-get_str.branch [
      | in-Some+in_ok-sectors-in-Some w ↦ subst (MayHaveNumber (rows_of found) (codes "sectors")) (sym w.sectors-is) w.in_ok-sectors-in-Some.ensures.given
      | in-None w ↦ subst (MayHaveNumber (rows_of found) (codes "sectors")) (sym w.sectors-is) (none_given found (codes "sectors") w.in-None.ensures)
    ] in
    let from = text_given found (codes "from") c.in_ok-get_str.field-0.now c.in_ok-get_str.ensures in
    let to = text_given found (codes "to") c.in_ok-get_str-2.field-0.now c.in_ok-get_str-2.ensures in
    (refl, (from, to, sectors))

pub returns-in_err-sectors-in-Some-clause-nothing : goal.returns-in_err-sectors-in-Some-clause-nothing
returns-in_err-sectors-in-Some-clause-nothing c is =
    let found = found_of c.args.found.now in
    let given = text_given found (codes "sectors") c.in-Some.field-0.now c.in-Some.ensures in
    compact_lacks_number (rows_of found) c.in-Some.field-0.now given (c.in_err-sectors-in-Some.ensures.lacks refl)

pub returns-in_err-get_str-clause-nothing : goal.returns-in_err-get_str-clause-nothing
returns-in_err-get_str-clause-nothing c is =
    let found = found_of c.args.found.now in
    compact_lacks_text (rows_of found) (inl (none_given found (codes "from") c.in_err-get_str.ensures))

pub returns-in_err-get_str-2-clause-nothing : goal.returns-in_err-get_str-2-clause-nothing
returns-in_err-get_str-2-clause-nothing c is =
    let found = found_of c.args.found.now in
    compact_lacks_text (rows_of found) (inr (none_given found (codes "to") c.in_err-get_str-2.ensures))
