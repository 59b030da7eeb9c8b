use Rattle.std.proofs.Common.{◌≡◌, codes, inl, inr, rules, subst, sym}
use Rattle.clap.specs.Matches.{found_of}
use Rattle.clap.specs.Walk.{Text, rows_of}
use Rattle.command_line.specs.Asking.{MeansNothing}
use Rattle.command_line.proofs.Given.{none_given, text_given}
use Rattle.command_line.proofs.Lacking.{check_lacks, serve_lacks}
use Rattle.command_line.proofs.reading.invocation.Goals as goal

pub returns-in_ok-get_str-in-serve-2-clause-means : goal.returns-in_ok-get_str-in-serve-2-clause-means
returns-in_ok-get_str-in-serve-2-clause-means c =
    let file = text_given (found_of c.args.found.now) (codes "data") c.in_ok-get_str-in-serve.field-0.now c.in_ok-get_str-in-serve.ensures in
    let address = text_given (found_of c.args.found.now) (codes "listen") c.in_ok-get_str-in-serve-2.field-0.now c.in_ok-get_str-in-serve-2.ensures in
    (search rules, (file, address))

pub returns-in_ok-get_str-in-check-clause-means : goal.returns-in_ok-get_str-in-check-clause-means
returns-in_ok-get_str-in-check-clause-means c =
    (search rules, text_given (found_of c.args.found.now) (codes "data") c.in_ok-get_str-in-check.field-0.now c.in_ok-get_str-in-check.ensures)

pub returns-in_err-get_str-in-serve-clause-nothing : goal.returns-in_err-get_str-in-serve-clause-nothing
returns-in_err-get_str-in-serve-clause-nothing c is =
    let found = found_of c.args.found.now in
    let named : c.args.name.now ≡ codes "serve" = search rules in
    subst (λ (name : Text). MeansNothing name (rows_of found)) (sym named)
    (serve_lacks (rows_of found) (inl (none_given found (codes "data") c.in_err-get_str-in-serve.ensures)))

pub returns-in_err-get_str-in-serve-2-clause-nothing : goal.returns-in_err-get_str-in-serve-2-clause-nothing
returns-in_err-get_str-in-serve-2-clause-nothing c is =
    let found = found_of c.args.found.now in
    let named : c.args.name.now ≡ codes "serve" = search rules in
    subst (λ (name : Text). MeansNothing name (rows_of found)) (sym named)
    (serve_lacks (rows_of found) (inr (none_given found (codes "listen") c.in_err-get_str-in-serve-2.ensures)))

pub returns-in_err-get_str-in-check-clause-nothing : goal.returns-in_err-get_str-in-check-clause-nothing
returns-in_err-get_str-in-check-clause-nothing c is =
    let found = found_of c.args.found.now in
    let named : c.args.name.now ≡ codes "check" = search rules in
    subst (λ (name : Text). MeansNothing name (rows_of found)) (sym named)
    (check_lacks (rows_of found) (none_given found (codes "data") c.in_err-get_str-in-check.ensures))
