use Rattle.scripts.proofs.playing.play.Goals as goal
use Rattle.std.proofs.Common.{◌≡◌, Err, inl, sym, subst}
use Rattle.scripts.proofs.Reading.{fresh_reader}
use Rattle.scripts.proofs.Runs.{always, err_is, unbegun, unread}
use Rattle.scripts.specs.Lines.{lines_of}
use Rattle.scripts.specs.Transcript.{opening, Plays, PlaysKnown}

pub returns : goal.returns
returns g c =
    let left = fresh_reader g.R.Read.remaining c.in_ok-lines.lines c.args.reader c.in_ok-lines.ensures.capacity c.in_ok-lines.ensures.empty
    c.in_ok-lines.ensures.inner in
    subst (λ known. PlaysKnown (opening c.args.sectors) known c.play_lines.result (g.O.Write.contents c.args.out.now) (g.O.Write.contents c.play_lines.new.out))
    left
    (c.play_lines.ensures (opening c.args.sectors) c.in_ok-script.ensures.at)

-- the log failed, or memory was refused
pub returns-in_err-script : goal.returns-in_err-script
returns-in_err-script g c =
    let held = g.O.Write.contents c.args.out.now in
    let fault = c.in_err-script.field-0.0 in
    let is : c.from_residual.result ≡ Err fault = err_is c.from_residual.result fault c.from_residual.ensures.1 in
    always (g.R.Read.remaining c.args.reader) (λ script. Plays (opening c.args.sectors) (lines_of script) c.from_residual.result held held)
    (λ script. subst (λ r. Plays (opening c.args.sectors) (lines_of script) r held held) (sym is)
    (unbegun (opening c.args.sectors) (lines_of script) fault held (inl c.in_err-script.ensures.faults)))

-- there was no memory to read into
pub returns-in_err-lines : goal.returns-in_err-lines
returns-in_err-lines g c =
    let held = g.O.Write.contents c.args.out.now in
    always (g.R.Read.remaining c.args.reader) (λ script. Plays (opening c.args.sectors) (lines_of script) c.from_residual-in_err-lines.result held held)
    (λ script. unread _ _ (opening c.args.sectors) (lines_of script) c.from_residual-in_err-lines.result held c.from_residual-in_err-lines.ensures.1)
