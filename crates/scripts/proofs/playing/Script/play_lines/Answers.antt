use Rattle.scripts.proofs.playing.Script.play_lines.Goals as goal
use Rattle.std.proofs.Common.{◌≡◌, ◌+◌, Option, Ok, Err, true, false, sym, subst}
use Rattle.std.specs.Prelude.{IfSome}
use Rattle.model.specs.Map.{Bytes}
use Rattle.scripts.proofs.Runs.{lift, err_is, run_none, run_ends, run_more, run_stops, run_unread}
use Rattle.scripts.specs.Calls.{ReadsLine, RunsText, RunSoFar}
use Rattle.scripts.specs.Lines.{lines_of}
use Rattle.scripts.specs.Transcript.{Plays}
use Rattle.scripts.specs.declared.faults.ScriptFault.TheVariants.{File}

pub loop-number-init : goal.loop-number-init
loop-number-init g c first is_at = run_none first c.args.self.now (g.R.Read.remaining c.args.reader.now) (g.O.Write.contents c.args.out.now) is_at

pub returns-then-not-branch : goal.returns-then-not-branch
returns-then-not-branch g c first is_at =
    let known : Option Bytes = g.R.Read.remaining c.args.reader.now in
    let left : Option Bytes = g.R.Read.remaining c.loop-number.reader in
    let after : Option Bytes = g.R.Read.remaining c.next_line.new.reader in
    let text : Bytes = c.next_line.new.text.items in
    let before : Option Bytes = g.O.Write.contents c.args.out.now in
    let held : Option Bytes = g.O.Write.contents c.loop-number.out in
    let reads : IfSome left (λ xs. ReadsLine xs false text after) =
    subst (λ b. IfSome left (λ xs. ReadsLine xs b text after)) c.if-not-branch.true c.in_ok-next_line.ensures.read in
    lift known (λ script. RunSoFar first (lines_of script) c.loop-number.number c.loop-number.self left before held)
    (λ script. Plays first (lines_of script) (Ok tt) before held)
    (λ script so_far. run_ends first (lines_of script) c.loop-number.number c.loop-number.self left before held so_far text after reads
    c.law_is_lawful.ensures.lawful) (c.loop-number.invariant first is_at)

pub returns-in_err-play_text : goal.returns-in_err-play_text
returns-in_err-play_text g c first is_at =
    let known : Option Bytes = g.R.Read.remaining c.args.reader.now in
    let left : Option Bytes = g.R.Read.remaining c.loop-number.reader in
    let after : Option Bytes = g.R.Read.remaining c.next_line.new.reader in
    let text : Bytes = c.next_line.new.text.items in
    let before : Option Bytes = g.O.Write.contents c.args.out.now in
    let held : Option Bytes = g.O.Write.contents c.loop-number.out in
    let printed : Option Bytes = g.O.Write.contents c.play_text.new.out in
    let fault = c.in_err-play_text.field-0.0 in
    let reads : IfSome left (λ xs. ReadsLine xs true text after) =
    subst (λ b. IfSome left (λ xs. ReadsLine xs b text after)) c.if-not-branch.false c.in_ok-next_line.ensures.read in
    let is : c.from_residual-in_err-play_text.result ≡ Err fault =
    err_is c.from_residual-in_err-play_text.result fault c.from_residual-in_err-play_text.ensures.1 in
    lift known (λ script. RunSoFar first (lines_of script) c.loop-number.number c.loop-number.self left before held)
    (λ script. Plays first (lines_of script) c.from_residual-in_err-play_text.result before printed)
    (λ script so_far. subst (λ r. Plays first (lines_of script) r before printed) (sym is)
    (run_stops first (lines_of script) c.loop-number.number c.loop-number.self left before held so_far text after reads c.play_text.new.self printed fault
    (λ scene at. subst (λ t. RunsText scene c.loop-number.number t (Err fault) c.play_text.new.self held printed) c.deref.ensures.value
    (c.in_err-play_text.ensures scene at)))) (c.loop-number.invariant first is_at)

pub loop-number-preserved : goal.loop-number-preserved
loop-number-preserved g c first is_at =
    let known : Option Bytes = g.R.Read.remaining c.args.reader.now in
    let left : Option Bytes = g.R.Read.remaining c.loop-number.reader in
    let after : Option Bytes = g.R.Read.remaining c.next_line.new.reader in
    let text : Bytes = c.next_line.new.text.items in
    let before : Option Bytes = g.O.Write.contents c.args.out.now in
    let held : Option Bytes = g.O.Write.contents c.loop-number.out in
    let printed : Option Bytes = g.O.Write.contents c.play_text.new.out in
    let reads : IfSome left (λ xs. ReadsLine xs true text after) =
    subst (λ b. IfSome left (λ xs. ReadsLine xs b text after)) c.if-not-branch.false c.in_ok-next_line.ensures.read in
    lift known (λ script. RunSoFar first (lines_of script) c.loop-number.number c.loop-number.self left before held)
    (λ script. RunSoFar first (lines_of script) (c.loop-number.number + 1) c.play_text.new.self after before printed)
    (λ script so_far. run_more first (lines_of script) c.loop-number.number c.loop-number.self left before held so_far text after reads c.play_text.new.self
    printed
    (λ scene at. subst (λ t. RunsText scene c.loop-number.number t (Ok tt) c.play_text.new.self held printed) c.deref.ensures.value
    (c.in_ok-play_text.ensures scene at))) (c.loop-number.invariant first is_at)

pub returns-in_err-next_line : goal.returns-in_err-next_line
returns-in_err-next_line g c first is_at =
    let known : Option Bytes = g.R.Read.remaining c.args.reader.now in
    let left : Option Bytes = g.R.Read.remaining c.loop-number.reader in
    let before : Option Bytes = g.O.Write.contents c.args.out.now in
    let held : Option Bytes = g.O.Write.contents c.loop-number.out in
    let fault = c.in_err-next_line.field-0.0 in
    let is : c.from_residual.result ≡ Err fault = err_is c.from_residual.result fault c.from_residual.ensures.1 in
    lift known (λ script. RunSoFar first (lines_of script) c.loop-number.number c.loop-number.self left before held)
    (λ script. Plays first (lines_of script) c.from_residual.result before held)
    (λ script so_far. subst (λ r. Plays first (lines_of script) r before held) (sym is)
    (run_unread first (lines_of script) c.loop-number.number c.loop-number.self left before held so_far fault c.in_err-next_line.ensures.faults))
    (c.loop-number.invariant first is_at)

pub returns : goal.returns
returns g c first is_at =
    let known : Option Bytes = g.R.Read.remaining c.args.reader.now in
    let left : Option Bytes = g.R.Read.remaining c.loop-number.reader in
    let before : Option Bytes = g.O.Write.contents c.args.out.now in
    let held : Option Bytes = g.O.Write.contents c.loop-number.out in
    lift known (λ script. RunSoFar first (lines_of script) c.loop-number.number c.loop-number.self left before held)
    (λ script. Plays first (lines_of script) (Err File) before held)
    (λ script so_far. run_unread first (lines_of script) c.loop-number.number c.loop-number.self left before held so_far File tt)
    (c.loop-number.invariant first is_at)
