use Rattle.scripts.proofs.playing.Script.play_text.Goals as goal
use Rattle.std.proofs.Common.{◌≡◌, ◌≢◌, true, false, [], length, Some, Err, refl, sym, ap, subst, ◌∙◌}
use Rattle.std.specs.Prelude.{◌==◌, IsErrAnd}
use Rattle.scripts.proofs.Runs.{err_is, text_runs}
use Rattle.scripts.specs.Calls.{FindsLabel, RunsLine}
use Rattle.scripts.specs.Transcript.{Scene, with_label, IsLabelTooMany}
use Rattle.scripts.specs.declared.faults.ScriptFault.TheVariants.{Memory}

pub returns : goal.returns
returns g c scene is_at =
    let line = c.in-Some.line in
    let some : c.args.text.now ≢ [] =
    λ none. (let bad : true ≡ false = sym (ap (λ text. length text == 0) none) ∙ sym c.is_empty.ensures ∙ c.if-is_empty.false in cc) in
    let label : c.label.result ≡ line.label = c.label.ensures in
    let found : FindsLabel scene line.label (Some c.in-Some-2.session) c.session.new.self =
    subst (λ n. FindsLabel scene n (Some c.in-Some-2.session) c.session.new.self) label
    (subst (λ f. FindsLabel scene c.label.result f c.session.new.self) c.in-Some-2.is (c.in_ok-session.ensures scene is_at)) in
    let here : Scene = with_label scene line.label in
    let answered = subst (λ s. RunsLine here s line c.answer.result c.answer.new.self (g.O.Write.contents c.args.out.now) (g.O.Write.contents c.answer.new.out))
    found.0 (c.answer.ensures here found.2) in
    text_runs scene c.args.number c.args.text.now line c.answer.new.self (g.O.Write.contents c.args.out.now) (g.O.Write.contents c.answer.new.out) some
    c.in-Some.ensures found.1 c.answer.result answered

-- the label got no place for want of memory
pub returns-in_err-session : goal.returns-in_err-session
returns-in_err-session g c scene is_at =
    let line = c.in-Some.line in
    let why = c.in_err-session.ensures scene is_at in
    let is : c.from_residual.result ≡ Err Memory =
    err_is c.from_residual.result Memory (subst (λ f. IsErrAnd c.from_residual.result (λ x. x ≡ f)) why.0 c.from_residual.ensures.1) in
    let place : IsLabelTooMany scene line.label → ⊥ = subst (λ n. IsLabelTooMany scene n → ⊥) c.label.ensures why.1 in
    rw is ((line, c.in-Some.ensures, place), refl)
