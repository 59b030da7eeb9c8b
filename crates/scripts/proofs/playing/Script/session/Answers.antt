use Rattle.scripts.proofs.playing.Script.session.Goals as goal
use Rattle.std.proofs.Common.{◌≡◌, ◌≤◌, ◌∷◌, [], ◌++◌, length, false, Some, None, refl, sym, ap, subst, ◌∙◌, arith}
use Rattle.sessions.proofs.Reached.{reached}
use Rattle.sessions.specs.Calls.{is_memory}
use Rattle.sessions.specs.SessionStreams.{Joins, hub_step}
use Rattle.sessions.specs.StandsFor.{StandsFor}
use Rattle.scripts.proofs.Labels.{known_session, known_not_crowded, known_scene, fresh_session, fresh_scene}
use Rattle.scripts.proofs.Runs.{err_is}
use Rattle.scripts.proofs.Steps.{joins_alike}
use Rattle.scripts.specs.Calls.{IsAtScene}
use Rattle.scripts.specs.Transcript.{place_of, hub_after}
use Rattle.scripts.specs.declared.faults.ScriptFault.TheVariants.{Memory}
use Rattle.scripts.specs.declared.playing.Script.{Script}

pub returns-in-Some : goal.returns-in-Some
returns-in-Some g c scene is_at =
    let labels : c.deref.result.now ≡ scene.labels = c.deref.ensures.value ∙ is_at.labels in
    let found : c.place_of.result ≡ place_of scene.labels c.args.label = c.place_of.ensures ∙ ap (λ ls. place_of ls c.args.label) labels in
    let known : place_of scene.labels c.args.label ≡ Some c.in-Some.place = sym found ∙ c.in-Some.is in (
      known_session scene c.args.label c.in-Some.place known,
      known_not_crowded scene c.args.label c.in-Some.place known,
      subst (λ k. IsAtScene {D = g.row.D.Denot} {g = g.D.Sectors} c.args.self.now k) (sym (known_scene scene c.args.label c.in-Some.place known)) is_at,
    )

pub returns-then-len-ge-SESSIONS_MAX : goal.returns-then-len-ge-SESSIONS_MAX
returns-then-len-ge-SESSIONS_MAX g c scene is_at =
    let labels : c.deref.result.now ≡ scene.labels = c.deref.ensures.value ∙ is_at.labels in
    let found : c.place_of.result ≡ place_of scene.labels c.args.label = c.place_of.ensures ∙ ap (λ ls. place_of ls c.args.label) labels in
    let fresh : place_of scene.labels c.args.label ≡ None = sym found ∙ c.in_default.is in
    let same : length c.args.self.now.labels.items ≡ length scene.labels = ap length is_at.labels in
    ((fresh, omega arith), is_at)

pub returns-in-Done : goal.returns-in-Done
returns-in-Done g c scene is_at =
    let labels : c.deref.result.now ≡ scene.labels = c.deref.ensures.value ∙ is_at.labels in
    let found : c.place_of.result ≡ place_of scene.labels c.args.label = c.place_of.ensures ∙ ap (λ ls. place_of ls c.args.label) labels in
    let fresh : place_of scene.labels c.args.label ≡ None = sym found ∙ c.in_default.is in
    let len : c.len-session.result ≡ length scene.labels = let same : length c.args.self.now.labels.items ≡ length scene.labels =
    ap length is_at.labels in omega arith in
    let leads = c.step.ensures.step in
    let granted_all : leads.0.refused ≡ false = leads.1 ∙ ap is_memory c.in-Done.is in
    let same : (hub_step scene.hub (Joins c.len-session.result) leads.0).0 ≡ hub_after scene.hub (Joins (length scene.labels)) =
    ap (λ n. (hub_step scene.hub (Joins n) leads.0).0) len ∙ ap (λ r. r.0) (joins_alike scene.hub (length scene.labels) leads.0 granted_all) in
    let script : Script g.row.D.Denot g.D.Sectors =
    record { hub = c.step.new.self; labels = c.push.new.self; frame = c.args.self.now.frame; reply = c.args.self.now.reply } in (
      len ∙ fresh_session scene c.args.label fresh,
      (λ crowded. let many : 128 ≤ length scene.labels = crowded.1 in omega arith),
      subst (λ k. IsAtScene script k) (sym (fresh_scene scene c.args.label fresh)) (record {
        hub = subst (λ k. StandsFor c.step.new.self k) same
            (reached c.args.self.now.hub c.step.new.self (Joins c.len-session.result) c.step.result leads scene.hub is_at.hub).stands;
        labels = c.in_ok-push.ensures.items ∙ ap (λ ls. ls ++ c.args.label ∷ []) is_at.labels;
      }),
    )

pub returns-in_err-push : goal.returns-in_err-push
returns-in_err-push g c scene is_at =
    let same : length c.args.self.now.labels.items ≡ length scene.labels = ap length is_at.labels in
    rw (err_is c.from_residual.result Memory c.from_residual.ensures.1) (refl, λ crowded. let many : 128 ≤ length scene.labels = crowded.1 in omega arith)
