use Rattle.scripts.proofs.playing.serve.Goals as goal
use Rattle.std.proofs.Common.{◌≡◌, ap, subst, ◌∙◌, false, take, min, length}
use Rattle.std.proofs.lemmas.List.{take_min}
use Rattle.sessions.proofs.EventSteps.{room_seen}
use Rattle.sessions.proofs.Reached.{reached}
use Rattle.sessions.specs.SessionStreams.{Receives, Serves, More, IsPossible, hub_step, stream_of}
use Rattle.sessions.specs.StandsFor.{StandsFor, room_in}
use Rattle.scripts.proofs.Steps.{receives_alike, granted_is, not_memory}
use Rattle.scripts.specs.Transcript.{granted, received}

pub returns-in_default : goal.returns-in_default
returns-in_default g c h stands =
    let s = c.args.session in
    let frame = c.args.frame.now in
    let room = room_in (stream_of h s) in
    let came = c.step.ensures.step in
    let given : c.min-given.result ≡ min room (length frame) = c.min-given.ensures ∙ ap (λ n. min n (length frame)) (c.room.ensures ∙ room_seen _ h stands s) in
    let taken : take c.min-given.result frame ≡ take room frame = ap (λ n. take n frame) given ∙ take_min room frame in
    let same : (hub_step h (Receives s (take c.min-given.result frame)) came.0).0 ≡ received h s frame =
    ap (λ piece. (hub_step h (Receives s piece) came.0).0) taken ∙ ap (λ r. r.0) (receives_alike h s (take room frame) came.0 (granted More false)) in
    let there = subst (λ k. StandsFor c.step.new.self k) same (reached c.args.hub.now _ _ _ came h stands).stands in
    let served = c.step-2.ensures.step in
    let after = reached _ c.step-2.new.self _ _ served (received h s frame) there in
    let is : served.0 ≡ granted served.0.head served.0.failed = granted_is served.0 (served.1 ∙ not_memory c.step-2.result c.in_default.not-Memory) in
    record {
      head = served.0.head;
      failed = served.0.failed;
      possible = subst (λ choice. IsPossible (received h s frame) (Serves s) choice) is after.possible;
      stands = subst (λ choice. StandsFor c.step-2.new.self (hub_step (received h s frame) (Serves s) choice).0) is after.stands;
    }
