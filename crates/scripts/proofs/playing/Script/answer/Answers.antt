use Rattle.scripts.proofs.playing.Script.answer.Goals as goal
use Rattle.std.proofs.Common.{◌≡◌, ℕ, [], refl, sym, ap, subst, ◌∙◌, length, false, ◌++◌, rules}
use Rattle.std.specs.Io.KnownBytes.{Appends}
use Rattle.std.specs.Prelude.{IsErrAnd}
use Rattle.model.specs.Map.{Bytes}
use Rattle.sessions.proofs.EventSteps.{pending_seen, status_seen}
use Rattle.sessions.proofs.Reached.{reached}
use Rattle.sessions.specs.SessionStreams.{HubState, Serves, Sends, More, hub_step, stream_of}
use Rattle.sessions.specs.StandsFor.{StandsFor, status_in}
use Rattle.sessions.specs.declared.events.Status.{Status}
use Rattle.sessions.specs.declared.events.Status.TheVariants.{Open}
use Rattle.scripts.proofs.Runs.{err_is}
use Rattle.scripts.proofs.Steps.{sends_alike}
use Rattle.scripts.specs.Calls.{ServesRequest}
use Rattle.scripts.specs.Lines.{ScriptLine, frame_of, printed_line}
use Rattle.scripts.specs.Transcript.{Scene, granted, hub_after, received, PrintsIn}
use Rattle.scripts.specs.declared.faults.ScriptFault.TheVariants.{File, Memory}

-- where the session is not open nothing is printed
none_printed : (status : Status) (here : Scene) (s : ℕ) (line : ScriptLine) → (status ≡ Open → ⊥) → PrintsIn status here s line here []
none_printed Open here s line differs = absurd (differs refl)
none_printed _ here s line differs = (refl, refl)

pub returns-in_default : goal.returns-in_default
returns-in_default g c here is_at =
    let s = c.args.session in
    let line = c.args.line.now in
    let is : c.status.result ≡ status_in (stream_of here.hub s) = c.status.ensures ∙ status_seen _ here.hub is_at.hub s in
    record {
      scene = here;
      printed = [];
      at = is_at;
      prints = subst (λ st. PrintsIn st here s line here []) is (none_printed c.status.result here s line c.in_default.not-Open);
      appends = search rules;
    }

pub returns : goal.returns
returns g c here is_at =
    let s = c.args.session in
    let line = c.args.line.now in
    let opened : status_in (stream_of here.hub s) ≡ Open = sym (c.status.ensures ∙ status_seen _ here.hub is_at.hub s) ∙ c.in-Open.is in
    let frame : c.deref.result.now ≡ frame_of line.words =
    c.deref.ensures.value ∙ c.in_ok-write_frame.ensures.ok ∙ ap (λ xs. xs ++ frame_of line.words) c.clear.ensures.items in
    let came : HubState = received here.hub s (frame_of line.words) in
    let served : ServesRequest c.serve.new.hub came s =
    subst (λ bytes. ServesRequest c.serve.new.hub (received here.hub s bytes) s) frame (c.in_ok-serve.ensures here.hub is_at.hub) in
    let done : HubState = (hub_step came (Serves s) (granted served.head served.failed)).0 in
    let reply : Bytes = c.pending-pending.result.now in
    let printed : c.deref-2.result.now ≡ printed_line line.label reply =
    c.deref-2.ensures.value ∙ c.in_ok-write_reply.ensures ∙ ap (λ xs. xs ++ printed_line c.label.result reply) c.clear-2.ensures.items
    ∙ ap (λ n. printed_line n reply) c.label.ensures in
    let leads = c.step.ensures.step in
    record {
      scene = record { hub = hub_after done (Sends s (length reply)); labels = here.labels };
      printed = printed_line line.label reply;
      at = record {
        hub = subst (λ k. StandsFor c.step.new.self k) (ap (λ r. r.0) (sends_alike done s (length reply) leads.0 (granted More false)))
            (reached c.serve.new.hub c.step.new.self (Sends s (length reply)) c.step.result leads done served.stands).stands;
        labels = is_at.labels;
      };
      prints = subst (λ st. PrintsIn st here s line (record { hub = hub_after done (Sends s (length reply)); labels = here.labels })
          (printed_line line.label reply)) (sym opened) (
            reply,
            record {
              head = served.head;
              failed = served.failed;
              possible = served.possible;
              reply_is = c.pending-pending.ensures.bytes ∙ pending_seen _ done served.stands s;
              new_is = refl;
            },
            refl,
            refl,
          );
      appends = subst (λ bytes. Appends (g.O.Write.contents c.args.out.now) (g.O.Write.contents c.write_out.new.out) bytes) printed c.in_ok-write_out.ensures;
    }

-- ---- memory was refused

pub returns-in_err-write_frame : goal.returns-in_err-write_frame
returns-in_err-write_frame g c here is_at = rw (err_is c.from_residual.result Memory c.from_residual.ensures.1) refl

pub returns-in_err-serve : goal.returns-in_err-serve
returns-in_err-serve g c here is_at =
    let why = c.in_err-serve.ensures here.hub is_at.hub in
    rw (err_is c.from_residual-in_err-serve.result Memory
    (subst (λ f. IsErrAnd c.from_residual-in_err-serve.result (λ x. x ≡ f)) why c.from_residual-in_err-serve.ensures.1)) refl

pub returns-in_err-write_reply : goal.returns-in_err-write_reply
returns-in_err-write_reply g c here is_at = rw (err_is c.from_residual-in_err-write_reply.result Memory c.from_residual-in_err-write_reply.ensures.1) refl

-- ---- the writer failed

pub returns-in_err-write_out : goal.returns-in_err-write_out
returns-in_err-write_out g c here is_at =
    let s = c.args.session in
    let line = c.args.line.now in
    let opened : status_in (stream_of here.hub s) ≡ Open = sym (c.status.ensures ∙ status_seen _ here.hub is_at.hub s) ∙ c.in-Open.is in
    let frame : c.deref.result.now ≡ frame_of line.words =
    c.deref.ensures.value ∙ c.in_ok-write_frame.ensures.ok ∙ ap (λ xs. xs ++ frame_of line.words) c.clear.ensures.items in
    let came : HubState = received here.hub s (frame_of line.words) in
    let served : ServesRequest c.serve.new.hub came s =
    subst (λ bytes. ServesRequest c.serve.new.hub (received here.hub s bytes) s) frame (c.in_ok-serve.ensures here.hub is_at.hub) in
    let done : HubState = (hub_step came (Serves s) (granted served.head served.failed)).0 in
    let reply : Bytes = c.pending-pending.result.now in
    let printed : c.deref-2.result.now ≡ printed_line line.label reply =
    c.deref-2.ensures.value ∙ c.in_ok-write_reply.ensures ∙ ap (λ xs. xs ++ printed_line c.label.result reply) c.clear-2.ensures.items
    ∙ ap (λ n. printed_line n reply) c.label.ensures in
    let why = c.in_err-write_out.ensures in
    let next : Scene = record { hub = hub_after done (Sends s (length reply)); labels = here.labels } in
    rw (err_is c.from_residual-in_err-write_out.result File
    (subst (λ f. IsErrAnd c.from_residual-in_err-write_out.result (λ x. x ≡ f)) why.0 c.from_residual-in_err-write_out.ensures.1)) (record {
      scene = next;
      part = why.1.0;
      rest = why.1.1;
      prints = subst (λ st. PrintsIn st here s line next (why.1.0 ++ why.1.1)) (sym opened) (
        reply,
        record {
          head = served.head;
          failed = served.failed;
          possible = served.possible;
          reply_is = c.pending-pending.ensures.bytes ∙ pending_seen _ done served.stands s;
          new_is = refl;
        },
        refl,
        sym why.1.2 ∙ printed,
      );
      appends = why.1.3;
    })
