use Rattle.sessions.proofs.hub.Hub.run.Goals as goal
use Rattle.std.proofs.Common.{map, List, [], ◌∷◌, ◌++◌, get_or, refl, sym, ap, subst, ◌∙◌, arith}
use Rattle.std.proofs.lemmas.List.{map-append, take_more}
use Rattle.sessions.proofs.Reached.{reached}
use Rattle.sessions.proofs.Runs.{no_event, ran_then, sound}
use Rattle.sessions.specs.Laws.{Runs}
use Rattle.sessions.specs.SessionStreams.{Choice, HubEvent}
use Rattle.sessions.specs.StandsFor.{event_of}
use Rattle.sessions.specs.declared.events.Event.TheVariants.{Joined}

pub loop-event-init : goal.loop-event-init
loop-event-init g c = let law = c.law_machine_is_serializable.ensures in record {
  device = omega arith;
  runs = record { choices = []; are = refl; by = no_event c.args.self.now (sound c.args.self.now law.serializable law.places c.law_is_stored.ensures) };
}

pub loop-event-preserved : goal.loop-event-preserved
loop-event-preserved g c = record {
  device = omega (arith, c.loop-event.invariant.device, c.step-outcome.ensures.device);
  runs = (
      let P : List HubEvent → Type 0 = λ hs. Runs c.args.self.now c.step-outcome.new.self hs in
      let next = get_or c.args.events.now c.loop-event.event-index (Joined 0) in
      let e : HubEvent = event_of next in
      let all = ap (map event_of) (take_more c.args.events.now c.loop-event.event-index (Joined 0) c.loop-event-test.true)
      ∙ map-append event_of _ (next ∷ []) in
      let leads = c.step-outcome.ensures.step in
      let so_far = c.loop-event.invariant.runs in
      let x = c.step-outcome.ensures.ran leads.0 leads.2
      (λ h stands. (let there = reached c.loop-event.self c.step-outcome.new.self e c.step-outcome.result leads h stands in (there.possible, there.stands)))
      in
      subst P (sym all) (record {
        choices = so_far.choices ++ (e, x.0) ∷ [];
        are = map-append (λ (e : HubEvent × Choice). e.0) so_far.choices ((e, x.0) ∷ []) ∙ ap (λ xs. xs ++ e ∷ []) so_far.are;
        by = ran_then c.args.self.now c.loop-event.self c.step-outcome.new.self so_far.choices ((e, x.0) ∷ []) so_far.by x.2;
      }));
}
