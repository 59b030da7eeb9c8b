use Rattle.scripts.proofs.playing.open.Goals as goal
use Rattle.std.proofs.Common.{◌≡◌, ap, subst, ◌∙◌, length, [], sym, replicate}
use Rattle.std.proofs.lemmas.List.{length-map, length-replicate}
use Rattle.model.specs.Machine.{opened}
use Rattle.sessions.specs.SessionStreams.{hub_over}
use Rattle.sessions.specs.StandsFor.{StandsFor}

pub returns-clause-at : goal.returns-clause-at
returns-clause-at c =
    let formatted = c.in_ok-format.ensures.formatted tt in
    let size : length c.format.new.device.slots.items ≡ c.args.sectors =
    c.in_ok-format.ensures.calls.0 ∙ sym (length-map c.in_ok-device.device.slots.items _) ∙ ap length c.in_ok-device.ensures.image
    ∙ length-replicate c.args.sectors (replicate 512 0) in
    let found = (c.in_ok-engine.ensures.finds tt).found formatted.0 [] formatted.1.size_is formatted.1.read formatted.2 in
    record {
      hub = subst (λ n. StandsFor c.new-2.result (hub_over (opened [] 2 n))) size (c.new-2.ensures.stands _ found);
      labels = c.new-3.ensures.items;
    }
