use Rattle.test_hubs.proofs.hubs.open_hub.Goals as goal
use Rattle.sessions.specs.Restarts.{IsOpened}
use Rattle.test_hubs.proofs.Opened.{stands_once_opened}

pub returns : goal.returns
returns g c =
    let begins = c.in_ok-open.ensures.begins in
    let start : IsOpened c.in_ok-open.field-0 =
    record { dev = c.args.device; map = begins.0; begins = begins.1; in_bounds = begins.2; opens = c.in_ok-open.ensures.opens } in
    record {
      stands = stands_once_opened _ start;
      opened = start;
    }
