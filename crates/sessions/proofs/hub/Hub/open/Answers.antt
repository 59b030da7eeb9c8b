use Rattle.sessions.proofs.hub.Hub.open.Goals as goal
use Rattle.std.proofs.Common.{◌+◌, sym, subst}
use Rattle.model.specs.Machine.{opened}
use Rattle.model.specs.Map.{KeyMap}
use Rattle.sector.specs.SectorModel.{LeavesOnly}
use Rattle.commit_log.specs.LogImage.{span}
use Rattle.sessions.specs.SessionStreams.{hub_over}
use Rattle.sessions.specs.StandsFor.{StandsFor}

pub returns-in-Ok-clause-begins : goal.returns-in-Ok-clause-begins
returns-in-Ok-clause-begins g c =
    let o = c.in-Ok.ensures.opens in
    (o.map, record { used = o.used; stands = c.new.ensures.stands _ o.stands }, o.in_bounds _ o.stands)

pub returns-in-Ok-clause-opens : goal.returns-in-Ok-clause-opens
returns-in-Ok-clause-opens g c keeps = record {
  during = subst (λ d. LeavesOnly g.D.Sectors.moment g.D.Sectors.left_since c.args.dev d (g.D.Sectors.may_leave c.args.dev)) (sym c.new.ensures.device)
      (c.in-Ok.ensures.during keeps);
  ends = λ image map long reads x. (
      let found = (c.in-Ok.ensures.finds keeps).found image x.0 long reads x.1 in
      let P : KeyMap → Type 0 = λ m. StandsFor c.new.result (hub_over (opened m (2 + span x.0) (g.D.Sectors.size c.args.dev))) in
      record { used = 2 + span x.0; stands = subst P x.2 (c.new.ensures.stands _ found) });
}

pub returns-in-Ok-clause-reports : goal.returns-in-Ok-clause-reports
returns-in-Ok-clause-reports g c = record {
  faults = search;
  cause = search;
  short = c.in-Ok.ensures.short;
  damaged = λ keeps. (c.in-Ok.ensures.finds keeps).damaged;
  no_log = λ keeps. (c.in-Ok.ensures.finds keeps).no_log;
  older = λ keeps. (c.in-Ok.ensures.finds keeps).older;
}

pub returns-in-Err-clause-reports : goal.returns-in-Err-clause-reports
returns-in-Err-clause-reports g c = record {
  faults = c.in-Err.ensures.refused.fault;
  cause = c.in-Err.ensures.refused.cause;
  short = c.in-Err.ensures.short;
  damaged = λ keeps. (c.in-Err.ensures.finds keeps).damaged;
  no_log = λ keeps. (c.in-Err.ensures.finds keeps).no_log;
  older = λ keeps. (c.in-Err.ensures.finds keeps).older;
}
