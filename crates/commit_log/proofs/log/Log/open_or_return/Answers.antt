use Rattle.commit_log.proofs.log.Log.open_or_return.Goals as goal
use Rattle.std.proofs.Common.{arith, ◌≡◌, refl}
use Rattle.std.proofs.lemmas.Grind.{common_steps}
use Rattle.commit_log.proofs.Protocol.{log_opened}
use Rattle.commit_log.proofs.Recovering.{log_unique, log_not_damaged, log_is_log, log_not_old, settles_as}
use Rattle.commit_log.proofs.Recovering.{refused_log, refused_damaged, refused_no_log, refused_old, device_refused}
use Rattle.commit_log.proofs.Recovering.{device_refused_left}
use Rattle.commit_log.specs.Format.{current}

pub returns-in-Err-clause-finds : goal.returns-in-Err-clause-finds
returns-in-Err-clause-finds g c keeps = record {
  found = λ disk lists len reads holds. refused_log lists disk _ holds (device_refused _ _ _ _ (c.in-Err.ensures.reports keeps) disk len reads);
  damaged = λ disk lists len reads holds. refused_damaged lists disk _ holds (device_refused _ _ _ _ (c.in-Err.ensures.reports keeps) disk len reads);
  no_log = λ disk len reads no_log. refused_no_log disk _ no_log (device_refused _ _ _ _ (c.in-Err.ensures.reports keeps) disk len reads);
  older = λ disk len reads has. refused_old disk _ has (device_refused _ _ _ _ (c.in-Err.ensures.reports keeps) disk len reads);
  undamaged = λ all_logs. device_refused_left _ _ _ _ (c.in-Err.ensures.reports keeps) all_logs;
}

pub returns-clause-stands : goal.returns-clause-stands
returns-clause-stands g c keeps = grind (arith, common_steps, log_opened)

pub returns-clause-finds : goal.returns-clause-finds
returns-clause-finds g c keeps =
    let opened = c.in-Ok.ensures.reports keeps in
    record {
      found = λ disk lists len reads holds.
          let same : opened.0 ≡ disk = settles_as _ _ _ opened.0 disk opened.1 len reads in
          let is : opened.2.lists ≡ lists = log_unique current opened.2.lists lists disk (rw same at opened.2.holds) holds in
          rw (← is) (log_opened _ _ _ opened.2 refl refl refl refl, opened.2.reports.map);
      damaged = λ disk lists len reads holds.
          let same : opened.0 ≡ disk = settles_as _ _ _ opened.0 disk opened.1 len reads in
          log_not_damaged current opened.2.lists lists disk (rw same at opened.2.holds) holds;
      no_log = λ disk len reads no_log.
          let same : opened.0 ≡ disk = settles_as _ _ _ opened.0 disk opened.1 len reads in
          log_is_log current opened.2.lists disk (rw same at opened.2.holds) (no_log current);
      older = λ disk len reads has.
          let same : opened.0 ≡ disk = settles_as _ _ _ opened.0 disk opened.1 len reads in
          log_not_old opened.2.lists disk (rw same at opened.2.holds) has;
      undamaged = λ all_logs. search;
    }
