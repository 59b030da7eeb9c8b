-- Which fault of the log is reported as a full one.
use Rattle.commit_log.specs.declared.faults.LogFault.TheVariants as logs
use Rattle.std.proofs.Common.{◌≡◌, refl, subst}
use Rattle.commit_log.specs.declared.faults.LogFault.{LogFault}
use Rattle.commands.specs.Faults.{of_log, IsFromOutput}
use Rattle.commands.specs.declared.faults.Fault.{Fault}
use Rattle.commands.specs.declared.faults.Fault.TheVariants.{LogFull}

pub full_alone : (e : LogFault) → of_log e ≡ LogFull → e ≡ logs.Full
full_alone logs.NotALog is = absurd (cc is)
full_alone (logs.Damaged index) is = absurd (cc is)
full_alone logs.Full is = refl
full_alone logs.Device is = absurd (cc is)
full_alone logs.Stopped is = absurd (cc is)
full_alone logs.Memory is = absurd (cc is)
full_alone logs.OldFormat is = absurd (cc is)
full_alone logs.NotEmpty is = absurd (cc is)

-- a fault of the output is none of the log
pub output_is_not_full : (f : Fault) → IsFromOutput f → f ≡ LogFull → ⊥
output_is_not_full f is same = subst IsFromOutput same is
