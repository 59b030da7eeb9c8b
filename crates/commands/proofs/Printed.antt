-- How an outcome of a call becomes the command's.
use Rattle.std.proofs.Common.{◌≡◌, Result, Ok, Err, subst, sym}
use Rattle.std.specs.Prelude.{IsErrAnd, MatchResult}
use Rattle.std.specs.declared.io.Error.{Error}
use Rattle.commands.specs.Printing.{IsReportedAs}
use Rattle.commands.specs.Steps.{Calls}
use Rattle.commands.specs.declared.faults.Fault.{Fault}

-- a call whose outcome was handed on, its error as this fault
pub called : {A W : Type 0} (fault : Fault) (call : Result A Error → W → Type 0) (outcome : Result A Error) (result : Result A Fault) (left : W)
    → call outcome left → MatchResult outcome (λ a. result ≡ Ok a) (λ error. IsErrAnd result (IsReportedAs error fault)) → Calls fault call result left
called fault call (Ok a) result left was is = subst (λ r. Calls fault call r left) (sym is) was
called fault call (Err error) (Ok a) left was is = absurd is
called fault call (Err error) (Err reported) left was is = (error, was, is)
