-- What is printed, call by call, over whatever takes lines. `writes` relates it before a line was taken, the line, how
-- that came out, and it afterwards.
use Rattle.std.specs.IoError.{error_kind}
use Rattle.std.specs.Prelude.{◌≡◌, ◌≢◌, ◌⊎◌, ℕ, List, Result, Ok, Err}
use Rattle.std.specs.declared.io.Error.{Error}
use Rattle.std.specs.declared.io.ErrorKind.TheVariants.{OutOfMemory}
use Rattle.commands.specs.declared.faults.Fault.{Fault}
use Rattle.commands.specs.declared.faults.Fault.TheVariants.{Memory}

-- an error of the system is reported as this fault, or as out of memory where its kind says so
abbrev pub IsReportedAs : Error → Fault → Fault → Type 0
IsReportedAs error fault reported =
    ((error_kind error ≡ OutOfMemory) × (reported ≡ Memory)) ⊎ ((error_kind error ≢ OutOfMemory) × (reported ≡ fault))

-- a line that takes memory to lay out is printed: it was taken, or there was no memory for it and nothing was
abbrev pub Prints : {O : Type 0} → (O → List ℕ → Result (Unit {0}) Error → O → Type 0) → List ℕ → O
    → Result (Unit {0}) Error → O → Type 0
Prints writes line out (Ok done) printed = writes out line (Ok done) printed
Prints writes line out (Err error) printed =
    (writes out line (Err error) printed) ⊎ ((error_kind error ≡ OutOfMemory) × (printed ≡ out))
