-- Steps of a command, one after another. Each is said by how it comes out and what it leaves.
use Rattle.std.specs.Prelude.{◌≡◌, Result, Ok, Err, MatchResult}
use Rattle.std.specs.declared.io.Error.{Error}
use Rattle.commit_log.specs.declared.faults.LogFault.{LogFault}
use Rattle.commands.specs.Faults.{of_log}
use Rattle.commands.specs.Printing.{IsReportedAs}
use Rattle.commands.specs.declared.faults.Fault.{Fault}

-- what is said of a step: of what it gave, or its fault, and of what it left
abbrev pub Step : Type 0 → Type 0 → Type 1
Step A W = Result A Fault → W → Type 0

-- A step, and then the next, with what the first gave and left. Where the first fails, its fault is that of both,
-- nothing else is called, and all is left as `leaves` says.
abbrev pub Try : {A B V W : Type 0} → Step A V → (V → W) → (A → V → Step B W) → Step B W
Try {A} {V = V} step leaves next result new =
    (outcome : Result A Fault) × (left : V) × step outcome left
    × MatchResult outcome (λ a. next a left result new) (λ fault. (result ≡ Err fault) × (new ≡ leaves left))

-- no call: this is given and left
abbrev pub Yields : {A W : Type 0} → Result A Fault → W → Step A W
Yields given so result left = (result ≡ given) × (left ≡ so)

-- one call, whose error is reported as such a fault
abbrev pub Reports : {A E W : Type 0} → (E → Fault → Type 0) → (Result A E → W → Type 0) → Step A W
Reports IsFor call (Ok a) left = call (Ok a) left
Reports {E = E} IsFor call (Err fault) left = (error : E) × call (Err error) left × IsFor error fault

-- one call of the system, whose error is this fault, or out of memory where its kind says so
abbrev pub Calls : {A W : Type 0} → Fault → (Result A Error → W → Type 0) → Step A W
Calls fault = Reports (λ error. IsReportedAs error fault)

-- one call of the log
abbrev pub CallsLog : {A W : Type 0} → (Result A LogFault → W → Type 0) → Step A W
CallsLog = Reports (λ error fault. fault ≡ of_log error)
