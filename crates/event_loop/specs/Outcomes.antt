-- What the system's answers to calls that don't wait are reported as.
use Rattle.std.specs.IoError.{error_kind}
use Rattle.std.specs.Prelude.{◌≡◌, ◌≢◌, ◌⊎◌, ◌<◌, ℕ, Result, Ok, Err}
use Rattle.std.specs.declared.io.Error.{Error}
use Rattle.std.specs.declared.io.ErrorKind.TheVariants.{WouldBlock}
use Rattle.std.specs.declared.net.SocketAddr.{SocketAddr}
use Rattle.socket_calls.specs.declared.counted.AcceptedSocket.{AcceptedSocket}
use Rattle.stream_driver.specs.declared.answers.ReadAnswer.{ReadAnswer}
use Rattle.stream_driver.specs.declared.answers.ReadAnswer.TheVariants.{Moved, Blocked, Failed, Ended}
use Rattle.stream_driver.specs.declared.answers.WriteAnswer.{WriteAnswer}
use Rattle.stream_driver.specs.declared.answers.WriteAnswer.TheVariants.{Moved as Wrote, Blocked as WriteBlocked}
use Rattle.stream_driver.specs.declared.answers.WriteAnswer.TheVariants.{Failed as WriteFailed}
use Rattle.event_loop.specs.declared.listener.AcceptAnswer.{AcceptAnswer}
use Rattle.event_loop.specs.declared.listener.AcceptAnswer.TheVariants.{Accepted, Blocked as AcceptBlocked}
use Rattle.event_loop.specs.declared.listener.AcceptAnswer.TheVariants.{Failed as AcceptFailed}

-- a call that would have waited blocked, and any other that gave an error failed
abbrev pub ErrsAs : {A : Type 0} → Error → (blocked failed : A) → A → Type 0
ErrsAs error blocked failed answer =
    ((error_kind error ≡ WouldBlock) × (answer ≡ blocked)) ⊎ ((error_kind error ≢ WouldBlock) × (answer ≡ failed))

-- bytes moved, or none did
abbrev pub MovesAs : {A : Type 0} → ℕ → (none some : A) → A → Type 0
MovesAs n none some answer = ((n ≡ 0) × (answer ≡ none)) ⊎ ((0 < n) × (answer ≡ some))

abbrev pub ReadsAs : Result ℕ Error → ReadAnswer → Type 0
ReadsAs (Ok n) answer = MovesAs n Ended (Moved n) answer
ReadsAs (Err error) answer = ErrsAs error Blocked Failed answer

abbrev pub WritesAs : Result ℕ Error → WriteAnswer → Type 0
WritesAs (Ok n) answer = MovesAs n WriteFailed (Wrote n) answer
WritesAs (Err error) answer = ErrsAs error WriteBlocked WriteFailed answer

abbrev pub AcceptsAs : Result (AcceptedSocket × SocketAddr) Error → AcceptAnswer → Type 0
AcceptsAs (Ok accepted) answer = answer ≡ Accepted accepted.0
AcceptsAs (Err error) answer = ErrsAs error AcceptBlocked AcceptFailed answer
