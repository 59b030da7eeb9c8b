-- Whether a read of a socket came short, as it notes it.
use Rattle.std.proofs.Common.{◌≡◌, ℕ, Bool, true}
use Rattle.stream_driver.specs.Waits.{ComesShort}
use Rattle.stream_driver.specs.declared.answers.ReadAnswer.{ReadAnswer}
use Rattle.stream_driver.specs.declared.answers.ReadAnswer.TheVariants.{Moved, Blocked, Failed, Ended}
use Rattle.event_loop.specs.Sockets.{CameShort}
use Rattle.event_loop.specs.declared.socket.Socket.{Socket}

pub notes_short : (old new : Socket) (len : ℕ) (answer : ReadAnswer) → ComesShort (λ (b : Bool). b ≡ true) old.came_short len answer new.came_short
    → ComesShort CameShort old len answer new
notes_short old new len (Moved n) comes = comes
notes_short old new len Blocked comes = comes
notes_short old new len Failed comes = comes
notes_short old new len Ended comes = comes
