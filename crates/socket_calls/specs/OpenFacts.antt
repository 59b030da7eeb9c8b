-- The facts of a connection as it stands after so many calls: the bytes that came over it and those that went, and at
-- which waits of a poll it was ready again. They are
-- left open: no definition here but `socket_after_call`, `moved`, `latest` and `bytes_sent` unfolds, and no lemma is
-- about one, so that nothing can be shown of them nor refuted.
use Rattle.std.specs.Prelude.{◌≡◌, ℕ, ◌+◌, ◌-◌, ◌^◌, List, [], ◌∷◌, Result, Ok, Err, max, min}
use Rattle.socket_calls.specs.declared.counted.AcceptedSocket.{AcceptedSocket}
use Rattle.socket_calls.specs.declared.counted.CountedSocket.{CountedSocket}
use Rattle.socket_calls.specs.declared.listening.ListeningSocket.{ListeningSocket}
use Rattle.socket_calls.specs.declared.polled.CountedPoll.{CountedPoll}

-- the bytes that were received over it so far
pub bytes_received : CountedSocket → List ℕ
bytes_received socket = []

-- all bytes that were sent over it so far, after each write, with the moment of the device that the write was shown
pub departed : CountedSocket → List (List ℕ × ℕ)
departed socket = []

-- the last of these; before any, so many
abbrev pub latest : List ℕ → List (List ℕ × ℕ) → List ℕ
latest none [] = none
latest none (d ∷ ds) = latest d.0 ds

-- the bytes that were sent over it so far
abbrev pub bytes_sent : CountedSocket → List ℕ
bytes_sent socket = latest [] (departed socket)

-- As the next wait of this poll ended, the connection was ready again: since a call of it blocked or came short, bytes
-- had come in or its peer had ended, or there was room for more to send.
pub BecameReady : CountedPoll → CountedSocket → Type 0
BecameReady poll socket = Unit {0}

-- the connection after one call more
abbrev pub socket_after_call : CountedSocket → CountedSocket
socket_after_call socket = record socket { calls = min (socket.calls + 1) (2 ^ 64 - 1) }

-- how many bytes a call moved; one that failed moved none
abbrev pub moved : {E : Type 0} → Result ℕ E → ℕ
moved (Ok n) = n
moved (Err error) = 0

-- its connection is the one that was accepted
abbrev pub IsConnectionOf : AcceptedSocket → CountedSocket → Type 0
IsConnectionOf accepted socket = socket.stream ≡ accepted.stream

-- a listener after one accept more was asked of it
abbrev pub asked_once : ListeningSocket → ListeningSocket
asked_once listener = record listener { accepts = max listener.accepts (min (listener.accepts + 1) (2 ^ 64 - 1)) }
