-- The calls that a run of the program really made of a connection, of a poll and of a socket that listens. They are
-- left open, as the facts of a connection are. The lemmas are to be cited only of the call that a proof is about, by
-- the answers in `proofs/` of this crate.
use Rattle.std.specs.Prelude.{ℕ, List, Option, Result, Ok, Err, IfErr, IfOk, OnOk}
use Rattle.std.specs.declared.io.Error.{Error}
use Rattle.std.specs.declared.net.SocketAddr.{SocketAddr}
use Rattle.std.specs.declared.time.Duration.{Duration}
use Rattle.mio.specs.declared.event.event.Event.{Event}
use Rattle.mio.specs.declared.interest.Interest.{Interest}
use Rattle.mio.specs.declared.token.Token.{Token}
use Rattle.socket_calls.specs.declared.counted.AcceptedSocket.{AcceptedSocket}
use Rattle.socket_calls.specs.declared.counted.CountedSocket.{CountedSocket}
use Rattle.socket_calls.specs.declared.listening.ListeningSocket.{ListeningSocket}
use Rattle.socket_calls.specs.declared.polled.CountedPoll.{CountedPoll}

-- a call of the system answered this error
pub SocketAnswered : Error → Type 0
SocketAnswered error = Unit {0}

-- its next call was a read of these bytes
pub WasReceived : CountedSocket → List ℕ → Type 0
WasReceived socket bytes = Unit {0}

-- its next call was a write of these bytes, as the device stood at this moment
pub WasSent : CountedSocket → List ℕ → ℕ → Type 0
WasSent socket bytes moment = Unit {0}

-- the system was asked to send at once what is written, whatever is still to be acknowledged (TCP_NODELAY), and agreed
pub SendsAtOnce : CountedSocket → Type 0
SendsAtOnce socket = Unit {0}

-- the system was asked to probe the peer once it was silent for so many seconds, and again after each so many more,
-- and to end the connection where it answers none of so many probes (SO_KEEPALIVE), and agreed
pub AsksWhetherThere : CountedSocket → ℕ → ℕ → ℕ → Type 0
AsksWhetherThere socket silent between probes = Unit {0}

-- a poll was asked to report it under this token, for what these interests name, and agreed
pub WasRegistered : CountedSocket → Token → Interest → Type 0
WasRegistered socket token interests = Unit {0}

-- the poll that reported it was asked to do so under this token from then on, and for what these interests name alone,
-- and agreed
pub WasReregistered : CountedSocket → Token → Interest → Type 0
WasReregistered socket token interests = Unit {0}

-- the system was asked to shut it down for writing once what was written has gone, and agreed
pub EndedWriting : CountedSocket → Type 0
EndedWriting socket = Unit {0}

-- its next wait was asked to be so long, without end where none is given
pub WasAskedToWait : CountedPoll → Option Duration → Type 0
WasAskedToWait poll timeout = Unit {0}

-- its next wait ended with these events
pub WasReported : CountedPoll → List Event → Type 0
WasReported poll events = Unit {0}

-- it was made to listen at this address
pub ListensAt : ListeningSocket → SocketAddr → Type 0
ListensAt listener address = Unit {0}

-- its next accept gave this connection
pub WasAccepted : ListeningSocket → AcceptedSocket → Type 0
WasAccepted listener accepted = Unit {0}

-- a poll was asked to report it under this token, for what these interests name, and agreed
pub ReportsAccepts : ListeningSocket → Token → Interest → Type 0
ReportsAccepts listener token interests = Unit {0}

-- asked for the address at which it listens, the system answered this one
pub IsAddressOf : ListeningSocket → SocketAddr → Type 0
IsAddressOf listener address = Unit {0}

pub real_fault : {A : Type 0} (answer : Result A Error) → IfErr answer (λ e. SocketAnswered e)
unfolding SocketAnswered
real_fault (Ok a) = tt
real_fault (Err e) = tt

pub real_receive : (socket : CountedSocket) (bytes : List ℕ) → WasReceived socket bytes
unfolding WasReceived
real_receive socket bytes = tt

pub real_send : (socket : CountedSocket) (bytes : List ℕ) (moment : ℕ) → WasSent socket bytes moment
unfolding WasSent
real_send socket bytes moment = tt

pub real_send_at_once : (socket : CountedSocket) → SendsAtOnce socket
unfolding SendsAtOnce
real_send_at_once socket = tt

pub real_ask_whether_there : (socket : CountedSocket) (silent between probes : ℕ)
    → AsksWhetherThere socket silent between probes
unfolding AsksWhetherThere
real_ask_whether_there socket silent between probes = tt

pub real_register : (socket : CountedSocket) (token : Token) (interests : Interest)
    → WasRegistered socket token interests
unfolding WasRegistered
real_register socket token interests = tt

pub real_reregister : (socket : CountedSocket) (token : Token) (interests : Interest)
    → WasReregistered socket token interests
unfolding WasReregistered
real_reregister socket token interests = tt

pub real_end_writing : (socket : CountedSocket) → EndedWriting socket
unfolding EndedWriting
real_end_writing socket = tt

pub real_wait : (poll : CountedPoll) (timeout : Option Duration) → WasAskedToWait poll timeout
unfolding WasAskedToWait
real_wait poll timeout = tt

pub real_report : {A : Type 0} (poll : CountedPoll) (answer : Result A Error) (events : List Event)
    → OnOk answer (WasReported poll events)
unfolding WasReported
real_report poll (Ok done) events = tt
real_report poll (Err error) events = tt

pub real_listen : (listener : ListeningSocket) (address : SocketAddr) → ListensAt listener address
unfolding ListensAt
real_listen listener address = tt

pub real_accept : (listener : ListeningSocket) (answer : Result (AcceptedSocket × SocketAddr) Error)
    → IfOk answer (λ given. WasAccepted listener given.0)
unfolding WasAccepted
real_accept listener (Ok given) = tt
real_accept listener (Err error) = tt

pub real_accepts_reported : (listener : ListeningSocket) (token : Token) (interests : Interest)
    → ReportsAccepts listener token interests
unfolding ReportsAccepts
real_accepts_reported listener token interests = tt

pub real_address : (answer : Result SocketAddr Error) (listener : ListeningSocket)
    → IfOk answer (λ address. IsAddressOf listener address)
unfolding IsAddressOf
real_address (Ok address) listener = tt
real_address (Err error) listener = tt
