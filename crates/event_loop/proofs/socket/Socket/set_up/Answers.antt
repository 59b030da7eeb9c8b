use Rattle.event_loop.proofs.socket.Socket.set_up.Goals as goal
use Rattle.std.proofs.Common.{Result, Ok, Err, OnOk, subst}
use Rattle.socket_calls.specs.HappenedCalls.{AsksWhetherThere, SendsAtOnce}
use Rattle.event_loop.specs.declared.socket.Socket.{Socket}

on_ok : {A E P Q : Type 0} (answer : Result A E) → (P → Q) → OnOk answer P → OnOk answer Q
on_ok (Ok a) f p = f p
on_ok (Err e) f p = tt

pub returns-clause-set_up : goal.returns-clause-set_up
returns-clause-set_up c =
    let same = c.register.ensures.same in
    on_ok c.ask_whether_there.result
    (λ asks. record {
      options = record {
        sends_at_once = subst (λ (s : Socket). SendsAtOnce s.socket) same c.in_ok-send_at_once.ensures.sends;
        asks = subst (λ (s : Socket). AsksWhetherThere s.socket 120 30 4) same asks;
      };
      place = c.in_ok-register.ensures.registered;
    })
    c.ask_whether_there.ensures.asks
