-- One call of a socket, under the premise that sockets report the bytes that they move.
use Rattle.std.proofs.Common.{◌≡◌, ◌≢◌, inl, inr, ℕ, ◌-◌, ◌^◌, List, [], ◌∷◌, ◌++◌, map, take, refl}
use Rattle.std.proofs.Common.{Result, Ok, Err, IsErr, MatchResult, sym, ap, subst, ◌∙◌, arith}
use Rattle.std.proofs.lemmas.Bool.{cases_eq}
use Rattle.std.proofs.lemmas.List.{append-nil, map-append}
use Rattle.socket_calls.specs.HappenedCalls.{WasReceived, WasSent}
use Rattle.socket_calls.specs.OpenFacts.{IsConnectionOf, departed, bytes_received, latest, moved, socket_after_call}
use Rattle.socket_calls.specs.OpenFacts.{bytes_sent}
use Rattle.socket_calls.specs.declared.counted.AcceptedSocket.{AcceptedSocket}
use Rattle.socket_calls.specs.declared.counted.CountedSocket.{CountedSocket}
use Rattle.stream_driver.proofs.Buffering.{none_departed}
use Rattle.stream_driver.specs.Buffers.{IsNew}
use Rattle.stream_driver.specs.Traffic.{DepartAt, IsUncalled, Traffic, bytes_read, bytes_written}
use Rattle.stream_driver.specs.declared.answers.ReadAnswer.{ReadAnswer}
use Rattle.stream_driver.specs.declared.answers.WriteAnswer.{WriteAnswer}
use Rattle.stream_driver.specs.declared.buffered.BufferedStream.{BufferedStream}
use Rattle.event_loop.specs.Sockets.{IsNewSocket, IsSetUp, SocketsReport, departure_of, traffic_of}
use Rattle.event_loop.specs.Tables.{IsOutsideCause}
use Rattle.event_loop.specs.declared.connections.Refusal.{Refusal}
use Rattle.event_loop.specs.declared.connections.Refusal.TheVariants.{Room}
use Rattle.event_loop.specs.declared.socket.Socket.{Socket}

latest-append : (none : List ℕ) (ds : List (List ℕ × ℕ)) (d : List ℕ × ℕ) → latest none (ds ++ d ∷ []) ≡ d.0
latest-append none [] d = refl
latest-append none (x ∷ xs) d = latest-append x.0 xs d

none_moved : {E : Type 0} (outcome : Result ℕ E) → IsErr outcome → moved outcome ≡ 0
none_moved outcome failed = grind arith

module _ {E : Type 0} (old mid new : CountedSocket) (bytes : List ℕ) (outcome : Result ℕ E) (called : mid ≡ socket_after_call old) (kept : new ≡ mid)
    (over : old.calls ≡ 2 ^ 64 - 1 → IsErr outcome) where
  abbrev went : List ℕ
  went = take (moved outcome) bytes

  -- of a socket of which as many calls were made as can be counted no more is made, and none moves
  by_calls : (P : CountedSocket → List ℕ → Type 0) → P old [] → (old.calls ≢ 2 ^ 64 - 1 → P (socket_after_call old) went) → P new went
  by_calls P none one = elim (cases_eq old.calls (2 ^ 64 - 1)) [
    | inl last ↦
        let same : new ≡ old = kept ∙ called ∙ ap (λ n. record old { calls = n }) (rw last refl) in
        subst (λ (s : CountedSocket). P s went) (sym same) (subst (λ n. P old (take n bytes)) (sym (none_moved outcome (over last))) none)
    | inr fewer ↦ subst (λ (s : CountedSocket). P s went) (sym (kept ∙ called)) (one fewer)
  ]

  module _ (happened : old.calls ≢ 2 ^ 64 - 1 → WasReceived old went) where
    pub received_read : (answer : ReadAnswer) → bytes_read answer ≡ moved outcome → SocketsReport → bytes_received new ≡ bytes_received old
        ++ take (bytes_read answer) bytes
    received_read answer count reports =
        by_calls (λ s gone. bytes_received s ≡ bytes_received old ++ gone) (sym (append-nil (bytes_received old)))
        (λ fewer. (reports.received old went (happened fewer)).0)
        ∙ ap (λ n. bytes_received old ++ take n bytes) (sym count)

    none_left : SocketsReport → departed new ≡ departed old
    none_left reports = by_calls (λ s gone. departed s ≡ departed old) refl (λ fewer. (reports.received old went (happened fewer)).1)

    pub sent_read : SocketsReport → bytes_sent new ≡ bytes_sent old
    sent_read reports = ap (λ l. latest [] l) (none_left reports)

    pub departed_read : (moment : ℕ) (before after : Traffic) → before.departed ≡ map departure_of (departed old)
        → after.departed ≡ map departure_of (departed new) → SocketsReport → DepartAt moment before after
    departed_read moment before after was is reports = none_departed (is ∙ ap (λ l. map departure_of l) (none_left reports) ∙ sym was)

  module _ (moment : ℕ) (happened : old.calls ≢ 2 ^ 64 - 1 → WasSent old went moment) where
    pub received_written : SocketsReport → bytes_received new ≡ bytes_received old
    received_written reports = by_calls (λ s gone. bytes_received s ≡ bytes_received old) refl (λ fewer. (reports.sent old went moment (happened fewer)).0)

    all_sent : SocketsReport → bytes_sent new ≡ bytes_sent old ++ went
    all_sent reports = by_calls (λ s gone. bytes_sent s ≡ bytes_sent old ++ gone) (sym (append-nil (bytes_sent old))) (λ fewer.
        ap (λ l. latest [] l) (reports.sent old went moment (happened fewer)).1 ∙ latest-append [] (departed old) (bytes_sent old ++ went, moment))

    pub departed_written : (before after : Traffic) → before.departed ≡ map departure_of (departed old) → after.departed ≡ map departure_of (departed new)
        → after.sent ≡ bytes_sent new → SocketsReport → DepartAt moment before after
    departed_written before after was is took reports =
        by_calls (λ s gone. after.departed ≡ map departure_of (departed s) → after.sent ≡ bytes_sent old ++ gone → DepartAt moment before after)
        (λ is took. none_departed (is ∙ sym was))
        (λ fewer is took. record {
          departures = departure_of (bytes_sent old ++ went, moment) ∷ [];
          departed_are =
              is ∙ ap (λ l. map departure_of l) (reports.sent old went moment (happened fewer)).1
              ∙ map-append departure_of (departed old) ((bytes_sent old ++ went, moment) ∷ [])
              ∙ ap (λ l. l ++ departure_of (bytes_sent old ++ went, moment) ∷ []) (sym was);
          each = ((refl, record { rest = []; all_is = took ∙ sym (append-nil (bytes_sent old ++ went)) }), tt);
        }) is (took ∙ all_sent reports)

    pub sent_written : (answer : WriteAnswer) → bytes_written answer ≡ moved outcome → SocketsReport → bytes_sent new ≡ bytes_sent old
        ++ take (bytes_written answer) bytes
    sent_written answer count reports = all_sent reports ∙ ap (λ n. bytes_sent old ++ take n bytes) (sym count)

-- a stream was made for a new connection, or memory was refused for it
pub prepared : (accepted : AcceptedSocket) (key session : ℕ) (inner : Socket) (made : Result (BufferedStream Socket) Refusal)
    → MatchResult made (IsNew inner) (λ refusal. refusal ≡ Room) → IsUncalled SocketsReport session (traffic_of inner)
    → IsSetUp (record { 0 = key }) inner.socket → IsConnectionOf accepted inner.socket → MatchResult made (IsNewSocket accepted key session) IsOutsideCause
prepared accepted key session inner (Ok stream) new uncalled ready is = (inner, uncalled, new, ready.options, ready.place, is)
prepared accepted key session inner (Err refusal) room uncalled ready is = subst IsOutsideCause (sym room) tt
