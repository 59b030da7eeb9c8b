-- Worked runs: limits, refusals outside a transaction, and a device that fails or is full.
use Rattle.std.proofs.Common.{◌≡◌, ℕ, zero, suc, true, List, [], ◌∷◌, ◌++◌, None, refl, replicate}
use Rattle.model.proofs.Rows.Words.{Request, begin, get, set, range, range_from, commit, abort, ping, faulty, value}
use Rattle.model.proofs.Rows.Words.{pair, start, run, after, ◌⇒◌, Plays}
use Rattle.model.specs.Machine.{opened, step}
use Rattle.model.specs.Operations.{Response}
use Rattle.model.specs.Operations.Operation.{Get, Set, Commit}
use Rattle.model.specs.Operations.Response.{Done, Pong, Number, Value, Pairs, Refused}
use Rattle.model.specs.Verdict.{verdict}
use Rattle.model.specs.declared.refusals.Refusal.TheVariants.{UnknownCommand, BadArguments, BadKey, BadLimit}
use Rattle.model.specs.declared.refusals.Refusal.TheVariants.{AlreadyOpen, NotOpen, FullWrites, FullMarks}
use Rattle.model.specs.declared.refusals.Refusal.TheVariants.{FullTransactions, FullLog, StoreFault, StoreStopped}

-- ---- the most of each

-- n requests, the last one first
abbrev each_of : (ℕ → Request) → ℕ → List Request
each_of request zero = []
each_of request (suc n) = request n ∷ each_of request n

-- of different keys
abbrev set_key : ℕ → Request
set_key n = (1, Set (107 ∷ n ∷ []) (49 ∷ []))

abbrev get_key : ℕ → Request
get_key n = (1, Get (107 ∷ n ∷ []))

sixty_four_writes : run start (begin 1 ∷ (each_of set_key 64 ++ set 1 "z" "1" ∷ each_of set_key 1))
    ≡ Done ∷ (replicate 64 Done ++ Refused FullWrites ∷ Done ∷ [])
sixty_four_writes = unfold step verdict in refl

sixty_four_transactions : run start (each_of (λ n. begin (suc n)) 64 ++ begin 65 ∷ abort 1 ∷ begin 65 ∷ [])
    ≡ replicate 64 Done ++ Refused FullTransactions ∷ Done ∷ Done ∷ []
sixty_four_transactions = unfold step verdict in refl

two_hundred_fifty_six_marks : run start (begin 1 ∷ set 1 "z" "1"
    ∷ (each_of get_key 256 ++ get 1 "q" ∷ (each_of get_key 1 ++ get 1 "z" ∷ range 1 "a" "b" 1 ∷ [])))
    ≡ Done ∷ Done ∷ (replicate 256 (Value None) ++ Refused FullMarks ∷ Value None ∷ value "1" ∷ Refused FullMarks ∷ [])
two_hundred_fifty_six_marks = unfold step verdict in refl

-- ---- ranges

range_bounds_and_limits : Plays
    (begin 9 ⇒ Done ∷ set 9 "a" "1" ⇒ Done ∷ set 9 "b" "2" ⇒ Done ∷ commit 9 ⇒ Number 1 ∷
    begin 1 ⇒ Done ∷ range 1 "b" "b" 5 ⇒ Pairs [] ∷ range 1 "c" "a" 5 ⇒ Pairs [] ∷
    range_from 1 "a" 5 ⇒ Pairs (pair "a" "1" ∷ pair "b" "2" ∷ []) ∷ range_from 1 "a" 1 ⇒ Pairs (pair "a" "1" ∷ [])
    ∷ range 1 "a" "b" 128 ⇒ Pairs (pair "a" "1" ∷ []) ∷
    faulty 1 BadLimit ⇒ Refused BadLimit ∷ faulty 1 BadKey ⇒ Refused BadKey ∷ [])
range_bounds_and_limits = unfold step verdict in refl

-- ---- outside a transaction

refusals_outside_a_transaction : Plays
    (faulty 1 BadKey ⇒ Refused BadKey ∷ get 1 "a" ⇒ Refused NotOpen ∷ faulty 1 BadArguments ⇒ Refused BadArguments
    ∷ faulty 1 UnknownCommand ⇒ Refused UnknownCommand ∷
    ping 1 ⇒ Pong ∷ abort 1 ⇒ Refused NotOpen ∷ begin 1 ⇒ Done ∷ begin 1 ⇒ Refused AlreadyOpen ∷ [])
refusals_outside_a_transaction = unfold step verdict in refl

-- ---- the device

-- on a device of 4 sectors
log_full : run (opened [] 2 4)
    (begin 1 ∷ set 1 "a" "1" ∷ commit 1 ∷
    begin 1 ∷ set 1 "a" "2" ∷ commit 1 ∷
    begin 1 ∷ get 1 "a" ∷ commit 1 ∷ [])
    ≡ Done ∷ Done ∷ Number 1 ∷
    Done ∷ Done ∷ Refused FullLog ∷
    Done ∷ value "1" ∷ Number 2 ∷ []
log_full = unfold step verdict in refl

-- what session 1 is answered to its COMMIT after the requests, where the device fails in that call, and then the others
abbrev run_failing : List Request → List Request → List Response
run_failing before behind =
    run start before ++ (step (after start before) 1 Commit true).1 ∷ run (step (after start before) 1 Commit true).0 behind

device_fault : run_failing
    (begin 1 ∷ begin 2 ∷ set 1 "a" "1" ∷ set 2 "b" "1" ∷ [])
    (get 2 "b" ∷ commit 2 ∷ begin 2 ∷ [])
    ≡ Done ∷ Done ∷ Done ∷ Done ∷ Refused StoreFault ∷
    value "1" ∷ Refused StoreStopped ∷ Refused StoreStopped ∷ []
device_fault = unfold step verdict in refl
