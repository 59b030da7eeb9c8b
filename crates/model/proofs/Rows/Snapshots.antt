-- Worked runs: what a transaction reads.
use Rattle.std.proofs.Common.{[], ◌∷◌, None, refl}
use Rattle.model.proofs.Rows.Words.{begin, get, set, del, range, range_from, commit, value, pair, ◌⇒◌, Plays}
use Rattle.model.specs.Machine.{step}
use Rattle.model.specs.Operations.Response.{Done, Number, Value, Pairs}
use Rattle.model.specs.Verdict.{verdict}

committed_write_is_seen : Plays
    (begin 1 ⇒ Done ∷ set 1 "a" "1" ⇒ Done ∷ commit 1 ⇒ Number 1 ∷ begin 2 ⇒ Done ∷ get 2 "a" ⇒ value "1" ∷ [])
committed_write_is_seen = unfold step verdict in refl

snapshot_is_kept : Plays
    (begin 1 ⇒ Done ∷ begin 2 ⇒ Done ∷ set 2 "a" "1" ⇒ Done ∷ commit 2 ⇒ Number 1 ∷ get 1 "a" ⇒ Value None ∷ [])
snapshot_is_kept = unfold step verdict in refl

own_write_is_private : Plays
    (begin 1 ⇒ Done ∷ set 1 "a" "1" ⇒ Done ∷ get 1 "a" ⇒ value "1" ∷ begin 2 ⇒ Done ∷ get 2 "a" ⇒ Value None ∷ [])
own_write_is_private = unfold step verdict in refl

deleted_key : Plays
    (begin 9 ⇒ Done ∷ set 9 "a" "1" ⇒ Done ∷ commit 9 ⇒ Number 1 ∷
    begin 1 ⇒ Done ∷ del 1 "a" ⇒ Done ∷ get 1 "a" ⇒ Value None ∷ range_from 1 "a" 9 ⇒ Pairs [] ∷
    begin 2 ⇒ Done ∷ get 2 "a" ⇒ value "1" ∷ commit 1 ⇒ Number 2 ∷ get 2 "a" ⇒ value "1" ∷ commit 2 ⇒ Number 3 ∷ [])
deleted_key = unfold step verdict in refl

range_over_own_writes : Plays
    (begin 9 ⇒ Done ∷ set 9 "b" "1" ⇒ Done ∷ set 9 "d" "1" ⇒ Done ∷ commit 9 ⇒ Number 1 ∷
    begin 1 ⇒ Done ∷ set 1 "a" "2" ⇒ Done ∷ del 1 "b" ⇒ Done ∷ set 1 "d" "3" ⇒ Done ∷ set 1 "e" "4" ⇒ Done ∷
    range_from 1 "a" 9 ⇒ Pairs (pair "a" "2" ∷ pair "d" "3" ∷ pair "e" "4" ∷ []) ∷
    range_from 1 "a" 2 ⇒ Pairs (pair "a" "2" ∷ pair "d" "3" ∷ []) ∷ range 1 "b" "c" 5 ⇒ Pairs [] ∷ [])
range_over_own_writes = unfold step verdict in refl
