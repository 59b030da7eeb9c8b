-- Worked runs: which commits are refused, and the serial order of those that are not; what a range marks.
use Rattle.std.proofs.Common.{◌≡◌, List, [], ◌∷◌, None, refl, map, codes}
use Rattle.model.proofs.Rows.Words.{begin, get, set, range, commit, value, pair, ◌⇒◌, Exchange, Plays, PlaysInOrder}
use Rattle.model.proofs.Rows.Words.{history_after, range_from}
use Rattle.model.specs.Machine.{step}
use Rattle.model.specs.Operations.Response.{Done, Number, Value, Pairs, Refused}
use Rattle.model.specs.SerialOrder.{place, serial_order, replay}
use Rattle.model.specs.Verdict.{verdict}
use Rattle.model.specs.declared.refusals.Refusal.TheVariants.{Overwritten, PivotSelf, Pivot, NotOpen}

first_committer_wins : Plays
    (begin 1 ⇒ Done ∷ begin 2 ⇒ Done ∷ set 1 "k" "1" ⇒ Done ∷ set 2 "k" "2" ⇒ Done ∷
    commit 1 ⇒ Number 1 ∷ commit 2 ⇒ Refused (Overwritten (codes "k")) ∷ get 2 "k" ⇒ Refused NotOpen ∷ [])
first_committer_wins = unfold step verdict in refl

first_committer_wins_both_keys : Plays
    (begin 1 ⇒ Done ∷ begin 2 ⇒ Done ∷
    set 1 "k" "1" ⇒ Done ∷ set 1 "j" "1" ⇒ Done ∷ set 2 "k" "2" ⇒ Done ∷ set 2 "j" "2" ⇒ Done ∷
    commit 1 ⇒ Number 1 ∷ commit 2 ⇒ Refused (Overwritten (codes "j")) ∷ [])
first_committer_wins_both_keys = unfold step verdict in refl

write_skew : Plays
    (begin 1 ⇒ Done ∷ get 1 "x" ⇒ Value None ∷ get 1 "y" ⇒ Value None ∷
    begin 2 ⇒ Done ∷ get 2 "x" ⇒ Value None ∷ get 2 "y" ⇒ Value None ∷ set 1 "x" "1" ⇒ Done ∷ set 2 "y" "1" ⇒ Done ∷
    commit 1 ⇒ Number 1 ∷ commit 2 ⇒ Refused PivotSelf ∷ [])
write_skew = unfold step verdict in refl

phantom_skew : Plays
    (begin 1 ⇒ Done ∷ range 1 "a" "c" 10 ⇒ Pairs [] ∷ begin 2 ⇒ Done ∷ range 2 "a" "c" 10 ⇒ Pairs [] ∷
    set 1 "a" "1" ⇒ Done ∷ set 2 "b" "1" ⇒ Done ∷ commit 1 ⇒ Number 1 ∷ commit 2 ⇒ Refused PivotSelf ∷ [])
phantom_skew = unfold step verdict in refl

read_only_anomaly : Plays
    (begin 1 ⇒ Done ∷ get 1 "x" ⇒ Value None ∷ get 1 "y" ⇒ Value None ∷
    begin 2 ⇒ Done ∷ get 2 "y" ⇒ Value None ∷ set 2 "y" "1" ⇒ Done ∷ commit 2 ⇒ Number 1 ∷
    begin 3 ⇒ Done ∷ get 3 "x" ⇒ Value None ∷ get 3 "y" ⇒ value "1" ∷ commit 3 ⇒ Number 2 ∷
    set 1 "x" "1" ⇒ Done ∷ commit 1 ⇒ Refused PivotSelf ∷ [])
read_only_anomaly = unfold step verdict in refl

reader_finds_a_committed_pivot : Plays
    (begin 1 ⇒ Done ∷ begin 2 ⇒ Done ∷ begin 3 ⇒ Done ∷ set 1 "m" "1" ⇒ Done ∷ commit 1 ⇒ Number 1 ∷
    get 2 "m" ⇒ Value None ∷ set 2 "k" "1" ⇒ Done ∷ commit 2 ⇒ Number 2 ∷
    get 3 "k" ⇒ Value None ∷ commit 3 ⇒ Refused (Pivot 2) ∷ [])
reader_finds_a_committed_pivot = unfold step verdict in refl

writer_finds_a_committed_pivot : Plays
    (begin 1 ⇒ Done ∷ begin 2 ⇒ Done ∷ begin 3 ⇒ Done ∷ get 1 "k" ⇒ Value None ∷ commit 1 ⇒ Number 1 ∷
    get 2 "m" ⇒ Value None ∷ set 2 "k" "1" ⇒ Done ∷ commit 2 ⇒ Number 2 ∷ set 3 "m" "1" ⇒ Done ∷ commit 3 ⇒ Number 3 ∷ [])
writer_finds_a_committed_pivot = unfold step verdict in refl

-- these two are not concurrent
one_after_the_other : Plays
    (begin 1 ⇒ Done ∷ get 1 "x" ⇒ Value None ∷ get 1 "y" ⇒ Value None ∷ set 1 "x" "1" ⇒ Done ∷ commit 1 ⇒ Number 1 ∷
    begin 2 ⇒ Done ∷ get 2 "x" ⇒ value "1" ∷ get 2 "y" ⇒ Value None ∷ set 2 "y" "1" ⇒ Done ∷ commit 2 ⇒ Number 2 ∷ [])
one_after_the_other = unfold step verdict in refl

-- the first is concurrent with none that is open at the last commit
pivot_after_its_neighbour_was_forgotten : Plays
    (begin 1 ⇒ Done ∷ begin 2 ⇒ Done ∷ get 1 "k" ⇒ Value None ∷ commit 1 ⇒ Number 1 ∷ begin 3 ⇒ Done ∷
    get 2 "m" ⇒ Value None ∷ set 2 "k" "1" ⇒ Done ∷ commit 2 ⇒ Number 2 ∷ set 3 "m" "1" ⇒ Done ∷ commit 3 ⇒ Number 3 ∷ [])
pivot_after_its_neighbour_was_forgotten = unfold step verdict in refl

-- the second to commit is a pivot, and the one whose key it read is concurrent with none that is open at the last commit
pivot_after_its_target_was_forgotten : Plays
    (begin 1 ⇒ Done ∷ begin 2 ⇒ Done ∷ set 2 "m" "1" ⇒ Done ∷ commit 2 ⇒ Number 1 ∷ begin 3 ⇒ Done ∷
    get 1 "m" ⇒ Value None ∷ set 1 "k" "1" ⇒ Done ∷ commit 1 ⇒ Number 2 ∷
    get 3 "k" ⇒ Value None ∷ commit 3 ⇒ Refused (Pivot 2) ∷ [])
pivot_after_its_target_was_forgotten = unfold step verdict in refl

-- the last to commit stands between two, but the one that it would overtake committed after the one that would overtake it
earlier_reader_is_harmless : PlaysInOrder
    (begin 1 ⇒ Done ∷ begin 2 ⇒ Done ∷ begin 3 ⇒ Done ∷ get 1 "k" ⇒ Value None ∷ commit 1 ⇒ Number 1 ∷
    set 2 "m" "1" ⇒ Done ∷ commit 2 ⇒ Number 2 ∷ get 3 "m" ⇒ Value None ∷ set 3 "k" "1" ⇒ Done ∷ commit 3 ⇒ Number 3 ∷ [])
    (1 ∷ 3 ∷ 2 ∷ [])
earlier_reader_is_harmless = unfold step verdict serial_order in (refl, refl)

-- the first to commit is a pivot, but its target commits last
pivot_with_a_later_writer_is_harmless : PlaysInOrder
    (begin 1 ⇒ Done ∷ begin 2 ⇒ Done ∷ begin 3 ⇒ Done ∷ get 1 "m" ⇒ Value None ∷ set 1 "k" "1" ⇒ Done ∷ commit 1 ⇒ Number 1 ∷
    get 2 "k" ⇒ Value None ∷ commit 2 ⇒ Number 2 ∷ set 3 "m" "1" ⇒ Done ∷ commit 3 ⇒ Number 3 ∷ [])
    (2 ∷ 1 ∷ 3 ∷ [])
pivot_with_a_later_writer_is_harmless = unfold step verdict serial_order in (refl, refl)

-- the first to commit is a pivot, and its target commits second
pivot_before_its_target_is_harmless : PlaysInOrder
    (begin 1 ⇒ Done ∷ begin 2 ⇒ Done ∷ begin 3 ⇒ Done ∷ get 1 "m" ⇒ Value None ∷ set 1 "k" "1" ⇒ Done ∷ commit 1 ⇒ Number 1 ∷
    set 2 "m" "1" ⇒ Done ∷ commit 2 ⇒ Number 2 ∷ get 3 "k" ⇒ Value None ∷ commit 3 ⇒ Number 3 ∷ [])
    (3 ∷ 1 ∷ 2 ∷ [])
pivot_before_its_target_is_harmless = unfold step verdict serial_order in (refl, refl)

-- ---- the serial order

-- the second to commit read the key that the first wrote, before it did
abbrev overtaken : List Exchange
overtaken =
    begin 1 ⇒ Done ∷ begin 2 ⇒ Done ∷ set 2 "a" "1" ⇒ Done ∷ commit 2 ⇒ Number 1 ∷
    get 1 "a" ⇒ Value None ∷ set 1 "b" "1" ⇒ Done ∷ commit 1 ⇒ Number 2 ∷ []

serial_order_is_not_commit_order : PlaysInOrder overtaken (2 ∷ 1 ∷ [])
serial_order_is_not_commit_order = unfold step verdict serial_order in (refl, refl)

serial_order_is_not_commit_order_places : map (place (history_after overtaken)) (history_after overtaken)
    ≡ record { first = 1; second = 1; third = 0 } ∷ record { first = 1; second = 0; third = 2 } ∷ []
serial_order_is_not_commit_order_places = unfold step verdict in refl

serial_order_is_not_commit_order_map : replay [] (serial_order (history_after overtaken)) ≡ pair "a" "1" ∷ pair "b" "1" ∷ []
serial_order_is_not_commit_order_map = unfold step verdict serial_order in refl

-- Real time is kept, and not commit order. 1 read the key before 2 wrote it, so it stands first, though it commits last. 3 began when 2's COMMIT
-- was answered, and stands after it.
abbrev in_real_time : List Exchange
in_real_time =
    begin 1 ⇒ Done ∷ get 1 "a" ⇒ Value None ∷ begin 2 ⇒ Done ∷ set 2 "a" "1" ⇒ Done ∷ commit 2 ⇒ Number 1 ∷
    begin 3 ⇒ Done ∷ get 3 "a" ⇒ value "1" ∷ set 3 "b" "1" ⇒ Done ∷ commit 3 ⇒ Number 2 ∷ commit 1 ⇒ Number 3 ∷ []

real_time_is_not_commit_order : PlaysInOrder in_real_time (3 ∷ 1 ∷ 2 ∷ [])
real_time_is_not_commit_order = unfold step verdict serial_order in (refl, refl)

real_time_is_not_commit_order_begins : map (λ r. r.begin) (serial_order (history_after in_real_time)) ≡ 0 ∷ 0 ∷ 1 ∷ []
real_time_is_not_commit_order_begins = unfold step verdict serial_order in refl

-- the last to commit stands first, before one that ended before the other began
last_to_commit_stands_first : PlaysInOrder
    (begin 1 ⇒ Done ∷ get 1 "x" ⇒ Value None ∷ begin 2 ⇒ Done ∷ set 2 "x" "1" ⇒ Done ∷ commit 2 ⇒ Number 1 ∷
    begin 3 ⇒ Done ∷ get 3 "x" ⇒ value "1" ∷ commit 3 ⇒ Number 2 ∷ set 1 "y" "1" ⇒ Done ∷ commit 1 ⇒ Number 3 ∷ [])
    (3 ∷ 1 ∷ 2 ∷ [])
last_to_commit_stands_first = unfold step verdict serial_order in (refl, refl)

-- ---- what a range marks

-- a reader of a first page, and a writer behind it
range_at_its_limit_marks_less : Plays
    (begin 9 ⇒ Done ∷ set 9 "a" "1" ⇒ Done ∷ set 9 "b" "1" ⇒ Done ∷ set 9 "c" "1" ⇒ Done ∷ commit 9 ⇒ Number 1 ∷
    begin 1 ⇒ Done ∷ begin 2 ⇒ Done ∷ range_from 1 "a" 1 ⇒ Pairs (pair "a" "1" ∷ []) ∷ set 1 "z" "1" ⇒ Done ∷
    range_from 2 "z" 5 ⇒ Pairs [] ∷ set 2 "b" "2" ⇒ Done ∷ commit 1 ⇒ Number 2 ∷ commit 2 ⇒ Number 3 ∷ [])
range_at_its_limit_marks_less = unfold step verdict in refl

-- the last key of the page is marked
the_last_key_is_marked : Plays
    (begin 9 ⇒ Done ∷ set 9 "a" "1" ⇒ Done ∷ set 9 "b" "1" ⇒ Done ∷ set 9 "c" "1" ⇒ Done ∷ commit 9 ⇒ Number 1 ∷
    begin 1 ⇒ Done ∷ begin 2 ⇒ Done ∷ range_from 1 "a" 1 ⇒ Pairs (pair "a" "1" ∷ []) ∷ set 1 "z" "1" ⇒ Done ∷
    range_from 2 "z" 5 ⇒ Pairs [] ∷ set 2 "a" "2" ⇒ Done ∷ commit 1 ⇒ Number 2 ∷ commit 2 ⇒ Refused PivotSelf ∷ [])
the_last_key_is_marked = unfold step verdict in refl

-- a range that found as many pairs as its limit, and a writer behind the last of them
a_full_page_ends_at_its_last_key : Plays
    (begin 9 ⇒ Done ∷ set 9 "a" "1" ⇒ Done ∷ set 9 "b" "1" ⇒ Done ∷ commit 9 ⇒ Number 1 ∷ begin 1 ⇒ Done ∷ begin 2 ⇒ Done ∷
    range 1 "a" "c" 2 ⇒ Pairs (pair "a" "1" ∷ pair "b" "1" ∷ []) ∷ set 1 "z" "1" ⇒ Done ∷
    get 2 "z" ⇒ Value None ∷ set 2 "b0" "1" ⇒ Done ∷ commit 1 ⇒ Number 2 ∷ commit 2 ⇒ Number 3 ∷ [])
a_full_page_ends_at_its_last_key = unfold step verdict in refl

-- the same range with a greater limit is marked whole
range_below_its_limit_marks_all : Plays
    (begin 9 ⇒ Done ∷ set 9 "a" "1" ⇒ Done ∷ set 9 "b" "1" ⇒ Done ∷ commit 9 ⇒ Number 1 ∷ begin 1 ⇒ Done ∷ begin 2 ⇒ Done ∷
    range 1 "a" "c" 3 ⇒ Pairs (pair "a" "1" ∷ pair "b" "1" ∷ []) ∷ set 1 "z" "1" ⇒ Done ∷
    get 2 "z" ⇒ Value None ∷ set 2 "b0" "1" ⇒ Done ∷ commit 1 ⇒ Number 2 ∷ commit 2 ⇒ Refused PivotSelf ∷ [])
range_below_its_limit_marks_all = unfold step verdict in refl
