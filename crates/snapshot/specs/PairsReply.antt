-- How a range read answers.
use Rattle.std.specs.Prelude.{◌≡◌, ℕ, Result, Ok, Err}
use Rattle.model.specs.Operations.{Response}
use Rattle.model.specs.Operations.Response.{Pairs}
use Rattle.model.specs.declared.ranges.RangeRef.{RangeRef}
use Rattle.versions.specs.Chains.{ChainsValue}
use Rattle.versions.specs.Meaning.{map_seen}
use Rattle.snapshot.specs.Made.{IsFault, MakesOneMoreOver, range_read}
use Rattle.snapshot.specs.Merged.{after_range}
use Rattle.snapshot.specs.RowPairs.{row_pairs}
use Rattle.snapshot.specs.View.{View}
use Rattle.snapshot.specs.declared.faults.SnapshotFault.{SnapshotFault}
use Rattle.snapshot.specs.declared.rows.Rows.{Rows}

abbrev pub IsPairsReply : Result Rows SnapshotFault → Response → Type 0
IsPairsReply (Ok r) response = response ≡ Pairs (row_pairs r)
IsPairsReply (Err e) response = IsFault e response

-- what a read of the range leaves
abbrev pub IsLeftByRange : ChainsValue → View → RangeRef → ℕ → Result Rows SnapshotFault → View → Type 0
IsLeftByRange v old r limit (Ok rows) new =
    (new ≡ after_range old (map_seen v old.begin) r limit)
    × MakesOneMoreOver (map_seen v old.begin) old new (range_read r limit)
IsLeftByRange v old r limit (Err e) new = new ≡ old
