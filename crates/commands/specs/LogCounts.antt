-- What is printed of a log.
use Rattle.std.specs.Fmt.{decimal}
use Rattle.std.specs.Prelude.{ℕ, ◌+◌, List, [], ◌∷◌, ◌++◌, length, codes}
use Rattle.model.specs.Map.{Bytes, KeyWrite}
use Rattle.commit_log.specs.LogImage.{span}
use Rattle.commit_log.specs.Recovery.{map_after}
use Rattle.commands.specs.declared.data.LogCounts.{LogCounts}

-- the line of these counts
abbrev pub counts_line : LogCounts → Bytes
counts_line counts =
    codes "records " ++ decimal counts.records ++ codes " keys " ++ decimal counts.keys ++ codes " sectors "
    ++ decimal counts.used ++ codes " of "
    ++ decimal counts.count ++ 10 ∷ []

-- the counts of a log of these write sets on a device of so many sectors
abbrev pub counts_of : List (List KeyWrite) → ℕ → LogCounts
counts_of lists count = record {
  records = length lists;
  keys = length (map_after [] lists);
  used = 2 + span lists;
  count = count;
}

-- its line
abbrev pub log_line : List (List KeyWrite) → ℕ → Bytes
log_line lists count = counts_line (counts_of lists count)
