use Rattle.pivot_check.proofs.sources.last_source.Given as goal
use Rattle.std.proofs.Common.{◌≡◌, drop}
use Rattle.last_readers.specs.Readers.{last_reader}
use Rattle.pivot_check.specs.Kept.{greater, keys_of, last_source}

-- what was found and what is left of the writes decide
abbrev pub invariant-loop-write : goal.invariant-loop-write
invariant-loop-write l =
    greater l.source (last_source (last_reader l.readers.readers) l.begin (keys_of (drop l.write-index l.writes)))
    ≡ last_source (last_reader l.readers.readers) l.begin (keys_of l.writes)
