-- What is kept says of a transaction that commits next.
use Rattle.std.specs.Prelude.{ℕ, Bool, true, false, is_some, Option, List}
use Rattle.model.specs.Map.{Bytes}
use Rattle.model.specs.PrivateCopy.Mark.{OfKey}
use Rattle.last_readers.specs.Readers.{last_reader}
use Rattle.snapshot.specs.View.{View}
use Rattle.pivot_check.specs.Kept.{Facts, keys_of, last_source, are_in_order}
use Rattle.pivot_check.specs.Postings.{Posting, least, asked_of, covered_of}
use Rattle.pivot_check.specs.StandsFor.{verdict_found}
use Rattle.pivot_check.specs.declared.verdict.Verdict.{Verdict}

-- whether a posting after that number has the key
abbrev pub is_written_since : List Posting → ℕ → Bytes → Bool
is_written_since ps begin k = is_some (least (asked_of (OfKey k) begin false) ps)

-- the first concurrent transaction whose key it has read
abbrev pub target : Facts → View → Option ℕ
target f t = least (covered_of t.marks t.begin false) f.postings

-- the last concurrent one that has read a key of its own
abbrev pub source : Facts → View → Option ℕ
source f t = last_source (last_reader f.readers) t.begin (keys_of t.writes)

-- the first one that it makes a dangerous pivot
abbrev pub other_pivot : Facts → View → Option ℕ
other_pivot f t = least (covered_of t.marks t.begin true) f.postings

-- the answer where it overwrites no concurrent commit
abbrev pub answer_found : Facts → View → Verdict
answer_found f t = verdict_found (are_in_order (target f t) (source f t)) (other_pivot f t) (is_some (target f t))
