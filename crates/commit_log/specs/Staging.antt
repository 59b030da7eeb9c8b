-- What an image holds while a record is appended.
use Rattle.std.specs.Prelude.{◌≡◌, ℕ, ◌+◌, true, List, [], ◌∷◌, take, drop}
use Rattle.model.specs.Map.{KeyWrite}
use Rattle.commit_log.specs.Format.{head_sector}
use Rattle.commit_log.specs.LogImage.{HoldsRecords}
use Rattle.commit_log.specs.RecordFormat.{IsWriteSet, is_gate_open, body_sectors, record_body, record_digest}
use Rattle.commit_log.specs.RecordFormat.{first_digest}
use Rattle.commit_log.specs.declared.formats.LogFormat.{LogFormat}

-- records of these write sets, then a gate, the body of one more record, and a closed gate
abbrev pub Staged : LogFormat → List (List KeyWrite) → List KeyWrite → ℕ → List ℕ → List (List ℕ) → Type 0
Staged f lists writes index before [] = ⊥
Staged f [] writes index before (gate ∷ rest) =
    (take (body_sectors writes) rest ≡ record_body before index writes)
    × HoldsRecords f [] (index + 1) (record_digest before index writes) (drop (body_sectors writes) rest)
Staged f (x ∷ lists) writes index before (gate ∷ rest) =
    (is_gate_open gate ≡ true) × IsWriteSet f x × (take (body_sectors x) rest ≡ record_body before index x)
    × Staged f lists writes (index + 1) (record_digest before index x) (drop (body_sectors x) rest)

-- the image is a log of these write sets, in this format, but that the record of one more stands settled behind the
-- gate, whatever that gate holds
abbrev pub IsStaged : LogFormat → List (List KeyWrite) → List KeyWrite → List (List ℕ) → Type 0
IsStaged f lists writes [] = ⊥
IsStaged f lists writes (head ∷ rest) = (head ≡ head_sector f) × Staged f lists writes 0 first_digest rest
