-- What an image holds for a list of write sets. An image is the list of its sectors, each a list of bytes. Each
-- relation is one for every format of the log.
use Rattle.std.specs.Prelude.{◌≡◌, ◌⊎◌, ℕ, suc, ◌+◌, ◌<◌, ◌≤◌, true, false, List, [], ◌∷◌, length, take, drop}
use Rattle.std.specs.Prelude.{slice_get, Option, Some, MatchOption}
use Rattle.model.specs.Map.{KeyWrite}
use Rattle.commit_log.specs.Format.{head_sector}
use Rattle.commit_log.specs.RecordFormat.{IsWriteSet, is_gate_open, body_sectors, record_body, record_digest}
use Rattle.commit_log.specs.RecordFormat.{first_digest}
use Rattle.commit_log.specs.declared.formats.LogFormat.{LogFormat}

-- These sectors hold a record for each write set in turn, the first with this index and with this digest before it, and
-- then a closed gate; what stands behind it is free.
abbrev pub HoldsRecords : LogFormat → List (List KeyWrite) → ℕ → List ℕ → List (List ℕ) → Type 0
HoldsRecords f lists index before [] = ⊥
HoldsRecords f [] index before (gate ∷ rest) = is_gate_open gate ≡ false
HoldsRecords f (writes ∷ lists) index before (gate ∷ rest) =
    (is_gate_open gate ≡ true) × IsWriteSet f writes
    × (take (body_sectors writes) rest ≡ record_body before index writes)
    × HoldsRecords f lists (index + 1) (record_digest before index writes) (drop (body_sectors writes) rest)

-- the image is a log of these write sets, in this format
abbrev pub IsLogImage : LogFormat → List (List KeyWrite) → List (List ℕ) → Type 0
IsLogImage f lists [] = ⊥
IsLogImage f lists (head ∷ rest) = (head ≡ head_sector f) × HoldsRecords f lists 0 first_digest rest

-- the record of these writes stands in these sectors, and a sector behind it
pub record IsRecordAt (f : LogFormat) (index : ℕ) (before : List ℕ) (rest : List (List ℕ)) (writes : List KeyWrite) :
    Type 0 where
  pub proper : IsWriteSet f writes
  pub room : body_sectors writes < length rest
  pub body : take (body_sectors writes) rest ≡ record_body before index writes

-- no record stands in these sectors
abbrev pub HasNoRecord : LogFormat → ℕ → List ℕ → List (List ℕ) → Type 0
HasNoRecord f index before rest = (writes : List KeyWrite) → IsRecordAt f index before rest writes → ⊥

-- These sectors hold a record for each write set in turn, and then an open gate with no right record behind it.
abbrev pub HoldsDamage : LogFormat → List (List KeyWrite) → ℕ → List ℕ → List (List ℕ) → Type 0
HoldsDamage f lists index before [] = ⊥
HoldsDamage f [] index before (gate ∷ rest) = (is_gate_open gate ≡ true) × HasNoRecord f index before rest
HoldsDamage f (writes ∷ lists) index before (gate ∷ rest) =
    (is_gate_open gate ≡ true) × IsWriteSet f writes
    × (take (body_sectors writes) rest ≡ record_body before index writes)
    × HoldsDamage f lists (index + 1) (record_digest before index writes) (drop (body_sectors writes) rest)

-- the image is damaged behind the records of these write sets
abbrev pub IsDamaged : LogFormat → List (List KeyWrite) → List (List ℕ) → Type 0
IsDamaged f lists [] = ⊥
IsDamaged f lists (head ∷ rest) = (head ≡ head_sector f) × HoldsDamage f lists 0 first_digest rest

-- the image begins with the head of this format, and has room for a gate
abbrev pub HasHead : LogFormat → List (List ℕ) → Type 0
HasHead f image = (2 ≤ length image) × (slice_get image 0 ≡ Some (head_sector f))

-- the image isn't one of a log of this format
abbrev pub IsNoLog : LogFormat → List (List ℕ) → Type 0
IsNoLog f image = (length image < 2) ⊎ (slice_get image 0 ≡ Some (head_sector f) → ⊥)

-- the image begins with this head, or where there is none it is no log
abbrev pub BeginsWith : Option LogFormat → List (List ℕ) → Type 0
BeginsWith head image = MatchOption head ((f : LogFormat) → IsNoLog f image) (λ f. HasHead f image)

-- an image is so of one list of write sets at most
abbrev pub IsOfOneList : (LogFormat → List (List KeyWrite) → List (List ℕ) → Type 0) → Type 0
IsOfOneList Is =
    (f : LogFormat) (image : List (List ℕ)) (lists others : List (List KeyWrite)) → Is f lists image → Is f others image
    → lists ≡ others

-- a log isn't damaged, nor no log
abbrev pub LogIsNoOther : Type 0
LogIsNoOther =
    (f : LogFormat) (image : List (List ℕ)) (lists others : List (List KeyWrite)) → IsLogImage f lists image
    → IsDamaged f others image ⊎ IsNoLog f image → ⊥

-- what is damaged is a log
abbrev pub DamagedIsLog : Type 0
DamagedIsLog = (f : LogFormat) (image : List (List ℕ)) (lists : List (List KeyWrite)) → IsDamaged f lists image
    → IsNoLog f image → ⊥

-- how many sectors the records of these write sets take
abbrev pub span : List (List KeyWrite) → ℕ
span [] = 0
span (writes ∷ lists) = suc (body_sectors writes + span lists)

-- the digest of the last record
abbrev pub last_digest : List (List KeyWrite) → ℕ → List ℕ → List ℕ
last_digest [] index before = before
last_digest (writes ∷ lists) index before = last_digest lists (index + 1) (record_digest before index writes)

-- the index of the record behind the last
abbrev pub next_index : List (List KeyWrite) → ℕ → ℕ
next_index [] index = index
next_index (writes ∷ lists) index = next_index lists (index + 1)
