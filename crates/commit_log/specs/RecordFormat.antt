-- The bytes of the log's sectors. All numbers are big-endian.
use Rattle.std.specs.Cmp.Lexicographic.{slice_cmp}
use Rattle.std.specs.FinMap.Entries.{is_sorted}
use Rattle.std.specs.List.{flat_map}
use Rattle.std.specs.Ordering.{nat_cmp}
use Rattle.std.specs.Prelude.{◌≡◌, ℕ, zero, suc, ◌+◌, ◌-◌, ◌*◌, ◌/◌, ◌≤◌, Bool, T, ◌==◌, List, [], ◌∷◌, ◌++◌, length}
use Rattle.std.specs.Prelude.{take, drop, replicate, All, IfSome, Option, Some, None, slice_index, slice_index_or}
use Rattle.std.specs.declared.cmp.Ordering.TheVariants.{Less}
use Rattle.byteorder.specs.Endian.{big_bytes}
use Rattle.sha2.specs.Sha256.{sha256}
use Rattle.model.specs.Key.{IsKey}
pub use Rattle.model.specs.Machine.{body_sectors}
use Rattle.model.specs.Map.{KeyWrite, key_cmp}
use Rattle.commit_log.specs.Format.{value_bound}
use Rattle.commit_log.specs.declared.formats.LogFormat.{LogFormat}

-- what stands behind an entry's key: a put with its value, or a deletion
abbrev pub value_bytes : Option (List ℕ) → List ℕ
value_bytes (Some value) = 1 ∷ big_bytes 4 (length value) ++ value
value_bytes None = 0 ∷ []

-- one entry of a payload
abbrev pub entry_bytes : KeyWrite → List ℕ
entry_bytes write = (big_bytes 2 (length write.0) ++ write.0) ++ value_bytes write.1

-- the payload of a record
unfoldable pub payload_bytes : List KeyWrite → List ℕ
payload_bytes writes = big_bytes 4 (length writes) ++ flat_map entry_bytes writes

-- the digest of a record, from that of the record before it
unfoldable pub record_digest : List ℕ → ℕ → List KeyWrite → List ℕ
record_digest before index writes = sha256 ((before ++ big_bytes 8 index) ++ payload_bytes writes)

-- the digest before the first record
unfoldable pub first_digest : List ℕ
first_digest = replicate 32 0

-- a record's body before its zeros
unfoldable pub body_bytes : List ℕ → ℕ → List KeyWrite → List ℕ
body_bytes before index writes =
    ((big_bytes 4 (length (payload_bytes writes)) ++ big_bytes 8 index) ++ record_digest before index writes)
    ++ payload_bytes writes

-- how many sectors hold the body of a payload of this length
abbrev pub sectors_for : ℕ → ℕ
sectors_for len = (44 + len + 511) / 512

-- the body of a record: zeros stand behind its bytes up to the end of its last sector
unfoldable pub padded_body : List ℕ → ℕ → List KeyWrite → List ℕ
padded_body before index writes =
    let bytes = body_bytes before index writes in
    bytes ++ replicate (512 * body_sectors writes - length bytes) 0

-- the first n sectors of these bytes
abbrev pub sectors_in : ℕ → List ℕ → List (List ℕ)
sectors_in zero bytes = []
sectors_in (suc n) bytes = take 512 bytes ∷ sectors_in n (drop 512 bytes)

-- the body's sectors
unfoldable pub record_body : List ℕ → ℕ → List KeyWrite → List (List ℕ)
record_body before index writes = sectors_in (body_sectors writes) (padded_body before index writes)

-- a gate is open where its first byte is 1
abbrev pub is_gate_open : List ℕ → Bool
is_gate_open gate = slice_index gate 0 == 1

unfoldable pub closed_gate : List ℕ
closed_gate = replicate 512 0

unfoldable pub open_gate : List ℕ
open_gate = 1 ∷ replicate 511 0

-- what a record of this format may hold as a value
abbrev pub IsValueIn : LogFormat → List ℕ → Type 0
IsValueIn f value = length value ≤ value_bound f

-- a write of a key, with a value or with none
pub record FitsFormat (f : LogFormat) (write : KeyWrite) : Type 0 where
  pub key : IsKey write.0
  pub value : IfSome write.1 (IsValueIn f)

-- these bytes begin with no value that a record of this format may hold, nor with the mark of a deletion
abbrev pub BeginsWithNoValue : LogFormat → List ℕ → Type 0
BeginsWithNoValue f bytes = (value : Option (List ℕ)) (rest : List ℕ) → IfSome value (IsValueIn f)
    → bytes ≡ value_bytes value ++ rest → ⊥

-- these bytes begin with no entry of a record of this format
abbrev pub BeginsWithNoEntry : LogFormat → List ℕ → Type 0
BeginsWithNoEntry f bytes = (write : KeyWrite) (rest : List ℕ) → FitsFormat f write
    → bytes ≡ entry_bytes write ++ rest → ⊥

-- the last of these keys isn't below that of this write
abbrev pub FallsBehind : List KeyWrite → KeyWrite → Type 0
FallsBehind writes write = (d : KeyWrite) → key_cmp (slice_index_or writes (length writes - 1) d).0 write.0 ≡ Less → ⊥

-- each key is below those behind it
abbrev pub IsRising : List KeyWrite → Type 0
IsRising writes = T (is_sorted (slice_cmp nat_cmp) writes)

-- what a record of this format may hold: 1 to 64 writes by strictly rising key
pub record IsWriteSet (f : LogFormat) (writes : List KeyWrite) : Type 0 where
  pub some : 1 ≤ length writes
  pub at_most : length writes ≤ 64
  pub limits : All (FitsFormat f) writes
  pub rising : IsRising writes

-- these bytes are the payload of no record of this format
abbrev pub IsNoPayload : LogFormat → List ℕ → Type 0
IsNoPayload f bytes = (writes : List KeyWrite) → IsWriteSet f writes → payload_bytes writes ≡ bytes → ⊥

-- these bytes are the body of no record of this format, with this index and this digest before it
abbrev pub IsNoBody : LogFormat → List ℕ → ℕ → List ℕ → Type 0
IsNoBody f before index body = (writes : List KeyWrite) → IsWriteSet f writes → padded_body before index writes ≡ body
    → ⊥
