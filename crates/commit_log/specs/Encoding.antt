-- The body of a record while its entries are added.
use Rattle.std.specs.List.{flat_map}
use Rattle.std.specs.Prelude.{◌≡◌, ℕ, List, ◌++◌, length, replicate}
use Rattle.byteorder.specs.Endian.{big_bytes}
use Rattle.model.specs.Machine.{payload_size}
use Rattle.model.specs.Map.{KeyWrite}
use Rattle.commit_log.specs.RecordFormat.{entry_bytes}

-- its front: the length of its payload, its index, a place for its digest, and the number of its entries
abbrev pub begun : ℕ → ℕ → ℕ → List ℕ
begun len index count = ((big_bytes 4 len ++ big_bytes 8 index) ++ replicate 32 0) ++ big_bytes 4 count

-- with all its entries, and without its digest and the zeros behind them
pub record IsUnsealed (bytes : List ℕ) (index len : ℕ) (writes : List KeyWrite) : Type 0 where
  pub bytes_are : bytes ≡ begun len index (length writes) ++ flat_map entry_bytes writes
  pub len_is : len ≡ payload_size writes

-- P of the writes whose entries these are
abbrev pub OfUnsealed : List ℕ → ℕ → ℕ → (List KeyWrite → Type 0) → Type 0
OfUnsealed bytes index len P = (writes : List KeyWrite) → IsUnsealed bytes index len writes → P writes
