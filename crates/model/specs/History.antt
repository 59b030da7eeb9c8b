-- Histories: committed transactions in the order of their commits, and the map at each commit number. The records are
-- this project's profile of multiversion histories (Adya 1999).
use Rattle.std.specs.Prelude.{◌≡◌, ℕ, suc, ◌<◌, List, [], ◌∷◌, nat_le, if◌then◌else◌, ⊤, All}
use Rattle.model.specs.Map.{KeyMap, KeyWrite, IsMap, after_writes}
use Rattle.model.specs.Operations.{Operation, Response}
use Rattle.model.specs.PrivateCopy.{Mark, copy_of, responses, reads, writes}

-- a committed transaction
pub record Record : Type 0 where
  pub begin : ℕ
  pub commit : ℕ
  -- its own requests with the replies to them
  pub requests : List Operation
  pub replies : List Response
  -- the marks of what it read, and what it wrote by rising key
  pub reads : List Mark
  pub writes : List KeyWrite

-- the transaction that began at b, committed at c and made these requests of its private copy of m
abbrev pub record_of : ℕ → ℕ → KeyMap → List Operation → List Response → Record
record_of b c m qs rs = record {
  begin = b;
  commit = c;
  requests = qs;
  replies = rs;
  reads = reads m qs;
  writes = writes m qs;
}

-- the map with the writes of the records up to commit number n
abbrev pub map_at : KeyMap → List Record → ℕ → KeyMap
map_at base [] n = base
map_at base (r ∷ rs) n = map_at (if nat_le r.commit n then after_writes base r.writes else base) rs n

-- the commit numbers are n + 1, n + 2 and so on
abbrev pub IsNumberedFrom : ℕ → List Record → Type 0
IsNumberedFrom n [] = ⊤
IsNumberedFrom n (r ∷ rs) = (r.commit ≡ suc n) × IsNumberedFrom (suc n) rs

-- the record says what a private copy of the map at its begin does
pub record IsTrueRecord (base : KeyMap) (history : List Record) (r : Record) : Type 0 where
  pub begins_before : r.begin < r.commit
  pub replies : r.replies ≡ responses (copy_of (map_at base history r.begin)) r.requests
  pub reads : r.reads ≡ reads (map_at base history r.begin) r.requests
  pub writes : r.writes ≡ writes (map_at base history r.begin) r.requests

-- the base is a map, the records are numbered from 1, and each says what a private copy does
pub record IsFaithful (base : KeyMap) (history : List Record) : Type 0 where
  pub is_map : IsMap base
  pub numbered : IsNumberedFrom 0 history
  pub records : All (IsTrueRecord base history) history
