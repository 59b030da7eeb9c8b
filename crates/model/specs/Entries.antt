-- Where a key's entry stands among entries by rising key, or would stand: what a binary search finds.
use Rattle.std.specs.Cmp.Lexicographic.{slice_cmp}
use Rattle.std.specs.FinMap.Entries.{find, put, where_key}
use Rattle.std.specs.Ordering.{nat_cmp, is_lt}
use Rattle.std.specs.Prelude.{◌≡◌, ℕ, ◌<◌, ◌≤◌, not, List, length, take, drop, Some, None, slice_index_or, slice_set}
use Rattle.std.specs.Prelude.{insert}
use Rattle.model.specs.Map.{Bytes, key_cmp}

-- the key's entry stands at place i
pub record IsAt {X : Type 0} (es : List (Bytes × X)) (k : Bytes) (i : ℕ) : Type 0 where
  pub in_range : i < length es
  pub found : (d : Bytes × X) → find (slice_cmp nat_cmp) k es ≡ Some (slice_index_or es i d).1
  pub key : (d : Bytes × X) → (slice_index_or es i d).0 ≡ k
  pub written : (c : X) → slice_set es i (k, c) ≡ put (slice_cmp nat_cmp) k c es

-- the key has no entry, and one would stand at place i
pub record IsGap {X : Type 0} (es : List (Bytes × X)) (k : Bytes) (i : ℕ) : Type 0 where
  pub in_range : i ≤ length es
  pub absent : find (slice_cmp nat_cmp) k es ≡ None
  pub inserted : (c : X) → insert es i (k, c) ≡ put (slice_cmp nat_cmp) k c es

-- the keys before place i are below k, and the others aren't
pub record IsSplit {X : Type 0} (es : List (Bytes × X)) (k : Bytes) (i : ℕ) : Type 0 where
  pub in_range : i ≤ length es
  pub before : take i es ≡ where_key (slice_cmp nat_cmp) (λ q. is_lt (key_cmp q k)) es
  pub from : drop i es ≡ where_key (slice_cmp nat_cmp) (λ q. not (is_lt (key_cmp q k))) es
