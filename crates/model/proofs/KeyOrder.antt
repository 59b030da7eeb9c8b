-- The order of keys by its tests.
use Rattle.std.proofs.Common.{arith, ◌≡◌, true, false, not, ap, ◌∙◌, Ordering, Less, Equal, Greater, is_lt, is_le}
use Rattle.std.proofs.lemmas.Cmp.{tied_itself}
use Rattle.std.proofs.lemmas.Grind.{common_steps}
use Rattle.std.proofs.lemmas.Map.Lookups.{exact_bytes}
use Rattle.std.specs.Cmp.Lexicographic.{nat_list_cmp_total}
use Rattle.std.specs.Ordering.{ordering_reverse}
use Rattle.model.proofs.Entries.{turned}
use Rattle.model.specs.Map.{Bytes, key_cmp}

pub less : (o : Ordering) → is_lt o ≡ true → o ≡ Less
less o h = grind (arith, common_steps)

pub itself : (k : Bytes) → key_cmp k k ≡ Equal
itself k = tied_itself nat_list_cmp_total k

pub turned_less : (j k : Bytes) → key_cmp j k ≡ Less → key_cmp k j ≡ Greater
turned_less j k h = turned j k ∙ ap ordering_reverse h

pub turned_greater : (j k : Bytes) → key_cmp j k ≡ Greater → key_cmp k j ≡ Less
turned_greater j k h = turned j k ∙ ap ordering_reverse h

pub same_keys : (j k : Bytes) → key_cmp j k ≡ Equal → j ≡ k
same_keys j k h = exact_bytes j k h

pub less_trans : (a b c : Bytes) → key_cmp a b ≡ Less → key_cmp b c ≡ Less → key_cmp a c ≡ Less
less_trans a b c h g = nat_list_cmp_total.trans a b c h g

pub lt_trans : (a b c : Bytes) → is_lt (key_cmp a b) ≡ true → is_lt (key_cmp b c) ≡ true → is_lt (key_cmp a c) ≡ true
lt_trans a b c h g = ap is_lt (less_trans a b c (less _ h) (less _ g))

-- a < b ≤ c
pub lt_le_trans : (a b c : Bytes) → is_lt (key_cmp a b) ≡ true → is_le (key_cmp b c) ≡ true → is_lt (key_cmp a c) ≡ true
lt_le_trans a b c h g = grind (arith, common_steps, lt_trans a b c h, same_keys b c)

pub le_of_lt : (a b : Bytes) → is_lt (key_cmp a b) ≡ true → is_le (key_cmp a b) ≡ true
le_of_lt a b h = ap is_le (less _ h)

-- not a ≤ b
pub lt_of_not_le : (a b : Bytes) → is_le (key_cmp a b) ≡ false → is_lt (key_cmp b a) ≡ true
lt_of_not_le a b h = grind (arith, common_steps, turned a b)

-- lo ≤ k
pub from_lo : (lo k : Bytes) → is_le (key_cmp lo k) ≡ not (is_lt (key_cmp k lo))
from_lo lo k = grind (arith, common_steps, turned k lo)
