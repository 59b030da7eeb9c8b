-- Bounds of the numbers of postings, by which postings are passed over.
use Rattle.std.specs.List.{list_all, AllByRecursion}
use Rattle.std.specs.Prelude.{◌≡◌, ◌<◌, ◌≤◌, ℕ, ◌+◌, ◌-◌, ◌*◌, Bool, true, not, ◌&&◌, ◌||◌, List, Option, Some}
use Rattle.std.specs.Prelude.{nat_lt, nat_le, length, take, drop, slice_index_or, if◌then◌else◌}
use Rattle.pivot_check.specs.Postings.{Posting, lesser, is_asked, between}
use Rattle.pivot_check.specs.declared.bound.Bound.{Bound}
use Rattle.pivot_check.specs.declared.scan.Scan.{Scan}
use Rattle.pivot_check.specs.declared.written.Span.{Span}

-- whether the posting's number isn't below the bound nor above its last, nor below that of flagged ones where it has
-- the flag
abbrev pub is_from_bound : Bound → Posting → Bool
is_from_bound b p = nat_le b.number p.number
    && (nat_le p.number b.last && (not p.has_earlier_target || nat_le b.flagged p.number))

abbrev pub are_from_bound : Bound → List Posting → Bool
are_from_bound b ps = list_all (is_from_bound b) ps

-- whether the bound tells that a posting that is asked for, above `begin`, may have a number up to `most`
abbrev pub allows : Bound → ℕ → ℕ → Bool → Bool
allows b most begin flagged =
    nat_lt begin most && (nat_lt begin b.last && nat_le (if flagged then b.flagged else b.number) most)

-- how many bounds there are, of which there were so many, once n postings stand: one more where a block without a bound
-- is whole, and there is room for it
abbrev pub bound_count : ℕ → ℕ → ℕ → ℕ
bound_count n room count = if nat_le 64 (n - 64 * count) && nat_lt count room then count + 1 else count

-- each bound is one of its block of 64 postings; behind the blocks with a bound there may be more postings
abbrev pub AreBounds : List Bound → List Posting → Type 0
AreBounds bs ps = (i : ℕ) (b : Bound) → i < length bs
    → are_from_bound (slice_index_or bs i b) (take 64 (drop (64 * i) ps)) ≡ true

-- the postings from a span's first to before its end
abbrev pub in_span : Span → List Posting → List Posting
in_span span ps = between span.first span.end ps

-- no posting that is asked for has a number below the one that was found
abbrev pub KeepsFound : Option ℕ → ℕ → Bool → List Posting → Type 0
KeepsFound found b flagged ps =
    AllByRecursion (λ p. is_asked b flagged p ≡ true → lesser found (Some p.number) ≡ found) ps

-- the postings that were scanned decide nothing more: none of them that is asked for has a number below the one that
-- was found
pub record IsScanned (s : Scan) (b : ℕ) (flagged : Bool) (ps : List Posting) : Type 0 where
  pub order : s.seen.first ≤ s.seen.end
  pub within : s.seen.end ≤ length ps
  pub kept : KeepsFound s.found b flagged (between s.seen.first s.seen.end ps)
