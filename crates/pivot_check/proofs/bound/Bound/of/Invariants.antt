use Rattle.pivot_check.proofs.bound.Bound.of.Given as goal
use Rattle.std.proofs.Common.{◌≡◌, ◌≤◌, ◌<◌, ◌^◌, ℕ, true, take}
use Rattle.pivot_check.specs.Bounds.{are_from_bound}
use Rattle.pivot_check.specs.Postings.{postings_from}

abbrev pub invariant-loop-posting : goal.invariant-loop-posting
invariant-loop-posting l = record {
  bound : are_from_bound l.bound (take l.posting-index l.postings) ≡ true;
  from : (n : ℕ) → n < 2 ^ 64 → postings_from n (take l.posting-index l.postings) ≡ true → n ≤ l.bound.number;
}
