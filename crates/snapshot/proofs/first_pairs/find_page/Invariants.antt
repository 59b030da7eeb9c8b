use Rattle.snapshot.proofs.first_pairs.find_page.Given as goal
use Rattle.std.proofs.Common.{◌≡◌, ◌≤◌, length, take, drop}
use Rattle.model.specs.KeyBytes.{end_bytes}
use Rattle.model.specs.Map.{IsInBounds}
use Rattle.model.specs.PrivateCopy.{last_key}
use Rattle.versions.specs.Lent.{GoesOn}
use Rattle.snapshot.specs.Ahead.{merged_pairs}

-- as many pairs as were counted have gone, and the last of them is known; the pages gone on to are counted
abbrev pub invariant-loop-k : goal.invariant-loop-k
invariant-loop-k l = record {
  counted : l.len ≡ l._k;
  within : l.len ≤ length (merged_pairs l.fn.pairs);
  gone : drop l.len (merged_pairs l.fn.pairs) ≡ merged_pairs l.rest;
  ends : end_bytes l.last ≡ last_key (take l.len (merged_pairs l.fn.pairs));
  in_bounds : IsInBounds (take l.len (merged_pairs l.fn.pairs));
  goes : GoesOn l.fn.pairs.pairs l.rest.pairs;
}
