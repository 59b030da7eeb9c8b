use Rattle.versions.proofs.installing.count_beside.Given as goal
use Rattle.std.proofs.Common.{◌≡◌, ℕ, ◌<◌, true, get_or}
use Rattle.model.specs.Map.{Bytes, KeyWrite}
use Rattle.sorted_pages.specs.Pages.{IsInsertionPoint, is_together}

-- the writes so far come to the page
abbrev pub invariant-loop-i : goal.invariant-loop-i
invariant-loop-i l = (k : Bytes) → IsInsertionPoint l.chains.pages k l.at.page l.at.entry → (j : ℕ) (d : KeyWrite) → j < l.i
    → is_together k (get_or l.writes j d).0 l.chains.pages ≡ true
