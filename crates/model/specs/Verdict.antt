-- Whether a transaction may commit: the first committer wins (snapshot isolation, Fekete et al. 2005), and no dangerous
-- pivot may appear (Cahill, Röhm, Fekete 2008; Ports, Grittner 2012). Which conflict is named is this project's
-- profile.
use Rattle.std.specs.List.{list_any}
use Rattle.std.specs.Prelude.{Bool, true, false, ◌&&◌, List, [], ◌∷◌, ◌++◌, Option, Some, None, find, nat_lt}
use Rattle.std.specs.Prelude.{if◌then◌else◌, Contains, IsFalse}
use Rattle.model.specs.Dependency.{writes_key, is_dangerous_pivot}
use Rattle.model.specs.History.{Record}
use Rattle.model.specs.Map.{Bytes, KeyWrite}
use Rattle.model.specs.declared.refusals.Refusal.{Refusal}
use Rattle.model.specs.declared.refusals.Refusal.TheVariants.{Overwritten, PivotSelf, Pivot}

-- whether the refusal names a conflict
abbrev pub is_conflict : Refusal → Bool
is_conflict (Overwritten k) = true
is_conflict PivotSelf = true
is_conflict (Pivot n) = true
is_conflict other = false

-- whether a transaction that committed after t began has written the key
abbrev pub is_overwritten : List Record → Record → Bytes → Bool
is_overwritten history t k = list_any (λ r. writes_key r k && nat_lt t.begin r.commit) history

-- the refusal that names the pivot, if there is one
abbrev pub pivot_refusal : Option Record → Option Refusal
pivot_refusal None = None
pivot_refusal (Some p) = Some (Pivot p.commit)

-- the refusal that names the overwritten key, and else that of the pivots
abbrev pub conflict_of : Option KeyWrite → Option Refusal → Option Refusal
conflict_of None other = other
conflict_of (Some w) other = Some (Overwritten w.0)

-- the conflict for which t, which would commit next, is refused: the least key of its writes that is overwritten; else
-- t itself, where t is a dangerous pivot; else the dangerous pivot of least commit number. Writes stand by rising key,
-- records by rising commit number.
unfoldable pub verdict : List Record → Record → Option Refusal
verdict history t =
    conflict_of (find (λ w. is_overwritten history t w.0) t.writes)
    (if is_dangerous_pivot (history ++ t ∷ []) t then Some PivotSelf
    else pivot_refusal (find (is_dangerous_pivot (history ++ t ∷ [])) history))

-- no record is a dangerous pivot
abbrev pub HasNoDangerousPivot : List Record → Type 0
HasNoDangerousPivot history = (p : Record) → Contains history p → IsFalse (is_dangerous_pivot history p)
