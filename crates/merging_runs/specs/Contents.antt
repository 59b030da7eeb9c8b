-- How much runs hold, and how much work it is to forget what is old.
use Rattle.std.specs.List.{fold}
use Rattle.std.specs.Prelude.{◌≡◌, ◌≤◌, ℕ, ◌+◌, ◌*◌, ◌-◌, ◌^◌, ◌&&◌, Bool, min, nat_le, nat_lt, List, []}
use Rattle.std.specs.Prelude.{◌∷◌, if◌then◌else◌}

-- a run: a number that none of its numbers is below, one that none is above, and how much there is to free of it, which
-- is one more than what stands in it
pub record RunContents : Type 0 where
  pub from : ℕ
  pub last : ℕ
  pub size : ℕ

-- the runs; how much there is still to free of one that was taken out, of which nothing is asked any more; and how much
-- work earlier steps have left over, none of which was enough for a run
pub record Contents : Type 0 where
  pub runs : List RunContents
  pub taken : ℕ
  pub credit : ℕ

-- how much all runs hold, where each counts as one more: 2^64 - 1 where there was more
abbrev pub size_in : List RunContents → ℕ
size_in rs = fold (λ n r. min (n + r.size) (2 ^ 64 - 1)) 0 rs

-- how much there is to free of the runs that have no number above that one
abbrev pub size_upto : ℕ → List RunContents → ℕ
size_upto oldest [] = 0
size_upto oldest (r ∷ rs) = (if nat_le r.last oldest then r.size else 0) + size_upto oldest rs

-- how much work it is to look at all that stands in the runs that may have numbers up to that one, and others above it:
-- 8 for each element, and 2^63 for one run at most
abbrev pub partial_upto : ℕ → List RunContents → ℕ
partial_upto oldest [] = 0
partial_upto oldest (r ∷ rs) =
    (if nat_le r.from oldest && nat_lt oldest r.last then min (8 * r.size) (2 ^ 63) else 0) + partial_upto oldest rs

-- how much is to be freed of whole runs where the numbers up to that one are forgotten
abbrev pub whole_upto : ℕ → Contents → ℕ
whole_upto oldest h = h.taken + size_upto oldest h.runs

-- how much garbage there is where the numbers up to that one are forgotten: what is to be freed, and what is to be
-- looked at
abbrev pub garbage_upto : ℕ → Contents → ℕ
garbage_upto oldest h = whole_upto oldest h + (partial_upto oldest h.runs - h.credit)

-- no work was done that forgets, and none is lost that earlier steps have left over
pub record ForgetsNone (old new : Contents) : Type 0 where
  pub taken : new.taken ≡ old.taken
  pub credit : new.credit ≡ old.credit

-- nothing has changed but how much there is still to free of the one that was taken out
pub record IsSameBut (old new : Contents) : Type 0 where
  pub runs : new.runs ≡ old.runs
  pub credit : new.credit ≡ old.credit

-- what there is to look at stays, and how much of it may be
pub record HasSamePartial (oldest : ℕ) (old new : Contents) : Type 0 where
  pub partial : partial_upto oldest new.runs ≡ partial_upto oldest old.runs
  pub credit : new.credit ≡ old.credit

-- how much of it one step does
abbrev pub freed_a_forget : ℕ
freed_a_forget = 1024

-- no run is to be freed as a whole, and so much work is no more than one step does
pub record MaySweep (oldest work : ℕ) (h : Contents) : Type 0 where
  pub whole : whole_upto oldest h ≡ 0
  pub most : work ≤ freed_a_forget

-- so much of the garbage has gone, and garbage is left exactly where that is answered
pub record FreesGarbage (oldest work : ℕ) (old new : Contents) (more : Bool) : Type 0 where
  pub garbage : garbage_upto oldest new ≡ garbage_upto oldest old - work
  pub still : more ≡ nat_lt 0 (garbage_upto oldest new)
