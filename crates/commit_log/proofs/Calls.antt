-- What a crash leaves while calls of a device follow one another, and how a run of reads goes on.
use Rattle.std.proofs.Common.{ℕ, List, ◌≡◌, ◌≤◌, ◌+◌, ◌-◌, ◌*◌, length, take, drop, ◌++◌, slice_get, Some, ◌∙◌, ap}
use Rattle.std.proofs.Common.{arith, length-drop, append_assoc}
use Rattle.std.proofs.Math.Seq.{drop-append-add}
use Rattle.std.proofs.lemmas.Grind.{common_steps}
use Rattle.std.proofs.lemmas.List.{take-append-le, take-take, drop-append-le, drop-take, length-take}
use Rattle.sector.proofs.Crashes.{of_one_more, of_more}
use Rattle.sector.specs.SectorModel.{LeavesNoMore, LeavesOnly, ReadsNoMore, TimeGoesOn}
use Rattle.sector.specs.declared.device.Sectors.{Ghosts}
use Rattle.commit_log.specs.Reading.{OnlyReads}

module _ {D : Type 0} (S : Ghosts D) where
  -- time goes on over a call
  abbrev pub Passes : D → D → Type 0
  Passes now next = TimeGoesOn S.moment S.left_since now next (S.may_leave next)

  -- a crash now leaves what has P, and at any moment since the start what has Q
  pub record Leaves (start : D) (Q : List (List ℕ) → Type 0) (now : D) (P : List (List ℕ) → Type 0) : Type 0 where
    pub left : (c : List (List ℕ)) → S.may_leave now c → P c
    pub is : (c : List (List ℕ)) → P c → Q c
    pub time : LeavesOnly S.moment S.left_since start now Q

  -- a call that leaves no more, as a sync
  pub leaves_no_more : {start : D} {Q : List (List ℕ) → Type 0} {now : D} {P : List (List ℕ) → Type 0} (next : D) → Leaves start Q now P
      → LeavesNoMore (S.may_leave now) (S.may_leave next) → Passes now next → Leaves start Q next P
  leaves_no_more next so_far fewer time = grind (arith, common_steps, of_one_more)

-- one read more, and a run of reads behind it
pub reads_joined : {D : Type 0} (S : Ghosts D) (old mid new last : D) → OnlyReads S old mid
    → ReadsNoMore (S.may_read mid) (S.may_read new) → LeavesNoMore (S.may_leave mid) (S.may_leave new) → Passes S mid new
    → OnlyReads S new last → OnlyReads S old last
reads_joined S old mid new last so_far reads crash time more = grind (arith, common_steps, of_one_more, of_more)

-- how long the part behind a place is
pub place_behind : (all : List ℕ) (start : ℕ) → length (take (length all - start) (drop start all)) ≡ length all - start
place_behind all start = omega (arith, length-take (length all - start) (drop start all), length-drop start all)

-- a sector of what was read into a buffer, behind this many bytes
pub read_from : (image : List (List ℕ)) (i base : ℕ) (front into post rest : List ℕ) (k whole : ℕ) → base ≡ length front → 512 * k + 512 ≤ length into
    → length front + length into ≤ whole
    → slice_get image i ≡ Some (take 512 (drop (512 * k) into))
    → slice_get image i ≡ Some (take 512 (drop (base + 512 * k) (take whole (front ++ (into ++ post) ++ rest))))
read_from image i base front into post rest k whole is here fits read =
    let n = length front + 512 * k in
    let all = front ++ (into ++ post) ++ rest in
    let w : whole ≡ n + (whole - n) = omega arith in
    let behind : drop n all ≡ drop (512 * k) into ++ (post ++ rest) =
    ap (drop n) (append_assoc front (into ++ post) rest) ∙ drop-append-add front ((into ++ post) ++ rest) (512 * k)
    ∙ ap (drop (512 * k)) (append_assoc into post rest) ∙ drop-append-le (512 * k) into (post ++ rest) (omega arith) in
    let one = take-append-le 512 (drop (512 * k) into) (post ++ rest) (omega (arith, length-drop (512 * k) into)) in
    let part = ap (λ (v : ℕ). drop n (take v all)) w ∙ drop-take n (whole - n) all in
    let first : take 512 (drop n (take whole all)) ≡ take 512 (drop (512 * k) into) =
    ap (take 512) part ∙ take-take 512 (whole - n) (drop n all) (omega arith) ∙ ap (take 512) behind ∙ one in
    rw (is, first) read
