-- The order of writes. A device is made an empty log: the gate is closed and settled before the head is written. An append has two
-- phases: until the body is settled each crash leaves the log from before it; from then on the body and a closed gate stand behind
-- its gate, whatever that gate holds.
use Rattle.std.proofs.Common.{◌≡◌, inl, ℕ, suc, ◌≤◌, List, [], ◌∷◌, get_or, set, slice_get, Some, sym, ◌∙◌, ap, arith}
use Rattle.std.proofs.Common.{◌≢◌, ⊎_elim, ◌<◌, ◌+◌, ◌*◌, ◌/◌, true, false, ◌++◌, length, subst, ◌↔◌, Bool, IsTrue}
use Rattle.std.proofs.Common.{length-append}
use Rattle.std.proofs.lemmas.Bool.{cases_lt}
use Rattle.std.proofs.lemmas.Grind.{common_steps}
use Rattle.std.proofs.lemmas.List.{set-get_or, take-set-le}
use Rattle.model.specs.Map.{KeyWrite}
use Rattle.sector.proofs.Crashes.{of_none, of_one_more}
use Rattle.sector.specs.SectorModel.{IsSameElsewhere, FollowsWrite, Settles, LeavesNoMore, LeavesOnly, IsSettled}
use Rattle.sector.specs.SectorModel.{ReadsBytes}
use Rattle.sector.specs.declared.device.Sectors.{Ghosts}
use Rattle.commit_log.proofs.Calls.{Leaves, Passes}
use Rattle.commit_log.proofs.Records.{slice_get_there, same_log, staged-set, image_staged_gate, image_staged_open}
use Rattle.commit_log.proofs.Records.{image_staged_from, span-append, next_index-is, last_digest-push}
use Rattle.commit_log.specs.Format.{current}
use Rattle.commit_log.specs.LogImage.{IsLogImage, span}
use Rattle.commit_log.specs.LogState.{IsBeingMade, IsNextRecord, IsBeforeOrAfter, IsSameBefore, HoldsBoth, LeavesLog}
use Rattle.commit_log.specs.LogState.{LeavesStaged, StandsFor}
use Rattle.commit_log.specs.Opening.{ReportsImage}
use Rattle.commit_log.specs.RecordFormat.{closed_gate, IsWriteSet, is_gate_open, body_sectors, padded_body}
use Rattle.commit_log.specs.RecordFormat.{record_digest}
use Rattle.commit_log.specs.Staging.{IsStaged}
use Rattle.commit_log.specs.declared.log.Log.{Log}
use Rattle.commit_log.specs.declared.read.Found.{Found}

-- a sector that was set
set_there : (l : List (List ℕ)) (i : ℕ) (s t : List ℕ) → slice_get (set l i s) i ≡ Some t → s ≡ t
set_there (x ∷ l) (suc i) s t at = set_there l i s t at
set_there l i s t at = cc

module _ {D : Type 0} (S : Ghosts D) (start : D) where
  -- so far, where a crash leaves what has P
  abbrev pub Making : D → (List (List ℕ) → List (List ℕ) → Type 0) → Type 0
  Making now P = Leaves S start (IsBeingMade (S.may_leave start)) now (λ c. (d : List (List ℕ)) × S.may_leave start d × P d c)

  pub gate_written : (next : D) → ((c : List (List ℕ)) → S.left_since start (S.moment start) c → S.may_leave start c)
      → FollowsWrite 1 (S.may_leave start) (S.may_leave next)
      → Passes S start next → Making next (IsSameElsewhere 1)
  gate_written next only_now follows time =
      let none_yet : LeavesOnly S.moment S.left_since start start (IsBeingMade (S.may_leave start)) =
      of_none (λ c left. (c, only_now c left, inl (get_or c 1 [], sym (set-get_or c 1 [])))) in
      grind (arith, common_steps, of_one_more)

  -- the sync that settles the gate
  pub gate_settled : (now next : D) (size : ℕ) → 2 ≤ size → ((s : List ℕ) → S.may_read now 1 s → s ≡ closed_gate) → Making now (IsSameElsewhere 1)
      → Settles size (S.may_read now) (S.may_read next) (S.may_leave now) (S.may_leave next) → Passes S now next → Making next (λ d c. c ≡ set d 1 closed_gate)
  gate_settled now next size some written so_far settles time =
      let image = settles.image in
      let from = so_far.left image settles.was_left in
      let there : (s : List ℕ) × (slice_get image 1 ≡ Some s) = slice_get_there image 1 (omega (arith, settles.settled.size_is)) in
      let closed : there.0 ≡ closed_gate = written there.0 (settles.was_read 1 there.0 there.1) in
      let gate : from.2.0 ≡ there.0 = set_there from.0 1 from.2.0 there.0 (ap (λ (l : List (List ℕ)). slice_get l 1) (sym from.2.1) ∙ there.1) in
      let is : image ≡ set from.0 1 closed_gate = from.2.1 ∙ ap (λ (s : List ℕ). set from.0 1 s) (gate ∙ closed) in
      grind (arith, common_steps, of_one_more)

  pub head_written : (now next : D) → Making now (λ d c. c ≡ set d 1 closed_gate) → FollowsWrite 0 (S.may_leave now) (S.may_leave next)
      → Passes S now next → Making next (λ d c. IsSameElsewhere 0 (set d 1 closed_gate) c)
  head_written now next so_far follows time = grind (arith, common_steps, of_one_more)

module _ {D : Type 0} (S : Ghosts D) (lists : List (List KeyWrite)) (writes : List KeyWrite) (start : D) where
  -- a crash leaves the old log, and has so far left the old one or the new one
  abbrev pub Writing : D → Type 0
  Writing now = Leaves S start (IsBeforeOrAfter lists writes) now (IsLogImage current lists)

  -- the body is settled
  abbrev pub Opening : D → Type 0
  Opening now = Leaves S start (IsBeforeOrAfter lists writes) now (IsStaged current lists writes)

  pub after_body : (next : D) (at : ℕ) → at ≡ 2 + span lists → LeavesLog S start lists → LeavesNoMore (IsSameBefore at (S.may_leave start)) (S.may_leave next)
      → LeavesOnly S.moment S.left_since start next (IsSameBefore at (S.may_leave start)) → Writing next
  after_body next at is here follows time = grind (arith, common_steps, same_log, ⊎_elim)

  pub after_gate : (now next : D) (at : ℕ) → 2 + span lists ≤ at → Writing now → FollowsWrite at (S.may_leave now) (S.may_leave next) → Passes S now next
      → Writing next
  after_gate now next at le so_far follows time =
      grind (arith, common_steps, of_one_more, same_log current lists (2 + span lists), take-set-le {A = List ℕ} (2 + span lists))

  pub after_open : (next : D) (gate : ℕ) → gate ≡ 1 + span lists → IsWriteSet current writes → LeavesStaged S start lists writes
      → ((c : List (List ℕ)) → S.left_since start (S.moment start) c → S.may_leave start c) → FollowsWrite gate (S.may_leave start) (S.may_leave next)
      → Passes S start next → Opening next
  after_open next gate at proper here only_now follows time = grind (arith, common_steps, of_none, image_staged_gate, staged-set, of_one_more)

module _ {D : Type 0} (S : Ghosts D) (lists : List (List KeyWrite)) (writes : List KeyWrite) (now next : D) (gate size : ℕ)
    (settles : Settles size (S.may_read now) (S.may_read next) (S.may_leave now) (S.may_leave next)) where
  there : (i : ℕ) → i < size → (s : List ℕ) × (slice_get settles.image i ≡ Some s) × S.may_read now i s
  there i lt =
      let found = slice_get_there settles.image i (omega (arith, settles.settled.size_is)) in
      (found.0, found.1, settles.was_read i found.0 found.1)

  -- the sync that settles the body
  pub staged_by : (mid : D) (bytes shut : List ℕ) → IsNextRecord lists writes gate bytes → gate + 1 + length bytes / 512 < size
      → ReadsBytes (S.may_read mid) (gate + 1) bytes
      → ((i : ℕ) (s : List ℕ) → i ≢ gate + 1 + length bytes / 512 → S.may_read now i s → S.may_read mid i s)
      → ((s : List ℕ) → S.may_read now (gate + 1 + length bytes / 512) s → s ≡ shut) → is_gate_open shut ≡ false
      → LeavesLog S now lists → LeavesStaged S next lists writes
  staged_by mid bytes shut is room body others behind closed here c left =
      subst (IsStaged current lists writes) (sym (settles.settled.left c left))
      (image_staged_from current lists writes settles.image bytes shut is.bytes_are (here settles.image settles.was_left)
      (λ k i lt at.
      let place : i ≡ gate + 1 + k = omega (arith, is.gate_is) in
      let found = there i (omega (arith, is.sectors)) in
      let was = others i found.0 (omega (arith, is.sectors)) found.2 in
      found.1 ∙ ap (λ (s : List ℕ). Some s) (body k found.0 (omega (arith, is.sectors)) (subst (λ (n : ℕ). S.may_read mid n found.0) place was)))
      (λ i at.
      let place : i ≡ gate + 1 + length bytes / 512 = omega (arith, is.gate_is, is.sectors) in
      let found = there i (omega arith) in
      found.1 ∙ ap (λ (s : List ℕ). Some s) (behind found.0 (subst (λ (n : ℕ). S.may_read now n found.0) place found.2)))
      closed)

  -- the sync that settles the gate
  pub acknowledged : (opened : List ℕ) → gate ≡ 1 + span lists → IsWriteSet current writes → gate < size → ((s : List ℕ) → S.may_read now gate s → s ≡ opened)
      → is_gate_open opened ≡ true
      → LeavesStaged S now lists writes
      → (image : List (List ℕ)) × IsSettled size (S.may_read next) (S.may_leave next) image × IsLogImage current (lists ++ writes ∷ []) image
  acknowledged opened at proper room written is here =
      let image = settles.image in
      let found = there gate room in (
        image,
        settles.settled,
        image_staged_open current lists writes image gate found.0 at proper (here image settles.was_left) found.1 (ap is_gate_open (written found.0 found.2)
            ∙ is),
      )

pub no_room_if : (b : Bool) (m n : ℕ) → (IsTrue b ↔ (m < n)) → b ≡ false → n ≤ m
no_room_if b m n means is = grind (arith, common_steps, cases_lt)

-- the body that was made is that of the log's next record
pub next_record : {D : Type 0} {g : Ghosts D} (log : Log D g) (lists : List (List KeyWrite)) (writes : List KeyWrite) (body bytes : List ℕ)
    → StandsFor log lists → IsWriteSet current writes
    → body ≡ padded_body log.digest log.records writes → length body ≡ 512 * body_sectors writes → bytes ≡ body → IsNextRecord lists writes log.gate bytes
next_record log lists writes body bytes stands proper is size same = grind (arith, common_steps, next_index-is)

-- the log with a record more
pub stands_after : {D : Type 0} {g : Ghosts D} (old new : Log D g) (lists : List (List KeyWrite)) (writes : List KeyWrite) → StandsFor old lists
    → new.stopped ≡ false
    → new.gate ≡ old.gate + 1 + body_sectors writes → new.records ≡ old.records + 1 → new.digest ≡ record_digest old.digest old.records writes
    → HoldsBoth g new.device lists writes → StandsFor new (lists ++ writes ∷ [])
stands_after old new lists writes stands running gate records digest settled =
    grind (arith, common_steps, span-append, length-append, next_index-is, last_digest-push)

-- a log made of what was found
pub log_opened : {D : Type 0} {g : Ghosts D} (log : Log D g) (image : List (List ℕ)) (found : Found) (opened : ReportsImage g current log.device found image)
    → log.stopped ≡ false → log.gate ≡ found.gate → log.records ≡ found.records
    → log.digest ≡ found.digest.bytes → StandsFor log opened.lists
log_opened log image found opened running gate records digest = grind (arith, common_steps)
