-- What a device reads and a crash leaves while some of its sectors alone are written, how far a copy of a map has come, and how it ends:
-- its records are settled, and then its head is written.
use Rattle.std.proofs.Common.{⊎_elim, ℕ, ◌≤◌, ◌<◌, ◌≢◌, ◌≡◌, ◌+◌, ◌-◌, List, take, drop, refl, sym, ◌∙◌, ap, arith}
use Rattle.std.proofs.Common.{inl, inr, [], ◌∷◌, set, slice_get, Some, subst, ◌*◌, ◌/◌, ◌++◌, length, min, replicate}
use Rattle.std.proofs.Common.{append_assoc, length-append}
use Rattle.std.proofs.lemmas.Grind.{common_steps}
use Rattle.std.proofs.lemmas.List.{take-take, drop-drop, append-nil}
use Rattle.model.specs.Machine.{payload_size}
use Rattle.model.specs.Map.{KeyWrite, KeyMap}
use Rattle.sector.proofs.Crashes.{of_none, of_one_more, of_more}
use Rattle.sector.proofs.Runs.{writes_on}
use Rattle.sector.specs.SectorModel.{FollowsWrite, FollowsWrites, Settles, IsSettled, IsSameElsewhere, LeavesNoMore}
use Rattle.sector.specs.SectorModel.{LeavesOnly, ReadsNoMore, ReadsNoMoreOutside, TimeGoesOn}
use Rattle.sector.specs.declared.device.Sectors.{Ghosts}
use Rattle.commit_log.proofs.Calls.{Passes, Leaves, leaves_no_more}
use Rattle.commit_log.proofs.Encoding.{payload_size_is, body_sectors_is}
use Rattle.commit_log.proofs.Putting.{AreWriteSets, no_sets, sets_split, next_set}
use Rattle.commit_log.proofs.Records.{closed_gate_shut, slice_get_there, span-append, next_index-is, last_digest-push}
use Rattle.commit_log.proofs.Records.{length-log_sectors, log_made, first_of_log, set_first, log_if_head}
use Rattle.commit_log.proofs.Records.{zeros_are_no_log, same_first, log_sectors-push, reads_more, record_sectors}
use Rattle.commit_log.specs.Copying.{log_sectors, open_record, ReadsFrom, LeavesZeros, IsCopyOrNoLog, IsCopyStep}
use Rattle.commit_log.specs.Copying.{LeavesSteps, puts, write_sets_of}
use Rattle.commit_log.specs.Format.{current, head_sector}
use Rattle.commit_log.specs.LogImage.{IsLogImage, span, last_digest, next_index}
use Rattle.commit_log.specs.LogState.{IsSameBefore, OnlyWrites}
use Rattle.commit_log.specs.Reading.{LeavesAsBefore, OnlyReads}
use Rattle.commit_log.specs.RecordFormat.{closed_gate, first_digest, open_gate, sectors_for, body_sectors}
use Rattle.commit_log.specs.RecordFormat.{padded_body, record_body, record_digest}

-- What stands before this sector stays: reads give no more of it than before, and a crash at any moment leaves it as
-- before.
pub record KeepsBefore {D : Type 0} (g : Ghosts D) (at : ℕ) (old new : D) : Type 0 where
  pub others : (i : ℕ) (s : List ℕ) → i < at → g.may_read new i s → g.may_read old i s
  pub crash : LeavesNoMore (IsSameBefore at (g.may_leave old)) (g.may_leave new)
  pub time : LeavesOnly g.moment g.left_since old new (IsSameBefore at (g.may_leave old))

as_before : (at n : ℕ) (base : List (List ℕ) → Type 0) (c : List (List ℕ)) → base c → FollowsWrites at n base c
as_before at n base c left = (c, left, record { size = refl; before = refl; behind = refl })

-- what is the same behind these sectors is so behind more
drop_behind : (m n : ℕ) (c d : List (List ℕ)) → m ≤ n → drop m c ≡ drop m d → drop n c ≡ drop n d
drop_behind m n c d le same =
    let whole : m + (n - m) ≡ n = omega arith in
    ap (λ (k : ℕ). drop k c) (sym whole) ∙ sym (drop-drop (n - m) m c) ∙ ap (λ (l : List (List ℕ)). drop (n - m) l) same ∙ drop-drop (n - m) m d
    ∙ ap (λ (k : ℕ). drop k d) whole

runs_on : (at n i m : ℕ) (base old : List (List ℕ) → Type 0) → at ≤ i → i + m ≤ at + n → ((c : List (List ℕ)) → old c → FollowsWrites at n base c)
    → (c : List (List ℕ)) → FollowsWrites i m old c → FollowsWrites at n base c
runs_on at n i m base old le end so_far c from =
    let was = so_far from.0 from.1 in
    grind (arith, common_steps, take-take at i c, take-take at i from.0, drop_behind (i + m) (at + n) c from.0)

module _ {D : Type 0} (S : Ghosts D) where
  module _ (only_now : (d : D) (c : List (List ℕ)) → S.left_since d (S.moment d) c → S.may_leave d c) (at n : ℕ) (start : D) where
    pub nothing_yet : OnlyWrites S at n start start
    nothing_yet = grind (arith, common_steps, as_before, of_none)

    -- one call of many writes
    pub sectors_written : (new : D) → ReadsNoMoreOutside at n (S.may_read start) (S.may_read new)
        → LeavesNoMore (FollowsWrites at n (S.may_leave start)) (S.may_leave new)
        → TimeGoesOn S.moment S.left_since start new (FollowsWrites at n (S.may_leave start)) → OnlyWrites S at n start new
    sectors_written new others follows time = grind (arith, common_steps, of_one_more, nothing_yet)

  -- what stands before the sectors that are written stays
  pub kept_before : (at n : ℕ) (start now : D) → OnlyWrites S at n start now → KeepsBefore S at start now
  kept_before at n start now alone =
      let same : (c : List (List ℕ)) → FollowsWrites at n (S.may_leave start) c → IsSameBefore at (S.may_leave start) c =
      λ c from. (from.0, from.1, from.2.before) in
      record {
        others = λ i s lt read. alone.others i s (inl lt) read;
        crash = λ c left. same c (alone.left c left);
        time = record {
          later = alone.time.later;
          each = λ c left. same c (alone.time.each c left);
          before = λ t c le left. elim (alone.time.before t c le left) [ inl was ↦ inl was | inr from ↦ inr (same c from) ];
        };
      }

  module _ (at n : ℕ) (start now next : D) (so_far : OnlyWrites S at n start now) where
    -- one sector more
    pub one_write : (i : ℕ) → at ≤ i → i < at + n → ((j : ℕ) (s : List ℕ) → j ≢ i → S.may_read next j s → S.may_read now j s)
        → FollowsWrite i (S.may_leave now) (S.may_leave next) → Passes S now next → OnlyWrites S at n start next
    one_write i le lt others follows time = grind (arith, common_steps, writes_on, of_one_more)

    -- many sectors more
    pub many_writes : (i m : ℕ) → at ≤ i → i + m ≤ at + n → OnlyWrites S i m now next → OnlyWrites S at n start next
    many_writes i m le end more =
        let kept = runs_on at n i m (S.may_leave start) (S.may_leave now) le end so_far.left in
        grind (arith, common_steps, of_more)

    -- a call that writes nothing
    pub no_write : ReadsNoMore (S.may_read now) (S.may_read next) → LeavesNoMore (S.may_leave now) (S.may_leave next) → Passes S now next
        → OnlyWrites S at n start next
    no_write reads fewer time = grind (arith, common_steps, of_one_more)

  -- a sync that succeeded
  pub settled_reads : (now next : D) (size : ℕ) → Settles size (S.may_read now) (S.may_read next) (S.may_leave now) (S.may_leave next)
      → ReadsNoMore (S.may_read now) (S.may_read next)
  settled_reads now next size settles j s read = settles.was_read j s (settles.settled.read j s read)

  -- calls that only read
  pub only_read : (at n : ℕ) (old new : D) → OnlyReads S old new → OnlyWrites S at n old new
  only_read at n old new only = grind (arith, common_steps, as_before, ⊎_elim)

module _ {D : Type 0} (S : Ghosts D) (lists : List (List KeyWrite)) where
  -- the image is a log but for its first sector
  abbrev pub IsAllButFirst : List (List ℕ) → Type 0
  IsAllButFirst c = (image : List (List ℕ)) × IsLogImage current lists image × IsSameElsewhere 0 image c

  all_but_first : (c : List (List ℕ)) → IsAllButFirst c → IsCopyOrNoLog lists c
  all_but_first c log = subst (λ (l : List (List ℕ)). IsCopyOrNoLog lists l) (sym log.2.1) (first_of_log lists log.0 log.2.0 log.1)

  -- a crash leaves this image alone, in which the records and a closed gate stand behind the first sector
  pub record Ready (now : D) : Type 0 where
    pub image : List (List ℕ)
    pub left : (c : List (List ℕ)) → S.may_leave now c → c ≡ image
    pub log : IsLogImage current lists (set image 0 (head_sector current))

  pub ready : (now next : D) (size : ℕ) → 2 + span lists ≤ size → AreWriteSets lists → ReadsFrom (S.may_read now) 1 (log_sectors lists 0 first_digest)
      → ReadsFrom (S.may_read now) (1 + span lists) (closed_gate ∷ [])
      → Settles size (S.may_read now) (S.may_read next) (S.may_leave now) (S.may_leave next) → Ready next
  ready now next size room proper records shut settles =
      let image : List (List ℕ) = settles.image in
      let there : (i : ℕ) → i < size → (s : List ℕ) × (slice_get image i ≡ Some s) = λ i lt. slice_get_there image i (omega (arith, settles.settled.size_is)) in
      record {
        image = image;
        left = settles.settled.left;
        log = log_made lists image closed_gate proper (omega (arith, settles.settled.size_is))
            (λ k i lt at.
            let found = there i (omega arith) in
            found.1 ∙ ap (λ (s : List ℕ). Some s)
            (records k found.0 (omega (arith, length-log_sectors lists 0 first_digest))
            (subst (λ (n : ℕ). S.may_read now n found.0) at (settles.was_read i found.0 found.1))))
            (λ i at.
            let found = there i (omega arith) in
            let place : i ≡ 1 + span lists + 0 = omega arith in
            found.1 ∙ ap (λ (s : List ℕ). Some s)
            (shut 0 found.0 (omega arith) (subst (λ (n : ℕ). S.may_read now n found.0) place (settles.was_read i found.0 found.1))))
            closed_gate_shut;
      }

  -- the head is being written
  pub being_headed : (now next : D) → Ready now → FollowsWrite 0 (S.may_leave now) (S.may_leave next) → (c : List (List ℕ)) → S.may_leave next c
      → IsAllButFirst c
  being_headed now next is follows c left = grind (arith, common_steps, set_first)

  -- the sync that settles the head
  pub headed : (now next : D) (size : ℕ) → 1 ≤ size → ((c : List (List ℕ)) → S.may_leave now c → IsAllButFirst c)
      → ((s : List ℕ) → S.may_read now 0 s → s ≡ head_sector current)
      → Settles size (S.may_read now) (S.may_read next) (S.may_leave now) (S.may_leave next)
      → (image : List (List ℕ)) × IsSettled size (S.may_read next) (S.may_leave next) image × IsLogImage current lists image
  headed now next size some is written settles =
      let image : List (List ℕ) = settles.image in
      let found = slice_get_there image 0 (omega (arith, settles.settled.size_is)) in
      let head : slice_get image 0 ≡ Some (head_sector current) =
      found.1 ∙ ap (λ (s : List ℕ). Some s) (written found.0 (settles.was_read 0 found.0 found.1)) in
      (image, settles.settled, log_if_head lists image (all_but_first image (is image settles.was_left)) head)

  module _ (start : D) where
    -- how far the copy has come: what was written, and what a crash leaves
    pub record Copying (now : D) : Type 0 where
      pub alone : OnlyWrites S 0 (2 + span lists) start now
      pub steps : Leaves S start (IsCopyStep lists (S.may_leave start)) now (IsCopyStep lists (S.may_leave start))

    same_before : (c : List (List ℕ)) → FollowsWrites 1 (1 + span lists) (S.may_leave start) c → IsSameBefore 1 (S.may_leave start) c
    same_before c from = (from.0, from.1, from.2.before)

    pub records_written : (now : D) → ((d : D) (c : List (List ℕ)) → S.left_since d (S.moment d) c → S.may_leave d c)
        → OnlyWrites S 1 (1 + span lists) start now → Copying now
    records_written now only_now alone = grind (arith, common_steps, many_writes, nothing_yet, same_before)

    -- a sync
    pub stays : (now next : D) → Copying now → ReadsNoMore (S.may_read now) (S.may_read next) → LeavesNoMore (S.may_leave now) (S.may_leave next)
        → Passes S now next → Copying next
    stays now next so_far reads fewer time = grind (arith, common_steps, no_write, leaves_no_more)

    pub head_written : (now next : D) → Ready now → Copying now → ((j : ℕ) (s : List ℕ) → j ≢ 0 → S.may_read next j s → S.may_read now j s)
        → FollowsWrite 0 (S.may_leave now) (S.may_leave next) → Passes S now next → Copying next
    head_written now next is so_far others follows time =
        let step : (c : List (List ℕ)) → S.may_leave next c → IsCopyStep lists (S.may_leave start) c =
        λ c left. inr (being_headed now next is follows c left) in
        record {
          alone = one_write S 0 (2 + span lists) start now next so_far.alone 0 (omega arith) (omega arith) others follows time;
          steps = record { left = step; is = λ c h. h; time = of_one_more so_far.steps.time time step };
        }

    pub not_begun : ((c : List (List ℕ)) → S.left_since start (S.moment start) c → S.may_leave start c) → LeavesSteps S lists start start
    not_begun only_now = of_none (λ c left. inl (c, only_now c left, refl))

    pub still_first : (now : D) → LeavesAsBefore S start now → LeavesSteps S lists start now
    still_first now time = grind (arith, common_steps, ⊎_elim)

    pub after_reads : (now next : D) → LeavesAsBefore S start now → LeavesNoMore (S.may_leave start) (S.may_leave now) → LeavesSteps S lists now next
        → LeavesSteps S lists start next
    after_reads now next first fewer second = grind (arith, common_steps, of_more)

    -- where zeros were there, no log is there before the finished one
    no_log_before : LeavesZeros (S.may_leave start) → (c : List (List ℕ)) → IsCopyStep lists (S.may_leave start) c → IsCopyOrNoLog lists c
    no_log_before zeros c (inl same) = zeros_are_no_log lists c (same_first c same.0 same.2 ∙ zeros same.0 same.1)
    no_log_before zeros c (inr log) = all_but_first c log

    pub no_log : (now : D) → LeavesZeros (S.may_leave start) → LeavesSteps S lists start now → LeavesOnly S.moment S.left_since start now (IsCopyOrNoLog lists)
    no_log now zeros run = grind (arith, common_steps, no_log_before zeros, ⊎_elim)

-- the next n pairs of these make the next write set, with a payload of so many bytes
pub record NextSet (m : KeyMap) (n len : ℕ) : Type 0 where
  pub sets : write_sets_of m ≡ puts (take n m) ∷ write_sets_of (drop n m)
  pub sectors : body_sectors (puts (take n m)) ≡ sectors_for len
  pub span_is : span (write_sets_of m) ≡ sectors_for len + 1 + span (write_sets_of (drop n m))

pub next_set_of : (m : KeyMap) (n len : ℕ) → n ≡ min (length m) 64 → 1 ≤ length m → len ≡ payload_size (puts (take n m)) → NextSet m n len
next_set_of m n len is some size = grind (arith, common_steps, next_set, sets_split, body_sectors_is, payload_size_is)

-- these write sets' records are written; those of the pairs that are left come next
pub record Copied {D : Type 0} (S : Ghosts D) (start : D) (m : KeyMap) (now : D) (pairs : KeyMap) (gate records : ℕ) (digest : List ℕ) : Type 0 where
  pub done : List (List KeyWrite)
  pub joined : done ++ write_sets_of pairs ≡ write_sets_of m
  pub gate_is : gate ≡ 1 + span done
  pub records_are : records ≡ length done
  pub digest_is : digest ≡ last_digest done 0 first_digest
  pub reads : S.keeps_model → ReadsFrom (S.may_read now) 1 (log_sectors done 0 first_digest)
  pub within : S.keeps_model → OnlyWrites S 1 (1 + span (write_sets_of m)) start now

pub none_copied : {D : Type 0} (S : Ghosts D) (start : D) (m pairs : KeyMap) → pairs ≡ m
    → (S.keeps_model → (d : D) (c : List (List ℕ)) → S.left_since d (S.moment d) c → S.may_leave d c)
    → Copied S start m start pairs 1 0 (replicate 32 0)
unfolding first_digest
none_copied S start m pairs same only_now = record {
  done = [];
  joined = ap write_sets_of same;
  gate_is = refl;
  records_are = refl;
  digest_is = refl;
  reads = λ keeps k s lt read. absurd (omega arith);
  within = λ keeps. nothing_yet S (only_now keeps) 1 (1 + span (write_sets_of m)) start;
}

length_le_span : (lists : List (List KeyWrite)) → length lists ≤ span lists
length_le_span [] = omega arith
length_le_span (x ∷ lists) = omega (arith, length_le_span lists)

module _ {D : Type 0} (S : Ghosts D) (start : D) (m : KeyMap) (now : D) (pairs : KeyMap) (gate records : ℕ) (digest : List ℕ)
    (copied : Copied S start m now pairs gate records digest) where
  pub in_range : (records < gate) × (gate ≤ 1 + span (write_sets_of m))
  in_range = (
    omega (arith, copied.gate_is, copied.records_are, length_le_span copied.done),
    omega (arith, copied.gate_is, ap span copied.joined, span-append copied.done (write_sets_of pairs)),
  )

  -- the next record's end is in range
  pub next_gate_le : (n len : ℕ) → NextSet pairs n len → gate + (1 + sectors_for len) ≤ 1 + span (write_sets_of m)
  next_gate_le n len next = omega (arith, copied.gate_is, next.span_is, ap span copied.joined, span-append copied.done (write_sets_of pairs))

  -- its record is written within the log's sectors
  pub record_within : (next : D) (n len size : ℕ) → NextSet pairs n len → size ≡ 512 * body_sectors (puts (take n pairs))
      → OnlyWrites S 1 (1 + span (write_sets_of m)) start now
      → OnlyWrites S gate (1 + size / 512) now next → OnlyWrites S 1 (1 + span (write_sets_of m)) start next
  record_within next n len size set long so_far more =
      many_writes S 1 (1 + span (write_sets_of m)) start now next so_far gate (1
      + size / 512) (omega (arith, copied.gate_is)) (omega (arith, long, set.sectors, next_gate_le n len set)) more

  -- so is the closed gate
  pub last_gate : (next : D) → S.keeps_model → ((j : ℕ) (s : List ℕ) → j ≢ gate → S.may_read next j s → S.may_read now j s)
      → FollowsWrite gate (S.may_leave now) (S.may_leave next)
      → Passes S now next → OnlyWrites S 1 (1 + span (write_sets_of m)) start next
  last_gate next keeps others follows time =
      one_write S 1 (1 + span (write_sets_of m)) start now next (copied.within keeps) gate (omega (arith, copied.gate_is)) (omega (arith, in_range.1)) others
      follows time

-- one record more
pub copied_more : {D : Type 0} (S : Ghosts D) (start : D) (m : KeyMap) (now next : D) (pairs after : KeyMap) (gate later records n len : ℕ)
    (digest body made : List ℕ) → Copied S start m now pairs gate records digest
    → NextSet pairs n len → later ≡ gate + (1 + sectors_for len) → after ≡ drop n pairs → body ≡ padded_body digest records (puts (take n pairs))
    → length body ≡ 512 * body_sectors (puts (take n pairs)) → made ≡ record_digest digest records (puts (take n pairs))
    → (S.keeps_model → ReadsFrom (S.may_read next) gate (open_record body))
    → (S.keeps_model → OnlyWrites S gate (1 + length body / 512) now next) → Copied S start m next after later (records + 1) made
copied_more S start m now next pairs after gate later records n len digest body made copied set later_is after_is body_is size made_is reads added =
    let writes : List KeyWrite = puts (take n pairs) in
    let done : List (List KeyWrite) = copied.done in
    let index : records ≡ next_index done 0 = omega (arith, copied.records_are, next_index-is done 0) in
    let padded : body ≡ padded_body (last_digest done 0 first_digest) (next_index done 0) writes = cc (copied.digest_is, index) in
    let sectors = record_sectors (last_digest done 0 first_digest) (next_index done 0) writes body padded (omega (arith, size)) in
    let place : 1 + length (log_sectors done 0 first_digest) ≡ gate = omega (arith, copied.gate_is, length-log_sectors done 0 first_digest) in
    record {
      done = done ++ writes ∷ [];
      joined = cc (append_assoc done (writes ∷ []) (write_sets_of after), set.sets, copied.joined);
      gate_is = omega (arith, later_is, copied.gate_is, set.sectors, span-append done (writes ∷ []));
      records_are = omega (arith, copied.records_are, length-append done (writes ∷ []));
      digest_is = cc (last_digest-push done writes 0 first_digest, copied.digest_is, index);
      reads = λ keeps.
          subst (λ (l : List (List ℕ)). ReadsFrom (S.may_read next) 1 l) (sym (log_sectors-push done writes 0 first_digest))
          (reads_more (S.may_read now) (S.may_read next) 1 (log_sectors done 0 first_digest) (open_gate
          ∷ record_body (last_digest done 0 first_digest) (next_index done 0) writes) (copied.reads keeps) (rw (place, ← sectors) (reads keeps))
          (λ i s lt read. (added keeps).others i s (inl (omega (arith, place))) read));
      within = λ keeps. record_within S start m now pairs gate records digest copied next n len (length body) set size (copied.within keeps) (added keeps);
    }

module _ {D : Type 0} (S : Ghosts D) (start : D) (m : KeyMap) (now : D) (pairs : KeyMap) (gate records : ℕ) (digest : List ℕ)
    (copied : Copied S start m now pairs gate records digest) where
  -- no pair is left
  module _ (none : length pairs ≡ 0) where
    pub done_are_all : copied.done ≡ write_sets_of m
    done_are_all = cc (append-nil copied.done, no_sets pairs none, copied.joined)

    pub all_read : (next : D) → S.keeps_model → ((i : ℕ) (s : List ℕ) → i ≢ gate → S.may_read next i s → S.may_read now i s)
        → ReadsFrom (S.may_read next) 1 (log_sectors (write_sets_of m) 0 first_digest)
    all_read next keeps others = grind (arith, done_are_all, length-log_sectors)

    pub shut_read : (next : D) (shut : List ℕ) → ((s : List ℕ) → S.may_read next gate s → s ≡ shut)
        → ReadsFrom (S.may_read next) (1 + span (write_sets_of m)) (shut ∷ [])
    shut_read next shut written k s lt read = grind (arith, common_steps, done_are_all)
