-- Images of records, and what a changed sector makes of them; the sectors of a copy, and the log that they are.
use Rattle.std.proofs.Common.{◌≡◌, ◌⊎◌, ⊎_elim, ℕ, zero, suc, ◌<◌, ◌≤◌, ◌+◌, ◌*◌, true, false, List, [], ◌∷◌, ◌++◌}
use Rattle.std.proofs.Common.{length, take, drop, set, get_or, slice_get, Some, None, refl, sym, ◌∙◌, ap, arith}
use Rattle.std.proofs.Common.{subst, ◌-◌, ◌/◌, unwrap_or, inl, inr, add-zero, append_assoc, length-append}
use Rattle.std.proofs.lemmas.Bool.{cases_Bool, cases_lt}
use Rattle.std.proofs.lemmas.Grind.{common_steps}
use Rattle.std.proofs.lemmas.List.{take_at, drop_at, take-append-drop, take-take, drop-take, drop-drop, drop_more}
use Rattle.std.proofs.lemmas.List.{take-set-le, drop-set-add, append-nil, get_or_append_left, get_or-append-add}
use Rattle.std.proofs.lemmas.Option.{slice_get-get_or, slice_get_within, get_or_from_slice_get}
use Rattle.std.proofs.lemmas.Slice.Eq.{bytes_eq-Decides}
use Rattle.model.specs.Map.{KeyWrite}
use Rattle.commit_log.proofs.Putting.{AreWriteSets}
use Rattle.commit_log.specs.Copying.{log_sectors, ReadsFrom, IsCopyOrNoLog, zero_sector}
use Rattle.commit_log.specs.Format.{current, head_sector}
use Rattle.commit_log.specs.LogImage.{HoldsRecords, IsLogImage, span, last_digest, next_index}
use Rattle.commit_log.specs.RecordFormat.{IsWriteSet, is_gate_open, open_gate, closed_gate, first_digest}
use Rattle.commit_log.specs.RecordFormat.{body_sectors, record_body, record_digest, padded_body, sectors_in}
use Rattle.commit_log.specs.Staging.{Staged, IsStaged}
use Rattle.commit_log.specs.declared.formats.LogFormat.{LogFormat}

pub closed_gate_shut : is_gate_open closed_gate ≡ false
unfolding closed_gate
closed_gate_shut = refl

pub open_gate_open : is_gate_open open_gate ≡ true
unfolding open_gate
open_gate_open = refl

-- a head and a closed gate make an empty log
pub formatted : (image : List (List ℕ)) → 2 ≤ length image → ((s : List ℕ) → slice_get image 0 ≡ Some s → s ≡ head_sector current)
    → ((s : List ℕ) → slice_get image 1 ≡ Some s → is_gate_open s ≡ false) → IsLogImage current [] image
formatted image room head gate = grind (arith, common_steps)

pub span-append : (xs ys : List (List KeyWrite)) → span (xs ++ ys) ≡ span xs + span ys
span-append [] ys = omega arith
span-append (x ∷ xs) ys = omega (arith, span-append xs ys)

pub next_index-is : (lists : List (List KeyWrite)) (index : ℕ) → next_index lists index ≡ index + length lists
next_index-is [] index = omega arith
next_index-is (x ∷ lists) index = omega (arith, next_index-is lists (index + 1))

pub last_digest-push : (lists : List (List KeyWrite)) (writes : List KeyWrite) (index : ℕ) (before : List ℕ)
    → last_digest (lists ++ writes ∷ []) index before ≡ record_digest (last_digest lists index before) (next_index lists index) writes
last_digest-push [] writes index before = refl
last_digest-push (x ∷ lists) writes index before = last_digest-push lists writes (index + 1) (record_digest before index x)

-- the sectors up to the closed gate decide
pub same_records : (f : LogFormat) (lists : List (List KeyWrite)) (index : ℕ) (before : List ℕ) (c d : List (List ℕ))
    → take (suc (span lists)) c ≡ take (suc (span lists)) d → HoldsRecords f lists index before d → HoldsRecords f lists index before c
same_records f [] index before (x ∷ c) (gate ∷ d) same holds = grind (arith, common_steps)
same_records f (writes ∷ lists) index before (x ∷ c) (gate ∷ d) same holds =
    let b = body_sectors writes in
    let n : suc (b + span lists) ≡ b + suc (span lists) = omega arith in
    let one = take-take b (b + suc (span lists)) c (omega arith) in
    let two = take-take b (b + suc (span lists)) d (omega arith) in
    grind (
      arith,
      common_steps,
      drop-take b (suc (span lists)) c,
      drop-take b (suc (span lists)) d,
      same_records f lists (index + 1) (record_digest before index writes) (drop b c) (drop b d),
    )
same_records f lists index before c d same holds = grind (arith, common_steps)

pub same_log : (f : LogFormat) (lists : List (List KeyWrite)) (n : ℕ) (c d : List (List ℕ)) → n ≡ suc (suc (span lists)) → take n c ≡ take n d
    → IsLogImage f lists d → IsLogImage f lists c
same_log f lists n c d n_is same holds = grind (arith, common_steps, same_records)

pub slice_get-drop : {X : Type 0} (n : ℕ) (xs : List X) (i : ℕ) → slice_get (drop n xs) i ≡ slice_get xs (n + i)
slice_get-drop zero xs i = let e : 0 + i ≡ i = omega arith in ap (λ (k : ℕ). slice_get xs k) (sym e)
slice_get-drop (suc n) [] i = refl
slice_get-drop (suc n) (x ∷ xs) i = grind (arith, common_steps, slice_get-drop n xs i)

-- a list whose elements are those of another begins with it
pub begins : (n : ℕ) (xs ys : List (List ℕ)) → length ys ≡ n → ((k : ℕ) → k < length ys → slice_get xs k ≡ Some (get_or ys k [])) → take n xs ≡ ys
begins zero xs [] is each = refl
begins (suc n) [] (y ∷ ys) is each = let none : None ≡ Some y = each 0 (omega arith) in absurd (cc none)
begins (suc n) (x ∷ xs) (y ∷ ys) is each =
    let first : Some x ≡ Some y = each 0 (omega arith) in
    let rest : take n xs ≡ ys = begins n xs ys (omega arith) (λ k lt. each (suc k) (omega arith)) in
    cc
begins n xs ys is each = absurd (omega arith)

-- the sector in this place, and those behind it
pub drop_here : (image : List (List ℕ)) (i : ℕ) (s : List ℕ) → slice_get image i ≡ Some s → drop i image ≡ s ∷ drop (i + 1) image
drop_here image i s there =
    drop_more image i s (slice_get_within image i s there) ∙ ap (λ (x : List ℕ). x ∷ drop (i + 1) image) (get_or_from_slice_get image i s s there)

-- the record and a closed gate stand behind the log's gate
staged_from : (f : LogFormat) (lists : List (List KeyWrite)) (writes : List KeyWrite) (index : ℕ) (before : List ℕ) (rest : List (List ℕ)) (shut : List ℕ)
    (behind : List (List ℕ)) → length (record_body (last_digest lists index before) (next_index lists index) writes) ≡ body_sectors writes
    → drop (suc (span lists)) rest ≡ record_body (last_digest lists index before) (next_index lists index) writes ++ shut ∷ behind → is_gate_open shut ≡ false
    → HoldsRecords f lists index before rest → Staged f lists writes index before rest
staged_from f lists writes index before [] shut behind size is closed holds = absurd holds
staged_from f [] writes index before (gate ∷ rest) shut behind size is closed holds = grind (arith, common_steps, drop_at, take_at)
staged_from f (x ∷ lists) writes index before (gate ∷ rest) shut behind size is closed holds =
    let n : body_sectors x + suc (span lists) ≡ suc (body_sectors x + span lists) = omega arith in
    let place = drop-drop (suc (span lists)) (body_sectors x) rest ∙ ap (λ (k : ℕ). drop k rest) n ∙ is in (
      holds.0,
      holds.1,
      holds.2,
      staged_from f lists writes (index + 1) (record_digest before index x) (drop (body_sectors x) rest) shut behind size place closed holds.3,
    )

-- any gate before the staged body
pub staged-set : (f : LogFormat) (lists : List (List KeyWrite)) (writes : List KeyWrite) (index : ℕ) (before : List ℕ) (rest : List (List ℕ)) (n : ℕ)
    (s : List ℕ) → n ≡ span lists → Staged f lists writes index before rest → Staged f lists writes index before (set rest n s)
staged-set f lists writes index before [] n s is staged = absurd staged
staged-set f [] writes index before (gate ∷ rest) zero s is staged = staged
staged-set f (x ∷ lists) writes index before (gate ∷ rest) (suc n) s is staged =
    grind (arith, common_steps, take-set-le, drop-set-add, staged-set f lists writes (index + 1) (record_digest before index x))
staged-set f lists writes index before (gate ∷ rest) n s is staged = absurd (omega arith)

-- a staged record counts where its gate is open
pub staged_gate : (f : LogFormat) (lists : List (List KeyWrite)) (writes : List KeyWrite) (index : ℕ) (before : List ℕ) (rest : List (List ℕ))
    → IsWriteSet f writes → Staged f lists writes index before rest
    → HoldsRecords f lists index before rest ⊎ HoldsRecords f (lists ++ writes ∷ []) index before rest
staged_gate f lists writes index before [] proper staged = absurd staged
staged_gate f [] writes index before (gate ∷ rest) proper staged = grind (arith, common_steps, cases_Bool)
staged_gate f (x ∷ lists) writes index before (gate ∷ rest) proper staged =
    grind (arith, common_steps, staged_gate f lists writes (index + 1) (record_digest before index x) (drop (body_sectors x) rest) proper staged.3)

pub staged_open : (f : LogFormat) (lists : List (List KeyWrite)) (writes : List KeyWrite) (index : ℕ) (before : List ℕ) (rest : List (List ℕ)) (gate : List ℕ)
    → IsWriteSet f writes → Staged f lists writes index before rest → slice_get rest (span lists) ≡ Some gate → is_gate_open gate ≡ true
    → HoldsRecords f (lists ++ writes ∷ []) index before rest
staged_open f lists writes index before [] gate proper staged at opened = absurd staged
staged_open f [] writes index before (g ∷ rest) gate proper staged at opened = grind (arith, common_steps)
staged_open f (x ∷ lists) writes index before (g ∷ rest) gate proper staged at opened =
    grind (
      arith,
      common_steps,
      slice_get-drop,
      staged_open f lists writes (index
          + 1) (record_digest before index x) (drop (body_sectors x) rest) gate proper staged.3 (slice_get-drop (body_sectors x) rest (span lists) ∙ at) opened,
    )

pub image_staged_gate : (f : LogFormat) (lists : List (List KeyWrite)) (writes : List KeyWrite) (c : List (List ℕ)) → IsWriteSet f writes
    → IsStaged f lists writes c → IsLogImage f lists c ⊎ IsLogImage f (lists ++ writes ∷ []) c
image_staged_gate f lists writes c proper staged = grind (arith, common_steps, ⊎_elim, staged_gate)

pub image_staged_open : (f : LogFormat) (lists : List (List KeyWrite)) (writes : List KeyWrite) (c : List (List ℕ)) (n : ℕ) (gate : List ℕ) → n ≡ 1 + span lists
    → IsWriteSet f writes → IsStaged f lists writes c → slice_get c n ≡ Some gate → is_gate_open gate ≡ true → IsLogImage f (lists ++ writes ∷ []) c
image_staged_open f lists writes c n gate n_is proper staged at opened = grind (arith, common_steps, staged_open, slice_get)

pub length-sectors_in : (n : ℕ) (bytes : List ℕ) → length (sectors_in n bytes) ≡ n
length-sectors_in zero bytes = refl
length-sectors_in (suc n) bytes = ap suc (length-sectors_in n (drop 512 bytes))

pub get_or-sectors_in : (n : ℕ) (bytes : List ℕ) (k : ℕ) → k < n → get_or (sectors_in n bytes) k [] ≡ take 512 (drop (512 * k) bytes)
get_or-sectors_in (suc n) bytes (suc k) lt =
    let e : 512 + 512 * k ≡ 512 * suc k = omega arith in
    get_or-sectors_in n (drop 512 bytes) k (omega arith) ∙ ap (λ (l : List ℕ). take 512 l) (drop-drop (512 * k) 512 bytes ∙ ap (λ (m : ℕ). drop m bytes) e)
get_or-sectors_in n bytes k lt = grind (arith, common_steps)

pub image_staged_from : (f : LogFormat) (lists : List (List KeyWrite)) (writes : List KeyWrite) (c : List (List ℕ)) (bytes shut : List ℕ)
    → bytes ≡ padded_body (last_digest lists 0 first_digest) (next_index lists 0) writes → IsLogImage f lists c
    → ((k i : ℕ) → k < body_sectors writes → i ≡ 2 + span lists + k → slice_get c i ≡ Some (take 512 (drop (512 * k) bytes)))
    → ((i : ℕ) → i ≡ 2 + span lists + body_sectors writes → slice_get c i ≡ Some shut) → is_gate_open shut ≡ false → IsStaged f lists writes c
unfolding record_body
image_staged_from f lists writes [] bytes shut is holds body behind closed = absurd holds
image_staged_from f lists writes (head ∷ rest) bytes shut is holds body behind closed =
    let padded = padded_body (last_digest lists 0 first_digest) (next_index lists 0) writes in
    let b = body_sectors writes in
    let n = suc (span lists) in
    let size = length-sectors_in b padded in
    let front = begins b (drop n rest) (sectors_in b padded) size (λ k lt.
    let below : k < b = omega (arith, size) in
    slice_get-drop n rest k ∙ body k (suc (n + k)) below (omega arith) ∙ ap (λ (s : List ℕ). Some (take 512 (drop (512 * k) s))) is
    ∙ ap (λ (s : List ℕ). Some s) (sym (get_or-sectors_in b padded k below))) in
    let back = drop_here (drop n rest) b shut (slice_get-drop n rest b ∙ behind (suc (n + b)) (omega arith)) in
    let whole : drop n rest ≡ sectors_in b padded ++ shut ∷ drop (b + 1) (drop n rest) = cc (take-append-drop b (drop n rest)) in
    (holds.0, staged_from f lists writes 0 first_digest rest shut (drop (b + 1) (drop n rest)) size whole closed holds.1)

pub slice_get_there : (xs : List (List ℕ)) (i : ℕ) → i < length xs → (x : List ℕ) × (slice_get xs i ≡ Some x)
slice_get_there xs i lt = (get_or xs i [], slice_get-get_or xs i [] lt)

pub length-record_body : (before : List ℕ) (index : ℕ) (writes : List KeyWrite) → length (record_body before index writes) ≡ body_sectors writes
unfolding record_body
length-record_body before index writes = length-sectors_in (body_sectors writes) (padded_body before index writes)

pub length-log_sectors : (lists : List (List KeyWrite)) (index : ℕ) (before : List ℕ) → length (log_sectors lists index before) ≡ span lists
length-log_sectors [] index before = refl
length-log_sectors (w ∷ lists) index before =
    grind (arith, common_steps, length-append, length-record_body, length-log_sectors lists (index + 1) (record_digest before index w))

-- one record more
pub log_sectors-push : (lists : List (List KeyWrite)) (w : List KeyWrite) (index : ℕ) (before : List ℕ)
    → log_sectors (lists ++ w ∷ []) index before
    ≡ log_sectors lists index before ++ (open_gate ∷ record_body (last_digest lists index before) (next_index lists index) w)
log_sectors-push [] w index before = append-nil (open_gate ∷ record_body before index w)
log_sectors-push (x ∷ lists) w index before = grind (arith, common_steps, append_assoc, log_sectors-push lists w (index + 1) (record_digest before index x))

-- they are records, where a closed gate stands behind them
holds_records : (lists : List (List KeyWrite)) (index : ℕ) (before : List ℕ) (shut : List ℕ) (behind : List (List ℕ)) → AreWriteSets lists
    → is_gate_open shut ≡ false → HoldsRecords current lists index before (log_sectors lists index before ++ shut ∷ behind)
holds_records [] index before shut behind proper closed = closed
holds_records (w ∷ lists) index before shut behind proper closed =
    let body : List (List ℕ) = record_body before index w in
    let more : List (List ℕ) = log_sectors lists (index + 1) (record_digest before index w) in
    let size = length-record_body before index w in
    let others : HoldsRecords current lists (index + 1) (record_digest before index w) (more ++ shut ∷ behind) =
    holds_records lists (index + 1) (record_digest before index w) shut behind proper.1 closed in
    let here = take_at body (more ++ shut ∷ behind) (body_sectors w) size in
    grind (arith, common_steps, append_assoc, open_gate_open, drop_at)

-- With a head in front of them, these records and a closed gate are a log.
pub log_made : (lists : List (List KeyWrite)) (image : List (List ℕ)) (shut : List ℕ) → AreWriteSets lists → 1 ≤ length image
    → ((k i : ℕ) → k < span lists → i ≡ 1 + k → slice_get image i ≡ Some (get_or (log_sectors lists 0 first_digest) k []))
    → ((i : ℕ) → i ≡ 1 + span lists → slice_get image i ≡ Some shut) → is_gate_open shut ≡ false → IsLogImage current lists (set image 0 (head_sector current))
log_made lists [] shut proper some stands behind closed = absurd (omega arith)
log_made lists (old ∷ rest) shut proper some stands behind closed =
    let n = span lists in
    let size = length-log_sectors lists 0 first_digest in
    let front = begins n rest (log_sectors lists 0 first_digest) size (λ k lt. stands k (suc k) (omega (arith, size)) (omega arith)) in
    let back = drop_here rest n shut (behind (suc n) (omega arith)) in
    let whole : log_sectors lists 0 first_digest ++ shut ∷ drop (n + 1) rest ≡ rest = cc (take-append-drop n rest) in
    (refl, subst (HoldsRecords current lists 0 first_digest) whole (holds_records lists 0 first_digest shut (drop (n + 1) rest) proper closed))

-- a log whose first sector was written
pub first_of_log : (lists : List (List KeyWrite)) (image : List (List ℕ)) (first : List ℕ) → IsLogImage current lists image
    → IsCopyOrNoLog lists (set image 0 first)
first_of_log lists [] first log = absurd log
first_of_log lists (old ∷ rest) first log = grind (arith, common_steps, cases_Bool, bytes_eq-Decides first (head_sector current))

pub set_first : (image : List (List ℕ)) (a b : List ℕ) → set (set image 0 a) 0 b ≡ set image 0 b
set_first [] a b = refl
set_first (old ∷ rest) a b = refl

pub log_if_head : (lists : List (List KeyWrite)) (c : List (List ℕ)) → IsCopyOrNoLog lists c → slice_get c 0 ≡ Some (head_sector current)
    → IsLogImage current lists c
log_if_head lists c h head = grind (arith, common_steps)

pub zeros_are_no_log : (lists : List (List KeyWrite)) (c : List (List ℕ)) → slice_get c 0 ≡ Some zero_sector → IsCopyOrNoLog lists c
unfolding zero_sector head_sector
zeros_are_no_log lists c zeros = grind (arith, common_steps, unwrap_or)

pub same_first : (c d : List (List ℕ)) → take 1 c ≡ take 1 d → slice_get c 0 ≡ slice_get d 0
same_first c d same = grind (arith, common_steps)

-- sectors behind those that were read
pub reads_more : (old_read new_read : ℕ → List ℕ → Type 0) (at : ℕ) (xs ys : List (List ℕ)) → ReadsFrom old_read at xs → ReadsFrom new_read (at + length xs) ys
    → ((i : ℕ) (s : List ℕ) → i < at + length xs → new_read i s → old_read i s) → ReadsFrom new_read at (xs ++ ys)
reads_more old_read new_read at xs ys first second kept k s lt read = elim (cases_lt k (length xs)) [
  | inl front ↦ first k s front (kept (at + k) s (omega arith) read) ∙ sym (get_or_append_left xs ys [] k front)
  | inr back ↦
      let j : ℕ = k - length xs in
      let place : at + k ≡ at + length xs + j = omega arith in
      let split : length xs + j ≡ k = omega arith in
      second j s (omega (arith, length-append xs ys)) (subst (λ (i : ℕ). new_read i s) place read)
      ∙ sym (get_or-append-add xs ys j []) ∙ ap (λ (n : ℕ). get_or (xs ++ ys) n []) split
]

-- an open gate and a body behind it
pub reads_record : (mid_read new_read : ℕ → List ℕ → Type 0) (gate n : ℕ) (opened bytes : List ℕ) → ((s : List ℕ) → mid_read gate s → s ≡ opened)
    → ((i : ℕ) (s : List ℕ) → i < gate + 1 → new_read i s → mid_read i s)
    → ((k : ℕ) (s : List ℕ) → k < n → new_read (gate + 1 + k) s → s ≡ take 512 (drop (512 * k) bytes)) → ReadsFrom new_read gate (opened ∷ sectors_in n bytes)
reads_record mid_read new_read gate n opened bytes first kept body =
    reads_more mid_read new_read gate (opened ∷ []) (sectors_in n bytes)
    (λ k s lt read. let none : k ≡ 0 = omega arith in rw none (first s (rw (none, add-zero gate) at read)))
    (λ k s lt read. let below : k < n = omega (arith, length-sectors_in n bytes) in body k s below read ∙ sym (get_or-sectors_in n bytes k below)) kept

-- a record's sectors are those of its bytes
pub record_sectors : (before : List ℕ) (index : ℕ) (writes : List KeyWrite) (bytes : List ℕ) → bytes ≡ padded_body before index writes
    → length bytes / 512 ≡ body_sectors writes → sectors_in (length bytes / 512) bytes ≡ record_body before index writes
unfolding record_body
record_sectors before index writes bytes is size = ap (λ (n : ℕ). sectors_in n bytes) size ∙ ap (λ (l : List ℕ). sectors_in (body_sectors writes) l) is
