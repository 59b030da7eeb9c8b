-- Bytes have one reading at most: keys that rise, entries, the parts of a record's body, and when the sectors that were read are a record.
use Rattle.std.proofs.Common.{◌≡◌, ℕ, zero, suc, ◌+◌, ◌-◌, ◌<◌, ◌==◌, true, false, List, [], ◌∷◌, ◌++◌, length}
use Rattle.std.proofs.Common.{get_or, subst, arith, Ordering, ◌≤◌, ◌^◌, Bool, take, drop, All, IfSome, Option, None}
use Rattle.std.proofs.Common.{sym, ◌∙◌, ap, append_assoc, length-append, ◌*◌, slice_get, Some, add-zero, length-drop}
use Rattle.std.proofs.Common.{take-append-drop}
use Rattle.std.proofs.Math.Seq.{drop-cons}
use Rattle.std.proofs.lemmas.Bool.Decides.{nat_tests}
use Rattle.std.proofs.lemmas.Grind.{common_steps, flat_map-append}
use Rattle.std.proofs.lemmas.List.{drop_all, get_or-take, append-nil, nil_from_length, length-replicate}
use Rattle.std.proofs.lemmas.List.{get_or-replicate, same_lists, get_or_default, take_all}
use Rattle.std.proofs.lemmas.List.Elements.{All-tail}
use Rattle.std.specs.Cmp.Lexicographic.{slice_cmp, nat_list_cmp_total}
use Rattle.std.specs.FinMap.Entries.{is_sorted, below_all}
use Rattle.std.specs.List.{flat_map, concat}
use Rattle.std.specs.Ordering.{nat_cmp, ordering_index}
use Rattle.std.specs.declared.cmp.Ordering.TheVariants.{Less}
use Rattle.byteorder.specs.Endian.{big_bytes, big_number}
use Rattle.byteorder.specs.Numbers.{big_number-reads_back, length-bytes_high_first}
use Rattle.sha2.proofs.Facts256.{length-sha256}
use Rattle.sha2.specs.Sha256.{sha256}
use Rattle.model.proofs.Fronts.{same_front}
use Rattle.model.proofs.InOrder.{parts, both, less, is_less, below_later}
use Rattle.model.specs.Bounds.{body_bound}
use Rattle.model.specs.Key.{IsKey}
use Rattle.model.specs.Map.{KeyWrite, key_cmp}
use Rattle.commit_log.proofs.Encoding.{value_small, zeros_of, padded_split, length-payload_le, length-body}
use Rattle.commit_log.proofs.Encoding.{body_sectors_bounds, length-padded_body, number-padded_body, body_sectors_is}
use Rattle.commit_log.proofs.Records.{begins, slice_get-drop, length-sectors_in, get_or-sectors_in}
use Rattle.commit_log.specs.Format.{value_bound}
use Rattle.commit_log.specs.LogImage.{IsRecordAt}
use Rattle.commit_log.specs.RecordFormat.{IsRising, IsValueIn, FitsFormat, IsWriteSet, entry_bytes, value_bytes}
use Rattle.commit_log.specs.RecordFormat.{payload_bytes, record_digest, body_bytes, body_sectors, sectors_for}
use Rattle.commit_log.specs.RecordFormat.{padded_body, sectors_in, record_body}
use Rattle.commit_log.specs.declared.formats.LogFormat.{LogFormat}

pub less_if : (o : Ordering) → (ordering_index o == 0) ≡ true → o ≡ Less
less_if o is_zero = grind (arith, common_steps)

pub less_unless : (o : Ordering) → (ordering_index o == 0) ≡ false → o ≡ Less → ⊥
less_unless o not_zero same = grind (arith, common_steps, less)

-- a write above the last is above all
pub rising_push : (ws : List KeyWrite) (w : KeyWrite) → ((d : KeyWrite) → key_cmp (get_or ws (length ws - 1) d).0 w.0 ≡ Less) → IsRising ws
    → IsRising (ws ++ w ∷ [])
rising_push [] w above rising = tt
rising_push (x ∷ []) w above rising = both _ _ (both _ _ (is_less _ (above x)) tt) tt
rising_push (x ∷ y ∷ rest) w above rising =
    let p = parts (below_all (slice_cmp nat_cmp) x.0 (y ∷ rest)) (is_sorted (slice_cmp nat_cmp) (y ∷ rest)) rising in
    let place : length (x ∷ y ∷ rest) - 1 ≡ suc (length (y ∷ rest) - 1) = omega arith in
    let later : IsRising ((y ∷ rest) ++ w ∷ []) =
    rising_push (y ∷ rest) w (λ d. subst (λ (n : ℕ). key_cmp (get_or (x ∷ y ∷ rest) n d).0 w.0 ≡ Less) place (above d)) p.1 in
    grind (arith, common_steps, parts, both, less, below_later nat_list_cmp_total x.0 y.0 (rest ++ w ∷ []))

-- each key is below the next
pub adjacent : (ws : List KeyWrite) → IsRising ws → (k : ℕ) (d : KeyWrite) → k + 1 < length ws → key_cmp (get_or ws k d).0 (get_or ws (k + 1) d).0 ≡ Less
adjacent (x ∷ y ∷ rest) rising zero d lt = grind (arith, common_steps, parts, less)
adjacent (x ∷ y ∷ rest) rising (suc k) d lt = grind (arith, common_steps, parts, adjacent (y ∷ rest))
adjacent ws rising k d lt = absurd (omega arith)

pub same_number : (n x y : ℕ) (r s : List ℕ) → x < 256 ^ n → y < 256 ^ n → big_bytes n x ++ r ≡ big_bytes n y ++ s → (x ≡ y) × (r ≡ s)
same_number n x y r s x_fits y_fits same = (
  sym (big_number-reads_back n x r x_fits) ∙ ap (λ (l : List ℕ). big_number n l) same ∙ big_number-reads_back n y s y_fits,
  (same_front (big_bytes n x) (big_bytes n y) r s (length-bytes_high_first n x ∙ sym (length-bytes_high_first n y)) same).1,
)

pub same_value : (f : LogFormat) (v w : Option (List ℕ)) (r s : List ℕ) → IfSome v (IsValueIn f) → IfSome w (IsValueIn f)
    → value_bytes v ++ r ≡ value_bytes w ++ s → (v ≡ w) × (r ≡ s)
same_value f v w r s v_is w_is same = grind (arith, common_steps, append_assoc, same_number, value_small, same_front, nat_tests)

entry_split : (w : KeyWrite) (r : List ℕ) → entry_bytes w ++ r ≡ big_bytes 2 (length w.0) ++ (w.0 ++ (value_bytes w.1 ++ r))
entry_split w r = grind (arith, common_steps, append_assoc)

pub same_entry : (f : LogFormat) (w x : KeyWrite) (r s : List ℕ) → FitsFormat f w → FitsFormat f x → entry_bytes w ++ r ≡ entry_bytes x ++ s
    → (w ≡ x) × (r ≡ s)
same_entry f w x r s w_is x_is same = grind (arith, common_steps, entry_split, same_number, same_front, same_value, nat_tests)

-- no value stands behind the key
pub no_value : (f : LogFormat) (bytes key rest : List ℕ) → bytes ≡ (big_bytes 2 (length key) ++ key) ++ rest → IsKey key
    → ((v : Option (List ℕ)) (r : List ℕ) → IfSome v (IsValueIn f) → rest ≡ value_bytes v ++ r → ⊥)
    → (w : KeyWrite) (r : List ℕ) → FitsFormat f w → bytes ≡ entry_bytes w ++ r → ⊥
no_value f bytes key rest is key_is none w r w_is same = grind (arith, common_steps, append_assoc, entry_split, same_number, same_front, nat_tests)

-- what was read first is the front of each reading
pub same_entries : (f : LogFormat) (done writes : List KeyWrite) (rest : List ℕ) → All (FitsFormat f) done → All (FitsFormat f) writes
    → length done ≤ length writes
    → flat_map entry_bytes writes ≡ flat_map entry_bytes done ++ rest
    → (take (length done) writes ≡ done) × (flat_map entry_bytes (drop (length done) writes) ≡ rest)
same_entries f (w ∷ done) (x ∷ writes) rest done_is writes_is le same =
    let first = same_entry f x w (flat_map entry_bytes writes) (flat_map entry_bytes done
    ++ rest) (writes_is 0 x (omega arith)) (done_is 0 w (omega arith)) (same ∙ append_assoc (entry_bytes w) (flat_map entry_bytes done) rest) in
    let others = same_entries f done writes rest (All-tail (FitsFormat f) w done done_is) (All-tail (FitsFormat f) x writes writes_is) (omega arith)
    first.1 in
    ((λ i. first.0 i ∷ others.0 i), others.1)
same_entries f done writes rest done_is writes_is le same = grind (arith, common_steps)

module _ (f : LogFormat) (bytes rest : List ℕ) (count : ℕ) (done : List KeyWrite) (is : bytes
    ≡ big_bytes 4 count ++ (flat_map entry_bytes done ++ rest)) (fits : count < 256 ^ 4) (done_is : All (FitsFormat f) done) where
  -- each reading has that count, and what was read in front
  pub reading : (writes : List KeyWrite) → IsWriteSet f writes → payload_bytes writes ≡ bytes → length done ≤ count
      → (length writes ≡ count) × (take (length done) writes ≡ done) × (flat_map entry_bytes (drop (length done) writes) ≡ rest)
  unfolding payload_bytes
  reading writes proper same le =
      let number = same_number 4 (length writes) count (flat_map entry_bytes writes) (flat_map entry_bytes done
      ++ rest) (omega (arith, proper.at_most)) fits (same ∙ is) in
      let front = same_entries f done writes rest done_is proper.limits (omega (arith, number.0)) number.1 in
      (number.0, front.0, front.1)

  -- there is no entry where one should be
  pub no_entry : ((w : KeyWrite) (after : List ℕ) → FitsFormat f w → rest ≡ entry_bytes w ++ after → ⊥) → length done < count → (writes : List KeyWrite)
      → IsWriteSet f writes → payload_bytes writes ≡ bytes → ⊥
  no_entry none lt writes proper same =
      let read = reading writes proper same (omega arith) in
      let n = length done in
      let there = drop-cons writes n ([], None) (omega (arith, read.0)) in
      none (get_or writes n ([], None)) (flat_map entry_bytes (drop (suc n) writes)) (proper.limits n ([], None) (omega (arith, read.0))) (sym read.2
      ∙ ap (flat_map entry_bytes) there)

  -- an entry follows that isn't above the one before it
  pub not_rising : (w : KeyWrite) (after : List ℕ) → rest ≡ entry_bytes w ++ after → FitsFormat f w → 1 ≤ length done
      → ((d : KeyWrite) → slice_cmp nat_cmp (get_or done (length done - 1) d).0 w.0 ≡ Less → ⊥) → length done < count → (writes : List KeyWrite)
      → IsWriteSet f writes → payload_bytes writes ≡ bytes → ⊥
  not_rising w after entry limits some falls lt writes proper same =
      let read = reading writes proper same (omega arith) in
      let n = length done in
      let there = ap (flat_map entry_bytes) (drop-cons writes n w (omega (arith, read.0))) in
      let next = same_entry f (get_or writes n w) w (flat_map entry_bytes (drop (suc n) writes)) after (proper.limits n w (omega (arith, read.0))) limits
      (sym there ∙ read.2 ∙ entry) in
      let last : get_or writes (n - 1) w ≡ get_or done (n - 1) w =
      sym (get_or-take n writes (n - 1) w (omega arith)) ∙ ap (λ (l : List KeyWrite). get_or l (n - 1) w) read.1 in
      let place : n - 1 + 1 ≡ n = omega arith in
      falls w (rw (last, place, next.0) at (adjacent writes proper.rising (n - 1) w (omega (arith, read.0))))

  -- bytes are left behind the last entry
  pub left_over : length done ≡ count → 1 ≤ length rest → (writes : List KeyWrite) → IsWriteSet f writes → payload_bytes writes ≡ bytes → ⊥
  left_over all some writes proper same = grind (arith, common_steps, reading, drop_all, sym, nat_tests)

  pub whole : length done ≡ count → rest ≡ [] → payload_bytes done ≡ bytes
  unfolding payload_bytes
  whole all none = grind (arith, common_steps, sym, append-nil, nat_tests)

-- a count that no write set has
pub no_count : (f : LogFormat) (bytes rest : List ℕ) (count : ℕ) → bytes ≡ big_bytes 4 count ++ rest → count < 256 ^ 4 → (1 ≤ count → count ≤ 64 → ⊥)
    → (writes : List KeyWrite) → IsWriteSet f writes → payload_bytes writes ≡ bytes → ⊥
unfolding payload_bytes
no_count f bytes rest count is fits out writes proper same = grind (arith, common_steps, same_number)

pub too_few : (f : LogFormat) (bytes : List ℕ) → length bytes < 4 → (writes : List KeyWrite) → IsWriteSet f writes → payload_bytes writes ≡ bytes → ⊥
unfolding payload_bytes
too_few f bytes short writes proper same = omega (arith, ap length same, length-append (big_bytes 4 (length writes)) (flat_map entry_bytes writes))

-- one entry more was read
pub read_more : (bytes front rest after : List ℕ) (done : List KeyWrite) (w : KeyWrite) → bytes ≡ front ++ (flat_map entry_bytes done ++ rest)
    → rest ≡ entry_bytes w ++ after → bytes ≡ front ++ (flat_map entry_bytes (done ++ w ∷ []) ++ after)
read_more bytes front rest after done w so_far entry = grind (arith, common_steps, append_assoc, append-nil, flat_map-append, nat_tests)

pub empty_if : (b : Bool) (xs : List ℕ) → b ≡ (length xs == 0) → b ≡ true → xs ≡ []
empty_if b xs is is_so = nil_from_length xs (grind (arith, nat_tests))

pub some_if : (b : Bool) (xs : List ℕ) → b ≡ (length xs == 0) → b ≡ false → 1 ≤ length xs
some_if b xs is is_so = grind (arith, nat_tests)

pub length-digest : (before : List ℕ) (index : ℕ) (writes : List KeyWrite) → length (record_digest before index writes) ≡ 32
unfolding record_digest
length-digest before index writes = length-sha256 ((before ++ big_bytes 8 index) ++ payload_bytes writes)

module _ (f : LogFormat) (before : List ℕ) (index len : ℕ) (body number digest payload zeros : List ℕ) (is : body
    ≡ big_bytes 4 len ++ (number ++ (digest ++ (payload ++ zeros)))) (fits : len < 2 ^ 32)
    (number_length : length number ≡ 8) (digest_length : length digest ≡ 32) (payload_length : length payload ≡ len) where
  -- each reading of the body has these parts
  pub same_parts : (writes : List KeyWrite) → IsWriteSet f writes → padded_body before index writes ≡ body
      → (big_bytes 8 index ≡ number) × (record_digest before index writes ≡ digest) × (payload_bytes writes ≡ payload) × (zeros_of before index writes ≡ zeros)
  same_parts writes proper same =
      let joined = sym (padded_split before index writes) ∙ same ∙ is in
      let first = same_number 4 (length (payload_bytes writes)) len (big_bytes 8 index
      ++ (record_digest before index writes ++ (payload_bytes writes ++ zeros_of before index writes))) (number
      ++ (digest ++ (payload ++ zeros))) (omega (arith, length-payload_le f writes proper, value_small f)) (omega arith) joined in
      let second = same_front (big_bytes 8 index) number (record_digest before index writes ++ (payload_bytes writes ++ zeros_of before index writes)) (digest
      ++ (payload ++ zeros)) (omega (arith, number_length)) first.1 in
      let third = same_front (record_digest before index writes) digest (payload_bytes writes ++ zeros_of before index writes) (payload
      ++ zeros) (omega (arith, digest_length, length-digest before index writes)) second.1 in
      let fourth = same_front (payload_bytes writes) payload (zeros_of before index writes) zeros (omega (arith, payload_length, first.0)) third.1 in
      (second.0, third.0, fourth.0, fourth.1)

  pub not_zero : (((k : ℕ) → k < length zeros → get_or zeros k 0 ≡ 0) → ⊥) → (writes : List KeyWrite) → IsWriteSet f writes
      → padded_body before index writes ≡ body → ⊥
  unfolding zeros_of
  not_zero other writes proper same =
      let found = (same_parts writes proper same).3 in
      let n = 512 * body_sectors writes - length (body_bytes before index writes) in
      other (λ k lt. ap (λ (l : List ℕ). get_or l k 0) (sym found) ∙ get_or-replicate n k 0 0 (omega (arith, ap length found, length-replicate {A = ℕ} n 0)))

  pub right_body : (writes : List KeyWrite) (right : List ℕ) → length body ≡ 512 * sectors_for len → number ≡ big_bytes 8 index
      → right ≡ sha256 ((before ++ big_bytes 8 index) ++ payload) → payload_bytes writes ≡ payload
      → digest ≡ right → ((k : ℕ) → k < length zeros → get_or zeros k 0 ≡ 0) → padded_body before index writes ≡ body
  unfolding zeros_of record_digest
  right_body writes right size number_is right_is payload_is digest_is blank =
      let n = 512 * body_sectors writes - length (body_bytes before index writes) in
      let len_is : length (payload_bytes writes) ≡ len = ap length payload_is ∙ payload_length in
      let sectors : body_sectors writes ≡ sectors_for len = body_sectors_is writes len (sym len_is) in
      let body_length : length body ≡ 4 + (length number + (length digest + (length payload + length zeros))) = grind (arith, length-append, ap length is) in
      let size_is : length (zeros_of before index writes) ≡ length zeros =
      omega (arith, body_length, size, sectors, length-body before index writes, len_is, length-replicate {A = ℕ} n 0) in
      let zeros_are : zeros_of before index writes ≡ zeros =
      same_lists (zeros_of before index writes) zeros size_is
      (λ k d lt. get_or-replicate n k 0 d (omega (arith, length-replicate {A = ℕ} n 0))
      ∙ sym (get_or_default zeros k d 0 (omega (arith, size_is)) ∙ blank k (omega (arith, size_is)))) in
      let digest_right : record_digest before index writes ≡ digest =
      ap (λ (l : List ℕ). sha256 ((before ++ big_bytes 8 index) ++ l)) payload_is ∙ sym right_is ∙ sym digest_is in
      cc (padded_split before index writes)

-- whole sectors joined are their bytes
concat-sectors_in : (n : ℕ) (bytes : List ℕ) → length bytes ≡ 512 * n → concat (sectors_in n bytes) ≡ bytes
concat-sectors_in (suc n) bytes len = grind (arith, common_steps, concat-sectors_in n (drop 512 bytes), length-drop 512 bytes, take-append-drop 512 bytes)
concat-sectors_in n bytes len = grind (arith, common_steps)

pub same_bytes : (n : ℕ) (xs ys : List ℕ) → length xs ≡ 512 * n → length ys ≡ 512 * n → sectors_in n xs ≡ sectors_in n ys → xs ≡ ys
same_bytes n xs ys x_len y_len same = sym (concat-sectors_in n xs x_len) ∙ ap concat same ∙ concat-sectors_in n ys y_len

-- the sectors from here on are those of these bytes
sectors_read : (image : List (List ℕ)) (at n : ℕ) (bytes : List ℕ) → ((k : ℕ) → k < n → slice_get image (at + k) ≡ Some (take 512 (drop (512 * k) bytes)))
    → take n (drop at image) ≡ sectors_in n bytes
sectors_read image at n bytes each =
    begins n (drop at image) (sectors_in n bytes) (length-sectors_in n bytes) (λ k lt.
    let below : k < n = omega (arith, length-sectors_in n bytes) in
    slice_get-drop at image k ∙ each k below ∙ ap (λ (s : List ℕ). Some s) (sym (get_or-sectors_in n bytes k below)))

first_number : (n : ℕ) (bytes : List ℕ) (rest : List (List ℕ)) (first : List ℕ) → 1 ≤ n → take n rest ≡ sectors_in n bytes → slice_get rest 0 ≡ Some first
    → big_number 4 first ≡ big_number 4 bytes
first_number zero bytes rest first some same at = absurd (omega arith)
first_number (suc n) bytes [] first some same at = absurd (cc at)
first_number (suc n) bytes (s ∷ rest) first some same at = grind (arith, common_steps)

-- a record's length stands in its first sector
pub length_read : (f : LogFormat) (index : ℕ) (before : List ℕ) (rest : List (List ℕ)) (writes : List KeyWrite) (first : List ℕ)
    → IsRecordAt f index before rest writes → slice_get rest 0 ≡ Some first → big_number 4 first ≡ length (payload_bytes writes)
unfolding record_body
length_read f index before rest writes first right at =
    first_number (body_sectors writes) (padded_body before index writes) rest first (body_sectors_bounds f writes right.proper).0 right.body at
    ∙ number-padded_body f before index writes right.proper

-- these n sectors from here on were read, and n is what the length in the first of them says
pub record IsRead (image : List (List ℕ)) (at n : ℕ) (first bytes : List ℕ) : Type 0 where
  pub there : slice_get image at ≡ Some first
  pub count_is : sectors_for (big_number 4 first) ≡ n
  pub long : length bytes ≡ 512 * n
  pub each : (k : ℕ) → k < n → slice_get image (at + k) ≡ Some (take 512 (drop (512 * k) bytes))

module _ (f : LogFormat) (image : List (List ℕ)) (at count n : ℕ) (first : List ℕ) (index : ℕ) (before : List ℕ) (size : length image
    ≡ count) (there : slice_get image at ≡ Some first) (is : sectors_for (big_number 4 first) ≡ n) where
  first_there : slice_get (drop at image) 0 ≡ Some first
  first_there = grind (arith, common_steps, slice_get-drop)

  sectors_right : (writes : List KeyWrite) → IsRecordAt f index before (drop at image) writes → body_sectors writes ≡ n
  sectors_right writes right = body_sectors_is writes (big_number 4 first) (length_read f index before (drop at image) writes first right first_there) ∙ is

  -- the length leads past a record's limit or past the image
  pub no_room : (n ≤ body_bound (value_bound f) → count ≤ at + n) → (writes : List KeyWrite) → IsRecordAt f index before (drop at image) writes → ⊥
  no_room long writes right = grind (arith, common_steps, sectors_right, body_sectors_bounds, length-drop)

module _ (f : LogFormat) (image : List (List ℕ)) (at count n : ℕ) (first bytes : List ℕ) (index : ℕ) (before : List ℕ) (size : length image
    ≡ count) (read : IsRead image at n first bytes) where
  pub is_record : (writes : List KeyWrite) → at + n < count → IsWriteSet f writes → 1 ≤ n → padded_body before index writes ≡ bytes
      → IsRecordAt f index before (drop at image) writes × (n ≡ body_sectors writes)
  unfolding record_body
  is_record writes room proper some same =
      let body = sectors_read image at n bytes read.each in
      let at_first = first_there f image at count n first index before size read.there read.count_is in
      let number = first_number n bytes (drop at image) first some body at_first ∙ ap (big_number 4) (sym same)
      ∙ number-padded_body f before index writes proper in
      let sectors : body_sectors writes ≡ n = body_sectors_is writes (big_number 4 first) number ∙ read.count_is in
      (record { proper = proper; room = omega (arith, sectors, room, length-drop at image, size); body = rw (sectors, same) body }, sym sectors)

  pub no_record : ((writes : List KeyWrite) → IsWriteSet f writes → padded_body before index writes ≡ bytes → ⊥) → (writes : List KeyWrite)
      → IsRecordAt f index before (drop at image) writes → ⊥
  unfolding record_body
  no_record none writes right =
      let sectors = sectors_right f image at count n first index before size read.there read.count_is writes right in
      let padded = padded_body before index writes in
      let same : sectors_in n padded ≡ sectors_in n bytes = sym (rw sectors at right.body) ∙ sectors_read image at n bytes read.each in
      none writes right.proper (same_bytes n padded bytes (omega (arith, length-padded_body before index writes, sectors)) read.long same)

pub too_short : (f : LogFormat) (image : List (List ℕ)) (at count index : ℕ) (before : List ℕ) → length image ≡ count → count ≤ at + 1
    → (writes : List KeyWrite) → IsRecordAt f index before (drop at image) writes → ⊥
too_short f image at count index before size short writes right = grind (arith, common_steps, body_sectors_bounds, length-drop)

-- the first sector that was read, as all bytes so far
pub first_read : (image : List (List ℕ)) (at : ℕ) (empty first : List ℕ) → empty ≡ [] → length first ≡ length empty + 512 * 1
    → slice_get image (at + 0) ≡ Some (take 512 (drop (length empty + 512 * 0) first)) → slice_get image at ≡ Some first
first_read image at empty first none len read =
    let begin : length empty + 512 * 0 ≡ 0 = omega (arith, ap length none) in
    (rw (add-zero at, begin) at read) ∙ ap (λ (l : List ℕ). Some l) (take_all 512 first (omega (arith, ap length none)))

-- the first and the other sectors
pub all_read : (image : List (List ℕ)) (at n : ℕ) (first bytes : List ℕ) → length first ≡ 512 → slice_get image at ≡ Some first
    → take (length first) bytes ≡ first
    → ((k : ℕ) → k < n - 1 → slice_get image (at + 1 + k) ≡ Some (take 512 (drop (length first + 512 * k) bytes))) → (k : ℕ) → k < n
    → slice_get image (at + k) ≡ Some (take 512 (drop (512 * k) bytes))
all_read image at n first bytes len there front others zero lt =
    ap (slice_get image) (add-zero at) ∙ there ∙ ap (λ (l : List ℕ). Some l) (sym front) ∙ ap (λ (m : ℕ). Some (take m bytes)) len
all_read image at n first bytes len there front others (suc k) lt =
    let place : at + 1 + k ≡ at + suc k = omega arith in
    let begin : length first + 512 * k ≡ 512 * suc k = omega arith in
    rw (place, begin) at (others k (omega arith))
