-- How long a record is, what its first bytes say, and what the encoder makes.
use Rattle.std.proofs.Common.{◌≡◌, ℕ, ◌<◌, ◌≤◌, ◌+◌, ◌-◌, ◌*◌, ◌^◌, List, ◌++◌, length, get_or, replicate, ◌∙◌, ap}
use Rattle.std.proofs.Common.{arith, lit<, append_assoc, length-append, sym, suc, [], ◌∷◌, take, drop, refl}
use Rattle.std.proofs.Math.Nat.{mul_comm}
use Rattle.std.proofs.lemmas.Grind.{common_steps}
use Rattle.std.proofs.lemmas.List.{length-replicate, append-nil, take_all, take_more}
use Rattle.std.proofs.lemmas.List.Concat.{length-flat_map, flat_map-append}
use Rattle.std.proofs.lemmas.List.Sums.{sum_by-le}
use Rattle.std.proofs.lemmas.Nat.{mul-le}
use Rattle.std.specs.List.{flat_map}
use Rattle.byteorder.specs.Endian.{big_bytes, big_number}
use Rattle.byteorder.specs.Numbers.{big_number-reads_back}
use Rattle.sha2.proofs.Facts256.{length-sha256}
use Rattle.sha2.specs.Sha256.{sha256}
use Rattle.model.specs.Bounds.{entry_bound, payload_bound, body_bound}
use Rattle.model.specs.Machine.{payload_size, write_size, body_sectors}
use Rattle.model.specs.Map.{KeyWrite}
use Rattle.commit_log.specs.Encoding.{IsUnsealed}
use Rattle.commit_log.specs.Format.{value_bound}
use Rattle.commit_log.specs.RecordFormat.{FitsFormat, IsWriteSet, entry_bytes, payload_bytes, record_digest}
use Rattle.commit_log.specs.RecordFormat.{body_bytes, padded_body, sectors_for}
use Rattle.commit_log.specs.declared.formats.LogFormat.{LogFormat}

-- a value's length takes four bytes, and a payload's as well
pub value_small : (f : LogFormat) → value_bound f < 2 ^ 16
value_small f = grind (arith, common_steps, lit<)

length-entry_le : (f : LogFormat) (write : KeyWrite) → FitsFormat f write → length (entry_bytes write) ≤ entry_bound (value_bound f)
length-entry_le f write limits = grind (arith, common_steps, length-append)

pub length-payload_le : (f : LogFormat) (writes : List KeyWrite) → IsWriteSet f writes → length (payload_bytes writes) ≤ payload_bound (value_bound f)
unfolding payload_bytes
length-payload_le f writes proper =
    let e = entry_bound (value_bound f) in
    let entries = sum_by-le (λ (w : KeyWrite). length (entry_bytes w)) e writes (λ k d lt. length-entry_le f (get_or writes k d) (proper.limits k d lt)) in
    omega (
      arith,
      length-flat_map entry_bytes writes,
      entries,
      mul-le (length writes) e 64 e proper.at_most (omega arith),
      length-append (big_bytes 4 (length writes)) (flat_map entry_bytes writes),
    )

pub length-body : (before : List ℕ) (index : ℕ) (writes : List KeyWrite) → length (body_bytes before index writes) ≡ 44 + length (payload_bytes writes)
unfolding body_bytes record_digest
length-body before index writes = grind (arith, common_steps, length-sha256, length-append)

unfoldable pub zeros_of : List ℕ → ℕ → List KeyWrite → List ℕ
zeros_of before index writes = replicate (512 * body_sectors writes - length (body_bytes before index writes)) 0

pub padded_split : (before : List ℕ) (index : ℕ) (writes : List KeyWrite)
    → padded_body before index writes
    ≡ big_bytes 4 (length (payload_bytes writes))
    ++ (big_bytes 8 index ++ (record_digest before index writes ++ (payload_bytes writes ++ zeros_of before index writes)))
unfolding padded_body body_bytes zeros_of
padded_split before index writes = grind (arith, common_steps, zeros_of, append_assoc)

-- the first four bytes give the payload's length
pub number-padded_body : (f : LogFormat) (before : List ℕ) (index : ℕ) (writes : List KeyWrite) → IsWriteSet f writes
    → big_number 4 (padded_body before index writes) ≡ length (payload_bytes writes)
number-padded_body f before index writes proper =
    let fits : length (payload_bytes writes) < 256 ^ 4 = omega (arith, length-payload_le f writes proper, value_small f) in
    ap (big_number 4) (padded_split before index writes)
    ∙ big_number-reads_back 4 (length (payload_bytes writes)) (big_bytes 8 index
    ++ (record_digest before index writes ++ (payload_bytes writes ++ zeros_of before index writes))) fits

pub entry_size : (w : KeyWrite) → length (entry_bytes w) ≡ write_size w.0 w.1
entry_size w = grind (arith, common_steps, length-append)

entries_size : (ws : List KeyWrite) → payload_size ws ≡ 4 + length (flat_map entry_bytes ws)
entries_size [] = refl
entries_size (w ∷ ws) = omega (arith, entry_size w, entries_size ws, length-append (entry_bytes w) (flat_map entry_bytes ws))

-- a payload has the bytes that the machine counts
pub payload_size_is : (ws : List KeyWrite) → payload_size ws ≡ length (payload_bytes ws)
unfolding payload_bytes
payload_size_is ws = omega (arith, entries_size ws, length-append (big_bytes 4 (length ws)) (flat_map entry_bytes ws))

pub body_sectors_is : (writes : List KeyWrite) (len : ℕ) → len ≡ length (payload_bytes writes) → body_sectors writes ≡ sectors_for len
body_sectors_is writes len is = ap sectors_for (payload_size_is writes ∙ sym is)

pub body_sectors_bounds : (f : LogFormat) (writes : List KeyWrite) → IsWriteSet f writes
    → (1 ≤ body_sectors writes) × (body_sectors writes ≤ body_bound (value_bound f))
body_sectors_bounds f writes proper = let le =
    length-payload_le f writes proper in (omega (arith, payload_size_is writes), omega (arith, payload_size_is writes))

pub length-padded_body : (before : List ℕ) (index : ℕ) (writes : List KeyWrite) → length (padded_body before index writes) ≡ 512 * body_sectors writes
unfolding padded_body
length-padded_body before index writes = grind (arith, common_steps, length-body, payload_size_is, length-append, length-replicate)

-- one write more
pub payload_size-push : (ws : List KeyWrite) (w : KeyWrite) → payload_size (ws ++ w ∷ []) ≡ payload_size ws + write_size w.0 w.1
payload_size-push [] w = omega arith
payload_size-push (x ∷ ws) w = omega (arith, payload_size-push ws w)

pub payload_size-more : (ws : List KeyWrite) (i : ℕ) (w : KeyWrite) → w ≡ get_or ws i w → i < length ws
    → payload_size (take (i + 1) ws) ≡ payload_size (take i ws) + write_size w.0 w.1
payload_size-more ws i w is lt = ap payload_size (take_more ws i w lt ∙ ap (λ (x : KeyWrite). take i ws ++ x ∷ []) (sym is)) ∙ payload_size-push (take i ws) w

-- a part is no longer than the whole
pub payload_size_le : (ws : List KeyWrite) (i : ℕ) → payload_size (take i ws) ≤ payload_size ws
payload_size_le (w ∷ ws) (suc i) = omega (arith, payload_size_le ws i)
payload_size_le ws i = grind (arith, common_steps, entries_size ws)

-- one entry more
pub entries-more : (ws : List KeyWrite) (i : ℕ) (w : KeyWrite) → w ≡ get_or ws i w → i < length ws
    → flat_map entry_bytes (take (i + 1) ws) ≡ flat_map entry_bytes (take i ws) ++ entry_bytes w
entries-more ws i w is lt = grind (arith, common_steps, take_more ws i w lt, flat_map-append entry_bytes (take i ws) (w ∷ []), append-nil (entry_bytes w))

-- a body whose digest is made, and put into its place
module _ (before : List ℕ) (index len : ℕ) (writes : List KeyWrite) (bytes digest sealed : List ℕ) (is : IsUnsealed bytes index len writes)
    (digest_is : digest ≡ sha256 ((before ++ big_bytes 8 index) ++ drop 44 bytes)) (sealed_is : sealed ≡ (take 12 bytes ++ digest) ++ drop 44 bytes) where
  back : drop 44 bytes ≡ payload_bytes writes
  unfolding payload_bytes
  back = ap (drop 44) is.bytes_are

  fore : take 12 bytes ≡ big_bytes 4 len ++ big_bytes 8 index
  fore = ap (take 12) is.bytes_are

  len_is : len ≡ length (payload_bytes writes)
  len_is = is.len_is ∙ payload_size_is writes

  pub digest_made : digest ≡ record_digest before index writes
  unfolding record_digest
  digest_made = digest_is ∙ ap (λ (l : List ℕ). sha256 ((before ++ big_bytes 8 index) ++ l)) back

  body_made : sealed ≡ body_bytes before index writes
  unfolding body_bytes
  body_made = sealed_is ∙ (λ i. (fore i ++ digest_made i) ++ back i)
      ∙ ap (λ (n : ℕ). ((big_bytes 4 n ++ big_bytes 8 index) ++ record_digest before index writes) ++ payload_bytes writes) len_is

  sealed_length : length sealed ≡ 44 + len
  sealed_length = omega (arith, ap length body_made, length-body before index writes, len_is)

  pub sectors_are : sectors_for len * 512 ≡ 512 * body_sectors writes
  sectors_are = mul_comm _ 512 ∙ ap (λ (n : ℕ). 512 * n) (sym (body_sectors_is writes len len_is))

  pub padded_made : (n : ℕ) → n ≡ sectors_for len * 512 → take n sealed ++ replicate (n - length sealed) 0 ≡ padded_body before index writes
  unfolding padded_body
  padded_made n is = grind (arith, common_steps, sealed_length, sectors_are, take_all, body_made)
