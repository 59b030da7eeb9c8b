-- What is read of an image: records one after the other. And it is a log of one list of write sets at most, or damaged in one place.
use Rattle.std.proofs.Common.{◌≡◌, ℕ, ◌+◌, true, false, List, [], ◌∷◌, ◌++◌, length, drop, get_or, slice_get, Some}
use Rattle.std.proofs.Common.{replicate, refl, sym, ◌∙◌, ap, subst, arith, append_assoc, length-append, ◌⊎◌, inl, inr}
use Rattle.std.proofs.Common.{◌≤◌, take, length-drop}
use Rattle.std.proofs.lemmas.Bool.Decides.{nat_tests}
use Rattle.std.proofs.lemmas.Grind.{common_steps}
use Rattle.std.proofs.lemmas.List.{append-nil, drop-drop, take_all, same_lists}
use Rattle.std.proofs.lemmas.Option.{slice_get-get_or, get_or_from_slice_get}
use Rattle.byteorder.specs.Endian.{big_bytes}
use Rattle.byteorder.specs.Numbers.{length-bytes_high_first}
use Rattle.model.specs.Map.{KeyMap, KeyWrite, after_writes}
use Rattle.commit_log.proofs.Encoding.{value_small, padded_split, zeros_of, length-padded_body, length-payload_le}
use Rattle.commit_log.proofs.Encoding.{body_sectors_is}
use Rattle.commit_log.proofs.Parsing.{length_read, same_bytes, same_parts, length-digest, reading}
use Rattle.commit_log.proofs.Records.{drop_here, span-append, next_index-is, last_digest-push, slice_get_there}
use Rattle.commit_log.specs.Format.{current, head_sector}
use Rattle.commit_log.specs.LogFaults.{IsDeviceOrMemory}
use Rattle.commit_log.specs.LogImage.{IsRecordAt, HoldsRecords, HoldsDamage, span, last_digest, next_index}
use Rattle.commit_log.specs.LogImage.{IsLogImage, IsDamaged, HasHead, IsNoLog}
use Rattle.commit_log.specs.Opening.{IsDamagedAt, IsReadFault, CanSettle, IsRefusal}
use Rattle.commit_log.specs.Reading.{ReadsImage}
use Rattle.commit_log.specs.RecordFormat.{is_gate_open, body_sectors, record_digest, first_digest, IsWriteSet}
use Rattle.commit_log.specs.RecordFormat.{payload_bytes, record_body, padded_body, sectors_in}
use Rattle.commit_log.specs.Recovery.{map_after, map_after-push}
use Rattle.commit_log.specs.declared.faults.LogFault.{LogFault}
use Rattle.commit_log.specs.declared.faults.LogFault.TheVariants.{NotALog, Damaged, OldFormat}
use Rattle.commit_log.specs.declared.formats.LogFormat.{LogFormat}
use Rattle.commit_log.specs.declared.formats.LogFormat.TheVariants.{One}

-- What has been read so far: right records of these write sets stand in front, so what holds behind them with these numbers holds of
-- the whole with theirs.
pub record HasRead (f : LogFormat) (image : List (List ℕ)) (gate : ℕ) (records : ℕ) (digest : List ℕ) (contents : KeyMap) : Type 0 where
  pub lists : List (List KeyWrite)
  pub whole : (more : List (List KeyWrite)) → HoldsRecords f more records digest (drop gate image)
      → HoldsRecords f (lists ++ more) 0 first_digest (drop 1 image)
  pub broken : (more : List (List KeyWrite)) → HoldsDamage f more records digest (drop gate image) → HoldsDamage f (lists ++ more) 0 first_digest (drop 1 image)
  pub gate_is : gate ≡ 1 + span lists
  pub records_are : records ≡ length lists
  pub digest_is : digest ≡ last_digest lists 0 first_digest
  pub map_is : contents ≡ map_after [] lists

pub nothing_read : (f : LogFormat) (image : List (List ℕ)) (contents : KeyMap) → contents ≡ [] → HasRead f image 1 0 (replicate 32 0) contents
unfolding first_digest
nothing_read f image contents empty =
    record { lists = []; whole = λ more h. h; broken = λ more h. h; gate_is = refl; records_are = refl; digest_is = refl; map_is = empty }

module _ (f : LogFormat) (image : List (List ℕ)) (gate index : ℕ) (digest : List ℕ) (contents : KeyMap) (sector : List ℕ)
    (read : HasRead f image gate index digest contents) (there : slice_get image gate ≡ Some sector) where
  pub ended : (get_or sector 0 0 ≡ 1 → ⊥) → HoldsRecords f read.lists 0 first_digest (drop 1 image)
  ended shut =
      let closed : is_gate_open sector ≡ false = grind (arith, nat_tests) in
      subst (λ (l : List (List KeyWrite)). HoldsRecords f l 0 first_digest (drop 1 image)) (append-nil read.lists)
      (read.whole [] (rw (drop_here image gate sector there) closed))

  pub damaged : get_or sector 0 0 ≡ 1 → ((w : List KeyWrite) → IsRecordAt f index digest (drop (gate + 1) image) w → ⊥) → IsDamagedAt f (drop 1 image) index
  damaged opened none =
      let is : is_gate_open sector ≡ true = grind (arith, nat_tests) in
      let holds = subst (λ (l : List (List KeyWrite)). HoldsDamage f l 0 first_digest (drop 1 image)) (append-nil read.lists)
      (read.broken [] (rw (drop_here image gate sector there) (is, none))) in
      record { lists = read.lists; count = sym read.records_are; holds = holds }

  pub more : get_or sector 0 0 ≡ 1 → (w : List KeyWrite) (sectors : ℕ) (next : List ℕ) (after : KeyMap) → IsRecordAt f index digest (drop (gate + 1) image) w
      → sectors ≡ body_sectors w → next ≡ record_digest digest index w
      → after ≡ after_writes contents w → HasRead f image (gate + (1 + sectors)) (index + 1) next after
  more opened w sectors next after right sectors_are next_is after_is =
      let is : is_gate_open sector ≡ true = grind (arith, nat_tests) in
      let index_is : index ≡ next_index read.lists 0 = omega (arith, read.records_are, next_index-is read.lists 0) in
      let end : gate + (1 + sectors) ≡ gate + 1 + body_sectors w = omega (arith, sectors_are) in
      let behind : drop (gate + (1 + sectors)) image ≡ drop (body_sectors w) (drop (gate + 1) image) =
      ap (λ (n : ℕ). drop n image) end ∙ sym (drop-drop (body_sectors w) (gate + 1) image) in
      record {
        lists = read.lists ++ w ∷ [];
        whole = λ rest h. rw (append_assoc read.lists (w ∷ []) rest)
            (read.whole (w ∷ rest) (rw (drop_here image gate sector there) (is, right.proper, right.body, (rw (next_is, behind) at h))));
        broken = λ rest h. rw (append_assoc read.lists (w ∷ []) rest)
            (read.broken (w ∷ rest) (rw (drop_here image gate sector there) (is, right.proper, right.body, (rw (next_is, behind) at h))));
        gate_is = omega (arith, read.gate_is, sectors_are, span-append read.lists (w ∷ []));
        records_are = omega (arith, read.records_are, length-append read.lists (w ∷ []));
        digest_is = grind (arith, common_steps, index_is, last_digest-push);
        map_is = after_is ∙ ap (λ (m : KeyMap). after_writes m w) read.map_is ∙ sym (map_after-push [] read.lists w);
      }

pub read_fault : (f : LogFormat) (rest : List (List ℕ)) (e : LogFault) → IsDeviceOrMemory e → IsReadFault f rest e
read_fault f rest e is = grind (arith, common_steps)

payload_unique : (f : LogFormat) (w x : List KeyWrite) → IsWriteSet f w → IsWriteSet f x → payload_bytes w ≡ payload_bytes x → w ≡ x
unfolding payload_bytes
payload_unique f w x w_is x_is same =
    let found = reading f (payload_bytes x) [] (length x) x (simp append-nil) (omega (arith, x_is.at_most)) x_is.limits w w_is same (omega arith) in
    sym (take_all (length x) w (omega (arith, found.0))) ∙ found.1

record_unique : (f : LogFormat) (index : ℕ) (before : List ℕ) (rest : List (List ℕ)) (w x : List KeyWrite) → IsRecordAt f index before rest w
    → IsRecordAt f index before rest x → w ≡ x
unfolding record_body
record_unique f index before rest w x w_at x_at =
    let first = slice_get_there rest 0 (omega (arith, w_at.room)) in
    let lengths : length (payload_bytes w) ≡ length (payload_bytes x) =
    sym (length_read f index before rest w first.0 w_at first.1) ∙ length_read f index before rest x first.0 x_at first.1 in
    let sectors : body_sectors w ≡ body_sectors x =
    body_sectors_is w (length (payload_bytes x)) (sym lengths) ∙ sym (body_sectors_is x (length (payload_bytes x)) refl) in
    let bodies : sectors_in (body_sectors x) (padded_body before index w) ≡ sectors_in (body_sectors x) (padded_body before index x) =
    sym (rw sectors at w_at.body) ∙ x_at.body in
    let same = same_bytes (body_sectors x) (padded_body before index w) (padded_body before index x) (omega (arith, length-padded_body before index w, sectors))
    (length-padded_body before index x) bodies in
    let found = same_parts f before index (length (payload_bytes x)) (padded_body before index x) (big_bytes 8 index) (record_digest before index x)
    (payload_bytes x) (zeros_of before index x) (padded_split before index x) (omega (arith, length-payload_le f x x_at.proper, value_small f))
    (length-bytes_high_first 8 index) (length-digest before index x) refl w w_at.proper same in
    payload_unique f w x w_at.proper x_at.proper found.2

some_records : (f : LogFormat) (lists : List (List KeyWrite)) (index : ℕ) (before : List ℕ) (rest : List (List ℕ)) → HoldsRecords f lists index before rest
    → 1 ≤ length rest
some_records f lists index before rest holds = grind (arith, common_steps)

some_damage : (f : LogFormat) (lists : List (List KeyWrite)) (index : ℕ) (before : List ℕ) (rest : List (List ℕ)) → HoldsDamage f lists index before rest
    → 1 ≤ length rest
some_damage f lists index before rest holds = grind (arith, common_steps)

record_at : (f : LogFormat) (index : ℕ) (before : List ℕ) (rest : List (List ℕ)) (w : List KeyWrite) → IsWriteSet f w
    → take (body_sectors w) rest ≡ record_body before index w → 1 ≤ length (drop (body_sectors w) rest) → IsRecordAt f index before rest w
record_at f index before rest w proper body some = record { proper = proper; room = omega (arith, some, length-drop (body_sectors w) rest); body = body }

records_unique : (f : LogFormat) (lists others : List (List KeyWrite)) (index : ℕ) (before : List ℕ) (rest : List (List ℕ))
    → HoldsRecords f lists index before rest → HoldsRecords f others index before rest → lists ≡ others
records_unique f (w ∷ lists) (x ∷ others) index before (g ∷ rest) one two =
    let same : x ≡ w = record_unique f index before rest x w (record_at f index before rest x two.1 two.2 (some_records f _ _ _ _ two.3))
    (record_at f index before rest w one.1 one.2 (some_records f _ _ _ _ one.3)) in
    grind (arith, records_unique f lists others (index + 1) (record_digest before index w) (drop (body_sectors w) rest) one.3)
records_unique f lists others index before rest one two = grind (arith, common_steps)

not_both : (f : LogFormat) (lists others : List (List KeyWrite)) (index : ℕ) (before : List ℕ) (rest : List (List ℕ)) → HoldsRecords f lists index before rest
    → HoldsDamage f others index before rest → ⊥
not_both f (w ∷ lists) (x ∷ others) index before (g ∷ rest) one two =
    let same : x ≡ w = record_unique f index before rest x w (record_at f index before rest x two.1 two.2 (some_damage f _ _ _ _ two.3))
    (record_at f index before rest w one.1 one.2 (some_records f _ _ _ _ one.3)) in
    not_both f lists others (index + 1) (record_digest before index w) (drop (body_sectors w) rest) one.3 (rw same at two).3
not_both f lists others index before rest one two = grind (arith, common_steps, some_records)

damage_unique : (f : LogFormat) (lists others : List (List KeyWrite)) (index : ℕ) (before : List ℕ) (rest : List (List ℕ))
    → HoldsDamage f lists index before rest → HoldsDamage f others index before rest → lists ≡ others
damage_unique f (w ∷ lists) (x ∷ others) index before (g ∷ rest) one two =
    let same : x ≡ w = record_unique f index before rest x w (record_at f index before rest x two.1 two.2 (some_damage f _ _ _ _ two.3))
    (record_at f index before rest w one.1 one.2 (some_damage f _ _ _ _ one.3)) in
    grind (arith, damage_unique f lists others (index + 1) (record_digest before index w) (drop (body_sectors w) rest) one.3)
damage_unique f lists others index before rest one two = grind (arith, common_steps, some_damage)

pub log_unique : (f : LogFormat) (lists others : List (List KeyWrite)) (image : List (List ℕ)) → IsLogImage f lists image → IsLogImage f others image
    → lists ≡ others
log_unique f lists others [] one two = absurd one
log_unique f lists others (head ∷ rest) one two = records_unique f lists others 0 first_digest rest one.1 two.1

pub log_not_damaged : (f : LogFormat) (lists others : List (List KeyWrite)) (image : List (List ℕ)) → IsLogImage f lists image → IsDamaged f others image → ⊥
log_not_damaged f lists others image one two = grind (arith, common_steps, not_both)

pub damaged_unique : (f : LogFormat) (lists others : List (List KeyWrite)) (image : List (List ℕ)) → IsDamaged f lists image → IsDamaged f others image
    → lists ≡ others
damaged_unique f lists others image one two = grind (arith, common_steps, damage_unique)

pub log_is_log : (f : LogFormat) (lists : List (List KeyWrite)) (image : List (List ℕ)) → IsLogImage f lists image → IsNoLog f image → ⊥
log_is_log f lists image one two = grind (arith, common_steps)

pub damaged_is_log : (f : LogFormat) (lists : List (List KeyWrite)) (image : List (List ℕ)) → IsDamaged f lists image → IsNoLog f image → ⊥
damaged_is_log f lists image one two = grind (arith, common_steps)

-- a device that reads as an image settles as it
pub settles_as : (size : ℕ) (may_read : ℕ → List ℕ → Type 0) (may_leave : List (List ℕ) → Type 0) (image disk : List (List ℕ))
    → CanSettle size may_read may_leave image → length disk ≡ size → ReadsImage may_read disk → image ≡ disk
settles_as size may_read may_leave image disk settles len reads =
    same_lists image disk (settles.size_is ∙ sym len) (λ k d lt.
    let s = get_or image k d in
    sym (get_or_from_slice_get disk k s d (reads k s (settles.read k s (slice_get-get_or image k d lt)))))

-- the heads differ
pub heads_apart : (f g : LogFormat) → head_sector f ≡ head_sector g → f ≡ g
unfolding head_sector
heads_apart f g same = grind (arith, common_steps)

pub one_head : (f g : LogFormat) (image : List (List ℕ)) → HasHead f image → HasHead g image → f ≡ g
one_head f g image one two = let same : Some (head_sector f) ≡ Some (head_sector g) = sym one.1 ∙ two.1 in heads_apart f g (cc same)

damage_has_head : (f : LogFormat) (lists : List (List KeyWrite)) (image : List (List ℕ)) → IsDamaged f lists image → HasHead f image
damage_has_head f lists image damaged = grind (arith, common_steps)

-- what has the head of a format is no image without it
head_is_log : (f : LogFormat) (image : List (List ℕ)) → HasHead f image → IsNoLog f image → ⊥
head_is_log f image has h = grind (arith, common_steps)

not_old : (image : List (List ℕ)) → HasHead current image → HasHead One image → ⊥
not_old image now then = absurd (cc (one_head current One image now then))

pub log_not_old : (lists : List (List KeyWrite)) (image : List (List ℕ)) → IsLogImage current lists image → HasHead One image → ⊥
log_not_old lists image holds has = not_old image (grind (arith, common_steps)) has

-- what opening answers where it refuses
abbrev pub IsRefused : List (List ℕ) → LogFault → Type 0
IsRefused image e = IsDeviceOrMemory e ⊎ IsRefusal image e

pub refused_log : (lists : List (List KeyWrite)) (image : List (List ℕ)) (e : LogFault) → IsLogImage current lists image → IsRefused image e
    → IsDeviceOrMemory e
refused_log lists image e holds refused = grind (arith, common_steps, log_is_log, log_not_damaged, log_not_old)

pub refused_damaged : (lists : List (List KeyWrite)) (image : List (List ℕ)) (e : LogFault) → IsDamaged current lists image → IsRefused image e
    → (e ≡ Damaged (length lists)) ⊎ IsDeviceOrMemory e
refused_damaged lists image e damaged refused = grind (arith, common_steps, damaged_is_log, damaged_unique, not_old, damage_has_head)

pub refused_no_log : (image : List (List ℕ)) (e : LogFault) → ((f : LogFormat) → IsNoLog f image) → IsRefused image e → (e ≡ NotALog) ⊎ IsDeviceOrMemory e
refused_no_log image e none refused = grind (arith, common_steps, damaged_is_log, head_is_log)

pub refused_old : (image : List (List ℕ)) (e : LogFault) → HasHead One image → IsRefused image e → (e ≡ OldFormat) ⊎ IsDeviceOrMemory e
refused_old image e has refused = grind (arith, common_steps, head_is_log, not_old, damage_has_head)

-- the same, where a device was settled
abbrev pub Refused : (ℕ → List ℕ → Type 0) → (List (List ℕ) → Type 0) → ℕ → LogFault → Type 0
Refused may_read may_leave size e = IsDeviceOrMemory e ⊎ ((image : List (List ℕ)) × CanSettle size may_read may_leave image × IsRefusal image e)

module _ (may_read : ℕ → List ℕ → Type 0) (may_leave : List (List ℕ) → Type 0) (size : ℕ) (e : LogFault) (refused : Refused may_read may_leave size e) where
  pub device_refused : (disk : List (List ℕ)) → length disk ≡ size → ReadsImage may_read disk → IsRefused disk e
  device_refused disk len reads = elim refused [
    | inl is_so ↦ inl is_so
    | inr found ↦ inr (subst (λ (d : List (List ℕ)). IsRefusal d e) (settles_as size may_read may_leave found.0 disk found.1 len reads) found.2)
  ]

  pub device_refused_left : ((c : List (List ℕ)) → may_leave c → (lists : List (List KeyWrite)) × IsLogImage current lists c) → IsDeviceOrMemory e
  device_refused_left all_logs = grind (arith, common_steps, refused_log)
