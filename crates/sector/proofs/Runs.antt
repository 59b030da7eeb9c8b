-- How calls of single sectors go on to a call of several.
use Rattle.std.proofs.Common.{◌≡◌, ◌≢◌, inl, inr, ℕ, ◌<◌, ◌≤◌, ◌+◌, ◌-◌, ◌*◌, List, length, take, drop, sym, ◌∙◌, ap}
use Rattle.std.proofs.Common.{subst, arith, length-set}
use Rattle.std.proofs.lemmas.Bool.{cases_lt}
use Rattle.std.proofs.lemmas.Grind.{common_steps}
use Rattle.std.proofs.lemmas.List.{take-set-le, drop-set-lt}
use Rattle.std.proofs.lemmas.Slice.{between_is, take-put_mid_below, between-put_mid}
use borrow.Rule.Slice.PartMut.{put_mid}
use Rattle.sector.specs.SectorModel.{Elapses, FollowsWrite, FollowsWrites, sector_in}

-- time goes on, and after the second run a crash leaves nothing that one after the first might not
pub elapses_on : (begun middle now : ℕ) (since_begun since_middle since_now : ℕ → List (List ℕ) → Type 0) (P Q : List (List ℕ) → Type 0)
    → Elapses begun middle since_begun since_middle P → Elapses middle now since_middle since_now Q → ((c : List (List ℕ)) → Q c → P c)
    → Elapses begun now since_begun since_now P
elapses_on begun middle now since_begun since_middle since_now P Q first second within = grind (arith, common_steps)

-- one write more within these n sectors
pub writes_on : (at n i : ℕ) (base old new : List (List ℕ) → Type 0) → at ≤ i → i < at + n → ((c : List (List ℕ)) → old c → FollowsWrites at n base c)
    → FollowsWrite i old new → (c : List (List ℕ)) → new c → FollowsWrites at n base c
writes_on at n i base old new le lt so_far follows c left = grind (arith, common_steps, length-set, take-set-le, drop-set-lt)

-- one sector more reads as what was written
pub written_more : (at k : ℕ) (old_read new_read : ℕ → List ℕ → Type 0) (want : ℕ → List ℕ) → ((j : ℕ) (s : List ℕ) → j < k → old_read (at + j) s → s ≡ want j)
    → ((i : ℕ) (s : List ℕ) → i ≢ at + k → new_read i s → old_read i s) → ((s : List ℕ) → new_read (at + k) s → s ≡ want k) → (j : ℕ) (s : List ℕ) → j < k + 1
    → new_read (at + j) s → s ≡ want j
written_more at k old_read new_read want so_far others here j s lt read = grind (arith, common_steps, cases_lt)

-- the bytes of one sector more
pub read_more : (may_read : ℕ → List ℕ → Type 0) (at k m : ℕ) (bytes sector : List ℕ) → m ≡ 512 → length sector ≡ 512 → 512 * k + 512 ≤ length bytes
    → ((j : ℕ) → j < k → may_read (at + j) (sector_in bytes j)) → may_read (at + k) sector → (j : ℕ) → j < k + 1
    → may_read (at + j) (sector_in (put_mid (512 * k) m bytes sector) j)
read_more may_read at k m bytes sector m_is long fits so_far here j lt = elim (cases_lt j k) [
  | inl below ↦
      let e : (512 * j + 512) - 512 * j ≡ 512 = omega arith in
      let front : sector_in (put_mid (512 * k) m bytes sector) j ≡ sector_in bytes j =
      ap (λ (n : ℕ). take n (drop (512 * j) (put_mid (512 * k) m bytes sector))) (sym e)
      ∙ between_is (put_mid (512 * k) m bytes sector) (512 * j) (512 * j + 512)
      ∙ ap (λ (l : List ℕ). drop (512 * j) l) (take-put_mid_below (512 * k) m bytes sector (512 * j + 512) (omega arith) (omega arith))
      ∙ sym (between_is bytes (512 * j) (512 * j + 512)) ∙ ap (λ (n : ℕ). take n (drop (512 * j) bytes)) e in
      subst (λ (s : List ℕ). may_read (at + j) s) (sym front) (so_far j below)
  | inr same ↦
      let is : j ≡ k = omega arith in
      let e : (512 * k + 512) - 512 * k ≡ 512 = omega arith in
      let back : sector_in (put_mid (512 * k) m bytes sector) k ≡ sector =
      ap (λ (n : ℕ). take n (drop (512 * k) (put_mid (512 * k) m bytes sector))) (sym e)
      ∙ between-put_mid (512 * k) m bytes sector (512 * k + 512) (omega arith) (omega arith) in
      subst (λ (i : ℕ). may_read (at + i) (sector_in (put_mid (512 * k) m bytes sector) i)) (sym is)
      (subst (λ (s : List ℕ). may_read (at + k) s) (sym back) here)
]
