-- A call of several sectors, where there is one.
use Rattle.std.proofs.Common.{◌≡◌, ℕ, zero, suc, ◌+◌, List, [], ◌∷◌, length, take, drop, set, refl, ap, arith}
use Rattle.std.proofs.lemmas.Grind.{common_steps}
use Rattle.std.proofs.lemmas.List.{take_all}
use Rattle.sector.specs.SectorModel.{FollowsWrite, FollowsWrites, sector_in}

pub sole_sector : (bytes : List ℕ) → length bytes ≡ 512 → sector_in bytes 0 ≡ bytes
sole_sector bytes long = take_all 512 bytes (omega arith)

differs_once : (at : ℕ) (d c : List (List ℕ)) → length c ≡ length d → take at c ≡ take at d → drop (suc at) c ≡ drop (suc at) d
    → (s : List ℕ) × (c ≡ set d at s)
differs_once at [] [] size before behind = ([], refl)
differs_once at [] (y ∷ c) size before behind = absurd (omega arith)
differs_once at (x ∷ d) [] size before behind = absurd (omega arith)
differs_once zero (x ∷ d) (y ∷ c) size before behind = (y, ap (λ (l : List (List ℕ)). y ∷ l) behind)
differs_once (suc at) (x ∷ d) (y ∷ c) size before behind = grind (arith, common_steps, differs_once at d c (omega arith))

pub one_write : (at n : ℕ) (old new : List (List ℕ) → Type 0) → n ≡ 1 → ((c : List (List ℕ)) → new c → FollowsWrites at n old c) → FollowsWrite at old new
one_write at n old new one follows c left =
    let was = follows c left in
    let next : at + n ≡ suc at = omega arith in
    (was.0, was.1, differs_once at was.0 c was.2.size was.2.before (rw next at was.2.behind))
