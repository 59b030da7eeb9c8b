-- From which number on nothing is seen.
use Rattle.std.proofs.Common.{◌≡◌, ◌<◌, ◌⊎◌, ℕ, List, [], ◌∷◌, ◌++◌, None, false, ap, arith, inl, inr}
use Rattle.std.proofs.lemmas.Bool.Decides.{nat_tests}
use Rattle.versions.proofs.ChainLaws.{last_at-push}
use Rattle.versions.specs.Chains.{ChainValue, HidesFrom, Stamped, last_at, longer_chain, seen, shows, value_of}

-- A number below the newest sees nothing, or it is below `from`, and what it sees is among the versions that are left.
abbrev pub HidesDownTo : ℕ → List Stamped → ChainValue → Type 0
HidesDownTo from rest c = (n : ℕ) → n < c.newest.number
    → (value_of (last_at n None c.older) ≡ None) ⊎ ((n < from) × (last_at n None c.older ≡ last_at n None rest))

-- a deletion more was passed by
pub hides_deletion : (from : ℕ) (vs us : List Stamped) (v : Stamped) (number : ℕ) (c : ChainValue) → vs ≡ us ++ v ∷ [] → number ≡ v.number
    → v.value ≡ None → HidesDownTo from vs c → HidesDownTo number us c
hides_deletion from vs us v number c is same none hides n lt = elim (hides n lt) [
  | inl hidden ↦ inl hidden
  | inr below ↦ grind (arith, nat_tests, ap (last_at n None) is, last_at-push n None us v)
]

-- a version more after a deletion
pub hides_longer : (from old : ℕ) (c d new : ChainValue) (v : Stamped) → new ≡ longer_chain d v new.room → d ≡ c → from ≡ old → shows c ≡ false
    → HidesFrom old c → HidesFrom from new
hides_longer from old c d new v is same still deletion hides n le lt =
    let longer = ap (seen n) is in
    grind (arith, nat_tests, same, deletion, last_at-push n None c.older c.newest, hides n (omega (arith, le, still)))

-- and after a value
pub hides_nothing : (from : ℕ) (d new : ChainValue) (v : Stamped) → new ≡ longer_chain d v new.room → from ≡ v.number → HidesFrom from new
hides_nothing from d new v is same n le lt = absurd (omega (arith, ap (λ (e : ChainValue). e.newest.number) is, same, le, lt))
