-- Which files are kept for the descriptors of the standard streams.
use Rattle.std.specs.List.{All}
use Rattle.std.specs.Prelude.{◌≡◌, ℤ, pos, ◌≤ℤ◌, ◌<ℤ◌, List, [], ◌∷◌, Option, Some, IfSome, map}

-- these files were opened one after the other
abbrev pub OpensAll : {O F : Type 0} → (O → F → O → Type 0) → O → List F → O → Type 0
OpensAll opens first [] last = first ≡ last
OpensAll {O} opens first (file ∷ files) last = (next : O) × opens first file next × OpensAll opens next files last

-- these files were kept until now: they were opened one after the other, and none is above the standard streams
abbrev pub KeepsSoFar : {O F : Type 0} → (O → F → O → Type 0) → (F → Option ℤ) → O → List (Option F) → O → Type 0
KeepsSoFar {O} {F} opens number first kept now =
    (files : List F) × (kept ≡ map Some files) × OpensAll opens first files now
    × All (λ file. IfSome (number file) (λ n. n ≤ℤ pos 2)) files

-- so were these, until the file that was opened after them was above
abbrev pub KeepsLow : {O F : Type 0} → (O → F → O → Type 0) → (F → Option ℤ) → O → List (Option F) → O → Type 0
KeepsLow {O} {F} opens number first kept last =
    (now : O) × (above : F) × KeepsSoFar opens number first kept now × opens now above last
    × IfSome (number above) (λ n. pos 2 <ℤ n)
