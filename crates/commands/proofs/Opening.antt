-- Files that are opened one after the other.
use Rattle.std.proofs.Common.{◌≡◌, List, [], ◌∷◌, ◌++◌, zero, suc, arith, Option, None, Some, ℤ, pos, refl, sym}
use Rattle.std.proofs.Common.{subst, ap, ◌∙◌}
use Rattle.std.proofs.lemmas.List.{map-append}
use Rattle.std.proofs.lemmas.List.Elements.{All-append, All-nil}
use Rattle.std.specs.List.{All}
use Rattle.std.specs.Prelude.{◌≤ℤ◌, ◌<ℤ◌, IfSome}
use Rattle.commands.specs.Openings.{OpensAll, KeepsSoFar}

pub opens_more : {O F : Type 0} (opens : O → F → O → Type 0) (files : List F) (first now next : O) (file : F)
    → OpensAll opens first files now → opens now file next → OpensAll opens first (files ++ file ∷ []) next
opens_more opens [] first now next file same more = (next, (let P : _ → Type 0 = λ m. opens m file next in subst P (sym same) more), refl)
opens_more opens (f ∷ files) first now next file (m, o, rest) more = (m, o, opens_more opens files m now next file rest more)

pub keeps_none : {O F : Type 0} (opens : O → F → O → Type 0) (number : F → Option ℤ) (first : O) (kept : List (Option F)) → kept ≡ []
    → KeepsSoFar opens number first kept first
keeps_none opens number first kept none = ([], none, refl, All-nil _)

all_one : {F : Type 0} (P : F → Type 0) (x : F) → P x → All P (x ∷ [])
all_one P x here zero d below = here
all_one P x here (suc k) d below = absurd (omega arith)

pub keeps_more : {O F : Type 0} (opens : O → F → O → Type 0) (number : F → Option ℤ) (first now next : O) (kept after : List (Option F)) (file : F)
    → KeepsSoFar opens number first kept now → opens now file next → IfSome (number file) (λ n. n ≤ℤ pos 2) → after ≡ kept ++ Some file ∷ []
    → KeepsSoFar opens number first after next
keeps_more {O} {F} opens number first now next kept after file (files, same, opened, low) more is_low is =
    let P : F → Type 0 = λ f. IfSome (number f) (λ n. n ≤ℤ pos 2) in (
      files ++ file ∷ [],
      is ∙ ap (λ k. k ++ Some file ∷ []) same ∙ sym (map-append Some files (file ∷ [])),
      opens_more opens files first now next file opened more,
      All-append P files (file ∷ []) low (all_one P file is_low),
    )

pub is_low : (o : Option ℤ) (n : ℤ) → IfSome o (λ fd. n ≡ fd) → n ≤ℤ pos 2 → IfSome o (λ m. m ≤ℤ pos 2)
is_low None n same low = tt
is_low (Some fd) n same low = let P : ℤ → Type 0 = λ m. m ≤ℤ pos 2 in subst P same low

pub is_above : (o : Option ℤ) (n : ℤ) → IfSome o (λ fd. n ≡ fd) → pos 2 <ℤ n → IfSome o (λ m. pos 2 <ℤ m)
is_above None n same above = tt
is_above (Some fd) n same above = let P : ℤ → Type 0 = λ m. pos 2 <ℤ m in subst P same above
