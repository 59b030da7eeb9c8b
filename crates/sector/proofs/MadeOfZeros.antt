-- Under the premise on files a file that was made of zeros holds zeros, and a crash leaves them.
use Rattle.std.proofs.Common.{◌≡◌, ℕ, suc, ◌+◌, ◌-◌, ◌*◌, ◌<◌, true, List, ◌∷◌, length, Some, take, replicate}
use Rattle.std.proofs.Common.{slice_get, refl, sym, ap, subst, ◌∙◌, arith}
use Rattle.std.proofs.lemmas.Grind.{common_steps}
use Rattle.std.proofs.lemmas.List.{take-replicate, drop-replicate, length-replicate}
use Rattle.std.proofs.lemmas.Option.{slice_get_within}
use Rattle.file_calls.specs.OpenFacts.{may_read, may_leave, file_after_call}
use Rattle.file_calls.specs.declared.counted.CountedFile.{CountedFile}
use Rattle.sector.specs.FileModel.{FileKeepsModel}
use Rattle.sector.specs.FileOpening.{WasMadeOfZeros}
use Rattle.sector.specs.SectorModel.{IsSettled, sector_in}

all_same : (image : List (List ℕ)) (n : ℕ) (s : List ℕ) → length image ≡ n → ((i : ℕ) (x : List ℕ) → slice_get image i ≡ Some x → x ≡ s) → image ≡ replicate n s
all_same (x ∷ image) (suc n) s size each =
    let here : x ≡ s = each 0 x refl in
    let rest : image ≡ replicate n s = all_same image n s (omega arith) (λ i y found. each (suc i) y found) in
    cc
all_same image n s size each = grind (arith, common_steps)

zeros_in : (count k : ℕ) → k < count → sector_in (replicate (count * 512) 0) k ≡ replicate 512 0
zeros_in count k lt = ap (λ (l : List ℕ). take 512 l) (drop-replicate (512 * k) (count * 512) 0) ∙ take-replicate 512 (count * 512 - 512 * k) 0 (omega arith)

pub made_of_zeros : (path : List ℕ) (count : ℕ) (now : CountedFile) → FileKeepsModel → WasMadeOfZeros path count now
    → IsSettled count (may_read now) (may_leave now) (replicate count (replicate 512 0))
made_of_zeros path count now keeps made =
    let first : CountedFile = made.first in
    let write = keeps.writes first 0 (replicate (count * 512) 0) true made.zeros in
    let settles = (keeps.syncs (file_after_call first) true made.settled).settles refl in
    let size : length settles.image ≡ count = settles.settled.size_is ∙ made.size in
    let long = length-replicate {A = ℕ} (count * 512) 0 in
    let is : settles.image ≡ replicate count (replicate 512 0) = all_same settles.image count (replicate 512 0) size (λ i x found.
    let lt : i < count = omega (arith, slice_get_within settles.image i x found, size) in
    let place : i ≡ 0 + i = omega arith in
    write.written refl i x (omega (arith, long, lt)) (subst (λ (j : ℕ). may_read (file_after_call first) j x) place (settles.was_read i x found))
    ∙ zeros_in count i lt) in
    subst (λ (f : CountedFile). IsSettled count (may_read f) (may_leave f) (replicate count (replicate 512 0))) (sym made.now_is)
    (subst (λ (l : List (List ℕ)). IsSettled count (may_read (file_after_call (file_after_call first)))
    (may_leave (file_after_call (file_after_call first))) l) is
    (subst (λ (n : ℕ). IsSettled n (may_read (file_after_call (file_after_call first)))
    (may_leave (file_after_call (file_after_call first))) settles.image) made.size settles.settled))
