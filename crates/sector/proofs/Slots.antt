-- What writes and syncs change in the slots of a device in memory.
use Rattle.std.proofs.Common.{◌≡◌, ℕ, zero, suc, ◌+◌, ◌<◌, replicate, All, List, [], ◌∷◌, ◌++◌, length, map, set}
use Rattle.std.proofs.Common.{get_or, slice_get, take, drop, None, Some, refl, sym, ◌∙◌, ap, arith, append_assoc}
use Rattle.std.proofs.Common.{take-append-drop}
use Rattle.std.proofs.Math.Seq.{map-set_same}
use Rattle.std.proofs.lemmas.Grind.{common_steps}
use Rattle.std.proofs.lemmas.List.{append-nil, replicate-append-replicate, map-set}
use Rattle.std.specs.List.{concat}
use Rattle.sector.specs.SectorModel.{Settles, FollowsWrite}
use Rattle.sector.specs.Settled.{AreSettledBefore, AreSettledFrom}
use Rattle.sector.specs.Slots.{written, settled_slot, MayLeave, IsLeft, IsSettledSlot, settled_content, is_settled}
use Rattle.sector.specs.declared.memory.Slot.{Slot}

pub written-settled : (slots : List Slot) → written (map settled_slot slots) ≡ written slots
written-settled [] = refl
written-settled (slot ∷ slots) = ap (λ (l : List (List ℕ)). slot.written ∷ l) (written-settled slots)

pub unsettled : (slots : List Slot) (at : ℕ) (slot : Slot) → FollowsWrite at (MayLeave slots) (MayLeave (set slots at slot))
unsettled [] at slot [] left = ([], left, ([], refl))
unsettled [] at slot (s ∷ c) left = absurd left
unsettled (x ∷ slots) zero slot [] left = absurd left
unsettled (x ∷ slots) zero slot (s ∷ c) left = (x.written ∷ c, (λ _. refl, left.1), (s, refl))
unsettled (x ∷ slots) (suc at) slot [] left = absurd left
unsettled (x ∷ slots) (suc at) slot (s ∷ c) left =
    let rest = unsettled slots at slot c left.1 in
    (s ∷ rest.0, (left.0, rest.1), (rest.2.0, ap (λ (l : List (List ℕ)). s ∷ l) rest.2.1))

-- what was written is a possible outcome
pub was_left : (slots : List Slot) → MayLeave slots (written slots)
was_left [] = tt
was_left (slot ∷ slots) = (λ _. refl, was_left slots)

-- and after a sync the only one
pub only_written : (slots : List Slot) (c : List (List ℕ)) → MayLeave (map settled_slot slots) c → c ≡ written slots
only_written [] [] left = refl
only_written [] (s ∷ c) left = absurd left
only_written (slot ∷ slots) [] left = absurd left
only_written (slot ∷ slots) (s ∷ c) left = grind (arith, common_steps, only_written slots c left.1)

pub length-written : (slots : List Slot) → length (written slots) ≡ length slots
length-written slots = grind (arith, common_steps)

-- a sync of these slots
pub settles : (old new : List Slot) → new ≡ map settled_slot old
    → Settles (length new) (λ i s. slice_get (written old) i ≡ Some s) (λ i s. slice_get (written new) i ≡ Some s) (MayLeave old) (MayLeave new)
settles old new is = record {
  image = written new;
  settled = record {
    size_is = length-written new;
    read = λ i s found. found;
    left = λ c left. only_written old c (rw is at left) ∙ sym same;
  };
  was_read = λ i s found. rw same at found;
  was_left = rw same (was_left old);
}
  where
    same : written new ≡ written old
    same = ap written is ∙ written-settled old

-- leaves no more than before
pub fewer : (old : List Slot) (c : List (List ℕ)) → MayLeave (map settled_slot old) c → MayLeave old c
fewer old c left = grind (arith, common_steps, only_written, was_left)

-- a crash makes of each sector what it may
pub crashed : (old new : List Slot) → length new ≡ length old → ((k : ℕ) (d : Slot) → k < length old → IsLeft (get_or old k d) (get_or new k d))
    → MayLeave old (written new)
crashed (x ∷ old) (y ∷ new) same each =
    ((each 0 x (omega arith)).1, crashed old new (omega arith) (λ k d lt. each (suc k) d (omega arith)))
crashed old new same each = grind (arith, common_steps)

pub written-push : (slots : List Slot) (slot : Slot) → written (slots ++ slot ∷ []) ≡ written slots ++ slot.written ∷ []
written-push slots slot = grind (arith, common_steps)

pub concat-push : (xss : List (List ℕ)) (xs rest : List ℕ) → concat (xss ++ xs ∷ []) ++ rest ≡ concat xss ++ (xs ++ rest)
concat-push [] xs rest = rw append-nil
concat-push (x ∷ xss) xs rest = grind (arith, common_steps, append_assoc, concat-push xss xs rest)

pub taken_in : (slots : List Slot) (slot : Slot) (rest image : List ℕ) → slot.written ≡ take 512 rest → concat (written slots) ++ rest ≡ image
    → concat (written (slots ++ slot ∷ [])) ++ drop 512 rest ≡ image
taken_in slots slot rest image is so_far =
    ap (λ (l : List (List ℕ)). concat l ++ drop 512 rest) (written-push slots slot)
    ∙ concat-push (written slots) slot.written (drop 512 rest)
    ∙ ap (λ (l : List ℕ). concat (written slots) ++ (l ++ drop 512 rest)) is
    ∙ ap (λ (l : List ℕ). concat (written slots) ++ l) (take-append-drop 512 rest)
    ∙ so_far

pub all_settled-push : (slots : List Slot) (slot : Slot) → All IsSettledSlot slots → slot.settled ≡ None → All IsSettledSlot (slots ++ slot ∷ [])
all_settled-push slots slot settled is = grind (arith, common_steps)

pub blank-push : (slots : List Slot) (slot : Slot) (n : ℕ) → written slots ≡ replicate n (replicate 512 0) → slot.written ≡ replicate 512 0
    → written (slots ++ slot ∷ []) ≡ replicate (n + 1) (replicate 512 0)
blank-push slots slot n so_far is = grind (arith, common_steps, written-push, replicate-append-replicate)

pub all_settled : (slots : List Slot) → All IsSettledSlot (map settled_slot slots)
all_settled (slot ∷ slots) (suc k) d lt = all_settled slots k d (omega (arith, lt))
all_settled slots k d lt = grind (arith, common_steps)

-- what a write leaves
pub content_after : (old slots : List Slot) (at : ℕ) (slot : Slot) → slots ≡ old → written (set slots at slot) ≡ set (written old) at slot.written
content_after old slots at slot same = map-set (λ (s : Slot). s.written) slots at slot ∙ ap (λ (l : List Slot). set (written l) at slot.written) same

pub settled_after : (old slots : List Slot) (at : ℕ) (slot d : Slot) → slots ≡ old → settled_content slot ≡ settled_content (get_or slots at d)
    → map settled_content (set slots at slot) ≡ map settled_content old
settled_after old slots at slot d same is = map-set_same settled_content slots at slot d is ∙ ap (λ (l : List Slot). map settled_content l) same

pub which_after : (old slots : List Slot) (at : ℕ) (slot : Slot) → slots ≡ old
    → map is_settled (set slots at slot) ≡ set (map is_settled old) at (is_settled slot)
which_after old slots at slot same = map-set is_settled slots at slot ∙ ap (λ (l : List Slot). set (map is_settled l) at (is_settled slot)) same

-- ---- slots of which those outside a span are settled

settled-same : (slot : Slot) → slot.settled ≡ None → settled_slot slot ≡ slot
settled-same slot e = λ i. record slot { settled = sym e i }

pub settled-front : (n : ℕ) (slots : List Slot) → AreSettledBefore n slots → map settled_slot (take n slots) ++ drop n slots ≡ slots
settled-front (suc n) (slot ∷ slots) h =
    let rest = settled-front n slots (λ k d lt before. h (suc k) d (omega arith) (omega arith)) in
    let here = settled-same slot (h 0 slot (omega arith) (omega arith)) in
    λ i. here i ∷ rest i
settled-front n slots h = refl

settled-all : (slots : List Slot) → AreSettledFrom 0 slots → slots ≡ map settled_slot slots
settled-all [] h = refl
settled-all (slot ∷ slots) h =
    let rest = settled-all slots (λ k d lt from. h (suc k) d (omega arith) (omega arith)) in
    let here = settled-same slot (h 0 slot (omega arith) (omega arith)) in
    λ i. sym here i ∷ rest i

pub settled-back : (n : ℕ) (slots : List Slot) → AreSettledFrom n slots → map settled_slot (take n slots) ++ drop n slots ≡ map settled_slot slots
settled-back (suc n) (slot ∷ slots) h =
    let rest = settled-back n slots (λ k d lt from. h (suc k) d (omega arith) (omega arith)) in
    ap (λ (l : List Slot). settled_slot slot ∷ l) rest
settled-back n slots h = grind (arith, common_steps, settled-all)
