-- Where nothing is left to collect, and when that is noted.
use Rattle.std.proofs.Common.{◌≡◌, ◌∙◌, ℕ, Bool, true, false, ◌&&◌, List, [], ◌≤◌, ◌+◌, length, sym, ap, subst}
use Rattle.std.proofs.Common.{refl, arith}
use Rattle.std.specs.Prelude.{Option, Some, None, IfSome, if◌then◌else◌, option_map}
use Rattle.versions.proofs.Groups.{reclaimed-unlisted}
use Rattle.versions.proofs.Stores.{rising_found, twice}
use Rattle.versions.specs.Chains.{Chains, IsKept, find_chain, reclaimed}
use Rattle.versions.specs.Groups.{GroupValue}
use Rattle.versions.specs.Listings.{IsAllReclaimed, IsListed}
use Rattle.versions.specs.Meaning.{garbage_in}
use Rattle.versions.specs.Reclaiming.{AreCollected, AreLookedAt}

-- of no numbers nothing is said
pub for-none : {X : Type 0} (o : Option X) (P : X → Type 0) → o ≡ None → IfSome o P
for-none o P none = subst (λ o. IfSome o P) (sym none) tt

-- of those that are noted it holds where they were noted
pub for-noted : {X : Type 0} (o : Option X) (P : X → Type 0) (x : X) (t few : Bool) → o ≡ (if t && few then Some x else None) → (t ≡ true → P x)
    → IfSome o P
for-noted o P x true true is h = subst (λ o. IfSome o P) (sym is) (h refl)
for-noted o P x true false is h = for-none o P is
for-noted o P x false few is h = for-none o P is

-- where no group stands, nothing is left
pub collected-unlisted : (bs : List ℕ) (es : Chains) (gs : List GroupValue) → gs ≡ [] → IsListed es gs → AreCollected bs es gs
collected-unlisted bs es gs none listed = subst (AreCollected bs es) (sym none) (record {
  none = refl;
  reclaimed = reclaimed-unlisted bs es gs none listed;
  few = omega arith;
  active = tt;
  truly = tt;
  unclassified = tt;
})

-- nor is it after a step that left no garbage
pub collected-after : (bs : List ℕ) (last : ℕ) (old new : Chains) (gs hs : List GroupValue) → IsKept old last → IsAllReclaimed bs old new
    → AreLookedAt bs new gs hs → garbage_in bs hs ≡ 0 → length hs ≤ length bs + 1 → AreCollected bs new hs
collected-after bs last old new gs hs kept all looked none few = record {
  none = none;
  reclaimed = λ k. all k ∙ sym (twice bs last (find_chain k old) (rising_found k old last kept)) ∙ ap (option_map (reclaimed bs)) (sym (all k));
  few = few;
  active = looked.active;
  truly = looked.truly;
  unclassified = looked.unclassified;
}
