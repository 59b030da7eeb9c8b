-- Chains in pages, from step to step of a reclaim.
use Rattle.std.proofs.Common.{◌≡◌, ℕ, ◌<◌, ◌≤◌, true, ◌||◌, List, refl, sym, ap, subst, ◌∙◌, arith}
use Rattle.std.proofs.lemmas.Bool.Decides.{nat_tests}
use Rattle.std.specs.Prelude.{nat_le}
use Rattle.sorted_pages.specs.Pages.{KeepsHeld, PagesValue, entries}
use Rattle.sorted_pages.specs.Summaries.{HoldsAmong, HoldsKnown, is_known}
use Rattle.versions.proofs.Listings.{part-trans}
use Rattle.versions.specs.Chains.{ChainValue}
use Rattle.versions.specs.Meaning.{is_among}
use Rattle.versions.specs.Reclaiming.{IsReclaimable, ReclaimsPages}

pub held-itself : (v : PagesValue ChainValue) → KeepsHeld v v
held-itself v = record { held = refl; last = refl }

pub held-on : (v u w : PagesValue ChainValue) → KeepsHeld v u → KeepsHeld u w → KeepsHeld v w
held-on v u w g h = record { held = h.held ∙ g.held; last = h.last ∙ g.last }

-- where the same numbers are held, they are among those that were taken in
pub among-on : (bs : List ℕ) (v u : PagesValue ChainValue) → KeepsHeld v u → HoldsAmong bs v → HoldsAmong bs u
among-on bs v u k h = λ n t lt. h n (ap (λ l. is_among l n) (sym k.held) ∙ t) (subst (λ l. n < l) k.last lt)

-- what is known from a later number on is known
pub known-later : (n last : ℕ) (v : PagesValue ChainValue) → v.last ≤ last → (is_among v.held n || nat_le last n) ≡ true → is_known n v ≡ true
known-later n last v le t = grind (arith, nat_tests)

-- a number that is taken in is held, where what it sees was known
pub held-known : (bs : List ℕ) (v u : PagesValue ChainValue) (n last : ℕ) → HoldsKnown bs v u → v.last ≤ last → is_among bs n ≡ true
    → (is_among v.held n || nat_le last n) ≡ true → is_among u.held n ≡ true
held-known bs v u n last h le t k = h n t (known-later n last v le k)

pub reclaimable-on : (bs : List ℕ) (v u : PagesValue ChainValue) → ReclaimsPages bs v u → IsReclaimable bs v → IsReclaimable bs u
reclaimable-on bs v u r h = record { last = h.last; kept = r.chains.kept h.last h.kept; among = among-on bs v u r.held h.among }

pub reclaims-on : (bs : List ℕ) (v u w : PagesValue ChainValue) → IsReclaimable bs v → ReclaimsPages bs v u → ReclaimsPages bs u w → ReclaimsPages bs v w
reclaims-on bs v u w h one two = record {
  chains = record {
    part = part-trans bs (entries v.pages) (entries u.pages) (entries w.pages) h.last h.kept one.chains.part two.chains.part;
    kept = λ last k. two.chains.kept last (one.chains.kept last k);
  };
  held = held-on v u w one.held two.held;
}
