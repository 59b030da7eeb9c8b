use Rattle.versions.proofs.versions.Versions.install.Goals as goal
use Rattle.std.proofs.Common.{ℕ, ◌≡◌, List, [], ◌∷◌, ◌++◌, length, sym, subst, ap, ◌∙◌, refl, arith}
use Rattle.std.proofs.lemmas.List.{length-set}
use Rattle.model.specs.Map.{KeyWrite, Bytes}
use Rattle.sorted_pages.specs.Pages.{entries}
use Rattle.versions.proofs.NothingLeft.{for-none}
use Rattle.versions.proofs.Histories.{stands-installed}
use Rattle.versions.proofs.Listings.{groups-found, found-last}
use Rattle.versions.proofs.Lists.{in-first, in-filled, spare-first}
use Rattle.versions.proofs.UnderPins.{groups-installed}
use Rattle.versions.proofs.Pins.{lists-push}
use Rattle.versions.specs.Chains.{ChainsValue, find_chain}
use Rattle.versions.specs.Groups.{GroupValue}
use Rattle.versions.specs.Installing.{HaveRoom}
use Rattle.versions.specs.Listings.{IsListed, lists_in, spare_in, unpinned, versions_in}
use Rattle.versions.specs.Meaning.{AreInstalled, IsInstalled}
use Rattle.versions.specs.Pins.{IsAddedTo}

whole : (old inside new : ChainsValue) (n : ℕ) (ws : List KeyWrite) → inside ≡ old → AreInstalled inside.chains new.chains n ws → new.last ≡ n
    → new.held ≡ inside.held → IsInstalled old new n ws
whole old inside new n ws same h last held =
    subst (λ (v : ChainsValue). IsInstalled v new n ws) same (record { maps = h.maps; newest = h.newest; kept = h.kept; last = last; held = held })

pub add_all-requires-clause-kept : goal.add_all-requires-clause-kept
add_all-requires-clause-kept c =
    let above = ap (λ (v : ChainsValue). v.last) c.self.view_is in
    record {
      last = c.self.inside.last;
      below = omega (arith, above, c.requires.above);
      kept = c.self.invariant.0;
      late = omega (arith, above, c.requires.above, c.self.invariant.4);
    }

pub add_all-requires-clause-room : goal.add_all-requires-clause-room
add_all-requires-clause-room c =
    subst (λ (v : ChainsValue). HaveRoom v.pages v.chains c.args.writes.items) (sym c.self.view_is)
    (record { rooms = c.requires.prepared.chains; places = c.requires.prepared.places })

pub add_all-requires-clause-listed : goal.add_all-requires-clause-listed
add_all-requires-clause-listed c = record {
  none = in-first c.replace-listed.result c.in-Some.list.now (ap versions_in c.replace-listed.ensures.value
      ∙ c.self.invariant.2) (c.in-Some.ensures.variant.0 refl) c.in-Some.ensures.value;
  places = omega (
    arith,
    c.requires.prepared.listed,
    ap (λ (v : ChainsValue). v.listed_spare) c.self.view_is,
    ap spare_in c.replace-listed.ensures.value,
    spare-first c.replace-listed.result c.in-Some.list.now (c.in-Some.ensures.variant.0 refl) c.in-Some.ensures.value,
  );
}

pub invariant_of-self : goal.invariant_of-self
invariant_of-self c =
    let gs = c.self.inside.groups.items in
    let ls = c.add_all.new.listed.items in
    let filled = in-filled c.replace-listed.result c.add_all.new.listed (ap versions_in c.replace-listed.ensures.value
    ∙ c.self.invariant.2) (c.in-Some.ensures.variant.0 refl) in (
      c.add_all.ensures.chains.kept,
      subst (λ (l : List GroupValue). IsListed (entries c.add_all.new.chains.pages) l) (sym c.in-Ok.ensures.items)
          (groups-found (entries c.add_all.new.chains.pages) (unpinned ls ∷ gs) (gs ++ c.new-2.result
          ∷ []) (found-last gs ls c.new-2.result (c.new-2.ensures.versions ∙ filled)) (c.add_all.ensures.listed.listed gs c.self.invariant.1)),
      ap versions_in (c.replace-listed.ensures.after ∙ c.new.ensures),
      record {
        lists = omega (
          arith,
          ap lists_in c.in-Ok.ensures.items,
          lists-push gs c.new-2.result,
          c.self.invariant.3.lists,
          c.requires.above,
          ap (λ (v : ChainsValue). v.last) c.self.view_is,
          c.new-2.ensures.lists,
          length-set c.replace-listed.result 0 c.add_all.new.listed,
          ap length c.replace-listed.ensures.value,
          c.self.invariant.3.ready,
        );
        ready = omega (arith, ap length (c.replace-listed.ensures.after ∙ c.new.ensures));
        fits = c.requires.fits;
      },
      c.add_all.ensures.held.last,
      for-none _ _ c.clear.ensures,
    )

pub returns-clause-installed : goal.returns-clause-installed
returns-clause-installed c = whole c.args.self.now _ _ c.args.n c.args.writes.items c.self.view_is c.add_all.ensures.chains.installed refl
    c.add_all.ensures.held.held

pub returns-clause-stands : goal.returns-clause-stands
returns-clause-stands c = λ active base history r s held long commit is.
    let filled = in-filled c.replace-listed.result c.add_all.new.listed (ap versions_in c.replace-listed.ensures.value
    ∙ c.self.invariant.2) (c.in-Some.ensures.variant.0 refl) in
    stands-installed c.args.self.now active base history _ c.args.n c.args.writes.items r (returns-clause-installed c)
    (groups-installed active c.args.self.now _ c.args.n c.new-2.result c.add_all.new.listed.items c.requires.above refl
    (subst (λ (v : ChainsValue). (k : Bytes)
    → IsAddedTo c.args.n (find_chain k v.chains) (find_chain k (entries c.add_all.new.chains.pages))) c.self.view_is c.add_all.ensures.chains.added)
    (c.in-Ok.ensures.items ∙ ap (λ (v : ChainsValue). v.groups ++ c.new-2.result ∷ []) c.self.view_is) c.new-2.ensures.pin c.new-2.ensures.unclassified
    (c.new-2.ensures.versions ∙ filled) c.add_all.ensures.listed.followed)
    c.requires.above long commit is held s
