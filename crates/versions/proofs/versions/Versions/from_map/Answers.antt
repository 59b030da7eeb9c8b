use Rattle.versions.proofs.versions.Versions.from_map.Goals as goal
use Rattle.std.proofs.Common.{◌≡◌, length, arith, [], ◌∷◌, ◌++◌, Some, sym, ap, subst, ◌∙◌, refl}
use Rattle.std.proofs.lemmas.List.{append-nil, nil_from_length}
use Rattle.model.proofs.Entries.{IsSorted}
use Rattle.model.specs.Map.{Bytes, KeyMap}
use Rattle.sorted_pages.specs.Pages.{entries}
use Rattle.versions.proofs.Calls.{base-next, stands-opened}
use Rattle.versions.proofs.NothingLeft.{for-none}
use Rattle.versions.proofs.Listings.{listed-base}
use Rattle.versions.proofs.Stores.{kept-base}
use Rattle.versions.specs.Chains.{ChainValue, Chains, IsKept, base_chains, fresh_chain, stamped}
use Rattle.versions.specs.Listings.{IsListed, lists_in, versions_in}

-- nothing is left
all_made : (es : Chains) (m rest : KeyMap) → rest ≡ [] → es ++ base_chains rest ≡ base_chains m → es ≡ base_chains m
all_made es m rest none is = sym (ap (λ l. es ++ base_chains l) none ∙ append-nil es) ∙ is

pub invariant_of-result : goal.invariant_of-result
invariant_of-result c =
    let none : c.loop-pair.pair-iterator.rest.items ≡ [] = nil_from_length _ (sym c.loop-pair.pair-iterator.rest.ok.0 ∙ c.in-None.ensures.steps.0) in
    let is = sym (all_made (entries c.loop-pair.chains.pages) c.args.map _ none c.loop-pair.invariant.made) in (
      subst (λ (es : Chains). IsKept es 0) is (kept-base c.args.map c.into_pairs-pair-items.ensures.is_map),
      subst (λ (es : Chains). IsListed es c.new-2.result.items) is (listed-base c.args.map c.new-2.result.items),
      ap versions_in c.new-3.ensures,
      record { lists = omega (arith, ap lists_in c.new-2.ensures.items); ready = omega (arith, ap length c.new-3.ensures); fits = omega arith },
      c.loop-pair.invariant.early,
      for-none _ _ c.none.ensures,
    )

pub returns : goal.returns
returns c =
    let none : c.loop-pair.pair-iterator.rest.items ≡ [] = nil_from_length _ (sym c.loop-pair.pair-iterator.rest.ok.0 ∙ c.in-None.ensures.steps.0) in
    stands-opened _ c.args.map c.into_pairs-pair-items.ensures.is_map
    (all_made (entries c.loop-pair.chains.pages) c.args.map _ none c.loop-pair.invariant.made) refl c.new-2.ensures.items

pub push-requires-clause-sorted : goal.push-requires-clause-sorted
push-requires-clause-sorted c = subst (λ (d : ChainValue). IsSorted (entries c.loop-pair.chains.pages ++ (c.into_parts-key.result.0, d) ∷ []))
    (sym (c.new-in-loop-pair.ensures ∙ ap (λ (v : Bytes). fresh_chain (stamped 0 (Some v)) 0) c.new.ensures))
    (base-next (entries c.loop-pair.chains.pages) c.args.map c.loop-pair.pair-iterator.rest.items c.next.new.self.rest.items (
      c.into_parts-key.result.0,
      c.into_parts-key.result.1.items,
    ) c.into_pairs-pair-items.ensures.is_map
    (c.in-Some.ensures.steps.0 ∙ ap (λ (p : Bytes × Bytes). p ∷ c.next.new.self.rest.items) (sym c.into_parts-key.ensures)) c.loop-pair.invariant.made)
