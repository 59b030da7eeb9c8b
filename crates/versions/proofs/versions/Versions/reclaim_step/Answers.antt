use Rattle.versions.proofs.versions.Versions.reclaim_step.Goals as goal
use Rattle.std.proofs.Common.{ℕ, Bool, true, List, ◌≡◌, ◌-◌, ◌&&◌, subst, sym, ap, ◌∙◌, refl, arith, inl}
use Rattle.std.proofs.lemmas.Bool.Decides.{nat_tests}
use Rattle.std.specs.Prelude.{nat_lt, not, option_map}
use Rattle.model.specs.Map.{Bytes}
use Rattle.sorted_pages.specs.Pages.{Page, PagesValue, entries}
use Rattle.versions.proofs.NothingLeft.{collected-after, for-noted}
use Rattle.versions.proofs.Histories.{stands-itself, stands-reclaimed}
use Rattle.versions.proofs.Pages.{held-known}
use Rattle.versions.proofs.Stores.{reclaimed-part}
use Rattle.versions.proofs.UnderPins.{groups-classified, under-reclaimed}
use Rattle.versions.specs.Chains.{ChainValue, Chains, IsKept, find_chain, reclaimed, ChainsValue}
use Rattle.versions.specs.Groups.{GroupValue}
use Rattle.versions.specs.Listings.{IsAllReclaimed, IsPartReclaimed}
use Rattle.versions.specs.Meaning.{garbage_of, lists_a_step, IsReclaimedInPart, is_among, is_known}
use Rattle.versions.specs.Pins.{AreUnderPins, MoveUnderPins}
use Rattle.versions.specs.Reclaiming.{AreCollected, ReclaimsChains, ReclaimsPages}

whole : (old inside new : ChainsValue) (bs : List ℕ) → inside ≡ old → IsKept inside.chains inside.last → IsKept new.chains new.last → new.last ≡ inside.last
    → garbage_of bs new ≡ garbage_of bs inside - lists_a_step → IsPartReclaimed bs inside.chains new.chains
    → (garbage_of bs new ≡ 0 → (k : Bytes) → find_chain k new.chains ≡ option_map (reclaimed bs) (find_chain k inside.chains)) → IsReclaimedInPart old new bs
whole old inside new bs same kept kept' last garbage part all =
    subst (λ (v : ChainsValue). IsReclaimedInPart v new bs) same (reclaimed-part inside new bs kept kept' last garbage part all)

-- what was done to the chains, as they were before the numbers were taken in
since : (bs : List ℕ) (old mid new : PagesValue ChainValue) → mid.pages ≡ old.pages → ReclaimsPages bs mid new
    → ReclaimsChains bs (entries old.pages) (entries new.pages)
since bs old mid new same h = subst (λ (ps : List (Page ChainValue)). ReclaimsChains bs (entries ps) (entries new.pages)) same h.chains

all_since : (bs : List ℕ) (old mid new : PagesValue ChainValue) → mid.pages ≡ old.pages → IsAllReclaimed bs (entries mid.pages) (entries new.pages)
    → IsAllReclaimed bs (entries old.pages) (entries new.pages)
all_since bs old mid new same h = subst (λ (ps : List (Page ChainValue)). IsAllReclaimed bs (entries ps) (entries new.pages)) same h

-- what the groups list stands under pins that are among the numbers
pinned_since : (bs : List ℕ) (active : ℕ → Bool) (v old : ChainsValue) (new : Chains) (hs : List GroupValue) → v ≡ old → IsPartReclaimed bs v.chains new
    → MoveUnderPins bs v.groups hs → AreUnderPins active old old.groups
    → AreUnderPins (λ n. active n && is_among bs n) (record v { chains = new }) hs
pinned_since bs active v old new hs same part each under =
    each active (λ n. active n && is_among bs n) v (record v { chains = new }) (under-reclaimed active bs v (record v { chains = new }) part refl)
    (subst (λ (u : ChainsValue). AreUnderPins active u u.groups) (sym same) under)

none_left : (more : Bool) (n : ℕ) → more ≡ nat_lt 0 n → not more ≡ true → n ≡ 0
none_left more n is none = grind (arith, nat_tests)

pub invariant_of-self : goal.invariant_of-self
invariant_of-self c =
    let bs = c.args.begins.now in
    let e = c.reclaim_versions-is_garbage.ensures in
    let chains = since c.args.begins.now c.self.inside.chains c.hold.new.chains c.reclaim_versions-is_garbage.new.chains c.hold.ensures.pages e.step.pages in (
      chains.kept c.self.inside.last c.self.invariant.0,
      e.groups.listed,
      c.self.invariant.2,
      record {
        lists = omega (arith, c.self.invariant.3.lists, e.groups.lists);
        ready = c.self.invariant.3.ready;
        fits = c.self.invariant.3.fits;
      },
      omega (arith, e.step.pages.held.last, c.hold.ensures.last, c.self.invariant.4),
      for-noted _ _ bs _ _ c.note.ensures (λ t.
          let none = none_left _ _ e.still t in
          collected-after bs c.self.inside.last (entries c.self.inside.chains.pages) _ _ _ c.self.invariant.0
          (all_since bs c.self.inside.chains c.hold.new.chains c.reclaim_versions-is_garbage.new.chains c.hold.ensures.pages (e.step.all none))
          e.groups none e.few),
    )

-- where all is collected already, all is done
done : (v : ChainsValue) (bs : List ℕ) → IsKept v.chains v.last → AreCollected bs v.chains v.groups → IsReclaimedInPart v v bs
done v bs kept collected =
    reclaimed-part v v bs kept kept refl (omega (arith, collected.none)) (λ k. inl refl) (λ _. collected.reclaimed)

kept_now : (inside old : ChainsValue) → inside ≡ old → IsKept inside.chains inside.last → IsKept old.chains old.last
kept_now inside old same kept = subst (λ (v : ChainsValue). IsKept v.chains v.last) same kept

pub returns-then-are_collected : goal.returns-then-are_collected
returns-then-are_collected c =
    let v = c.args.self.now in
    let bs = c.args.begins.now in
    let collected = c.are_collected.ensures c.if-are_collected.true in
    let kept = kept_now _ v c.self.view_is c.self.invariant.0 in
    record {
      reclaimed = done v bs kept collected;
      still = ap (nat_lt 0) (sym collected.none);
      few = collected.few;
      unclassified = collected.truly;
      classified = λ active base history s all. groups-classified bs active v v.last all kept v.groups collected.active s.pinned
          collected.unclassified collected.truly;
      stands = λ few. stands-itself bs v;
    }

pub returns-clause-reclaimed : goal.returns-clause-reclaimed
returns-clause-reclaimed c =
    let bs = c.args.begins.now in
    let step = c.reclaim_versions-is_garbage.ensures.step in
    let chains = since bs c.self.inside.chains c.hold.new.chains c.reclaim_versions-is_garbage.new.chains c.hold.ensures.pages step.pages in
    whole c.args.self.now _ _ bs c.self.view_is c.self.invariant.0 (chains.kept c.self.inside.last c.self.invariant.0) refl
    step.garbage chains.part
    (λ none. all_since bs c.self.inside.chains c.hold.new.chains c.reclaim_versions-is_garbage.new.chains c.hold.ensures.pages (step.all none))

pub returns-clause-stands : goal.returns-clause-stands
returns-clause-stands c = λ few active base history s.
    let bs = c.args.begins.now in
    let e = c.reclaim_versions-is_garbage.ensures in
    let chains = since bs c.self.inside.chains c.hold.new.chains c.reclaim_versions-is_garbage.new.chains c.hold.ensures.pages e.step.pages in
    stands-reclaimed c.args.self.now active base history _ bs (returns-clause-reclaimed c).seen
    (λ n t known. ap (λ l. is_among l n) e.step.pages.held.held
    ∙ held-known bs c.self.inside.chains c.hold.new.chains n c.self.inside.last (c.hold.ensures.held few) c.self.invariant.4 t
    (ap (is_known n) c.self.view_is ∙ known))
    (λ h. e.groups.each active (λ n. active n && is_among bs n) _ _ (under-reclaimed active bs _ _ chains.part refl)
    (subst (λ (v : ChainsValue). AreUnderPins active v v.groups) (sym c.self.view_is) h)) s

pub returns-clause-classified : goal.returns-clause-classified
returns-clause-classified c = λ active base history s all.
    let bs = c.args.begins.now in
    let now = λ (n : ℕ). active n && is_among bs n in
    let e = c.reclaim_versions-is_garbage.ensures in
    let chains = since bs c.self.inside.chains c.hold.new.chains c.reclaim_versions-is_garbage.new.chains c.hold.ensures.pages e.step.pages in
    let groups = c.reclaim_versions-is_garbage.new.groups.items in
    let pinned = pinned_since bs active _ c.args.self.now _ groups c.self.view_is chains.part e.groups.each s.pinned in
    groups-classified bs now _ c.self.inside.last (λ n t. ap (λ b. b && is_among bs n) (all n t) ∙ t)
    (chains.kept c.self.inside.last c.self.invariant.0) groups e.groups.active pinned e.groups.unclassified e.groups.truly
