-- Each older version is listed: where chains are made, get more room, a version more, or are reclaimed.
use Rattle.std.proofs.Common.{[], ◌≡◌, ℕ, ◌≤◌, Bool, true, false, List, ◌∷◌, ◌++◌, Option, Some, None, refl, sym, ap}
use Rattle.std.proofs.Common.{subst, arith, inl, inr}
use Rattle.std.proofs.lemmas.Bool.{or_right, cond_both}
use Rattle.std.proofs.lemmas.Bool.Decides.{nat_tests}
use Rattle.std.proofs.lemmas.List.Folds.{list_any-append}
use Rattle.std.specs.Cmp.Lexicographic.{slice_cmp}
use Rattle.std.specs.FinMap.Entries.{put}
use Rattle.std.specs.List.{AllByRecursion, list_any}
use Rattle.std.specs.Ordering.{nat_cmp}
use Rattle.std.specs.Prelude.{IsTrue, option_map, ◌==◌, IfSome}
use Rattle.model.proofs.Elements.{all-each}
use Rattle.model.proofs.Lookups.{same_key, same_key_itself}
use Rattle.model.specs.Map.{Bytes, KeyMap, is_same_key}
use Rattle.versions.proofs.ChainLaws.{any-weaker, between-wider, first_rises}
use Rattle.versions.proofs.Stores.{RoomierFound, find-roomier, twice, rising_found}
use Rattle.versions.proofs.Visibles.{find_chain-put}
use Rattle.versions.specs.Chains.{Stamped, ChainValue, Chains, find_chain, added, stamped, number_of_first}
use Rattle.versions.specs.Chains.{is_between, seen_by, reclaimed, base_chains, IsKept, IsRisingTo, IsRisingChain}
use Rattle.versions.specs.Chains.{IsReclaimedAt, AreRoomier}
use Rattle.versions.specs.Groups.{GroupValue, Listed}
use Rattle.versions.specs.Listings.{is_of, is_in, is_listed, AreListed, IsListedChain, IsListed, AreFound}
use Rattle.versions.specs.Listings.{unpinned, followed, has_version, AreNeeded, IsNeededChain, IsCollected}
use Rattle.versions.specs.Listings.{IsPartReclaimed, AreKept}

-- ---- more groups

listed-left : (gs hs : List GroupValue) (k : Bytes) (next : ℕ) (us : List Stamped)
    → ((n high : ℕ) → list_any (λ v. v.number == n) us ≡ true → is_listed gs k n high ≡ true → is_listed hs k n high ≡ true) → AreListed gs k next us
    → AreListed hs k next us
listed-left gs hs k next [] more h = tt
listed-left gs hs k next (u ∷ us) more h = (
  grind (arith, nat_tests, more u.number, h.0),
  listed-left gs hs k next us (λ n high t. more n high (or_right (u.number == n) (list_any (λ v. v.number == n) us) t)) h.1,
)

chain-left : (gs hs : List GroupValue) (k : Bytes) (o : Option ChainValue)
    → ((n high : ℕ) → has_version n o ≡ true → is_listed gs k n high ≡ true → is_listed hs k n high ≡ true) → IsListedChain gs k o → IsListedChain hs k o
chain-left gs hs k None more h = tt
chain-left gs hs k (Some c) more h = listed-left gs hs k c.newest.number c.older more h

pub groups-found : (es : Chains) (gs hs : List GroupValue) → AreFound gs hs → IsListed es gs → IsListed es hs
groups-found es gs hs more h k = chain-left gs hs k (find_chain k es) (λ n high t. more k n high) (h k)

-- ---- chains that are made, and more room

pub listed-base : (m : KeyMap) (gs : List GroupValue) → IsListed (base_chains m) gs
listed-base [] gs k = tt
listed-base (p ∷ ps) gs k = cond_both (is_same_key k p.0) _ _ (IsListedChain gs k) (λ t. tt) (λ f. listed-base ps gs k)

chain-roomier : (gs : List GroupValue) (k : Bytes) (o p : Option ChainValue) → RoomierFound o p → IsListedChain gs k o → IsListedChain gs k p
chain-roomier gs k o p r h = grind arith

pub listed-roomier : (es fs : Chains) (gs : List GroupValue) → AreRoomier es fs → IsListed es gs → IsListed fs gs
listed-roomier es fs gs more h k = chain-roomier gs k (find_chain k es) (find_chain k fs) (find-roomier k es fs more) (h k)

-- ---- a version more

listed-push : (gs hs : List GroupValue) → AreFound gs hs → (k : Bytes) (vs : List Stamped) (v : Stamped) (n : ℕ) → AreListed gs k v.number vs
    → is_listed hs k v.number n ≡ true → AreListed hs k n (vs ++ v ∷ [])
listed-push gs hs more k [] v n h l = (l, tt)
listed-push gs hs more k (u ∷ vs) v n h l = grind (arith, more k u.number, h.0, listed-push gs hs more k vs v n h.1 l)

listed-added : (gs hs : List GroupValue) → AreFound gs hs → (k : Bytes) (o : Option ChainValue) (v : Stamped) (room : ℕ) → IsListedChain gs k o
    → ((c : ChainValue) → o ≡ Some c → is_listed hs k c.newest.number v.number ≡ true)
    → IsListedChain hs k (Some (added o v room))
listed-added gs hs more k None v room h l = tt
listed-added gs hs more k (Some c) v room h l = listed-push gs hs more k c.older c.newest v.number h (l c refl)

listed-put : (k : Bytes) (v : Stamped) (room : ℕ) (es : Chains) (gs hs : List GroupValue) → AreFound gs hs → IsListed es gs
    → ((c : ChainValue) → find_chain k es ≡ Some c → is_listed hs k c.newest.number v.number ≡ true)
    → IsListed (put (slice_cmp nat_cmp) k (added (find_chain k es) v room) es) hs
listed-put k v room es gs hs more h l q =
    let c = added (find_chain k es) v room in
    subst (IsListedChain hs q) (sym (find_chain-put q k c es))
    (cond_both (is_same_key q k) _ _ (IsListedChain hs q)
    (λ s. subst (λ (j : Bytes). IsListedChain hs j (Some c)) (sym (same_key q k s)) (listed-added gs hs more k (find_chain k es) v room (h k) l))
    (λ f. groups-found es gs hs more h q))

found-push : (ls us : List Listed) (gs : List GroupValue) → AreFound (unpinned ls ∷ gs) (unpinned (ls ++ us) ∷ gs)
found-push ls us gs k n high t = grind (arith, list_any-append (is_of k n high) ls us)

listed-followed : (ls : List Listed) (gs : List GroupValue) (k : Bytes) (n : ℕ) (o : Option ChainValue) (c : ChainValue) → o ≡ Some c
    → is_listed (unpinned (ls ++ followed o k n) ∷ gs) k c.newest.number n ≡ true
listed-followed ls gs k n None c e = cc
listed-followed ls gs k n (Some d) c e =
    let same : d ≡ c = cc in
    grind (arith, nat_tests, list_any-append (is_of k c.newest.number n) ls (followed (Some d) k n), same_key_itself k)

-- a write comes in
pub listed-write : (k : Bytes) (n : ℕ) (value : Option Bytes) (room : ℕ) (es : Chains) (ls : List Listed) (gs : List GroupValue)
    → IsListed es (unpinned ls ∷ gs)
    → IsListed (put (slice_cmp nat_cmp) k (added (find_chain k es) (stamped n value) room) es) (unpinned (ls ++ followed (find_chain k es) k n) ∷ gs)
listed-write k n value room es ls gs h =
    listed-put k (stamped n value) room es (unpinned ls ∷ gs) (unpinned (ls ++ followed (find_chain k es) k n)
    ∷ gs) (found-push ls (followed (find_chain k es) k n) gs) h
    (λ c e. listed-followed ls gs k n (find_chain k es) c e)

-- the list becomes the last of the groups
pub found-last : (gs : List GroupValue) (vs : List Listed) (g : GroupValue) → g.versions ≡ vs → AreFound (unpinned vs ∷ gs) (gs ++ g ∷ [])
found-last gs vs g e k n high t =
    grind (arith, list_any-append (λ (g : GroupValue). is_in g.versions k n high) gs (g ∷ []), ap (λ l. is_in l k n high) e)

-- ---- a reclaim of one chain

listed-later : (gs : List GroupValue) (k : Bytes) (n high high' : ℕ) → high ≤ high' → is_listed gs k n high ≡ true → is_listed gs k n high' ≡ true
listed-later gs k n high high' le = any-weaker (λ (g : GroupValue). is_in g.versions k n high) (λ (g : GroupValue). is_in g.versions k n high') gs
    (λ g. any-weaker (is_of k n high) (is_of k n high') g.versions (λ v t. grind (arith, nat_tests, t, le)))

listed-seen : (gs : List GroupValue) (k : Bytes) (bs : List ℕ) (n : ℕ) (vs : List Stamped) → IsRisingTo vs n → AreListed gs k n vs
    → AreListed gs k n (seen_by bs n vs)
listed-seen gs k bs n [] r h = tt
listed-seen gs k bs n (v ∷ vs) r h =
    let rest = listed-seen gs k bs n vs r.2 h.1 in
    cond_both (is_between bs v.number (number_of_first vs n)) _ _ (AreListed gs k n)
    (λ t. (listed-later gs k v.number (number_of_first vs n) (number_of_first (seen_by bs n vs) n) (first_rises bs n vs r.2) h.0, rest)) (λ f. rest)

-- the versions that are kept are needed
needed-seen : (bs : List ℕ) (n : ℕ) (vs : List Stamped) → IsRisingTo vs n → AreNeeded bs n (seen_by bs n vs)
needed-seen bs n [] r = tt
needed-seen bs n (v ∷ vs) r =
    let rest = needed-seen bs n vs r.2 in
    cond_both (is_between bs v.number (number_of_first vs n)) _ _ (AreNeeded bs n)
    (λ t. (between-wider bs v.number (number_of_first vs n) v.number (number_of_first (seen_by bs n vs) n) (omega arith) (first_rises bs n vs r.2) t, rest))
    (λ f. rest)

pub needed-chain : (bs : List ℕ) (o : Option ChainValue) (last : ℕ) → IfSome o (λ c. IsRisingChain last c) → IsNeededChain bs (option_map (reclaimed bs) o)
needed-chain bs None last h = tt
needed-chain bs (Some c) last h = needed-seen bs c.newest.number c.older h.0

-- where all are needed, none goes
needed-same : (bs : List ℕ) (n : ℕ) (vs : List Stamped) → AreNeeded bs n vs → seen_by bs n vs ≡ vs
needed-same bs n [] h = refl
needed-same bs n (v ∷ vs) h = let first = h.0 in grind (arith, needed-same bs n vs h.1)

pub reclaimed-needed : (bs : List ℕ) (o : Option ChainValue) → IsNeededChain bs o → option_map (reclaimed bs) o ≡ o
reclaimed-needed bs None h = refl
reclaimed-needed bs (Some c) h = let same = needed-same bs c.newest.number c.older h in grind (arith, nat_tests)

any-seen : (p : Stamped → Bool) (bs : List ℕ) (n : ℕ) (vs : List Stamped) → list_any p (seen_by bs n vs) ≡ true → list_any p vs ≡ true
any-seen p bs n [] t = t
any-seen p bs n (v ∷ vs) t = grind (arith, any-seen p bs n vs)

has_reclaimed : (bs : List ℕ) (n : ℕ) (o : Option ChainValue) → has_version n o ≡ false → has_version n (option_map (reclaimed bs) o) ≡ false
has_reclaimed bs n None e = refl
has_reclaimed bs n (Some c) e = grind (arith, any-seen (λ (v : Stamped). v.number == n) bs c.newest.number c.older)

-- ---- chains that were reclaimed in part

pub part-at : (bs : List ℕ) (k : Bytes) (now new : Chains) → IsReclaimedAt bs k now new → IsPartReclaimed bs now new
part-at bs k now new r q = grind (arith, r.found q, same_key q k)

pub part-trans : (bs : List ℕ) (old now new : Chains) (last : ℕ) → IsKept old last → IsPartReclaimed bs old now → IsPartReclaimed bs now new
    → IsPartReclaimed bs old new
part-trans bs old now new last kept a b k =
    let same = twice bs last (find_chain k old) (rising_found k old last kept) in
    grind (arith, a k, b k)

-- what is needed goes no more
needed-part : (bs : List ℕ) (k : Bytes) (now new : Chains) → IsPartReclaimed bs now new → IsNeededChain bs (find_chain k now)
    → find_chain k now ≡ find_chain k new
needed-part bs k now new p h = let same = reclaimed-needed bs (find_chain k now) h in grind (arith, p k)

pub collected-part : (bs : List ℕ) (now new : Chains) → IsPartReclaimed bs now new → (v : Listed) → IsCollected bs now v → IsCollected bs new v
collected-part bs now new p v (inl t) = inl t
collected-part bs now new p v (inr n) = inr (subst (λ o. IsTrue (has_version v.number o) × IsNeededChain bs o) (needed-part bs v.key now new p n.1) n)

pub all-collected-part : (bs : List ℕ) (now new : Chains) → IsPartReclaimed bs now new → (vs : List Listed) → AllByRecursion (IsCollected bs now) vs
    → AllByRecursion (IsCollected bs new) vs
all-collected-part bs now new p vs h = all-each (IsCollected bs now) (IsCollected bs new) vs (collected-part bs now new p) h

pub left-part : (bs : List ℕ) (now new : Chains) (os us : List Listed) → IsPartReclaimed bs now new → AreKept os us now → AreKept os us new
left-part bs now new os us p h k n high t = grind (arith, h k n high t, p k, has_reclaimed bs n (find_chain k now))

-- ---- the listing after a reclaim

chain-reclaimed : (gs : List GroupValue) (k : Bytes) (bs : List ℕ) (o : Option ChainValue) (last : ℕ) → IfSome o (λ c. IsRisingChain last c)
    → IsListedChain gs k o → IsListedChain gs k (option_map (reclaimed bs) o)
chain-reclaimed gs k bs None last r h = tt
chain-reclaimed gs k bs (Some c) last r h = listed-seen gs k bs c.newest.number c.older r.0 h

-- the groups may change where the versions that they list no more are gone
pub listed-part : (bs : List ℕ) (now new : Chains) (gs hs : List GroupValue) (last : ℕ) → IsKept now last → IsPartReclaimed bs now new
    → ((k : Bytes) (n high : ℕ) → has_version n (find_chain k new) ≡ true → is_listed gs k n high ≡ true → is_listed hs k n high ≡ true) → IsListed now gs
    → IsListed new hs
listed-part bs now new gs hs last kept p more h k = chain-left gs hs k (find_chain k new) (more k)
    (grind (arith, p k, h k, chain-reclaimed gs k bs (find_chain k now) last (rising_found k now last kept) (h k)))
