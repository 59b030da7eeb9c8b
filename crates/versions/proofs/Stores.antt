-- All chains: what is made, what more room leaves, what an install adds and what a reclaim leaves.
use Rattle.std.proofs.Common.{[], ◌≡◌, ℕ, Bool, ◌+◌, ◌-◌, ◌<◌, ◌≤◌, true, false, T, cond, ◌||◌, List, ◌∷◌, length}
use Rattle.std.proofs.Common.{take, set, Option, Some, None, IsSome, Result, Ok, Err, refl, sym, ap, subst, ◌∙◌}
use Rattle.std.proofs.Common.{arith}
use Rattle.std.proofs.lemmas.Bool.{both_ways}
use Rattle.std.proofs.lemmas.Bool.Decides.{nat_tests}
use Rattle.std.proofs.lemmas.Grind.{common_steps}
use Rattle.std.proofs.lemmas.List.{get_or_default}
use Rattle.std.proofs.lemmas.Map.Lookups.{exact_bytes}
use Rattle.std.specs.Cmp.Lexicographic.{slice_cmp}
use Rattle.std.specs.FinMap.Entries.{is_sorted, put, below_all}
use Rattle.std.specs.List.{AllByRecursion, prefix_len}
use Rattle.std.specs.Ordering.{is_eq, is_lt, nat_cmp}
use Rattle.std.specs.Prelude.{option_map, nat_le, if◌then◌else◌, IfSome, OnOk, swap_remove}
use Rattle.std.specs.declared.cmp.Ordering.TheVariants.{Less}
use Rattle.model.proofs.Elements.{all-each}
use Rattle.model.proofs.Entries.{IsSorted, IsBelowAll, turned}
use Rattle.model.proofs.InOrder.{both, less, parts}
use Rattle.model.proofs.Lookups.{same_key, same_key_itself, same_key_comm, same_map}
use Rattle.model.specs.Map.{Bytes, KeyMap, KeyWrite, IsMap, key_cmp, value_at, after_writes}
use Rattle.sorted_pages.proofs.Together.{room-together, together_as, together_between}
use Rattle.sorted_pages.specs.Changes.{ChangesValue}
use Rattle.sorted_pages.specs.Pages.{StayApart, Page, entries, is_together, room_at}
use Rattle.sorted_pages.specs.Trims.{put_some, changed_at}
use Rattle.versions.proofs.ChainLaws.{seen-added, rising-added, version_at-reclaimed, version_at-newest}
use Rattle.versions.proofs.ChainLaws.{tight-reclaimed, rising-seen_by, reclaimed_twice}
use Rattle.versions.proofs.Visibles.{IsMap-visible, value-visible, visible-put, visible-put_same, find_chain-put}
use Rattle.versions.proofs.Visibles.{sorted-put}
use Rattle.versions.specs.Chains.{Stamped, ChainValue, Chains, ChainsValue, find_chain, seen, seen_in, value_of}
use Rattle.versions.specs.Chains.{visible, with_pair, added, stamped, CanAddVersion, HasPlace, HavePlaces}
use Rattle.versions.specs.Chains.{ChainHasRoom, count_together, reclaimed, IsReclaimedAt, base_chains, IsKept}
use Rattle.versions.specs.Chains.{IsRisingChain, AreRoomier, IsRoomierChain}
use Rattle.versions.specs.Installing.{places_taken}
use Rattle.versions.specs.Listings.{IsPartReclaimed}
use Rattle.versions.specs.Meaning.{kept_in, is_written_by, is_among, garbage_of, lists_a_step, IsSameMeaning}
use Rattle.versions.specs.Meaning.{IsReclaimed, IsReclaimedInPart, IsSeenSame, IsTightChain, writes_of}

-- ---- a fact of all chains

pub all-find : (P : ChainValue → Type 0) (k : Bytes) (c : ChainValue) (es : Chains) → AllByRecursion (λ e. P e.1) es → find_chain k es ≡ Some c → P c
all-find P k c [] h e = cc
all-find P k c (f ∷ es) h e = grind (arith, all-find P k c es h.1)

pub all-put : (P : ChainValue → Type 0) (k : Bytes) (c : ChainValue) (es : Chains) → P c → AllByRecursion (λ e. P e.1) es
    → AllByRecursion (λ e. P e.1) (put (slice_cmp nat_cmp) k c es)
all-put P k c [] p h = (p, tt)
all-put P k c (f ∷ es) p h = grind (arith, all-put P k c es p h.1)

pub kept-put : (k : Bytes) (c : ChainValue) (es : Chains) (last : ℕ) → IsKept es last → IsRisingChain last c → IsKept (put (slice_cmp nat_cmp) k c es) last
kept-put k c es last h p = record { sorted = sorted-put k c es h.sorted; rising = all-put (IsRisingChain last) k c es p h.rising }

pub rising_found : (k : Bytes) (es : Chains) (last : ℕ) → IsKept es last → IfSome (find_chain k es) (λ c. IsRisingChain last c)
rising_found k es last h = let each = λ (c : ChainValue). all-find (IsRisingChain last) k c es h.rising in grind arith

-- ---- the chains of a map

below_base : (k : Bytes) (m : KeyMap) → T (below_all (slice_cmp nat_cmp) k m) → IsBelowAll k (base_chains m)
below_base k [] h = tt
below_base k (p ∷ ps) h = let q = parts _ _ h in both _ _ q.0 (below_base k ps q.1)

pub sorted_base : (m : KeyMap) → IsMap m → IsSorted (base_chains m)
sorted_base [] h = tt
sorted_base (p ∷ ps) h = let q = parts _ _ h in both _ _ (below_base p.0 ps q.0) (sorted_base ps q.1)

rising_base : (m : KeyMap) → AllByRecursion (λ e. IsRisingChain 0 e.1) (base_chains m)
rising_base [] = tt
rising_base (p ∷ ps) = ((tt, omega arith), rising_base ps)

pub kept-base : (m : KeyMap) → IsMap m → IsKept (base_chains m) 0
kept-base m h = record { sorted = sorted_base m h; rising = rising_base m }

pub visible-base : (n : ℕ) (m : KeyMap) → visible n (base_chains m) ≡ m
visible-base n [] = refl
visible-base n (p ∷ ps) = grind (arith, nat_tests, visible-base n ps)

pub newest-base : (k : Bytes) (m : KeyMap)
    → option_map (λ (c : ChainValue). c.newest.number) (find_chain k (base_chains m)) ≡ option_map (λ _. 0) (value_at m k)
newest-base k [] = refl
newest-base k (p ∷ ps) = grind (arith, newest-base k ps)

-- ---- more room

pub roomier-refl : (es : Chains) → AreRoomier es es
roomier-refl [] = tt
roomier-refl (e ∷ es) = (refl, record { older = refl; newest = refl; room = omega arith }, roomier-refl es)

pub roomier-trans : (es fs gs : Chains) → AreRoomier es fs → AreRoomier fs gs → AreRoomier es gs
roomier-trans [] [] gs h g = g
roomier-trans (e ∷ es) (f ∷ fs) (x ∷ gs) h g =
    let a = h.1 in let b = g.1 in
    (g.0 ∙ h.0, record { older = b.older ∙ a.older; newest = b.newest ∙ a.newest; room = omega (arith, a.room, b.room) }, roomier-trans es fs gs h.2 g.2)
roomier-trans (e ∷ es) (f ∷ fs) [] h g = g
roomier-trans _ _ _ h g = absurd h

found_above : (x k : Bytes) (es : Chains) → IsBelowAll x es → IsSome (find_chain k es) → key_cmp x k ≡ Less
found_above x k [] h s = absurd (both_ways false refl s)
found_above x k (e ∷ es) h s =
    grind (arith, less (key_cmp x e.0), found_above x k es, exact_bytes k e.0)

pub find-put_itself : (k : Bytes) (c : ChainValue) (es : Chains) → find_chain k (put (slice_cmp nat_cmp) k c es) ≡ Some c
find-put_itself k c es = grind (arith, find_chain-put k k c es, same_key_itself k)

-- the key's chain with more room in its place
pub roomier-put : (k : Bytes) (c d : ChainValue) (es : Chains) → IsSorted es → find_chain k es ≡ Some c → IsRoomierChain c d
    → AreRoomier es (put (slice_cmp nat_cmp) k d es)
roomier-put k c d [] h e r = cc
roomier-put k c d (f ∷ es) h e r =
    let p = parts (below_all (slice_cmp nat_cmp) f.0 es) (is_sorted (slice_cmp nat_cmp) es) h in
    grind (
      arith,
      turned f.0 k,
      found_above f.0 k es p.0,
      roomier-refl es,
      r.older,
      r.newest,
      r.room,
      λ (t : find_chain k es ≡ Some c). roomier-put k c d es p.1 t r,
    )

-- the key's chain got more room
pub roomier-changed : (k : Bytes) (ps qs : List (Page ChainValue)) → IsSorted (entries ps) → ChangesValue k IsRoomierChain ps qs
    → AreRoomier (entries ps) (entries qs)
roomier-changed k ps qs h d = subst (AreRoomier (entries ps)) (sym d.entries) (roomier-put k d.before d.after (entries ps) h d.found d.changed)

-- where a key's value has changed, it has one, which needs no place
pub place-changed : {R : ChainValue → ChainValue → Type 0} (k : Bytes) (n : ℕ) (ps qs : List (Page ChainValue)) → ChangesValue k R ps qs
    → HasPlace n (room_at k qs) (find_chain k (entries qs))
place-changed k n ps qs d = subst (HasPlace n (room_at k qs)) (sym (ap (find_chain k) d.entries ∙ find-put_itself k d.after (entries ps))) tt

same_version : (n : ℕ) (c d : ChainValue) → IsRoomierChain c d → seen n d ≡ seen n c
same_version n c d r = λ i. value_of (if nat_le (r.newest i).number n then Some (r.newest i) else Rattle.versions.specs.Chains.last_at n None (r.older i))

pub visible-roomier : (n : ℕ) (es fs : Chains) → AreRoomier es fs → visible n fs ≡ visible n es
visible-roomier n [] [] h = refl
visible-roomier n (e ∷ es) (f ∷ fs) h = λ i. with_pair (h.0 i) (same_version n e.1 f.1 h.1 i) (visible-roomier n es fs h.2 i)
visible-roomier n _ _ h = absurd h

-- the chain that is found, with no less room
abbrev pub RoomierFound : Option ChainValue → Option ChainValue → Type 0
RoomierFound None None = Unit {0}
RoomierFound (Some c) (Some d) = IsRoomierChain c d
RoomierFound _ _ = ⊥

pub find-roomier : (k : Bytes) (es fs : Chains) → AreRoomier es fs → RoomierFound (find_chain k es) (find_chain k fs)
find-roomier k [] [] h = tt
find-roomier k (e ∷ es) (f ∷ fs) h = let same = h.0 in let own = h.1 in grind (arith, find-roomier k es fs h.2)
find-roomier k _ _ h = absurd h

pub same-roomier : (old new : ChainsValue) → AreRoomier old.chains new.chains → new.last ≡ old.last → IsSameMeaning old new
same-roomier old new h e = record {
  maps = λ n. visible-roomier n old.chains new.chains h;
  newest = λ k. grind (arith, find-roomier k old.chains new.chains h);
  kept = λ k. grind (arith, find-roomier k old.chains new.chains h);
  last = e;
}

below_roomier : (k : Bytes) (es fs : Chains) → AreRoomier es fs → IsBelowAll k es → IsBelowAll k fs
below_roomier k [] [] h g = tt
below_roomier k (e ∷ es) (f ∷ fs) h g = let p =
    parts _ _ g in both _ _ (subst (λ (q : Bytes). T (is_lt (key_cmp k q))) (sym h.0) p.0) (below_roomier k es fs h.2 p.1)
below_roomier k _ _ h g = absurd h

sorted_roomier : (es fs : Chains) → AreRoomier es fs → IsSorted es → IsSorted fs
sorted_roomier [] [] h g = tt
sorted_roomier (e ∷ es) (f ∷ fs) h g =
    grind (arith, h.0, below_roomier e.0 es fs h.2, sorted_roomier es fs h.2)
sorted_roomier _ _ h g = absurd h

rising_roomier : (last : ℕ) (es fs : Chains) → AreRoomier es fs → AllByRecursion (λ e. IsRisingChain last e.1) es
    → AllByRecursion (λ e. IsRisingChain last e.1) fs
rising_roomier last [] [] h g = tt
rising_roomier last (e ∷ es) (f ∷ fs) h g =
    (grind (arith, h.1.older, h.1.newest, g.0), rising_roomier last es fs h.2 g.1)
rising_roomier last _ _ h g = absurd h

pub kept-roomier : (es fs : Chains) (last : ℕ) → AreRoomier es fs → IsKept es last → IsKept fs last
kept-roomier es fs last h g = record { sorted = sorted_roomier es fs h g.sorted; rising = rising_roomier last es fs h g.rising }

-- the key of the first of the writes has a chain with room, or a place for it and those behind it that come to its page
abbrev pub IsPlaced : Chains → List (Page ChainValue) → List KeyWrite → Type 0
IsPlaced es ps [] = Unit {0}
IsPlaced es ps (w ∷ ws) = ChainHasRoom (find_chain w.0 es) × HasPlace (count_together w.0 ps (w ∷ ws)) (room_at w.0 ps) (find_chain w.0 es)

-- no more of them come to one page once pages are split
pub count-apart : (k : Bytes) (ps qs : List (Page ChainValue)) (ws : List KeyWrite) → StayApart ps qs → count_together k qs ws ≤ count_together k ps ws
count-apart k ps qs [] apart = omega arith
count-apart k ps qs (w ∷ ws) apart =
    let rest = count-apart k ps qs ws apart in
    let here = apart k w.0 in
    grind (arith, common_steps, both_ways)

pub place-any : (n r : ℕ) (o : Option ChainValue) → n ≤ r → HasPlace n r o
place-any n r None le = le
place-any n r (Some c) le = tt

-- with as many places for no more of them, or more
pub place-more : (n m r s : ℕ) (o : Option ChainValue) → (n ≤ r → m ≤ s) → HasPlace n r o → HasPlace m s o
place-more n m r s None f h = f h
place-more n m r s (Some c) f h = tt

-- what was made for the write is still there
pub placed-roomier : (es fs : Chains) (ps qs : List (Page ChainValue)) → AreRoomier es fs → ((q : Bytes) → room_at q ps ≤ room_at q qs) → StayApart ps qs
    → (ws : List KeyWrite) → IsPlaced es ps ws → IsPlaced fs qs ws
placed-roomier es fs ps qs h more apart [] p = p
placed-roomier es fs ps qs h more apart (w ∷ ws) p =
    let fewer = count-apart w.0 ps qs (w ∷ ws) apart in
    let m = more w.0 in
    let place = place-more (count_together w.0 ps (w ∷ ws)) (count_together w.0 qs (w ∷ ws)) (room_at w.0 ps) (room_at w.0 qs) (find_chain w.0 es)
    (λ le. omega (arith, le, fewer, m)) p.1 in
    place_found (find_chain w.0 es) (find_chain w.0 fs) (count_together w.0 qs (w ∷ ws)) (room_at w.0 qs) (find-roomier w.0 es fs h) (p.0, place)
  where
    place_found : (o u : Option ChainValue) (n r : ℕ) → RoomierFound o u → ChainHasRoom o × HasPlace n r o → ChainHasRoom u × HasPlace n r u
    place_found None None n r f g = g
    place_found (Some c) (Some d) n r f g = (omega (arith, f.room, g.0), tt)
    place_found None (Some d) n r f g = absurd f
    place_found (Some c) None n r f g = absurd f

pub on_ok : {A E : Type 0} (r : Result A E) (P : Type 0) → P → OnOk r P
on_ok (Ok x) P p = p
on_ok (Err e) P p = tt

-- ---- an install

pub ready-prepared : (n last : ℕ) (es : Chains) (ws : List KeyWrite) → IsKept es last → last < n → AllByRecursion (λ w. ChainHasRoom (find_chain w.0 es)) ws
    → AllByRecursion (λ w. CanAddVersion n (find_chain w.0 es)) ws
ready-prepared n last es ws h lt r =
    all-each _ (λ w. CanAddVersion n (find_chain w.0 es)) ws (λ w q. grind (arith, rising_found w.0 es last h)) r

pub rising_one : (n last : ℕ) (es : Chains) (k : Bytes) (v : Option Bytes) (room : ℕ) → IsKept es last → CanAddVersion n (find_chain k es) → n ≤ last
    → IsRisingChain last (added (find_chain k es) (stamped n v) room)
rising_one n last es k v room h r le = rising-added (find_chain k es) (stamped n v) room last (rising_found k es last h) r le

-- keys above k are not k
find_apart : (k : Bytes) (c : ChainValue) (es : Chains) (q : Bytes) → T (is_lt (key_cmp k q)) → find_chain q (put (slice_cmp nat_cmp) k c es) ≡ find_chain q es
find_apart k c es q h = find_chain-put q k c es ∙ ap (λ b. cond b (Some c) (find_chain q es)) (same_key_comm q k ∙ ap is_eq (less _ h))

pub ready-apart : (n : ℕ) (k : Bytes) (c : ChainValue) (es : Chains) (ws : List KeyWrite) → T (below_all (slice_cmp nat_cmp) k ws)
    → AllByRecursion (λ w. CanAddVersion n (find_chain w.0 es)) ws → AllByRecursion (λ w. CanAddVersion n (find_chain w.0 (put (slice_cmp nat_cmp) k c es))) ws
ready-apart n k c es [] h r = tt
ready-apart n k c es (w ∷ ws) h r = let p = parts _ _ h in (subst (CanAddVersion n) (sym (find_apart k c es w.0 p.0)) r.0, ready-apart n k c es ws p.1 r.1)

-- where the first of the rest doesn't come to the page of k, none does
count-rest : (k : Bytes) (ps : List (Page ChainValue)) (w : KeyWrite) (ws : List KeyWrite) → T (is_lt (key_cmp k w.0))
    → T (below_all (slice_cmp nat_cmp) w.0 ws) → count_together k ps ws ≤ count_together k ps (w ∷ ws)
count-rest k ps w [] h g = omega arith
count-rest k ps w (v ∷ ws) h g =
    let p = parts _ _ g in
    let between = together_between k w.0 v.0 ps (less _ h) (less _ p.0) in
    grind (arith, common_steps, both_ways)

-- what is left for the next write, once a new version is at k
place_left : (o : Option ChainValue) (k q : Bytes) (ps qs : List (Page ChainValue)) (ws : List KeyWrite)
    → room_at q ps ≤ room_at q qs + places_taken o k q ps → HasPlace (1 + count_together k ps ws) (room_at k ps) o
    → count_together q ps ws ≤ room_at q ps → count_together q ps ws ≤ room_at q qs
place_left (Some c) k q ps qs ws rooms own le = omega (arith, rooms, le)
place_left None k q ps qs ws rooms own le = by (is_together k q ps) refl
  where
    by : (b : Bool) → is_together k q ps ≡ b → count_together q ps ws ≤ room_at q qs
    by true e =
        let taken = ap {B = ℕ} (λ (b : Bool). if b then 1 else 0) e in
        let same = ap (λ (p : Bytes → Bool). prefix_len (λ (w : KeyWrite). p w.0) ws) (λ i r. together_as k q r ps e i) in
        let room = room-together k q ps e in
        omega (arith, rooms, own, taken, same, room)
    by false e = let taken = ap {B = ℕ} (λ (b : Bool). if b then 1 else 0) e in omega (arith, rooms, le, taken)

-- a new chain takes one place of its page
pub places-apart : (k : Bytes) (c : ChainValue) (es : Chains) (ps qs : List (Page ChainValue)) (ws : List KeyWrite)
    → T (below_all (slice_cmp nat_cmp) k ws) → T (is_sorted (slice_cmp nat_cmp) ws)
    → ((q : Bytes) → room_at q ps ≤ room_at q qs + places_taken (find_chain k es) k q ps)
    → ((i j : Bytes) → is_together i j qs ≡ is_together i j ps)
    → HasPlace (1 + count_together k ps ws) (room_at k ps) (find_chain k es)
    → HavePlaces ps es ws → HavePlaces qs (put (slice_cmp nat_cmp) k c es) ws
places-apart k c es ps qs [] h s rooms same own r = tt
places-apart k c es ps qs (w ∷ ws) h s rooms same own r =
    let p = parts _ _ h in
    let t = parts _ _ s in
    let all = w ∷ ws in
    let counted : count_together w.0 qs all ≡ count_together w.0 ps all =
    ap (λ (f : Bytes → Bool). prefix_len (λ (v : KeyWrite). f v.0) all) (λ i q. same w.0 q i) in
    let here = place-more (count_together w.0 ps all) (count_together w.0 qs all) (room_at w.0 ps) (room_at w.0 qs) (find_chain w.0 es)
    (λ le. (let left = place_left (find_chain k es) k w.0 ps qs all (rooms w.0) own le in omega (arith, left, counted))) r.0 in
    let fewer = count-rest k ps w ws p.0 t.0 in
    let left = place-more (1 + count_together k ps all) (1 + count_together k ps ws) (room_at k ps) (room_at k ps) (find_chain k es)
    (λ le. omega (arith, le, fewer)) own in (
      subst (HasPlace (count_together w.0 qs all) (room_at w.0 qs)) (sym (find_apart k c es w.0 p.0)) here,
      places-apart k c es ps qs ws p.1 t.1 rooms same left r.1,
    )

-- what m sees once the writes are in
abbrev pub written_map : ℕ → ℕ → List KeyWrite → KeyMap → KeyMap
written_map n m ws base = if nat_le n m then after_writes base ws else base

abbrev pub written_number : ℕ → List KeyWrite → Bytes → Option ℕ → Option ℕ
written_number n ws k o = if is_written_by ws k then Some n else o

pub maps-step : (n m : ℕ) (w : KeyWrite) (ws : List KeyWrite) (room : ℕ) (es : Chains) → IsSorted es
    → written_map n m ws (visible m (put (slice_cmp nat_cmp) w.0 (added (find_chain w.0 es) (stamped n w.1) room) es)) ≡ written_map n m (w ∷ ws) (visible m es)
maps-step n m w ws room es h =
    let c = added (find_chain w.0 es) (stamped n w.1) room in
    let sees = seen-added m (find_chain w.0 es) (stamped n w.1) room in
    grind (arith, visible-put m w.0 c es h, visible-put_same m w.0 c es h)

pub number_added : (o : Option ChainValue) (v : Stamped) (room : ℕ) → (added o v room).newest ≡ v
number_added None v room = refl
number_added (Some c) v room = refl

pub newest-step : (n : ℕ) (k : Bytes) (w : KeyWrite) (ws : List KeyWrite) (room : ℕ) (es : Chains)
    → written_number n ws k (option_map (λ (c : ChainValue). c.newest.number)
    (find_chain k (put (slice_cmp nat_cmp) w.0 (added (find_chain w.0 es) (stamped n w.1) room) es)))
    ≡ written_number n (w ∷ ws) k (option_map (λ (c : ChainValue). c.newest.number) (find_chain k es))
newest-step n k w ws room es =
    let c = added (find_chain w.0 es) (stamped n w.1) room in
    grind (arith, find_chain-put k w.0 c es, number_added (find_chain w.0 es) (stamped n w.1) room)

pub kept-step : (n : ℕ) (k : Bytes) (w : KeyWrite) (ws : List KeyWrite) (room : ℕ) (es : Chains)
    → kept_in (find_chain k (put (slice_cmp nat_cmp) w.0 (added (find_chain w.0 es) (stamped n w.1) room) es)) + writes_of ws k
    ≡ kept_in (find_chain k es) + writes_of (w ∷ ws) k
kept-step n k w ws room es =
    let c = added (find_chain w.0 es) (stamped n w.1) room in
    grind (arith, common_steps, find_chain-put k w.0 c es, same_key k w.0)

-- ---- a reclaim

pub twice : (bs : List ℕ) (last : ℕ) (o : Option ChainValue) → IfSome o (λ c. IsRisingChain last c)
    → option_map (reclaimed bs) (option_map (reclaimed bs) o) ≡ option_map (reclaimed bs) o
twice bs last None h = refl
twice bs last (Some c) h = ap Some (reclaimed_twice bs c h.0)

-- which default is named makes no difference
pub swap_remove-default : {X : Type 0} (xs : List X) (i : ℕ) (d e : X) → 0 < length xs → swap_remove xs i d ≡ swap_remove xs i e
swap_remove-default xs i d e lt = ap (λ y. take (length xs - 1) (set xs i y)) (get_or_default xs (length xs - 1) d e (omega arith))

sees_found : (bs : List ℕ) (last n : ℕ) (o : Option ChainValue) → IfSome o (λ c. IsRisingChain last c) → (is_among bs n || nat_le last n) ≡ true
    → seen_in n (option_map (reclaimed bs) o) ≡ seen_in n o
sees_found bs last n None h t = refl
sees_found bs last n (Some c) h t = let low = h.1 in grind (arith, nat_tests, version_at-reclaimed bs c n, version_at-newest bs c n)

tight_found : (bs : List ℕ) (last : ℕ) (o : Option ChainValue) (c : ChainValue) → IfSome o (λ c. IsRisingChain last c) → option_map (reclaimed bs) o ≡ Some c
    → IsTightChain bs c
tight_found bs last o c h e = grind (arith, tight-reclaimed bs)

seen-part : (old new : ChainsValue) (bs : List ℕ) → IsKept old.chains old.last → IsKept new.chains new.last → new.last ≡ old.last
    → IsPartReclaimed bs old.chains new.chains → IsSeenSame old new bs
seen-part old new bs h g e part = record {
  maps = λ n t. same_map _ _ (IsMap-visible n new.chains g.sorted) (IsMap-visible n old.chains h.sorted) (λ q.
      let sees = sees_found bs old.last n (find_chain q old.chains) (rising_found q old.chains old.last h) t in
      grind (arith, value-visible n q new.chains g.sorted, value-visible n q old.chains h.sorted, part q));
  newest = λ k. grind (arith, part k);
  last = e;
  needed = λ k. grind (arith, part k, twice bs old.last (find_chain k old.chains) (rising_found k old.chains old.last h));
}

pub reclaimed-part : (old new : ChainsValue) (bs : List ℕ) → IsKept old.chains old.last → IsKept new.chains new.last → new.last ≡ old.last
    → garbage_of bs new ≡ garbage_of bs old - lists_a_step → IsPartReclaimed bs old.chains new.chains
    → (garbage_of bs new ≡ 0 → (k : Bytes) → find_chain k new.chains ≡ option_map (reclaimed bs) (find_chain k old.chains)) → IsReclaimedInPart old new bs
reclaimed-part old new bs h g e garbage part is =
    let seen = seen-part old new bs h g e part in
    record {
      seen = seen;
      garbage = garbage;
      kept = λ k. grind (arith, part k);
      all = λ none. record {
        seen = seen;
        kept = λ k. ap kept_in (is none k);
        tight = λ k c f. tight_found bs old.last (find_chain k old.chains) c (rising_found k old.chains old.last h) (sym (is none k) ∙ f);
      };
    }

-- ---- a reclaim, step by step

pub seen-itself : (v : ChainsValue) (bs : List ℕ) → IsSeenSame v v bs
seen-itself v bs = record { maps = λ n t. refl; newest = λ k. refl; last = refl; needed = λ k. refl }

pub seen-on : (old mid new : ChainsValue) (bs : List ℕ) → IsSeenSame old mid bs → IsSeenSame mid new bs → IsSeenSame old new bs
seen-on old mid new bs g h = record {
  maps = λ n t. h.maps n (subst (λ l. (is_among bs n || nat_le l n) ≡ true) (sym g.last) t) ∙ g.maps n t;
  newest = λ k. h.newest k ∙ g.newest k;
  last = h.last ∙ g.last;
  needed = λ k. h.needed k ∙ g.needed k;
}

pub reclaimed-on : (old mid new : ChainsValue) (bs : List ℕ) → IsSeenSame old mid bs → IsReclaimed mid new bs → IsReclaimed old new bs
reclaimed-on old mid new bs g h = record { seen = seen-on old mid new bs g h.seen; kept = λ k. h.kept k ∙ g.needed k; tight = h.tight }

-- one chain reclaimed in its place
kept-some : (bs : List ℕ) (k : Bytes) (es : Chains) (last : ℕ) (o : Option ChainValue) → IfSome o (λ c. IsRisingChain last c) → IsKept es last
    → IsKept (put_some k (option_map (reclaimed bs) o) es) last
kept-some bs k es last None r h = h
kept-some bs k es last (Some c) r h = kept-put k (reclaimed bs c) es last h (rising-seen_by bs c.newest.number c.older r.0, r.1)

pub reclaimed-at : (bs : List ℕ) (k : Bytes) (es fs : Chains) → fs ≡ changed_at (reclaimed bs) k es → IsReclaimedAt bs k es fs
reclaimed-at bs k es fs whole = record {
  found = λ q. grind (arith, ap (find_chain q) whole, find_chain-put, same_key q k);
  kept = λ last h. subst (λ (l : Chains). IsKept l last) (sym whole) (kept-some bs k es last (find_chain k es) (rising_found k es last h) h);
}
