-- What the calls answer, from where the search ended.
use Rattle.std.proofs.Common.{◌≡◌, ℕ, zero, suc, ◌+◌, ◌-◌, ◌<◌, ◌≤◌, true, T, cond, List, [], ◌∷◌, ◌++◌, length, drop}
use Rattle.std.proofs.Common.{get_or, Option, Some, refl, sym, ap, subst, ◌∙◌, arith, below_more}
use Rattle.std.proofs.Math.Seq.{drop-cons}
use Rattle.std.proofs.lemmas.Bool.{or_right}
use Rattle.std.proofs.lemmas.Bool.Decides.{nat_tests}
use Rattle.std.proofs.lemmas.List.{append_assoc}
use Rattle.std.specs.Cmp.Lexicographic.{slice_cmp}
use Rattle.std.specs.FinMap.Entries.{put, is_sorted}
use Rattle.std.specs.List.{AllByRecursion}
use Rattle.std.specs.Ordering.{nat_cmp}
use Rattle.std.specs.Prelude.{nat_le, option_map}
use Rattle.model.proofs.Elements.{all-append, all-each}
use Rattle.model.proofs.Entries.{IsSorted}
use Rattle.model.proofs.InOrder.{parts, sorted_left}
use Rattle.model.specs.Map.{Bytes, key_cmp, KeyMap, KeyWrite, IsMap, value_at}
use Rattle.sorted_pages.proofs.Together.{together_itself}
use Rattle.sorted_pages.specs.Pages.{StayApart, Page, is_together, room_at}
use Rattle.versions.proofs.Listings.{groups-found, listed-write}
use Rattle.versions.proofs.Stores.{IsPlaced, place-more, placed-roomier, sorted_base, places-apart, written_map}
use Rattle.versions.proofs.Stores.{written_number, ready-apart, maps-step, newest-step, kept-step, ready-prepared}
use Rattle.versions.proofs.Stores.{kept-put, rising_one, visible-base, newest-base}
use Rattle.versions.proofs.UnderPins.{added-put, added-refl, added-trans, followed-write}
use Rattle.versions.proofs.Visibles.{value-visible}
use Rattle.versions.specs.Chains.{IsRisingChain, ChainValue, Chains, ChainsValue, find_chain, seen_in, visible}
use Rattle.versions.specs.Chains.{IsKept, AreRoomier, HasPlace, HavePlaces, ChainHasRoom, added, stamped, fresh_chain}
use Rattle.versions.specs.Chains.{CanAddVersion, base_chains, count_together}
use Rattle.versions.specs.Groups.{GroupValue, Listed}
use Rattle.versions.specs.Installing.{places_taken}
use Rattle.versions.specs.Listings.{is_seen_from, AreSeenFrom, IsFollowed, is_in, is_listed, IsListed, unpinned}
use Rattle.versions.specs.Listings.{followed}
use Rattle.versions.specs.Meaning.{is_among, kept_in, writes_of}
use Rattle.versions.specs.StandsFor.{StandsFor}
use Rattle.versions.specs.Pins.{AreUnderPins, IsAddedTo}

-- what was found is what number n sees
pub seen_found : (n : ℕ) (k : Bytes) (es : Chains) (o : Option ChainValue) → IsSorted es → o ≡ find_chain k es → seen_in n o ≡ value_at (visible n es) k
seen_found n k es o h found = ap (seen_in n) found ∙ sym (value-visible n k es h)

-- ---- a loop's step

-- the chain of k has room, or its page has for these writes
abbrev pub IsPlacedAt : Bytes → Chains → List (Page ChainValue) → List KeyWrite → Type 0
IsPlacedAt k es ps ws = ChainHasRoom (find_chain k es) × HasPlace (count_together k ps ws) (room_at k ps) (find_chain k es)

-- the writes from this one on
next_of : (ws : List KeyWrite) (i : ℕ) (w : KeyWrite) → i < length ws → w ≡ get_or ws i w → drop i ws ≡ w ∷ drop (suc i) ws
next_of ws i w lt is = drop-cons ws i w lt ∙ ap (λ y. y ∷ drop (suc i) ws) (sym is)

-- room for one more of the writes
pub preparing : (ws : List KeyWrite) (i : ℕ) (w : KeyWrite) (k : Bytes) (es fs : Chains) (ps qs : List (Page ChainValue)) (us : List KeyWrite) → i < length ws
    → w ≡ get_or ws i w → k ≡ w.0 → us ≡ drop i ws → AreRoomier es fs → ((q : Bytes) → room_at q ps ≤ room_at q qs) → StayApart ps qs
    → ((j : ℕ) → j < i → IsPlaced es ps (drop j ws)) → ChainHasRoom (find_chain k fs) → HasPlace (count_together k qs us) (room_at k qs) (find_chain k fs)
    → (j : ℕ) → j < i + 1 → IsPlaced fs qs (drop j ws)
preparing ws i w k es fs ps qs us lt is key at more rooms apart p room place =
    let next = at ∙ next_of ws i w lt is in
    let own = subst (λ l. IsPlacedAt w.0 fs qs l) next (subst (λ (q : Bytes). IsPlacedAt q fs qs us) key (room, place)) in
    below_more (λ j. IsPlaced fs qs (drop j ws)) i (λ j l. placed-roomier es fs ps qs more rooms apart (drop j ws) (p j l))
    (subst (IsPlaced fs qs) (sym (next_of ws i w lt is)) own)

-- all of them have theirs
pub all-placed : (es : Chains) (ps : List (Page ChainValue)) (ws : List KeyWrite) → ((j : ℕ) → j < length ws → IsPlaced es ps (drop j ws))
    → AllByRecursion (λ w. ChainHasRoom (find_chain w.0 es)) ws × HavePlaces ps es ws
all-placed es ps [] h = (tt, tt)
all-placed es ps (w ∷ ws) h =
    let here = h 0 (omega arith) in
    let rest = all-placed es ps ws (λ j lt. h (suc j) (omega arith)) in
    ((here.0, rest.0), (here.1, rest.1))

placed-from : (es : Chains) (ps : List (Page ChainValue)) (ws : List KeyWrite) (i : ℕ) → AllByRecursion (λ w. ChainHasRoom (find_chain w.0 es)) ws
    → HavePlaces ps es ws → IsPlaced es ps (drop i ws)
placed-from es ps [] zero h g = tt
placed-from es ps [] (suc i) h g = tt
placed-from es ps (w ∷ ws) zero h g = (h.0, g.0)
placed-from es ps (w ∷ ws) (suc i) h g = placed-from es ps ws i h.1 g.1

-- where the writes were prepared before, there is room in each chain, and where its key would stand
pub placed-at : (ws : List KeyWrite) (i : ℕ) (w : KeyWrite) (k : Bytes) (es fs : Chains) (ps qs : List (Page ChainValue)) (us : List KeyWrite) → i < length ws
    → w ≡ get_or ws i w → k ≡ w.0 → us ≡ drop i ws → AreRoomier es fs → ((q : Bytes) → room_at q ps ≤ room_at q qs) → StayApart ps qs
    → AllByRecursion (λ w. ChainHasRoom (find_chain w.0 es)) ws → HavePlaces ps es ws → IsPlacedAt k fs qs us
placed-at ws i w k es fs ps qs us lt is key at more rooms apart h g =
    let next = next_of ws i w lt is in
    let now = placed-roomier es fs ps qs more rooms apart (drop i ws) (placed-from es ps ws i h g) in
    let own : IsPlacedAt w.0 fs qs (w ∷ drop (suc i) ws) = subst (IsPlaced fs qs) next now in
    subst (λ (q : Bytes). IsPlacedAt q fs qs us) (sym key) (subst (λ l. IsPlacedAt w.0 fs qs l) (sym (at ∙ next)) own)

-- ---- an install

abbrev number_in : Bytes → Chains → Option ℕ
number_in k es = option_map (λ (c : ChainValue). c.newest.number) (find_chain k es)

-- what is left of the writes can be added, and gives what all of them give
pub record Installing (n : ℕ) (from es : Chains) (ps : List (Page ChainValue)) (ls : List Listed) (places : ℕ) (all ws : List KeyWrite) : Type 0 where
  pub in_order : IsKept es n
  pub rising : T (is_sorted (slice_cmp nat_cmp) ws)
  pub ready : AllByRecursion (λ w. CanAddVersion n (find_chain w.0 es)) ws
  pub free : HavePlaces ps es ws
  pub room : length ws ≤ places
  pub maps : (m : ℕ) → written_map n m ws (visible m es) ≡ written_map n m all (visible m from)
  pub newest : (k : Bytes) → written_number n ws k (number_in k es) ≡ written_number n all k (number_in k from)
  pub kept : (k : Bytes) → kept_in (find_chain k es) + writes_of ws k ≡ kept_in (find_chain k from) + writes_of all k
  pub listed : (gs : List GroupValue) → IsListed from gs → IsListed es (unpinned ls ∷ gs)
  pub seen : AreSeenFrom (n - 1) ls
  pub added : (k : Bytes) → IsAddedTo n (find_chain k from) (find_chain k es)
  pub followed : AllByRecursion (IsFollowed n es) ls

-- the first of the writes counts itself
counts_itself : (k : Bytes) (ps : List (Page ChainValue)) (ws : List KeyWrite)
    → cond (is_together k k ps) (1 + count_together k ps ws) 0 ≡ 1 + count_together k ps ws
counts_itself k ps ws = ap (λ b. cond b (1 + count_together k ps ws) 0) (together_itself k ps)

-- the first of the writes has a place
pub first_place : (es : Chains) (ps : List (Page ChainValue)) (w : KeyWrite) (ws vs : List KeyWrite) → vs ≡ w ∷ ws → HavePlaces ps es vs
    → HasPlace 1 (room_at w.0 ps) (find_chain w.0 es)
first_place es ps w ws vs next h =
    let own = subst (λ l. HavePlaces ps es l) next h in
    let itself = counts_itself w.0 ps ws in
    place-more (count_together w.0 ps (w ∷ ws)) 1 (room_at w.0 ps) (room_at w.0 ps) (find_chain w.0 es) (λ le. omega (arith, le, itself)) own.0

-- the first of the writes can be added to its chain
pub first_ready : (n : ℕ) (es : Chains) (w : KeyWrite) (ws vs : List KeyWrite) → vs ≡ w ∷ ws → AllByRecursion (λ w. CanAddVersion n (find_chain w.0 es)) vs
    → CanAddVersion n (find_chain w.0 es)
first_ready n es w ws vs next h = (subst (AllByRecursion (λ (w : KeyWrite). CanAddVersion n (find_chain w.0 es))) next h).0

pub installing-step : (n : ℕ) (from es fs : Chains) (ps qs : List (Page ChainValue)) (ls us : List Listed) (room room' : ℕ) (all ws vs : List KeyWrite)
    (w : KeyWrite) (own : ℕ) → vs ≡ w ∷ ws → Installing n from es ps ls room all vs
    → fs ≡ put (slice_cmp nat_cmp) w.0 (added (find_chain w.0 es) (stamped n w.1) own) es
    → ((q : Bytes) → room_at q ps ≤ room_at q qs + places_taken (find_chain w.0 es) w.0 q ps) → ((i j : Bytes) → is_together i j qs ≡ is_together i j ps)
    → us ≡ ls ++ followed (find_chain w.0 es) w.0 n → room ≤ room' + 1 → Installing n from fs qs us room' all ws
installing-step n from es fs ps qs ls us room room' all ws vs w own next g is more together list more' =
    let h = subst (λ l. Installing n from es ps ls room all l) next g in
    let c = added (find_chain w.0 es) (stamped n w.1) own in
    let p = parts _ _ h.rising in
    record {
      in_order = subst (λ (l : Chains). IsKept l n) (sym is)
          (kept-put w.0 c es n h.in_order (rising_one n n es w.0 w.1 own h.in_order h.ready.0 (omega arith)));
      rising = p.1;
      ready = subst (λ (l : Chains). AllByRecursion (λ w. CanAddVersion n (find_chain w.0 l)) ws) (sym is) (ready-apart n w.0 c es ws p.0 h.ready.1);
      free = subst (λ (l : Chains). HavePlaces qs l ws) (sym is) (places-apart w.0 c es ps qs ws p.0 p.1 more together
          (subst (λ (m : ℕ). HasPlace m (room_at w.0 ps) (find_chain w.0 es)) (counts_itself w.0 ps ws) h.free.0) h.free.1);
      room = (let s = h.room in omega arith);
      maps = λ m. ap (λ (l : Chains). written_map n m ws (visible m l)) is ∙ maps-step n m w ws own es h.in_order.sorted ∙ h.maps m;
      newest = λ k. ap (λ (l : Chains). written_number n ws k (number_in k l)) is ∙ newest-step n k w ws own es ∙ h.newest k;
      kept = λ k. ap (λ (l : Chains). kept_in (find_chain k l) + writes_of ws k) is ∙ kept-step n k w ws own es ∙ h.kept k;
      listed = λ gs from_listed. subst (λ (l : List Listed). IsListed fs (unpinned l ∷ gs)) (sym list)
          (subst (λ (l : Chains). IsListed l (unpinned (ls ++ followed (find_chain w.0 es) w.0 n) ∷ gs)) (sym is)
          (listed-write w.0 n w.1 own es ls gs (h.listed gs from_listed)));
      added = λ k. added-trans n (find_chain k from) (find_chain k es) (find_chain k fs) (h.added k)
          (subst (λ (l : Chains). IsAddedTo n (find_chain k es) (find_chain k l)) (sym is) (added-put n w.0 k w.1 own es));
      followed = subst (AllByRecursion (IsFollowed n fs)) (sym list)
          (subst (λ (l : Chains). AllByRecursion (IsFollowed n l) (ls ++ followed (find_chain w.0 es) w.0 n)) (sym is)
          (followed-write n w.0 w.1 own es ls h.ready.0 h.followed));
      seen = subst (AreSeenFrom (n - 1)) (sym list)
          (all-append (λ v. is_seen_from (n - 1) v ≡ true) ls (followed (find_chain w.0 es) w.0 n) h.seen (grind (arith, nat_tests, h.ready.0)));
    }

-- before the first of the writes
pub installing-begun : (n last : ℕ) (es : Chains) (ps : List (Page ChainValue)) (ls : List Listed) (room : ℕ) (ws us : List KeyWrite) → IsKept es last
    → last < n → T (is_sorted (slice_cmp nat_cmp) ws)
    → AllByRecursion (λ w. ChainHasRoom (find_chain w.0 es)) ws → HavePlaces ps es ws → length ws ≤ room → ls ≡ [] → us ≡ ws
    → Installing n es es ps ls room us us
installing-begun n last es ps ls room ws us kept lt rising rooms fits list none is = subst (λ l. Installing n es es ps ls room l l) (sym is) (record {
  in_order = record { sorted = kept.sorted; rising = all-each (λ e. IsRisingChain last e.1) _ es (λ e g. (g.0, omega (arith, g.1))) kept.rising };
  rising = rising;
  ready = ready-prepared n last es ws kept lt rooms;
  free = fits;
  room = list;
  maps = λ m. refl;
  newest = λ k. refl;
  kept = λ k. refl;
  listed = λ gs h. groups-found es gs (unpinned ls ∷ gs) (λ k n high t. or_right (is_in ls k n high) (is_listed gs k n high) t) h;
  seen = subst (AreSeenFrom (n - 1)) (sym none) tt;
  added = λ k. added-refl n (find_chain k es);
  followed = subst (AllByRecursion (IsFollowed n es)) (sym none) tt;
})

-- ---- an opened map

-- the chain of the map's next pair stands above those that were made
pub base-next : (es : Chains) (m rest next : KeyMap) (p : Bytes × Bytes) → IsMap m → rest ≡ p ∷ next → es ++ base_chains rest ≡ base_chains m
    → IsSorted (es ++ (p.0, fresh_chain (stamped 0 (Some p.1)) 0) ∷ [])
base-next es m rest next p h is all =
    let e : Bytes × ChainValue = (p.0, fresh_chain (stamped 0 (Some p.1)) 0) in
    let whole : (es ++ e ∷ []) ++ base_chains next ≡ base_chains m =
    append_assoc es (e ∷ []) (base_chains next) ∙ ap (λ (l : KeyMap). es ++ base_chains l) (sym is) ∙ all in
    sorted_left key_cmp (es ++ e ∷ []) (base_chains next) (subst IsSorted (sym whole) (sorted_base m h))

pub stands-opened : (v : ChainsValue) (m : KeyMap) → IsMap m → v.chains ≡ base_chains m → v.last ≡ 0 → v.groups ≡ [] → StandsFor v (λ _. true) m []
stands-opened v m is_map is last none = record {
  is_map = is_map;
  maps = λ n t. ap (visible n) is ∙ visible-base n m;
  newest = λ k. ap (λ es. option_map (λ (c : ChainValue). c.newest.number) (find_chain k es)) is ∙ newest-base k m;
  within = omega (arith, last);
  known = λ n t. or_right (is_among v.held n) (nat_le v.last n) (grind (arith, nat_tests, last));
  pinned = subst (AreUnderPins (λ _. true) v) (sym none) tt;
}
