-- The serial order of a history: each dependency leads to a later place. Sorted by place, the history has each record once, keeps real time, and
-- replays.
use Rattle.std.proofs.Common.{◌≡◌, ◌⊎◌, ◌<◌, ◌≤◌, false, ◌&&◌, List, Option, Some, None, refl, ap, arith, inl, inr}
use Rattle.std.proofs.Common.{IsTrue, nat_lt, Contains, le-leb, ltb-true, lt-ltb, fold, ◌≢◌, ℕ, suc, ◌+◌, Bool, true}
use Rattle.std.proofs.Common.{cond, [], ◌∷◌, ◌++◌, sym, subst, ◌∙◌, length, get_or, append_assoc, append-nil, nat_le}
use Rattle.std.proofs.Common.{AllPairs, IsPermutation, filter}
use Rattle.std.proofs.lemmas.Bool.{and_parts, and_from, cases_lt, cases_Bool, both_ways, lt-leb, cond_both}
use Rattle.std.proofs.lemmas.Bool.Decides.{nat_tests}
use Rattle.std.proofs.lemmas.Grind.{common_steps, fold-append}
use Rattle.std.proofs.lemmas.List.Elements.{All-contains, All-filter, All-from_recursion, filter_passes}
use Rattle.std.proofs.lemmas.List.Elements.{recursion_from_All}
use Rattle.std.proofs.lemmas.List.Kept.{AllPairs-cons}
use Rattle.std.proofs.lemmas.List.Sorted.{All-permutation, IsPermutation-refl, IsPermutation-cons}
use Rattle.std.proofs.lemmas.List.Sorted.{IsPermutation-middle, IsPermutation-trans, Contains-permutation}
use Rattle.std.specs.List.{AllByRecursion}
use Rattle.model.proofs.Copies.{replayed}
use Rattle.model.proofs.Cycles.{dependency_in}
use Rattle.model.proofs.Elements.{all-each, all-front, all-back}
use Rattle.model.proofs.Lookups.{any_at_key, value_after_alike, value_after_others, IsMap-after_writes, same_map}
use Rattle.model.proofs.Members.{In, in_from_Contains, any_from_in, found, none_found, first_is_least, IsRising}
use Rattle.model.proofs.Members.{rising_from_numbered, Contains-from_in, at_in, each_in, commit_low}
use Rattle.model.specs.Dependency.{concurrent_read_write, is_dangerous_pivot, writes_key, reads_key, write_alike}
use Rattle.model.specs.Dependency.{reads_from, dependency, NoConcurrentWriters}
use Rattle.model.specs.History.{Record, IsFaithful, IsTrueRecord, map_at}
use Rattle.model.specs.Laws.{PlacesRise, PlacesKeepTime, ReplayLaw, IsAhead, OrdersKeepTime}
use Rattle.model.specs.Map.{KeyMap, Bytes, IsMap, value_at, after_writes}
use Rattle.model.specs.PrivateCopy.{copy_of, copy_after, is_covered}
use Rattle.model.specs.SerialOrder.{Place, is_before, place, place_before, first_overwriter, placed, by_place}
use Rattle.model.specs.SerialOrder.{serial_order, replay, ReplaysReplies}
use Rattle.model.specs.Verdict.{HasNoDangerousPivot}

-- ---- where a transaction stands

-- right before the first concurrent one that overwrote what it read
pub record StandsBefore (history : List Record) (t : Record) : Type 0 where
  pub other : Record
  pub at : place history t ≡ record { first = other.commit; second = 0; third = t.commit }
  pub member : In other history
  pub dependency : IsTrue (concurrent_read_write t other)
  pub earlier : other.commit < t.commit
  pub least : (z : Record) → In z history → IsTrue (concurrent_read_write t z) → z.commit < t.commit → other.commit ≤ z.commit

-- where it committed
pub record StandsAtCommit (history : List Record) (t : Record) : Type 0 where
  pub at : place history t ≡ record { first = t.commit; second = 1; third = 0 }
  pub none : (z : Record) → In z history → IsTrue (concurrent_read_write t z) → z.commit < t.commit → ⊥

pub stand_of : (history : List Record) → IsRising history → (t : Record) → StandsBefore history t ⊎ StandsAtCommit history t
stand_of history rise t = by (first_overwriter history t) refl
  where
    by : (o : Option Record) → first_overwriter history t ≡ o → StandsBefore history t ⊎ StandsAtCommit history t
    by None e = inr (record {
      at = ap (λ o. place_before o t) e;
      none = λ z h e' less. none_found (λ y. concurrent_read_write t y
          && nat_lt y.commit t.commit) history e z h (and_from _ _ e' (lt-ltb z.commit t.commit less));
    })
    by (Some y) e =
        let f = found (λ y. concurrent_read_write t y && nat_lt y.commit t.commit) history y e in
        let parts = and_parts (concurrent_read_write t y) (nat_lt y.commit t.commit) f.passes in
        inl (record {
          other = y;
          at = ap (λ o. place_before o t) e;
          member = f.member;
          dependency = parts.0;
          earlier = ltb-true _ _ parts.1;
          least = λ z h e' less. first_is_least (λ y. concurrent_read_write t y
              && nat_lt y.commit t.commit) history rise y e z h (and_from _ _ e' (lt-ltb z.commit t.commit less));
        })

first_le_commit : (history : List Record) → IsRising history → (t : Record) → (place history t).first ≤ t.commit
first_le_commit history rise t = elim (stand_of history rise t) [
  | inl s ↦ let e = ap (λ (p : Place). p.first) s.at in let less = s.earlier in omega (arith, e, less)
  | inr s ↦ omega (arith, ap (λ (p : Place). p.first) s.at)
]

-- ---- the dependencies

-- one that had committed when the other began stands before it
pub apart_rise : (history : List Record) → IsRising history → (a b : Record) → b.begin < b.commit → a.commit ≤ b.begin
    → IsTrue (is_before (place history a) (place history b))
apart_rise history rise a b begins over =
    let low = first_le_commit history rise a in
    elim (stand_of history rise b) [
      | inl s ↦ let at = s.at in let dependency_out = s.dependency in grind (arith, nat_tests)
      | inr s ↦ let at = s.at in grind (arith, nat_tests)
    ]

concurrent_rise : (history : List Record) → IsRising history → (a b : Record) → In a history → In b history → is_dangerous_pivot history b ≡ false →
    IsTrue (concurrent_read_write a b) → IsTrue (is_before (place history a) (place history b))
concurrent_rise history rise a b a_in b_in no_pivot e =
    elim (stand_of history rise b) [
      | inl s ↦ let at = s.at in grind (arith, common_steps, cases_lt, first_le_commit, both_ways, any_from_in, and_from, lt-ltb, le-leb)
      | inr s ↦ elim (stand_of history rise a) [
        | inl u ↦ let at = s.at in let at' = u.at in let early = u.earlier in let least = u.least b b_in e in grind (arith, nat_tests)
        | inr u ↦ let at = s.at in let at' = u.at in let none = u.none b b_in e in grind (arith, nat_tests)
      ]
    ]

pub begins_before : (base : KeyMap) (history : List Record) → IsFaithful base history → (t : Record) → Contains history t → t.begin < t.commit
begins_before base history faithful t t_in = let is : IsTrueRecord base history t =
    All-contains (IsTrueRecord base history) history t faithful.records t_in in is.begins_before

pub places_keep_time : PlacesKeepTime
places_keep_time base history faithful a b a_in b_in over =
    apart_rise history (rising_from_numbered 0 history faithful.numbered) a b (begins_before base history faithful b b_in) over

pub places_rise : PlacesRise
places_rise base history faithful no_pivot apart a b a_in b_in e =
    let rise = rising_from_numbered 0 history faithful.numbered in
    elim (cases_lt b.begin a.commit) [
      | inl less ↦ concurrent_rise history rise a b (in_from_Contains history a a_in) (in_from_Contains history b b_in) (no_pivot b b_in)
          (dependency_in a b (begins_before base history faithful a a_in) less (apart a b a_in b_in) e)
      | inr over ↦ apart_rise history rise a b (begins_before base history faithful b b_in) over
    ]

-- ---- the order of places

not_both : (p q : Place) → is_before p q ≡ true → is_before q p ≡ false
not_both p q h = grind (arith, nat_tests)

-- ---- filters

filter_all : (p : Record → Bool) (xs : List Record) → AllByRecursion (λ x. p x ≡ true) xs → filter p xs ≡ xs
filter_all p [] h = refl
filter_all p (x ∷ xs) h = grind (arith, common_steps, filter_all p xs h.1)

pub filter_none : (p : Record → Bool) (xs : List Record) → AllByRecursion (λ x. p x ≡ false) xs → filter p xs ≡ []
filter_none p [] h = refl
filter_none p (x ∷ xs) h = grind (arith, common_steps, filter_none p xs h.1)

filter_swap : (p q : Record → Bool) (xs : List Record) → filter p (filter q xs) ≡ filter q (filter p xs)
filter_swap p q [] = refl
filter_swap p q (x ∷ xs) = grind (arith, common_steps, filter_swap p q xs)

-- those that pass q pass p too before a place, and none from there on
filter_before : (p q : Record → Bool) (xs ys : List Record) → AllByRecursion (λ x. q x ≡ true → p x ≡ true) xs → AllByRecursion (λ y. p y ≡ false) ys →
    filter p (filter q (xs ++ ys)) ≡ filter q xs
filter_before p q [] ys h g = filter_swap p q ys ∙ ap (filter q) (filter_none p ys g)
filter_before p q (x ∷ xs) ys h g = grind (arith, common_steps, cases_Bool, filter_before p q xs ys h.1 g)

-- ---- the sort

abbrev IsPairwise : (Record → Record → Type 0) → List Record → Type 0
IsPairwise R [] = Unit {0}
IsPairwise R (t ∷ ts) = AllByRecursion (R t) ts × IsPairwise R ts

module _ (history : List Record) where
  -- t may stand before u
  record MayPrecede (t u : Record) : Type 0 where
    not_after : is_before (place history u) (place history t) ≡ false
    differs : t.commit ≢ u.commit

  abbrev Precedes : Record → Record → Type 0
  Precedes t u = is_before (place history t) (place history u) ≡ true

  -- each stands in the order once
  permuted_placed : (t : Record) (us : List Record) → IsPermutation (t ∷ us) (placed history t us)
  permuted_placed t [] = IsPermutation-refl (t ∷ [])
  permuted_placed t (u ∷ us) = cond_both (is_before (place history t) (place history u)) _ _ (IsPermutation (t ∷ u ∷ us)) (λ _. IsPermutation-refl (t ∷ u ∷ us))
      (λ _. IsPermutation-trans _ (u ∷ t ∷ us) _ (IsPermutation-middle (t ∷ []) u us) (IsPermutation-cons u _ _ (permuted_placed t us)))

  permuted_by_place : (ts : List Record) → IsPermutation ts (by_place history ts)
  permuted_by_place [] = IsPermutation-refl []
  permuted_by_place (t ∷ ts) = IsPermutation-trans _ _ _ (IsPermutation-cons t _ _ (permuted_by_place ts)) (permuted_placed t (by_place history ts))

  each_permuted : (P : Record → Type 0) (ts us : List Record) → IsPermutation ts us → AllByRecursion P ts → AllByRecursion P us
  each_permuted P ts us p h = recursion_from_All P us (All-permutation P ts us p (All-from_recursion P ts h))

  ordered_placed : (t : Record) (us : List Record) → AllByRecursion (λ u. t.commit ≢ u.commit) us → IsPairwise MayPrecede us
      → IsPairwise MayPrecede (placed history t us)
  ordered_placed t [] h g = (tt, tt)
  ordered_placed t (u ∷ us) h g = cond_both (is_before (place history t) (place history u)) (t ∷ u ∷ us) (u ∷ placed history t us) (IsPairwise MayPrecede)
      (λ e. grind (arith, common_steps, not_both, each_in, at_in))
      (λ e. (
        each_permuted (MayPrecede u) (t ∷ us) (placed history t us) (permuted_placed t us) (record { not_after = e; differs = λ q. h.0 (sym q) }, g.0),
        ordered_placed t us h.1 g.1,
      ))

  ordered_by_place : (ts : List Record) → IsRising ts → IsPairwise MayPrecede (by_place history ts)
  ordered_by_place [] h = tt
  ordered_by_place (t ∷ ts) h = ordered_placed t (by_place history ts)
      (each_permuted (λ u. t.commit
      ≢ u.commit) ts (by_place history ts) (permuted_by_place ts)
      (all-each (λ u. t.commit < u.commit) (λ u. t.commit ≢ u.commit) ts (λ u less. omega arith) h.0))
      (ordered_by_place ts h.1)

  -- those that pass keep their order, where they stand in place
  filter_placed_skips : (p : Record → Bool) (t : Record) (us : List Record) → p t ≡ false → filter p (placed history t us) ≡ filter p us
  filter_placed_skips p t [] h = ap (λ b. cond b (t ∷ []) []) h
  filter_placed_skips p t (u ∷ us) h = grind (arith, common_steps, filter_placed_skips p t us h)

  filter_placed : (p : Record → Bool) (t : Record) (us : List Record) → p t ≡ true → AllByRecursion (Precedes t) (filter p us)
      → filter p (placed history t us) ≡ t ∷ filter p us
  filter_placed p t [] h g = ap (λ b. cond b (t ∷ []) []) h
  filter_placed p t (u ∷ us) h g = grind (arith, common_steps, both_ways, filter_placed p t us h)

  filter_by_place : (p : Record → Bool) (ts : List Record) → IsPairwise Precedes (filter p ts) → filter p (by_place history ts) ≡ filter p ts
  filter_by_place p [] h = refl
  filter_by_place p (t ∷ ts) h = grind (arith, common_steps, filter_placed, filter_placed_skips, filter_by_place p ts)

-- ---- real time

module _ (base : KeyMap) (history : List Record) (faithful : IsFaithful base history) where
  began_before : (t u : Record) → In t history → MayPrecede history t u → t.begin < u.commit
  began_before t u t_in may = grind (arith, common_steps, cases_lt, both_ways, apart_rise, rising_from_numbered, begins_before, Contains-from_in)

  in_time : (ts : List Record) → AllByRecursion (λ t. In t history) ts → IsPairwise (MayPrecede history) ts → AllPairs (λ (a b : Record). a.begin < b.commit) ts
  in_time [] are order = λ i j d less lt. absurd (omega arith)
  in_time (t ∷ ts) are order = AllPairs-cons (λ (a b : Record). a.begin < b.commit) t ts
      (All-from_recursion (λ (u : Record). t.begin
      < u.commit) ts (all-each (MayPrecede history t) (λ u. t.begin < u.commit) ts (λ u may. began_before t u are.0 may) order.0))
      (in_time ts are.1 order.1)

-- ---- maps after records

-- the map with the writes of the records in it, one after another
abbrev after_all : KeyMap → List Record → KeyMap
after_all m rs = fold (λ b r. after_writes b r.writes) m rs

IsMap-after_all : (m : KeyMap) (rs : List Record) → IsMap m → IsMap (after_all m rs)
IsMap-after_all m [] h = h
IsMap-after_all m (r ∷ rs) h = IsMap-after_all (after_writes m r.writes) rs (IsMap-after_writes m r.writes h)

-- the records up to a commit number, and those that write a key
abbrev up_to : ℕ → List Record → List Record
up_to n rs = filter (λ r. nat_le r.commit n) rs

abbrev writing : Bytes → List Record → List Record
writing k rs = filter (λ r. writes_key r k) rs

map_at_is : (base : KeyMap) (rs : List Record) (n : ℕ) → map_at base rs n ≡ after_all base (up_to n rs)
map_at_is base [] n = refl
map_at_is base (r ∷ rs) n = grind (arith, common_steps, map_at_is (after_writes base r.writes) rs n, map_at_is base rs n)

-- at a key the writers of the key decide
value_by_writers : (k : Bytes) (rs : List Record) (m n : KeyMap) → value_at m k ≡ value_at n k
    → value_at (after_all m rs) k ≡ value_at (after_all n (writing k rs)) k
value_by_writers k [] m n h = h
value_by_writers k (r ∷ rs) m n h = grind (arith, common_steps, value_after_alike, value_after_others, value_by_writers k rs)

-- ---- the replay

-- a record in the order, with those before it and those behind it
ordered_split : (history front : List Record) (t : Record) (rest : List Record) → IsPairwise (MayPrecede history) (front ++ t ∷ rest) →
    AllByRecursion (λ u. MayPrecede history u t) front × AllByRecursion (MayPrecede history t) rest
ordered_split history [] t rest h = (tt, h.0)
ordered_split history (u ∷ us) t rest h =
    let parts = ordered_split history us t rest h.1 in
    (((all-back (MayPrecede history u) us (t ∷ rest) h.0).0, parts.0), parts.1)

module _ (base : KeyMap) (history : List Record) (faithful : IsFaithful base history) (no_pivot : HasNoDangerousPivot history)
    (apart : NoConcurrentWriters history) where
  true_record : (t : Record) → In t history → IsTrueRecord base history t
  true_record t t_in = All-contains (IsTrueRecord base history) history t faithful.records (Contains-from_in history t t_in)

  rise : (t u : Record) → In t history → In u history → IsTrue (dependency t u) → Precedes history t u
  rise t u t_in u_in e = places_rise base history faithful no_pivot apart t u (Contains-from_in history t t_in) (Contains-from_in history u u_in) e

  -- of two writers of a key the one that committed first stands first
  writers_rise : (k : Bytes) (t u : Record) → In t history → In u history → writes_key t k ≡ true → writes_key u k ≡ true → t.commit < u.commit
      → Precedes history t u
  writers_rise k t u t_in u_in w v less =
      let alike : write_alike t u ≡ true = any_at_key (λ x. writes_key u x) k t.writes w v in
      let e : dependency t u ≡ true = grind (arith, nat_tests) in rise t u t_in u_in e

  -- a reader of a key stands behind no writer that its begin didn't see
  seen : (k : Bytes) (u t : Record) → In u history → In t history → MayPrecede history u t → reads_key t k ≡ true → writes_key u k ≡ true
      → nat_le u.commit t.begin ≡ true
  seen k u t u_in t_in may read w =
      let reads : reads_from t u ≡ true = any_at_key (λ x. reads_key t x) k u.writes w read in
      let back : dependency t u ≡ true → ⊥ = λ e. both_ways _ may.not_after (rise t u t_in u_in e) in
      let differs = may.differs in grind (arith, nat_tests)

  writers_in_place : (k : Bytes) (ts : List Record) → AllByRecursion (λ t. In t history) ts → IsRising ts → IsPairwise (Precedes history) (writing k ts)
  writers_in_place k [] are up = tt
  writers_in_place k (t ∷ ts) are up =
      let writer = λ (r : Record). writes_key r k in
      let rest = writers_in_place k ts are.1 up.1 in
      cond_both (writes_key t k) (t ∷ writing k ts) (writing k ts) (IsPairwise (Precedes history))
      (λ w. (
        recursion_from_All (Precedes history t) (writing k ts) (λ i d lt. writers_rise k t (get_or (writing k ts) i d) are.0
            (All-filter writer (λ v. In v history) ts (All-from_recursion (λ v. In v history) ts are.1) i d lt) w (filter_passes writer ts i d lt)
            (All-filter writer (λ v. t.commit < v.commit) ts (All-from_recursion (λ v. t.commit < v.commit) ts up.0) i d lt)),
        rest,
      ))
      (λ _. rest)

  -- the writers of a key stand in the order of their commits
  writers_kept : (k : Bytes) → writing k (by_place history history) ≡ writing k history
  writers_kept k = filter_by_place history (λ r. writes_key r k) history
      (writers_in_place k history (each_in (λ t. In t history) history (λ t h. h)) (rising_from_numbered 0 history faithful.numbered))

  in_order : AllByRecursion (λ t. In t history) (by_place history history)
  in_order = each_permuted history (λ t. In t history) history (by_place history history) (permuted_by_place history history)
      (each_in (λ t. In t history) history (λ t h. h))

  ordered : IsPairwise (MayPrecede history) (by_place history history)
  ordered = ordered_by_place history history (rising_from_numbered 0 history faithful.numbered)

  -- where t stands, the map has at each key that t reads what it had at t's begin: the writers that the begin saw are those that stand before t
  agrees : (front : List Record) (t : Record) (rest : List Record) → by_place history history ≡ front ++ t ∷ rest →
      (k : Bytes) → reads_key t k ≡ true → value_at (map_at base history t.begin) k ≡ value_at (after_all base front) k
  agrees front t rest split k read =
      let are : AllByRecursion (λ u. In u history) (front ++ t ∷ rest) = subst (AllByRecursion (λ u. In u history)) split in_order in
      let t_in : In t history = (all-back (λ u. In u history) front (t ∷ rest) are).0 in
      let order = ordered_split history front t rest (subst (IsPairwise (MayPrecede history)) split ordered) in
      let begins : t.begin < t.commit = (true_record t t_in).begins_before in
      let early : AllByRecursion (λ u. writes_key u k ≡ true → nat_le u.commit t.begin ≡ true) front =
      each_in _ front (λ u u_in w. seen k u t (at_in (λ v. In v history) front u (all-front (λ v. In v history) front (t ∷ rest) are) u_in) t_in
      (at_in (λ v. MayPrecede history v t) front u order.0 u_in) read w) in
      let late : AllByRecursion (λ u. nat_le u.commit t.begin ≡ false) (t ∷ rest) = (
        lt-leb t.commit t.begin begins,
        all-each (MayPrecede history t) _ rest (λ u may. lt-leb u.commit t.begin (began_before base history faithful t u t_in may)) order.1,
      ) in
      ap (λ m. value_at m k) (map_at_is base history t.begin)
      ∙ value_by_writers k (up_to t.begin history) base base refl
      ∙ ap (λ rs. value_at (after_all base rs) k) (filter_swap (λ r. writes_key r k) (λ r. nat_le r.commit t.begin) history
      ∙ ap (up_to t.begin) (sym (writers_kept k) ∙ ap (writing k) split)
      ∙ filter_before (λ r. nat_le r.commit t.begin) (λ r. writes_key r k) front (t ∷ rest) early late)
      ∙ sym (value_by_writers k front base base refl)

  walk : (front rest : List Record) → by_place history history ≡ front ++ rest →
      ReplaysReplies (after_all base front) rest × (replay (after_all base front) rest ≡ after_all base (front ++ rest))
  walk front [] split = (tt, ap (after_all base) (sym (append-nil front)))
  walk front (t ∷ rest) split =
      let t_in : In t history = (all-back (λ u. In u history) front (t ∷ rest) (subst (AllByRecursion (λ u. In u history)) split in_order)).0 in
      let is = true_record t t_in in
      let was : IsMap (map_at base history t.begin) =
      subst IsMap (sym (map_at_is base history t.begin)) (IsMap-after_all base (up_to t.begin history) faithful.is_map) in
      let here = replayed (map_at base history t.begin) (after_all base front) t.requests was (IsMap-after_all base front faithful.is_map)
      (λ k h. agrees front t rest split k (ap (λ ms. is_covered ms k) is.reads ∙ h)) in
      let left : (copy_after (copy_of (after_all base front)) t.requests).contents ≡ after_all base (front ++ t ∷ []) =
      here.contents ∙ ap (after_writes (after_all base front)) (sym is.writes)
      ∙ sym (fold-append (λ (b : KeyMap) (r : Record). after_writes b r.writes) base front (t ∷ [])) in
      let next = walk (front ++ t ∷ []) rest (split ∙ sym (append_assoc front (t ∷ []) rest)) in (
        (sym here.replies ∙ sym is.replies, subst (λ m. ReplaysReplies m rest) (sym left) next.0),
        ap (λ m. replay m rest) left ∙ next.1 ∙ ap (after_all base) (append_assoc front (t ∷ []) rest),
      )

  same_end_map : after_all base (by_place history history) ≡ map_at base history (length history)
  same_end_map =
      same_map (after_all base (by_place history history)) (after_all base history) (IsMap-after_all base (by_place history history) faithful.is_map)
      (IsMap-after_all base history faithful.is_map)
      (λ k. value_by_writers k (by_place history history) base base refl ∙ ap (λ rs. value_at (after_all base rs) k) (writers_kept k)
      ∙ sym (value_by_writers k history base base refl))
      ∙ ap (after_all base) (sym (filter_all (λ r. nat_le r.commit (length history)) history
      (all-each (λ r. r.commit
      ≤ 0 + length history) _ history (λ r low. le-leb r.commit (length history) (omega arith)) (commit_low 0 history faithful.numbered))))
      ∙ sym (map_at_is base history (length history))

pub replay_law : ReplayLaw
unfolding serial_order
replay_law base history faithful no_pivot apart =
    let w = walk base history faithful no_pivot apart [] (by_place history history) refl in record {
      each_once = permuted_by_place history history;
      real_time = in_time base history faithful (by_place history history) (in_order base history faithful no_pivot apart)
          (ordered base history faithful no_pivot apart);
      replies = w.0;
      final_map = w.1 ∙ same_end_map base history faithful no_pivot apart;
    }

-- ---- in any serial order one that had committed when another began stands before that

-- what stands before and behind an element
split_at : (xs : List Record) (x : Record) → In x xs → (front back : List Record) × (xs ≡ front ++ x ∷ back)
split_at [] x h = absurd h
split_at (y ∷ ys) x (inl e) = ([], ys, ap (λ z. z ∷ ys) (sym e))
split_at (y ∷ ys) x (inr g) = let s = split_at ys x g in (y ∷ s.0, s.1, ap (λ l. y ∷ l) s.2)

abbrev Began : Record → Record → Type 0
Began a b = a.begin < b.commit

ahead : (order : List Record) (a b : Record) → AllPairs Began order → b.begin < b.commit → a.commit ≤ b.begin → In a order → In b order → IsAhead order a b
ahead [] a b time begins over a_in b_in = absurd a_in
ahead (x ∷ xs) a b time begins over (inl a_is) (inl b_is) = let same : a.commit ≡ b.commit =
    ap (λ (r : Record). r.commit) (a_is ∙ sym b_is) in absurd (omega arith)
ahead (x ∷ xs) a b time begins over (inl a_is) (inr b_later) = let s =
    split_at xs b b_later in ([], s.0, s.1, ap (λ z. z ∷ xs) (sym a_is) ∙ ap (λ l. a ∷ l) s.2)
ahead (x ∷ xs) a b time begins over (inr a_later) (inl b_is) =
    let none : x.begin < a.commit = All-contains (Began x) xs a (λ k d lt. time 0 (suc k) d (omega arith) (omega arith)) (Contains-from_in xs a a_later) in
    let same : b.begin ≡ x.begin = ap (λ (r : Record). r.begin) b_is in absurd (omega arith)
ahead (x ∷ xs) a b time begins over (inr a_later) (inr b_later) =
    let rest = ahead xs a b (λ i j d less lt. time (suc i) (suc j) d (omega arith) (omega arith)) begins over a_later b_later in
    (x ∷ rest.0, rest.1, rest.2, ap (λ l. x ∷ l) rest.3)

pub orders_keep_time : OrdersKeepTime
orders_keep_time base history order faithful serial a b a_in b_in over = ahead order a b serial.real_time (begins_before base history faithful b b_in) over
    (in_from_Contains order a (Contains-permutation history order a serial.each_once a_in))
    (in_from_Contains order b (Contains-permutation history order b serial.each_once b_in))
