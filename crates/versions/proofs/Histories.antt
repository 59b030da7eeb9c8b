-- The histories that versions stand for, from call to call.
use Rattle.std.proofs.Common.{◌≡◌, ℕ, ◌+◌, ◌<◌, ◌≤◌, Bool, ◌&&◌, List, [], ◌∷◌, ◌++◌, length, Option, Some, refl, sym}
use Rattle.std.proofs.Common.{ap, subst, ◌∙◌, arith, inl, inr, length-append}
use Rattle.std.proofs.lemmas.Bool.{and_parts, or_cases, or_left, or_right, cond_both}
use Rattle.std.proofs.lemmas.Bool.Decides.{nat_tests}
use Rattle.std.specs.Prelude.{◌↔◌, ◌||◌, IsTrue, option_map, nat_le, if◌then◌else◌}
use Rattle.model.proofs.Lookups.{IsMap-after_writes}
use Rattle.model.specs.Dependency.{writes_key}
use Rattle.model.specs.History.{Record, map_at}
use Rattle.model.specs.Map.{Bytes, KeyMap, KeyWrite, IsMap, after_writes, value_at}
use Rattle.versions.proofs.UnderPins.{groups-under, under-roomier, under-roomy}
use Rattle.versions.specs.Chains.{ChainsValue, AreRoomier}
use Rattle.versions.specs.Meaning.{is_among, is_known, IsSameMeaning, IsInstalled, IsSeenSame}
use Rattle.versions.specs.StandsFor.{AreHeldWhereKnown, StandsFor, StandWhereAmong, ClassifiedWhereActive}
use Rattle.versions.specs.StandsFor.{last_writer_from}
use Rattle.versions.specs.Pins.{AreUnderPins}

pub map_at-push : (base : KeyMap) (rs : List Record) (r : Record) (n : ℕ)
    → map_at base (rs ++ r ∷ []) n ≡ (if nat_le r.commit n then after_writes (map_at base rs n) r.writes else map_at base rs n)
map_at-push base [] r n = refl
map_at-push base (s ∷ rs) r n = map_at-push (if nat_le s.commit n then after_writes base s.writes else base) rs r n

last_writer-push : (d : Option ℕ) (rs : List Record) (r : Record) (k : Bytes)
    → last_writer_from d (rs ++ r ∷ []) k ≡ (if writes_key r k then Some r.commit else last_writer_from d rs k)
last_writer-push d [] r k = refl
last_writer-push d (s ∷ rs) r k = last_writer-push (if writes_key s k then Some s.commit else d) rs r k

-- what a number sees of each page is known as it was
same_known : (n : ℕ) (v new : ChainsValue) → new.held ≡ v.held → new.last ≡ v.last → is_known n new ≡ is_known n v
same_known n v new held last = λ i. is_among (held i) n || nat_le (last i) n

module _ (v : ChainsValue) (active : ℕ → Bool) (base : KeyMap) (history : List Record) where
  -- a record without writes
  pub stands-read_only : (r : Record) → r.writes ≡ [] → StandsFor v active base history → StandsFor v active base (history ++ r ∷ [])
  stands-read_only r e s = record {
    is_map = s.is_map;
    maps = λ n t. s.maps n t ∙ sym (let same = e in grind (arith, map_at-push base history r n));
    newest = λ k. grind (arith, s.newest k, last_writer-push (option_map (λ _. 0) (value_at base k)) history r k, e);
    within = (let w = s.within in omega (arith, length-append history (r ∷ [])));
    known = s.known;
    pinned = s.pinned;
  }

  module _ (new : ChainsValue) where
    pub stands-same : IsSameMeaning v new → AreRoomier v.chains new.chains → new.groups ≡ v.groups → new.held ≡ v.held → StandsFor v active base history
        ↔ StandsFor new active base history
    stands-same h more same held = (
      λ s. record {
        is_map = s.is_map;
        maps = λ n t. (let last = h.last in grind (arith, h.maps n, s.maps n));
        newest = λ k. h.newest k ∙ s.newest k;
        within = subst (λ l. l ≤ length history) (sym h.last) s.within;
        known = λ n t. same_known n v new held h.last ∙ s.known n t;
        pinned = subst (AreUnderPins active new) (sym same) (groups-under active active v new v.groups (under-roomier active v new more h.last) s.pinned);
      },
      λ s. record {
        is_map = s.is_map;
        maps = λ n t. (let last = h.last in grind (arith, h.maps n, s.maps n));
        newest = λ k. sym (h.newest k) ∙ s.newest k;
        within = subst (λ l. l ≤ length history) h.last s.within;
        known = λ n t. sym (same_known n v new held h.last) ∙ s.known n t;
        pinned = groups-under active active new v v.groups (under-roomy active v new more h.last) (subst (AreUnderPins active new) same s.pinned);
      },
    )

    pub stands-installed : (n : ℕ) (ws : List KeyWrite) (r : Record) → IsInstalled v new n ws
        → (AreUnderPins active v v.groups → AreUnderPins active new new.groups) → v.last < n → length history + 1 ≡ n → r.commit ≡ n → r.writes ≡ ws
        → ((m : ℕ) → IsTrue (active m) → IsTrue (is_among v.held m)) → StandsFor v active base history → StandsFor new active base (history ++ r ∷ [])
    stands-installed n ws r h under lt long commit is held s =
        let last = h.last in
        record {
          is_map = s.is_map;
          maps = λ m t. grind (arith, nat_tests, h.maps m, s.maps m, map_at-push base history r m, commit, is);
          newest = λ k. grind (arith, h.newest k, s.newest k, last_writer-push (option_map (λ _. 0) (value_at base k)) history r k);
          within = omega (arith, length-append history (r ∷ []));
          known = λ m t. or_left (is_among new.held m) (nat_le new.last m) (ap (λ l. is_among l m) h.held ∙ held m t);
          pinned = under s.pinned;
        }

    pub stands-reclaimed : (bs : List ℕ) → IsSeenSame v new bs → AreHeldWhereKnown bs v new
        → (AreUnderPins active v v.groups → AreUnderPins (λ n. active n && is_among bs n) new new.groups) → StandsFor v active base history
        → StandsFor new (λ n. active n && is_among bs n) base history
    stands-reclaimed bs h held under s =
        let last = h.last in
        record {
          is_map = s.is_map;
          maps = λ n t. grind (arith, h.maps n, s.maps n);
          newest = λ k. h.newest k ∙ s.newest k;
          within = omega (arith, s.within);
          known = λ n t. (
              let both = and_parts (active n) (is_among bs n) t in
              or_left (is_among new.held n) (nat_le new.last n) (held n both.1 (s.known n both.0)));
          pinned = under s.pinned;
        }

-- ---- a reclaim, step by step

-- the same numbers taken in twice leave the same ones active
abbrev active_twice : (bs : List ℕ) (active : ℕ → Bool) (n : ℕ) → ((active n && is_among bs n) && is_among bs n) ≡ (active n && is_among bs n)
active_twice bs active n = grind arith

pub stands-on : (bs : List ℕ) (old mid new : ChainsValue) → StandWhereAmong bs old mid → StandWhereAmong bs mid new → StandWhereAmong bs old new
stands-on bs old mid new g h = λ active base history s.
    subst (λ (f : ℕ → Bool). StandsFor new f base history) (λ i n. active_twice bs active n i)
    (h (λ n. active n && is_among bs n) base history (g active base history s))

pub classified-on : (bs : List ℕ) (old mid new : ChainsValue) → StandWhereAmong bs old mid → ClassifiedWhereActive bs mid new → ClassifiedWhereActive bs old new
classified-on bs old mid new g h = λ active base history s all.
    h (λ n. active n && is_among bs n) base history (g active base history s) (λ n t. ap (λ b. b && is_among bs n) (all n t) ∙ t)

pub stands-itself : (bs : List ℕ) (v : ChainsValue) → StandWhereAmong bs v v
stands-itself bs v = λ active base history s. record {
  is_map = s.is_map;
  maps = λ n t. s.maps n (elim (or_cases (active n && is_among bs n) (nat_le v.last n) t) [
    | inl e ↦ or_left (active n) (nat_le v.last n) (and_parts (active n) (is_among bs n) e).0
    | inr e ↦ or_right (active n) (nat_le v.last n) e
  ]);
  newest = s.newest;
  within = s.within;
  known = λ n t. s.known n (and_parts (active n) (is_among bs n) t).0;
  pinned = groups-under active (λ n. active n && is_among bs n) v v v.groups (λ w x h. record {
    before = h.before;
    rises = h.rises;
    installed = h.installed;
    between = λ b t. h.between b (and_parts (active b) (is_among bs b) t).0;
    chain = λ c found. (let u = h.chain c found in record {
      behind = u.behind;
      installed = u.installed;
      sees = λ b t. u.sees b (and_parts (active b) (is_among bs b) t).0;
    });
  }) s.pinned;
}

-- ---- other numbers are held

-- where of the active numbers only these stay so, and are held
pub stands-holding : (bs held : List ℕ) (v : ChainsValue) → AreHeldWhereKnown bs v (record v { held = held })
    → StandWhereAmong bs v (record v { held = held })
stands-holding bs held v each = λ active base history s.
    let few = stands-itself bs v active base history s in
    let now = λ (n : ℕ). active n && is_among bs n in
    record {
      is_map = few.is_map;
      maps = few.maps;
      newest = few.newest;
      within = few.within;
      known = λ n t. (
          let both = and_parts (active n) (is_among bs n) t in
          or_left (is_among held n) (nat_le v.last n) (each n both.1 (s.known n both.0)));
      pinned = groups-under now now v (record v { held = held }) v.groups
          (λ w x h. record { before = h.before; rises = h.rises; installed = h.installed; between = h.between; chain = h.chain }) few.pinned;
    }

-- what stands for a history sees maps
pub maps-history : (base : KeyMap) (history : List Record) (n : ℕ) → IsMap base → IsMap (map_at base history n)
maps-history base [] n h = h
maps-history base (r ∷ history) n h =
    let one = cond_both (nat_le r.commit n) (after_writes base r.writes) base IsMap (λ t. IsMap-after_writes base r.writes h) (λ f. h) in
    maps-history (if nat_le r.commit n then after_writes base r.writes else base) history n one
