-- The laws of each state that the machine reaches, from those of `model`.
use Rattle.std.proofs.Common.{◌≡◌, ℕ, true, List, [], ◌∷◌, sym, ap, subst, ◌∙◌, arith, inl, inr, IsTrue, Contains}
use Rattle.std.proofs.Common.{Option}
use Rattle.std.proofs.lemmas.Bool.Decides.{nat_tests}
use Rattle.std.proofs.lemmas.List.Elements.{All-contains, All-from_recursion, recursion_from_All}
use Rattle.std.specs.List.{AllByRecursion}
use Rattle.model.proofs.Elements.{all-each}
use Rattle.model.proofs.Lookups.{any_at_key}
use Rattle.model.proofs.Members.{in_from_Contains, Contains-from_in, each_in, rising_from_numbered}
use Rattle.model.specs.Cycle.{IsPath, IsCycle}
use Rattle.model.specs.Dependency.{writes_key, reads_key, write_alike, reads_from, dependency}
use Rattle.model.specs.History.{Record, map_at, IsFaithful, IsTrueRecord}
use Rattle.model.specs.Laws.{MachineLaw, PlacesLaw, PlacesKeepTime}
use Rattle.model.specs.Machine.{State, IsReached, snapshot}
use Rattle.model.specs.Map.{Bytes, KeyMap, IsMap, value_at}
use Rattle.model.specs.Operations.{Operation, Response}
use Rattle.model.specs.PrivateCopy.{responses, copy_of, is_covered}
use Rattle.model.specs.SerialOrder.{is_before, place}
use Rattle.phenomena.proofs.Paths.{leads_nowhere_back, path_by}
use Rattle.phenomena.proofs.ReadValues.{at_begin, marks_cover, values_are_read}
use Rattle.phenomena.proofs.Versions.{IsMap-map_at, WritesNot, value_unwritten, value_written, writes_leave}
use Rattle.phenomena.specs.Adya.{Depends, FlowDepends, HasCycle, IsPathBy, ReadsValue, WriteDepends, last_written}
use Rattle.phenomena.specs.Adya.{reads_a_version, reads_version}
use Rattle.phenomena.specs.Laws.{DirectIsDependency, IsAcyclic, NoCycle, NoPhenomena, Precedes, ReadsLaw}
use Rattle.phenomena.specs.Laws.{ReadsVersions}

-- ---- no cycle

module _ (history : List Record) where
  -- a path of dependencies within the history
  within : (a : Record) (rs : List Record) (z : Record) → Contains history a → AllByRecursion (Contains history) rs → Contains history z → IsPath a rs z
      → IsPathBy (Precedes history) a rs z
  within a [] z a_in are z_in p = record { first = a_in; second = z_in; reason = inl p }
  within a (r ∷ rs) z a_in are z_in p = (record { first = a_in; second = are.0; reason = inl p.0 }, within r rs z are.0 are.1 z_in p.1)

  cycle_within : (cycle : List Record) → AllByRecursion (Contains history) cycle → IsCycle cycle → HasCycle (Precedes history)
  cycle_within [] are c = absurd c
  cycle_within (a ∷ []) are c = absurd c
  cycle_within (a ∷ b ∷ rs) are c = (a, b ∷ rs, within a (b ∷ rs) a are.0 are.1 are.0 c)

module _ (machine : MachineLaw) (places : PlacesLaw) (keep : PlacesKeepTime) (st : State) (reached : IsReached st) where
  faithful : IsFaithful st.base st.history
  faithful = (machine st reached).1.faithful

  precedes_rises : (a b : Record) → Precedes st.history a b → IsTrue (is_before (place st.history a) (place st.history b))
  precedes_rises a b p = elim p.reason [
    | inl e ↦ (places st reached).rising a b p.first p.second e
    | inr over ↦ keep st.base st.history faithful a b p.first p.second over
  ]

  pub is_acyclic : IsAcyclic st.history
  is_acyclic =
      let none = leads_nowhere_back st.history (Precedes st.history) precedes_rises in record {
        dependencies = λ cycle are c. none (cycle_within st.history cycle (recursion_from_All (Contains st.history) cycle are) c);
        real_time = none;
      }

-- ---- the direct dependencies

module _ (machine : MachineLaw) (st : State) (reached : IsReached st) where
  true_record : (t : Record) → Contains st.history t → IsTrueRecord st.base st.history t
  true_record t t_in = All-contains (IsTrueRecord st.base st.history) st.history t (machine st reached).1.faithful.records t_in

  map_is : (n : ℕ) → IsMap (map_at st.base st.history n)
  map_is n = IsMap-map_at st.history st.base n (machine st reached).1.faithful.is_map

  -- what it read is marked
  read_is_marked : (t : Record) → Contains st.history t → (k : Bytes) → reads_a_version t k ≡ true → reads_key t k ≡ true
  read_is_marked t t_in k r =
      let is = true_record t t_in in
      let m : KeyMap = map_at st.base st.history t.begin in
      ap (λ ms. is_covered ms k) is.reads
      ∙ marks_cover k (value_at m k) (copy_of m) (at_begin k m (map_is t.begin)) t.requests (ap (reads_version k t.requests) (sym is.replies) ∙ r)

  reads_what : (a b : Record) → Contains st.history a → (k : Bytes) → reads_a_version a k ≡ true → writes_key b k ≡ true → reads_from a b ≡ true
  reads_what a b a_in k r w = any_at_key (λ x. reads_key a x) k b.writes w (read_is_marked a a_in k r)

  pub direct_is : (a b : Record) → Depends st.base st.history a b → dependency a b ≡ true
  direct_is a b (inl (inl (two, (k, w, next)))) =
      let alike : write_alike a b ≡ true = any_at_key (λ x. writes_key b x) k a.writes w next.installs in
      let less = next.after in grind (arith, nat_tests)
  direct_is a b (inl (inr (inl (two, (k, r, seen))))) =
      let from = reads_what b a two.second k r seen.installs in
      let le = seen.before in grind (arith, nat_tests)
  direct_is a b (inl (inr (inr (two, (k, r, changes, le))))) =
      let from = reads_what b a two.second k r changes.installs in grind (arith, nat_tests)
  direct_is a b (inr (inl (two, (k, r, next)))) =
      let from = reads_what a b two.first k r next.installs in
      let less = next.after in let other = two.differ in grind (arith, nat_tests)
  direct_is a b (inr (inr (two, (k, r, changes, less)))) =
      let from = reads_what a b two.first k r changes.installs in
      let other = two.differ in grind (arith, nat_tests)

  -- ---- what is read

  pub reads_versions : (n : ℕ) (requests : List Operation) (replies : List Response) → replies ≡ responses (copy_of (map_at st.base st.history n)) requests →
      ReadsVersions st.base st.history n requests replies
  reads_versions n requests replies is = record {
    installed = λ k t t_in seen. is_read k (last_written t k)
        (value_written n k t seen.installs seen.before (writes_leave st.base st.history t (true_record t t_in) k seen.installs)
        st.history st.base (rising_from_numbered 0 st.history (machine st reached).1.faithful.numbered) (in_from_Contains st.history t t_in)
        (each_in _ st.history (λ r r_in. seen.last r (Contains-from_in st.history r r_in))));
    first = λ k none. is_read k (value_at st.base k)
        (value_unwritten st.history st.base n k
        (each_in (WritesNot n k) st.history (λ r r_in w le. let less = none r (Contains-from_in st.history r r_in) w in omega (arith, less, le))));
  }
    where
      is_read : (k : Bytes) (v : Option Bytes) → value_at (map_at st.base st.history n) k ≡ v → ReadsValue k v requests replies
      is_read k v e =
          let m : KeyMap = map_at st.base st.history n in
          subst (λ rs. ReadsValue k v requests rs) (sym is)
          (subst (λ x. ReadsValue k x requests (responses (copy_of m) requests)) e
          (values_are_read k (value_at m k) (copy_of m) (at_begin k m (map_is n)) requests))

-- ---- the laws

pub no_cycle : MachineLaw → PlacesLaw → PlacesKeepTime → NoCycle
no_cycle machine places keep st reached = is_acyclic machine places keep st reached

pub direct_is_dependency : MachineLaw → DirectIsDependency
direct_is_dependency machine st reached a b d = direct_is machine st reached a b d

pub no_phenomena : MachineLaw → PlacesLaw → PlacesKeepTime → NoPhenomena
no_phenomena machine places keep st reached = record {
  no_G0 = λ c. none (c.0, c.1, path_by (WriteDepends st.history) Any (λ a b d. inl (inl d)) c.0 c.1 c.0 c.2);
  no_G1c = λ c. none (c.0, c.1, path_by Flow Any (λ a b d. inl d) c.0 c.1 c.0 c.2);
  no_GSingle = λ c. none (c.0, c.1 ∷ c.2, (inr c.3, path_by Flow Any (λ a b d. inl d) c.1 c.2 c.0 c.4));
  no_G2 = λ c. none (c.0, c.1 ∷ c.2, (inr c.3, c.4));
}
  where
    Flow : Record → Record → Type 0
    Flow = FlowDepends st.base st.history

    Any : Record → Record → Type 0
    Any = Depends st.base st.history

    two_of : (a b : Record) → Any a b → Contains st.history a × Contains st.history b
    two_of a b (inl (inl d)) = (d.0.first, d.0.second)
    two_of a b (inl (inr (inl d))) = (d.0.first, d.0.second)
    two_of a b (inl (inr (inr d))) = (d.0.first, d.0.second)
    two_of a b (inr (inl d)) = (d.0.first, d.0.second)
    two_of a b (inr (inr d)) = (d.0.first, d.0.second)

    none : ¬ HasCycle Any
    none = leads_nowhere_back st.history Any
        (λ a b d. let two = two_of a b d in (places st reached).rising a b two.0 two.1 (direct_is machine st reached a b d))

pub reads_law : MachineLaw → ReadsLaw
reads_law machine st reached = record {
  committed = All-from_recursion _ st.history (each_in _ st.history (λ t t_in.
      reads_versions machine st reached t.begin t.requests t.replies (true_record machine st reached t (Contains-from_in st.history t t_in)).replies));
  open_ones = All-from_recursion _ st.running
      (all-each (λ e. e.1.replies
      ≡ responses (copy_of (snapshot st e.1)) e.1.requests) _ st.running (λ e is. reads_versions machine st reached e.1.begin e.1.requests e.1.replies is)
      (recursion_from_All _ st.running (machine st reached).0));
}
