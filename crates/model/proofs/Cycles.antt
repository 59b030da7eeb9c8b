-- Each cycle of dependencies has a pivot, and a dangerous one, if no two concurrent transactions write one key.
use Rattle.std.proofs.Common.{◌≡◌, ◌≢◌, ◌<◌, ◌≤◌, List, [], ◌∷◌, ◌++◌, refl, ap, length, length-append, arith, inl}
use Rattle.std.proofs.Common.{inr, IsTrue, All, Contains, take, le-leb, lt-ltb}
use Rattle.std.proofs.lemmas.Bool.{and_parts, and_from, cases_lt}
use Rattle.std.proofs.lemmas.Bool.Decides.{nat_tests}
use Rattle.std.proofs.lemmas.Grind.{common_steps}
use Rattle.std.proofs.lemmas.List.Elements.{All-contains, All-contains_itself, recursion_from_All, All-from_recursion}
use Rattle.std.specs.List.{AllByRecursion, list_any}
use Rattle.model.proofs.Elements.{all-append, all-back, all-each, all-front}
use Rattle.model.proofs.Members.{In, in_from_Contains, any_from_in, any_witness}
use Rattle.model.specs.Cycle.{IsPath, IsCycle, CycleLaw, DangerousPivotLaw, DangerousCycleLaw}
use Rattle.model.specs.Dependency.{is_concurrent, write_alike, dependency, concurrent_read_write, makes_pivot}
use Rattle.model.specs.Dependency.{makes_dangerous_pivot, is_dangerous_pivot, NoConcurrentWriters}
use Rattle.model.specs.History.{Record}

-- ---- the dependencies next to the one that commits first

dependency_out : (p y : Record) → y.begin < y.commit → y.commit ≤ p.commit → IsTrue (dependency p y) → IsTrue (concurrent_read_write p y)
dependency_out p y begins first e = grind (arith, nat_tests)

pub dependency_in : (x p : Record) → x.begin < x.commit → p.begin < x.commit →
    (x.commit ≢ p.commit → IsTrue (is_concurrent x p) → ¬ IsTrue (write_alike x p)) →
    IsTrue (dependency x p) → IsTrue (concurrent_read_write x p)
dependency_in x p begins since apart e = grind (arith, nat_tests)

-- ---- the one that commits first, in a row of records

-- each has a dependency to the next
abbrev pub IsLinked : List Record → Type 0
IsLinked [] = Unit {0}
IsLinked (a ∷ []) = Unit {0}
IsLinked (a ∷ b ∷ rs) = IsTrue (dependency a b) × IsLinked (b ∷ rs)

path_links : (a : Record) (rs : List Record) (z e : Record) → IsPath a rs z → IsTrue (dependency z e) → IsLinked (a ∷ (rs ++ z ∷ e ∷ []))
path_links a [] z e p h = (p, (h, tt))
path_links a (r ∷ rs) z e p h = (p.0, path_links r rs z e p.1 h)

module _ (Q : Record → Type 0) where
  -- a dependency into a record, and one out of it
  record Middle : Type 0 where
    before : Record
    pivot : Record
    after : Record
    into : IsTrue (dependency before pivot)
    out : IsTrue (dependency pivot after)
    before_is : Q before
    pivot_is : Q pivot
    after_is : Q after

  -- three in a row, of which the last commits before each of ts
  record First (row ts : List Record) : Type 0 where
    at : Middle
    front : List Record
    back : List Record
    stand : row ≡ front ++ (at.before ∷ at.pivot ∷ at.after ∷ back)
    first : AllByRecursion (λ r. at.after.commit ≤ r.commit) ts

  first_here : (x p t : Record) (ts : List Record) → IsLinked (x ∷ p ∷ t ∷ ts) → AllByRecursion Q (x ∷ p ∷ t ∷ ts)
      → AllByRecursion (λ r. t.commit ≤ r.commit) ts → First (x ∷ p ∷ t ∷ ts) (t ∷ ts)
  first_here x p t ts links are least = record {
    at = record { before = x; pivot = p; after = t; into = links.0; out = links.1.0; before_is = are.0; pivot_is = are.1.0; after_is = are.1.1.0 };
    front = [];
    back = ts;
    stand = refl;
    first = (omega arith, least);
  }

  first_of_row : (x p : Record) (ts : List Record) → IsLinked (x ∷ p ∷ ts) → AllByRecursion Q (x ∷ p ∷ ts) → 0 < length ts → First (x ∷ p ∷ ts) ts
  first_of_row x p [] links are some = absurd (omega arith)
  first_of_row x p (t ∷ []) links are some = first_here x p t [] links are tt
  first_of_row x p (t ∷ u ∷ us) links are some =
      let f = first_of_row p t (u ∷ us) links.1 are.1 (omega arith) in
      elim (cases_lt f.at.after.commit t.commit) [
        | inl less ↦ record { at = f.at; front = x ∷ f.front; back = f.back; stand = ap (λ rs. x ∷ rs) f.stand; first = (omega arith, f.first) }
        | inr ge ↦ first_here x p t (u
            ∷ us) links are (all-each (λ r. f.at.after.commit ≤ r.commit) (λ r. t.commit ≤ r.commit) (u ∷ us) (λ r h. omega arith) f.first)
      ]

-- the cycle's records in the row that goes round once and on to the second
turned : (cycle : List Record) → IsCycle cycle → First (Contains cycle) (cycle ++ take 2 cycle) cycle
turned [] cyclic = absurd cyclic
turned (a ∷ []) cyclic = absurd cyclic
turned (a ∷ b ∷ rs) cyclic =
    let cycle : List Record = a ∷ b ∷ rs in
    let inside : AllByRecursion (Contains cycle) cycle = recursion_from_All (Contains cycle) cycle (All-contains_itself cycle) in
    let are = all-append (Contains cycle) cycle (a ∷ b ∷ []) inside (inside.0, (inside.1.0, tt)) in
    let f = first_of_row (Contains cycle) a b (rs ++ a ∷ b ∷ []) (
      cyclic.0,
      path_links b rs a b cyclic.1 cyclic.0,
    ) are (omega (arith, length-append rs (a ∷ b ∷ []))) in
    let ends = all-back (λ r. f.at.after.commit ≤ r.commit) rs (a ∷ b ∷ []) f.first in
    record {
      at = f.at;
      front = f.front;
      back = f.back;
      stand = f.stand;
      first = (ends.0, (ends.1.0, all-front (λ r. f.at.after.commit ≤ r.commit) rs (a ∷ b ∷ []) f.first));
    }

-- ---- the law

module _ (history cycle : List Record) (begins : All (λ r. r.begin < r.commit) history) (apart : NoConcurrentWriters history)
    (are : All (Contains history) cycle)
    (m : Middle (Contains cycle)) (first : All (λ r. m.after.commit ≤ r.commit) cycle) where
  in_history : (r : Record) → Contains cycle r → Contains history r
  in_history r r_in = All-contains (Contains history) cycle r are r_in

  begins_before : (r : Record) → Contains cycle r → r.begin < r.commit
  begins_before r r_in = All-contains (λ r. r.begin < r.commit) history r begins (in_history r r_in)

  ends_behind : (r : Record) → Contains cycle r → m.after.commit ≤ r.commit
  ends_behind r r_in = All-contains (λ r. m.after.commit ≤ r.commit) cycle r first r_in

  makes : IsTrue (makes_pivot m.before m.pivot m.after)
  makes =
      let y_before_x : m.after.commit ≤ m.before.commit = ends_behind m.before m.before_is in
      let out : IsTrue (concurrent_read_write m.pivot m.after) =
      dependency_out m.pivot m.after (begins_before m.after m.after_is) (ends_behind m.pivot m.pivot_is) m.out in
      let since : m.pivot.begin < m.after.commit = grind (arith, nat_tests) in
      and_from _ _ (dependency_in m.before m.pivot (begins_before m.before m.before_is) (omega arith)
      (apart m.before m.pivot (in_history m.before m.before_is) (in_history m.pivot m.pivot_is)) m.into) out

  dangerous : IsTrue (is_dangerous_pivot history m.pivot)
  dangerous =
      let x_in : In m.before history = in_from_Contains history m.before (in_history m.before m.before_is) in
      let y_in : In m.after history = in_from_Contains history m.after (in_history m.after m.after_is) in
      let y_before_x : m.after.commit ≤ m.before.commit = ends_behind m.before m.before_is in
      let y_before_p : m.after.commit ≤ m.pivot.commit = ends_behind m.pivot m.pivot_is in
      grind (arith, common_steps, any_from_in, x_in, y_in, and_from, makes, lt-ltb, le-leb)

pub cycle_law : CycleLaw
cycle_law history cycle rise begins apart are cyclic =
    let f = turned cycle cyclic in
    let first = All-from_recursion (λ r. f.at.after.commit ≤ r.commit) cycle f.first in
    record {
      before = f.at.before;
      pivot = f.at.pivot;
      after = f.at.after;
      in_row = (f.front, f.back, f.stand);
      makes = makes history cycle begins apart are f.at first;
      first = first;
    }

pub dangerous_cycle_law : DangerousCycleLaw
dangerous_cycle_law history cycle rise begins apart are cyclic =
    let f = turned cycle cyclic in
    (f.at.pivot, f.at.pivot_is, dangerous history cycle begins apart are f.at (All-from_recursion (λ r. f.at.after.commit ≤ r.commit) cycle f.first))

pub dangerous_pivot_law : DangerousPivotLaw
dangerous_pivot_law history p h =
    let x = any_witness (λ x. list_any (λ y. makes_dangerous_pivot x p y) history) history h in
    let y = any_witness (λ y. makes_dangerous_pivot x.at p y) history x.passes in
    grind (arith, common_steps, any_from_in, and_parts)
