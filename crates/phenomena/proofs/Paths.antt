-- Where each step leads to a later place, none leads back.
use Rattle.std.proofs.Common.{◌≡◌, true, List, [], ◌∷◌, arith, IsTrue}
use Rattle.std.proofs.lemmas.Bool.Decides.{nat_tests}
use Rattle.model.specs.History.{Record}
use Rattle.model.specs.SerialOrder.{Place, is_before, place}
use Rattle.phenomena.specs.Adya.{HasCycle, IsPathBy}

before_then : (p q r : Place) → is_before p q ≡ true → is_before q r ≡ true → is_before p r ≡ true
before_then p q r h g = grind (arith, nat_tests)

before_itself : (p : Place) → is_before p p ≡ true → ⊥
before_itself p h = grind (arith, nat_tests)

module _ (history : List Record) (R : Record → Record → Type 0) (rise : (a b : Record) → R a b → IsTrue (is_before (place history a) (place history b))) where
  path_rises : (a : Record) (rs : List Record) (z : Record) → IsPathBy R a rs z → IsTrue (is_before (place history a) (place history z))
  path_rises a [] z p = rise a z p
  path_rises a (r ∷ rs) z p = before_then (place history a) (place history r) (place history z) (rise a r p.0) (path_rises r rs z p.1)

  pub leads_nowhere_back : ¬ HasCycle R
  leads_nowhere_back c = before_itself (place history c.0) (path_rises c.0 c.1 c.0 c.2)

-- along a relation that says less
pub path_by : (R Q : Record → Record → Type 0) → ((a b : Record) → R a b → Q a b) → (a : Record) (rs : List Record) (z : Record) → IsPathBy R a rs z
    → IsPathBy Q a rs z
path_by R Q f a [] z p = f a z p
path_by R Q f a (r ∷ rs) z p = (f a r p.0, path_by R Q f r rs z p.1)
