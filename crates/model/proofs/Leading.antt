-- What leads from one value to another.
use Rattle.std.proofs.Common.{◌≡◌, sym, subst, ap}
use Rattle.model.specs.Leading.{LeadsBy}

module _ {V S : Type 0} (StandsFor : V → S → Type 0) where
  pub weaken : (a b : V) (P Q : S → S → Type 0) → LeadsBy StandsFor a b P → ((m n : S) → StandsFor a m → StandsFor b n → P m n → Q m n)
      → LeadsBy StandsFor a b Q
  weaken a b P Q p f = λ m h. let n = p m h in (n.0, n.1, f m n.0 h n.1 n.2)

  -- one after the other
  pub compose : (a b c : V) (P Q R : S → S → Type 0) → LeadsBy StandsFor a b P → LeadsBy StandsFor b c Q
      → ((m n o : S) → StandsFor a m → StandsFor b n → StandsFor c o → P m n → Q n o → R m o) → LeadsBy StandsFor a c R
  compose a b c P Q R p q f = λ m h. let n = p m h in let o = q n.0 n.1 in (o.0, o.1, f m n.0 o.0 h n.1 o.1 n.2 o.2)

  -- where it is a step's state, with the step's answer
  pub stepped : {A : Type 0} (b : V) (n : S) (answer : A) (step : S × A) → StandsFor b n → step ≡ (n, answer) → StandsFor b step.0 × (step.1 ≡ answer)
  stepped b n answer step stands is = (subst (λ r. StandsFor b r.0) (sym is) stands, ap (λ r. r.1) is)
