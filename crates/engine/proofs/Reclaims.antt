-- What a reclaim leaves of an engine: what it stands for, and what it keeps.
use Rattle.std.proofs.Common.{◌≡◌, ◌≤◌, ◌&&◌, ℕ, Bool, true, List, [], ◌∷◌, refl, ap, sym, subst, ◌∙◌, length}
use Rattle.std.proofs.Common.{arith, map, Option, Some}
use Rattle.std.proofs.lemmas.Bool.{or_left, or_right, and_from, eq-eqb}
use Rattle.std.proofs.lemmas.Bool.Decides.{nat_tests}
use Rattle.std.proofs.lemmas.Grind.{common_steps}
use Rattle.std.proofs.lemmas.List.Elements.{All-from_recursion, recursion_from_All}
use Rattle.std.specs.List.{AllByRecursion}
use Rattle.std.specs.Prelude.{max, nat_le, ◌==◌, IsTrue, IfSome}
use Rattle.model.specs.History.{Record}
use Rattle.model.specs.Machine.{State, Running}
use Rattle.model.specs.Map.{KeyMap}
use Rattle.sector.specs.declared.device.Sectors.{Ghosts}
use Rattle.versions.specs.Chains.{ChainsValue}
use Rattle.versions.specs.Meaning.{is_among, is_known}
use Rattle.snapshot.specs.View.{View}
use Rattle.pivot_check.specs.Kept.{Facts, HasForgotten, may_ask}
use Rattle.engine.specs.Begins.{AreGathered, begins_of}
use Rattle.engine.specs.HistoryValue.{HistoryValue, KeepsActive, LeavesLittle}
use Rattle.engine.specs.Least.{IsLeast}
use Rattle.engine.specs.Meaning.{open_begins, HasForgottenOld}
use Rattle.engine.specs.StandsFor.{StandsFor, AreRunning}
use Rattle.engine.specs.declared.engine.Engine.{Engine}

module _ (facts : Facts) (active : ℕ → Bool) (base : KeyMap) (history : List Record) where
  still_running : (facts' : Facts) (bs : List ℕ) (oldest : ℕ) → facts'.last ≡ facts.last → facts'.oldest ≡ max facts.oldest oldest
      → facts'.reach ≡ record { begins = bs; since = facts.last } → (es : List (ℕ × View)) (rs : List (ℕ × Running))
      → AllByRecursion (λ n. oldest ≤ n) (begins_of es)
      → ((n : ℕ) → is_among (begins_of es) n ≡ true → is_among bs n ≡ true) → AreRunning facts active base history es rs
      → AreRunning facts' (λ n. active n && is_among bs n) base history es rs
  still_running facts' bs oldest l o a [] [] low among h = tt
  still_running facts' bs oldest l o a (e ∷ es) (r ∷ rs) low among h =
      let own = among e.1.begin (or_left (e.1.begin == e.1.begin) (is_among (begins_of es) e.1.begin) (eq-eqb e.1.begin e.1.begin refl)) in
      let asks = ap (λ reach. may_ask reach e.1.begin) a ∙ or_right (nat_le facts.last e.1.begin) (is_among bs e.1.begin) own in
      let rest = still_running facts' bs oldest l o a es rs low.1 (λ n t. among n (or_right (e.1.begin == n) (is_among (begins_of es) n) t)) h.1 in
      grind (arith, common_steps, and_from)
  still_running facts' bs oldest l o a es rs low among h = absurd h

  -- they are still active where they are among those that are
  pub running_among : (bs : List ℕ) (es : List (ℕ × View)) (rs : List (ℕ × Running))
      → ((n : ℕ) → is_among (begins_of es) n ≡ true → is_among bs n ≡ true) → AreRunning facts active base history es rs
      → AreRunning facts (λ n. active n && is_among bs n) base history es rs
  running_among bs [] [] among h = tt
  running_among bs (e ∷ es) (r ∷ rs) among h =
      let own = among e.1.begin (or_left (e.1.begin == e.1.begin) (is_among (begins_of es) e.1.begin) (eq-eqb e.1.begin e.1.begin refl)) in
      let rest = running_among bs es rs (λ n t. among n (or_right (e.1.begin == n) (is_among (begins_of es) n) t)) h.1 in
      grind (arith, common_steps, and_from)
  running_among bs es rs among h = absurd h

  -- each may ask
  pub begins_ask : (es : List (ℕ × View)) (rs : List (ℕ × Running)) → AreRunning facts active base history es rs
      → AllByRecursion (λ b. may_ask facts.reach b ≡ true) (begins_of es)
  begins_ask [] [] h = tt
  begins_ask (e ∷ es) (r ∷ rs) h = (h.0.1.in_reach.asks, begins_ask es rs h.1)
  begins_ask (e ∷ es) [] h = absurd h
  begins_ask [] (r ∷ rs) h = absurd h

  begins_same : (es : List (ℕ × View)) (rs : List (ℕ × Running)) → AreRunning facts active base history es rs → begins_of es ≡ map (λ r. r.1.begin) rs
  begins_same [] [] h = refl
  begins_same (e ∷ es) (r ∷ rs) h = λ i. h.0.1.begin i ∷ begins_same es rs h.1 i
  begins_same es rs h = absurd h

  begins_active : (es : List (ℕ × View)) (rs : List (ℕ × Running)) → AreRunning facts active base history es rs → (n : ℕ) → is_among (begins_of es) n ≡ true
      → active n ≡ true
  begins_active [] rs h n t = cc
  begins_active (e ∷ es) [] h n t = absurd h
  begins_active (e ∷ es) (r ∷ rs) h n t = grind (arith, common_steps, nat_tests, begins_active es rs h.1 n)

  -- what each of them sees is known, where so it is of all that are active
  pub begins_known : (v : ChainsValue) → ((n : ℕ) → IsTrue (active n) → IsTrue (is_known n v)) → (es : List (ℕ × View)) (rs : List (ℕ × Running))
      → AreRunning facts active base history es rs → AllByRecursion (λ b. is_known b v ≡ true) (map (λ r. r.1.begin) rs)
  begins_known v known es [] h = tt
  begins_known v known [] (r ∷ rs) h = absurd h
  begins_known v known (e ∷ es) (r ∷ rs) h = (known r.1.begin h.0.1.is_active, begins_known v known es rs h.1)

  begins_low : (n : ℕ) (es : List (ℕ × View)) (rs : List (ℕ × Running)) → AreRunning facts active base history es rs → AllByRecursion (λ r. n ≤ r.1.begin) rs
      → AllByRecursion (λ k. n ≤ k) (begins_of es)
  begins_low n [] [] h low = tt
  begins_low n (e ∷ es) (r ∷ rs) h low = (subst (λ k. n ≤ k) (sym h.0.1.begin) low.0, begins_low n es rs h.1 low.1)
  begins_low n es rs h low = absurd h

-- the numbers that were gathered, before or now, are those of the open transactions
pub gathered_now : (bs : List ℕ) (old now : Option (List ℕ)) (es : List (ℕ × View)) → (AreGathered old es → length es ≤ 64 → now ≡ Some (begins_of es))
    → IfSome now (λ ns. bs ≡ ns) → AreGathered old es → length es ≤ 64 → bs ≡ begins_of es
gathered_now bs old now es gathers numbers gathered few = subst (λ (o : Option (List ℕ)). IfSome o (λ ns. bs ≡ ns)) (gathers gathered few) numbers

module _ {D : Type 0} {g : Ghosts D} (e : Engine D g) (new : HistoryValue) (now : Option (List ℕ)) (bs : List ℕ) (oldest : ℕ)
    (gathers : AreGathered e.begins e.running.entries → length e.running.entries ≤ 64 → now ≡ Some (begins_of e.running.entries))
    (numbers : IfSome now (λ ns. bs ≡ ns)) (least : IsLeast (λ n. n) e.history.committed.facts.last bs oldest) where
  begins_are : (m : State) → StandsFor e m → bs ≡ begins_of e.running.entries
  begins_are m h = gathered_now bs e.begins now e.running.entries gathers numbers h.gathered h.few_open

  pub reclaimed_stands : KeepsActive e.history new bs → new.committed.facts.last ≡ e.history.committed.facts.last
      → new.committed.facts.oldest ≡ max e.history.committed.facts.oldest oldest
      → new.committed.facts.reach ≡ record { begins = bs; since = e.history.committed.facts.last } → LeavesLittle e.history new bs → (m : State) → StandsFor e m
      → StandsFor (record e { history = new; begins = now }) m
  reclaimed_stands stands l o a few m h =
      let is = h.history.committed.last in let kept = h.kept in let below = least.below_last in
      let same = begins_are m h in
      let ask = subst (λ ns. AllByRecursion (λ b. may_ask e.history.committed.facts.reach b ≡ true) ns) (sym same)
      (begins_ask e.history.committed.facts h.active m.base m.history e.running.entries m.running h.running) in
      let after = stands h.active m.base m.history h.history ask in
      let little = few ask h.little in
      let low = subst (AllByRecursion (λ n. oldest ≤ n)) same (recursion_from_All (λ n. oldest ≤ n) bs least.below) in
      let running = still_running e.history.committed.facts h.active m.base m.history new.committed.facts bs oldest l o a e.running.entries m.running
      low (λ n t. subst (λ ns. is_among ns n ≡ true) (sym same) t) h.running in
      let gathered : AreGathered now e.running.entries = rw (gathers h.gathered h.few_open) refl in
      grind (arith, common_steps)

  pub numbers_are : (m : State) → StandsFor e m → bs ≡ open_begins m
  numbers_are m h = begins_are m h ∙ begins_same e.history.committed.facts h.active m.base m.history e.running.entries m.running h.running

  pub are_active : (m : State) → (h : StandsFor e m) → (n : ℕ) → is_among bs n ≡ true → h.active n ≡ true
  are_active m h n t = begins_active e.history.committed.facts h.active m.base m.history e.running.entries m.running h.running n
      (subst (λ ns. is_among ns n ≡ true) (begins_are m h) t)

  pub none_below : (m : State) → StandsFor e m → (facts : Facts) → HasForgotten oldest facts → HasForgottenOld m facts
  none_below m h facts forgotten n low each =
      let is = h.history.committed.last in
      let each_begin = begins_low e.history.committed.facts h.active m.base m.history n e.running.entries m.running h.running each in
      let below : n ≤ oldest = least.greatest n (omega (arith, is))
      (All-from_recursion (λ k. n ≤ k) bs (subst (AllByRecursion (λ k. n ≤ k)) (sym (begins_are m h)) each_begin)) in
      let upto = forgotten.upto in
      record { upto = omega arith; readers = λ k some. (let above = forgotten.readers k some in omega arith) }
