-- What a reader found at the front decides which answer is right, since no request begins another.
use Rattle.std.proofs.Common.{◌≡◌, ℕ, ◌-◌, ◌≤◌, List, [], ◌++◌, length, take, drop, refl, sym, ap, ◌∙◌, append_assoc}
use Rattle.std.proofs.Common.{arith, length-append}
use Rattle.std.proofs.lemmas.Grind.{common_steps}
use Rattle.std.proofs.lemmas.List.{append-nil, take-append-drop, take_at, length-take-le}
use Rattle.model.specs.Grammar.{array_of_bulks, Spells, FrontSpells, IsProperBeginning}
use Rattle.resp.proofs.Requests.{array_one_form}
use Rattle.resp.specs.Reading.{IsForeign}

one_more : (more : List ℕ) → 1 ≤ length more → (rest : List ℕ) → rest ++ more ≡ [] → ⊥
one_more more some rest e = let none : length (rest ++ more) ≡ 0 = ap length e in omega (arith, length-append rest more)

-- a request stands at the front
module _ {input text : List ℕ} (rest : List ℕ) {parts : List (List ℕ)} {used : ℕ} (spells : Spells text parts) (is : input ≡ text ++ rest) (long : used
    ≡ length input - length rest) where
  text_len : used ≡ length text
  text_len = omega (arith, ap length is, length-append text rest)

  pub is_whole : (ps : List (List ℕ)) (n : ℕ) → (parts ≡ ps) × (used ≡ n) → FrontSpells input n ps
  is_whole ps n same = grind (arith, common_steps, take_at, text_len)

  pub only_whole : (ps : List (List ℕ)) (n : ℕ) → FrontSpells input n ps → (parts ≡ ps) × (used ≡ n)
  only_whole ps n h =
      let joined : array_of_bulks parts ++ rest ≡ array_of_bulks ps ++ drop n input =
      ap (λ (xs : List ℕ). xs ++ rest) (sym spells.1) ∙ sym is ∙ sym (take-append-drop n input) ∙ ap (λ (xs : List ℕ). xs ++ drop n input) h.1.1 in
      let same = array_one_form parts ps rest (drop n input) spells.0 h.1.0 joined in
      let len : length (take n input) ≡ length text = ap length (h.1.1 ∙ sym (spells.1 ∙ ap array_of_bulks same.0)) in
      (same.0, omega (arith, text_len, len, length-take-le n input h.0))

  pub no_more : ¬ IsProperBeginning input
  no_more h =
      let joined : array_of_bulks parts ++ (rest ++ h.0) ≡ array_of_bulks h.1 ++ [] =
      sym (append_assoc (array_of_bulks parts) rest h.0) ∙ ap (λ (xs : List ℕ). (xs ++ rest) ++ h.0) (sym spells.1)
      ∙ ap (λ (xs : List ℕ). xs ++ h.0) (sym is) ∙ h.3.1 ∙ sym (append-nil (array_of_bulks h.1)) in
      one_more h.0 h.2 rest (array_one_form parts h.1 (rest ++ h.0) [] spells.0 h.3.0 joined).1

  pub not_none : ((ps : List (List ℕ)) (n : ℕ) → ¬ FrontSpells input n ps) → ⊥
  not_none none = none parts used (is_whole parts used (refl, refl))

-- more bytes are needed
pub cut_no_whole : (input : List ℕ) → IsProperBeginning input → (ps : List (List ℕ)) (n : ℕ) → ¬ FrontSpells input n ps
cut_no_whole input h ps n front =
    let spells = front.1 in
    let joined : array_of_bulks ps ++ (drop n input ++ h.0) ≡ array_of_bulks h.1 ++ [] =
    sym (append_assoc (array_of_bulks ps) (drop n input) h.0) ∙ ap (λ (xs : List ℕ). (xs ++ drop n input) ++ h.0) (sym spells.1)
    ∙ ap (λ (xs : List ℕ). xs ++ h.0) (take-append-drop n input) ∙ h.3.1 ∙ sym (append-nil (array_of_bulks h.1)) in
    one_more h.0 h.2 (drop n input) (array_one_form ps h.1 (drop n input ++ h.0) [] spells.0 h.3.0 joined).1

-- no request stands there
pub foreign_no_whole : (input : List ℕ) → IsForeign Spells input → (ps : List (List ℕ)) (n : ℕ) → ¬ FrontSpells input n ps
foreign_no_whole input foreign ps n front = foreign (take n input) [] (drop n input) ps front.1 (append-nil input ∙ sym (take-append-drop n input))

pub foreign_no_more : (input : List ℕ) → IsForeign Spells input → ¬ IsProperBeginning input
foreign_no_more input foreign h = foreign (input ++ h.0) h.0 [] h.1 h.3 (sym (append-nil (input ++ h.0)))
