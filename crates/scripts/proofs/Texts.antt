-- The lines of a text, taken off its front.
use Rattle.std.proofs.Common.{◌≡◌, ◌-◌, List, ℕ, suc, [], ◌∷◌, length, take, get_or, Bool, true, false, cond, ltb, ap}
use Rattle.std.proofs.Common.{sym, refl, ◌∙◌, arith, eqb}
use Rattle.std.proofs.lemmas.Bool.{lt-ltb}
use Rattle.std.specs.Io.BufRead.{take_through, drop_through, strip_last, first_piece}
use Rattle.std.specs.List.{onto_first}
use Rattle.std.specs.Prelude.{◌≢◌}
use Rattle.scripts.specs.Lines.{lines_of}

onto_both : (b : Bool) (x : ℕ) (xs ys : List ℕ) → cond b (x ∷ xs) (x ∷ ys) ≡ x ∷ cond b xs ys
onto_both true x xs ys = refl
onto_both false x xs ys = refl

-- a byte before a text that isn't empty stays
strip_more : (x y : ℕ) (ys : List ℕ) → strip_last 10 (x ∷ y ∷ ys) ≡ x ∷ strip_last 10 (y ∷ ys)
strip_more x y ys =
    let long : length (x ∷ y ∷ ys) - 1 ≡ suc (length ys) = omega arith in
    let short : length (y ∷ ys) - 1 ≡ length ys = omega arith in
    let some_long : ltb 0 (length (x ∷ y ∷ ys)) ≡ true = lt-ltb _ _ (omega arith) in
    let some_short : ltb 0 (length (y ∷ ys)) ≡ true = lt-ltb _ _ (omega arith) in
    rw (some_long, some_short, long, short) (onto_both (eqb (get_or (y ∷ ys) (length ys) 0) 10) x (take (length ys) (y ∷ ys)) (y ∷ ys))

one_byte : (b : Bool) (x : ℕ) → eqb x 10 ≡ b → strip_last 10 (x ∷ []) ≡ cond b [] (x ∷ [])
one_byte b x e = ap (λ (is_end : Bool). cond is_end [] (x ∷ [])) e

strip_by : (b : Bool) (x y : ℕ) (ys : List ℕ) → strip_last 10 (x ∷ cond b (y ∷ []) (y ∷ ys)) ≡ x ∷ strip_last 10 (cond b (y ∷ []) (y ∷ ys))
strip_by true x y ys = strip_more x y []
strip_by false x y ys = strip_more x y ys

first_by : (b : Bool) (x y : ℕ) (ys : List ℕ) → eqb x 10 ≡ b → lines_of (y ∷ ys) ≡ first_piece 10 (y ∷ ys) ∷ lines_of (drop_through 10 (y ∷ ys))
    → cond b ([] ∷ lines_of (y ∷ ys)) (onto_first x (lines_of (y ∷ ys)))
    ≡ strip_last 10 (cond b (x ∷ []) (x ∷ take_through 10 (y ∷ ys))) ∷ lines_of (cond b (y ∷ ys) (drop_through 10 (y ∷ ys)))
first_by true x y ys e more = ap (λ (line : List ℕ). line ∷ lines_of (y ∷ ys)) (sym (one_byte true x e))
first_by false x y ys e more =
    ap (onto_first x) more ∙ ap (λ (line : List ℕ). line ∷ lines_of (drop_through 10 (y ∷ ys))) (sym (strip_by (eqb y 10) x y (take_through 10 ys)))

last_by : (b : Bool) (x : ℕ) → eqb x 10 ≡ b → cond b ([] ∷ []) ((x ∷ []) ∷ []) ≡ strip_last 10 (cond b (x ∷ []) (x ∷ [])) ∷ lines_of (cond b [] [])
last_by true x e = ap (λ (line : List ℕ). line ∷ []) (sym (one_byte true x e))
last_by false x e = ap (λ (line : List ℕ). line ∷ []) (sym (one_byte false x e))

-- the first line, and the lines behind it
pub first_of_lines : (xs : List ℕ) → xs ≢ [] → lines_of xs ≡ first_piece 10 xs ∷ lines_of (drop_through 10 xs)
first_of_lines [] some = absurd (some refl)
first_of_lines (x ∷ []) some = last_by (eqb x 10) x refl
first_of_lines (x ∷ y ∷ ys) some = first_by (eqb x 10) x y ys refl (first_of_lines (y ∷ ys) (λ e. absurd cc))
