-- The words of a text, as its pieces between spaces come.
use Rattle.std.proofs.Common.{◌≡◌, ◌<◌, [], ◌∷◌, ◌++◌, List, ℕ, length, map, Some, None, Bool, true, false, cond, ap}
use Rattle.std.proofs.Common.{sym, ◌∙◌, arith, length-append}
use Rattle.std.proofs.iter.Next.{Yields-more}
use Rattle.std.proofs.lemmas.Iterator.Splits.{YieldsList-from_slice_split}
use Rattle.std.proofs.lemmas.List.{map-append}
use Rattle.std.proofs.lemmas.List.Elements.{filter-append}
use Rattle.std.specs.Borrow.{Bor}
use Rattle.std.specs.Fn.{CalledAt}
use Rattle.std.specs.Iterator.{Yields}
use Rattle.std.specs.List.{filter, slice_split}
use Rattle.std.specs.Prelude.{not, ◌==◌}
use Rattle.std.specs.Slice.Iter.{split_steps, split_rest, split_done, split_callee}
use Rattle.std.specs.declared.slice.Split.{Split}
use denote.Param.Members.{Mut}
use Rattle.resp.proofs.GivenPairs.{given_front, same_given}
use Rattle.resp.proofs.Lent.{lent}
use Rattle.scripts.specs.Lines.{words_of}

-- a piece that is a word
abbrev pub is_word : List ℕ → Bool
is_word piece = not (length piece == 0)

-- the words among the pieces
abbrev pub words_among : List (List ℕ) → List (List ℕ)
words_among pieces = filter is_word pieces

-- one more word than n
pub words_over : (xs : List (List ℕ)) (x : List ℕ) (rest all : List (List ℕ)) (n : ℕ) → (xs ++ x ∷ []) ++ rest ≡ all → is_word x ≡ true
    → length (words_among xs) ≡ n → n < length (words_among all)
words_over xs x rest all n is word full =
    let one : words_among (x ∷ []) ≡ x ∷ [] = ap (λ (b : Bool). cond b (x ∷ []) []) word in
    let whole : words_among all ≡ (words_among xs ++ words_among (x ∷ [])) ++ words_among rest =
    sym (ap words_among is) ∙ filter-append is_word (xs ++ x ∷ []) rest
    ∙ ap (λ (zs : List (List ℕ)). zs ++ words_among rest) (filter-append is_word xs (x ∷ [])) in
    omega (
      arith,
      ap length whole,
      ap length one,
      length-append (words_among xs ++ words_among (x ∷ [])) (words_among rest),
      length-append (words_among xs) (words_among (x ∷ [])),
    )

module _ {F : Type 0} (g : Mut F (Bor ℕ × Unit {0}) Bool) (f : F) (text : List ℕ) (s : Split ℕ F) (rest : split_rest s ≡ text) (done : split_done s
    ≡ false) (callee : split_callee s ≡ f)
    (tests : (x : ℕ) (b : Bool) (q : F) → CalledAt g f x b q → (q ≡ f) × (b ≡ (x == 32))) where
  -- the pieces that came so far
  pieces_front : (xs : List (Bor (List ℕ))) (t : Split ℕ F) → Yields (split_steps g) s xs t
      → (behind : List (List ℕ)) × (map lent xs ++ behind ≡ slice_split (λ byte. byte == 32) text)
  pieces_front xs t so_far =
      given_front (split_steps g) lent s (slice_split (λ byte. byte == 32) text) xs t
      (YieldsList-from_slice_split g (λ byte. byte == 32) text rest done callee tests).runs so_far

  -- a word more than so many
  pub words_more : {most : ℕ} (xs : List (Bor (List ℕ))) (t : Split ℕ F) (x : Bor (List ℕ)) (u : Split ℕ F) → Yields (split_steps g) s xs t
      → split_steps g t (Some x) u → is_word x.now ≡ true → length (words_among (map lent xs)) ≡ most → most < length (words_of text)
  words_more {most} xs t x u so_far next word full =
      let front = pieces_front (xs ++ x ∷ []) u (Yields-more (split_steps g) s xs t x u so_far next) in
      words_over (map lent xs) x.now front.0 (slice_split (λ byte. byte == 32) text) most
      (ap (λ (ys : List (List ℕ)). ys ++ front.0) (sym (map-append lent xs (x ∷ []))) ∙ front.1) word full

  -- where no more come
  pub words_all : (xs : List (Bor (List ℕ))) (t u : Split ℕ F) → Yields (split_steps g) s xs t → split_steps g t None u
      → words_among (map lent xs) ≡ words_of text
  words_all xs t u so_far last =
      ap words_among (same_given (split_steps g) lent s (slice_split (λ byte. byte == 32) text) xs t u
      (YieldsList-from_slice_split g (λ byte. byte == 32) text rest done callee tests).runs so_far last)
