-- The pairs that an iterator gives, written one after the other.
use Rattle.std.proofs.Common.{◌≡◌, ℕ, ◌*◌, ◌≤◌, List, [], ◌∷◌, ◌++◌, length, map, Option, None, refl, sym, subst}
use Rattle.std.proofs.Common.{append_assoc, arith, length-append}
use Rattle.std.proofs.lemmas.Grind.{common_steps}
use Rattle.std.proofs.lemmas.List.{append-nil, map-append}
use Rattle.std.proofs.lemmas.List.Concat.{flat_map-append}
use Rattle.std.specs.Borrow.{Bor}
use Rattle.std.specs.Fmt.{decimal}
use Rattle.std.specs.Iterator.{Yields, AlwaysYields}
use Rattle.std.specs.List.{flat_map}
use Rattle.std.specs.Prelude.{codes}
use Rattle.model.specs.Grammar.{crlf}
use Rattle.model.specs.KeyBytes.{pair_bytes}
use Rattle.model.specs.Operations.Response.{Pairs}
use Rattle.model.specs.ReplyText.{pair_text, reply_text}
use Rattle.model.specs.declared.keys.KeyRef.{KeyRef}

-- what an iterator gave is a front of all that it gives
pub given_front : {S A B : Type 0} (steps : S → Option A → S → Type 0) (view : A → B) (s : S) (all : List B) (xs : List A) (t : S)
    → AlwaysYields steps view s all → Yields steps s xs t → (rest : List B) × (map view xs ++ rest ≡ all)
given_front steps view s all [] t h y = (all, refl)
given_front steps view s [] (x ∷ xs) t h y = absurd (h x y.0 y.1)
given_front steps view s (a ∷ all) (x ∷ xs) t h y =
    let next = h.1 x y.0 y.1 in
    let others = given_front steps view y.0 all xs t next.1 y.2 in
    (others.0, grind arith)

-- the line and the pairs so far
abbrev pub pairs_text : ℕ → List (KeyRef × Bor (List ℕ)) → List ℕ
pairs_text n pairs = (codes "*" ++ decimal (2 * n) ++ crlf) ++ flat_map pair_text (map pair_bytes pairs)

pub pairs_more : (n : ℕ) (pairs : List (KeyRef × Bor (List ℕ))) (pair : KeyRef × Bor (List ℕ))
    → pairs_text n pairs ++ pair_text (pair_bytes pair) ≡ pairs_text n (pairs ++ pair ∷ [])
pairs_more n pairs pair = grind (arith, common_steps, append_assoc, map-append, flat_map-append, append-nil)

-- a front of the pairs has no longer text than all
pub pairs_front : (n : ℕ) (pairs : List (KeyRef × Bor (List ℕ))) (rest all : List (List ℕ × List ℕ)) → map pair_bytes pairs ++ rest ≡ all → length all ≡ n
    → length (pairs_text n pairs) ≤ length (reply_text (Pairs all))
pairs_front n pairs rest all is len = grind (arith, common_steps, flat_map-append, length-append)

-- what always comes is one list
pub same_given : {S A B : Type 0} (steps : S → Option A → S → Type 0) (view : A → B) (s : S) (all : List B) (xs : List A) (t u : S)
    → AlwaysYields steps view s all → Yields steps s xs t → steps t None u → map view xs ≡ all
same_given steps view s [] [] t u h y last = refl
same_given steps view s (a ∷ all) [] t u h y last = absurd (h.0 u (subst (λ k. steps k None u) (sym y) last))
same_given steps view s [] (x ∷ xs) t u h y last = absurd (h x y.0 y.1)
same_given steps view s (a ∷ all) (x ∷ xs) t u h y last =
    let next = h.1 x y.0 y.1 in
    let others = same_given steps view y.0 all xs t u next.1 y.2 last in
    grind arith
