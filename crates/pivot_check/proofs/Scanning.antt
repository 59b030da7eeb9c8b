-- Postings that were scanned, and those behind them.
use Rattle.std.proofs.Common.{true, ◌≡◌, ◌≤◌, ◌-◌, ℕ, Bool, List, [], ◌∷◌, ◌++◌, Option, Some, sym, ap, subst, ◌∙◌}
use Rattle.std.proofs.Common.{arith}
use Rattle.std.specs.Prelude.{min}
use Rattle.model.proofs.Elements.{all-each, all-append}
use Rattle.pivot_check.proofs.Passing.{passed_over, kept_part, split_at}
use Rattle.pivot_check.specs.Agreeing.{lesser_assoc, least-append}
use Rattle.pivot_check.specs.Bounds.{KeepsFound}
use Rattle.pivot_check.specs.Postings.{Posting, least, lesser, is_asked, between}

-- ---- what was found

kept_if : (found : Option ℕ) (b : ℕ) (flagged : Bool) (ps : List Posting) → lesser found (least (is_asked b flagged) ps) ≡ found → KeepsFound found b flagged ps
kept_if found b flagged [] h = tt
kept_if found b flagged (p ∷ ps) h =
    grind (arith, kept_if found b flagged ps)

-- none of them is below what was found with them
pub scanned_anew : (found next : Option ℕ) (b : ℕ) (flagged : Bool) (ps : List Posting) → next ≡ lesser found (least (is_asked b flagged) ps)
    → KeepsFound next b flagged ps
scanned_anew found next b flagged ps is = kept_if next b flagged ps (grind arith)

-- a lesser number stays, too
kept_more : (found x : Option ℕ) (b : ℕ) (flagged : Bool) (ps : List Posting) → KeepsFound found b flagged ps → KeepsFound (lesser found x) b flagged ps
kept_more found x b flagged ps h =
    all-each _ (λ p. is_asked b flagged p ≡ true → lesser (lesser found x) (Some p.number) ≡ lesser found x) ps (λ p stays e. grind (arith, stays e)) h

-- ---- one more scan

-- all of them were scanned
pub scanned_before : (found : Option ℕ) (b : ℕ) (flagged : Bool) (a e x y : ℕ) (ps : List Posting) → a ≤ x → x ≤ y → y ≤ e
    → KeepsFound found b flagged (between a e ps)
    → found ≡ lesser found (least (is_asked b flagged) (between x y ps))
scanned_before found b flagged a e x y ps low order high h =
    passed_over found b flagged (is_asked b flagged) (λ p t. t) (between x y ps) (kept_part found b flagged a (e - a) x y ps low order (omega arith) h)

-- those up to the middle, and those behind it
both_sides : (a m e : ℕ) (ps : List Posting) → a ≤ m → m ≤ e → between a m ps ++ between m e ps ≡ between a e ps
both_sides a m e ps low high = let here : m ≡ min e m = omega arith in ap (λ k. between a k ps ++ between m e ps) here ∙ split_at a m e ps (omega arith) low

-- those up to `stop` were, so that those behind it decide
pub scanned_further : (found next : Option ℕ) (b : ℕ) (flagged : Bool) (ps : List Posting) (first at stop end : ℕ) → first ≤ at → at ≤ stop → stop ≤ end
    → KeepsFound found b flagged (between first stop ps) → next ≡ lesser found (least (is_asked b flagged) (between stop end ps))
    → next ≡ lesser found (least (is_asked b flagged) (between at end ps))
scanned_further found next b flagged ps first at stop end low mid high h is =
    let c = is_asked b flagged in
    is
    ∙ ap (λ o. lesser o (least c (between stop end ps))) (scanned_before found b flagged first stop at stop ps low mid (omega arith) h)
    ∙ lesser_assoc found (least c (between at stop ps)) (least c (between stop end ps))
    ∙ ap (lesser found) (sym (least-append c (between at stop ps) (between stop end ps)) ∙ ap (least c) (both_sides at stop end ps mid high))

pub scanned_joined : (found next : Option ℕ) (b : ℕ) (flagged : Bool) (ps : List Posting) (first stop end : ℕ) → first ≤ stop → stop ≤ end
    → KeepsFound found b flagged (between first stop ps) → next ≡ lesser found (least (is_asked b flagged) (between stop end ps))
    → KeepsFound next b flagged (between first end ps)
scanned_joined found next b flagged ps first stop end mid high h is =
    let more = kept_more found (least (is_asked b flagged) (between stop end ps)) b flagged (between first stop ps) h in
    subst (KeepsFound next b flagged) (both_sides first stop end ps mid high) (all-append _ (between first stop ps) (between stop end ps)
    (subst (λ o. KeepsFound o b flagged (between first stop ps)) (sym is) more) (scanned_anew found next b flagged (between stop end ps) is))
