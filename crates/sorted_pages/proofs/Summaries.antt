-- The summaries of pages: what changes of pages leave of them.
use Rattle.std.proofs.Common.{◌≡◌, ℕ, ◌+◌, ◌<◌, ◌≤◌, Bool, true, false, List, [], ◌∷◌, ◌++◌, length, take, drop}
use Rattle.std.proofs.Common.{get_or, set, refl, sym, ap, subst, ◌∙◌, arith, zero, suc, max, inl, inr}
use Rattle.std.proofs.lemmas.Bool.{and_from, and_parts, lt-ltb}
use Rattle.std.specs.Int.{bit_at}
use Rattle.std.proofs.lemmas.List.{length-append, length-set, take-append-drop}
use Rattle.std.proofs.lemmas.List.Edits.{length-insert}
use Rattle.std.specs.List.{AllByRecursion, insert}
use Rattle.std.specs.Prelude.{nat_lt, not, slice_get, ◌&&◌, ◌||◌, Some}
use Rattle.model.proofs.Elements.{all-append, all-back, all-each, all-get, all-set, all-take}
use Rattle.model.specs.Map.{Bytes}
use Rattle.sorted_pages.specs.Held.{AreBits, AreHeldFrom, bit_of}
use Rattle.sorted_pages.specs.Pages.{Page, PagesValue}
use Rattle.sorted_pages.specs.Summaries.{AreOver, AreSummaries, BitsHide, HaveSummaries, IsRaised, IsSummary}
use Rattle.sorted_pages.specs.Summaries.{RaisesSummaries, are_hidden, is_any_shown}
use Rattle.sorted_pages.specs.Values.{IsOver}
use Rattle.sorted_pages.specs.declared.summary.Summary.{Summary}

module _ {X : Type 0} (hides : ℕ → X → Bool) (shows : X → Bool) (last : X → ℕ) where
  -- from a number on, entries whose last change isn't above it are hidden where none shows
  pub over_hidden : (k : ℕ) (es : List (Bytes × X)) → AreOver hides shows last k es → (n : ℕ) → k ≤ n
      → are_hidden (hides n) es ≡ not (is_any_shown shows es)
  over_hidden k [] h n le = refl
  over_hidden k (e ∷ es) h n le = rw (h.0.after n le, over_hidden k es h.1 n le) (by (shows e.1))
    where
      by : (b : Bool) → (not b && not (is_any_shown shows es)) ≡ not (b || is_any_shown shows es)
      by true = refl
      by false = refl

  pub over-take : (k at : ℕ) (es : List (Bytes × X)) → AreOver hides shows last k es → AreOver hides shows last k (take at es)
  over-take k at es h = all-take (λ e. IsOver hides shows last k e.1) es at h

  pub over-drop : (k at : ℕ) (es : List (Bytes × X)) → AreOver hides shows last k es → AreOver hides shows last k (drop at es)
  over-drop k at es h = all-back (λ e. IsOver hides shows last k e.1) (take at es) (drop at es)
      (subst (AreOver hides shows last k) (sym (take-append-drop at es)) h)

  hidden-front : (h : X → Bool) (xs ys : List (Bytes × X)) → are_hidden h (xs ++ ys) ≡ true → are_hidden h xs ≡ true × are_hidden h ys ≡ true
  hidden-front h [] ys t = (refl, t)
  hidden-front h (x ∷ xs) ys t =
      let p = and_parts (h x.1) (are_hidden h (xs ++ ys)) t in
      let q = hidden-front h xs ys p.1 in
      (and_from (h x.1) (are_hidden h xs) p.0 q.0, q.1)

  set_bit : (b : Bool) → bit_of b ≡ 1 → b ≡ true
  set_bit true e = refl
  set_bit false e = absurd (omega arith)

  -- what sees nothing of entries sees nothing of their parts
  pub hidden-parts : (held : List ℕ) (es : List (Bytes × X)) (s : Summary) (at : ℕ) → IsSummary hides shows last held es s
      → BitsHide hides held s.last (take at es) s.hidden × BitsHide hides held s.last (drop at es) s.hidden
  hidden-parts held es s at is =
      let both = λ (i m : ℕ) (there : slice_get held i ≡ Some m) (lt : m < s.last) (bit : bit_at s.hidden i ≡ 1).
      hidden-front (hides m) (take at es) (drop at es)
      (ap (are_hidden (hides m)) (take-append-drop at es) ∙ set_bit (are_hidden (hides m) es) (sym (is.before i m there lt) ∙ bit)) in
      (λ i m there lt bit. (both i m there lt bit).0, λ i m there lt bit. (both i m there lt bit).1)

  -- what `of` gives
  pub summary-of : (held : List ℕ) (es : List (Bytes × X)) (s : Summary) → AreOver hides shows last s.last es → s.shows ≡ is_any_shown shows es
      → AreBits (λ n. nat_lt n s.last && are_hidden (hides n) es) held s.hidden → IsSummary hides shows last held es s
  summary-of held es s over any bits = record {
    over = over;
    after = λ n le. over_hidden s.last es over n le ∙ ap not (sym any);
    before = λ i n at lt. bits i n at ∙ ap (λ b. bit_of (b && are_hidden (hides n) es)) (lt-ltb n s.last lt);
  }

  -- the pages, the numbers that are held, and the number of the last change
  abbrev pub value_of : List (Page X) → List ℕ → ℕ → PagesValue X
  value_of ps held top = record { pages = ps; held = held; last = top }

  -- the summary of one of the pages
  summary_at : (held : List ℕ) (ps : List (Page X)) (ss : List Summary) (i : ℕ) (p : Page X) (s : Summary) → i < length ps → p ≡ get_or ps i p
      → s ≡ get_or ss i s → AreSummaries hides shows last held ps ss → IsSummary hides shows last held p.0 s
  summary_at held [] ss i p s lt at sat h = absurd (omega arith)
  summary_at held (q ∷ ps) [] i p s lt at sat h = absurd h
  summary_at held (q ∷ ps) (t ∷ ss) zero p s lt at sat h =
      subst (λ (r : Page X). IsSummary hides shows last held r.0 s) (sym at) (subst (IsSummary hides shows last held q.0) (sym sat) h.0)
  summary_at held (q ∷ ps) (t ∷ ss) (suc i) p s lt at sat h = summary_at held ps ss i p s (omega arith) at sat h.1

  -- page i becomes another, of which its summary is
  summaries-page : (held : List ℕ) (top : ℕ) (ps : List (Page X)) (ss : List Summary) (i : ℕ) (p r : Page X) → p ≡ get_or ps i p
      → ((s : Summary) → s.last ≤ top → IsSummary hides shows last held p.0 s → IsSummary hides shows last held r.0 s)
      → AllByRecursion (λ s. s.last ≤ top) ss → AreSummaries hides shows last held ps ss → AreSummaries hides shows last held (set ps i r) ss
  summaries-page held top [] ss i p r at keeps late h = h
  summaries-page held top (q ∷ ps) [] i p r at keeps late h = absurd h
  summaries-page held top (q ∷ ps) (s ∷ ss) zero p r at keeps late h =
      (keeps s late.0 (subst (λ (x : Page X). IsSummary hides shows last held x.0 s) (sym at) h.0), h.1)
  summaries-page held top (q ∷ ps) (s ∷ ss) (suc i) p r at keeps late h =
      (h.0, summaries-page held top ps ss i p r at keeps late.1 h.1)

  -- and its summary too
  summaries-both : (held : List ℕ) (ps : List (Page X)) (ss : List Summary) (i : ℕ) (r : Page X) (t : Summary)
      → IsSummary hides shows last held r.0 t → AreSummaries hides shows last held ps ss
      → AreSummaries hides shows last held (set ps i r) (set ss i t)
  summaries-both held [] ss i r t is h = tt
  summaries-both held (q ∷ ps) [] i r t is h = absurd h
  summaries-both held (q ∷ ps) (s ∷ ss) zero r t is h = (is, h.1)
  summaries-both held (q ∷ ps) (s ∷ ss) (suc i) r t is h = (h.0, summaries-both held ps ss i r t is h.1)

  -- a page more at the end
  summaries-push : (held : List ℕ) (ps : List (Page X)) (ss : List Summary) (p : Page X) (s : Summary) → length ss ≡ length ps
      → IsSummary hides shows last held p.0 s → AreSummaries hides shows last held ps ss
      → AreSummaries hides shows last held (ps ++ p ∷ []) (ss ++ s ∷ [])
  summaries-push held [] [] p s long is h = (is, tt)
  summaries-push held [] (t ∷ ss) p s long is h = absurd (omega arith)
  summaries-push held (q ∷ ps) [] p s long is h = absurd h
  summaries-push held (q ∷ ps) (t ∷ ss) p s long is h = (h.0, summaries-push held ps ss p s (omega arith) is h.1)

  -- a page more in between
  summaries-insert : (held : List ℕ) (ps : List (Page X)) (ss : List Summary) (i : ℕ) (p : Page X) (s : Summary) → i ≤ length ps
      → IsSummary hides shows last held p.0 s → AreSummaries hides shows last held ps ss
      → AreSummaries hides shows last held (insert ps i p) (insert ss i s)
  summaries-insert held ps ss zero p s le is h = (is, h)
  summaries-insert held [] ss (suc i) p s le is h = absurd (omega arith)
  summaries-insert held (q ∷ ps) [] (suc i) p s le is h = absurd h
  summaries-insert held (q ∷ ps) (t ∷ ss) (suc i) p s le is h = (h.0, summaries-insert held ps ss i p s (omega arith) is h.1)

  -- other numbers are held, but of those below the last change none that wasn't in its place
  summaries-held : (top : ℕ) (old new : List ℕ) (ps : List (Page X)) (ss : List Summary) → AreHeldFrom top old new
      → AllByRecursion (λ s. s.last ≤ top) ss → AreSummaries hides shows last old ps ss → AreSummaries hides shows last new ps ss
  summaries-held top old new [] ss from late h = tt
  summaries-held top old new (p ∷ ps) [] from late h = absurd h
  summaries-held top old new (p ∷ ps) (s ∷ ss) from late h = (
    record {
      over = h.0.over;
      after = h.0.after;
      before = λ i n at lt. elim (from i n at) [ inl was ↦ h.0.before i n was lt | inr high ↦ absurd (by n lt late.0 high) ];
    },
    summaries-held top old new ps ss from late.1 h.1,
  )
    where
      by : (n : ℕ) → n < s.last → s.last ≤ top → top ≤ n → ⊥
      by n a b d = omega arith

  late_until : (top n : ℕ) (ss : List Summary) → top ≤ n → AllByRecursion (λ s. s.last ≤ top) ss → AllByRecursion (λ s. s.last ≤ n) ss
  late_until top n ss le h = all-each (λ (s : Summary). s.last ≤ top) (λ s. s.last ≤ n) ss (λ s l. omega arith) h

  late_insert : (n : ℕ) (ss : List Summary) (i : ℕ) (t : Summary) → t.last ≤ n → AllByRecursion (λ s. s.last ≤ n) ss
      → AllByRecursion (λ (s : Summary). s.last ≤ n) (insert ss i t)
  late_insert n ss zero t le h = (le, h)
  late_insert n [] (suc i) t le h = (le, tt)
  late_insert n (s ∷ ss) (suc i) t le h = (h.0, late_insert n ss i t le h.1)

  module _ (ps : List (Page X)) (held : List ℕ) (top : ℕ) (ss : List Summary) (have : HaveSummaries hides shows last (value_of ps held top) ss) where
    -- what is known of one page
    pub have-at : (i : ℕ) (p : Page X) (s : Summary) → i < length ps → p ≡ get_or ps i p → s ≡ get_or ss i s
        → IsSummary hides shows last held p.0 s × (s.last ≤ top)
    have-at i p s lt at sat =
        let long = have.count in (
          summary_at held ps ss i p s lt at sat have.each,
          subst (λ (x : Summary). x.last ≤ top) (sym sat) (all-get (λ (x : Summary). x.last ≤ top) ss i s (omega arith) have.late),
        )

    -- the same, read where room was made for more
    pub have-read : (qs : List (Page X)) (ts : List Summary) (i : ℕ) (p : Page X) (s : Summary) → qs ≡ ps → ts ≡ ss → i < length ps
        → p ≡ get_or qs i p → s ≡ get_or ts i s → IsSummary hides shows last held p.0 s × (s.last ≤ top)
    have-read qs ts i p s same alike lt at sat =
        have-at i p s lt (at ∙ ap (λ (l : List (Page X)). get_or l i p) same) (sat ∙ ap (λ (l : List Summary). get_or l i s) alike)

    -- page i becomes another, of which its summary is
    pub have-page : (i : ℕ) (p r : Page X) → p ≡ get_or ps i p
        → ((s : Summary) → s.last ≤ top → IsSummary hides shows last held p.0 s → IsSummary hides shows last held r.0 s)
        → HaveSummaries hides shows last (value_of (set ps i r) held top) ss
    have-page i p r at keeps = record {
      count = have.count ∙ sym (length-set ps i r);
      each = summaries-page held top ps ss i p r at keeps have.late have.each;
      late = have.late;
    }

    -- a value of page i changes with n
    pub have-raised : (i n : ℕ) (p r : Page X) (s t : Summary) → i < length ps → top ≤ n → p ≡ get_or ps i p → s ≡ get_or ss i s
        → RaisesSummaries hides shows last n p.0 r.0 → t.last ≡ max s.last n → t.shows ≡ is_any_shown shows r.0 → IsRaised held s t
        → HaveSummaries hides shows last (value_of (set ps i r) held n) (set ss i t)
    have-raised i n p r s t lt le at sat raises tlast tshows traised =
        let k = have-at i p s lt at sat in
        let low : s.last ≤ n = omega (arith, k.1) in
        let is : t.last ≡ n = omega arith in
        record {
          count = length-set ss i t ∙ have.count ∙ sym (length-set ps i r);
          each = summaries-both held ps ss i r t (raises held s t low k.0 is tshows traised) have.each;
          late = all-set (λ (x : Summary). x.last ≤ n) ss i t (omega arith) (late_until top n ss le have.late);
        }

    -- other numbers are held
    pub have-held : (new : List ℕ) → AreHeldFrom top held new → HaveSummaries hides shows last (value_of ps new top) ss
    have-held new from = record {
      count = have.count;
      each = summaries-held top held new ps ss from have.late have.each;
      late = have.late;
    }

    -- a page more at the end
    pub have-push : (n : ℕ) (p : Page X) (s : Summary) → top ≤ n → IsSummary hides shows last held p.0 s → s.last ≡ n
        → HaveSummaries hides shows last (value_of (ps ++ p ∷ []) held n) (ss ++ s ∷ [])
    have-push n p s le is slast =
        let long = have.count in
        record {
          count = omega (arith, length-append ss (s ∷ []), length-append ps (p ∷ []));
          each = summaries-push held ps ss p s long is have.each;
          late = all-append (λ (x : Summary). x.last ≤ n) ss (s ∷ []) (late_until top n ss le have.late) (omega arith, tt);
        }

    -- in the place of page i stand two
    pub have-split : (i : ℕ) (lower upper : Page X) (s t : Summary) → i < length ps → IsSummary hides shows last held lower.0 s
        → IsSummary hides shows last held upper.0 t → s.last ≤ top → t.last ≤ top
        → HaveSummaries hides shows last (value_of (insert (set ps i lower) (i + 1) upper) held top) (insert (set ss i s) (i + 1) t)
    have-split i lower upper s t lt low high slate tlate =
        let long = have.count in
        let lps = length-set ps i lower in
        let lss = length-set ss i s in
        record {
          count = omega (arith, length-insert (set ss i s) (i + 1) t (omega arith), length-insert (set ps i lower) (i + 1) upper (omega arith));
          each = summaries-insert held (set ps i lower) (set ss i s) (i + 1) upper t (omega arith) high
              (summaries-both held ps ss i lower s low have.each);
          late = late_insert top (set ss i s) (i + 1) t tlate (all-set (λ (x : Summary). x.last ≤ top) ss i s slate have.late);
        }
