-- What a change of one entry leaves of what numbers see of a page, and of its summaries.
use Rattle.std.proofs.Common.{◌≡◌, ℕ, zero, suc, ◌<◌, ◌≤◌, Bool, true, not, cond, List, [], ◌∷◌, ◌++◌}
use Rattle.std.proofs.Common.{length, drop, get_or, set, Some, refl, sym, ap, subst, ◌∙◌, arith}
use Rattle.std.proofs.lemmas.Bool.Decides.{nat_tests}
use Rattle.std.proofs.lemmas.Grind.{common_steps}
use Rattle.std.specs.Int.{bit_at}
use Rattle.std.specs.List.{insert}
use Rattle.std.specs.Prelude.{nat_le, slice_get, ◌&&◌}
use Rattle.model.proofs.Elements.{all-append, all-each, all-get, all-set}
use Rattle.model.specs.Entries.{IsAt}
use Rattle.model.specs.Map.{Bytes}
use Rattle.sorted_pages.specs.Changes.{ChangesEntry}
use Rattle.sorted_pages.specs.Held.{bit_of, is_among}
use Rattle.sorted_pages.specs.Summaries.{AreOver, IsSummary, KeepsSummaries, KeepsSummariesOf, RaisesSummaries}
use Rattle.sorted_pages.specs.Summaries.{are_hidden}
use Rattle.sorted_pages.specs.Summaries.{is_any_shown}
use Rattle.sorted_pages.specs.Values.{IsOver, IsSeenAlike, IsTrimmed}
use Rattle.sorted_pages.specs.declared.summary.Summary.{Summary}

-- a number that stands in a place is one of them
pub among_at : (ns : List ℕ) (i n : ℕ) → slice_get ns i ≡ Some n → is_among ns n ≡ true
among_at [] zero n e = absurd (cc)
among_at [] (suc i) n e = absurd (cc)
among_at (m ∷ ns) zero n e = grind (arith, common_steps, nat_tests)
among_at (m ∷ ns) (suc i) n e = grind (arith, common_steps, among_at ns i n e)

-- ---- one number

module _ {X : Type 0} (hides : X → Bool) where
  -- an entry of which the number sees what it saw of the one before
  pub hidden-set : (es : List (Bytes × X)) (i : ℕ) (e d : Bytes × X) → d ≡ get_or es i d → hides e.1 ≡ hides d.1
      → are_hidden hides (set es i e) ≡ are_hidden hides es
  hidden-set [] i e d is same = refl
  hidden-set (c ∷ es) zero e d is same = ap (λ b. b && are_hidden hides es) (same ∙ ap (λ (x : Bytes × X). hides x.1) is)
  hidden-set (c ∷ es) (suc i) e d is same = ap (λ b. hides c.1 && b) (hidden-set es i e d is same)

  -- an entry more, of which it sees nothing
  pub hidden-insert : (es : List (Bytes × X)) (i : ℕ) (e : Bytes × X) → i ≤ length es → hides e.1 ≡ true
      → are_hidden hides (insert es i e) ≡ are_hidden hides es
  hidden-insert es zero e le h = ap (λ b. b && are_hidden hides es) h
  hidden-insert [] (suc i) e le h = absurd (omega arith)
  hidden-insert (c ∷ es) (suc i) e le h = ap (λ b. hides c.1 && b) (hidden-insert es i e (omega arith) h)

  -- the same at the end
  pub hidden-push : (es : List (Bytes × X)) (e : Bytes × X) → hides e.1 ≡ true → are_hidden hides (es ++ e ∷ []) ≡ are_hidden hides es
  hidden-push [] e h = ap (λ b. b && true) h
  hidden-push (c ∷ es) e h = ap (λ b. hides c.1 && b) (hidden-push es e h)

-- ---- all numbers

module _ {X : Type 0} (hides : ℕ → X → Bool) (shows : X → Bool) (last : X → ℕ) where
  -- what came with a number or before came with a later one or before
  pub later : (n m : ℕ) (v : X) → n ≤ m → IsOver hides shows last n v → IsOver hides shows last m v
  later n m v le o = record { late = omega arith; after = λ k h. o.after k (omega arith) }

  -- of all values
  pub all-later : (n m : ℕ) (es : List (Bytes × X)) → n ≤ m → AreOver hides shows last n es → AreOver hides shows last m es
  all-later n m es le o = all-each (λ e. IsOver hides shows last n e.1) (λ e. IsOver hides shows last m e.1) es (λ e h. later n m e.1 le h) o

  -- numbers from the last change on see something where one shows
  pub hidden-over : (n m : ℕ) (es : List (Bytes × X)) → n ≤ m → AreOver hides shows last n es → are_hidden (hides m) es ≡ not (is_any_shown shows es)
  hidden-over n m [] le o = refl
  hidden-over n m (e ∷ es) le o = grind (arith, common_steps, o.0.after m le, hidden-over n m es le o.1)

  -- a value more
  pub over-insert : (n : ℕ) (es : List (Bytes × X)) (i : ℕ) (e : Bytes × X) → i ≤ length es → IsOver hides shows last n e.1 → AreOver hides shows last n es
      → AreOver hides shows last n (insert es i e)
  over-insert n es zero e le h o = (h, o)
  over-insert n [] (suc i) e le h o = absurd (omega arith)
  over-insert n (c ∷ es) (suc i) e le h o = (o.0, over-insert n es i e (omega arith) h o.1)

  -- the values from a place on
  pub over-drop : (n i : ℕ) (es : List (Bytes × X)) → AreOver hides shows last n es → AreOver hides shows last n (drop i es)
  over-drop n zero es o = o
  over-drop n (suc i) [] o = tt
  over-drop n (suc i) (e ∷ es) o = over-drop n i es o.1

  -- a value in another's place of which that holds wherever it held of the other
  pub over-set : (n : ℕ) (es : List (Bytes × X)) (i : ℕ) (e d : Bytes × X) → d ≡ get_or es i d
      → (IsOver hides shows last n d.1 → IsOver hides shows last n e.1) → AreOver hides shows last n es → AreOver hides shows last n (set es i e)
  over-set n [] i e d is f o = tt
  over-set n (c ∷ es) zero e d is f o = (f (subst (λ (x : Bytes × X). IsOver hides shows last n x.1) (sym is) o.0), o.1)
  over-set n (c ∷ es) (suc i) e d is f o = (o.0, over-set n es i e d is f o.1)

  -- the value after a change, and one that came, with what `last` says of it
  pub over_from : (n : ℕ) (v : X) → last v ≤ n → ((m : ℕ) → last v ≤ m → hides m v ≡ not (shows v)) → IsOver hides shows last n v
  over_from n v le seen = record { late = le; after = λ m h. seen m (omega arith) }

  -- ---- summaries

  -- numbers below n see what they saw, and from n on what shows is seen
  pub raises : (n : ℕ) (old new : List (Bytes × X)) → ((m : ℕ) → m < n → are_hidden (hides m) new ≡ are_hidden (hides m) old)
      → ((k : ℕ) → k ≤ n → AreOver hides shows last k old → AreOver hides shows last n new) → RaisesSummaries hides shows last n old new
  raises n old new same over = λ held s t le of at showing raised.
      let all = over s.last le of.over in
      record {
        over = subst (λ k. AreOver hides shows last k new) (sym at) all;
        after = λ m h. hidden-over n m new (omega arith) all ∙ ap not (sym showing);
        before = λ i m is lt.
            let below : m < n = omega arith in
            raised i m is lt ∙ seen held s of i m is ∙ ap bit_of (sym (same m below));
      }
    where
      seen : (held : List ℕ) (s : Summary) → IsSummary hides shows last held old s → (i m : ℕ) → slice_get held i ≡ Some m
          → cond (nat_le s.last m) (bit_of (not s.shows)) (bit_at s.hidden i) ≡ bit_of (are_hidden (hides m) old)
      seen held s of i m is = grind (arith, common_steps, nat_tests, of.after m, of.before i m is)

  -- those of these numbers that are below the last change, and all from there on, see what they saw
  pub keeps_of : (ns : List ℕ) (old new : List (Bytes × X)) → ((k : ℕ) → AreOver hides shows last k old → AreOver hides shows last k new)
      → ((m : ℕ) → is_among ns m ≡ true → are_hidden (hides m) new ≡ are_hidden (hides m) old)
      → ((m : ℕ) → AreOver hides shows last m old → are_hidden (hides m) new ≡ are_hidden (hides m) old)
      → KeepsSummariesOf ns hides shows last old new
  keeps_of ns old new over among after = λ held s only of. record {
    over = over s.last of.over;
    after = λ m h. after m (all-later s.last m old h of.over) ∙ of.after m h;
    before = λ i m is lt. of.before i m is lt ∙ ap bit_of (sym (among m (only m (among_at held i m is) lt)));
  }

  -- where all numbers see what they saw
  pub keeps : (old new : List (Bytes × X)) → ((k : ℕ) → AreOver hides shows last k old → AreOver hides shows last k new)
      → ((m : ℕ) → are_hidden (hides m) new ≡ are_hidden (hides m) old) → KeepsSummaries hides shows last old new
  keeps old new over same = λ held s of. record {
    over = over s.last of.over;
    after = λ m h. same m ∙ of.after m h;
    before = λ i m is lt. of.before i m is lt ∙ ap bit_of (sym (same m));
  }

  -- ---- one value in another's place

  -- every number sees of it what it saw
  pub over_alike : (n : ℕ) (v w : X) → IsSeenAlike hides shows last v w → IsOver hides shows last n v → IsOver hides shows last n w
  over_alike n v w a o = record {
    late = omega (arith, a.latest, o.late);
    after = λ m h. a.each m ∙ o.after m h ∙ ap not (sym a.newest);
  }

  -- the numbers that are left, and those from the last change on, do
  pub over_trimmed : (ns : List ℕ) (n : ℕ) (v w : X) → IsTrimmed hides shows last ns v w → IsOver hides shows last n v → IsOver hides shows last n w
  over_trimmed ns n v w t o = record {
    late = omega (arith, t.latest, o.late);
    after = λ m h. (let lt : last v ≤ m = omega (arith, o.late) in t.after m lt) ∙ o.after m h ∙ ap not (sym t.newest);
  }

  -- the last change of the value in a place came with the number or before
  pub over_at : (n : ℕ) (es : List (Bytes × X)) (i : ℕ) (d : Bytes × X) → i < length es → d ≡ get_or es i d → AreOver hides shows last n es
      → IsOver hides shows last n d.1
  over_at n es i d lt is o =
      subst (λ (x : Bytes × X). IsOver hides shows last n x.1) (sym is) (all-get (λ (x : Bytes × X). IsOver hides shows last n x.1) es i d lt o)

  -- so do all of the page
  pub keeps-set : (es : List (Bytes × X)) (i : ℕ) (e d : Bytes × X) → d ≡ get_or es i d → IsSeenAlike hides shows last d.1 e.1
      → KeepsSummaries hides shows last es (set es i e)
  keeps-set es i e d is a =
      keeps es (set es i e) (λ k. over-set k es i e d is (over_alike k d.1 e.1 a)) (λ m. hidden-set (hides m) es i e d is (a.each m))

  -- so do those that are left
  pub keeps_of-set : (ns : List ℕ) (es : List (Bytes × X)) (i : ℕ) (e d : Bytes × X) → i < length es → d ≡ get_or es i d
      → IsTrimmed hides shows last ns d.1 e.1 → KeepsSummariesOf ns hides shows last es (set es i e)
  keeps_of-set ns es i e d lt is t =
      keeps_of ns es (set es i e) (λ k. over-set k es i e d is (over_trimmed ns k d.1 e.1 t)) (λ m a. hidden-set (hides m) es i e d is (t.among m a))
      (λ m o. hidden-set (hides m) es i e d is (t.after m (over_at m es i d lt is o).late))

  -- numbers below n see of it what they saw
  pub raises-set : (n : ℕ) (es : List (Bytes × X)) (i : ℕ) (e d : Bytes × X) → d ≡ get_or es i d
      → ((m : ℕ) → m < n → hides m e.1 ≡ hides m d.1) → IsOver hides shows last n e.1 → RaisesSummaries hides shows last n es (set es i e)
  raises-set n es i e d is same o =
      raises n es (set es i e) (λ m h. hidden-set (hides m) es i e d is (same m h))
      (λ k le a. all-set (λ e. IsOver hides shows last n e.1) es i e o (all-later k n es le a))

  -- ---- a value that comes

  -- numbers below n see nothing of it
  pub raises-insert : (n : ℕ) (es : List (Bytes × X)) (i : ℕ) (e : Bytes × X) → i ≤ length es
      → ((m : ℕ) → m < n → hides m e.1 ≡ true) → IsOver hides shows last n e.1 → RaisesSummaries hides shows last n es (insert es i e)
  raises-insert n es i e le fresh o =
      raises n es (insert es i e) (λ m h. hidden-insert (hides m) es i e le (fresh m h))
      (λ k lt a. over-insert n es i e le o (all-later k n es lt a))

  -- at the end
  pub raises-push : (n : ℕ) (es : List (Bytes × X)) (e : Bytes × X) → ((m : ℕ) → m < n → hides m e.1 ≡ true) → IsOver hides shows last n e.1
      → RaisesSummaries hides shows last n es (es ++ e ∷ [])
  raises-push n es e fresh o =
      raises n es (es ++ e ∷ []) (λ m h. hidden-push (hides m) es e (fresh m h))
      (λ k lt a. all-append (λ e. IsOver hides shows last n e.1) es (e ∷ []) (all-later k n es lt a) (o, tt))

-- ---- the key's value

-- another value in the place of a key's
pub changes-set : {X : Type 0} (R : X → X → Type 0) (k : Bytes) (es : List (Bytes × X)) (i : ℕ) (d : Bytes × X) (v : X) (room : ℕ) → IsAt es k i
    → d ≡ get_or es i d → R d.1 v → ChangesEntry k R (es, room) (set es i (d.0, v), room)
changes-set {X} R k es i d v room at is r = record {
  before = d.1;
  after = v;
  found = at.found d ∙ ap (λ (e : Bytes × X). Some e.1) (sym is);
  changed = r;
  entries = ap (λ (q : Bytes). set es i (q, v)) (ap (λ (e : Bytes × X). e.0) is ∙ at.key d) ∙ at.written v;
  room = refl;
}
