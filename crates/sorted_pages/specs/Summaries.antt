-- What numbers see of the values of a page, and what is known of it.
use Rattle.std.specs.Int.{bit_at}
use Rattle.std.specs.Int.Bits.{bit_and}
use Rattle.std.specs.List.{AllByRecursion, list_all, list_any}
use Rattle.std.specs.Prelude.{◌≡◌, ℕ, ◌<◌, ◌≤◌, ◌==◌, ◌||◌, Bool, true, false, List, [], ◌∷◌, length, not, nat_le}
use Rattle.std.specs.Prelude.{nat_lt, slice_get, Some, if◌then◌else◌, ⊤}
use Rattle.model.specs.Map.{Bytes}
use Rattle.sorted_pages.specs.Held.{bit_of, is_among}
use Rattle.sorted_pages.specs.Pages.{Page, PagesValue}
use Rattle.sorted_pages.specs.Values.{IsOver}
use Rattle.sorted_pages.specs.declared.held.Reader.{Reader}
use Rattle.sorted_pages.specs.declared.summary.Summary.{Summary}

-- nothing is seen of the entries
abbrev pub are_hidden : {X : Type 0} → (X → Bool) → List (Bytes × X) → Bool
are_hidden hides es = list_all (λ e. hides e.1) es

-- the held numbers below n whose bits are set see nothing of the entries
abbrev pub BitsHide : {X : Type 0} → (ℕ → X → Bool) → List ℕ → ℕ → List (Bytes × X) → ℕ → Type 0
BitsHide hides held n es bits = (i m : ℕ) → slice_get held i ≡ Some m → m < n → bit_at bits i ≡ 1
    → are_hidden (hides m) es ≡ true

-- one of the values shows
abbrev pub is_any_shown : {X : Type 0} → (X → Bool) → List (Bytes × X) → Bool
is_any_shown shows es = list_any (λ e. shows e.1) es

-- the last change of each of the values came with n or before
abbrev pub AreOver : {X : Type 0} → (ℕ → X → Bool) → (X → Bool) → (X → ℕ) → ℕ → List (Bytes × X) → Type 0
AreOver hides shows last n es = AllByRecursion (λ e. IsOver hides shows last n e.1) es

-- the summary is of these entries: it says of each held number, and of each from the last change on, whether it sees
-- nothing of them
pub record IsSummary {X : Type 0} (hides : ℕ → X → Bool) (shows : X → Bool) (last : X
    → ℕ) (held : List ℕ) (es : List (Bytes × X)) (s : Summary) : Type 0 where
  pub over : AreOver hides shows last s.last es
  pub after : (n : ℕ) → s.last ≤ n → are_hidden (hides n) es ≡ not s.shows
  pub before : (i n : ℕ) → slice_get held i ≡ Some n → n < s.last
      → bit_at s.hidden i ≡ bit_of (are_hidden (hides n) es)

-- what the bits of the held numbers are once the page has changed with a number: those of numbers below it say what was
-- seen before, of those from the last change on by what showed then
abbrev pub IsRaised : List ℕ → Summary → Summary → Type 0
IsRaised held old new = (i n : ℕ) → slice_get held i ≡ Some n → n < new.last
    → bit_at new.hidden i ≡ (if nat_le old.last n then bit_of (not old.shows) else bit_at old.hidden i)

-- ---- what changes of entries leave of summaries

-- a summary of the old entries is one of the new ones
abbrev pub KeepsSummaries : {X : Type 0} → (ℕ → X → Bool) → (X → Bool) → (X → ℕ) → List (Bytes × X)
    → List (Bytes × X) → Type 0
KeepsSummaries hides shows last old new = (held : List ℕ) (s : Summary)
    → IsSummary hides shows last held old s → IsSummary hides shows last held new s

-- the same where of the numbers below the last change only these are held
abbrev pub KeepsSummariesOf : {X : Type 0} → List ℕ → (ℕ → X → Bool) → (X → Bool) → (X → ℕ) → List (Bytes × X)
    → List (Bytes × X) → Type 0
KeepsSummariesOf ns hides shows last old new = (held : List ℕ) (s : Summary)
    → ((n : ℕ) → is_among held n ≡ true → n < s.last → is_among ns n ≡ true)
    → IsSummary hides shows last held old s → IsSummary hides shows last held new s

-- a summary of the old entries that is raised to n is one of the new ones
abbrev pub RaisesSummaries : {X : Type 0} → (ℕ → X → Bool) → (X → Bool) → (X → ℕ) → ℕ → List (Bytes × X)
    → List (Bytes × X) → Type 0
RaisesSummaries hides shows last n old new = (held : List ℕ) (s t : Summary)
    → s.last ≤ n → IsSummary hides shows last held old s
    → t.last ≡ n → t.shows ≡ is_any_shown shows new → IsRaised held s t
    → IsSummary hides shows last held new t

-- ---- the summaries of pages

-- a range of the reader passes over the page
abbrev pub is_passed : Reader → Summary → Bool
is_passed r s = if nat_lt r.number s.last then not (bit_and s.hidden r.bit == 0) else not s.shows

-- each of the pages has its summary, of which there may be more
abbrev pub AreSummaries : {X : Type 0} → (ℕ → X → Bool) → (X → Bool) → (X → ℕ) → List ℕ → List (Page X) → List Summary
    → Type 0
AreSummaries hides shows last held [] ss = ⊤
AreSummaries hides shows last held (p ∷ ps) [] = ⊥
AreSummaries hides shows last held (p ∷ ps) (s ∷ ss) =
    IsSummary hides shows last held p.0 s × AreSummaries hides shows last held ps ss

-- each page has a summary, and none has changed after the last number
pub record HaveSummaries {X : Type 0} (hides : ℕ → X → Bool) (shows : X → Bool) (last : X
    → ℕ) (v : PagesValue X) (ss : List Summary) : Type 0 where
  pub count : length ss ≡ length v.pages
  pub each : AreSummaries hides shows last v.held v.pages ss
  pub late : AllByRecursion (λ s. s.last ≤ v.last) ss

-- what the number sees of the pages is known: it is held, or nothing has changed since
abbrev pub is_known : {X : Type 0} → ℕ → PagesValue X → Bool
is_known n v = is_among v.held n || nat_le v.last n

-- of the numbers below the last change only these are held
abbrev pub HoldsAmong : {X : Type 0} → List ℕ → PagesValue X → Type 0
HoldsAmong ns v = (n : ℕ) → is_among v.held n ≡ true → n < v.last → is_among ns n ≡ true

-- these numbers are held, as far as they were known
abbrev pub HoldsKnown : {X : Type 0} → List ℕ → PagesValue X → PagesValue X → Type 0
HoldsKnown ns old new = (n : ℕ) → is_among ns n ≡ true → is_known n old ≡ true → is_among new.held n ≡ true

-- something is seen of each of the pages
abbrev pub AreSeen : {X : Type 0} → (X → Bool) → List (Page X) → Type 0
AreSeen hides ps = AllByRecursion (λ p. are_hidden hides p.0 ≡ false) ps
