-- Written keys of committed transactions, and the least number among them.
use Rattle.std.specs.List.{AllByRecursion, filter, list_all}
use Rattle.std.specs.Ordering.{is_le, is_lt}
use Rattle.std.specs.Prelude.{◌≡◌, ◌≤◌, ℕ, ◌-◌, length, min, Bool, true, not, ◌&&◌, ◌||◌, List, [], ◌∷◌, Option}
use Rattle.std.specs.Prelude.{Some, None, is_some, if◌then◌else◌, nat_le, nat_lt, take, drop, map}
use Rattle.model.specs.Map.{Bytes, key_cmp}
use Rattle.model.specs.PrivateCopy.{Mark, covers, is_covered}

-- a written key, with the commit number and the flag of the transaction that wrote it
pub record Posting : Type 0 where
  pub key : Bytes
  pub number : ℕ
  pub has_earlier_target : Bool

-- the keys that the transaction with this commit number and flag wrote
abbrev pub postings_by : ℕ → Bool → List Bytes → List Posting
postings_by n flag [] = []
postings_by n flag (k ∷ ks) = record { key = k; number = n; has_earlier_target = flag } ∷ postings_by n flag ks

-- the lesser of two numbers that may be there
abbrev pub lesser : Option ℕ → Option ℕ → Option ℕ
lesser None o = o
lesser (Some n) None = Some n
lesser (Some n) (Some m) = Some (min n m)

-- the least number of the postings that pass
abbrev pub least : (Posting → Bool) → List Posting → Option ℕ
least c [] = None
least c (p ∷ ps) = lesser (if c p then Some p.number else None) (least c ps)

-- what is asked of a posting besides its key: its number is above b, and it has the flag where that is asked
abbrev pub is_asked : ℕ → Bool → Posting → Bool
is_asked b flagged p = nat_lt b p.number && (p.has_earlier_target || not flagged)

-- what one who began at b asks of a posting: its key is one of those that are asked for, and the rest
abbrev pub asked_in : (Bytes → Bool) → ℕ → Bool → Posting → Bool
asked_in keys b flagged p = keys p.key && is_asked b flagged p

-- whoever asks that began at a number of these, the postings answer as those others do
abbrev pub AnswerAs : (ℕ → Bool) → List Posting → List Posting → Type 0
AnswerAs begins ps qs = (b : ℕ) → begins b ≡ true → (keys : Bytes → Bool) (flagged : Bool)
    → least (asked_in keys b flagged) ps ≡ least (asked_in keys b flagged) qs

-- So some of these postings answer as all do, and none of them passes what none of all passes.
pub record AnswerForAll (begins : ℕ → Bool) (some all : List Posting) : Type 0 where
  pub same : AnswerAs begins some all
  pub none : (c : Posting → Bool) → least c all ≡ None → least c some ≡ None

-- the number of a posting of which that holds
abbrev pub number_asked : ℕ → Bool → Posting → Option ℕ
number_asked b flagged p = if is_asked b flagged p then Some p.number else None

-- what is asked of a posting: its key is covered, and the rest
abbrev pub asked_of : Mark → ℕ → Bool → Posting → Bool
asked_of m b flagged p = covers m p.key && is_asked b flagged p

abbrev pub covered_of : List Mark → ℕ → Bool → Posting → Bool
covered_of ms b flagged p = is_covered ms p.key && is_asked b flagged p

-- whatever is asked, the covered ones of these postings answer as those others do
abbrev pub CountCovered : Mark → List Posting → List Posting → Type 0
CountCovered m ps qs = (c : Posting → Bool) → least (λ p. covers m p.key && c p) ps ≡ least c qs

-- whatever is asked, these postings answer as those of both do
abbrev pub CountBoth : List Posting → List Posting → List Posting → Type 0
CountBoth ps qs more = (c : Posting → Bool) → least c ps ≡ lesser (least c qs) (least c more)

-- the postings stand by rising key, those of one key beside one another
abbrev pub keys_rise : List Posting → Bool
keys_rise [] = true
keys_rise (p ∷ ps) = list_all (λ q. is_le (key_cmp p.key q.key)) ps && keys_rise ps

-- whether the keys rise strictly, so that none comes twice
abbrev pub rise_strictly : List Bytes → Bool
rise_strictly [] = true
rise_strictly (k ∷ ks) = list_all (λ j. is_lt (key_cmp k j)) ks && rise_strictly ks

-- whether the keys of the postings do
abbrev pub keys_come_once : List Posting → Bool
keys_come_once ps = rise_strictly (map (λ p. p.key) ps)

-- whether no posting has a key below this one
abbrev pub have_keys_from : Bytes → List Posting → Bool
have_keys_from low ps = list_all (λ p. not (is_lt (key_cmp p.key low))) ps

-- each posting has a key below this one
abbrev pub HaveKeysBelow : Bytes → List Posting → Type 0
HaveKeysBelow k ps = AllByRecursion (λ p. is_lt (key_cmp p.key k) ≡ true) ps

-- the first i of the postings have keys below this one, and no other has
pub record IsCountBelow (k : Bytes) (ps : List Posting) (i : ℕ) : Type 0 where
  pub within : i ≤ length ps
  pub below : HaveKeysBelow k (take i ps)
  pub from : have_keys_from k (drop i ps) ≡ true

-- whether no posting has a number above this one
abbrev pub are_upto : ℕ → List Posting → Bool
are_upto last ps = not (is_some (least (λ p. nat_lt last p.number) ps))

-- whether no posting has a number below this one
abbrev pub postings_from : ℕ → List Posting → Bool
postings_from from ps = list_all (λ p. nat_le from p.number) ps

-- the postings with numbers above this one
abbrev pub later_than : ℕ → List Posting → List Posting
later_than oldest ps = filter (λ p. nat_lt oldest p.number) ps

-- whether each posting has a number above this one
abbrev pub are_later : ℕ → List Posting → Bool
are_later oldest ps = list_all (λ p. nat_lt oldest p.number) ps

-- the postings from one place to before another
abbrev pub between : ℕ → ℕ → List Posting → List Posting
between from end ps = take (end - from) (drop from ps)
