-- One chain: a version more, and what a reclaim leaves.
use Rattle.std.proofs.Common.{[], ◌≡◌, ℕ, ◌<◌, ◌≤◌, Bool, true, false, ◌&&◌, List, ◌∷◌, ◌++◌, Option, Some, None}
use Rattle.std.proofs.Common.{refl, ap, ◌∙◌, arith, inl, inr}
use Rattle.std.proofs.lemmas.Bool.{cond_both, both_ways, or_cases, or_right}
use Rattle.std.proofs.lemmas.Bool.Decides.{nat_tests}
use Rattle.std.specs.List.{AllByRecursion, list_any}
use Rattle.std.specs.Prelude.{IfSome, nat_le, nat_lt, if◌then◌else◌, ◌==◌, is_none}
use Rattle.model.proofs.Elements.{all-append, all-each}
use Rattle.sorted_pages.specs.Values.{IsChangedAt, IsTrimmed}
use Rattle.versions.specs.Chains.{CanAddVersion, Stamped, ChainValue, last_at, version_at, value_of, seen, seen_in}
use Rattle.versions.specs.Chains.{added, number_of_first, is_between, seen_by, reclaimed, IsRisingTo, IsRisingChain}
use Rattle.versions.specs.Chains.{hides, longer_chain, shows}
use Rattle.versions.specs.Meaning.{is_among, IsSeen, IsTightChain}

pub last_at-push : (n : ℕ) (d : Option Stamped) (vs : List Stamped) (v : Stamped)
    → last_at n d (vs ++ v ∷ []) ≡ (if nat_le v.number n then Some v else last_at n d vs)
last_at-push n d [] v = refl
last_at-push n d (u ∷ vs) v = last_at-push n (if nat_le u.number n then Some u else d) vs v

-- ---- the walk from the newest back

-- the last of the versions is too new
pub passed_by : (n : ℕ) (vs us : List Stamped) (v : Stamped) (number : ℕ) (o : Option Stamped) → vs ≡ us ++ v ∷ [] → number ≡ v.number → n < number
    → last_at n None vs ≡ o → last_at n None us ≡ o
passed_by n vs us v number o is same lt e = grind (arith, nat_tests, ap (last_at n None) is, last_at-push n None us v)

-- the last of the versions is seen
pub met : (n : ℕ) (vs us : List Stamped) (v : Stamped) (number : ℕ) (o : Option Stamped) → vs ≡ us ++ v ∷ [] → number ≡ v.number → number ≤ n
    → last_at n None vs ≡ o → v.value ≡ value_of o
met n vs us v number o is same le e =
    grind (arith, nat_tests, ap (last_at n None) is, last_at-push n None us v)

-- ---- a version more

pub seen-added : (m : ℕ) (o : Option ChainValue) (v : Stamped) (room : ℕ) → seen m (added o v room) ≡ (if nat_le v.number m then v.value else seen_in m o)
seen-added m None v room = grind (arith, nat_tests)
seen-added m (Some c) v room = grind (arith, nat_tests, last_at-push m None c.older c.newest)

-- ---- which numbers see something of a chain

-- numbers below a new version's see what they saw
pub changed-longer : (c : ChainValue) (v : Stamped) (room : ℕ) → IsChangedAt hides (λ c. c.newest.number) v.number c (longer_chain c v room)
changed-longer c v room = record {
  before = λ m lt. ap is_none (grind (arith, nat_tests, seen-added m (Some c) v room));
  latest = refl;
}

rising-push : (vs : List Stamped) (v : Stamped) (n : ℕ) → IsRisingTo vs v.number → v.number < n → IsRisingTo (vs ++ v ∷ []) n
rising-push [] v n h lt = (tt, lt, tt)
rising-push (u ∷ vs) v n h lt =
    (all-append (λ w. u.number < w.number) vs (v ∷ []) h.0 (h.1, tt), omega (arith, h.1), rising-push vs v n h.2 lt)

pub rising-added : (o : Option ChainValue) (v : Stamped) (room last : ℕ) → IfSome o (λ c. IsRisingChain last c) → CanAddVersion v.number o → v.number ≤ last
    → IsRisingChain last (added o v room)
rising-added None v room last h r le = (tt, le)
rising-added (Some c) v room last h r le = (rising-push c.older c.newest v.number h.0 r.0, le)

-- ---- what a reclaim leaves

-- the last version at b of vs and w, which stands after them
abbrev pub pick : ℕ → Option Stamped → List Stamped → Stamped → Option Stamped
pick b d vs w = if nat_le w.number b then Some w else last_at b d vs

-- once the first is at most b, what came before doesn't matter
pick_past : (b : ℕ) (d e : Option Stamped) (vs : List Stamped) (w : Stamped) → number_of_first vs w.number ≤ b → pick b d vs w ≡ pick b e vs w
pick_past b d e vs w h = grind (arith, nat_tests)

not_between : (bs : List ℕ) (low high b : ℕ) → is_between bs low high ≡ false → is_among bs b ≡ true → low ≤ b → high ≤ b
not_between [] low high b f t le = absurd (both_ways _ refl t)
not_between (x ∷ bs) low high b f t le = grind (arith, nat_tests, not_between bs low high b)

-- what a number of the list sees is kept
pub pick-seen_by : (bs : List ℕ) (w : Stamped) (b : ℕ) → is_among bs b ≡ true → (d : Option Stamped) (vs : List Stamped)
    → pick b d (seen_by bs w.number vs) w ≡ pick b d vs w
pick-seen_by bs w b t d [] = refl
pick-seen_by bs w b t d (v ∷ vs) =
    grind (
      arith,
      nat_tests,
      pick-seen_by bs w b t (if nat_le v.number b then Some v else d) vs,
      pick-seen_by bs w b t d vs,
      pick_past b d (Some v) vs w,
      not_between bs v.number (number_of_first vs w.number) b,
    )

pub version_at-reclaimed : (bs : List ℕ) (c : ChainValue) (b : ℕ) → is_among bs b ≡ true → version_at b (reclaimed bs c) ≡ version_at b c
version_at-reclaimed bs c b t = pick-seen_by bs c.newest b t None c.older

-- the newest is what its number and those above see
pub version_at-newest : (bs : List ℕ) (c : ChainValue) (b : ℕ) → c.newest.number ≤ b → version_at b (reclaimed bs c) ≡ version_at b c
version_at-newest bs c b le = grind (arith, nat_tests)

-- the numbers that are taken in, and those from the newest version's on, see of what is left what they saw
pub trimmed-reclaimed : (bs : List ℕ) (c : ChainValue) → IsTrimmed hides shows (λ c. c.newest.number) bs c (reclaimed bs c)
trimmed-reclaimed bs c = record {
  among = λ n t. ap (λ v. is_none (value_of v)) (version_at-reclaimed bs c n t);
  after = λ n le. ap (λ v. is_none (value_of v)) (version_at-newest bs c n le);
  newest = refl;
  latest = refl;
}

-- no later version has a number of at most b
pub stays : (b : ℕ) (v : Stamped) (vs : List Stamped) → AllByRecursion (λ u. b < u.number) vs → last_at b (Some v) vs ≡ Some v
stays b v [] h = refl
stays b v (u ∷ vs) h = let later = h.0 in grind (arith, nat_tests, stays b v vs h.1)

pub above_first : (b n : ℕ) (vs : List Stamped) → IsRisingTo vs n → b < number_of_first vs n → AllByRecursion (λ u. b < u.number) vs × (b < n)
above_first b n [] h lt = (tt, lt)
above_first b n (v ∷ vs) h lt = ((lt, all-each _ _ vs (λ u g. omega (arith, g, lt)) h.0), omega (arith, h.1))

pub some_between : (bs : List ℕ) (low high : ℕ) → is_between bs low high ≡ true → (b : ℕ) × (is_among bs b ≡ true) × (low ≤ b) × (b < high)
some_between [] low high t = absurd (both_ways _ refl t)
some_between (x ∷ bs) low high t = elim (or_cases (nat_le low x && nat_lt x high) (is_between bs low high) t) [
  | inl e ↦ (x, grind (arith, nat_tests), grind (arith, nat_tests), grind (arith, nat_tests))
  | inr g ↦ let r = some_between bs low high g in (r.0, or_right (x == r.0) (is_among bs r.0) r.1, r.2, r.3)
]

-- some number sees the version, whatever stands before
abbrev IsKeptBy : List ℕ → Stamped → List Stamped → Stamped → Type 0
IsKeptBy bs w vs v = (b : ℕ) × (is_among bs b ≡ true) × ((d : Option Stamped) → pick b d vs w ≡ Some v)

-- so it is of each version that is kept
seen_kept : (bs : List ℕ) (w : Stamped) (vs : List Stamped) → IsRisingTo vs w.number
    → AllByRecursion (IsKeptBy bs w vs) (seen_by bs w.number vs)
seen_kept bs w [] h = tt
seen_kept bs w (v ∷ vs) h =
    let rest = all-each (IsKeptBy bs w vs) (IsKeptBy bs w (v ∷ vs)) (seen_by bs w.number vs)
    (λ u g. (g.0, g.1, λ d. g.2 (if nat_le v.number g.0 then Some v else d))) (seen_kept bs w vs h.2) in
    cond_both (is_between bs v.number (number_of_first vs w.number)) _ _ (AllByRecursion (IsKeptBy bs w (v ∷ vs))) (λ e.
    let s = some_between bs v.number (number_of_first vs w.number) e in
    let a = above_first s.0 w.number vs h.2 s.3 in
    let low = s.2 in
    let high = a.1 in
    ((s.0, s.1, λ d. grind (arith, nat_tests, stays s.0 v vs a.0)), rest)) (λ f. rest)

pub tight-reclaimed : (bs : List ℕ) (c : ChainValue) → IsRisingTo c.older c.newest.number → IsTightChain bs (reclaimed bs c)
tight-reclaimed bs c h = all-each (IsKeptBy bs c.newest c.older) (IsSeen bs (reclaimed bs c)) (seen_by bs c.newest.number c.older)
    (λ v g. (g.0, g.1, version_at-reclaimed bs c g.0 g.1 ∙ g.2 None)) (seen_kept bs c.newest c.older h)

all-seen_by : (P : Stamped → Type 0) (bs : List ℕ) (n : ℕ) (vs : List Stamped) → AllByRecursion P vs → AllByRecursion P (seen_by bs n vs)
all-seen_by P bs n [] h = tt
all-seen_by P bs n (v ∷ vs) h =
    cond_both (is_between bs v.number (number_of_first vs n)) _ _ (AllByRecursion P) (λ t. (h.0, all-seen_by P bs n vs h.1)) (λ f. all-seen_by P bs n vs h.1)

pub rising-seen_by : (bs : List ℕ) (n : ℕ) (vs : List Stamped) → IsRisingTo vs n → IsRisingTo (seen_by bs n vs) n
rising-seen_by bs n [] h = tt
rising-seen_by bs n (v ∷ vs) h =
    let rest = rising-seen_by bs n vs h.2 in
    cond_both (is_between bs v.number (number_of_first vs n)) _ _ (λ l. IsRisingTo l n) (λ t. (all-seen_by (λ u. v.number < u.number) bs n vs h.0, h.1, rest))
    (λ f. rest)

-- ---- the loop of a reclaim

-- ---- a chain that was reclaimed before

-- a test that lets more through
pub any-weaker : {X : Type 0} (p q : X → Bool) (xs : List X) → ((x : X) → p x ≡ true → q x ≡ true) → list_any p xs ≡ true → list_any q xs ≡ true
any-weaker p q [] h t = t
any-weaker p q (x ∷ xs) h t = grind (arith, h x, any-weaker p q xs h)

pub between-wider : (bs : List ℕ) (low high low' high' : ℕ) → low' ≤ low → high ≤ high' → is_between bs low high ≡ true → is_between bs low' high' ≡ true
between-wider bs low high low' high' l h =
    any-weaker (λ b. nat_le low b && nat_lt b high) (λ b. nat_le low' b && nat_lt b high') bs (λ b t. grind (arith, nat_tests, t, l, h))

-- what is left begins no lower
pub first_rises : (bs : List ℕ) (n : ℕ) (vs : List Stamped) → IsRisingTo vs n → number_of_first vs n ≤ number_of_first (seen_by bs n vs) n
first_rises bs n [] h = omega arith
first_rises bs n (v ∷ vs) h = grind (arith, first_rises bs n vs h.2)

seen_twice : (bs : List ℕ) (n : ℕ) (vs : List Stamped) → IsRisingTo vs n → seen_by bs n (seen_by bs n vs) ≡ seen_by bs n vs
seen_twice bs n [] h = refl
seen_twice bs n (v ∷ vs) h =
    let high = number_of_first vs n in
    let wider = between-wider bs v.number high v.number (number_of_first (seen_by bs n vs) n) (omega arith) (first_rises bs n vs h.2) in
    grind (arith, nat_tests, seen_twice bs n vs h.2)

pub reclaimed_twice : (bs : List ℕ) (c : ChainValue) → IsRisingTo c.older c.newest.number → reclaimed bs (reclaimed bs c) ≡ reclaimed bs c
reclaimed_twice bs c h = let same = seen_twice bs c.newest.number c.older h in grind (arith, nat_tests)
