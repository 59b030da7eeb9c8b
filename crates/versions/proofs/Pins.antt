-- The pins of groups: each is one of the numbers or 0, and no two are the same.
use Rattle.std.proofs.Common.{◌||◌, ◌≡◌, ℕ, zero, suc, ◌+◌, ◌^◌, ◌<◌, ◌≤◌, true, false, Some, None, List, [], ◌∷◌}
use Rattle.std.proofs.Common.{◌++◌, length, take, get_or, set, map, refl, sym, ap, subst, ◌∙◌, arith}
use Rattle.std.proofs.Math.Seq.{map-set_same}
use Rattle.std.proofs.lemmas.Bool.{both_ways, or_from, or_left, or_right, eq-eqb}
use Rattle.std.proofs.lemmas.Bool.Decides.{nat_tests}
use Rattle.std.proofs.lemmas.Grind.{common_steps}
use Rattle.std.proofs.lemmas.List.{get_or-map, get_or-take, get_or_default, length-map, length-take, take_more}
use Rattle.std.proofs.lemmas.List.{take-map}
use Rattle.std.proofs.lemmas.List.Edits.{get_or-remove_below, length-remove}
use Rattle.std.proofs.lemmas.List.Folds.{list_any-append, list_any_none}
use Rattle.std.proofs.lemmas.List.Quantifiers.{position-Some}
use Rattle.std.proofs.lemmas.List.Recursion.{is_sum_by}
use Rattle.std.proofs.lemmas.List.Sums.{fails_before_first}
use Rattle.std.specs.List.{AllByRecursion, list_any, remove, sum_by, position}
use Rattle.std.specs.Prelude.{nat_lt, max, fold, ◌==◌, if◌then◌else◌}
use Rattle.model.proofs.Elements.{all-append, all-each}
use Rattle.versions.specs.Groups.{GroupValue}
use Rattle.versions.specs.Listings.{pin_for, pins, AreApart, AreAmong, CanJoin, lists_in}
use Rattle.versions.specs.Meaning.{is_among}

-- ---- a pin is one of the numbers or 0

among-more : (b : ℕ) (bs ns : List ℕ) → AreAmong bs ns → AreAmong (b ∷ bs) ns
among-more b bs ns h = all-each (λ n. is_among bs n ≡ true) _ ns (λ n t. or_right (b == n) (is_among bs n) t) h

among-itself : (bs : List ℕ) → AreAmong bs bs
among-itself [] = tt
among-itself (b ∷ bs) = (or_left (b == b) (is_among bs b) (eq-eqb b b refl), among-more b bs bs (among-itself bs))

greatest-among : (high : ℕ) (all bs : List ℕ) (m : ℕ) → is_among all m ≡ true → AreAmong all bs
    → is_among all (fold (λ greatest b. if nat_lt b high then max greatest b else greatest) m bs) ≡ true
greatest-among high all [] m h each = h
greatest-among high all (b ∷ bs) m h each = greatest-among high all bs (if nat_lt b high then max m b else m) (grind (arith, nat_tests, each.0)) each.1

pub pin-among : (bs : List ℕ) (w : ℕ) → is_among (0 ∷ bs) (pin_for bs w) ≡ true
pin-among bs w = let below = greatest-among w (0 ∷ bs) bs 0 refl (among-more 0 bs bs (among-itself bs)) in grind (arith, nat_tests)

-- ---- numbers of which no two are the same

apart-push : (ns : List ℕ) (n : ℕ) → AreApart ns → is_among ns n ≡ false → AreApart (ns ++ n ∷ [])
apart-push [] n h other = (refl, tt)
apart-push (x ∷ ns) n h other = (grind (arith, nat_tests, list_any-append (λ b. b == x) ns (n ∷ [])), apart-push ns n h.1 (grind arith))

-- the numbers without the first that is n
abbrev without : ℕ → List ℕ → List ℕ
without n [] = []
without n (b ∷ bs) = if b == n then bs else b ∷ without n bs

length-without : (n : ℕ) (bs : List ℕ) → is_among bs n ≡ true → length (without n bs) + 1 ≡ length bs
length-without n [] h = absurd (both_ways _ refl h)
length-without n (b ∷ bs) h = grind (arith, nat_tests, length-without n bs)

among-without : (n m : ℕ) (bs : List ℕ) → (m == n) ≡ false → is_among bs m ≡ true → is_among (without n bs) m ≡ true
among-without n m [] e h = h
among-without n m (b ∷ bs) e h = grind (arith, nat_tests, among-without n m bs e)

all-without : (n : ℕ) (bs ms : List ℕ) → is_among ms n ≡ false → AreAmong bs ms → AreAmong (without n bs) ms
all-without n bs [] other h = tt
all-without n bs (m ∷ ms) other h = (among-without n m bs (grind arith) h.0, all-without n bs ms (grind arith) h.1)

-- there are no more of them than of the numbers that they are among
pub apart-few : (ns bs : List ℕ) → AreApart ns → AreAmong bs ns → length ns ≤ length bs
apart-few [] bs h each = omega arith
apart-few (n ∷ ns) bs h each =
    let rest = apart-few ns (without n bs) h.1 (all-without n bs ns h.0 each.1) in
    let long = length-without n bs each.0 in
    omega (arith, rest, long)

-- ---- the groups before a place

pub take-get : {X Y : Type 0} (f : X → Y) (xs : List X) (i : ℕ) (x : X) (d : Y) → i < length xs → x ≡ get_or xs i x → f x ≡ get_or (map f xs) i d
take-get f xs i x d lt at = ap f at ∙ sym (get_or-map f xs i x d lt)

-- one more of the groups has a pin of its own
pub apart-next : (gs : List GroupValue) (i : ℕ) → i < length gs → AreApart (take i (pins gs))
    → is_among (take i (pins gs)) (get_or (pins gs) i 0) ≡ false → AreApart (take (i + 1) (pins gs))
apart-next gs i lt h other =
    let long : i < length (pins gs) = omega (arith, lt, length-map gs (λ (g : GroupValue). g.pin)) in
    subst AreApart (sym (take_more (pins gs) i 0 long)) (apart-push (take i (pins gs)) (get_or (pins gs) i 0) h other)

-- the pins up to a number
pub none-above : (ns : List ℕ) (greatest n : ℕ) → AllByRecursion (λ m. m ≤ greatest) ns → greatest < n → is_among ns n ≡ false
none-above [] greatest n all less = refl
none-above (m ∷ ns) greatest n all less =
    let differs : (m == n) ≡ false = grind (arith, nat_tests, all.0) in
    or_from (m == n) (is_among ns n) differs (none-above ns greatest n all.1 less)

pub greatest-next : (gs : List GroupValue) (i greatest next : ℕ) → i < length gs → AllByRecursion (λ m. m ≤ greatest) (take i (pins gs)) → greatest ≤ next
    → get_or (pins gs) i 0 ≤ next → AllByRecursion (λ m. m ≤ next) (take (i + 1) (pins gs))
greatest-next gs i greatest next lt all more own =
    let long : i < length (pins gs) = omega (arith, lt, length-map gs (λ (g : GroupValue). g.pin)) in
    subst (AllByRecursion (λ m. m ≤ next)) (sym (take_more (pins gs) i 0 long))
    (all-append (λ m. m ≤ next) (take i (pins gs)) (get_or (pins gs) i 0 ∷ []) (all-each (λ m. m ≤ greatest) (λ m. m ≤ next) (take i (pins gs))
    (λ m less. omega (arith, less, more)) all) (own, tt))

pub take-remove : {X Y : Type 0} (f : X → Y) (xs : List X) (i : ℕ) → take i (map f (remove xs i)) ≡ take i (map f xs)
take-remove f xs zero = refl
take-remove f [] (suc i) = refl
take-remove f (x ∷ xs) (suc i) = ap (λ l. f x ∷ l) (take-remove f xs i)

pub among-remove : (ns : List ℕ) (gs : List GroupValue) (i : ℕ) → AreAmong ns (pins gs) → AreAmong ns (pins (remove gs i))
among-remove ns [] zero h = tt
among-remove ns [] (suc i) h = tt
among-remove ns (g ∷ gs) zero h = h.1
among-remove ns (g ∷ gs) (suc i) h = (h.0, among-remove ns gs i h.1)

-- a group with the same pin in a group's place
pub pins-set : (gs : List GroupValue) (i : ℕ) (g h : GroupValue) → g ≡ get_or gs i g → h.pin ≡ g.pin → pins (set gs i h) ≡ pins gs
pins-set gs i g h at e = map-set_same (λ (y : GroupValue). y.pin) gs i h g (e ∙ ap (λ (y : GroupValue). y.pin) at)

among-pins : (gs : List GroupValue) (w : ℕ) → is_among (pins gs) w ≡ list_any (λ g. g.pin == w) gs
among-pins [] w = refl
among-pins (g ∷ gs) w = ap (λ b. (g.pin == w) || b) (among-pins gs w)

-- the pin is that of no group before
pub none-before : (gs : List GroupValue) (i w : ℕ) → position (λ g. g.pin == w) (take i gs) ≡ None → is_among (take i (pins gs)) w ≡ false
none-before gs i w e = ap (λ ns. is_among ns w) (take-map (λ (g : GroupValue). g.pin) i gs) ∙ among-pins (take i gs) w
    ∙ list_any_none (λ (g : GroupValue). g.pin == w) (take i gs)
    (λ k d lt. fails_before_first (λ (g : GroupValue). g.pin == w) (take i gs) k d (grind (arith, nat_tests)))

-- ---- how many lists

lists-sum : (gs : List GroupValue) → lists_in gs ≡ sum_by (λ (g : GroupValue). g.lists) gs
lists-sum = is_sum_by lists_in (λ (g : GroupValue). g.lists) refl (λ _ _. refl)

pub lists-set : (gs : List GroupValue) (i : ℕ) (g h : GroupValue) → i < length gs → g ≡ get_or gs i g → lists_in (set gs i h) + g.lists ≡ lists_in gs + h.lists
lists-set gs i g h lt at = grind (arith, common_steps, lists-sum)

pub lists-remove : (gs : List GroupValue) (i : ℕ) (g : GroupValue) → i < length gs → g ≡ get_or gs i g → lists_in (remove gs i) + g.lists ≡ lists_in gs
lists-remove gs i g lt at = grind (arith, common_steps, lists-sum)

pub lists-joined : (gs hs : List GroupValue) (i m : ℕ) (a g j : GroupValue) → i < length gs → g ≡ get_or gs i g → hs ≡ remove gs i → m < length hs
    → a ≡ get_or hs m a → j.lists ≡ a.lists + g.lists → lists_in (set hs m j) ≡ lists_in gs
lists-joined gs hs i m a g j lt second less short first both =
    omega (arith, lists-set hs m a j short first, ap lists_in less, lists-remove gs i g lt second)

-- two of the groups have no more lists than all
pub two-fit : (gs hs : List GroupValue) (i m : ℕ) (a g : GroupValue) → i < length gs → g ≡ get_or gs i g → hs ≡ remove gs i → m < length hs → a ≡ get_or hs m a
    → a.lists + g.lists ≤ lists_in gs
two-fit gs hs i m a g lt second less short first =
    omega (arith, lists-remove hs m a short first, ap lists_in less, lists-remove gs i g lt second)

-- the group that was found stands before the other
pub found-before : (gs hs : List GroupValue) (i m w : ℕ) (a : GroupValue) → i < length gs → hs ≡ remove gs i
    → position (λ g. g.pin == w) (take i gs) ≡ Some m → m < length hs
found-before gs hs i m w a lt less at =
    omega (arith, (position-Some (λ (g : GroupValue). g.pin == w) (take i gs) m a at).0, length-take i gs, ap length less, length-remove gs i lt)

-- and can take in its lists
pub join-fits : (gs hs : List GroupValue) (i m w : ℕ) (x a g : GroupValue) → i < length gs → x ≡ get_or gs i x → w ≡ x.pin → g ≡ get_or gs i g
    → hs ≡ remove gs i → a ≡ get_or hs m a → position (λ g. g.pin == w) (take i gs) ≡ Some m → lists_in gs < 2 ^ 63 → CanJoin a g
join-fits gs hs i m w x a g lt own is second less first at few =
    let found = position-Some (λ (g : GroupValue). g.pin == w) (take i gs) m a at in
    let before : m < i = omega (arith, found.0, length-take i gs) in
    let same : get_or (take i gs) m a ≡ a =
    get_or-take i gs m a before ∙ sym (get_or-remove_below gs i a m before lt) ∙ sym (ap (λ l. get_or l m a) less) ∙ sym first in
    let active : (a.pin == w) ≡ true = sym (ap (λ (y : GroupValue). y.pin == w) same) ∙ found.1 in
    let equal : a.pin ≡ w = grind (arith, nat_tests, active) in
    let other : g ≡ x = second ∙ get_or_default gs i g x lt ∙ sym own in
    let fit = two-fit gs hs i m a g lt second less (found-before gs hs i m w a lt less at) first in
    (equal ∙ is ∙ ap (λ (y : GroupValue). y.pin) (sym other), omega (arith, fit, few))

pub lists-push : (gs : List GroupValue) (g : GroupValue) → lists_in (gs ++ g ∷ []) ≡ lists_in gs + g.lists
lists-push gs g = grind (arith, common_steps, lists-sum)
