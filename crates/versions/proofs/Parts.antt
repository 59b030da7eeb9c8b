-- The lists of one group: those that the pin sees, the garbage, and the unclassified.
use Rattle.std.proofs.Common.{◌≡◌, ℕ, true, List, ◌++◌, length, sym, ap, subst, arith}
use Rattle.std.proofs.lemmas.List.{nil_from_length}
use Rattle.std.proofs.lemmas.List.Folds.{list_any-append}
use Rattle.std.specs.List.{AllByRecursion, list_any}
use Rattle.std.specs.Prelude.{◌⊎◌}
use Rattle.std.specs.declared.vec.Vec.{Vec}
use Rattle.model.proofs.Elements.{all-append, all-back, all-front}
use Rattle.versions.proofs.Groups.{all-between}
use Rattle.versions.proofs.Listings.{left-part}
use Rattle.versions.specs.Chains.{Chains}
use Rattle.versions.specs.Groups.{Listed, GroupValue}
use Rattle.versions.specs.Listings.{AreIn, AreKept, AreSeenFrom, IsCollected, IsRepinned, IsPartReclaimed, is_of}
use Rattle.versions.specs.Listings.{versions_in}
use Rattle.versions.specs.Meaning.{is_among, garbage_for}

-- ---- versions that are among others

-- ---- versions that are listed still, or are gone

-- the first of the garbage lists were looked at, and what is left of them is among those that are kept
pub kept-garbage : (us ds ms ts xs rs new : List Listed) (es : Chains) → ds ≡ ts ++ rs → AreKept ts xs es → AreIn (us ++ (rs ++ ms)) new → AreIn xs new
    → AreKept (us ++ (ds ++ ms)) new es
kept-garbage us ds ms ts xs rs new es is looked rest these k n high t =
    let p = is_of k n high in
    let split = ap (list_any p) is in
    grind (arith, list_any-append p, looked k n high, rest k n high, these k n high)

-- more are seen, or unclassified
pub all-seen_more : (P : Listed → Type 0) (us vs xs ws : List Listed) → ws ≡ us ++ xs → AllByRecursion P (us ++ vs) → AllByRecursion P xs
    → AllByRecursion P (ws ++ vs)
all-seen_more P us vs xs ws is h g =
    subst (λ l. AllByRecursion P (l ++ vs)) (sym is) (all-append P (us ++ xs) vs (all-append P us xs (all-front P us vs h) g) (all-back P us vs h))

-- what holds of each version of a group holds of those of each part, and the other way round
pub all-parts : (P : Listed → Type 0) (us ds ms : List Listed) → AllByRecursion P (us ++ (ds ++ ms))
    → AllByRecursion P us × AllByRecursion P ds × AllByRecursion P ms
all-parts P us ds ms h = let back = all-back P us (ds ++ ms) h in (all-front P us (ds ++ ms) h, all-front P ds ms back, all-back P ds ms back)

pub all-three : (P : Listed → Type 0) (us ds ms : List Listed) → AllByRecursion P us → AllByRecursion P ds → AllByRecursion P ms
    → AllByRecursion P (us ++ (ds ++ ms))
all-three P us ds ms h g f = all-append P us (ds ++ ms) h (all-append P ds ms g f)

-- versions that were put behind others
pub all-put : (P : Listed → Type 0) (us xs ws : List Listed) → ws ≡ us ++ xs → AllByRecursion P us → AllByRecursion P xs → AllByRecursion P ws
all-put P us xs ws is h g = subst (AllByRecursion P) (sym is) (all-append P us xs h g)

-- the two looks at a group
pub kept-twice : (bs : List ℕ) (now new : Chains) (ls us vs ws : List Listed) → AreIn ls us → IsPartReclaimed bs now new → AreKept us vs now → AreKept vs ws new
    → AreKept ls ws new
kept-twice bs now new ls us vs ws found part one two k n high t =
    grind (arith, found k n high, left-part bs now new us vs part one k n high, two k n high)

-- ---- what is garbage

pub garbage-taken : (bs : List ℕ) (g : GroupValue) → IsRepinned bs g → garbage_for bs g ≡ g.garbage
garbage-taken bs g t = grind arith

pub no-versions : {Z : Type 0} (P : Listed → Type 0) (xs : List (Vec Listed Z)) → length xs ≡ 0 → AllByRecursion P (versions_in xs)
no-versions P xs none = subst (λ l. AllByRecursion P (versions_in l)) (sym (nil_from_length xs none)) tt

-- where no list is garbage, each version is collected
pub parts-collected : {Z : Type 0} (bs : List ℕ) (es : Chains) (n : ℕ) (ls ds ms : List (Vec Listed Z)) → (is_among bs n ≡ true) ⊎ (length ls ≡ 0)
    → AreSeenFrom n (versions_in ls) → length ds ≡ 0 → AllByRecursion (IsCollected bs es) (versions_in ms)
    → AllByRecursion (IsCollected bs es) (versions_in ls ++ (versions_in ds ++ versions_in ms))
parts-collected bs es n ls ds ms active seen none unclassified =
    all-append (IsCollected bs es) (versions_in ls) (versions_in ds ++ versions_in ms)
    (grind (arith, λ (t : is_among bs n ≡ true). all-between bs es n (versions_in ls) t seen, no-versions (IsCollected bs es) ls))
    (all-append (IsCollected bs es) (versions_in ds) (versions_in ms) (no-versions (IsCollected bs es) ds none) unclassified)
