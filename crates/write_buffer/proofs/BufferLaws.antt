-- A buffer with one more write.
use Rattle.std.proofs.Common.{◌≡◌, ℕ, ◌+◌, ◌<◌, ◌≤◌, Bool, true, false, not, cond, ◌&&◌, List, [], ◌∷◌, length}
use Rattle.std.proofs.Common.{get_or, set, Option, Some, refl, sym, ap, subst, ◌∙◌, arith}
use Rattle.std.proofs.lemmas.Bool.{both_ways, ltb-true}
use Rattle.std.proofs.lemmas.Bool.Decides.{nat_tests}
use Rattle.std.specs.Cmp.Lexicographic.{slice_cmp, nat_list_cmp_total}
use Rattle.std.specs.FinMap.Entries.{put, by_order, is_sorted-put, length-put}
use Rattle.std.specs.List.{AllByRecursion, insert}
use Rattle.std.specs.Ordering.{nat_cmp}
use Rattle.std.specs.Prelude.{nat_lt, is_some, is_err, IfOk, IfErr, Result, Ok, Err, None}
use Rattle.std.specs.declared.cmp.Ordering.TheVariants.{Less, Equal, Greater}
use Rattle.model.specs.Entries.{IsAt, IsGap}
use Rattle.model.specs.Map.{Bytes, KeyWrite, key_cmp}
use Rattle.write_buffer.specs.Buffered.{AreEntries, IsWithinLimits, is_full_for_key, last_write}

within-put : (k : Bytes) (v : Option Bytes) (ws : List KeyWrite) → IsWithinLimits (k, v) → AllByRecursion IsWithinLimits ws
    → AllByRecursion IsWithinLimits (put (slice_cmp nat_cmp) k v ws)
within-put k v [] p h = (p, tt)
within-put k v (w ∷ ws) p h =
    elim (key_cmp k w.0) as (λ o. AllByRecursion IsWithinLimits (by_order o ((k, v) ∷ w ∷ ws) ((w.0, v) ∷ ws) (w ∷ put (slice_cmp nat_cmp) k v ws))) [
      | Less ↦ (p, h)
      | Equal ↦ ((h.0.0, h.0.1, p.2), h.1)
      | Greater ↦ (h.0, within-put k v ws p h.1)
    ]

few-put : (found few : Bool) (n m : ℕ) → (not found && not few) ≡ false → n ≤ 64 → (few ≡ true → n < 64) → m ≡ cond found n (n + 1) → m ≤ 64
few-put true few n m room le lt e = omega arith
few-put false true n m room le lt e = let l = lt refl in omega arith
few-put false false n m room le lt e = absurd (both_ways true room refl)

pub entries-put : (k : Bytes) (v : Option Bytes) (ws : List KeyWrite) → AreEntries ws → IsWithinLimits (k, v) → is_full_for_key ws k ≡ false
    → AreEntries (put (slice_cmp nat_cmp) k v ws)
entries-put k v ws h p room = record {
  sorted = is_sorted-put (slice_cmp nat_cmp) nat_list_cmp_total k v ws h.sorted;
  few = few-put (is_some (last_write ws k)) (nat_lt (length ws) 64) (length ws) (length (put (slice_cmp nat_cmp) k v ws)) room h.few
      (λ t. ltb-true (length ws) 64 t) (length-put (slice_cmp nat_cmp) nat_list_cmp_total k v ws h.sorted);
  within = within-put k v ws p h.within;
}

-- the write is there
pub not_full : (ws : List KeyWrite) (k : Bytes) (o : Option Bytes) → last_write ws k ≡ Some o → is_full_for_key ws k ≡ false
not_full ws k o e = ap (λ w. not (is_some w) && not (nat_lt (length ws) 64)) e

-- where there is no place left, by how a search came out
pub full_by : (ws : List KeyWrite) (k : Bytes) (r : Result ℕ ℕ) → IfOk r (IsAt ws k) → IfErr r (IsGap ws k) → 64 ≤ length ws
    → is_err r ≡ is_full_for_key ws k
full_by ws k (Ok i) at gap many = sym (not_full ws k _ (at.found ([], None)))
full_by ws k (Err i) at gap many =
    let none : is_some (last_write ws k) ≡ false = ap is_some gap.absent in
    grind (arith, none, nat_tests)

pub set_there : (ws us : List KeyWrite) (k j : Bytes) (i : ℕ) (e f : KeyWrite) (v : Option Bytes) → us ≡ ws → IsAt ws k i → k ≡ j → e ≡ get_or us i e
    → f ≡ (e.0, v) → set us i f ≡ put (slice_cmp nat_cmp) j v ws
set_there ws us k j i e f v same at key is new =
    let is' : e ≡ get_or ws i e = subst (λ (l : List KeyWrite). e ≡ get_or l i e) same is in
    ap (λ l. set l i f) same ∙ ap (set ws i) new ∙ ap (λ (q : Bytes). set ws i (q, v)) (ap (λ (p : KeyWrite). p.0) is' ∙ at.key e) ∙ at.written v
    ∙ ap (λ (q : Bytes). put (slice_cmp nat_cmp) q v ws) key

pub insert_there : (ws us : List KeyWrite) (k j b : Bytes) (i : ℕ) (f : KeyWrite) (v : Option Bytes) → us ≡ ws → IsGap ws k i → k ≡ j → b ≡ j → f ≡ (b, v)
    → insert us i f ≡ put (slice_cmp nat_cmp) j v ws
insert_there ws us k j b i f v same gap key made new =
    ap (λ l. insert l i f) same ∙ ap (insert ws i) (new ∙ ap (λ (q : Bytes). (q, v)) (made ∙ sym key)) ∙ gap.inserted v
    ∙ ap (λ (q : Bytes). put (slice_cmp nat_cmp) q v ws) key

pub entries-put_as : (ws us gs : List KeyWrite) (k : Bytes) (v : Option Bytes) → us ≡ ws → gs ≡ put (slice_cmp nat_cmp) k v ws → AreEntries us
    → IsWithinLimits (k, v) → is_full_for_key ws k ≡ false → AreEntries gs
entries-put_as ws us gs k v same is h p room = subst AreEntries (sym is) (entries-put k v ws (subst AreEntries same h) p room)
