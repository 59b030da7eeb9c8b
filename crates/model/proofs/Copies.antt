-- One transaction on private copies of two maps that agree on what it reads: the same replies, marks and writes.
use Rattle.std.proofs.Common.{arith, ◌≡◌, Bool, true, false, ◌||◌, cond, List, [], ◌∷◌, ◌++◌, Option, Some, None}
use Rattle.std.proofs.Common.{refl, sym, ap, ◌∙◌, length, take, nat_lt}
use Rattle.std.proofs.lemmas.Bool.{cases_Bool, both_ways, or_cases, or_left, or_right, and_parts}
use Rattle.std.proofs.lemmas.Grind.{common_steps}
use Rattle.std.specs.List.{list_any}
use Rattle.model.proofs.Lookups.{same_taken, same_key, same_key_itself, held_key, any-insert_key, value_after_write}
use Rattle.model.proofs.Lookups.{IsMap-after_write, IsMap-after_writes, value_after_values, same_map}
use Rattle.model.specs.Map.{Bytes, KeyMap, IsMap, value_at, is_same_key, after_write, after_writes, is_empty_range}
use Rattle.model.specs.Map.{pairs_in_range}
use Rattle.model.specs.Operations.{Operation, Response}
use Rattle.model.specs.Operations.Operation.{Get, Set, Del, Range}
use Rattle.model.specs.Operations.Response.{Pairs, Refused}
use Rattle.model.specs.PrivateCopy.{Mark, mark_of_reply, covers, is_covered, is_same_end, is_same_mark, PrivateCopy}
use Rattle.model.specs.PrivateCopy.{copy_of, is_written, after_read, after_put, respond, copy_after, responses, reads}
use Rattle.model.specs.PrivateCopy.{writes}
use Rattle.model.specs.PrivateCopy.Mark.{OfKey, OfRange, OfClosedRange}
use Rattle.model.specs.declared.refusals.Refusal.TheVariants.{FullWrites}

-- ---- marks

same_end : (j k : Option Bytes) → is_same_end j k ≡ true → j ≡ k
same_end None None e = refl
same_end (Some j) (Some k) e = ap (λ x. Some x) (same_key j k e)
same_end j k e = cc

same_mark : (a b : Mark) → is_same_mark a b ≡ true → a ≡ b
same_mark (OfKey j) (OfKey k) e = ap (λ x. OfKey x) (same_key j k e)
same_mark (OfClosedRange lo last) (OfClosedRange lo' last') e = grind (arith, common_steps, and_parts, same_key lo lo', same_key last last')
same_mark (OfRange lo hi) (OfRange lo' hi') e = grind (arith, common_steps, and_parts, same_key lo lo', same_end hi hi')
same_mark a b e = cc

covered_by_held : (mark : Mark) (marks : List Mark) (k : Bytes) → list_any (is_same_mark mark) marks ≡ true → covers mark k ≡ true → is_covered marks k ≡ true
covered_by_held mark [] k h c = h
covered_by_held mark (m ∷ marks) k h c = grind (arith, common_steps, or_cases, same_mark mark m, covered_by_held mark marks k)

covered_new : (mark : Mark) (marks : List Mark) (k : Bytes) → covers mark k ≡ true → is_covered (marks ++ mark ∷ []) k ≡ true
covered_new mark marks k h = grind (arith, common_steps, or_left, or_right)

-- marks only join

all_grow : (x : PrivateCopy) (qs : List Operation) (k : Bytes) → is_covered x.marks k ≡ true → is_covered (copy_after x qs).marks k ≡ true
all_grow x [] k h = h
all_grow x (q ∷ qs) k h = all_grow (respond x q).1 qs k (grind (arith, common_steps))

-- ---- two copies, of the maps m and n

-- the maps agree at each key that passes the test
abbrev AgreeOn : KeyMap → KeyMap → (Bytes → Bool) → Type 0
AgreeOn m n p = (k : Bytes) → p k ≡ true → value_at m k ≡ value_at n k

-- the same copy over other contents
abbrev over : KeyMap → PrivateCopy → PrivateCopy
over d x = record x { contents = d }

-- the copy x of m, and the same over d, of n: they are alike at the written keys, and as the maps were elsewhere
record Alike (m n : KeyMap) (x : PrivateCopy) (d : KeyMap) : Type 0 where
  is_map_left : IsMap x.contents
  is_map_right : IsMap d
  written : (q : Bytes) → is_written x q ≡ true → value_at x.contents q ≡ value_at d q
  kept_left : (q : Bytes) → is_written x q ≡ false → value_at x.contents q ≡ value_at m q
  kept_right : (q : Bytes) → is_written x q ≡ false → value_at d q ≡ value_at n q

-- what requests leave of two copies: the same responses and copies that are alike
record Stepped {R : Type 0} (m n : KeyMap) (a b : R × PrivateCopy) : Type 0 where
  right : KeyMap
  is : b ≡ (a.0, over right a.1)
  alike : Alike m n a.1 right

-- two outcomes of one test
both_cond : {A : Type 0} (P : A → A → Type 0) (b : Bool) (x y u v : A) → (b ≡ true → P x u) → (b ≡ false → P y v) → P (cond b x y) (cond b u v)
both_cond P true x y u v f g = f refl
both_cond P false x y u v f g = g refl

module _ (m n : KeyMap) (x : PrivateCopy) (d : KeyMap) (a : Alike m n x d) where
  -- a request that changes nothing
  stays : (r : Response) → Stepped m n (r, x) (r, over d x)
  stays r = record { right = d; is = refl; alike = a }

  -- the marks that the two copies ask for are one where the maps agree on either
  read_step : (mark other : Mark) (r s : Response) → (AgreeOn m n (covers mark) → (mark ≡ other) × (r ≡ s)) → (AgreeOn m n (covers other) → mark ≡ other) →
      AgreeOn m n (is_covered (after_read x mark r).1.marks) → Stepped m n (after_read x mark r) (after_read (over d x) other s)
  read_step mark other r s first second agree = grind (arith, common_steps, cases_Bool, covered_by_held, stays, covered_new, both_ways)

  -- k is written too
  put_alike : (ws : List Bytes) (k : Bytes) (v : Option Bytes) → ((q : Bytes) → list_any (is_same_key q) ws ≡ (is_same_key q k || is_written x q)) →
      Alike m n (record x { contents = after_write x.contents k v; written = ws }) (after_write d k v)
  put_alike ws k v is = record {
    is_map_left = IsMap-after_write x.contents k v a.is_map_left;
    is_map_right = IsMap-after_write d k v a.is_map_right;
    written = λ q h. grind (arith, common_steps, value_after_write, is q, a.written q);
    kept_left = λ q h. grind (arith, common_steps, value_after_write, is q, a.kept_left q);
    kept_right = λ q h. grind (arith, common_steps, value_after_write, is q, a.kept_right q);
  }

  put_step : (k : Bytes) (v : Option Bytes) → Stepped m n (after_put x k v) (after_put (over d x) k v)
  put_step k v = both_cond (Stepped m n) (is_written x k) _ _ _ _
      (λ h. record { right = after_write d k v; is = refl; alike = put_alike x.written k v (λ q. held_key q k x.written h) })
      (λ _. both_cond (Stepped m n) (nat_lt (length x.written) 64) _ _ _ _
      (λ _. record { right = after_write d k v; is = refl; alike = put_alike _ k v (λ q. any-insert_key q k x.written) })
      (λ _. stays (Refused FullWrites)))

  -- the values at a key, written or read
  same_value : (q : Bytes) → value_at m q ≡ value_at n q → value_at x.contents q ≡ value_at d q
  same_value q e = grind (arith, common_steps, cases_Bool)

  stepped : (q : Operation) → AgreeOn m n (is_covered (respond x q).1.marks) → Stepped m n (respond x q) (respond (over d x) q)
  stepped (Get k) agree = grind (arith, common_steps, stays, read_step, same_value, same_key_itself)
  stepped (Range lo hi limit) agree =
      let page : KeyMap → List (Bytes × Bytes) = λ c. take limit (pairs_in_range c lo hi) in
      both_cond (λ u v. AgreeOn m n (is_covered u.1.marks) → Stepped m n u v) (is_empty_range lo hi) _ _ _ _ (λ _ _. stays (Pairs []))
      (λ _. read_step (mark_of_reply lo hi limit (page x.contents)) (mark_of_reply lo hi limit (page d)) (Pairs (page x.contents)) (Pairs (page d))
      (λ e. let same = same_taken x.contents d lo hi limit a.is_map_left a.is_map_right (λ k t. same_value k (e k t)) in (
        ap (mark_of_reply lo hi limit) same,
        ap (λ es. Pairs es) same,
      ))
      (λ e. let same = same_taken d x.contents lo hi limit a.is_map_right a.is_map_left (λ k t. sym (same_value k (e k t))) in ap (mark_of_reply lo hi limit)
      (sym same)))
      agree
  stepped (Set k v) agree = put_step k (Some v)
  stepped (Del k) agree = put_step k None
  stepped q agree = stays _

-- ---- a whole transaction

run : (m n : KeyMap) (x : PrivateCopy) (d : KeyMap) → Alike m n x d → (qs : List Operation) → AgreeOn m n (is_covered (copy_after x qs).marks) →
    Stepped m n (responses x qs, copy_after x qs) (responses (over d x) qs, copy_after (over d x) qs)
run m n x d a [] agree = record { right = d; is = refl; alike = a }
run m n x d a (q ∷ qs) agree =
    let s = stepped m n x d a q (λ k h. agree k (all_grow (respond x q).1 qs k h)) in
    let rest = run m n (respond x q).1 s.right s.alike qs agree in
    let all : Response × PrivateCopy → List Response × PrivateCopy = λ b. (b.0 ∷ responses b.1 qs, copy_after b.1 qs) in
    record { right = rest.right; is = ap all s.is ∙ ap (λ b. ((respond x q).0 ∷ b.0, b.1)) rest.is; alike = rest.alike }

-- what the replay of the transaction on n gives, where its record says what it did on m and the maps agree on what it read
pub record Replayed (m n : KeyMap) (qs : List Operation) : Type 0 where
  pub replies : responses (copy_of m) qs ≡ responses (copy_of n) qs
  pub contents : (copy_after (copy_of n) qs).contents ≡ after_writes n (writes m qs)

pub replayed : (m n : KeyMap) (qs : List Operation) → IsMap m → IsMap n → ((k : Bytes) → is_covered (reads m qs) k ≡ true → value_at m k ≡ value_at n k)
    → Replayed m n qs
replayed m n qs m_is n_is agree =
    let r = run m n (copy_of m) n (record { is_map_left = m_is; is_map_right = n_is; written = λ q h. cc; kept_left = λ q h. refl; kept_right = λ q h. refl })
    qs agree in
    let x : PrivateCopy = copy_after (copy_of m) qs in
    let value : (q : Bytes) → value_at r.right q ≡ value_at (after_writes n (writes m qs)) q =
    λ q. grind (arith, common_steps, value_after_values x.written n x.contents q, r.alike.written q, r.alike.kept_right q) in
    record {
      replies = sym (ap (λ (b : List Response × PrivateCopy). b.0) r.is);
      contents = ap (λ (b : List Response × PrivateCopy). b.1.contents) r.is
          ∙ same_map r.right (after_writes n (writes m qs)) r.alike.is_map_right (IsMap-after_writes n (writes m qs) n_is) value;
    }
