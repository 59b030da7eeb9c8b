-- What a crash leaves at any moment of several calls.
use Rattle.std.proofs.Common.{ℕ, List, arith}
use Rattle.std.proofs.lemmas.Grind.{common_steps}
use Rattle.sector.specs.SectorModel.{Elapses, LeavesOnly}

module _ {D : Type 0} {moment : D → ℕ} {left_since : D → ℕ → List (List ℕ) → Type 0} where
  -- of no call
  pub of_none : {old : D} {P : List (List ℕ) → Type 0} → ((c : List (List ℕ)) → left_since old (moment old) c → P c) → LeavesOnly moment left_since old old P
  of_none here = grind (arith, common_steps)

  -- of calls that leave what has P, and of what comes behind and may add images with Q
  of_both : {old mid new : D} {P Q R : List (List ℕ) → Type 0} → LeavesOnly moment left_since old mid P
      → Elapses (moment mid) (moment new) (left_since mid) (left_since new) Q
      → ((c : List (List ℕ)) → P c → R c) → ((c : List (List ℕ)) → Q c → R c) → LeavesOnly moment left_since old new R
  of_both calls behind p q = grind (arith, common_steps)

  -- of one call more
  pub of_one_more : {old mid new : D} {P Q : List (List ℕ) → Type 0} → LeavesOnly moment left_since old mid P
      → Elapses (moment mid) (moment new) (left_since mid) (left_since new) Q
      → ((c : List (List ℕ)) → Q c → P c) → LeavesOnly moment left_since old new P
  of_one_more calls call leaves = of_both calls call (λ c has. has) leaves

  -- of these calls and those
  pub of_more : {old mid new : D} {P Q R : List (List ℕ) → Type 0} → LeavesOnly moment left_since old mid P → LeavesOnly moment left_since mid new Q
      → ((c : List (List ℕ)) → P c → R c) → ((c : List (List ℕ)) → Q c → R c) → LeavesOnly moment left_since old new R
  of_more calls more p q = of_both calls (record { later = more.later; nothing_else = more.before }) p q
