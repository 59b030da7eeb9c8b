use Rattle.sorted_pages.proofs.changing.split.Goals as goal
use Rattle.std.proofs.Common.{◌≡◌, ℕ, ◌<◌, ◌≤◌, ◌+◌, ◌-◌, List, length, get_or, refl, subst, sym, arith}
use Rattle.model.specs.Map.{Bytes}
use Rattle.sorted_pages.proofs.Placings.{count_of, halved, halves, one_longer, page_at, place_within, room_of, split}
use Rattle.sorted_pages.proofs.Placings.{tight-split}
use Rattle.sorted_pages.specs.Pages.{Page, IsPlace, IsCrowded}
use Rattle.sorted_pages.specs.declared.page.TheConstants.{STEP}

pub split-requires : goal.split-requires
split-requires g c =
    let ps = c.args.pages.now.pages in
    let k = c.args.key.bytes.now in
    let i = c.place-i.result in
    let p = c.index-as_slice-i.result in
    let at = rw c.as_slice.ensures at c.place-i.ensures in
    let was : p ≡ get_or ps i p = rw c.as_slice-2.ensures at c.index-as_slice-i.is in
    record {
      page = place_within ps k i at;
      within = λ d. subst (λ (q : Page g.row.V.Denot). c.cut_for-cut.result ≤ length q.0) (page_at ps k i p d at was)
          (let cut = c.cut_for-cut.ensures.within in omega arith);
    }

pub returns : goal.returns
returns g c =
    let ps = c.args.pages.now.pages in
    let k = c.args.key.bytes.now in
    let n = c.args.n in
    let i = c.place-i.result in
    let p = c.index-as_slice-i.result in
    let was : p ≡ get_or ps i p = rw c.as_slice-2.ensures at c.index-as_slice-i.is in
    let at = rw c.as_slice.ensures at c.place-i.ensures in
    let parts = rw (sym was) at (c.in_ok-split.ensures.parts p) in
    let lo = parts.lower in
    let up = parts.upper in
    let cut = c.cut_for-cut in
    let two = halves p.0 lo.0 up.0 cut.result parts.low.entries parts.high.entries cut.ensures.within c.if-cut-eq0.false in
    let short : p.1 ≤ n = (let a = room_of ps k i p at was in let d = c.requires.short in omega arith) in
    let all = split ps k i (i
    + 1) p lo up at was c.requires.order refl two.same two.lower two.upper (omega (arith, parts.low.room)) (omega (arith, parts.high.room)) in
    let longer = one_longer ps ps c.split.new.self.pages i (i + 1) lo up refl refl (place_within ps k i at) parts.is in
    record {
      room = record {
        order = rw (← parts.is) at all.order;
        roomier = rw (← parts.is) at all.roomier;
        tight = tight-split (n + (STEP - 1)) ps ps c.split.new.self.pages i (i + 1) p lo up refl parts.is was parts.low.tight parts.high.tight;
        held = c.split.ensures.held;
      };
      some = omega (arith, longer);
      one = omega (arith, longer);
      split = λ h. record {
        more = omega (arith, longer);
        halved = halved ps ps c.split.new.self.pages k i (i + 1) cut.result p lo up refl parts.is at was refl two.same two.lower parts.low.entries
            (let l = cut.ensures.within in omega arith) cut.ensures.low cut.ensures.high;
      };
    }

-- a page with one entry at most isn't crowded
lone : {X : Type 0} (ps : List (Page X)) (k : Bytes) (i n cut : ℕ) (p : Page X) → IsPlace ps k i → p ≡ get_or ps i p → (1 < length p.0 → 0 < cut)
    → cut ≡ 0 → IsCrowded k n ps → ⊥
lone ps k i n cut p at is some none h =
    let count = count_of ps k i p at is in
    let several = some (omega (arith, count, h.many)) in
    omega (arith, several, none)

pub returns-then-cut-eq0-clause-split : goal.returns-then-cut-eq0-clause-split
returns-then-cut-eq0-clause-split g c = λ h.
    let at = rw c.as_slice.ensures at c.place-i.ensures in
    let is = rw c.as_slice-2.ensures at c.index-as_slice-i.is in
    absurd (lone c.args.pages.now.pages c.args.key.bytes.now c.place-i.result c.args.n c.cut_for-cut.result c.index-as_slice-i.result at is
    c.cut_for-cut.ensures.some c.if-cut-eq0.true h)
