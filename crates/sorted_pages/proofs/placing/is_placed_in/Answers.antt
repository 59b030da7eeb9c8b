use Rattle.sorted_pages.proofs.placing.is_placed_in.Goals as goal
use Rattle.sorted_pages.proofs.placing.is_placed_in.Goals.{else-i-ne0-via-then-i-ne0+else-not-starts_by}
use Rattle.sorted_pages.proofs.placing.is_placed_in.Goals.{else-i-ne0-via-else-i-ne0}
use Rattle.std.proofs.Common.{◌≡◌, ◌<◌, true, not, sym, ap, ◌∙◌, arith}
use Rattle.model.specs.Map.{Bytes}
use Rattle.sorted_pages.proofs.Placings.{page_is, placed_by_next, together_at}
use Rattle.sorted_pages.specs.Pages.{Page, starts_by}

pub returns-in-Some : goal.returns-in-Some
returns-in-Some g c = λ k at.
    let ps = c.args.pages.now in
    let q = c.args.key.bytes.now in
    let next = c.in-Some.next.now in
    let here = c.in-Some.ensures.lookup.3 in
    let w = at (omega (arith, here.0)) in
    let starts : 0 < c.args.i → starts_by q w.page.0 ≡ true =
    elim c.else-i-ne0.branch [
      | else-i-ne0-via-then-i-ne0+else-not-starts_by v ↦ λ lt.
          ap (λ (r : Page g.row.V.Denot). starts_by q r.0) (sym (page_is ps k c.args.i v.index-pages-i.result w v.index-pages-i.is))
          ∙ ap (λ (b : Bytes). starts_by b v.index-pages-i.result.0) (sym c.new-sought.ensures)
          ∙ sym v.starts_by.ensures ∙ v.if-not-starts_by.false
      | else-i-ne0-via-else-i-ne0 v ↦ λ lt. absurd (omega (arith, v.if-i-ne0.false))
    ] in
    ap (λ b. not b) (c.starts_by-in-Some.ensures ∙ ap (λ (b : Bytes). starts_by b next.0) c.new-sought.ensures)
    ∙ placed_by_next ps k q c.args.i next c.requires w starts here.0 here.1

pub returns-in-None : goal.returns-in-None
returns-in-None g c = λ k at.
    let ps = c.args.pages.now in
    let q = c.args.key.bytes.now in
    let last = c.in-None.ensures.lookup.3 in
    let w = at (omega (arith, c.if-pages-i.false)) in
    let starts : 0 < c.args.i → starts_by q w.page.0 ≡ true =
    elim c.else-i-ne0.branch [
      | else-i-ne0-via-then-i-ne0+else-not-starts_by v ↦ λ lt.
          ap (λ (r : Page g.row.V.Denot). starts_by q r.0) (sym (page_is ps k c.args.i v.index-pages-i.result w v.index-pages-i.is))
          ∙ ap (λ (b : Bytes). starts_by b v.index-pages-i.result.0) (sym c.new-sought.ensures)
          ∙ sym v.starts_by.ensures ∙ v.if-not-starts_by.false
      | else-i-ne0-via-else-i-ne0 v ↦ λ lt. absurd (omega (arith, v.if-i-ne0.false))
    ] in
    sym (together_at ps k q c.args.i c.requires w starts (λ d lt. absurd (omega (arith, last, lt))))
