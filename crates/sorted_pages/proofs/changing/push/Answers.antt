use Rattle.sorted_pages.proofs.changing.push.Goals as goal
use Rattle.std.proofs.Common.{◌≡◌, ◌<◌, ◌+◌, ◌-◌, length, get_or, ap, sym, subst, arith}
use Rattle.std.proofs.lemmas.Grind.{common_steps}
use Rattle.std.specs.Prelude.{is_ok}
use Rattle.sorted_pages.proofs.Placings.{all_full, full-set, loose-set, pushed_last, tight-set}
use Rattle.sorted_pages.specs.Changes.{IsPushedTo}
use Rattle.sorted_pages.specs.Pages.{Page}
use Rattle.sorted_pages.specs.declared.changing.TheConstants.{FILL, FILL_PLACES}

pub returns : goal.returns
returns g c =
    let ps = c.args.pages.now.pages in
    let k = c.args.key in
    let v = c.args.value in
    let i = length c.as_slice-count.result.now - 1 in
    let p = c.index-as_slice-count.result in
    let ok = is_ok c.push_to.result in
    let here : p ≡ get_or ps i p = rw c.as_slice.ensures at c.index-as_slice-count.is in
    let at : i + 1 ≡ length ps = (let n = ap length c.as_slice-count.ensures in let s = c.if-count-eq0.false in omega arith) in
    let new = c.push_to.ensures.changed in
    let page = subst (λ (q : Page g.row.V.Denot). IsPushedTo ok k v q new.page) (sym here) (new.changed p) in
    let all = pushed_last ps (k, v) i p new.page ok at here c.requires.order c.requires.sorted page.entries in
    let few : length p.0 < FILL = (let n = c.len.ensures in let lt = c.if-len-ge-FILL.false in omega arith) in
    record {
      pushed = record {
        order = rw new.is all.order;
        entries = rw new.is all.entries;
        tight = rw new.is (tight-set FILL_PLACES ps i p new.page here (let t = page.tight in omega arith));
      };
      loose = rw new.is (loose-set ps (k, v) i p new.page ok here page.entries page.places few);
      full = rw new.is (full-set ps i new.page at);
      held = c.push_to.ensures.held;
    }

pub returns-then-len-ge-FILL : goal.returns-then-len-ge-FILL
returns-then-len-ge-FILL g c = grind (arith, common_steps, all_full)
