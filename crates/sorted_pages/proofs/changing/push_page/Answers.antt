use Rattle.sorted_pages.proofs.changing.push_page.Goals as goal
use Rattle.std.proofs.Common.{[], ◌∷◌, ◌++◌, ap, ◌∙◌, arith}
use Rattle.std.proofs.lemmas.Grind.{common_steps}
use Rattle.model.specs.Map.{Bytes}
use Rattle.sorted_pages.proofs.Placings.{full-push, loose-push, pushed_page, tight-push}
use Rattle.sorted_pages.specs.Pages.{Page}

pub returns : goal.returns
returns g c =
    let ps = c.args.pages.now.pages in
    let p = c.push.new.self in
    let e : Bytes × g.row.V.Denot = (c.args.key, c.args.value) in
    let all = pushed_page ps e c.requires.order c.requires.sorted p (c.in_ok-push.ensures.entries
    ∙ ap (λ (q : Page g.row.V.Denot). q.0 ++ e ∷ []) c.in_ok-page.ensures) in
    grind (arith, common_steps, loose-push, full-push, tight-push)
