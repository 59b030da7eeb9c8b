use Rattle.sorted_pages.proofs.page.Page.split_place.Goals as goal
use Rattle.std.proofs.Common.{Ok, Err, ap, ◌∙◌, rules}
use Rattle.std.proofs.lemmas.Fn.{always_returns_same}
use Rattle.model.proofs.Entries.{split_at}
use Rattle.model.specs.Map.{key_cmp}
use Rattle.sorted_pages.specs.Pages.{Page}

pub returns-in-Ok : goal.returns-in-Ok
returns-in-Ok g c =
    let facts = c.in-Ok.ensures in
    let by_key = facts.position (λ e. key_cmp e.0 c.args.key.bytes.now) (always_returns_same _ _ _ (λ a r f called. search rules)) in
    let same = c.deref.ensures.value ∙ ap (λ (p : Page g.row.V.Denot). p.0) c.self.view_is in
    (split_at c.args.self.now.0 c.args.key.bytes.now c.requires (Ok c.in-Ok.i) (rw same at facts.bound) (rw same at by_key)).found

pub returns-in-Err : goal.returns-in-Err
returns-in-Err g c =
    let facts = c.in-Err.ensures in
    let by_key = facts.position (λ e. key_cmp e.0 c.args.key.bytes.now) (always_returns_same _ _ _ (λ a r f called. search rules)) in
    let same = c.deref.ensures.value ∙ ap (λ (p : Page g.row.V.Denot). p.0) c.self.view_is in
    (split_at c.args.self.now.0 c.args.key.bytes.now c.requires (Err c.in-Err.i) (rw same at facts.bound) (rw same at by_key)).absent
