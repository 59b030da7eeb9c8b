use Rattle.sorted_pages.proofs.page.Page.search.Goals as goal
use Rattle.std.proofs.Common.{ap, ◌∙◌, rules}
use Rattle.std.proofs.lemmas.Fn.{always_returns_same}
use Rattle.model.proofs.Entries.{searched}
use Rattle.model.specs.Map.{key_cmp}
use Rattle.sorted_pages.specs.Pages.{Page}

-- the closure compares an entry's key with the key
pub returns : goal.returns
returns g c =
    let facts = c.binary_search_by.ensures in
    let by_key = facts.position (λ e. key_cmp e.0 c.args.key.bytes.now) (always_returns_same _ _ _ (λ a r f called. search rules)) in
    let same = c.deref.ensures.value ∙ ap (λ (p : Page g.row.V.Denot). p.0) c.self.view_is in
    searched c.args.self.now.0 c.args.key.bytes.now c.requires c.binary_search_by.result (rw same at facts.bound) (rw same at by_key)
