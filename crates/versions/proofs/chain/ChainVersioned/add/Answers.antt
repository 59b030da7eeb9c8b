use Rattle.versions.proofs.chain.ChainVersioned.add.Goals as goal
use Rattle.std.proofs.Common.{ap, subst, sym, ◌∙◌}
use Rattle.sorted_pages.specs.Values.{IsChangedAt}
use Rattle.versions.proofs.ChainLaws.{changed-longer}
use Rattle.versions.specs.Chains.{ChainValue, hides, longer_chain}
use Rattle.versions.specs.Kept.{kept_chain}

pub returns-clause-changed : goal.returns-clause-changed
returns-clause-changed c =
    let room = c.add.new.self.room in
    let old = sym (ap kept_chain c.in-More.is) ∙ c.self.view_is in
    let is = c.add.ensures ∙ ap (λ (d : ChainValue). longer_chain d c.args.version room) old in
    subst (IsChangedAt hides (λ c. c.newest.number) c.args.version.number c.args.self.now) (sym is)
    (changed-longer c.args.self.now c.args.version room)
