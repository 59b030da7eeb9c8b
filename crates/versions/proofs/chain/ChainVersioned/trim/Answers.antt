use Rattle.versions.proofs.chain.ChainVersioned.trim.Goals as goal
use Rattle.std.proofs.Common.{subst, sym}
use Rattle.sorted_pages.specs.Values.{IsTrimmed}
use Rattle.versions.proofs.ChainLaws.{trimmed-reclaimed}
use Rattle.versions.specs.Chains.{hides, shows}

pub returns-clause-trimmed : goal.returns-clause-trimmed
returns-clause-trimmed c =
    subst (IsTrimmed hides shows (λ c. c.newest.number) c.args.numbers.now c.args.self.now) (sym c.reclaim.ensures)
    (trimmed-reclaimed c.args.numbers.now c.args.self.now)
