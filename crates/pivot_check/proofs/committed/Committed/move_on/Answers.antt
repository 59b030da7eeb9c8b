use Rattle.pivot_check.proofs.committed.Committed.move_on.Goals as goal
use Rattle.pivot_check.proofs.ShortRuns.{runs_stay}
use Rattle.pivot_check.specs.Active.{reach_of}
use Rattle.pivot_check.specs.FewKept.{KeepsLittle}
use Rattle.std.proofs.Common.{refl, subst, sym}
use Rattle.std.proofs.Common.{subst, sym}
use Rattle.pivot_check.proofs.Judging.{shortened}
use Rattle.pivot_check.specs.Inside.{postings_in}
use Rattle.pivot_check.specs.Active.{reach_of}
use Rattle.pivot_check.specs.Kept.{CommittedValue, Facts}
use Rattle.pivot_check.specs.StandsFor.{StandsFor}

pub returns-clause-stands_for : goal.returns-clause-stands_for
returns-clause-stands_for c = λ h s.
    let f : Facts = record {
      readers = c.self.inside.readers.readers;
      postings = postings_in c.self.inside.runs.runs;
      oldest = c.self.inside.oldest;
      last = c.self.inside.last;
      reach = reach_of c.self.inside.active;
    } in
    shortened f h (subst (λ (v : CommittedValue). StandsFor v.facts h) (sym c.self.view_is) s) (postings_in c.move_on.new.self.runs) c.move_on.ensures.agree

pub returns-clause-little : goal.returns-clause-little
returns-clause-little c = λ little.
    let was = subst KeepsLittle (sym c.self.view_is) little in
    record {
      postings = refl;
      sizes = c.move_on.ensures.sizes;
      few = was.few;
      runs = runs_stay (reach_of c.self.inside.active) c.self.inside.last c.self.inside.runs.runs c.move_on.new.self.runs was.few
          (c.move_on.ensures.kept c.self.inside.last) was.runs;
    }
