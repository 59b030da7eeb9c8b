use Rattle.pivot_check.proofs.committed.Committed.keep_active.Goals as goal
use Rattle.pivot_check.proofs.ShortRuns.{narrowed_runs}
use Rattle.pivot_check.specs.FewKept.{KeepsLittle}
use Rattle.pivot_check.specs.Active.{reach_of}
use Rattle.pivot_check.specs.KeptShort.{AreKeptShort}
use Rattle.pivot_check.specs.Reach.{Reach, may_ask}
use Rattle.pivot_check.specs.Redundant.{IsWithin}
use Rattle.std.specs.List.{AllByRecursion}
use Rattle.std.specs.Prelude.{◌≡◌, ◌≤◌, length, true}
use Rattle.last_readers.specs.declared.runs.TheConstants.{BEGINS_MAX}
use Rattle.std.proofs.Common.{ap, sym, subst, refl, ◌∙◌}
use Rattle.pivot_check.proofs.Judging.{narrowed}
use Rattle.pivot_check.specs.Kept.{CommittedValue, Facts}
use Rattle.pivot_check.specs.StandsFor.{StandsFor}

pub returns-clause-stands_for : goal.returns-clause-stands_for
returns-clause-stands_for c = λ all h s.
    let was = c.args.self.now.facts in
    let inside = ap (λ (v : CommittedValue). v.facts) c.self.view_is in
    let last = ap (λ (v : CommittedValue). v.facts.last) c.self.view_is in
    let reach = c.of-self-inside.ensures ∙ ap (λ n. record { begins = c.args.begins.now; since = n }) last in
    subst (λ (f : Facts). StandsFor f h)
    (λ i. record {
      readers = (sym inside i).readers;
      postings = (sym inside i).postings;
      oldest = (sym inside i).oldest;
      last = (sym inside i).last;
      reach = sym reach i;
    })
    (narrowed was h s c.args.begins.now all)

pub returns-clause-little : goal.returns-clause-little
returns-clause-little c = λ all little.
    let was = subst KeepsLittle (sym c.self.view_is) little in
    let old = reach_of c.self.inside.active in
    let reach : Reach = record { begins = c.args.begins.now; since = c.self.inside.last } in
    let is : reach ≡ reach_of c.of-self-inside.result = sym c.of-self-inside.ensures in
    let asked = subst (λ (v : CommittedValue). AllByRecursion (λ b. may_ask v.facts.reach b ≡ true) c.args.begins.now) (sym c.self.view_is) all in
    let within : IsWithin old reach = record { since = c.self.invariant.now; begins = asked } in
    record {
      postings = refl;
      sizes = was.sizes;
      few = subst (λ (r : Reach). length r.begins ≤ BEGINS_MAX) is c.requires.few;
      runs = subst (λ (r : Reach). AreKeptShort r c.self.inside.last c.self.inside.runs.runs) is
          (narrowed_runs old reach c.self.inside.last c.self.inside.runs.runs within was.runs);
    }
