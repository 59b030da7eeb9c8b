use Rattle.pivot_check.proofs.committed.Committed.reserve.Goals as goal
use Rattle.pivot_check.proofs.ShortRuns.{runs_stay}
use Rattle.pivot_check.specs.Active.{reach_of}
use Rattle.pivot_check.specs.FewKept.{KeepsLittle}
use Rattle.std.proofs.Common.{sym, subst, arith}
use Rattle.std.proofs.Common.{refl, ap, true}
use Rattle.pivot_check.proofs.SameHistories.{same_from}
use Rattle.pivot_check.specs.Kept.{CommittedValue}

pub returns-in_err-reserve-clause-same : goal.returns-in_err-reserve-clause-same
returns-in_err-reserve-clause-same c =
    same_from _ _ _ (ap (λ (v : CommittedValue). v.facts) c.self.view_is) (record { readers = λ k. refl; oldest = refl })
    (c.reserve.ensures.agree (λ _. true)) refl refl refl

pub returns-in_err-reserve-2-clause-same : goal.returns-in_err-reserve-2-clause-same
returns-in_err-reserve-2-clause-same c =
    same_from _ _ _ (ap (λ (v : CommittedValue). v.facts) c.self.view_is) c.reserve-2.ensures.readers (c.reserve.ensures.agree (λ _. true)) refl refl refl

pub returns-in_err-for_commit-clause-same : goal.returns-in_err-for_commit-clause-same
returns-in_err-for_commit-clause-same c =
    same_from _ _ _ (ap (λ (v : CommittedValue). v.facts) c.self.view_is) c.reserve-2.ensures.readers (c.reserve.ensures.agree (λ _. true)) refl refl refl

pub returns-clause-same : goal.returns-clause-same
returns-clause-same c =
    same_from _ _ _ (ap (λ (v : CommittedValue). v.facts) c.self.view_is) c.reserve-2.ensures.readers (c.reserve.ensures.agree (λ _. true)) refl refl refl

pub returns-in_err-reserve-clause-little : goal.returns-in_err-reserve-clause-little
returns-in_err-reserve-clause-little c = λ since_is little.
    let since = ap (λ (v : CommittedValue). v.facts.reach.since) c.self.view_is in
    let last = ap (λ (v : CommittedValue). v.facts.last) c.self.view_is in
    let was = subst KeepsLittle (sym c.self.view_is) little in
    record {
      postings = refl;
      sizes = c.reserve.ensures.sizes;
      few = was.few;
      runs = runs_stay (reach_of c.self.inside.active) c.self.inside.last c.self.inside.runs.runs c.reserve.new.self.runs was.few
          (c.reserve.ensures.kept c.self.inside.last (omega (arith, since, last, since_is))) was.runs;
    }

pub returns-in_err-reserve-2-clause-little : goal.returns-in_err-reserve-2-clause-little
returns-in_err-reserve-2-clause-little c = λ since_is little.
    let since = ap (λ (v : CommittedValue). v.facts.reach.since) c.self.view_is in
    let last = ap (λ (v : CommittedValue). v.facts.last) c.self.view_is in
    let was = subst KeepsLittle (sym c.self.view_is) little in
    record {
      postings = refl;
      sizes = c.reserve.ensures.sizes;
      few = was.few;
      runs = runs_stay (reach_of c.self.inside.active) c.self.inside.last c.self.inside.runs.runs c.reserve.new.self.runs was.few
          (c.reserve.ensures.kept c.self.inside.last (omega (arith, since, last, since_is))) was.runs;
    }

pub returns-in_err-for_commit-clause-little : goal.returns-in_err-for_commit-clause-little
returns-in_err-for_commit-clause-little c = λ since_is little.
    let since = ap (λ (v : CommittedValue). v.facts.reach.since) c.self.view_is in
    let last = ap (λ (v : CommittedValue). v.facts.last) c.self.view_is in
    let was = subst KeepsLittle (sym c.self.view_is) little in
    record {
      postings = refl;
      sizes = c.reserve.ensures.sizes;
      few = was.few;
      runs = runs_stay (reach_of c.self.inside.active) c.self.inside.last c.self.inside.runs.runs c.reserve.new.self.runs was.few
          (c.reserve.ensures.kept c.self.inside.last (omega (arith, since, last, since_is))) was.runs;
    }

pub returns-clause-little : goal.returns-clause-little
returns-clause-little c = λ since_is little.
    let since = ap (λ (v : CommittedValue). v.facts.reach.since) c.self.view_is in
    let last = ap (λ (v : CommittedValue). v.facts.last) c.self.view_is in
    let was = subst KeepsLittle (sym c.self.view_is) little in
    record {
      postings = refl;
      sizes = c.reserve.ensures.sizes;
      few = was.few;
      runs = runs_stay (reach_of c.self.inside.active) c.self.inside.last c.self.inside.runs.runs c.reserve.new.self.runs was.few
          (c.reserve.ensures.kept c.self.inside.last (omega (arith, since, last, since_is))) was.runs;
    }
