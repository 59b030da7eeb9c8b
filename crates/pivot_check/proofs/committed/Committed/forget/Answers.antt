use Rattle.pivot_check.proofs.committed.Committed.forget.Goals as goal
use Rattle.pivot_check.proofs.ShortRuns.{runs_stay}
use Rattle.pivot_check.specs.Active.{reach_of}
use Rattle.pivot_check.specs.FewKept.{KeepsLittle}
use Rattle.std.proofs.Common.{refl}
use Rattle.std.proofs.Common.{◌≡◌, sym, subst, arith}
use Rattle.model.specs.Map.{Bytes}
use Rattle.last_readers.specs.Readers.{last_reader, NameNoneUpto}
use Rattle.pivot_check.proofs.Judging.{forgotten}
use Rattle.pivot_check.proofs.LastSources.{cut_later}
use Rattle.pivot_check.proofs.Sweeps.{later_in_runs}
use Rattle.pivot_check.specs.Inside.{postings_in}
use Rattle.pivot_check.specs.Active.{reach_of}
use Rattle.pivot_check.specs.Kept.{Facts, CommittedValue}
use Rattle.pivot_check.specs.StandsFor.{StandsFor}

pub returns-clause-stands_for : goal.returns-clause-stands_for
returns-clause-stands_for c = λ h s.
    let f : Facts = record {
      readers = c.self.inside.readers.readers;
      postings = postings_in c.self.inside.runs.runs;
      oldest = c.self.inside.oldest;
      last = c.self.inside.last;
      reach = reach_of c.self.inside.active;
    } in
    let was : StandsFor f h = subst (λ (v : CommittedValue). StandsFor v.facts h) (sym c.self.view_is) s in
    let after = c.forget.new.self.readers in
    let cut_to = λ (k : Bytes). cut_later c.self.inside.oldest c.args.oldest (last_reader f.readers k) (last_reader after k) (c.self.invariant.above k)
    (c.forget.ensures.forgotten k) in
    forgotten f h was c.max-self-inside.result (omega (arith, c.max-self-inside.ensures)) after (λ k. grind (arith, cut_to k))
    (postings_in c.forget-2.new.self.runs) c.forget-2.ensures.agree

pub returns-clause-kept : goal.returns-clause-kept
returns-clause-kept c =
    let same : c.forget.new.self.readers.oldest ≡ c.max-self-inside.result =
    omega (arith, c.forget.ensures.oldest, c.max-self-inside.ensures, c.self.invariant.together) in
    record {
      written = later_in_runs c.max-self-inside.result c.forget-2.new.self.runs c.forget-2.ensures.above;
      readers = subst (λ n. NameNoneUpto n c.forget.new.self.readers) same c.forget.ensures.named;
    }

pub returns-clause-little : goal.returns-clause-little
returns-clause-little c = λ little.
    let was = subst KeepsLittle (sym c.self.view_is) little in
    record {
      postings = refl;
      sizes = c.forget-2.ensures.sizes;
      few = was.few;
      runs = runs_stay (reach_of c.self.inside.active) c.self.inside.last c.self.inside.runs.runs c.forget-2.new.self.runs was.few
          (c.forget-2.ensures.kept c.self.inside.active c.self.inside.last) was.runs;
    }
