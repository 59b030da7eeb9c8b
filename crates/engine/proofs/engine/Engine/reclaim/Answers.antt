use Rattle.engine.proofs.engine.Engine.reclaim.Goals as goal
use Rattle.std.proofs.Common.{◌∙◌, ap, subst, rules}
use Rattle.versions.specs.Meaning.{IsReclaimed}
use Rattle.pivot_check.specs.Kept.{CommittedValue}
use Rattle.engine.proofs.Reclaims.{are_active, none_below, numbers_are, reclaimed_stands}
use Rattle.engine.specs.Least.{IsLeast}

pub returns : goal.returns
returns g c =
    let e = c.args.self.now in
    let new = c.reclaim.new.self in
    let now = c.gather.new.self in
    let bs = c.numbers-begins.result.now in
    let gathered = c.numbers-begins.ensures.gathered in
    let oldest = c.least_of-oldest.result in
    let least = subst (λ n. IsLeast (λ k. k) n bs oldest) (c.last.ensures
    ∙ ap (λ (v : CommittedValue). v.facts.last) c.committed.ensures) c.least_of-oldest.ensures in
    let numbers = numbers_are e new now bs oldest c.gather.ensures gathered least in
    record {
      keeps = record {
        stands = reclaimed_stands e new now bs oldest c.gather.ensures gathered least c.reclaim.ensures.reclaims.stands c.reclaim.ensures.reclaims.last
            c.reclaim.ensures.reclaims.oldest c.reclaim.ensures.reclaims.reach c.reclaim.ensures.reclaims.little;
        log = search rules;
      };
      versions = λ m h. subst (IsReclaimed e.history.versions new.versions) (numbers m h) c.reclaim.ensures.reclaimed;
      classified = λ m h. c.reclaim.ensures.reclaims.classified h.active m.base m.history h.history
          (are_active e new now bs oldest c.gather.ensures gathered least m h);
      forgotten = λ m h. none_below e new now bs oldest c.gather.ensures gathered least m h new.committed.facts c.reclaim.ensures.reclaims.forgotten;
      kept = c.reclaim.ensures.kept;
    }
