use Rattle.snapshot.proofs.spans.within.Goals as goal
use Rattle.std.proofs.Common.{List, ℕ, not, ap, ◌∙◌}
use Rattle.std.specs.Cmp.Lexicographic.{slice_cmp}
use Rattle.std.specs.FinMap.Entries.{where_key}
use Rattle.std.specs.Ordering.{nat_cmp, is_lt}
use Rattle.model.specs.Map.{key_cmp}
use Rattle.snapshot.proofs.Pieces.{span, rest_all}

pub returns : goal.returns
returns c =
    let lower = c.below-lower.result.now in
    span c.args.range.lo.bytes.now _ c.args.writes.now lower _ c.below-lower.ensures.below
    (rest_all lower c.split_place-start.result ∙ c.split_place-start.ensures.from
    ∙ ap (λ (k : List ℕ). where_key (slice_cmp nat_cmp) (λ q. not (is_lt (key_cmp q k))) lower) c.bytes.ensures.bytes)
