use Rattle.pivot_check.proofs.written.count_below.Goals as goal
use Rattle.std.proofs.Common.{rules, of_calls}
use Rattle.std.proofs.lemmas.Fn.{always_returns_same}
use Rattle.std.specs.Ordering.{is_lt}
use Rattle.model.specs.Map.{key_cmp}
use Rattle.pivot_check.proofs.Walks.{before, parted, rest_from}

pub returns : goal.returns
returns c =
    let k = c.args.key.bytes.now in
    let ps = c.args.postings.now in
    let count = c.partition_point.result in
    let point = c.partition_point.ensures.partitioned (λ p. is_lt (key_cmp p.key k)) (always_returns_same _ _ _ (λ a r f g. search (rules, of_calls)))
    (parted k ps c.requires) in
    record {
      within = c.partition_point.ensures.bound;
      below = before (λ p. is_lt (key_cmp p.key k)) ps count point;
      from = rest_from k ps count point;
    }
