use Rattle.snapshot.proofs.spans.split_place.Goals as goal
use Rattle.std.proofs.Common.{rules, Ok, Err}
use Rattle.std.proofs.lemmas.Fn.{always_returns_same}
use Rattle.model.proofs.Entries.{split_at}
use Rattle.model.specs.Map.{key_cmp}

pub returns-in-Ok : goal.returns-in-Ok
returns-in-Ok c =
    let facts = c.in-Ok.ensures in
    let by_key = facts.position (λ e. key_cmp e.0 c.args.key.now) (always_returns_same _ _ _ (λ a r f' called. search rules)) in
    (split_at c.args.writes.now c.args.key.now c.requires (Ok c.in-Ok.i) facts.bound by_key).found

pub returns-in-Err : goal.returns-in-Err
returns-in-Err c =
    let facts = c.in-Err.ensures in
    let by_key = facts.position (λ e. key_cmp e.0 c.args.key.now) (always_returns_same _ _ _ (λ a r f' called. search rules)) in
    (split_at c.args.writes.now c.args.key.now c.requires (Err c.in-Err.i) facts.bound by_key).absent
