use Rattle.pivot_check.proofs.merges.WrittenRunRun.places_for.Goals as goal
use Rattle.std.proofs.Common.{◌≡◌, ◌-◌, ◌^◌, length, ap, arith, true}
use Rattle.std.proofs.lemmas.List.{nil_from_length}
use Rattle.std.specs.Vec.{vec_capacity}
use Rattle.pivot_check.specs.Postings.{postings_from}

pub returns-in-Ok : goal.returns-in-Ok
returns-in-Ok c =
    let none : length c.in-Ok.places.items ≡ 0 = omega (arith, c.in-Ok.ensures.len) in
    let all : postings_from (2 ^ 64 - 1) c.in-Ok.places.items ≡ true = ap (postings_from (2 ^ 64 - 1)) (nil_from_length c.in-Ok.places.items none) in
    record {
      none = omega (arith, none, ap length (ap (λ w. w.items) c.of.ensures.written));
      room = omega (
        arith,
        c.len.ensures,
        c.len-2.ensures,
        c.saturating_add.ensures,
        c.in-Ok.ensures.capacity,
        ap vec_capacity c.of.ensures.written,
        c.args.first.now.made.written.ok.0,
        c.args.second.now.made.written.ok.0,
      );
      bound = c.of.ensures.from (2 ^ 64 - 1) (omega arith) all;
    }
