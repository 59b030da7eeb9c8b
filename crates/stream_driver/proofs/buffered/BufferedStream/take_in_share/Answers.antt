use Rattle.stream_driver.proofs.buffered.BufferedStream.take_in_share.Goals as goal
use Rattle.std.proofs.Common.{◌≡◌, ◌<◌, ◌≤◌, inl, inr, length, take, refl, ap, arith}
use Rattle.std.proofs.lemmas.Grind.{common_steps}
use Rattle.std.proofs.lemmas.List.{length-take-le}
use Rattle.stream_driver.proofs.Buffering.{takes_front, took_front, took_none}

pub take_some-requires : goal.take_some-requires
take_some-requires g c =
    let le : c.min-most.result ≤ length c.args.from.now = omega arith in
    λ none. absurd (omega (arith, length-take-le c.min-most.result c.args.from.now le, ap length none))

-- no share is left
pub returns-then-most-eq0 : goal.returns-then-most-eq0
returns-then-most-eq0 g c =
    let some : 0 < length c.args.from.now = grind (arith, common_steps) in
    let none_left : c.args.self.now.share ≡ 0 = omega arith in
    record {
      takes = took_none c.args.self.now c.args.from.now;
      why = inl (record { none_left = none_left; inner_is = refl; buffered_is = refl }, refl);
      share = omega arith;
      short = (λ short. short, λ short. short);
    }

pub returns : goal.returns
returns g c =
    let most = c.min-most.result in
    let le : c.min-most.result ≤ length c.args.from.now = omega arith in
    let share : c.min-most.result ≤ c.args.self.now.share = omega arith in
    let some : 0 < c.args.self.now.share = omega arith in
    let took = took_front most (take most c.args.from.now) c.args.from.now refl le c.take_some.ensures.takes in
    record {
      takes = takes_front most (take most c.args.from.now) c.args.from.now refl le c.take_some.ensures.takes;
      why = inr (inr (record { some = some; failed = grind (arith, common_steps) }, c.take_some.ensures.why));
      share = omega arith;
      short = c.take_some.ensures.short;
    }
