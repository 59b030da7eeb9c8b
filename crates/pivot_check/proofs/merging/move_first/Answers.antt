use Rattle.pivot_check.proofs.merging.move_first.Goals as goal
use Rattle.std.proofs.Common.{◌≡◌, [], ◌∷◌, ◌++◌, drop, length, ap, sym, ◌∙◌, arith}
use Rattle.std.proofs.lemmas.List.{drop-append-le, length_push}
use Rattle.pivot_check.proofs.Joined.{moved_end}
use Rattle.pivot_check.proofs.Taking.{drops_first, moves_first}
use Rattle.pivot_check.specs.Active.{reach_of}
use Rattle.pivot_check.specs.Parts.{remaining}
use Rattle.pivot_check.specs.declared.bound.Bound.{Bound}

pub push-requires-clause-rising : goal.push-requires-clause-rising
push-requires-clause-rising c =
    moved_end (remaining c.args.to.now) (remaining c.args.from.now) (remaining c.take_first-written.new.self) c.take_first-written.result
    c.take_first-written.ensures.taken
    c.requires.rising

pub returns-then-not-makes_redundant-clause-taken : goal.returns-then-not-makes_redundant-clause-taken
returns-then-not-makes_redundant-clause-taken c =
    let to = c.args.to.now in
    let w = c.take_first-written.result in
    let pushed : remaining c.push.new.self ≡ remaining to ++ w ∷ [] =
    (λ i. drop (c.push.ensures.start i) (c.push.ensures.written i)) ∙ drop-append-le to.start to.written.items (w ∷ []) to.within in
    moves_first (reach_of c.args.active.now) (remaining to) (remaining c.args.from.now) (remaining c.push.new.self)
    (remaining c.take_first-written.new.self) w c.take_first-written.ensures.taken pushed (sym c.makes_redundant.ensures ∙ c.if-not-makes_redundant.true)

pub returns-then-not-makes_redundant-clause-from : goal.returns-then-not-makes_redundant-clause-from
returns-then-not-makes_redundant-clause-from c =
    omega (arith, c.push.ensures.from, c.take_first-written.ensures.from, ap (λ (b : Bound). b.number) c.take_first-written.ensures.bound)

pub returns-then-not-makes_redundant-clause-moved : goal.returns-then-not-makes_redundant-clause-moved
returns-then-not-makes_redundant-clause-moved c =
    let longer = ap length c.push.ensures.written ∙ length_push c.args.to.now.written.items c.take_first-written.result in
    record { fewer = omega arith; made = omega (arith, longer); to_len = omega (arith, longer); capacity = c.push.ensures.capacity }

pub returns-else-not-makes_redundant-clause-taken : goal.returns-else-not-makes_redundant-clause-taken
returns-else-not-makes_redundant-clause-taken c =
    drops_first (reach_of c.args.active.now) (remaining c.args.to.now) (remaining c.args.from.now) (remaining c.take_first-written.new.self)
    c.take_first-written.result c.take_first-written.ensures.taken (sym c.makes_redundant.ensures ∙ c.if-not-makes_redundant.false)

pub returns-else-not-makes_redundant-clause-from : goal.returns-else-not-makes_redundant-clause-from
returns-else-not-makes_redundant-clause-from c = omega (arith, ap (λ (b : Bound). b.number) c.take_first-written.ensures.bound)
