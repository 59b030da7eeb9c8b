use Rattle.marks.proofs.marks.Marks.add_upto.Goals as goal
use Rattle.std.proofs.Common.{refl, sym, arith, rules}
use Rattle.model.specs.PrivateCopy.Mark.{OfClosedRange}
use Rattle.marks.proofs.MarkLaws.{full, not_full, only_full, with_new}

pub returns-then-len-ge-MARKS_MAX-clause-full : goal.returns-then-len-ge-MARKS_MAX-clause-full
returns-then-len-ge-MARKS_MAX-clause-full c =
    let t = full c.self.inside.marks.items c.args.self.now (OfClosedRange c.args.lo.bytes.now c.args.last.bytes.now) c.self.view_is (sym c.if-has_upto.ensures)
    (omega arith) in
    (λ _. t, λ _. refl)

pub returns-in_err-mark-clause-full : goal.returns-in_err-mark-clause-full
returns-in_err-mark-clause-full c =
    only_full _ _ (search rules)
    (not_full c.self.inside.marks.items c.args.self.now (OfClosedRange c.args.lo.bytes.now c.args.last.bytes.now) c.self.view_is (omega arith))

pub returns-in_err-push-clause-full : goal.returns-in_err-push-clause-full
returns-in_err-push-clause-full c =
    only_full _ _ (search rules)
    (not_full c.self.inside.marks.items c.args.self.now (OfClosedRange c.args.lo.bytes.now c.args.last.bytes.now) c.self.view_is (omega arith))

pub returns-clause-ok : goal.returns-clause-ok
returns-clause-ok c = with_new c.self.inside.marks.items _ _ c.args.self.now (OfClosedRange c.args.lo.bytes.now c.args.last.bytes.now) c.self.view_is
    (sym c.if-has_upto.ensures) c.in_ok-mark.ensures c.in_ok-push.ensures.items

pub returns-clause-full : goal.returns-clause-full
returns-clause-full c = only_full _ _ (λ e. cc)
    (not_full c.self.inside.marks.items c.args.self.now (OfClosedRange c.args.lo.bytes.now c.args.last.bytes.now) c.self.view_is (omega arith))
