use Rattle.marks.proofs.marks.Marks.add_key.Goals as goal
use Rattle.std.proofs.Common.{refl, sym, ap, arith, rules}
use Rattle.model.specs.PrivateCopy.Mark.{OfKey}
use Rattle.marks.proofs.MarkLaws.{full, not_full, only_full, with_new}

pub returns-then-len-ge-MARKS_MAX-clause-full : goal.returns-then-len-ge-MARKS_MAX-clause-full
returns-then-len-ge-MARKS_MAX-clause-full c =
    let t = full c.self.inside.marks.items c.args.self.now (OfKey c.args.key.bytes.now) c.self.view_is (sym c.if-has_key.ensures) (omega arith) in
    (λ _. t, λ _. refl)

pub returns-in_err-from_ref-clause-full : goal.returns-in_err-from_ref-clause-full
returns-in_err-from_ref-clause-full c =
    only_full _ _ (search rules) (not_full c.self.inside.marks.items c.args.self.now (OfKey c.args.key.bytes.now) c.self.view_is (omega arith))

pub returns-in_err-push-clause-full : goal.returns-in_err-push-clause-full
returns-in_err-push-clause-full c =
    only_full _ _ (search rules) (not_full c.self.inside.marks.items c.args.self.now (OfKey c.args.key.bytes.now) c.self.view_is (omega arith))

pub returns-clause-ok : goal.returns-clause-ok
returns-clause-ok c = with_new c.self.inside.marks.items _ _ c.args.self.now (OfKey c.args.key.bytes.now) c.self.view_is (sym c.if-has_key.ensures)
    (ap OfKey c.in_ok-from_ref.ensures.bytes) c.in_ok-push.ensures.items

pub returns-clause-full : goal.returns-clause-full
returns-clause-full c = only_full _ _ (λ e. cc) (not_full c.self.inside.marks.items c.args.self.now (OfKey c.args.key.bytes.now) c.self.view_is (omega arith))
