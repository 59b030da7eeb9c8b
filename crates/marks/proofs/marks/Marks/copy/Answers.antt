use Rattle.marks.proofs.marks.Marks.copy.Goals as goal
use Rattle.std.proofs.Common.{◌∷◌, [], length, ap, ◌∙◌, arith, length-append}
use Rattle.marks.proofs.MarkLaws.{copied}
use Rattle.marks.specs.Marked.{marks_of}

pub loop-mark-preserved : goal.loop-mark-preserved
loop-mark-preserved c = record {
  same = ap marks_of c.in_ok-push.ensures.items
      ∙ copied c.loop-mark.marks.items c.deref-mark-items.result.now c.loop-mark.mark-index _ c.mark-item.result (omega arith) c.loop-mark.invariant.same
      c.in_ok-copy.ensures c.mark-item.is;
  many = ap length c.in_ok-push.ensures.items ∙ omega (arith, length-append c.loop-mark.marks.items (c.in_ok-copy.field-0 ∷ []), c.loop-mark.invariant.many);
}
