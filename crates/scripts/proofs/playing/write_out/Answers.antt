use Rattle.scripts.proofs.playing.write_out.Goals as goal
use Rattle.std.proofs.Common.{ap, sym, subst, ◌∙◌}
use Rattle.std.proofs.lemmas.List.{take_rest}
use Rattle.std.specs.Borrow.{Bor}
use Rattle.model.specs.Map.{Bytes}
use Rattle.scripts.proofs.Writing.{Written, written_none, written_more, written_kept}
use Rattle.scripts.proofs.playing.write_out.Goals.{in-Ok, in-Err+else-ne}

pub loop-init : goal.loop-init
loop-init g c = written_none (g.O.Write.contents c.args.out.now) c.args.bytes.now

pub loop-preserved : goal.loop-preserved
loop-preserved g c =
    let before = g.O.Write.contents c.args.out.now in
    let held = g.O.Write.contents c.loop.out in
    let after = g.O.Write.contents c.write.new.self in
    let bytes = c.args.bytes.now in
    let rest = c.loop.rest.now in
    let left = c.match-write.rest.now in
    elim c.match-write.branch [
      | in-Ok w ↦ written_more before held after bytes rest left w.in-Ok.n (ap (λ (b : Bor Bytes). b.now) w.rest-is
          ∙ take_rest rest w.in-Ok.n) w.in-Ok.ensures.bytes c.loop.invariant
      | in-Err+else-ne w ↦ subst (λ (b : Bor Bytes). Written before after bytes b.now) (sym w.rest-is)
          (written_kept before held after bytes rest w.in-Err.ensures.bytes c.loop.invariant)
    ]
