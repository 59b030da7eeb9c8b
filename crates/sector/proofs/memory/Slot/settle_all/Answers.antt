use Rattle.sector.proofs.memory.Slot.settle_all.Goals as goal
use Rattle.std.proofs.Common.{◌≡◌, ◌∙◌, sym, arith}
use Rattle.std.proofs.lemmas.List.Edits.{map_over_more}
use Rattle.sector.proofs.Slots.{settled-front, settled-back}
use Rattle.sector.specs.Slots.{settled_slot}

pub loop-i-init : goal.loop-i-init
loop-i-init c = sym (settled-front _ _ c.requires.before)

pub loop-i-preserved : goal.loop-i-preserved
loop-i-preserved c =
    map_over_more settled_slot _ _ c.loop-i.i c.index_mut.result.now (omega (arith, c.args.slots.now.ok.0)) c.loop-i.invariant c.index_mut.ensures.value

pub returns : goal.returns
returns c =
    let all_done : c.loop-i.i ≡ c.args.unsettled.end = omega (arith, c.loop-i.auto.i-end c.args.unsettled.ordered, c.loop-i-test.false) in
    c.loop-i.invariant ∙ settled-back c.loop-i.i c.args.slots.now.items (λ k d lt from. c.requires.from k d lt (omega arith))
