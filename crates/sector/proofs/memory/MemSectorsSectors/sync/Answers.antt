use Rattle.sector.proofs.memory.MemSectorsSectors.sync.Goals as goal
use Rattle.std.proofs.Common.{◌≡◌, ◌∙◌, All, ap, arith, map}
use Rattle.sector.proofs.Slots.{settles, fewer, written-settled, all_settled}
use Rattle.sector.specs.Slots.{written, settled_slot, IsSettledSlot}

pub returns-else-fails-clause-settles : goal.returns-else-fails-clause-settles
returns-else-fails-clause-settles c =
    let is : c.settle_all.new.slots.items ≡ map settled_slot c.args.self.now.slots.items = rw c.fails.ensures.slots at c.settle_all.ensures in
    settles c.args.self.now.slots.items c.settle_all.new.slots.items is

pub returns-else-fails-clause-crash : goal.returns-else-fails-clause-crash
returns-else-fails-clause-crash c image left =
    let is : c.settle_all.new.slots.items ≡ map settled_slot c.args.self.now.slots.items = rw c.fails.ensures.slots at c.settle_all.ensures in
    fewer c.args.self.now.slots.items image (rw is at left)

pub returns-else-fails-clause-sectors : goal.returns-else-fails-clause-sectors
returns-else-fails-clause-sectors c =
    let is : c.settle_all.new.slots.items ≡ map settled_slot c.args.self.now.slots.items = rw c.fails.ensures.slots at c.settle_all.ensures in
    (ap written is ∙ written-settled c.args.self.now.slots.items, rw is (all_settled c.args.self.now.slots.items))

pub invariant_of-self-else-fails : goal.invariant_of-self-else-fails
invariant_of-self-else-fails c =
    let all : All IsSettledSlot c.settle_all.new.slots.items = rw c.settle_all.ensures (all_settled c.fails.new.self.slots.items) in
    record {
      before = λ k d lt less. all k d lt;
      from = λ k d lt le. all k d lt;
      within = omega (arith, c.empty-self.ensures.end);
    }
