use Rattle.write_buffer.proofs.buffer.WriteBuffer.write.Goals as goal
use Rattle.std.proofs.Common.{◌∙◌}
use Rattle.write_buffer.proofs.BufferLaws.{set_there, insert_there, entries-put_as}

pub invariant_of-self : goal.invariant_of-self
invariant_of-self c = entries-put_as c.args.self.now c.self.inside.entries.items _ c.args.key.bytes.now _ c.self.view_is
    (set_there c.args.self.now c.self.inside.entries.items c.bytes.result.now c.args.key.bytes.now c.in-Ok.i c.index_mut.result.now c.set_value.new.self _
    c.self.view_is c.in-Ok.ensures.found c.bytes.ensures.bytes c.index_mut.ensures.value c.set_value.ensures)
    c.self.invariant (c.args.key.sized.0, c.args.key.sized.1, c.requires.short) c.requires.room

pub invariant_of-self-in-Continue-branch-2 : goal.invariant_of-self-in-Continue-branch-2
invariant_of-self-in-Continue-branch-2 c =
    entries-put_as c.args.self.now c.self.inside.entries.items c.insert.new.self.items c.args.key.bytes.now _ c.self.view_is
    (c.in_ok-insert-in-Err.ensures.items
    ∙ insert_there c.args.self.now c.self.inside.entries.items c.bytes.result.now c.args.key.bytes.now c.in_ok-key-in-Err.key c.in-Err.i c.new.result _
    c.self.view_is c.in-Err.ensures.absent c.bytes.ensures.bytes c.in_ok-key-in-Err.ensures.bytes c.new.ensures)
    c.self.invariant (c.args.key.sized.0, c.args.key.sized.1, c.requires.short) c.requires.room

pub returns-in-Ok-clause-entries : goal.returns-in-Ok-clause-entries
returns-in-Ok-clause-entries c = entries-put_as c.args.self.now c.self.inside.entries.items _ c.args.key.bytes.now _ c.self.view_is
    (set_there c.args.self.now c.self.inside.entries.items c.bytes.result.now c.args.key.bytes.now c.in-Ok.i c.index_mut.result.now c.set_value.new.self _
    c.self.view_is c.in-Ok.ensures.found c.bytes.ensures.bytes c.index_mut.ensures.value c.set_value.ensures)
    c.self.invariant (c.args.key.sized.0, c.args.key.sized.1, c.requires.short) c.requires.room

pub returns-in_ok-insert-in-Err-clause-entries : goal.returns-in_ok-insert-in-Err-clause-entries
returns-in_ok-insert-in-Err-clause-entries c =
    entries-put_as c.args.self.now c.self.inside.entries.items c.insert.new.self.items c.args.key.bytes.now _ c.self.view_is
    (c.in_ok-insert-in-Err.ensures.items
    ∙ insert_there c.args.self.now c.self.inside.entries.items c.bytes.result.now c.args.key.bytes.now c.in_ok-key-in-Err.key c.in-Err.i c.new.result _
    c.self.view_is c.in-Err.ensures.absent c.bytes.ensures.bytes c.in_ok-key-in-Err.ensures.bytes c.new.ensures)
    c.self.invariant (c.args.key.sized.0, c.args.key.sized.1, c.requires.short) c.requires.room
