use Rattle.event_loop.proofs.connections.end_drive_at.Goals as goal
use Rattle.std.proofs.Common.{◌≡◌, true, false, Some, refl, sym, ap, subst, set, ◌∙◌}
use Rattle.std.proofs.lemmas.List.{get_or-set_other}
use Rattle.model.proofs.Lookups.{some_same}
use Rattle.event_loop.proofs.Polled.{put_there, there, vacant}
use Rattle.event_loop.specs.Lingerings.{lingers_in, LingersOrCloses}
use Rattle.event_loop.specs.declared.socket.Socket.{Socket}

pub returns-then-not-end_drive : goal.returns-then-not-end_drive
returns-then-not-end_drive g c =
    there (g.D.Sectors.moment c.args.device.now) c.args.key c.args.table.now.slots (set c.args.table.now.slots c.args.key (Some c.end_drive.new.entry))
    (λ other differs. get_or-set_other c.args.table.now.slots c.args.key other (Some c.end_drive.new.entry) _ differs)
    _ _ c.in-Some.entry.now c.end_drive.new.entry (sym c.in-Some.ensures.value) c.end_drive.ensures.ends false (sym c.if-not-end_drive.true
    ∙ c.end_drive.ensures.over)
    (put_there c.args.table.now.slots c.args.key c.in-Some.entry.now c.end_drive.new.entry (sym c.in-Some.ensures.value)) refl

pub returns-in_default : goal.returns-in_default
returns-in_default g c =
    vacant (g.D.Sectors.moment c.args.device.now) c.args.key c.args.table.now.slots _ (λ other differs. refl) _ (sym c.in_default.ensures.value)
    (sym c.in_default.ensures.value)

pub returns-in-Some-try_remove : goal.returns-in-Some-try_remove
returns-in-Some-try_remove g c =
    let put = put_there c.args.table.now.slots c.args.key c.in-Some.entry.now c.end_drive.new.entry (sym c.in-Some.ensures.value) in
    let socket : c.into_inner.result ≡ c.end_drive.new.entry.stream.inner =
    c.into_inner.ensures ∙ ap (λ e. e.stream.inner) (some_same (c.in-Some-try_remove.ensures.value ∙ put)) in
    there (g.D.Sectors.moment c.args.device.now) c.args.key c.args.table.now.slots c.try_remove.new.self.slots
    (λ other differs. c.try_remove.ensures.updates.others other differs
    ∙ get_or-set_other c.args.table.now.slots c.args.key other (Some c.end_drive.new.entry) _ differs)
    _ _ c.in-Some.entry.now c.end_drive.new.entry (sym c.in-Some.ensures.value) c.end_drive.ensures.ends true (sym c.if-not-end_drive.false
    ∙ c.end_drive.ensures.over) c.try_remove.ensures.updates.changed
    (subst (λ (s : Socket). LingersOrCloses s (lingers_in c.args.lingering.now) (lingers_in c.begin.new.self)) socket c.begin.ensures)
