use Rattle.versions.proofs.installing.add_all.Goals as goal
use Rattle.std.proofs.Common.{length, arith, refl, ap, ◌∙◌}
use Rattle.sorted_pages.specs.Pages.{entries}
use Rattle.versions.proofs.Calls.{first_place, first_ready, installing-begun, installing-step}

pub loop-write-init : goal.loop-write-init
loop-write-init c =
    let none = c.args.listed.now.ok.0 ∙ ap length c.requires.listed.none in
    record {
      installing = installing-begun c.args.n c.requires.kept.last (entries c.args.chains.now.pages) c.args.chains.now.pages _ _ c.args.writes.items _
          c.requires.kept.kept c.requires.kept.below c.requires.rising c.requires.room.rooms c.requires.room.places
          (omega (arith, none, c.requires.listed.places)) c.requires.listed.none c.into_iter-write-iterator.ensures.into_iter_gives.0;
      held = record { held = refl; last = c.requires.kept.late };
    }

pub add-requires-clause-ready : goal.add-requires-clause-ready
add-requires-clause-ready c =
    let inv = c.loop-write.invariant in
    record {
      chain = first_ready c.args.n (entries c.loop-write.chains.pages) c.in-Some.write _ _ c.in-Some.ensures.steps.0 inv.installing.ready;
      place = first_place (entries c.loop-write.chains.pages) c.loop-write.chains.pages c.in-Some.write _ _ c.in-Some.ensures.steps.0 inv.installing.free;
      late = inv.held.last;
    }

pub loop-write-preserved : goal.loop-write-preserved
loop-write-preserved c =
    let held = c.add.ensures.places.held in
    record {
      installing = installing-step c.args.n (entries c.args.chains.now.pages) (entries c.loop-write.chains.pages) (entries c.add.new.chains.pages)
          _ _ _ _ _ _ _ _ _ c.in-Some.write
          c.add.ensures.chains.0 c.in-Some.ensures.steps.0 c.loop-write.invariant.installing
          c.add.ensures.chains.1 c.add.ensures.places.rooms c.add.ensures.places.together c.add.ensures.listed.items c.add.ensures.listed.room;
      held = record { held = held.held ∙ c.loop-write.invariant.held.held; last = omega (arith, held.last) };
    }
