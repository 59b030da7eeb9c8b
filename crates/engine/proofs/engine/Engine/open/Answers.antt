use Rattle.engine.proofs.engine.Engine.open.Goals as goal
use Rattle.std.proofs.Common.{◌≡◌, ◌+◌, ℕ, true, false, None, [], sym, ap, refl, ◌∙◌, length, arith, subst, nat_le}
use Rattle.std.proofs.Common.{le-leb}
use Rattle.std.proofs.lemmas.Bool.{both_ways, or_right}
use Rattle.std.proofs.lemmas.Grind.{common_steps}
use Rattle.std.proofs.lemmas.List.{nil_from_length}
use Rattle.std.proofs.lemmas.Slice.Zip.{AllZip-long}
use Rattle.model.specs.Machine.{State, opened, IsReached}
use Rattle.model.specs.Map.{KeyMap, IsMap, IsInBounds}
use Rattle.sector.specs.declared.device.Sectors.{Ghosts}
use Rattle.commit_log.specs.LogImage.{span}
use Rattle.commit_log.specs.LogState.{is_log_stopped, used_sectors, sector_count}
use Rattle.commit_log.specs.Recovery.{map_after}
use Rattle.pivot_check.specs.FewKept.{KeepsLittle}
use Rattle.pivot_check.specs.Kept.{IsEmpty}
use Rattle.engine.proofs.Calls.{gathered_none}
use Rattle.engine.specs.HistoryValue.{HistoryStandsFor}
use Rattle.engine.specs.Recovery.{IsStored, committed_map}
use Rattle.engine.specs.StandsFor.{StandsFor}
use Rattle.engine.specs.declared.engine.Engine.{Engine}

reached_opened : (map : KeyMap) (used count : ℕ) → IsMap map → IsReached (opened map used count)
reached_opened map used count h = record { contents = map; sectors_used = used; sectors = count; inputs = []; is_map = h; is = refl }

opened_stands : {D : Type 0} {g : Ghosts D} (e : Engine D g) (map : KeyMap) (used count : ℕ) → is_log_stopped e.log ≡ false → used ≡ used_sectors e.log
    → sector_count e.log ≡ count → HistoryStandsFor e.history (λ _. true) map [] → IsEmpty e.history.committed.facts
    → KeepsLittle e.history.committed → e.running.entries ≡ [] → e.begins ≡ None → (g.keeps_model → IsStored e.log map) → StandsFor e (opened map used count)
opened_stands e map used count running taken size h facts little none forgets stored =
    let gathered = gathered_none e.begins e.running.entries forgets in grind (arith, common_steps, reached_opened, both_ways)

pub returns-in-Ok-over-clause-finds : goal.returns-in-Ok-over-clause-finds
returns-in-Ok-over-clause-finds g c keeps =
    let finds = c.in-Ok.ensures.finds keeps in
    record {
      found = λ disk lists long reads image.
          let s = finds.found disk lists long reads image in
          opened_stands _ (map_after [] lists) (2 + span lists) _ c.in-Ok.ensures.runs.running (omega (arith, s.0.gate)) c.in-Ok.ensures.runs.size
          (rw (← s.1) c.in-Ok-over.ensures.stands) c.in-Ok-over.ensures.empty c.in-Ok-over.ensures.little c.new.ensures.empty c.none.ensures
          (λ k. record { lists = lists; stands = s.0; makes = refl });
      damaged = finds.damaged;
      no_log = finds.no_log;
      older = finds.older;
      undamaged = finds.undamaged;
    }

-- whichever state it stands for, the map that has committed is the one that was opened
committed_first : {D : Type 0} {g : Ghosts D} (e : Engine D g) (map : KeyMap) (m : State) → HistoryStandsFor e.history (λ _. true) map [] → StandsFor e m
    → map ≡ committed_map m
committed_first e map m over h =
    let n = length m.history in
    let sees = or_right (h.active n) (nat_le e.history.versions.last n) (le-leb e.history.versions.last n h.history.versions.within) in
    sym (over.versions.maps n refl) ∙ h.history.versions.maps n sees

pub returns-in-Ok-over-clause-opens : goal.returns-in-Ok-over-clause-opens
returns-in-Ok-over-clause-opens g c = record {
  map = c.in-Ok.opened.1;
  used = used_sectors c.in-Ok.opened.0;
  stands = opened_stands _ c.in-Ok.opened.1 _ _ c.in-Ok.ensures.runs.running refl c.in-Ok.ensures.runs.size c.in-Ok-over.ensures.stands
      c.in-Ok-over.ensures.empty c.in-Ok-over.ensures.little c.new.ensures.empty c.none.ensures
      (λ keeps. let s = c.in-Ok.ensures.stands keeps in record { lists = s.0; stands = s.1; makes = sym s.2 });
  idle = λ m h. nil_from_length m.running (AllZip-long _ _ m.running h.running ∙ ap length c.new.ensures.empty);
  looked_at = refl;
  in_bounds = λ m h. subst IsInBounds (committed_first _ c.in-Ok.opened.1 m c.in-Ok-over.ensures.stands h) c.over.ensures.in_bounds;
}
