use Rattle.engine.proofs.records.reserve_and_append.Goals as goal
use Rattle.std.proofs.Common.{◌≡◌, ◌⊎◌, inl, inr, ℕ, List, [], ◌∷◌, ◌++◌, refl, ◌∙◌, rules}
use Rattle.model.specs.Map.{KeyMap, KeyWrite, after_writes}
use Rattle.sector.specs.declared.device.Sectors.{Ghosts}
use Rattle.commit_log.specs.LogState.{IsBeforeOrAfter}
use Rattle.commit_log.specs.Recovery.{map_after, map_after-push}
use Rattle.commit_log.specs.declared.log.Log.{Log}
use Rattle.engine.proofs.Committing.{weaker_crash}
use Rattle.engine.specs.Recovery.{HoldsMap, IsStored}

module _ {D : Type 0} {g : Ghosts D} (log : Log D g) (map : KeyMap) (ws us : List KeyWrite) (is : ws ≡ us) (h : IsStored log map) where
  makes_more : map_after [] (h.lists ++ ws ∷ []) ≡ after_writes map us
  makes_more = map_after-push [] h.lists ws ∙ (λ i. after_writes (h.makes i) (is i))

  before_or_after : (c : List (List ℕ)) → IsBeforeOrAfter h.lists ws c → HoldsMap c map ⊎ HoldsMap c (after_writes map us)
  before_or_after c (inl image) = inl (h.lists, image, h.makes)
  before_or_after c (inr image) = inr (h.lists ++ ws ∷ [], image, makes_more)

pub returns-clause-stored : goal.returns-clause-stored
returns-clause-stored g c keeps map h =
    record {
      lists = h.lists ++ c.entries.result.now ∷ [];
      stands = (c.in_ok-append_in_room.ensures.keeps keeps).added h.lists h.stands;
      makes = makes_more c.args.log.now map _ _ c.entries.ensures.writes h;
    }

pub returns-clause-crash : goal.returns-clause-crash
returns-clause-crash g c keeps map h =
    weaker_crash _ _ _ _ (IsBeforeOrAfter h.lists c.entries.result.now) _ (before_or_after c.args.log.now map _ _ c.entries.ensures.writes h)
    ((c.in_ok-append_in_room.ensures.keeps keeps).any_moment h.lists h.stands)

pub returns-in_err-append_in_room-clause-crash : goal.returns-in_err-append_in_room-clause-crash
returns-in_err-append_in_room-clause-crash g c keeps map h =
    weaker_crash _ _ _ _ (IsBeforeOrAfter h.lists c.entries.result.now) _ (before_or_after c.args.log.now map _ _ c.entries.ensures.writes h)
    ((c.in_err-append_in_room.ensures.keeps keeps).any_moment h.lists h.stands)

pub returns-in_err-append_in_room-clause-fails : goal.returns-in_err-append_in_room-clause-fails
returns-in_err-append_in_room-clause-fails g c = record {
  unchanged = search rules;
  stopped = search rules;
  left = λ is keeps map h. record {
    in_doubt = c.entries.result.now;
    holds = λ i left. before_or_after c.args.log.now map _ _ refl h i ((c.in_err-append_in_room.ensures.keeps keeps).left h.lists h.stands i left);
  };
}
