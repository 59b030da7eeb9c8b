-- The session of a label.
use Rattle.std.proofs.Common.{◌≡◌, ℕ, ◌∷◌, [], ◌++◌, length, Some, None, sym, ap, ◌∙◌}
use Rattle.sessions.specs.SessionStreams.{Joins}
use Rattle.scripts.specs.Transcript.{Scene, place_of, session_or_next, labelled_session, welcome, with_label}
use Rattle.scripts.specs.Transcript.{IsLabelTooMany, hub_after}

module _ (scene : Scene) (label : ℕ) where
  module _ (s : ℕ) (known : place_of scene.labels label ≡ Some s) where
    pub known_session : s ≡ labelled_session scene.labels label
    known_session = sym (ap (λ p. session_or_next p scene.labels) known)

    pub known_not_crowded : IsLabelTooMany scene label → ⊥
    known_not_crowded crowded = let bad : Some s ≡ None = sym known ∙ crowded.0 in cc

    pub known_scene : with_label scene label ≡ scene
    known_scene = ap (λ p. welcome p scene label) known

  module _ (fresh : place_of scene.labels label ≡ None) where
    pub fresh_session : length scene.labels ≡ labelled_session scene.labels label
    fresh_session = sym (ap (λ p. session_or_next p scene.labels) fresh)

    pub fresh_scene : with_label scene label ≡ record { hub = hub_after scene.hub (Joins (length scene.labels)); labels = scene.labels ++ label ∷ [] }
    fresh_scene = ap (λ p. welcome p scene label) fresh
