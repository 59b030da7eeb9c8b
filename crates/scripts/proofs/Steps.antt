-- The events of a script, and what they leave to choose.
use Rattle.std.proofs.Common.{◌≡◌, ◌≢◌, ℕ, false, refl, ap}
use Rattle.model.specs.Map.{Bytes}
use Rattle.sessions.specs.Calls.{is_memory}
use Rattle.sessions.specs.SessionStreams.{HubState, Joins, Receives, Sends, More, Choice, join, hub_step}
use Rattle.sessions.specs.declared.events.Outcome.{Outcome}
use Rattle.sessions.specs.declared.events.Outcome.TheVariants.{Done, Unknown, Crowded, Idle, NoRoom, BadCount, Memory}
use Rattle.scripts.specs.Transcript.{granted}

pub receives_alike : (h : HubState) (s : ℕ) (piece : Bytes) (c d : Choice) → hub_step h (Receives s piece) c ≡ hub_step h (Receives s piece) d
unfolding hub_step
receives_alike h s piece c d = refl

pub sends_alike : (h : HubState) (s n : ℕ) (c d : Choice) → hub_step h (Sends s n) c ≡ hub_step h (Sends s n) d
unfolding hub_step
sends_alike h s n c d = refl

pub joins_alike : (h : HubState) (s : ℕ) (c : Choice) → c.refused ≡ false → hub_step h (Joins s) c ≡ hub_step h (Joins s) (granted More false)
unfolding hub_step
joins_alike h s c e = ap (λ r. join h s r) e

pub granted_is : (c : Choice) → c.refused ≡ false → c ≡ granted c.head c.failed
granted_is c e = ap (λ r. record { head = c.head; refused = r; failed = c.failed }) e

pub not_memory : (o : Outcome) → o ≢ Memory → is_memory o ≡ false
not_memory Done other = refl
not_memory Unknown other = refl
not_memory Crowded other = refl
not_memory Idle other = refl
not_memory NoRoom other = refl
not_memory BadCount other = refl
not_memory Memory other = absurd (other refl)
