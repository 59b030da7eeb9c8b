-- What a client reads from the bytes that its session is sent.
use Rattle.std.specs.List.{AllByRecursion}
use Rattle.std.specs.Prelude.{◌≡◌, List, ◌++◌, All}
use Rattle.model.specs.Machine.{opened}
use Rattle.model.specs.Map.{Bytes}
use Rattle.model.specs.Operations.{Response}
use Rattle.resp.specs.Replies.{IsSendable, texts_of}
use Rattle.sessions.specs.Restarts.{Served}
use Rattle.sessions.specs.SessionStreams.{HubState, SessionStream, HubEvent, Choice, hub_over, replies_text, run}
use Rattle.sessions.specs.StandsFor.{Ghosts, Hub}

-- Each reply of the session can be sent. Replies whose texts begin its output, whatever follows, are the first of them,
-- and what follows is the texts of the others. Those whose texts are all of it are they.
pub record HasOneReading (st : SessionStream) : Type 0 where
  pub sendable : All IsSendable st.replies
  pub head : (read : List Response) (more : Bytes) → All IsSendable read → texts_of read ++ more ≡ replies_text st
      → (others : List Response) × (st.replies ≡ read ++ others) × (more ≡ texts_of others)
  pub whole : (read : List Response) → All IsSendable read → texts_of read ≡ replies_text st → read ≡ st.replies

-- so it is of each session that is present, and of each that has left
pub record HaveOneReading (h : HubState) : Type 0 where
  pub present : AllByRecursion (λ e. HasOneReading e.1) h.present
  pub gone : AllByRecursion (λ e. HasOneReading e.1) h.gone

-- and at each moment of a run since an opening
abbrev pub RunsHaveOneReading : {D : Type 0} {g : Ghosts D} → Hub D g → Type 0
RunsHaveOneReading {D} {g} hub =
    (served : Served hub) (es fs : List (HubEvent × Choice)) → served.choices ≡ es ++ fs
    → HaveOneReading (run (hub_over (opened served.start.map served.start.begins.used (g.size served.start.dev))) es)
