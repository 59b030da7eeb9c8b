-- What a script prints: a run of the sessions over a store of its own.
use Rattle.std.specs.Io.KnownBytes.{Appends}
use Rattle.std.specs.Prelude.{◌≡◌, ◌≢◌, ℕ, ◌+◌, ◌≤◌, ◌==◌, Bool, false, List, [], ◌∷◌, ◌++◌, length, take, position}
use Rattle.std.specs.Prelude.{Option, Some, None, IfSome, Result, Ok, Err, ◌⊎◌}
use Rattle.model.specs.Machine.{opened}
use Rattle.model.specs.Map.{Bytes}
use Rattle.sessions.specs.Laws.{IsLawful}
use Rattle.sessions.specs.SessionStreams.{HubState, HubEvent, Joins, Receives, Serves, Sends, Head, More, Choice}
use Rattle.sessions.specs.SessionStreams.{IsPossible, hub_over, hub_step, stream_of}
use Rattle.sessions.specs.StandsFor.{status_in, room_in, pending_in}
use Rattle.sessions.specs.declared.events.Status.{Status}
use Rattle.sessions.specs.declared.events.Status.TheVariants.{Open}
use Rattle.scripts.specs.Lines.{ScriptLine, IsLine, IsNoLine, frame_of, lines_of, printed_line}
use Rattle.scripts.specs.declared.faults.ScriptFault.{ScriptFault}
use Rattle.scripts.specs.declared.faults.ScriptFault.TheVariants.{BadLine, Crowded, File, Log, Memory}

-- a script under way: its sessions, and the labels that have come, each once. The session of a label is its place
pub record Scene : Type 0 where
  pub hub : HubState
  pub labels : List ℕ

-- no line was read: an empty store over a device of so many sectors
abbrev pub opening : ℕ → Scene
opening sectors = record { hub = hub_over (opened [] 2 sectors); labels = [] }

-- what is chosen where memory is granted
abbrev pub granted : Head → Bool → Choice
granted head failed = record { head = head; refused = false; failed = failed }

-- the state after an event that leaves nothing else to choose
abbrev pub hub_after : HubState → HubEvent → HubState
hub_after h e = (hub_step h e (granted More false)).0

-- ---- labels

abbrev pub place_of : List ℕ → ℕ → Option ℕ
place_of labels label = position (λ known. known == label) labels

abbrev pub session_or_next : Option ℕ → List ℕ → ℕ
session_or_next (Some s) labels = s
session_or_next None labels = length labels

-- the session of a label: its place, or the next one
abbrev pub labelled_session : List ℕ → ℕ → ℕ
labelled_session labels label = session_or_next (place_of labels label) labels

-- a session joins for a label that is new
abbrev pub welcome : Option ℕ → Scene → ℕ → Scene
welcome (Some s) scene label = scene
welcome None scene label =
    record { hub = hub_after scene.hub (Joins (length scene.labels)); labels = scene.labels ++ label ∷ [] }

abbrev pub with_label : Scene → ℕ → Scene
with_label scene label = welcome (place_of scene.labels label) scene label

-- the label is new, and 128 have come
abbrev pub IsLabelTooMany : Scene → ℕ → Type 0
IsLabelTooMany scene label = (place_of scene.labels label ≡ None) × (128 ≤ length scene.labels)

-- ---- requests

-- a frame comes in, as far as the inbox takes it
abbrev pub received : HubState → ℕ → Bytes → HubState
received h s frame = hub_after h (Receives s (take (room_in (stream_of h s)) frame))

-- one request is served, by what the grammar finds in the inbox; the device may have failed in it. The reply is sent
pub record ServesReply (s : ℕ) (old new : HubState) (reply : Bytes) : Type 0 where
  pub head : Head
  pub failed : Bool
  pub possible : IsPossible old (Serves s) (granted head failed)
  pub reply_is : reply ≡ pending_in (stream_of (hub_step old (Serves s) (granted head failed)).0 s)
  pub new_is : new ≡ hub_after (hub_step old (Serves s) (granted head failed)).0 (Sends s (length reply))

-- a session that is open is answered, and for another nothing is printed
abbrev pub PrintsIn : Status → Scene → ℕ → ScriptLine → Scene → Bytes → Type 0
PrintsIn Open here s line new printed =
    (reply : Bytes) × ServesReply s (received here.hub s (frame_of line.words)) new.hub reply
    × (new.labels ≡ here.labels)
    × (printed ≡ printed_line line.label reply)
PrintsIn other here s line new printed = (new ≡ here) × (printed ≡ [])

abbrev pub LinePrints : Scene → ScriptLine → Scene → Bytes → Type 0
LinePrints old line new printed =
    let here = with_label old line.label in
    let s = labelled_session old.labels line.label in
    PrintsIn (status_in (stream_of here.hub s)) here s line new printed

-- ---- scripts

-- a text without its line's end: an empty one is skipped, and another is a line of a label that has a session or gets
-- one
abbrev pub TextPrints : Scene → Bytes → Scene → Bytes → Type 0
TextPrints old [] new printed = (new ≡ old) × (printed ≡ [])
TextPrints old (byte ∷ bytes) new printed =
    (line : ScriptLine) × IsLine (byte ∷ bytes) line × (IsLabelTooMany old line.label → ⊥)
    × LinePrints old line new printed

-- what texts print, one after the other
pub data Transcript (first : Scene) : List Bytes → Scene → Bytes → Type 0 where
  Begun : Transcript first [] first []
  Continued : (texts : List Bytes) (mid : Scene) (printed : Bytes) (text : Bytes) (last : Scene) (more : Bytes)
      → Transcript first texts mid printed → TextPrints mid text last more
      → Transcript first (texts ++ text ∷ []) last (printed ++ more)

-- why no more than these texts were run: the next one, whose number this is
abbrev pub IsBadLine : Scene → Bytes → Type 0
IsBadLine scene text = (text ≢ []) × IsNoLine text

abbrev pub NamesOneTooMany : Scene → Bytes → Type 0
NamesOneTooMany scene text = (line : ScriptLine) × IsLine text line × IsLabelTooMany scene line.label

pub record StopsAt (first : Scene) (texts : List Bytes) (number : ℕ) (printed : Bytes) (Why : Scene → Bytes
    → Type 0) : Type 0 where
  pub before : List Bytes
  pub text : Bytes
  pub behind : List Bytes
  pub texts_are : texts ≡ before ++ text ∷ behind
  pub number_is : number ≡ length before + 1
  pub scene : Scene
  pub so_far : Transcript first before scene printed
  pub why : Why scene text

-- a beginning of the bytes was appended
abbrev pub AppendsPart : Option Bytes → Option Bytes → Bytes → Type 0
AppendsPart old new bytes = (part : Bytes) × (rest : Bytes) × (bytes ≡ part ++ rest) × Appends old new part

-- so many of the first texts were run, and this is what they print
pub record RunsSome (first : Scene) (texts : List Bytes) (printed : Bytes) : Type 0 where
  pub before : List Bytes
  pub behind : List Bytes
  pub texts_are : texts ≡ before ++ behind
  pub scene : Scene
  pub so_far : Transcript first before scene printed

-- and of what the next text prints, a beginning
pub record BreaksOff (first : Scene) (texts : List Bytes) (printed : Bytes) : Type 0 where
  pub before : List Bytes
  pub text : Bytes
  pub behind : List Bytes
  pub texts_are : texts ≡ before ++ text ∷ behind
  pub scene : Scene
  pub front : Bytes
  pub so_far : Transcript first before scene front
  pub new : Scene
  pub part : Bytes
  pub rest : Bytes
  pub prints : TextPrints scene text new (part ++ rest)
  pub printed_is : printed ≡ front ++ part

-- A script ends once all was printed, with sessions of which the laws hold; or before a line that is none or names one
-- session too many; or out of memory before some line, or where reading or writing fails, or before the first line
-- where the log fails.
abbrev pub Plays : Scene → List Bytes → Result (Unit {0}) ScriptFault → Option Bytes → Option Bytes → Type 0
Plays first texts (Ok done) before after =
    (printed : Bytes) × (last : Scene) × Transcript first texts last printed × IsLawful last.hub
    × Appends before after printed
Plays first texts (Err (BadLine number)) before after =
    (printed : Bytes) × StopsAt first texts number printed IsBadLine × Appends before after printed
Plays first texts (Err (Crowded number)) before after =
    (printed : Bytes) × StopsAt first texts number printed NamesOneTooMany × Appends before after printed
Plays first texts (Err Memory) before after =
    (printed : Bytes) × RunsSome first texts printed × Appends before after printed
Plays first texts (Err File) before after =
    (printed : Bytes) × (RunsSome first texts printed ⊎ BreaksOff first texts printed) × Appends before after printed
Plays first texts (Err (Log fault)) before after = Appends before after []

-- the bytes that a reader has left, if they are known, are played as a script
abbrev pub PlaysKnown : Scene → Option Bytes → Result (Unit {0}) ScriptFault → Option Bytes → Option Bytes → Type 0
PlaysKnown first known result before after = IfSome known (λ script. Plays first (lines_of script) result before after)
