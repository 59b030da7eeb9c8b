-- What the calls of a script do.
use Rattle.std.specs.Io.BufRead.{first_piece, drop_through}
use Rattle.std.specs.Io.KnownBytes.{Appends}
use Rattle.std.specs.Prelude.{◌≡◌, ◌≢◌, ℕ, ◌+◌, Bool, true, false, List, [], ◌++◌, length, Option, Some, None, IfSome}
use Rattle.std.specs.Prelude.{Result, Ok, Err, IfOk, MatchResult}
use Rattle.model.specs.Map.{Bytes}
use Rattle.sector.specs.declared.device.Sectors.{Ghosts}
use Rattle.sessions.specs.SessionStreams.{HubState, Serves, Head, IsPossible, hub_step, stream_of}
use Rattle.sessions.specs.StandsFor.{StandsFor, status_in}
use Rattle.sessions.specs.declared.hub.Hub.{Hub}
use Rattle.scripts.specs.Lines.{ScriptLine, IsLine, lines_of}
use Rattle.scripts.specs.Transcript.{Scene, granted, labelled_session, with_label, IsLabelTooMany, AppendsPart}
use Rattle.scripts.specs.Transcript.{PrintsIn, TextPrints, Transcript, IsBadLine, NamesOneTooMany}
use Rattle.scripts.specs.declared.faults.ScriptFault.{ScriptFault}
use Rattle.scripts.specs.declared.faults.ScriptFault.TheVariants.{BadLine, Crowded, File, Log, Memory}
use Rattle.scripts.specs.declared.playing.Script.{Script}

-- the code's script is at this scene
pub record IsAtScene {D : Type 0} {g : Ghosts D} (script : Script D g) (scene : Scene) : Type 0 where
  pub hub : StandsFor script.hub scene.hub
  pub labels : script.labels.items ≡ scene.labels

-- it is so for each scene that the code's script is at
abbrev pub AtScene : {D : Type 0} {g : Ghosts D} → Script D g → (Scene → Type 0) → Type 0
AtScene script So = (scene : Scene) → IsAtScene script scene → So scene

-- the first line was read without its end, and what is behind it is left; or there was none
abbrev pub ReadsLine : Bytes → Bool → Bytes → Option Bytes → Type 0
ReadsLine script true text left =
    (script ≢ []) × (text ≡ first_piece 10 script) × (left ≡ Some (drop_through 10 script))
ReadsLine script false text left = script ≡ []

-- a line of a reader was read, where the bytes that it has left are known
abbrev pub ReadsNext : Option Bytes → Result Bool ScriptFault → Bytes → Option Bytes → Type 0
ReadsNext known result text left = IfSome known (λ script. IfOk result (λ some. ReadsLine script some text left))

-- the session of a label was found, or there is no place for one more
abbrev pub FindsLabel : {D : Type 0} {g : Ghosts D} → Scene → ℕ → Option ℕ → Script D g → Type 0
FindsLabel old label (Some s) script =
    (s ≡ labelled_session old.labels label) × (IsLabelTooMany old label → ⊥) × IsAtScene script (with_label old label)
FindsLabel old label None script = IsLabelTooMany old label × IsAtScene script old

-- it was looked for: memory may be refused where it has a place
abbrev pub LooksUp : {D : Type 0} {g : Ghosts D} → Scene → ℕ → Result (Option ℕ) ScriptFault → Script D g → Type 0
LooksUp old label result script =
    MatchResult result (λ found. FindsLabel old label found script)
    (λ fault. (fault ≡ Memory) × (IsLabelTooMany old label → ⊥))

-- a request of the session was served, where memory was granted
pub record ServesRequest {D : Type 0} {g : Ghosts D} (hub : Hub D g) (old : HubState) (s : ℕ) : Type 0 where
  pub head : Head
  pub failed : Bool
  pub possible : IsPossible old (Serves s) (granted head failed)
  pub stands : StandsFor hub (hub_step old (Serves s) (granted head failed)).0

-- or memory was refused
abbrev pub ServesOrNot : {D : Type 0} {g : Ghosts D} → HubState → ℕ → Result (Unit {0}) ScriptFault → Hub D g → Type 0
ServesOrNot old s result hub = MatchResult result (λ _. ServesRequest hub old s) (λ fault. fault ≡ Memory)

-- the bytes were written, or a beginning of them was and the writer failed
abbrev pub WritesOrFails : Bytes → Result (Unit {0}) ScriptFault → Option Bytes → Option Bytes → Type 0
WritesOrFails bytes result before after =
    MatchResult result (λ _. Appends before after bytes) (λ fault. (fault ≡ File) × AppendsPart before after bytes)

-- a line, and what it printed behind what the writer held
pub record Answers {D : Type 0} {g : Ghosts D} (script : Script D g) (before after : Option Bytes) (Prints : Scene
    → Bytes → Type 0) : Type 0 where
  pub scene : Scene
  pub printed : Bytes
  pub at : IsAtScene script scene
  pub prints : Prints scene printed
  pub appends : Appends before after printed

-- of what a line prints, a beginning was written
pub record PrintsPart (before after : Option Bytes) (Prints : Scene → Bytes → Type 0) : Type 0 where
  pub scene : Scene
  pub part : Bytes
  pub rest : Bytes
  pub prints : Prints scene (part ++ rest)
  pub appends : Appends before after part

-- why a line was not answered: the writer failed, or memory was refused before anything was printed
abbrev pub Ends : ScriptFault → Option Bytes → Option Bytes → (Scene → Bytes → Type 0) → Type 0
Ends File before after Prints = PrintsPart before after Prints
Ends Memory before after Prints = after ≡ before
Ends other before after Prints = ⊥

-- a line of this session was answered, or why it was not
abbrev pub RunsLine : {D : Type 0} {g : Ghosts D} → Scene → ℕ → ScriptLine → Result (Unit {0}) ScriptFault → Script D g
    → Option Bytes → Option Bytes → Type 0
RunsLine here s line result script before after =
    let Prints : Scene → Bytes → Type 0 = PrintsIn (status_in (stream_of here.hub s)) here s line in
    MatchResult result (λ _. Answers script before after Prints) (λ fault. Ends fault before after Prints)

-- the text is a line of a session that there is or that has a place
abbrev pub IsGood : Scene → Bytes → Type 0
IsGood scene text = (line : ScriptLine) × IsLine text line × (IsLabelTooMany scene line.label → ⊥)

-- the text of a line of this number was run, or why it was not
abbrev pub RunsText : {D : Type 0} {g : Ghosts D} → Scene → ℕ → Bytes → Result (Unit {0}) ScriptFault → Script D g
    → Option Bytes → Option Bytes → Type 0
RunsText old number text (Ok done) script before after = Answers script before after (TextPrints old text)
RunsText old number text (Err (BadLine n)) script before after = (n ≡ number) × IsBadLine old text × (after ≡ before)
RunsText old number text (Err (Crowded n)) script before after = (n ≡ number) × NamesOneTooMany old text
    × (after ≡ before)
RunsText old number text (Err Memory) script before after = IsGood old text × (after ≡ before)
RunsText old number text (Err File) script before after = PrintsPart before after (TextPrints old text)
RunsText old number text (Err (Log fault)) script before after = ⊥

-- some lines were run, and the others are still to be read
pub record RunSoFar {D : Type 0} {g : Ghosts D} (first : Scene) (texts : List Bytes) (number : ℕ) (script : Script D g)
    (left : Option Bytes) (before after : Option Bytes) : Type 0 where
  pub done : List Bytes
  pub rest : Bytes
  pub left_is : left ≡ Some rest
  pub texts_are : texts ≡ done ++ lines_of rest
  pub number_is : number ≡ length done + 1
  pub scene : Scene
  pub printed : Bytes
  pub at : IsAtScene script scene
  pub so_far : Transcript first done scene printed
  pub appends : Appends before after printed
