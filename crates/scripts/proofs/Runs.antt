-- A script's lines, one after the other.
use Rattle.std.proofs.Common.{◌≡◌, ◌≢◌, ℕ, ◌+◌, true, false, List, [], ◌∷◌, ◌++◌, Option, Some, None, Result, Ok, Err}
use Rattle.std.proofs.Common.{refl, sym, ap, subst, ◌∙◌, append_assoc, arith, length-append, inl, inr}
use Rattle.std.proofs.lemmas.List.{append-nil}
use Rattle.std.specs.Io.BufRead.{drop_through}
use Rattle.std.specs.Io.KnownBytes.{Appends, Keeps}
use Rattle.std.specs.Prelude.{IfSome, IsErrAnd, ◌⊎◌}
use Rattle.model.specs.Map.{Bytes}
use Rattle.sector.specs.declared.device.Sectors.{Ghosts}
use Rattle.sessions.specs.Laws.{IsLawful}
use Rattle.sessions.specs.SessionStreams.{HubState}
use Rattle.sessions.specs.StandsFor.{StandsFor}
use Rattle.scripts.proofs.Texts.{first_of_lines}
use Rattle.scripts.specs.Calls.{IsAtScene, ReadsLine, RunsText, RunsLine, RunSoFar}
use Rattle.scripts.specs.Faults.{IsFromReading, IsOpening}
use Rattle.scripts.specs.Lines.{ScriptLine, IsLine, lines_of}
use Rattle.scripts.specs.Transcript.{Scene, Transcript, Begun, Continued, IsLabelTooMany, LinePrints, TextPrints}
use Rattle.scripts.specs.Transcript.{RunsSome, Plays, labelled_session, with_label}
use Rattle.scripts.specs.declared.faults.ScriptFault.{ScriptFault}
use Rattle.scripts.specs.declared.faults.ScriptFault.TheVariants.{BadLine, Crowded, File, Log, Memory}
use Rattle.scripts.specs.declared.playing.Script.{Script}

pub lift : {A : Type 0} (o : Option A) (P Q : A → Type 0) → ((x : A) → P x → Q x) → IfSome o P → IfSome o Q
lift None P Q by p = tt
lift (Some x) P Q by p = by x p

pub err_is : {A E : Type 0} (r : Result A E) (e : E) → IsErrAnd r (λ x. x ≡ e) → r ≡ Err e
err_is (Ok x) e is = absurd is
err_is (Err x) e is = ap (λ y. Err y) is

pub always : {A : Type 0} (o : Option A) (P : A → Type 0) → ((x : A) → P x) → IfSome o P
always None P by = tt
always (Some x) P by = by x

pub appends_nothing : (held : Option Bytes) → Appends held held []
appends_nothing None = tt
appends_nothing (Some xs) = sym (append-nil xs)

pub appends_then : (a b c : Option Bytes) (p q : Bytes) → Appends a b p → Appends b c q → Appends a c (p ++ q)
appends_then None b c p q first then = tt
appends_then (Some xs) None c p q first then = absurd first
appends_then (Some xs) (Some ys) None p q first then = absurd then
appends_then (Some xs) (Some ys) (Some zs) p q first then = then ∙ ap (λ l. l ++ q) first ∙ append_assoc xs p q

none_run : (first : Scene) (texts : List Bytes) → RunsSome first texts []
none_run first texts = record { before = []; behind = texts; texts_are = refl; scene = first; so_far = Begun }

-- known bytes that stay
pub keeps_on : (a b c : Option Bytes) (p : Bytes) → Appends a b p → Keeps b c → Appends a c p
keeps_on None b c p first then = tt
keeps_on (Some xs) None c p first then = absurd first
keeps_on (Some xs) (Some ys) None p first then = absurd then
keeps_on (Some xs) (Some ys) (Some zs) p first then = then ∙ first

module _ {D : Type 0} {g : Ghosts D} (first : Scene) where
  pub run_none : (script : Script D g) (left held : Option Bytes) → IsAtScene script first
      → IfSome left (λ xs. RunSoFar first (lines_of xs) 1 script left held held)
  run_none script None held at = tt
  run_none script (Some xs) held at = record {
    done = [];
    rest = xs;
    left_is = refl;
    texts_are = refl;
    number_is = refl;
    scene = first;
    printed = [];
    at = at;
    so_far = Begun;
    appends = appends_nothing held;
  }

  module _ (texts : List Bytes) (number : ℕ) (script : Script D g) (left before held : Option Bytes) (r : RunSoFar first texts number script left before held)
    where
      some_run : RunsSome first texts r.printed
      some_run = record { before = r.done; behind = lines_of r.rest; texts_are = r.texts_are; scene = r.scene; so_far = r.so_far }

      -- the next line was not read
      pub run_unread : (fault : ScriptFault) → IsFromReading fault → Plays first texts (Err fault) before held
      run_unread (BadLine n) from = absurd from
      run_unread (Crowded n) from = absurd from
      run_unread (Log fault) from = absurd from
      run_unread Memory from = (r.printed, some_run, r.appends)
      run_unread File from = (r.printed, inl some_run, r.appends)

      -- no line is left
      pub run_ends : (text : Bytes) (left' : Option Bytes) → IfSome left (λ xs. ReadsLine xs false text left')
          → ((h : HubState) → StandsFor script.hub h → IsLawful h) → Plays first texts (Ok tt) before held
      run_ends text left' reads lawful =
          let none : r.rest ≡ [] = subst (λ (o : Option Bytes). IfSome o (λ xs. ReadsLine xs false text left')) r.left_is reads in
          let all : texts ≡ r.done = r.texts_are ∙ ap (λ xs. r.done ++ lines_of xs) none ∙ append-nil r.done in
          (r.printed, r.scene, subst (λ ts. Transcript first ts r.scene r.printed) (sym all) r.so_far, lawful r.scene.hub r.at.hub, r.appends)

      module _ (text : Bytes) (left' : Option Bytes) (reads : IfSome left (λ xs. ReadsLine xs true text left')) where
        line_read : ReadsLine r.rest true text left'
        line_read = subst (λ (o : Option Bytes). IfSome o (λ xs. ReadsLine xs true text left')) r.left_is reads

        abbrev behind : Bytes
        behind = drop_through 10 r.rest

        texts_split : texts ≡ r.done ++ text ∷ lines_of behind
        texts_split = r.texts_are ∙ ap (λ ls. r.done ++ ls) (first_of_lines r.rest line_read.0 ∙ ap (λ t. t ∷ lines_of behind) (sym line_read.1))

        -- one line more was run
        pub run_more : (new : Script D g) (after : Option Bytes)
            → ((scene : Scene) → IsAtScene script scene → RunsText scene number text (Ok tt) new held after)
            → RunSoFar first texts (number + 1) new left' before after
        run_more new after runs =
            let answered = runs r.scene r.at in
            record {
              done = r.done ++ text ∷ [];
              rest = behind;
              left_is = line_read.2;
              texts_are = texts_split ∙ sym (append_assoc r.done (text ∷ []) (lines_of behind));
              number_is = let was = r.number_is in let long = length-append r.done (text ∷ []) in omega arith;
              scene = answered.scene;
              printed = r.printed ++ answered.printed;
              at = answered.at;
              so_far = Continued r.done r.scene r.printed text answered.scene answered.printed r.so_far answered.prints;
              appends = appends_then before held after r.printed answered.printed r.appends answered.appends;
            }

        -- a line was not run
        pub run_stops : (new : Script D g) (after : Option Bytes) (fault : ScriptFault)
            → ((scene : Scene) → IsAtScene script scene → RunsText scene number text (Err fault) new held after) → Plays first texts (Err fault) before after
        run_stops new after (BadLine n) runs =
            let why = runs r.scene r.at in (
              r.printed,
              record {
                before = r.done;
                text = text;
                behind = lines_of behind;
                texts_are = texts_split;
                number_is = why.0 ∙ r.number_is;
                scene = r.scene;
                so_far = r.so_far;
                why = why.1;
              },
              subst (λ held'. Appends before held' r.printed) (sym why.2) r.appends,
            )
        run_stops new after (Crowded n) runs =
            let why = runs r.scene r.at in (
              r.printed,
              record {
                before = r.done;
                text = text;
                behind = lines_of behind;
                texts_are = texts_split;
                number_is = why.0 ∙ r.number_is;
                scene = r.scene;
                so_far = r.so_far;
                why = why.1;
              },
              subst (λ held'. Appends before held' r.printed) (sym why.2) r.appends,
            )
        run_stops new after Memory runs =
            let why = runs r.scene r.at in
            (r.printed, some_run, subst (λ held'. Appends before held' r.printed) (sym why.1) r.appends)
        run_stops new after File runs =
            let why = runs r.scene r.at in (
              r.printed ++ why.part,
              inr (record {
                before = r.done;
                text = text;
                behind = lines_of behind;
                texts_are = texts_split;
                scene = r.scene;
                front = r.printed;
                so_far = r.so_far;
                new = why.scene;
                part = why.part;
                rest = why.rest;
                prints = why.prints;
                printed_is = refl;
              }),
              appends_then before held after r.printed why.part r.appends why.appends,
            )
        run_stops new after (Log fault) runs = absurd (runs r.scene r.at)

text_prints : (scene : Scene) (line : ScriptLine) (text : Bytes) → text ≢ [] → IsLine text line → (IsLabelTooMany scene line.label → ⊥)
    → (new : Scene) (printed : Bytes) → LinePrints scene line new printed → TextPrints scene text new printed
text_prints scene line [] some is place new printed prints = absurd (some refl)
text_prints scene line (byte ∷ bytes) some is place new printed prints = (line, is, place, prints)

-- a line of a session was run as its answer says
pub text_runs : {D : Type 0} {g : Ghosts D} (scene : Scene) (number : ℕ) (text : Bytes) (line : ScriptLine) (script : Script D g) (before after : Option Bytes)
    → text ≢ [] → IsLine text line → (IsLabelTooMany scene line.label → ⊥)
    → (r : Result (Unit {0}) ScriptFault) → RunsLine (with_label scene line.label) (labelled_session scene.labels line.label) line r script before after
    → RunsText scene number text r script before after
text_runs scene number text line script before after some is place (Ok done) answered = record {
  scene = answered.scene;
  printed = answered.printed;
  at = answered.at;
  prints = text_prints scene line text some is place answered.scene answered.printed answered.prints;
  appends = answered.appends;
}
text_runs scene number text line script before after some is place (Err (BadLine n)) ends = absurd ends
text_runs scene number text line script before after some is place (Err (Crowded n)) ends = absurd ends
text_runs scene number text line script before after some is place (Err (Log fault)) ends = absurd ends
text_runs scene number text line script before after some is place (Err Memory) ends = ((line, is, place), ends)
text_runs scene number text line script before after some is place (Err File) ends = record {
  scene = ends.scene;
  part = ends.part;
  rest = ends.rest;
  prints = text_prints scene line text some is place ends.scene (ends.part ++ ends.rest) ends.prints;
  appends = ends.appends;
}

-- a script that ended before its first line
pub unbegun : (first : Scene) (texts : List Bytes) (fault : ScriptFault) (held : Option Bytes) → IsOpening fault ⊎ IsFromReading fault
    → Plays first texts (Err fault) held held
unbegun first texts (BadLine n) held from = elim from [ inl e ↦ absurd e | inr e ↦ absurd e ]
unbegun first texts (Crowded n) held from = elim from [ inl e ↦ absurd e | inr e ↦ absurd e ]
unbegun first texts (Log fault) held from = appends_nothing held
unbegun first texts Memory held from = ([], none_run first texts, appends_nothing held)
unbegun first texts File held from = ([], inl (none_run first texts), appends_nothing held)

-- and one whose reader got no memory, or failed
pub unread : (A B : Type 0) (first : Scene) (texts : List Bytes) (r : Result (Unit {0}) ScriptFault) (held : Option Bytes)
    → IsErrAnd r (λ fault. (A × (fault ≡ Memory)) ⊎ (B × (fault ≡ File))) → Plays first texts r held held
unread A B first texts (Ok done) held is = absurd is
unread A B first texts (Err fault) held is =
    unbegun first texts fault held (inr (elim is [ inl m ↦ subst IsFromReading (sym m.1) tt | inr f ↦ subst IsFromReading (sym f.1) tt ]))
