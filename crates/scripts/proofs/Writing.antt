-- What a writer took so far.
use Rattle.std.proofs.Common.{◌≡◌, ℕ, [], ◌++◌, take, drop, Option, refl, sym, ap, ◌∙◌, append_assoc}
use Rattle.std.proofs.lemmas.List.{take-append-drop}
use Rattle.std.specs.Io.KnownBytes.{Appends, Keeps}
use Rattle.model.specs.Map.{Bytes}
use Rattle.scripts.proofs.Runs.{appends_nothing, appends_then, keeps_on}

-- it took the first bytes, and `rest` is left
abbrev pub Written : Option Bytes → Option Bytes → Bytes → Bytes → Type 0
Written old new bytes rest = (part : Bytes) × (bytes ≡ part ++ rest) × Appends old new part

pub written_none : (held : Option Bytes) (bytes : Bytes) → Written held held bytes bytes
written_none held bytes = ([], refl, appends_nothing held)

-- it took more of them
pub written_more : (a b c : Option Bytes) (bytes rest left : Bytes) (n : ℕ) → left ≡ drop n rest → Appends b c (take n rest) → Written a b bytes rest
    → Written a c bytes left
written_more a b c bytes rest left n is more w = (
  w.0 ++ take n rest,
  w.1 ∙ ap (λ l. w.0 ++ l) (sym (take-append-drop n rest)) ∙ sym (append_assoc w.0 (take n rest) (drop n rest)) ∙ ap (λ l. w.0 ++ take n rest ++ l) (sym is),
  appends_then a b c w.0 (take n rest) w.2 more,
)

-- it took none
pub written_kept : (a b c : Option Bytes) (bytes rest : Bytes) → Keeps b c → Written a b bytes rest → Written a c bytes rest
written_kept a b c bytes rest kept w = (w.0, w.1, keeps_on a b c w.0 w.2 kept)
