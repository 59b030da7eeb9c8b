-- What a reader of commands answers, measured by the table of commands.
use Rattle.std.specs.Prelude.{◌≡◌, Result, Ok, Err}
use Rattle.model.specs.declared.refusals.Refusal.{Refusal}

-- what a function answered, seen by view, is what the table says
abbrev pub Means : {X Y : Type 0} → (X → Y) → Result X Refusal → Result Y Refusal → Type 0
Means view (Ok x) meant = meant ≡ Ok (view x)
Means view (Err e) meant = meant ≡ Err e
