-- What a change of a value leaves of what numbers see of it.
use Rattle.std.specs.Prelude.{◌≡◌, ℕ, ◌<◌, ◌≤◌, Bool, true, List, not}
use Rattle.sorted_pages.specs.Held.{is_among}

-- every number sees of the new value what it saw of the old one
pub record IsSeenAlike {X : Type 0} (hides : ℕ → X → Bool) (shows : X → Bool) (last : X
    → ℕ) (old new : X) : Type 0 where
  pub each : (n : ℕ) → hides n new ≡ hides n old
  pub newest : shows new ≡ shows old
  pub latest : last new ≡ last old

-- the value has changed with number n, and numbers below see what they saw
pub record IsChangedAt {X : Type 0} (hides : ℕ → X → Bool) (last : X → ℕ) (n : ℕ) (old new : X) : Type 0 where
  pub before : (m : ℕ) → m < n → hides m new ≡ hides m old
  pub latest : last new ≡ n

-- these numbers, and those from the last change on, see of the new value what they saw of the old one
pub record IsTrimmed {X : Type 0} (hides : ℕ → X → Bool) (shows : X → Bool) (last : X
    → ℕ) (ns : List ℕ) (old new : X) : Type 0 where
  pub among : (n : ℕ) → is_among ns n ≡ true → hides n new ≡ hides n old
  pub after : (n : ℕ) → last old ≤ n → hides n new ≡ hides n old
  pub newest : shows new ≡ shows old
  pub latest : last new ≡ last old

-- the value came with its last change: numbers below see nothing of it
abbrev pub IsFresh : {X : Type 0} → (ℕ → X → Bool) → (X → ℕ) → X → Type 0
IsFresh hides last v = (n : ℕ) → n < last v → hides n v ≡ true

-- the value's last change came with n or before: from n on, numbers see something of it where it shows
pub record IsOver {X : Type 0} (hides : ℕ → X → Bool) (shows : X → Bool) (last : X → ℕ) (n : ℕ) (v : X) : Type 0 where
  pub late : last v ≤ n
  pub after : (m : ℕ) → n ≤ m → hides m v ≡ not (shows v)

-- the value came with its last change, with number n or after
pub record IsNewFrom {X : Type 0} (hides : ℕ → X → Bool) (last : X → ℕ) (n : ℕ) (v : X) : Type 0 where
  pub fresh : IsFresh hides last v
  pub late : n ≤ last v
