-- What opening, making and closing a device over a file come to.
use Rattle.std.specs.Prelude.{◌≡◌, ℕ, List, true, false, Result, IfOk, MatchResult}
use Rattle.std.specs.declared.io.Error.{Error}
use Rattle.file_calls.specs.HappenedCalls.{WasClosed, WasOpened, WasOpenedToRead}
use Rattle.sector.specs.FileOpening.{WasMadeOfZeros, WasOpenedWhole, WasOpenedWholeToRead, WhyNotOpened}
use Rattle.sector.specs.declared.file.FileSectors.{FileSectors}

-- the file of this name was opened, to be read and written, or why not is known; behind its first sync the system's
-- copies of it are dropped
abbrev pub OpensFile : List ℕ → Result FileSectors Error → Type 0
OpensFile name result = MatchResult result (λ d. WasOpenedWhole name d.file
    × (d.drops_copies ≡ true)) (WhyNotOpened (λ f. WasOpened f name))

-- the file of this name was opened to be read alone, or why not is known; the system's copies of it stay
abbrev pub OpensFileToRead : List ℕ → Result FileSectors Error → Type 0
OpensFileToRead name result =
    MatchResult result (λ d. WasOpenedWholeToRead name d.file
    × (d.drops_copies ≡ false)) (WhyNotOpened (λ f. WasOpenedToRead f name))

-- so it was, but behind its first sync the system's copies of it are dropped
abbrev pub OpensFileToCheck : List ℕ → Result FileSectors Error → Type 0
OpensFileToCheck name result =
    MatchResult result (λ d. WasOpenedWholeToRead name d.file
    × (d.drops_copies ≡ true)) (WhyNotOpened (λ f. WasOpenedToRead f name))

-- a file of this name and of so many sectors of zeros was made
abbrev pub MakesFile : List ℕ → ℕ → Result FileSectors Error → Type 0
MakesFile name count result = IfOk result (λ d. WasMadeOfZeros name count d.file)

-- the file was closed, and nothing more is called of it
abbrev pub ClosesFile : FileSectors → Type 0
ClosesFile device = WasClosed device.file
