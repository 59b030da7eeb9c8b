-- What a call of a device over a file makes of the file.
use Rattle.std.specs.Prelude.{◌≡◌, Result}
use Rattle.file_calls.specs.OpenFacts.{file_after_call}
use Rattle.sector.specs.Counts.{IsCounted}
use Rattle.sector.specs.declared.file.FileSectors.{FileSectors}

-- It makes one call of the file, and counts whether it failed; and it is no sync.
pub record MakesOneCall {A E : Type 0} (old new : FileSectors) (result : Result A E) : Type 0 where
  pub syncs : new.syncs ≡ old.syncs
  pub failures : IsCounted result old.failures new.failures
  pub file : new.file ≡ file_after_call old.file
