-- What was called of a file before a device stands over it.
use Rattle.std.specs.IoError.{error_kind}
use Rattle.std.specs.Prelude.{◌≡◌, ◌≢◌, ◌⊎◌, ℕ, ◌*◌, ◌%◌, true, List, replicate}
use Rattle.std.specs.declared.io.Error.{Error}
use Rattle.std.specs.declared.io.ErrorKind.TheVariants.{InvalidData}
use Rattle.file_calls.specs.HappenedCalls.{WasAnswered, WasMade, WasOpened, WasOpenedToRead, WasWritten, WasSynced}
use Rattle.file_calls.specs.HappenedCalls.{HadLength, HadNameSynced}
use Rattle.file_calls.specs.OpenFacts.{file_after_call}
use Rattle.file_calls.specs.declared.counted.CountedFile.{CountedFile}
use Rattle.file_calls.specs.declared.opened.OpenedFile.{OpenedFile}

-- A new file was made under this name, so many sectors of zeros were written to it, by one call, and synced by the
-- next; its directory was synced, and nothing else was called of it.
pub record WasMadeOfZeros (path : List ℕ) (count : ℕ) (now : CountedFile) : Type 0 where
  pub first : CountedFile
  pub size : first.sectors ≡ count
  pub none_before : first.calls ≡ 0
  pub made : WasMade first.file path
  pub zeros : WasWritten first 0 (replicate (count * 512) 0) true
  pub settled : WasSynced (file_after_call first) true
  pub name : HadNameSynced first.file path
  pub now_is : now ≡ file_after_call (file_after_call first)

-- its length is that of its sectors, and it wasn't read, written or synced yet
pub record IsNewlyOpened (now : CountedFile) : Type 0 where
  pub none_before : now.calls ≡ 0
  pub length : HadLength now.file (now.sectors * 512)

-- the file of this name was opened to be read and written, and its directory was synced
pub record WasOpenedWhole (path : List ℕ) (now : CountedFile) : Type 0 where
  pub whole : IsNewlyOpened now
  pub opened : WasOpened now.file path
  pub name : HadNameSynced now.file path

-- the file of this name was opened to be read alone
pub record WasOpenedWholeToRead (path : List ℕ) (now : CountedFile) : Type 0 where
  pub whole : IsNewlyOpened now
  pub opened : WasOpenedToRead now.file path

-- its length is no number of whole sectors
pub record IsNotWhole (file : OpenedFile) : Type 0 where
  pub bytes : ℕ
  pub length : HadLength file bytes
  pub rest : bytes % 512 ≢ 0

-- why no device was opened: the system answered this error, or the file that was opened so isn't whole, and the error
-- is `InvalidData`
abbrev pub WhyNotOpened : (OpenedFile → Type 0) → Error → Type 0
WhyNotOpened WasIt error =
    WasAnswered error ⊎ ((file : OpenedFile) × WasIt file × IsNotWhole file × (error_kind error ≡ InvalidData))
