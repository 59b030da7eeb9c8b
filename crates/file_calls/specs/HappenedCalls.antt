-- The calls that runs of the program really made of a file, the last argument saying whether the call succeeded. They
-- are left open, as the facts of a file are. The lemmas are to be cited only of the call that a proof is about, by the
-- answers in `proofs/` of this crate.
use Rattle.std.specs.Path.{path_parent}
use Rattle.std.specs.Prelude.{◌≡◌, ◌⊎◌, ◌<◌, ◌-◌, ◌^◌, ℕ, ℤ, pos, Bool, false, List, [], ◌∷◌, codes, Option, Some}
use Rattle.std.specs.Prelude.{None, Result, Ok, Err, IfErr, IsErr}
use Rattle.std.specs.declared.io.Error.{Error}
use Rattle.file_calls.specs.OpenFacts.{file_after_call}
use Rattle.file_calls.specs.declared.counted.CountedFile.{CountedFile}
use Rattle.file_calls.specs.declared.opened.OpenedFile.{OpenedFile}

-- a call of the system answered this error
pub WasAnswered : Error → Type 0
WasAnswered error = Unit {0}

-- it was made as a new file of this name, to be read and written
pub WasMade : OpenedFile → List ℕ → Type 0
WasMade file path = Unit {0}

-- the file of this name was opened, to be read and written
pub WasOpened : OpenedFile → List ℕ → Type 0
WasOpened file path = Unit {0}

-- the file of this name was opened to be read alone
pub WasOpenedToRead : OpenedFile → List ℕ → Type 0
WasOpenedToRead file path = Unit {0}

-- it was asked for its length, and had so many bytes
pub HadLength : OpenedFile → ℕ → Type 0
HadLength file bytes = Unit {0}

-- once it was open this directory was synced, and that succeeded
pub HadDirectorySynced : OpenedFile → List ℕ → Type 0
HadDirectorySynced file directory = Unit {0}

-- the system answered whether what this path names is a symbolic link
pub WasLink : List ℕ → Bool → Type 0
WasLink path is = Unit {0}

-- the system answered that a path leads to this one, in which no name is a symbolic link
pub ResolvesTo : List ℕ → List ℕ → Type 0
ResolvesTo path resolved = Unit {0}

abbrev pub or_here : Option (List ℕ) → List ℕ
or_here None = codes "."
or_here (Some []) = codes "."
or_here (Some (b ∷ bytes)) = b ∷ bytes

-- the directory in which a path names something: what stands before its last name, or the one that is worked in
abbrev pub directory_of : List ℕ → List ℕ
directory_of path = or_here (path_parent path)

-- once it was open the directory of this path was synced, and where the path is a symbolic link that of the file that
-- it leads to, and that succeeded
pub record HadNameSynced (file : OpenedFile) (path : List ℕ) : Type 0 where
  pub here : HadDirectorySynced file (directory_of path)
  pub there : WasLink path false
      ⊎ ((resolved : List ℕ) × ResolvesTo path resolved × HadDirectorySynced file (directory_of resolved))

-- the system was advised how so many bytes from this offset on will be read, 0 for all that follow, and answered this
pub WasAdvised : OpenedFile → ℤ → ℤ → ℤ → ℤ → Type 0
WasAdvised file offset len advice answer = Unit {0}

-- the system was asked to drop its copies of all pages (POSIX_FADV_DONTNEED, which Linux numbers 4), and agreed
abbrev pub HadCopiesDropped : OpenedFile → Type 0
HadCopiesDropped file = WasAdvised file (pos 0) (pos 0) (pos 4) (pos 0)

-- its next call read these bytes from this offset on
pub WasRead : CountedFile → ℕ → List ℕ → Bool → Type 0
WasRead file offset bytes ok = Unit {0}

-- its next call wrote these bytes from this offset on
pub WasWritten : CountedFile → ℕ → List ℕ → Bool → Type 0
WasWritten file offset bytes ok = Unit {0}

-- its next call was a sync
pub WasSynced : CountedFile → Bool → Type 0
WasSynced file ok = Unit {0}

-- it was closed, and none was made since its last call
pub WasClosed : CountedFile → Type 0
WasClosed file = Unit {0}

-- It was one call, and is counted. Where no more can be counted it fails without a call; else its error is the
-- system's.
pub record IsOneCall {A : Type 0} (old new : CountedFile) (result : Result A Error) : Type 0 where
  pub next : new ≡ file_after_call old
  pub over : old.calls ≡ 2 ^ 64 - 1 → IsErr result
  pub error : old.calls < 2 ^ 64 - 1 → IfErr result (λ e. WasAnswered e)

pub real_error : {A : Type 0} (answer : Result A Error) → IfErr answer (λ e. WasAnswered e)
unfolding WasAnswered
real_error (Ok a) = tt
real_error (Err e) = tt

pub real_make : (file : OpenedFile) (path : List ℕ) → WasMade file path
unfolding WasMade
real_make file path = tt

pub real_open : (file : OpenedFile) (path : List ℕ) → WasOpened file path
unfolding WasOpened
real_open file path = tt

pub real_open_to_read : (file : OpenedFile) (path : List ℕ) → WasOpenedToRead file path
unfolding WasOpenedToRead
real_open_to_read file path = tt

pub real_length : (file : OpenedFile) (bytes : ℕ) → HadLength file bytes
unfolding HadLength
real_length file bytes = tt

pub real_directory : (file : OpenedFile) (directory : List ℕ) → HadDirectorySynced file directory
unfolding HadDirectorySynced
real_directory file directory = tt

pub real_link : (path : List ℕ) (is : Bool) → WasLink path is
unfolding WasLink
real_link path is = tt

pub real_way : (path resolved : List ℕ) → ResolvesTo path resolved
unfolding ResolvesTo
real_way path resolved = tt

pub real_advice : (file : OpenedFile) (offset len advice answer : ℤ) → WasAdvised file offset len advice answer
unfolding WasAdvised
real_advice file offset len advice answer = tt

pub real_read : (file : CountedFile) (offset : ℕ) (bytes : List ℕ) (ok : Bool) → WasRead file offset bytes ok
unfolding WasRead
real_read file offset bytes ok = tt

pub real_write : (file : CountedFile) (offset : ℕ) (bytes : List ℕ) (ok : Bool) → WasWritten file offset bytes ok
unfolding WasWritten
real_write file offset bytes ok = tt

pub real_sync : (file : CountedFile) (ok : Bool) → WasSynced file ok
unfolding WasSynced
real_sync file ok = tt

pub real_close : (file : CountedFile) → WasClosed file
unfolding WasClosed
real_close file = tt
