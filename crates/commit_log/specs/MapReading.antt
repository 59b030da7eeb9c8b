-- What reading the map of a log of either format finds.
use Rattle.std.specs.Prelude.{◌≡◌, ℕ, List, []}
use Rattle.model.specs.Map.{KeyMap, KeyWrite}
use Rattle.sector.specs.declared.device.Sectors.{Ghosts}
use Rattle.commit_log.specs.Format.{format_number}
use Rattle.commit_log.specs.LogImage.{IsLogImage, IsNoLog}
use Rattle.commit_log.specs.LogState.{Holds}
use Rattle.commit_log.specs.Opening.{IsDamagedImage}
use Rattle.commit_log.specs.Recovery.{map_after}
use Rattle.commit_log.specs.declared.faults.LogFault.{LogFault}
use Rattle.commit_log.specs.declared.faults.LogFault.TheVariants.{NotALog, Damaged, Device, Memory}
use Rattle.commit_log.specs.declared.formats.LogFormat.{LogFormat}

-- the image is a log of write sets that give this map, in the format of this number
pub record IsMapOf (image : List (List ℕ)) (m : KeyMap) (number : ℕ) : Type 0 where
  pub format : LogFormat
  pub number_is : number ≡ format_number format
  pub lists : List (List KeyWrite)
  pub holds : IsLogImage format lists image
  pub gives : m ≡ map_after [] lists

-- reading the map fails by the device, out of memory, or for what this image is
abbrev pub IsMapRefusal : List (List ℕ) → LogFault → Type 0
IsMapRefusal image NotALog = (f : LogFormat) → IsNoLog f image
IsMapRefusal image (Damaged index) = (f : LogFormat) × IsDamagedImage f image index
IsMapRefusal image Device = Unit {0}
IsMapRefusal image Memory = Unit {0}
IsMapRefusal image other = ⊥

-- the image is a log of write sets that give this map, and the device now holds it
abbrev pub HoldsMapOf : {D : Type 0} → Ghosts D → D → KeyMap → ℕ → List (List ℕ) → Type 0
HoldsMapOf g device map number image = IsMapOf image map number × Holds g device image
