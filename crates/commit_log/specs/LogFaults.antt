-- Which faults a call of the log may answer.
use Rattle.commit_log.specs.declared.faults.AppendFault.TheVariants as append
use Rattle.commit_log.specs.declared.faults.AppendFault.{AppendFault}
use Rattle.commit_log.specs.declared.faults.LogFault.{LogFault}
use Rattle.commit_log.specs.declared.faults.LogFault.TheVariants.{NotALog, Damaged, Full, Device, Stopped, Memory}
use Rattle.commit_log.specs.declared.faults.LogFault.TheVariants.{OldFormat}

-- the device failed, or memory was refused
abbrev pub IsDeviceOrMemory : LogFault → Type 0
IsDeviceOrMemory Device = Unit {0}
IsDeviceOrMemory Memory = Unit {0}
IsDeviceOrMemory other = ⊥

-- a fault of opening a log
abbrev pub IsOpenFault : LogFault → Type 0
IsOpenFault NotALog = Unit {0}
IsOpenFault (Damaged index) = Unit {0}
IsOpenFault Device = Unit {0}
IsOpenFault Memory = Unit {0}
IsOpenFault OldFormat = Unit {0}
IsOpenFault other = ⊥

-- a fault of an append
abbrev pub IsAppendFault : LogFault → Type 0
IsAppendFault Full = Unit {0}
IsAppendFault Device = Unit {0}
IsAppendFault Stopped = Unit {0}
IsAppendFault Memory = Unit {0}
IsAppendFault other = ⊥

-- what an append answers where none was added to a log that runs and has room
abbrev pub of_append : AppendFault → LogFault
of_append append.Device = Device
of_append append.Memory = Memory

-- a fault of reading the map of a log of either format
abbrev pub IsReadMapFault : LogFault → Type 0
IsReadMapFault NotALog = Unit {0}
IsReadMapFault (Damaged index) = Unit {0}
IsReadMapFault Device = Unit {0}
IsReadMapFault Memory = Unit {0}
IsReadMapFault other = ⊥
