-- The restarts of a store, one after another: each is opened over what the end of the one before left.
use Rattle.std.specs.Prelude.{◌≡◌, ◌⊎◌, ◌<◌, ℕ, List, [], ◌∷◌, ◌++◌, length, Result, Ok, MatchResult, IfErr, IsErrAnd}
use Rattle.std.specs.Prelude.{⊤}
use Rattle.model.specs.Machine.{opened}
use Rattle.model.specs.Map.{KeyMap, IsInBounds}
use Rattle.sector.specs.SectorModel.{IsSettled, LeavesOnly}
use Rattle.commit_log.specs.Format.{current}
use Rattle.commit_log.specs.LogFaults.{IsDeviceOrMemory, IsOpenFault}
use Rattle.commit_log.specs.LogImage.{IsLogImage}
use Rattle.commit_log.specs.OpenedLog.{FindsDamage, FindsNoLog, FindsOldHead}
use Rattle.commit_log.specs.Reading.{ReadsImage, ReportsFailure}
use Rattle.commit_log.specs.declared.faults.LogFault.TheVariants.{NotALog, Device}
use Rattle.commit_log.specs.declared.faults.Unopened.{Unopened}
use Rattle.engine.specs.Recovery.{HoldsMap}
use Rattle.sessions.specs.Laws.{Ran}
use Rattle.sessions.specs.FoundMaps.{HoldsFound, MayFind}
use Rattle.sessions.specs.SessionStreams.{HubEvent, Choice, hub_over}
use Rattle.sessions.specs.StandsFor.{Ghosts, Hub, StandsFor, device, device_after}

-- the hub begins with this map
pub record Begins {D : Type 0} {g : Ghosts D} (dev : D) (hub : Hub D g) (map : KeyMap) : Type 0 where
  pub used : ℕ
  pub stands : StandsFor hub (hub_over (opened map used (g.size dev)))

-- an opening ends with this map or, where it gives no hub, the device failed or memory was refused
abbrev pub EndsWith : {D : Type 0} {g : Ghosts D} → D → Result (Hub D g) (Unopened D) → KeyMap → Type 0
EndsWith dev result map = MatchResult result (λ hub. Begins dev hub map) (λ u. IsDeviceOrMemory u.fault)

-- What an opening does, be it one that fails: a crash at any moment of it leaves what one before it could have left.
-- Where reads give the image of a map, it ends with that map.
pub record Opens {D : Type 0} {g : Ghosts D} (dev : D) (result : Result (Hub D g) (Unopened D)) : Type 0 where
  pub during : LeavesOnly g.moment g.left_since dev (device_after result) (g.may_leave dev)
  pub ends : (image : List (List ℕ)) (map : KeyMap) → length image ≡ g.size dev → ReadsImage (g.may_read dev) image
      → HoldsMap image map → EndsWith dev result map

-- An opening reports why it gives no hub: `Device` exactly where a call failed; and what is too short, damaged, no log
-- or has an old head as that.
pub record ReportsWhy {D : Type 0} {g : Ghosts D} (dev : D) (result : Result (Hub D g) (Unopened D)) : Type 0 where
  pub faults : IfErr result (λ u. IsOpenFault u.fault)
  pub cause : IfErr result (λ u. ReportsFailure (g.failures dev) (g.failures u.device) u.fault)
  pub short : g.size dev < 2 → IsErrAnd result (λ u. (u.fault ≡ NotALog) ⊎ (u.fault ≡ Device))
  pub damaged : g.keeps_model → FindsDamage g dev result (λ u. u.fault)
  pub no_log : g.keeps_model → FindsNoLog g dev result (λ u. u.fault)
  pub older : g.keeps_model → FindsOldHead g dev result (λ u. u.fault)

-- the hub is what an opening gave, with a map whose keys and values are in bounds
pub record IsOpened {D : Type 0} {g : Ghosts D} (hub : Hub D g) : Type 0 where
  pub dev : D
  pub map : KeyMap
  pub begins : Begins dev hub map
  pub in_bounds : IsInBounds map
  pub opens : g.keeps_model → Opens dev (Ok hub)

-- The hub has come so far from an opening: by these events, and every hub on the way is known.
pub record Served {D : Type 0} {g : Ghosts D} (hub : Hub D g) : Type 0 where
  pub first : Hub D g
  pub start : IsOpened first
  pub choices : List (HubEvent × Choice)
  pub ran : Ran first hub choices

abbrev pub IsServed : {D : Type 0} {g : Ghosts D} → Hub D g → Type 0
IsServed hub = ∥ Served hub ∥₁

-- how the run of a process ended: at a moment of the opening, or at one after `answered`, up to `last`, of a run of
-- its hub
pub data EndOfRestart {D : Type 0} {g : Ghosts D} (dev : D) (result : Result (Hub D g) (Unopened D)) : Type 0 where
  InOpening : EndOfRestart dev result
  InRun : (hub answered last : Hub D g) (es fs : List (HubEvent × Choice)) → result ≡ Ok hub → Ran hub answered es
      → Ran answered last fs → EndOfRestart dev result

-- one restart of a store: an opening over a device, with its result, and how it ended
pub record Restart (D : Type 0) (g : Ghosts D) : Type 0 where
  pub dev : D
  pub result : Result (Hub D g) (Unopened D)
  pub opens : Opens dev result
  pub ending : EndOfRestart dev result

-- the images that a crash may leave there
abbrev pub IsLeftAt : {D : Type 0} {g : Ghosts D} {dev : D} {result : Result (Hub D g) (Unopened D)}
    → EndOfRestart dev result → List (List ℕ) → Type 0
IsLeftAt {D} {g} {dev} {result} InOpening c = g.left_since (device_after result) (g.moment dev) c
IsLeftAt {D} {g} (InRun hub answered last es fs is ran more) c =
    g.left_since (device last) (g.moment (device answered)) c

-- the maps that it may leave there: those of before the opening; or, of a run that began with this map, those that it
-- may leave once all up to `answered` was answered
abbrev pub MapAt : {D : Type 0} {g : Ghosts D} {dev : D} {result : Result (Hub D g) (Unopened D)} → (KeyMap → Type 0)
    → KeyMap → EndOfRestart dev result → KeyMap → Type 0
MapAt Maps map InOpening next = Maps next
MapAt {D} {g} {dev} Maps map (InRun hub answered last es fs is ran more) next =
    (begins : Begins dev hub map) × MayFind (hub_over (opened map begins.used (g.size dev))) (es ++ fs) (length es) next

-- A device over what was left: reads give one of the images that could be left, and a crash leaves none but such. So it
-- is after the power was cut, where one image is left, and after the process alone was killed, where reads give what
-- was written and a later cut may still leave less.
pub record Reopens {D : Type 0} (g : Ghosts D) (Left : List (List ℕ) → Type 0) (dev : D) : Type 0 where
  pub image : List (List ℕ)
  pub was_left : Left image
  pub size_is : length image ≡ g.size dev
  pub read : ReadsImage (g.may_read dev) image
  pub left : (c : List (List ℕ)) → g.may_leave dev c → Left c

-- an image that a power cut left is such
abbrev pub CutsReopen : {D : Type 0} {g : Ghosts D} → Hub D g → Type 0
CutsReopen {D} {g} hub =
    (restart : Restart D g) (dev : D) (disk : List (List ℕ)) → IsLeftAt restart.ending disk
    → IsSettled (g.size dev) (g.may_read dev) (g.may_leave dev) disk → Reopens g (IsLeftAt restart.ending) dev

-- each restart is over what the one before left, the first one over this
abbrev pub FollowOn : {D : Type 0} {g : Ghosts D} → (List (List ℕ) → Type 0) → List (Restart D g) → Type 0
FollowOn Left [] = ⊤
FollowOn {g = g} Left (restart ∷ restarts) = Reopens g Left restart.dev × FollowOn (IsLeftAt restart.ending) restarts

-- the images that the end of the last of the restarts may leave; before any restart, these
abbrev pub IsLeftLast : {D : Type 0} {g : Ghosts D} → (List (List ℕ) → Type 0) → List (Restart D g) → List (List ℕ)
    → Type 0
IsLeftLast Left [] c = Left c
IsLeftLast {g = g} Left (restart ∷ restarts) c = IsLeftLast (IsLeftAt restart.ending) restarts c

-- A restart that began with a map of these. Its opening ends with that map, and each image that its end may leave holds
-- one that it may leave.
pub record BeganWith {D : Type 0} {g : Ghosts D} (Maps : KeyMap → Type 0) (restart : Restart D g)
    (map : KeyMap) : Type 0 where
  pub was : Maps map
  pub opening : EndsWith restart.dev restart.result map
  pub leaves : (c : List (List ℕ)) → IsLeftAt restart.ending c
      → (next : KeyMap) × MapAt Maps map restart.ending next × HoldsMap c next

-- each restart begins with a map that the one before may have left, the first one with one of these; so none is found
-- damaged
abbrev pub LoseNothing : {D : Type 0} {g : Ghosts D} → (KeyMap → Type 0) → List (Restart D g) → Type 0
LoseNothing Maps [] = ⊤
LoseNothing Maps (restart ∷ restarts) = (map : KeyMap) × BeganWith Maps restart map
    × LoseNothing (MapAt Maps map restart.ending) restarts

-- of any number of restarts, from the image of any map
abbrev pub RestartsLoseNothing : {D : Type 0} {g : Ghosts D} → Hub D g → Type 0
RestartsLoseNothing {D} {g} hub =
    (disk : List (List ℕ)) (map : KeyMap) (restarts : List (Restart D g)) → HoldsMap disk map
    → FollowOn (λ c. c ≡ disk) restarts
    → LoseNothing (λ m. m ≡ map) restarts

-- and so from an empty log
abbrev pub RestartsFromNothing : {D : Type 0} {g : Ghosts D} → Hub D g → Type 0
RestartsFromNothing {D} {g} hub = (disk : List (List ℕ)) (restarts : List (Restart D g)) → IsLogImage current [] disk
    → FollowOn (λ c. c ≡ disk) restarts → LoseNothing (λ m. m ≡ []) restarts

-- What a process has answered, it keeps: after each of its events a hub stands that it has come to, and a crash at any
-- moment since leaves no map that is older than the one committed there.
abbrev pub KeepsAnswered : {D : Type 0} {g : Ghosts D} → Hub D g → Type 0
KeepsAnswered {D} {g} hub =
    g.keeps_model → (served : Served hub) (es fs : List (HubEvent × Choice)) → served.choices ≡ es ++ fs
    → (answered : Hub D g) × Ran served.first answered es × Ran answered hub fs
    × ((c : List (List ℕ)) → g.left_since (device hub) (g.moment (device answered)) c
    → HoldsFound (hub_over (opened served.start.map served.start.begins.used (g.size served.start.dev))) (es
    ++ fs) (length es) c)
