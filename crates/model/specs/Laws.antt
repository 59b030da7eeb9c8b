-- The laws of histories and of the machine's runs.
use Rattle.std.specs.Prelude.{◌≡◌, ◌<◌, ◌≤◌, ℕ, Bool, List, ◌∷◌, ◌++◌, Some, None, IsTrue, IfErr, All, Contains}
use Rattle.model.specs.CommandTable.{command_in}
use Rattle.model.specs.Dependency.{dependency, NoConcurrentWriters}
use Rattle.model.specs.History.{Record, IsFaithful}
use Rattle.model.specs.Machine.{State, Running, Input, IsReached, last, snapshot, running_of, record_to_commit, step}
use Rattle.model.specs.Machine.{state_after}
use Rattle.model.specs.Map.{Bytes, KeyMap}
use Rattle.model.specs.Operations.Operation.{Begin, Commit}
use Rattle.model.specs.Operations.Response.{Number, Refused}
use Rattle.model.specs.PrivateCopy.{copy_of, responses}
use Rattle.model.specs.SerialOrder.{IsSerialOrder, place, is_before, serial_order}
use Rattle.model.specs.Verdict.{verdict, is_conflict, HasNoDangerousPivot}
use Rattle.model.specs.declared.refusals.Refusal.{Refusal}
use Rattle.model.specs.declared.refusals.Refusal.TheVariants.{UnknownCommand, BadArguments, BadKey, BadLimit}

-- each dependency leads to a later place
abbrev pub DependenciesRise : List Record → Type 0
DependenciesRise history = (a b : Record) → Contains history a → Contains history b → IsTrue (dependency a b) →
    IsTrue (is_before (place history a) (place history b))

-- without dangerous pivots and concurrent writers of one key they do
abbrev pub PlacesRise : Type 0
PlacesRise = (base : KeyMap) (history : List Record) →
    IsFaithful base history → HasNoDangerousPivot history → NoConcurrentWriters history → DependenciesRise history

-- pivots or not, one that had committed when another began has the earlier place
abbrev pub PlacesKeepTime : Type 0
PlacesKeepTime = (base : KeyMap) (history : List Record) → IsFaithful base history →
    (a b : Record) → Contains history a → Contains history b → a.commit ≤ b.begin →
    IsTrue (is_before (place history a) (place history b))

-- without dangerous pivots and concurrent writers of one key the order by places is a serial order
abbrev pub ReplayLaw : Type 0
ReplayLaw = (base : KeyMap) (history : List Record) →
    IsFaithful base history → HasNoDangerousPivot history → NoConcurrentWriters history →
    IsSerialOrder base history (serial_order history)

-- a stands before b in the order
abbrev pub IsAhead : List Record → Record → Record → Type 0
IsAhead order a b = (front middle back : List Record) × (order ≡ front ++ a ∷ (middle ++ b ∷ back))

-- in a serial order one that had committed when another began stands before that
abbrev pub OrdersKeepTime : Type 0
OrdersKeepTime = (base : KeyMap) (history order : List Record) → IsFaithful base history
    → IsSerialOrder base history order →
    (a b : Record) → Contains history a → Contains history b → a.commit ≤ b.begin → IsAhead order a b

-- Where a COMMIT was answered a number, and some inputs later a BEGIN opens a transaction, that number is at most the
-- begin number. So who was answered before another's BEGIN is executed stands before it in a serial order.
abbrev pub AnswersComeBefore : Type 0
AnswersComeBefore = (st : State) (s n : ℕ) (failed : Bool) → (step st s Commit failed).1 ≡ Number n →
    (inputs : List Input) (s' : ℕ) (failed' : Bool) (t : Running) →
    let later : State = state_after (step st s Commit failed).0 inputs in
    running_of later s' ≡ None → running_of (step later s' Begin failed').0 s' ≡ Some t → n ≤ t.begin

-- each committed transaction was answered as a private copy of the map committed at its begin answers its own requests
-- alone, and the committed transactions have a serial order
pub record IsSerializable (st : State) : Type 0 where
  pub faithful : IsFaithful st.base st.history
  pub order : List Record
  pub serial : IsSerialOrder st.base st.history order

-- each open transaction was answered as a private copy of the map committed at its begin answers its own requests alone
abbrev pub IsIsolated : State → Type 0
IsIsolated st = All (λ e. e.1.replies ≡ responses (copy_of (snapshot st e.1)) e.1.requests) st.running

-- whatever the sessions ask, and whenever the device fails
abbrev pub MachineLaw : Type 0
MachineLaw = (st : State) → IsReached st → IsIsolated st × IsSerializable st

-- What has committed has no dangerous pivot and no concurrent writers of one key. So each dependency leads to a later
-- place, and the order by places is a serial order.
pub record IsOrderedByPlace (st : State) : Type 0 where
  pub no_pivot : HasNoDangerousPivot st.history
  pub no_concurrent_writers : NoConcurrentWriters st.history
  pub rising : DependenciesRise st.history
  pub serial : IsSerialOrder st.base st.history (serial_order st.history)

-- of the serial orders that there are, this is one
abbrev pub PlacesLaw : Type 0
PlacesLaw = (st : State) → IsReached st → IsOrderedByPlace st

-- a fault of a request's form, which is refused before anything else is looked at
abbrev pub IsOfForm : Refusal → Type 0
IsOfForm UnknownCommand = Unit {0}
IsOfForm BadArguments = Unit {0}
IsOfForm BadKey = Unit {0}
IsOfForm BadLimit = Unit {0}
IsOfForm other = ⊥

-- whatever its parts are, a request is faulty for one of these four alone
abbrev pub FaultsAreOfForm : Type 0
FaultsAreOfForm = (parts : List Bytes) → IfErr (command_in parts) IsOfForm

-- what has committed has no dangerous pivot and no concurrent writers of one key: so the laws of histories hold of it
abbrev pub VerdictHolds : Type 0
VerdictHolds = (st : State) → IsReached st → HasNoDangerousPivot st.history × NoConcurrentWriters st.history

-- nothing speaks against a transaction where no other has committed since its begin
abbrev pub LastMayCommit : Type 0
LastMayCommit = (st : State) → IsReached st → (s : ℕ) (t : Running) → running_of st s ≡ Some t → t.begin ≡ last st →
    verdict st.history (record_to_commit st t) ≡ None

-- So where a COMMIT is refused for a conflict, another transaction has committed since its BEGIN: of those that contend
-- one gets through.
abbrev pub ConflictsAreRecent : Type 0
ConflictsAreRecent = (st : State) → IsReached st → (s : ℕ) (t : Running) → running_of st s ≡ Some t
    → (failed : Bool) (refusal : Refusal) →
    (step st s Commit failed).1 ≡ Refused refusal → IsTrue (is_conflict refusal) → t.begin < last st
