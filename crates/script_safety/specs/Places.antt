-- The place of a script's node with its disk: what its turns so far have led to, and that each call of a node leads on.
use Rattle.std.specs.Prelude.{◌≡◌, ℕ, List, [], ◌∷◌, ◌++◌, Option, Some, None, Ok, Err}
use Rattle.sql_engine.specs.declared.kind.EngineKind.{EngineKind}
use Rattle.sql_engine.specs.Meanings.{Meaning}
use Rattle.session_spec.specs.Engines.{Answer}
use Rattle.disk_model.specs.Disk.{Disk, no_files}
use Rattle.disk_model.specs.Rest.{AfterCrash}
use Rattle.disk_model.specs.Trait.{Text}
use Rattle.raft_safety.specs.Members.{Setup}
use Rattle.store_laws.specs.Chance.{NoChance}
use Rattle.store_laws.specs.Store.{Kept, Outcome as Found, Loaded, Damaged, NoMeta, Gap}
use Rattle.store_format.specs.NodeFormat.{node_format}
use Rattle.segment_store.specs.Keeps.{folder, HasNew}
use Rattle.segment_store.specs.Restarts.{StandsFor}
use Rattle.raft_on_disk.specs.Replicas.{kept_of}
use Rattle.node_core.specs.declared.fault.StartFault.{StartFault}
use Rattle.node_core.specs.declared.fault.StartFault.TheVariants as start
use Rattle.node_core.specs.declared.node.Node.{Node}
use Rattle.node_core.specs.declared.running.Running.{Running}
use Rattle.node_core.specs.declared.event.Event as core
use Rattle.node_core.specs.Account.{AccountsForStop}
use Rattle.node_core.specs.Finding.{FindsIn}
use Rattle.node_core.specs.Starting.{StartLeaves}
use Rattle.node_core.specs.Values.{kept_by}
use Rattle.cluster_safety.specs.Runs.{nothing_kept}
use Rattle.script_grammar.specs.declared.grammar.FaultTarget.{FaultTarget}
use Rattle.script_cluster.specs.Outcomes.{Standing, Outs, Ending, Steps, Starts, Stops, Fails, Unreadable, Doing, Start, Turn, Does, Crashes}
use Rattle.script_safety.specs.Slots.{Seat, Runs, Rests, EventIs, StepDone, StopDone, StartDone, SlotPath, setup_of}

-- ---- a place

-- these turns of a node, over nothing that was kept, lead to this seat
abbrev pub Led : Meaning → EngineKind → Setup → ℕ → List Turn → Seat → Type 0
Led m kind setup n turns seat = SlotPath m kind setup n (Rests nothing_kept) turns seat

-- what is found on a disk is kept so
abbrev pub IsLeft : (Kept → Type 0) → Found → Type 0
IsLeft P (Loaded kept) = P kept
IsLeft P Damaged = ⊥
IsLeft P NoMeta = ⊥
IsLeft P (Gap first last) = ⊥

-- The node that runs at a place was led there by its turns, and its disk keeps what it has kept. If none runs, whatever a crash leaves
-- of the disk was left by them, if no checksum matches by chance.
abbrev pub IsPlaced : Meaning → EngineKind → Setup → ℕ → List Turn → Disk Text → Option Running → Type 0
IsPlaced m kind setup n turns d (Some node) = Led m kind setup n turns (Runs node) × HasNew node.replica.store (kept_of node.replica) (folder d)
IsPlaced m kind setup n turns d None = StandsFor (IsLeft (λ kept. Led m kind setup n turns (Rests kept))) (folder d)

-- ---- what leads on

abbrev pub does : ℕ → Doing → FaultTarget → List Answer → Ending → Turn
does n doing aim answers ending = Does n doing aim (record { answers = answers; ending = ending })

-- nothing may be read by chance, as the disk is now
abbrev pub IsFair : Disk Text → Type 0
IsFair d = NoChance node_format (folder d) (folder d).read

-- A place where nothing has happened yet, over a disk without files.
abbrev pub PlacesBegin : Meaning → EngineKind → Type 0
PlacesBegin m kind = (setup : Setup) (n : ℕ) → IsPlaced m kind setup n [] no_files None

-- A step that ended well, with its disk, which keeps what the node has kept then.
abbrev pub StepsOn : Meaning → EngineKind → Type 0
StepsOn m kind =
    (setup : Setup) (n : ℕ) (turns : List Turn) (d e : Disk Text) (old new : Running) (doing : Doing) (aim : FaultTarget) (answers : List Answer)
    (outs : Outs) (standing : Standing) →
    IsPlaced m kind setup n turns d (Some old) → StepDone m kind setup old new doing answers outs standing →
    HasNew new.replica.store (kept_of new.replica) (folder e) →
    IsPlaced m kind setup n (turns ++ does n doing aim answers (Steps outs standing) ∷ []) e (Some new)

-- the ending of a step that failed or was stopped
abbrev pub IsFall : Ending → Type 0
IsFall (Stops keeps) = Unit {0}
IsFall (Fails keeps) = Unit {0}
IsFall (Steps outs standing) = ⊥
IsFall (Starts kept standing) = ⊥
IsFall Unreadable = ⊥

-- One that failed or was stopped: whatever is found on its disk is what the step may have left.
abbrev pub FallsOn : Meaning → EngineKind → Type 0
FallsOn m kind =
    (setup : Setup) (n : ℕ) (turns : List Turn) (d e : Disk Text) (old : Running) (doing : Doing) (aim : FaultTarget) (answers : List Answer) (ending : Ending) →
    IsPlaced m kind setup n turns d (Some old) → IsFall ending → StandsFor (IsLeft (StopDone m kind setup old doing)) (folder e) →
    IsPlaced m kind setup n (turns ++ does n doing aim answers ending ∷ []) e None

-- A crash, at any time.
abbrev pub CrashesOn : Meaning → EngineKind → Type 0
CrashesOn m kind =
    (setup : Setup) (n pick : ℕ) (turns : List Turn) (d e : Disk Text) (old : Running) → IsPlaced m kind setup n turns d (Some old) → AfterCrash d e →
    IsPlaced m kind setup n (turns ++ Crashes n pick ∷ []) e None

-- The disk of a node that is down crashes, as at a stop; by chance nothing is read then.
abbrev pub DisksCrashOn : Meaning → EngineKind → Type 0
DisksCrashOn m kind =
    (setup : Setup) (n : ℕ) (turns : List Turn) (d e : Disk Text) → IsPlaced m kind setup n turns d None → AfterCrash d e →
    NoChance node_format (folder d) (folder e).read → IsPlaced m kind setup n turns e None

-- A start that ended well, of a node that shows what `Node::start` says of it.
abbrev pub StartsOn : Meaning → EngineKind → Type 0
StartsOn m kind =
    (voters n : ℕ) (turns : List Turn) (d e : Disk Text) (node : Node) (aim : FaultTarget) (answers : List Answer) (standing : Standing) →
    IsPlaced m kind (setup_of voters) n turns d None → IsFair d → StartLeaves (Ok node) d e →
    StartDone voters n (kept_by node) (kept_by node) node.running answers standing →
    IsPlaced m kind (setup_of voters) n (turns ++ does n (Start voters) aim answers (Starts (kept_by node) standing) ∷ []) e (Some node.running)

-- a start finds what doesn't load: files with a fault (`NoMeta`, `Damaged`, `Gap`), or a snapshot that isn't a node's
abbrev pub LoadsNothing : StartFault → Type 0
LoadsNothing (start.Damaged fault) = Unit {0}
LoadsNothing (start.Snapshot index) = Unit {0}
LoadsNothing start.DiskFault = ⊥
LoadsNothing start.NoMemory = ⊥

-- the ending of a start that failed or was stopped, or found what doesn't load, by its cause
abbrev pub IsNoStart : StartFault → Ending → Type 0
IsNoStart why (Stops keeps) = why ≡ start.DiskFault
IsNoStart why (Fails keeps) = why ≡ start.DiskFault
IsNoStart why Unreadable = LoadsNothing why
IsNoStart why (Steps outs standing) = ⊥
IsNoStart why (Starts kept standing) = ⊥

-- So such a start leads on. If nothing is read by chance it never finds that files have a fault, so one that didn't load found a snapshot
-- that isn't a node's (`EndsSo`).
abbrev pub StartsFail : Meaning → EngineKind → Type 0
StartsFail m kind =
    (voters n : ℕ) (turns : List Turn) (d e : Disk Text) (why : StartFault) (aim : FaultTarget) (answers : List Answer) (ending : Ending) →
    IsPlaced m kind (setup_of voters) n turns d None → IsFair d → StartLeaves (Err why) d e → IsNoStart why ending →
    IsPlaced m kind (setup_of voters) n (turns ++ does n (Start voters) aim answers ending ∷ []) e None

-- ---- what `Node::step` says of the disk where it failed

-- A load finds what the step may have left.
abbrev pub FindsOn : Meaning → EngineKind → Type 0
FindsOn m kind =
    (setup : Setup) (n : ℕ) (turns : List Turn) (d e : Disk Text) (old : Running) (doing : Doing) (event : core.Event) (aim : FaultTarget) (answers : List Answer)
    (ending : Ending) → IsPlaced m kind setup n turns d (Some old) → IsFall ending → EventIs doing event → FindsIn (AccountsForStop m kind setup old event) (folder e) →
    IsPlaced m kind setup n (turns ++ does n doing aim answers ending ∷ []) e None
