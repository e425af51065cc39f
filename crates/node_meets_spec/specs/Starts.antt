-- Starts and crashes of a node in a run, and what its disk represents meanwhile.
use Rattle.std.specs.Prelude.{◌≡◌, ℕ, List, [], Ok, Err}
use Rattle.sql_engine.specs.declared.kind.EngineKind.{EngineKind}
use Rattle.sql_engine.specs.Meanings.{Meaning}
use Rattle.disk_model.specs.Disk.{Disk, no_files}
use Rattle.disk_model.specs.Rest.{AfterCrash}
use Rattle.disk_model.specs.Trait.{Text}
use Rattle.raft_spec.specs.Node.{Server}
use Rattle.raft_safety.specs.Members.{Setup}
use Rattle.store_laws.specs.Chance.{NoChance}
use Rattle.store_laws.specs.Store.{Kept, Loaded}
use Rattle.store_format.specs.NodeFormat.{node_format}
use Rattle.segment_store.specs.Keeps.{folder, HasNew}
use Rattle.segment_store.specs.Loading.{IsSeen}
use Rattle.segment_store.specs.Open.{Open}
use Rattle.segment_store.specs.Restarts.{StandsFor, Begins, MayHave}
use Rattle.node_spec.specs.Nodes.{Node as RuleNode}
use Rattle.node_spec.specs.Steps.{CompletesStart, StopsInStart}
use Rattle.node_core.specs.declared.fault.StartFault.{StartFault}
use Rattle.node_core.specs.declared.node.Node.{Node}
use Rattle.node_core.specs.Starting.{StartLeaves}
use Rattle.node_core.specs.Values.{kept_by, replica_of}
use Rattle.cluster_safety.specs.Runs.{Up, Down, Event, kept_at, nothing_kept, run}
use Rattle.node_meets_spec.specs.Steps.{Leads}

-- ---- events of a run

-- A start that ended well, over what was kept.
abbrev pub StartsRun : Meaning → EngineKind → Type 0
StartsRun m kind =
    (setup : Setup) (past : List Event) (n : ℕ) (kept : Kept) (new : RuleNode) (servers : List Server) → (run past).places n ≡ Down kept →
    CompletesStart setup kept new servers → Leads m kind setup (run past) n (Up new) [] []

-- One that failed or was stopped.
abbrev pub StartStopsRun : Meaning → EngineKind → Type 0
StartStopsRun m kind =
    (setup : Setup) (past : List Event) (n : ℕ) (kept left : Kept) → (run past).places n ≡ Down kept → StopsInStart setup kept left →
    Leads m kind setup (run past) n (Down left) [] []

-- what was kept is kept
abbrev pub StartsKeep : Type 0
StartsKeep = (setup : Setup) (kept : Kept) → StopsInStart setup kept kept

-- A crash, at any time.
abbrev pub CrashesRun : Meaning → EngineKind → Type 0
CrashesRun m kind = (setup : Setup) (past : List Event) (n : ℕ) → Leads m kind setup (run past) n (Down (kept_at ((run past).places n))) [] []

-- ---- the disk

-- A disk without files represents nothing that was kept, whatever a crash leaves.
abbrev pub FirstDisk : Type 0
FirstDisk = StandsFor (λ o. o ≡ Loaded nothing_kept) (folder no_files)

-- The disk of a node that runs keeps what it has kept, whatever a crash leaves.
abbrev pub OpenKeeps : Type 0
OpenKeeps = (store : Open) (kept : Kept) (d : Disk Text) → HasNew store kept (folder d) → StandsFor (λ o. o ≡ Loaded kept) (folder d)

-- This holds after a crash.
abbrev pub CrashLeavesKept : Type 0
CrashLeavesKept =
    (store : Open) (kept : Kept) (d e : Disk Text) → HasNew store kept (folder d) → AfterCrash d e → StandsFor (λ o. o ≡ Loaded kept) (folder e)

-- The disk of a node that is down represents after a crash what it might have represented before, if no checksum matches by chance in
-- what the crash leaves.
abbrev pub CrashKeeps : Type 0
CrashKeeps =
    (d e : Disk Text) → IsSeen (folder d) → AfterCrash d e → NoChance node_format (folder d) (folder e).read → StandsFor (MayHave (folder d)) (folder e)

-- A node that starts over the disk as it is, or after a crash, has loaded what the disk might have represented, and keeps it.
abbrev pub StartFinds : Type 0
StartFinds =
    (d e f : Disk Text) (node : Node) → IsSeen (folder d) → Begins d e → StartLeaves (Ok node) e f →
    MayHave (folder d) (Loaded (kept_by node)) × HasNew (replica_of node).store (kept_by node) (folder f)

-- A start that failed or was stopped leaves it.
abbrev pub StartLeavesKept : Type 0
StartLeavesKept =
    (d e f : Disk Text) (why : StartFault) → IsSeen (folder d) → Begins d e → StartLeaves (Err why) e f → StandsFor (MayHave (folder d)) (folder f)
