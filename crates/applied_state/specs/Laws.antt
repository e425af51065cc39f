-- What holds of a leader's leadership in each life, and of snapshots.
use Rattle.std.specs.Prelude.{◌≡◌, ℕ, List, ◌++◌, take, Some}
use Rattle.wire_words.specs.Items.{AreBytes}
use Rattle.raft_messages.specs.Servers.{servers_bytes, WritesServers}
use Rattle.database_state.specs.Snapshot.{snapshot_text, IsSnapshot}
use Rattle.sql_engine.specs.declared.kind.EngineKind.{EngineKind}
use Rattle.sql_engine.specs.Meanings.{Meaning}
use Rattle.raft_spec.specs.Log as raft
use Rattle.raft_spec.specs.Node.{Server}
use Rattle.session_spec.specs.Entries.{Entry}
use Rattle.session_spec.specs.Machine.{machine_of}
use Rattle.session_spec.specs.Seen.{log_seen}
use Rattle.session_safety.specs.Nodes.{Node as Life, databases}
use Rattle.session_safety.specs.Life.{Event, Connect, Hangup, Call, Resume, Done, Apply, Lose, Lead, Serve, Append, Follow, AllFit, happens, run_from}
use Rattle.database_state.specs.declared.database.Database.{Database}
use Rattle.applied_state.specs.declared.effect.AppliedEffect.{AppliedEffect}
use Rattle.applied_state.specs.declared.leadership.Leadership.{Leadership}
use Rattle.applied_state.specs.declared.applied.Applied.{Applied}
use Rattle.applied_state.specs.Applied.{ShowsFiles, HasApplied}
use Rattle.applied_state.specs.Office.{InOffice, office_after, duties}
use Rattle.applied_state.specs.Snapshot.{NodeSnapshot, SpellsSnapshot, snapshot_bytes, snapshot_in}

-- ---- lives

-- What a node has applied of its log shows the databases of its life.
abbrev pub LivesAreShown : Type 0
LivesAreShown =
    (opening : List Server) (lacks : List ℕ → ℕ) (log : List raft.Entry) (w : Life) (a : Applied) →
    w.log ≡ log_seen log → HasApplied opening lacks (take w.applied log) a → ShowsFiles lacks (databases w) a.machine

-- ---- leaderships

-- What a leader does when it has applied an entry fits, and leaves the life in the leadership that it then has.
pub record GoesOn (m : Meaning) (kind : EngineKind) (office : Leadership) (w : Life) (machine : List Database) (what : AppliedEffect) (waiting : List Entry) : Type 0 where
  pub fits : AllFit m kind w (duties office.phase w.applied (machine_of machine) what waiting)
  pub holds : InOffice (office_after office w.applied (machine_of machine)) (run_from w (duties office.phase w.applied (machine_of machine) what waiting))

abbrev pub OfficesGoOn : Meaning → EngineKind → Type 0
OfficesGoOn m kind =
    (office : Leadership) (w : Life) (lacks : List ℕ → ℕ) (machine : List Database) (what : AppliedEffect) (waiting : List Entry) →
    InOffice office w → ShowsFiles lacks (databases w) machine → GoesOn m kind office w machine what waiting

-- what happens at a leader beside the entries that it appends by itself
abbrev pub IsOfClients : Event → Type 0
IsOfClients (Connect conn) = Unit {0}
IsOfClients (Hangup conn) = Unit {0}
IsOfClients (Call conn standing request answers) = Unit {0}
IsOfClients (Resume conn standing answers) = Unit {0}
IsOfClients (Done conn answers) = Unit {0}
IsOfClients Apply = Unit {0}
IsOfClients (Lose term) = ⊥
IsOfClients (Lead term) = ⊥
IsOfClients Serve = ⊥
IsOfClients (Append contents) = ⊥
IsOfClients (Follow entries) = ⊥

-- It leaves the leadership as it is.
abbrev pub OfficesStay : Type 0
OfficesStay = (office : Leadership) (w : Life) (e : Event) → IsOfClients e → InOffice office w → InOffice office (happens w e)

-- ---- snapshots

-- What is read as a node's snapshot is encoded so, and what is encoded so is read.
abbrev pub SnapshotsRead : Type 0
SnapshotsRead = (s : NodeSnapshot) (bytes : List ℕ) → SpellsSnapshot s bytes → snapshot_in bytes ≡ Some s

abbrev pub SnapshotsAreSpelled : Type 0
SnapshotsAreSpelled = (s : NodeSnapshot) (bytes : List ℕ) → AreBytes bytes → snapshot_in bytes ≡ Some s → SpellsSnapshot s bytes

-- What is written is a node's snapshot, and so are the bytes of before, which have no format word.
pub record BothForms (s : NodeSnapshot) : Type 0 where
  pub written : SpellsSnapshot s (snapshot_bytes s.servers s.contents)
  pub before : SpellsSnapshot s (servers_bytes s.servers ++ snapshot_text s.contents)

abbrev pub BothFormsAreSpelled : Type 0
BothFormsAreSpelled = (s : NodeSnapshot) → WritesServers s.servers (servers_bytes s.servers) → IsSnapshot s.contents (snapshot_text s.contents) → BothForms s
