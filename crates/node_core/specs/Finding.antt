-- What a load finds where a part of a step failed or was stopped.
use Rattle.std.specs.Prelude.{◌≡◌, ℕ, Bool, true, false, ◌∷◌, ◌++◌, [], List, Option, Result, OnErr}
use Rattle.sql_engine.specs.declared.kind.EngineKind.{EngineKind}
use Rattle.sql_engine.specs.Meanings.{Meaning, Told}
use Rattle.raft_spec.specs.Node as raft
use Rattle.raft_messages.specs.declared.message.RaftMessage.{RaftMessage}
use Rattle.raft_messages.specs.Messages.{message_value}
use Rattle.raft_core.specs.declared.event.RaftEvent.{RaftEvent}
use Rattle.raft_core.specs.declared.event.RaftEvent.TheVariants as events
use Rattle.raft_core.specs.Events.{input_of}
use Rattle.raft_membership.specs.Members.{Configurations}
use Rattle.raft_safety.specs.Members.{Setup}
use Rattle.disk_model.specs.Disk.{Disk, Leaves}
use Rattle.disk_model.specs.Trait.{Text, Known}
use Rattle.store_laws.specs.Chance.{NoChance}
use Rattle.store_laws.specs.Names.{NodeFiles, NodeDisk}
use Rattle.store_laws.specs.Store.{Kept, Loaded}
use Rattle.store_format.specs.NodeFormat.{node_format}
use Rattle.segment_store.specs.Keeps.{folder}
use Rattle.segment_store.specs.Loading.{kept_in, IsSeen}
use Rattle.raft_on_disk.specs.Replicas.{ReplicaValue, IsKept, kept_of}
use Rattle.node_spec.specs.RaftTurns.{IsFirst, StopsAt}
use Rattle.node_core.specs.declared.fault.NodeFault.{NodeFault}
use Rattle.node_core.specs.declared.running.Running.{Running}
use Rattle.node_core.specs.Account.{moment_of, bytes_in, IsOwn, KnowsServers, Since}
use Rattle.node_core.specs.Posting.{MaybeToldServers, told_inputs, StepsWithoutSnapshot, StepsWithSnapshot}
use Rattle.node_core.specs.Taking.{bytes_with, came_by}
use Rattle.node_core.specs.Carrying.{MovesLines}
use Rattle.node_core.specs.Voters.{MayBe}

-- ---- a load

-- it answers a state, of which this holds
pub record Loads (P : Kept → Type 0) (g : NodeFiles) : Type 0 where
  pub kept : Kept
  pub is : kept_in g ≡ Loaded kept
  pub holds : P kept

-- This holds after each crash, and without one.
pub record FindsIn (P : Kept → Type 0) (d : NodeDisk) : Type 0 where
  pub crash : (g : NodeFiles) → Leaves d g → NoChance node_format d g → Loads P g
  pub seen : IsSeen d

abbrev pub Finds : Bool → (Disk Text → Type 0) → (Kept → Type 0) → Type 0
Finds tells states P = Known tells states (λ d. FindsIn P (folder d))

-- If the disk kept what Raft was, a part of a step that failed leaves this.
abbrev pub LeavesBy : {T : Type 0} → Bool → (Disk Text → Type 0) → (Disk Text → Type 0) → ReplicaValue → Result T NodeFault → (Kept → Type 0) → Type 0
LeavesBy tells before after was result P = IsKept tells before was → OnErr result (Finds tells after P)

-- ---- a step of Raft

-- a step of this input was stopped, in an act with these bytes of a snapshot
abbrev pub StopsIn : Setup → List ℕ → Running → raft.Input → Kept → Type 0
StopsIn setup came old i kept = StopsAt setup old.replica.id came (moment_of old) i kept

-- Raft was to be given servers: nothing was kept yet, or it was stopped in that step.
pub data StopsTelling (setup : Setup) (came : List ℕ) (old : Running) (kept : Kept) : Type 0 where
  untold_yet : kept ≡ kept_of old.replica → StopsTelling setup came old kept
  in_telling : (servers : List raft.Server) → StopsIn setup came old (raft.Local (raft.UseServers servers)) kept → StopsTelling setup came old kept

-- so after the log, by whatever configurations follow it
abbrev pub StopsBehind : Setup → List ℕ → Running → Kept → Type 0
StopsBehind setup came old kept = (c : Configurations) × StopsTelling setup came (record old { members = c }) kept

-- An event from outside was stopped: in Raft's step of it, or after it, where Raft was given servers.
pub data StopsFollowing (setup : Setup) (old : Running) (event : RaftEvent) (kept : Kept) : Type 0 where
  in_step : StopsIn setup (bytes_with event) old (input_of event) kept → StopsFollowing setup old event kept
  behind_step : (mid : Running) (servers : List raft.Server) → StepsWithoutSnapshot old mid (input_of event) →
      StopsIn setup (bytes_with event) mid (raft.Local (raft.UseServers servers)) kept → StopsFollowing setup old event kept

-- A message that brings a snapshot: in Raft's step of it, or after it.
pub data StopsInstalling (setup : Setup) (old : Running) (event : RaftEvent) (kept : Kept) : Type 0 where
  in_install : StopsIn setup (bytes_with event) old (input_of event) kept → StopsInstalling setup old event kept
  behind_install : (message : RaftMessage) (mid : Running) (servers : List raft.Server) → event ≡ events.Message message →
      StepsWithSnapshot setup old mid (bytes_in message.what) (message_value message) →
      StopsIn setup (bytes_in message.what) mid (raft.Local (raft.UseServers servers)) kept → StopsInstalling setup old event kept

-- Raft was to be given the servers of a change: nothing was kept yet, or it was stopped in that step, at which the voters may be told.
pub data StopsChanging (setup : Setup) (came : List ℕ) (old : Running) (kept : Kept) : Type 0 where
  unchanged_yet : kept ≡ kept_of old.replica → StopsChanging setup came old kept
  in_change : (servers : List raft.Server) → MayBe setup old came (raft.Local (raft.UseServers servers) ∷ []) →
      StopsIn setup came old (raft.Local (raft.UseServers servers)) kept → StopsChanging setup came old kept

-- What the node gave Raft itself: before or in the step in which Raft was given servers, or in the step of the first of what is due.
pub data StopsOwn (setup : Setup) (came : List ℕ) (old : Running) (kept : Kept) : Type 0 where
  before_own : StopsChanging setup came old kept → StopsOwn setup came old kept
  in_own : (mid : Running) (i : raft.Input) (tells : MaybeToldServers old mid) → IsOwn i → IsFirst (moment_of mid) i →
      MayBe setup old came (told_inputs tells ++ i ∷ []) → StopsIn setup came mid i kept → StopsOwn setup came old kept

-- An own snapshot, if the servers of the node's configurations are those that are applied.
abbrev pub StopsCompacting : Setup → List ℕ → Running → Kept → Type 0
StopsCompacting setup came old kept = KnowsServers setup old → StopsIn setup came old (raft.Local (raft.Snapped old.applied.index)) kept

-- An act that began with an event was stopped in Raft's step of it, or in one that the node added.
pub data BeganStops (m : Meaning) (kind : EngineKind) (setup : Setup) (old : Running) (event : RaftEvent) (kept : Kept) : Type 0 where
  at_once : MayBe setup old (bytes_with event) (input_of event ∷ []) →
      StopsIn setup (bytes_with event) old (input_of event) kept → BeganStops m kind setup old event kept
  later_on : {told : Option Told} (mid : Running) (i : raft.Input) (since : Since m kind setup (came_by event) false old mid told told) →
      IsOwn i → IsFirst (moment_of mid) i →
      MayBe setup old (bytes_with event) (since.piece.inputs ++ i ∷ []) → StopsIn setup (bytes_with event) mid i kept → BeganStops m kind setup old event kept

-- A message of a peer that came on a connection was stopped; or nothing was kept yet.
pub data StopsLetter (m : Meaning) (kind : EngineKind) (setup : Setup) (old : Running) (kept : Kept) : Type 0 where
  letter_stopped : (message : RaftMessage) (mid : Running) → old.has_links ≡ true → mid ≡ record old { links = mid.links } →
      MovesLines old mid (message ∷ []) → BeganStops m kind setup mid (events.Message message) kept → StopsLetter m kind setup old kept
  no_letter : kept ≡ kept_of old.replica → StopsLetter m kind setup old kept
