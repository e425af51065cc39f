-- What Raft's turns show: an event from outside begins an act, what the node gave Raft is a turn, and an own snapshot is its own act.
use Rattle.std.specs.Prelude.{◌≡◌, ℕ, true, false, List, [], ◌∷◌, Option, None}
use Rattle.sql_engine.specs.declared.kind.EngineKind.{EngineKind}
use Rattle.sql_engine.specs.Meanings.{Meaning, Told}
use Rattle.raft_spec.specs.Node as raft
use Rattle.raft_messages.specs.declared.message.RaftMessage.{RaftMessage}
use Rattle.raft_core.specs.declared.event.RaftEvent.{RaftEvent}
use Rattle.raft_core.specs.declared.event.RaftEvent.TheVariants as events
use Rattle.raft_core.specs.Events.{input_of}
use Rattle.raft_safety.specs.Members.{Setup}
use Rattle.raft_on_disk.specs.Replicas.{kept_of}
use Rattle.node_spec.specs.Accounts.{SameTerm}
use Rattle.node_spec.specs.RaftTurns.{TakesSnapshot}
use Rattle.node_spec.specs.Steps.{Letter, AllSent}
use Rattle.node_core.specs.declared.running.Running.{Running}
use Rattle.node_core.specs.Account.{moment_of, bytes_in, Says, Brought, Turns, KnowsServers, Since, LosesMessage, Fresh}
use Rattle.node_core.specs.Carrying.{MovesLines}
use Rattle.node_core.specs.Voters.{Beside}

-- ---- turns

-- A turn that leaves term, leadership and the kept snapshot, and in which the node is given its voters.
pub record TurnsInTerm (m : Meaning) (kind : EngineKind) (setup : Setup) (bytes : List ℕ) (joins : Option ℕ) (old new : Running)
    (told_before told_now : Option Told) : Type 0 where
  pub turns : Turns m kind setup bytes joins old new told_before told_now
  pub same : SameTerm (moment_of old) (moment_of new)
  pub snap : (kept_of old.replica).snap ≡ (kept_of new.replica).snap
  pub beside : Beside setup old new bytes turns.piece.inputs

-- ---- an event from outside

-- the bytes of the snapshot that comes with it
abbrev pub bytes_with : RaftEvent → List ℕ
bytes_with (events.Message message) = bytes_in message.what
bytes_with event = []

-- what comes in by it
abbrev pub came_by : RaftEvent → Brought
came_by event = record { inputs = input_of event ∷ []; bytes = bytes_with event; joins = None; read = None; asks = λ conn. [] }

-- a message that counts as lost
abbrev pub IsLostBy : Running → RaftEvent → Type 0
IsLostBy old (events.Message message) = LosesMessage old message
IsLostBy old event = ⊥

-- Its act has begun: its input was taken in; or its message counts as lost, and nothing has changed.
pub data BeganStep (m : Meaning) (kind : EngineKind) (setup : Setup) (old new : Running) (event : RaftEvent) (told_before told_now : Option Told) : Type 0 where
  takes : (since : Since m kind setup (came_by event) false old new told_before told_now) → Beside setup old new (bytes_with event) since.piece.inputs →
      BeganStep m kind setup old new event told_before told_now
  loses : IsLostBy old event → new ≡ old → told_before ≡ told_now → BeganStep m kind setup old new event told_before told_now

-- A message of a peer came on a connection, of a node with peer connections, and its act has begun where only the connections' messages were others;
-- or nothing came that the rules see.
pub data TookLetter (m : Meaning) (kind : EngineKind) (setup : Setup) (old new : Running) (told_before told_now : Option Told) : Type 0 where
  came : (message : RaftMessage) (mid : Running) → old.has_links ≡ true → mid ≡ record old { links = mid.links } →
      BeganStep m kind setup mid new (events.Message message) told_before told_now → MovesLines old new (message ∷ []) →
      TookLetter m kind setup old new told_before told_now
  none_came : Fresh old new → told_before ≡ told_now → MovesLines old new [] → TookLetter m kind setup old new told_before told_now

-- ---- an own snapshot

-- The snapshot of what is applied was kept, and this was said.
pub record KeepsSnapshot (setup : Setup) (old new : Running) : Type 0 where
  pub letters : List Letter
  pub takes : KnowsServers setup old → TakesSnapshot setup old.replica.id (moment_of old) (moment_of new) old.applied.index letters
  pub says : Says old new letters [] []
  pub sent : AllSent (kept_of old.replica) (kept_of new.replica) letters
  pub id : new.replica.id ≡ old.replica.id
  pub beside : Beside setup old new [] (raft.Local (raft.Snapped old.applied.index) ∷ [])
