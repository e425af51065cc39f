-- What a step keeps, and that a node which is down stays so.
use Rattle.std.specs.Prelude.{◌≡◌, ◌≤◌, ℕ, Bool, true, false, List, length, Option, Result, Err, OnOk}
use Rattle.sql_engine.specs.Known.{Known}
use Rattle.disk_model.specs.Disk.{Disk}
use Rattle.disk_model.specs.Trait.{Text}
use Rattle.raft_spec.specs.Laws.{HasShortTerm}
use Rattle.raft_spec.specs.Log.{Entry}
use Rattle.raft_spec.specs.Node.{Server}
use Rattle.raft_spec.specs.NodeValues.{node_of}
use Rattle.raft_core.specs.declared.event.RaftEvent.{RaftEvent}
use Rattle.raft_core.specs.declared.event.RaftEvent.TheVariants as events
use Rattle.client_sessions.specs.Seen as clients
use Rattle.raft_membership.specs.Members.{AllStand}
use Rattle.raft_on_disk.specs.Looking.{puts_snapshot}
use Rattle.raft_on_disk.specs.Replicas.{ReplicaValue, IsKept, IsWhole, HasMoved, bytes_after, stepped, snap_after}
use Rattle.applied_state.specs.declared.applied.Applied.{Applied}
use Rattle.applied_state.specs.Applied.{HasApplied, HasNoPins}
use Rattle.applied_state.specs.Snapshot.{IsRestored, SpellsSnapshot, made_by, commits_of}
use Rattle.node_core.specs.declared.raft_turn.Offer.{Offer}
use Rattle.node_core.specs.declared.raft_turn.Offer.TheVariants as offers
use Rattle.raft_messages.specs.declared.message.RaftMessage.{RaftMessage}
use Rattle.raft_messages.specs.declared.message.Snapshot.{Snapshot}
use Rattle.raft_messages.specs.declared.message.MessageBody.TheVariants as whats
use Rattle.node_core.specs.declared.fault.NodeFault.{NodeFault}
use Rattle.node_core.specs.declared.fault.NodeFault.TheVariants as node
use Rattle.node_core.specs.declared.node.Node.{Node}
use Rattle.node_core.specs.declared.running.Running.{Running}
use Rattle.node_core.specs.Taking.{IsLostBy}
use Rattle.node_core.specs.Values.{clients_in}
use Rattle.node_core.specs.Waiting.{HasTurns}
use Rattle.node_core.specs.Whole.{InOffice}

-- If the disk kept what Raft is before a part of a step, it does so after it, if that ended well.
abbrev pub StaysStored : {T : Type 0} → Bool → (Disk Text → Type 0) → (Disk Text → Type 0) → ReplicaValue → ReplicaValue → Result T NodeFault → Type 0
StaysStored tells before after was now result = IsKept tells before was → OnOk result (IsKept tells after now)

-- whatever numbers an engine knows, if none represented two images none does
abbrev pub StaysAgreed : Running → Running → Type 0
StaysAgreed old new = (known : List Known) → clients.Agrees known old.clients old.applied.machine → clients.Agrees known new.clients new.applied.machine

-- a step of this event puts no snapshot in the place of entries
abbrev pub PutsNone : ReplicaValue → RaftEvent → Type 0
PutsNone r (events.Message m) = puts_snapshot r m ≡ false
PutsNone r event = Unit {0}

-- The event is a message that puts a snapshot in the place of entries, and this is what the snapshot brings.
pub record Brings (r : ReplicaValue) (event : RaftEvent) (a : Applied) : Type 0 where
  pub message : RaftMessage
  pub snapshot : Snapshot
  pub event_is : event ≡ events.Message message
  pub what_is : message.what ≡ whats.Install snapshot
  pub puts : puts_snapshot r message ≡ true
  pub restored : IsRestored snapshot.index snapshot.bytes a
  pub unpinned : HasNoPins a.machine
  pub shows : (opening : List Server) (front : List Entry) → length front ≡ snapshot.index → SpellsSnapshot (made_by opening front) snapshot.bytes →
      HasApplied opening (commits_of front) front a

-- what comes together with an event of Raft; of a message that counts as lost nothing is done
abbrev pub IsOffer : Running → RaftEvent → Offer → Type 0
IsOffer n event offers.Nothing = PutsNone n.replica event
IsOffer n event (offers.Snapshot a) = Brings n.replica event a
IsOffer n event offers.Lost = IsLostBy n event

-- What no step of Raft changes: the configurations of the log, what is applied except for marks, what sessions are told of servers, what
-- is due, and whether there are peer connections.
pub record KeepsRest (old new : Running) : Type 0 where
  pub members : new.members ≡ old.members
  pub index : new.applied.index ≡ old.applied.index
  pub servers : new.applied.servers ≡ old.applied.servers
  pub seen : new.view.servers ≡ old.view.servers
  pub due : new.due.items ≡ old.due.items
  pub links : new.has_links ≡ old.has_links

-- Raft has made this step, which is kept; its messages are posted, and nothing else has followed yet.
pub record HasMade (old new : Running) (event : RaftEvent) (batch : Option ℕ) : Type 0 where
  pub whole : IsWhole new.replica
  pub short : HasShortTerm (node_of old.replica.raft) → HasShortTerm (node_of new.replica.raft)
  pub node : node_of new.replica.raft ≡ stepped old.replica event
  pub snap : new.replica.snap ≡ snap_after old.replica event
  pub bytes : new.replica.snap.bytes ≡ bytes_after old.replica event
  pub commit : old.replica.raft.commit ≤ new.replica.raft.commit
  pub installed : Bool
  pub moved : HasMoved (node_of old.replica.raft) (node_of new.replica.raft) batch installed
  pub is : new ≡ record old { replica = new.replica; mail = new.mail }

-- Raft has made this step, and the sessions know of a leadership that was lost by it; nothing else has followed yet.
pub record HasStepped (old new : Running) (event : RaftEvent) (batch : Option ℕ) : Type 0 where
  pub whole : IsWhole new.replica
  pub short : HasShortTerm (node_of new.replica.raft)
  pub node : node_of new.replica.raft ≡ stepped old.replica event
  pub snap : new.replica.snap ≡ snap_after old.replica event
  pub bytes : new.replica.snap.bytes ≡ bytes_after old.replica event
  pub commit : old.replica.raft.commit ≤ new.replica.raft.commit
  pub installed : Bool
  pub moved : HasMoved (node_of old.replica.raft) (node_of new.replica.raft) batch installed
  pub stand : clients.AreValidOver new.clients new.applied.machine
  pub turns : HasTurns (clients_in new)
  pub office : InOffice new.office new.view.serving new.replica.raft
  pub rest : KeepsRest old new

-- The configurations have followed the log, and Raft was given the current one if it is another one now.
pub record HasFollowed (old new : Running) : Type 0 where
  pub whole : IsWhole new.replica
  pub short : HasShortTerm (node_of new.replica.raft)
  pub snapshot : new.replica.raft.snapshot ≡ old.replica.raft.snapshot
  pub commit : old.replica.raft.commit ≤ new.replica.raft.commit
  pub stand : AllStand new.members
  pub at : new.members.at ≡ old.members.at
  pub office : InOffice new.office new.view.serving new.replica.raft
  pub is : new ≡ record old { replica = new.replica; members = new.members; mail = new.mail }

-- Raft was given servers: its log, its snapshot and what is committed stay.
pub record HasTold (old new : Running) : Type 0 where
  pub whole : IsWhole new.replica
  pub short : HasShortTerm (node_of new.replica.raft)
  pub snapshot : new.replica.raft.snapshot ≡ old.replica.raft.snapshot
  pub snap : new.replica.snap ≡ old.replica.snap
  pub commit : old.replica.raft.commit ≤ new.replica.raft.commit
  pub is : new ≡ record old { replica = new.replica; mail = new.mail }

-- A node that is down answers so, and neither it nor its disk nor its engine has changed.
pub record StaysDown {T D E : Type 0} (old new : Node) (disk disk_after : D) (engine engine_after : E) (result : Result T NodeFault) : Type 0 where
  pub answers : result ≡ Err node.Down
  pub node : new ≡ old
  pub disk_stays : disk_after ≡ disk
  pub engine_stays : engine_after ≡ engine

abbrev pub IsDown : Node → Type 0
IsDown n = n.is_down ≡ true

abbrev pub IsUp : Node → Type 0
IsUp n = n.is_down ≡ false
