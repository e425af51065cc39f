-- A step of Raft within a turn: what it leaves is kept, what it says is posted, and sessions follow its leadership.
use Rattle.std.specs.Prelude.{◌≡◌, ◌≢◌, ◌<◌, ℕ, Bool, true, false, not, ◌&&◌, ◌||◌, ◌==◌, List, [], ◌∷◌, ◌++◌, map, Option, Some, None}
use Rattle.database_state.specs.Machines.{IsMachine}
use Rattle.session_spec.specs.Machine.{machine_of}
use Rattle.session_spec.specs.Sessions.{Reply}
use Rattle.raft_spec.specs.Log.{Entry}
use Rattle.raft_spec.specs.Node as raft
use Rattle.raft_spec.specs.Node.{is_leader, voters}
use Rattle.raft_spec.specs.NodeValues.{NodeValue}
use Rattle.raft_messages.specs.declared.message.RaftMessage.{RaftMessage}
use Rattle.raft_messages.specs.Messages.{message_value}
use Rattle.raft_core.specs.declared.event.RaftEvent.{RaftEvent}
use Rattle.raft_core.specs.declared.event.RaftEvent.TheVariants as events
use Rattle.raft_core.specs.Events.{input_of}
use Rattle.raft_membership.specs.Members.{configuration_in, last_index, last_servers}
use Rattle.raft_safety.specs.Members.{Setup, is_change}
use Rattle.client_sessions.specs.Calls.{lost_all, told_all_lost}
use Rattle.applied_state.specs.declared.leadership.Leadership.{Leadership as Held}
use Rattle.raft_on_disk.specs.Mails.{all_posted}
use Rattle.raft_on_disk.specs.Replicas.{kept_of}
use Rattle.node_spec.specs.Accounts.{SameTerm}
use Rattle.node_spec.specs.RaftTurns.{RaftSteps, Leaves, LeadershipFollows, Follows, Installs}
use Rattle.node_spec.specs.Steps.{AllSent}
use Rattle.node_spec.specs.Turns.{Proposes}
use Rattle.node_spec.specs.Changes.{are_near}
use Rattle.node_spec.specs.Voting.{IsPlain, OwnsCommit, MayChange}
use Rattle.node_core.specs.declared.running.Running.{Running}
use Rattle.node_core.specs.Account.{moment_of, bytes_in, letter_of, Sends, Fresh}
use Rattle.node_core.specs.Values.{seen, clients_in}
use Rattle.node_core.specs.Voters.{Beside, BesideAll}

-- ---- a step

-- Raft has made a step of this input, which is kept. Its messages are posted after those that were, and a snapshot that is sent is the kept one.
pub record Posts (old new : Running) (i : raft.Input) : Type 0 where
  pub posted : List RaftMessage
  pub steps : RaftSteps old.replica.id (moment_of old) (moment_of new) i (map letter_of posted)
  pub mail : new.mail ≡ all_posted old.mail posted
  pub sent : AllSent (kept_of old.replica) (kept_of new.replica) (map letter_of posted)
  pub id : new.replica.id ≡ old.replica.id

-- It left the log, and all else: term, leadership, the kept snapshot, clients and databases.
pub record KeepsAllButLog (old new : Running) (i : raft.Input) : Type 0 where
  pub posts : Posts old new i
  pub leaves : Leaves old.replica.id (moment_of old) (moment_of new) i (map letter_of posts.posted)
  pub outs : new.outs ≡ old.outs
  pub same : SameTerm (moment_of old) (moment_of new)
  pub snap : (kept_of old.replica).snap ≡ (kept_of new.replica).snap

-- or nothing has changed
pub data MaybeToldServers (old new : Running) : Type 0 where
  untold : new ≡ old → MaybeToldServers old new
  told_servers : (servers : List raft.Server) → KeepsAllButLog old new (raft.Local (raft.UseServers servers)) → MaybeToldServers old new

-- what it was told
abbrev pub told_inputs : {old new : Running} → MaybeToldServers old new → List raft.Input
told_inputs (untold e) = []
told_inputs (told_servers servers l) = raft.Local (raft.UseServers servers) ∷ []

-- After a step the configurations have followed the log. They stayed; or the node doesn't follow, whose own entries were told before; or
-- Raft was given the current one.
pub data ToldServersAfter (old new : Running) : Type 0 where
  same_members : new ≡ old → ToldServersAfter old new
  own_log : new ≡ record old { members = new.members } → old.replica.raft.role ≢ raft.Follower → ToldServersAfter old new
  told_current : KeepsAllButLog (record old { members = new.members }) new (raft.Local (raft.UseServers (last_servers new.members))) → ToldServersAfter old new

-- A node gives its Raft the current configuration where it follows.
pub data TellsCurrentServers (old new : Running) : Type 0 where
  stays_own : new ≡ old → old.replica.raft.role ≢ raft.Follower → TellsCurrentServers old new
  tells_current : KeepsAllButLog old new (raft.Local (raft.UseServers (last_servers old.members))) → TellsCurrentServers old new

-- the entry at the commit index is held, and of the node's own term
abbrev pub HoldsCommit : NodeValue → Type 0
HoldsCommit h = (h.base < h.commit) × OwnsCommit h

-- A change to these servers may be proposed: the node has applied all that is committed, the last of it held and of its own term, and each
-- change of its log; and their voters are those of the applied configuration, or one more or less.
pub record MayChangeTo (n : Running) (servers : List raft.Server) : Type 0 where
  pub at : n.members.at ≡ n.replica.raft.commit
  pub none : last_index n.members ≡ n.members.at
  pub held : n.replica.raft.base < n.replica.raft.commit
  pub barrier : OwnsCommit n.replica.raft
  pub near : are_near (voters n.members.servers) (voters servers) ≡ true

-- what a look at that answers
abbrev pub DecidesChange : Bool → Running → List raft.Server → Type 0
DecidesChange true n servers = MayChangeTo n servers
DecidesChange false n servers = MayChangeTo n servers → ⊥

-- one of these entries is of the kind that changes servers
abbrev pub has_change : List Entry → Bool
has_change [] = false
has_change (e ∷ es) = is_change e.kind || has_change es

-- The event proposes an entry that changes servers, and it isn't one change alone that may be proposed now.
abbrev pub IsUnfit : Running → RaftEvent → Type 0
IsUnfit n (events.Propose entries) =
    (has_change entries ≡ true)
    × ((entry : Entry) (servers : List raft.Server) → entries ≡ entry ∷ [] → configuration_in entry ≡ Some servers → MayChangeTo n servers → ⊥)
IsUnfit n event = ⊥

-- Before an own step: it isn't that of a change, and nothing has changed; or a leader may propose its change, of which Raft was given the servers.
pub data ToldChange (old new : Running) (event : RaftEvent) : Type 0 where
  no_change : IsPlain (input_of event) → new ≡ old → ToldChange old new event
  change_told : (entry : Entry) (servers : List raft.Server) → event ≡ events.Propose (entry ∷ []) → MayChange (seen old) entry servers →
      KeepsAllButLog old new (raft.Local (raft.UseServers servers)) → ToldChange old new event

-- A leader took the first proposal that was due, and nothing else has changed.
pub record ProposesFirst (old new : Running) (entries : List Entry) : Type 0 where
  pub posts : Posts old new (raft.Local (raft.Propose entries))
  pub proposes : Proposes old.replica.id (moment_of old) (moment_of new) entries (map letter_of posts.posted)
  pub outs : new.outs ≡ old.outs
  pub same : SameTerm (moment_of old) (moment_of new)
  pub snap : (kept_of old.replica).snap ≡ (kept_of new.replica).snap

-- ---- a leadership that is lost

-- a step has ended this leadership
abbrev pub ends_office : Option Held → NodeValue → Bool
ends_office None h = false
ends_office (Some office) h = not (is_leader h.role && (office.term == h.term))

-- The clients of a leadership that was lost were told, and what was open or pending has ended.
pub record LosesLeadership (old new : Running) : Type 0 where
  pub clients : clients_in new ≡ lost_all (clients_in old)
  pub told : new.outs.replies.items ≡ old.outs.replies.items ++ told_all_lost (clients_in old)
  pub reads : new.outs.reads.items ≡ old.outs.reads.items
  pub files : machine_of new.applied.machine ≡ machine_of old.applied.machine
  pub machine : IsMachine new.applied.machine

-- What a step left of sessions and service, and who was informed.
pub record FollowsLeadership (old new : Running) : Type 0 where
  pub replies : List (ℕ × Reply)
  pub office : LeadershipFollows (moment_of old) (moment_of new) replies
  pub told : List (ℕ × List ℕ)
  pub outs : new.outs.replies.items ≡ old.outs.replies.items ++ told
  pub tells : Sends replies told
  pub reads : new.outs.reads.items ≡ old.outs.reads.items
  pub waiting : (conn : ℕ) → (moment_of new).node.waiting conn ≡ (moment_of old).node.waiting conn
  pub machine : IsMachine new.applied.machine
  pub files : machine_of new.applied.machine ≡ machine_of old.applied.machine

-- ---- the step of an event from outside

-- A step in which no snapshot came.
pub record StepsWithoutSnapshot (old new : Running) (i : raft.Input) : Type 0 where
  pub posts : Posts old new i
  pub replies : List (ℕ × Reply)
  pub follows : Follows old.replica.id (moment_of old) (moment_of new) i (map letter_of posts.posted) replies
  pub told : List (ℕ × List ℕ)
  pub outs : new.outs.replies.items ≡ old.outs.replies.items ++ told
  pub tells : Sends replies told
  pub reads : new.outs.reads.items ≡ old.outs.reads.items

-- A step that put a snapshot in the place of entries, with these bytes.
pub record StepsWithSnapshot (setup : Setup) (old new : Running) (bytes : List ℕ) (message : raft.Message) : Type 0 where
  pub posts : Posts old new (raft.Receive message)
  pub replies : List (ℕ × Reply)
  pub installs : Installs setup old.replica.id (moment_of old) (moment_of new) bytes message (map letter_of posts.posted) replies
  pub told : List (ℕ × List ℕ)
  pub outs : new.outs.replies.items ≡ old.outs.replies.items ++ told
  pub tells : Sends replies told
  pub reads : new.outs.reads.items ≡ old.outs.reads.items

-- ---- what a turn of Raft's shows

-- An event from outside, without a snapshot: Raft's step, and then it may be given other servers.
pub record TurnsWithoutSnapshot (old new : Running) (event : RaftEvent) : Type 0 where
  pub mid : Running
  pub follows : StepsWithoutSnapshot old mid (input_of event)
  pub last : Running
  pub tells : MaybeToldServers mid last
  pub beside : BesideAll old last (input_of event ∷ told_inputs tells)
  pub fresh : Fresh last new

-- A message that brought a snapshot: Raft's step, and then it may be given the snapshot's servers.
pub record TurnsWithSnapshot (setup : Setup) (old new : Running) (event : RaftEvent) : Type 0 where
  pub message : RaftMessage
  pub event_is : event ≡ events.Message message
  pub mid : Running
  pub installs : StepsWithSnapshot setup old mid (bytes_in message.what) (message_value message)
  pub last : Running
  pub tells : MaybeToldServers mid last
  pub beside : Beside setup old last (bytes_in message.what) (raft.Receive (message_value message) ∷ told_inputs tells)
  pub fresh : Fresh last new

-- What the node gave Raft itself: a proposal, before which Raft was given the servers that it makes, if any; or a leadership is handed over.
pub data TakesOwnStep (old new : Running) : Type 0 where
  owns_proposal : (mid last : Running) (entries : List Entry) (tells : MaybeToldServers old mid) → ProposesFirst mid last entries →
      BesideAll old last (told_inputs tells ++ raft.Local (raft.Propose entries) ∷ []) → Fresh last new → TakesOwnStep old new
  owns_transfer : (mid last : Running) (to : ℕ) (tells : MaybeToldServers old mid) → KeepsAllButLog mid last (raft.Local (raft.Transfer to)) →
      BesideAll old last (told_inputs tells ++ raft.Local (raft.Transfer to) ∷ []) → Fresh last new → TakesOwnStep old new

-- An event was the first of what was due.
pub record TookFirstDue (event : RaftEvent) (before now : Running) : Type 0 where
  pub first : before.due.items ≡ event ∷ now.due.items
  pub is : now ≡ record before { due = now.due }

-- only who leads proposes
abbrev pub MayTake : RaftEvent → NodeValue → Type 0
MayTake (events.Propose entries) h = is_leader h.role ≡ true
MayTake event h = Unit {0}

-- Nothing was due, and nothing has changed.
pub record HadNoneDue (old new : Running) : Type 0 where
  pub was : old.due.items ≡ []
  pub now : new.due.items ≡ []
  pub is : new ≡ record old { due = new.due }
