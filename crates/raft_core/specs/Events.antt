-- Events, and what a step hands to the node's owner.
use Rattle.std.specs.Prelude.{◌≡◌, ◌≢◌, ◌⊎◌, ℕ, false, Option, Some, None, option_map}
use Rattle.raft_spec.specs.Node as rules
use Rattle.raft_spec.specs.Outcomes.{quiet}
use Rattle.raft_spec.specs.Elections.{start_election, on_yield}
use Rattle.raft_spec.specs.Replication.{on_propose, on_beat, on_transfer}
use Rattle.raft_spec.specs.Snapshots.{on_snapped}
use Rattle.raft_spec.specs.Receiving.{on_message}
use Rattle.raft_spec.specs.NodeValues.{NodeValue, node_of}
use Rattle.raft_spec.specs.Todo.{IsLogWrite}
use Rattle.raft_messages.specs.declared.message.Snapshot.{Snapshot}
use Rattle.raft_messages.specs.declared.message.MessageBody.{MessageBody}
use Rattle.raft_messages.specs.declared.message.MessageBody.TheVariants as whats
use Rattle.raft_messages.specs.Messages.{snapshot_end, message_value}
use Rattle.raft_messages.specs.Servers.{IsConfiguration}
use Rattle.raft_core.specs.declared.event.RaftEvent.{RaftEvent}
use Rattle.raft_core.specs.declared.event.RaftEvent.TheVariants as events
use Rattle.raft_core.specs.declared.effects.LogChange.{LogChange}
use Rattle.raft_core.specs.declared.effects.LogChange.TheVariants as changes
use Rattle.raft_core.specs.Effects.{ChangesLog}
use Rattle.raft_core.specs.Nodes.{told}

-- the rules' input
abbrev pub input_of : RaftEvent → rules.Input
input_of events.Timeout = rules.Local rules.Timeout
input_of events.Beat = rules.Local rules.Beat
input_of events.Yield = rules.Local rules.Yield
input_of (events.Message message) = rules.Receive (message_value message)
input_of (events.Propose entries) = rules.Local (rules.Propose entries)
input_of (events.Transfer to) = rules.Local (rules.Transfer to)
input_of (events.Snapped end) = rules.Local (rules.Snapped end.index)
input_of (events.Servers servers) = rules.Local (rules.UseServers servers)

-- the servers that a node is given may stand together, and a candidate is given no other voters
abbrev pub EventFits : NodeValue → RaftEvent → Type 0
EventFits h (events.Servers servers) = IsConfiguration servers × (h.role ≡ rules.Candidate → rules.voters servers ≡ rules.voters h.servers)
EventFits h event = Unit {0}

-- the rule of an event, except for other servers
abbrev pub rule_at : NodeValue → RaftEvent → rules.Outcome
rule_at h events.Timeout = start_election (told h) h.id (node_of h) false
rule_at h events.Beat = on_beat (node_of h)
rule_at h events.Yield = on_yield (node_of h)
rule_at h (events.Message message) = on_message (told h) h.id (node_of h) (message_value message)
rule_at h (events.Propose entries) = on_propose (node_of h) entries
rule_at h (events.Transfer to) = on_transfer h.id (node_of h) to
rule_at h (events.Snapped end) = on_snapped (node_of h) end.index
rule_at h (events.Servers servers) = quiet (node_of h)

-- the event is another one than that of other servers
abbrev pub IsRuled : RaftEvent → Type 0
IsRuled (events.Servers servers) = ⊥
IsRuled event = Unit {0}

-- if the log has changed; the owner has kept its own snapshot, and the log that is left with it
abbrev pub ChangesAt : RaftEvent → rules.Node → rules.Node → LogChange → Type 0
ChangesAt (events.Snapped end) s t change = change ≡ changes.Nothing
ChangesAt event s t change = ChangesLog s t change

-- ---- what is to be kept

-- term and vote, if one of them isn't these
abbrev pub IsMeta : ℕ → ℕ → NodeValue → Option (ℕ × ℕ) → Type 0
IsMeta term vote now None = (now.term ≡ term) × (now.vote ≡ vote)
IsMeta term vote now (Some meta) = ((now.term ≢ term) ⊎ (now.vote ≢ vote)) × (meta.0 ≡ now.term) × (meta.1 ≡ now.vote)

-- from where on entries are to be kept
abbrev pub first_at : LogChange → Option ℕ
first_at changes.Nothing = None
first_at (changes.From k) = Some k
first_at (changes.Installed last) = None

-- the snapshot that a message brings
abbrev pub brought : MessageBody → Option Snapshot
brought (whats.Install snapshot) = Some snapshot
brought (whats.AskVote last transfer) = None
brought (whats.Vote granted) = None
brought (whats.Append prev commit entries) = None
brought (whats.Ack good index) = None
brought whats.TimeoutNow = None

-- the snapshot that an event brings
abbrev pub offered : RaftEvent → Option Snapshot
offered (events.Message message) = brought message.what
offered events.Timeout = None
offered events.Beat = None
offered events.Yield = None
offered (events.Propose entries) = None
offered (events.Transfer to) = None
offered (events.Snapped end) = None
offered (events.Servers servers) = None

-- of that one what is to be kept, if it has come in the log's place
abbrev pub kept_at : LogChange → Option Snapshot → Option Snapshot
kept_at changes.Nothing came = None
kept_at (changes.From k) came = None
kept_at (changes.Installed last) came = came

-- a snapshot that is to be kept is the very one that the event brings
abbrev pub IsOffered : RaftEvent → Option Snapshot → Type 0
IsOffered event None = Unit {0}
IsOffered event (Some snapshot) = offered event ≡ Some snapshot

-- A snapshot or a batch that makes the log of the new node; none if the owner has kept its own snapshot.
abbrev pub WritesLog : RaftEvent → rules.Node → rules.Node → Option Snapshot → Option ℕ → Type 0
WritesLog (events.Snapped end) s t install batch = (install ≡ None) × (batch ≡ None)
WritesLog event s t install batch = IsLogWrite s t (option_map snapshot_end install) batch
