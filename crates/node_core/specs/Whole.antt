-- What holds of a node between two steps, and at each moment of one.
use Rattle.std.specs.Prelude.{◌≡◌, ◌≤◌, Bool, true, false, List, [], length, Option, Some, None}
use Rattle.std.specs.List.{AllByRecursion}
use Rattle.raft_spec.specs.Laws as raft
use Rattle.raft_spec.specs.Node.{is_leader}
use Rattle.raft_spec.specs.NodeValues as values
use Rattle.raft_spec.specs.NodeValues.{NodeValue}
use Rattle.raft_messages.specs.Servers.{IsConfiguration}
use Rattle.raft_membership.specs.Members.{AllStand}
use Rattle.raft_core.specs.declared.event.RaftEvent.{RaftEvent}
use Rattle.raft_core.specs.declared.event.RaftEvent.TheVariants as events
use Rattle.sql_engine.specs.Known.{Known}
use Rattle.client_sessions.specs.Seen as clients
use Rattle.client_sessions.specs.Seen.{AreValidOver}
use Rattle.applied_state.specs.declared.leadership.Leadership.{Leadership}
use Rattle.applied_state.specs.Office.{serves}
use Rattle.raft_on_disk.specs.Mails.{no_mail}
use Rattle.raft_on_disk.specs.Replicas.{IsWhole}
use Rattle.node_core.specs.declared.node.Node.{Node}
use Rattle.node_spec.specs.Accounts.{Moment}
use Rattle.node_spec.specs.RaftTurns.{HasEnded}
use Rattle.node_core.specs.declared.running.Running.{Running}
use Rattle.node_core.specs.Account.{moment_of}
use Rattle.node_core.specs.Carrying.{first_waiting}
use Rattle.node_core.specs.Values.{clients_in}
use Rattle.node_core.specs.Waiting.{HasTurns}

-- What happens at Raft: neither an own snapshot, which is kept first, nor other servers, which follow the log.
abbrev pub IsDue : RaftEvent → Type 0
IsDue (events.Snapped end) = ⊥
IsDue (events.Servers servers) = ⊥
IsDue event = Unit {0}

-- What the node itself gives Raft, which is due until its turn comes: proposals, and a leadership that is handed over.
abbrev pub IsOwnDue : RaftEvent → Type 0
IsOwnDue (events.Propose entries) = Unit {0}
IsOwnDue (events.Transfer to) = Unit {0}
IsOwnDue event = ⊥

-- What comes from outside, and is taken at once.
abbrev pub IsOutside : RaftEvent → Type 0
IsOutside events.Timeout = Unit {0}
IsOutside events.Beat = Unit {0}
IsOutside events.Yield = Unit {0}
IsOutside (events.Message message) = Unit {0}
IsOutside event = ⊥

-- Who is in a leadership leads in its term; who is in none doesn't serve.
abbrev pub InOffice : Option Leadership → Bool → NodeValue → Type 0
InOffice None serving h = serving ≡ false
InOffice (Some office) serving h = (is_leader h.role ≡ true) × (office.term ≡ h.term)

-- At each moment of a step: each part is whole, whose message waits has a turn, and the configurations and the databases are those of the log up to the applied
-- index, which the snapshot doesn't pass and the commit index does not fall behind.
pub record Holds (n : Running) : Type 0 where
  pub replica : IsWhole n.replica
  pub short : raft.HasShortTerm (values.node_of n.replica.raft)
  pub clients : AreValidOver n.clients n.applied.machine
  pub turns : HasTurns (clients_in n)
  pub servers : IsConfiguration n.applied.servers
  pub members : AllStand n.members
  pub at : n.members.at ≡ n.applied.index
  pub low : n.replica.raft.snapshot.index ≤ n.applied.index
  pub high : n.applied.index ≤ n.replica.raft.commit
  pub due : AllByRecursion IsOwnDue n.due.items

-- ---- the leadership, between two turns

-- who is in no leadership doesn't lead
abbrev pub LeadsInOffice : Option Leadership → NodeValue → Type 0
LeadsInOffice None h = is_leader h.role ≡ false
LeadsInOffice (Some office) h = Unit {0}

-- who is in a leadership serves in its last phase only
abbrev pub ServesLast : Option Leadership → Bool → Type 0
ServesLast None serving = Unit {0}
ServesLast (Some office) serving = serves office.phase ≡ false → serving ≡ false

-- without a leadership nothing is open or pending at the sessions, and nothing is to be proposed
abbrev pub IsFree : Option Leadership → Moment → Type 0
IsFree None a = HasEnded a.node.sessions × (a.due ≡ [])
IsFree (Some office) a = Unit {0}

-- Who leads is in a leadership, and serves in its last phase; and without a leadership nothing is left of one.
pub record IsLed (n : Running) : Type 0 where
  pub leads : LeadsInOffice n.office n.replica.raft
  pub serves : ServesLast n.office n.view.serving
  pub free : IsFree n.office (moment_of n)

-- Between two turns of a step its sessions are told of these servers, of Raft's term and of its log's last index, and that it serves only
-- in its leadership.
pub record IsGoing (n : Running) : Type 0 where
  pub holds : Holds n
  pub office : InOffice n.office n.view.serving n.replica.raft
  pub seen : n.view.servers ≡ n.applied.servers
  pub in_term : n.view.term ≡ n.replica.raft.term
  pub last : n.view.last ≡ length (values.node_of n.replica.raft).log

-- nothing is said
pub record IsQuiet (n : Running) : Type 0 where
  pub mail : n.mail ≡ no_mail
  pub replies : n.outs.replies.items ≡ []
  pub closed : n.outs.closed.items ≡ []
  pub messages : n.outs.messages.items ≡ []
  pub reads : n.outs.reads.items ≡ []

-- Between two steps: all that is committed is applied, and nothing is left to do or to say.
pub record Rests (n : Running) : Type 0 where
  pub going : IsGoing n
  pub led : IsLed n
  pub applied : n.applied.index ≡ n.replica.raft.commit
  pub idle : n.due.items ≡ []
  pub turns : (clients_in n).turns ≡ []
  pub heard : n.heard ≡ None
  pub quiet : IsQuiet n

-- A node that isn't down rests. Each call leaves it so, whatever it answers.
abbrev pub IsSound : Node → Type 0
IsSound n = n.is_down ≡ false → Rests n.running

-- Nothing is left to do: nothing is due at Raft, no message's turn is left, none of a peer waits where there are peer connections, no connection is to
-- be looked at, and all that is committed is applied.
pub record IsIdle (n : Running) : Type 0 where
  pub due : n.due.items ≡ []
  pub turns : (clients_in n).turns ≡ []
  pub letters : n.has_links ≡ true → first_waiting n.links.all.items ≡ None
  pub heard : n.heard ≡ None
  pub applied : n.applied.index ≡ n.replica.raft.commit

-- no number represents two images: neither for an engine, nor for the clients' transactions, nor for the databases
abbrev pub Agrees : List Known → Node → Type 0
Agrees known n = clients.Agrees known n.running.clients n.running.applied.machine
