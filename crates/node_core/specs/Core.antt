-- What of a node decides what it does and says, and what the parts of a turn make of it.
use Rattle.std.specs.Prelude.{ℕ, suc, ◌+◌, ◌-◌, ◌==◌, Bool, true, false, not, ◌&&◌, ◌||◌, cond, nat_le, nat_lt}
use Rattle.std.specs.Prelude.{List, [], ◌∷◌, ◌++◌, length, map, drop, is_none, Option, Some, None}
use Rattle.std.specs.List.{filter, list_all, slice_get}
use Rattle.client_connection.specs.declared.connection.CloseReason.{CloseReason}
use Rattle.client_connection.specs.declared.connection.CloseReason.TheVariants.{Limit}
use Rattle.client_connection.specs.Connection.{Conn, opened, received}
use Rattle.wire_msgs.specs.declared.response.Response.{Response}
use Rattle.session_spec.specs.Entries.{Content, Does, Configures, Other, written}
use Rattle.session_spec.specs.Events.{on_applied, told_applied, on_lost, told_lost, on_hangup, connected}
use Rattle.session_spec.specs.Machine.{Machine, machine_of, done}
use Rattle.session_spec.specs.Requests.{with_session}
use Rattle.session_spec.specs.Seen.{log_seen}
use Rattle.session_spec.specs.Sessions.{Session, Gateway, View}
use Rattle.session_table.specs.Sweeping.{all_told}
use Rattle.client_sessions.specs.Calls.{sent, told_conns, bytes_of}
use Rattle.client_sessions.specs.Clients.{Clients, Offer, with_stream, closing}
use Rattle.client_sessions.specs.declared.connect_result.ConnectResult.{ConnectResult}
use Rattle.client_sessions.specs.declared.connect_result.ConnectResult.TheVariants as joinings
use Rattle.raft_spec.specs.Log.{Entry}
use Rattle.raft_spec.specs.Node as raft
use Rattle.raft_spec.specs.Node.{Server, is_leader}
use Rattle.raft_spec.specs.NodeValues as values
use Rattle.raft_safety.specs.Members.{any_change}
use Rattle.raft_membership.specs.Members.{Configurations, first_of, cut_at, settled, all_changed, read_setup}
use Rattle.raft_core.specs.Queries.{leader_at}
use Rattle.raft_core.specs.declared.event.RaftEvent.{RaftEvent}
use Rattle.raft_core.specs.declared.event.RaftEvent.TheVariants as events
use Rattle.store_laws.specs.Store.{Snap}
use Rattle.database_state.specs.Restoring.{restored}
use Rattle.raft_on_disk.specs.Mails.{MailValue, no_mail}
use Rattle.applied_state.specs.Applied.{servers_after}
use Rattle.applied_state.specs.Office.{owed, office_after, serves}
use Rattle.applied_state.specs.Snapshot.{NodeSnapshot}
use Rattle.applied_state.specs.declared.effect.AppliedEffect.{AppliedEffect}
use Rattle.applied_state.specs.declared.leadership.Leadership.{Leadership}
use Rattle.applied_state.specs.declared.leadership.LeadershipPhase.TheVariants.{Barrier}
use Rattle.node_core.specs.declared.links.Link.{Link}
use Rattle.node_core.specs.declared.running.Running.{Running}
use Rattle.node_core.specs.Plain.{plain_session, plain_gate}
use Rattle.node_core.specs.Values.{clients_in}

-- All of a node that decides what it does and says. It has neither the store nor the marks of the databases; of its engine's answers the
-- numbers of transactions are put away.
pub record Core : Type 0 where
  pub me : ℕ
  pub raft : raft.Node
  pub snap : Snap
  pub members : Configurations
  pub applied : ℕ
  pub servers : List Server
  pub files : Machine
  pub sessions : Gateway
  pub streams : ℕ → Option Conn
  pub turns : List ℕ
  pub view : View
  pub office : Option Leadership
  pub due : List RaftEvent
  pub heard : Option ℕ
  pub links : List Link
  pub mail : MailValue
  pub replies : List (ℕ × List ℕ)
  pub closed : List (ℕ × CloseReason)

unfoldable pub core_of : Running → Core
core_of n = record {
  me = n.replica.id;
  raft = values.node_of n.replica.raft;
  snap = n.replica.snap;
  members = n.members;
  applied = n.applied.index;
  servers = n.applied.servers;
  files = machine_of n.applied.machine;
  sessions = plain_gate (clients_in n).sessions;
  streams = (clients_in n).streams;
  turns = (clients_in n).turns;
  view = n.view;
  office = n.office;
  due = n.due.items;
  heard = n.heard;
  links = n.links.all.items;
  mail = n.mail;
  replies = n.outs.replies.items;
  closed = n.outs.closed.items;
}

-- its clients
abbrev pub clients_at : Core → Clients
clients_at w = record { sessions = w.sessions; streams = w.streams; turns = w.turns }

-- ---- what it is for its sessions

-- the peers whose log is known to reach a leader's last index
abbrev pub is_even : raft.Node → Server → Bool
is_even r server = is_leader r.role && (r.match_of server.id == length r.log)

abbrev pub evens : raft.Node → List Server → List ℕ
evens r servers = map (λ (server : Server). server.id) (filter (is_even r) servers)

-- up to which index a leader knows that a server's log agrees with its own, which agrees whole
abbrev pub known_match : ℕ → raft.Node → ℕ → ℕ
known_match me r id = cond (id == me) (length r.log) (r.match_of id)

-- a leader knows that the server has entries, and that it lacks at most the last 16
abbrev pub is_near : ℕ → raft.Node → Server → Bool
is_near me r server = is_leader r.role && nat_lt 0 (known_match me r server.id) && nat_le (length r.log - known_match me r server.id) 16

abbrev pub nears : ℕ → raft.Node → List Server → List ℕ
nears me r servers = map (λ (server : Server). server.id) (filter (is_near me r) servers)

-- after a step of Raft
abbrev pub looked : Core → Core
looked w = record w {
  view = record w.view {
    leader = leader_at w.raft.leader;
    term = w.raft.term;
    last = length w.raft.log;
    even = evens w.raft w.view.servers;
    near = nears w.me w.raft w.view.servers;
  };
}

-- the servers that are applied are others
abbrev pub with_servers_seen : Core → Core
with_servers_seen w = record w { view = record w.view { servers = w.servers } }

abbrev pub showing_servers : Core → Core
showing_servers w = looked (with_servers_seen w)

-- ---- the leadership

abbrev pub won_by : Option Leadership → raft.Node → Option Leadership
won_by (Some office) r = Some office
won_by None r = cond (is_leader r.role) (Some (record { term = r.term; phase = Barrier (length r.log) })) None

abbrev pub won : Core → Core
won w = record w { office = won_by w.office w.raft }

-- a step has ended this leadership
abbrev pub has_lost : Option Leadership → raft.Node → Bool
has_lost None r = false
has_lost (Some office) r = not (is_leader r.role && (office.term == r.term))

-- what was open or pending has ended, and who waited is told
abbrev pub losing : Core → Core
losing w = record w {
  sessions = on_lost w.sessions;
  turns = w.turns ++ told_conns (all_told (told_lost w.sessions));
  replies = w.replies ++ sent (all_told (told_lost w.sessions));
}

abbrev pub leaving : Core → Core
leaving w = record w { office = None; view = record w.view { serving = false } }

abbrev pub ended : Core → Core
ended w = cond (has_lost w.office w.raft) (losing (leaving w)) w

-- ---- configurations

-- they follow the log, which is another one from this index on
abbrev pub followed : Option ℕ → Core → Core
followed None w = w
followed (Some first) w = record w { members = all_changed (cut_at w.members first) first (drop (first - 1) w.raft.log) }

-- others may be current then
abbrev pub are_others : Option ℕ → Core → Bool
are_others None w = false
are_others (Some first) w = nat_lt (length (cut_at w.members first).later) (length w.members.later) || any_change (read_setup []) (drop (first - 1) w.raft.log)

-- ---- a snapshot that has come

-- databases, servers and index are those of a snapshot, and the configurations those of the log after it
abbrev pub replaced : ℕ → NodeSnapshot → Core → Core
replaced index s w = record w {
  members = all_changed (first_of s.servers w.snap.index) (suc w.snap.index) (drop w.snap.index w.raft.log);
  applied = index;
  servers = s.servers;
  files = machine_of (restored s.contents);
}

-- ---- an entry is applied

-- the next entry of the log
abbrev pub entry_at : Core → Option Entry
entry_at w = slice_get (drop w.raft.base w.raft.log) (w.applied - w.raft.base)

abbrev pub entered : Content → Core → Core
entered content w = record w {
  applied = suc w.applied;
  servers = servers_after w.servers content;
  files = done w.files content;
  members = settled w.members (suc w.applied);
}

-- sessions see other servers
abbrev pub shown : Content → Core → Core
shown (Does command) w = w
shown (Configures servers) w = showing_servers w
shown Other w = w

-- whose proposal ends with it is told
abbrev pub landing : Core → Core
landing w = record w {
  sessions = on_applied w.applied w.sessions;
  turns = w.turns ++ told_conns (all_told (told_applied w.applied w.sessions));
  replies = w.replies ++ sent (all_told (told_applied w.applied w.sessions));
}

abbrev pub entry_done : Content → Core → Core
entry_done content w = landing (shown content (entered content w))

-- ---- what a leader owes

abbrev pub is_calm : Machine → Bool
is_calm m = list_all (λ (name : List ℕ). is_none (m.base name).pending) m.names

abbrev pub none_due : List RaftEvent → Bool
none_due [] = true
none_due (event ∷ due) = false

-- nothing is to be given to Raft, all of the log is applied, and no pages are pending
abbrev pub is_settled : Core → Bool
is_settled w = none_due w.due && (w.applied == w.view.last) && is_calm w.files

abbrev pub serving_from : Bool → Core → Core
serving_from may w = cond (may && not w.view.serving && is_settled w) (record w { view = record w.view { serving = true } }) w

abbrev pub giving : RaftEvent → Core → Core
giving event w = record w { due = w.due ++ event ∷ [] }

-- it proposes what it owes; if it owes nothing it may serve from now on
abbrev pub owing : Leadership → List Content → Core → Core
owing office [] w = serving_from (serves office.phase) w
owing office (c ∷ cs) w = giving (events.Propose (written office.term (c ∷ cs))) w

-- the entries after the applied ones
abbrev pub waiting : Core → List Entry
waiting w = drop w.applied w.raft.log

abbrev pub duty_of : Option Leadership → AppliedEffect → Core → Core
duty_of None effect w = w
duty_of (Some office) effect w =
    owing (office_after office w.applied w.files) (owed office.phase w.applied w.files effect (log_seen (waiting w)))
    (record w { office = Some (office_after office w.applied w.files) })

abbrev pub dutiful : AppliedEffect → Core → Core
dutiful effect w = duty_of w.office effect w

-- ---- clients

-- a client is told this
abbrev pub replied : ℕ → List Response → Core → Core
replied conn responses w = record w { replies = w.replies ++ map (λ (message : List ℕ). (conn, message)) (bytes_of responses) }

abbrev pub with_its : ℕ → Session → Core → Core
with_its conn s w = record w { sessions = with_session w.sessions conn (plain_session s) }

-- the message whose turn it is is taken; without one, no connection's turn is left
abbrev pub taking : Offer → Core → Core
taking offer w = record w { streams = with_stream w.streams offer.conn (Some offer.stream); turns = offer.turns }

abbrev pub idle : Core → Core
idle w = record w { turns = [] }

-- a connection comes, by how it does
abbrev pub joined_by : ConnectResult → ℕ → Core → Core
joined_by joinings.Joined conn w = record w { sessions = connected w.sessions conn; streams = with_stream w.streams conn (Some opened) }
joined_by joinings.Full conn w = record w { closed = w.closed ++ (conn, Limit) ∷ [] }
joined_by joinings.Taken conn w = w

-- bytes come on a connection
abbrev pub heard_by : Option Conn → ℕ → List ℕ → Core → Core
heard_by None conn bytes w = w
heard_by (Some stream) conn bytes w = record w { streams = with_stream w.streams conn (Some (received stream bytes)); turns = w.turns ++ conn ∷ [] }

abbrev pub hearing : ℕ → List ℕ → Core → Core
hearing conn bytes w = heard_by (w.streams conn) conn bytes (record w { heard = Some conn })

-- a connection that is open goes
abbrev pub gone : ℕ → Core → Core
gone conn w = record w { sessions = on_hangup w.sessions conn; streams = with_stream w.streams conn None }

abbrev pub gone_by : Option Conn → ℕ → Core → Core
gone_by None conn w = w
gone_by (Some stream) conn w = gone conn w

abbrev pub hanging_up : ℕ → Core → Core
hanging_up conn w = gone_by (w.streams conn) conn w

-- the connection whose bytes came goes where its stream has ended
abbrev pub closed_for : Option CloseReason → ℕ → Core → Core
closed_for None conn w = w
closed_for (Some reason) conn w = record (gone conn w) { closed = w.closed ++ (conn, reason) ∷ [] }

abbrev pub closing_heard : ℕ → Core → Core
closing_heard conn w = closed_for (closing (w.streams conn)) conn (record w { heard = None })

-- what was said is taken
abbrev pub silent : Core → Core
silent w = record w { mail = no_mail; replies = []; closed = [] }
