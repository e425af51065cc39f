-- What holds of every run of whole nodes, in its own words.
use Rattle.std.specs.Prelude.{◌≡◌, ◌≢◌, ◌⊎◌, ℕ, ◌<◌, ◌≤◌, ◌+◌, ◌-◌, true, cond, ◌==◌, List, [], ◌∷◌, ◌++◌, length, map, take, drop, Option, None, Some, slice_get, false, if◌then◌else◌}
use Rattle.dq_base.specs.declared.pages.NumberedPage.{NumberedPage}
use Rattle.sql_engine.specs.declared.kind.EngineKind.{EngineKind}
use Rattle.sql_engine.specs.Meanings.{Meaning}
use Rattle.sql_engine.specs.Replies.{Statement}
use Rattle.session_spec.specs.Entries.{Entry as Line, tx_of}
use Rattle.session_spec.specs.Limits.{is_write}
use Rattle.session_spec.specs.Machine.{Machine, machine_of, files}
use Rattle.session_spec.specs.Seen.{log_seen}
use Rattle.wire_msgs.specs.declared.request.Request.{Request}
use Rattle.session_spec.specs.Sessions.{Reply, Flight, Lent, Session, is_busy, Job}
use Rattle.session_safety.specs.Nodes.{Query, Said}
use Rattle.session_safety.specs.Life.{commit_of}
use Rattle.session_safety.specs.Answering.{Handled, said_to, ArePaired, IsOpen}
use Rattle.session_safety.specs.Laws.{SeeEarlier}
use Rattle.session_safety.specs.Replies.{CommitOk, AllSaid}
use Rattle.session_safety.specs.Woven.{Bears, Woven}
use Rattle.raft_spec.specs.Log.{Entry, LogEnd}
use Rattle.raft_spec.specs.Node.{Install, Leader, LocalEvent, Server}
use Rattle.raft_safety.specs.Members.{Setup, configuration}
use Rattle.cluster_model.specs.Laws.{AllBelow}
use Rattle.node_spec.specs.Nodes.{Node, SnapshotOf}
use Rattle.node_spec.specs.Steps.{Letter, ArePartOf, told}
use Rattle.cluster_safety.specs.Runs.{Up, Run, Spoken, spoken, Comes, Goes, Fails, Crashes, Starts, StartFails, Event, joins_in, asks_in, kept_at, first_run, run, AllHold}
use Rattle.cluster_safety.specs.Acts.{spoken_to, NotStarted, NotJoined, asked}

-- Two state machines have the same databases; their counts may differ.
pub record SameFiles (a b : Machine) : Type 0 where
  pub names : a.names ≡ b.names
  pub images : (name : List ℕ) → (a.base name).image ≡ (b.base name).image
  pub pending : (name : List ℕ) → (a.base name).pending ≡ (b.base name).pending

-- what a node has applied
abbrev pub applied : Node → ℕ
applied v = v.raft.commit

-- the end of its log
abbrev pub log_end : Node → ℕ
log_end v = v.raft.base + length v.raft.entries

-- The node's log reaches the index, and up to there has these entries past its cut. What is compacted is in its snapshot.
pub record HasFront (chosen : List Line) (v : Node) (i : ℕ) : Type 0 where
  pub within : i ≤ log_end v
  pub entries : take (i - v.raft.base) (log_seen v.raft.entries) ≡ drop v.raft.base (take i chosen)

-- A reply that waited for an entry: this entry and all before it are in the log of each node that leads the reply's term or a
-- greater one.
abbrev pub StandsIn : List Line → Run → Said → Type 0
StandsIn chosen r x = 0 < x.index → (n : ℕ) (v : Node) → r.places n ≡ Up v → v.raft.role ≡ Leader → x.term ≤ v.raft.term → HasFront chosen v x.index

abbrev pub AllStandIn : List Line → Run → List Said → Type 0
AllStandIn chosen r [] = Unit {0}
AllStandIn chosen r (x ∷ xs) = StandsIn chosen r x × AllStandIn chosen r xs

-- A snapshot's bytes are the configuration and the databases of a front of these entries.
pub record KeepsOf (setup : Setup) (chosen : List Line) (index : ℕ) (bytes : List ℕ) : Type 0 where
  pub within : index ≤ length chosen
  pub front : List Entry
  pub is : log_seen front ≡ take index chosen
  pub bytes_are : SnapshotOf setup front bytes

-- These servers are the configuration of the front of these entries up to an index.
pub record ConfiguredBy (setup : Setup) (chosen : List Line) (index : ℕ) (servers : List Server) : Type 0 where
  pub within : index ≤ length chosen
  pub front : List Entry
  pub is : log_seen front ≡ take index chosen
  pub servers_are : servers ≡ configuration setup front

-- A node knows the servers at an index that it has applied.
abbrev pub Knows : Node → ℕ → List Server → Type 0
Knows v index servers = (index ≤ applied v) × (v.members.at ≡ index) × (v.members.servers ≡ servers)

-- One list of entries was chosen, and this was said.
pub record SafeRun (m : Meaning) (setup : Setup) (r : Run) (chosen : List Line) (said : List Said) : Type 0 where
  -- the databases of a node that is up are those of the entries that it has applied, a front of the list
  pub files_are : (n : ℕ) (v : Node) → r.places n ≡ Up v → (applied v ≤ length chosen) × SameFiles (machine_of v.machine) (files (take (applied v) chosen))
  -- so any two that have applied as many have the same
  pub alike : (n k : ℕ) (v u : Node) → r.places n ≡ Up v → r.places k ≡ Up u → applied v ≡ applied u → SameFiles (machine_of v.machine) (machine_of u.machine)
  -- what is kept of a node that is up or down, as its snapshot, is of a front too
  pub kept : (n : ℕ) → 0 < (kept_at (r.places n)).snap.index → KeepsOf setup chosen (kept_at (r.places n)).snap.index (kept_at (r.places n)).snap.bytes
  -- the servers that a node that is up knows of what it has applied are the configuration of a front; any two that know those of
  -- the same front know the same, also if voters change
  pub servers : (n index : ℕ) (v : Node) (servers : List Server) → r.places n ≡ Up v → Knows v index servers → ConfiguredBy setup chosen index servers
  pub alike_servers : (n k index : ℕ) (v u : Node) (xs ys : List Server) → r.places n ≡ Up v → r.places k ≡ Up u → Knows v index xs → Knows u index ys → xs ≡ ys
  -- and each snapshot that is in a message
  pub letters : (k : ℕ) (l : Letter) (last : LogEnd) (front : List Entry) → slice_get r.letters k ≡ Some l → l.message.what ≡ Install last front → 0 < last.index → KeepsOf setup chosen last.index l.bytes
  -- these are the replies of the run, with what they rest on
  pub replies : map spoken_to r.said ≡ map told said
  -- each is right by the list
  pub right : AllSaid m chosen said
  -- and what was answered is in the logs of later leaders
  pub stands : AllStandIn chosen r said
  -- the entries of each transaction are in one piece
  pub woven : Woven chosen

-- If each call of a node has met its clauses, the run is safe, at every moment.
abbrev pub RunsAreSafe : Meaning → EngineKind → Type 0
RunsAreSafe m kind = (setup : Setup) (events : List Event) → AllHold m kind setup first_run events → (chosen : List Line) × (said : List Said) × SafeRun m setup (run events) chosen said

-- a reply that waited for an entry is said by the call in which the node applied it, leading its term
abbrev pub InTime : Node → Node → List Said → Type 0
InTime old new [] = Unit {0}
InTime old new (x ∷ xs) = (0 < x.index → (applied old < x.index) × (x.index ≤ applied new) × (new.raft.role ≡ Leader) × (new.raft.term ≡ x.term)) × InTime old new xs

pub record Answered (m : Meaning) (setup : Setup) (events : List Event) (n : ℕ) (e : Event) (new : Node) (replies : List (ℕ × Reply)) : Type 0 where
  pub old : Node
  pub up : (run events).places n ≡ Up old
  pub chosen : List Line
  pub before : List Said
  pub more : List Said
  pub safe : SafeRun m setup (run (events ++ e ∷ [])) chosen (before ++ more)
  -- these are the replies of the call
  pub replies_are : replies ≡ map told more
  pub in_time : InTime old new more

abbrev pub RunsAnswer : Meaning → EngineKind → Type 0
RunsAnswer m kind =
    (setup : Setup) (events : List Event) (n : ℕ) (came : Comes) (added : List LocalEvent) (new : Node) (letters : List Letter) (replies : List (ℕ × Reply)) (jobs : List (ℕ × Job)) →
    let e = Goes n came added new letters replies jobs in AllHold m kind setup first_run (events ++ e ∷ []) → Answered m setup events n e new replies

-- ---- every request is answered

-- how many requests of a connection wait for a reply: those that aren't handled, and the last one that is, if it is yet to be
-- answered
abbrev pub owed : Node → ℕ → ℕ
owed v conn = length (v.waiting conn) + (if is_busy (v.sessions.session conn) then 1 else 0)

-- how many of these replies are to the connection
abbrev pub told_to : ℕ → List (ℕ × Reply) → ℕ
told_to conn [] = 0
told_to conn (p ∷ replies) = (if p.0 == conn then 1 else 0) + told_to conn replies

-- the connection's proposal is pending, and the node, which leads its term, hasn't applied its last entry
pub record WaitsForEntry (v : Node) (conn : ℕ) : Type 0 where
  pub flight : Flight
  pub is : (v.sessions.session conn).flight ≡ Some flight
  pub ahead : applied v < flight.last
  pub leads : v.raft.role ≡ Leader
  pub term : flight.term ≡ v.raft.term

-- that, or a reader has its query
abbrev pub Waits : Node → ℕ → Type 0
Waits v conn = WaitsForEntry v conn ⊎ ((statement : Statement) × ((v.sessions.session conn).later ≡ Some (Lent statement)))

-- What was asked is answered by the call, once each, except for what is owed after it; and that waits for an entry that the
-- node, still leading its term, hasn't applied, or for a reader.
pub record Completed (conn : ℕ) (old new : Node) (came : Comes) (replies : List (ℕ × Reply)) : Type 0 where
  pub each : told_to conn replies + owed new conn ≡ owed old conn + length (asks_in came conn)
  pub waits : 0 < owed new conn → Waits new conn

-- This holds in each call for each connection that is open after it and didn't come by it.
abbrev pub RunsComplete : Meaning → EngineKind → Type 0
RunsComplete m kind =
    (setup : Setup) (events : List Event) (n : ℕ) (came : Comes) (added : List LocalEvent) (new : Node) (letters : List Letter) (replies : List (ℕ × Reply)) (jobs : List (ℕ × Job)) (conn : ℕ) →
    AllHold m kind setup first_run (events ++ Goes n came added new letters replies jobs ∷ []) → IsOpen (new.sessions.session conn) → joins_in came ≢ Some conn →
    (old : Node) × ((run events).places n ≡ Up old) × Completed conn old new came replies

-- ---- a later moment

-- what a node said in these events
abbrev pub replies_in : ℕ → List Event → List (ℕ × Reply)
replies_in n [] = []
replies_in n (Goes k came added new letters replies jobs ∷ events) = cond (n == k) replies [] ++ replies_in n events
replies_in n (Fails k came added kept ∷ events) = replies_in n events
replies_in n (Crashes k ∷ events) = replies_in n events
replies_in n (Starts k servers new ∷ events) = replies_in n events
replies_in n (StartFails k kept ∷ events) = replies_in n events

-- All replies in these events, each with its node and its connection.
abbrev pub spoken_by : Event → List Spoken
spoken_by (Goes k came added new letters replies jobs) = map (spoken k) replies
spoken_by (Fails k came added kept) = []
spoken_by (Crashes k) = []
spoken_by (Starts k servers new) = []
spoken_by (StartFails k kept) = []

abbrev pub spoken_in : List Event → List Spoken
spoken_in [] = []
spoken_in (e ∷ events) = spoken_by e ++ spoken_in events

-- The part of an account that is about a node. An account has one item for each reply, in the same order.
abbrev pub said_at : ℕ → List Spoken → List Said → List Said
said_at n [] xs = []
said_at n (s ∷ ss) [] = []
said_at n (s ∷ ss) (x ∷ xs) = cond (s.node == n) (x ∷ []) [] ++ said_at n ss xs

-- What the account `all` has of a node's replies in these events, if `said` is the account of the replies before.
abbrev pub news : List Event → List Said → List Said → ℕ → List Said
news more said all n = said_at n (spoken_in more) (drop (length said) all)

-- The replies to a connection are those to what it asked, one by one, each with what that request asked.
pub record AreRepliesTo (conn : ℕ) (asked : List Request) (xs : List Said) : Type 0 where
  pub handled : List Handled
  pub asked_so : ArePartOf (map (λ (h : Handled). h.request) handled) asked
  pub owed_yet : List Handled
  pub paired : ArePaired (said_to conn xs) handled owed_yet

-- The session asks for barrier reads, has no transaction open, and is owed no reply.
pub record AsksFirst (s : Session) : Type 0 where
  pub barriers : s.barriers ≡ true
  pub outside : s.tx ≡ None
  pub free : is_busy s ≡ false

-- the image that a query read has every commit, and each other entry, that these replies waited for
abbrev pub HasAll : List Said → Option Query → Type 0
HasAll said None = Unit {0}
HasAll said (Some q) = AllBelow q.at said

abbrev pub FirstIs : (Said → Type 0) → List Said → Type 0
FirstIs P [] = Unit {0}
FirstIs P (x ∷ xs) = P x

-- A run at a moment and at a later one. There is one account of its replies, `all`. What is said of a node's replies is said of its part.
pub record SafeLater (m : Meaning) (setup : Setup) (events more : List Event) : Type 0 where
  pub chosen : List Line
  pub said : List Said
  pub later : List Line
  pub all : List Said
  pub safe : SafeRun m setup (run events) chosen said
  pub still : SafeRun m setup (run (events ++ more)) later all
  -- what was chosen stays, and what was said
  pub grows : take (length chosen) later ≡ chosen
  pub stays : take (length said) all ≡ said
  -- its part about a node has the node's replies in these events
  pub tells : (n : ℕ) → map told (news more said all n) ≡ replies_in n more
  -- a write that was pending at a node that is up: if the list has a commit of its transaction later, that is its last
  -- entry, and it is whole and is right
  pub flights : (n conn : ℕ) (v : Node) (f : Flight) → (run events).places n ≡ Up v → (v.sessions.session conn).flight ≡ Some f → is_write f.kind ≡ true →
      (i term : ℕ) (name : List ℕ) (pages : List NumberedPage) → 0 < i → Bears later i name (tx_of f.term f.first) true term pages → (i ≡ f.last) × (ss : List Statement) × CommitOk m later (commit_of f ss)
  -- a node that led a term and still does: what it has applied past the log that it had is above all that was answered by then
  pub barriers : (n a : ℕ) (v u : Node) → (run events).places n ≡ Up v → (run (events ++ more)).places n ≡ Up u → v.raft.role ≡ Leader → u.raft.role ≡ Leader → u.raft.term ≡ v.raft.term →
      log_end v < a → a ≤ applied u → AllBelow a said
  -- a connection that asks for barrier reads, at a node that led a term and still does: if its next reply gives rows, these are
  -- of an image that has all that any node had answered by then; so a query that waits for a barrier shows every commit that was
  -- answered before it was asked
  pub fresh : (n conn : ℕ) (v u : Node) → (run events).places n ≡ Up v → (run (events ++ more)).places n ≡ Up u → NotStarted n more → NotJoined n conn more →
      v.raft.role ≡ Leader → u.raft.role ≡ Leader → u.raft.term ≡ v.raft.term → AsksFirst (v.sessions.session conn) →
      FirstIs (λ x. HasAll said x.query) (said_to conn (news more said all n))
  -- a connection of a node that isn't started meanwhile sees what it has seen
  pub sees : (n conn : ℕ) → NotStarted n more → NotJoined n conn more → SeeEarlier conn (news more said all n)
  -- and its replies are those to its requests, from where it was owed none
  pub answers : (n conn : ℕ) (v u : Node) → (run events).places n ≡ Up v → (run (events ++ more)).places n ≡ Up u → NotStarted n more → NotJoined n conn more → is_busy (v.sessions.session conn) ≡ false → IsOpen (u.sessions.session conn) →
      AreRepliesTo conn (v.waiting conn ++ asked n conn more) (news more said all n)

abbrev pub RunsLast : Meaning → EngineKind → Type 0
RunsLast m kind = (setup : Setup) (events more : List Event) → AllHold m kind setup first_run (events ++ more) → SafeLater m setup events more
