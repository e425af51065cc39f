-- What holds of every cluster of whole nodes, at every moment.
use Rattle.std.specs.Prelude.{◌≡◌, ◌≢◌, ℕ, ◌<◌, ◌≤◌, true, false, List, [], ◌∷◌, ◌++◌, length, take, Option, Some, None}
use Rattle.dq_base.specs.declared.pages.NumberedPage.{NumberedPage}
use Rattle.sql_engine.specs.declared.answer.StatementResult.{StatementResult}
use Rattle.sql_engine.specs.declared.kind.EngineKind.{EngineKind}
use Rattle.sql_engine.specs.Meanings.{Meaning}
use Rattle.sql_engine.specs.Replies.{Statement}
use Rattle.session_spec.specs.Entries.{Entry, tx_of}
use Rattle.session_spec.specs.Engines.{Answer}
use Rattle.session_spec.specs.Limits.{is_write}
use Rattle.session_spec.specs.Machine.{files}
use Rattle.session_spec.specs.Seen.{log_seen}
use Rattle.session_spec.specs.Sessions.{Querying, Flight, Due, is_due, is_busy, Session, Rows, Outside, Answers}
use Rattle.session_safety.specs.Nodes.{Query, Commit, Said, Standing, databases, applied_entries}
use Rattle.session_safety.specs.Life.{Event as Doing, Resume, outcome_later, commit_of, happens as goes_on, run_from as lives_on}
use Rattle.session_safety.specs.Laws.{NoneComes, Sees}
use Rattle.session_safety.specs.Answering.{IsOpen, RepliesTo}
use Rattle.session_safety.specs.Replies.{CommitOk, AllSaid}
use Rattle.session_safety.specs.Woven.{Bears, Woven}
use Rattle.raft_safety.specs.Members.{Setup, configuration}
use Rattle.raft_safety.specs.World.{Cause, Event, start}
use Rattle.raft_safety.specs.Laws.{Leads, node_at, log_at}
use Rattle.raft_safety.specs.Chosen.{actor, chosen}
use Rattle.raft_safety.specs.Properties.{EventsKeep}
use Rattle.raft_safety.specs.Standing.{turn}
use Rattle.cluster_model.specs.Weaving.{IsWoven}
use Rattle.cluster_model.specs.Clusters.{Cluster, Act, Moves, Breaks, Crashes, Starts, event_of, said_of, all_doings, first_cluster, cluster, ActsFit}

-- the entries that were applied first at each index, as sessions see them
abbrev pub chosen_seen : Setup → Cluster → List Entry
chosen_seen setup c = log_seen (chosen setup c.raft)

-- A reply that waited for an entry, to a commit, an OPEN or a change of the servers: its entry and all before it are in the
-- whole log of each node that leads its term or a greater one.
abbrev pub Stands : Setup → Cluster → Said → Type 0
Stands setup c x = 0 < x.index → (n t : ℕ) → Leads setup c.raft n t → x.term ≤ t → (x.index ≤ length (log_at setup c.raft n)) × (take x.index (log_at setup c.raft n) ≡ take x.index (chosen setup c.raft))

abbrev pub AllStand : Setup → Cluster → List Said → Type 0
AllStand setup c [] = Unit {0}
AllStand setup c (x ∷ xs) = Stands setup c x × AllStand setup c xs

pub record SafeCluster (m : Meaning) (setup : Setup) (c : Cluster) : Type 0 where
  -- what a node applied is the front of the chosen entries; of a node that is down, what it had applied when it stopped
  pub one_list : (n : ℕ) → ((c.lives n).applied ≤ length (chosen_seen setup c)) × (applied_entries (c.lives n) ≡ take (c.lives n).applied (chosen_seen setup c))
  -- so are its databases, and the configuration of a running node
  pub images : (n : ℕ) → databases (c.lives n) ≡ files (take (c.lives n).applied (chosen_seen setup c))
  pub servers : (n : ℕ) → (node_at setup c.raft n).up ≡ true → configuration setup (take (c.lives n).applied (log_at setup c.raft n)) ≡ configuration setup (take (c.lives n).applied (chosen setup c.raft))
  -- each reply is right by the chosen entries
  pub said : AllSaid m (chosen_seen setup c) c.said
  -- what was answered is in the logs of later leaders
  pub stands : AllStand setup c c.said
  -- the entries of each transaction are in one piece in the chosen entries
  pub woven : Woven (chosen_seen setup c)

-- If each act is what a node's step does, the cluster is safe at every moment, that is after any list of acts.
abbrev pub ClustersAreSafe : Meaning → EngineKind → Type 0
ClustersAreSafe m kind = (setup : Setup) (acts : List Act) → ActsFit m kind setup first_cluster acts → SafeCluster m setup (cluster setup acts)

-- A reply that waited for an entry is said in the event in which its node applies the entry, leading the entry's term.
pub record SaidInTime (setup : Setup) (before after : List Event) (n : ℕ) (x : Said) : Type 0 where
  pub past : (node_at setup before n).commit < x.index
  pub within : x.index ≤ (node_at setup after n).commit
  pub leads : Leads setup after n x.term

abbrev pub AllInTime : Setup → List Event → List Event → ℕ → List Said → Type 0
AllInTime setup before after n [] = Unit {0}
AllInTime setup before after n (x ∷ xs) = (0 < x.index → SaidInTime setup before after n x) × AllInTime setup before after n xs

-- Each reply of an act that waited for an entry is said in time.
abbrev pub AnswersInTime : Meaning → EngineKind → Type 0
AnswersInTime m kind =
    (setup : Setup) (acts : List Act) (a : Act) → ActsFit m kind setup first_cluster (acts ++ a ∷ []) →
    let c = cluster setup acts in let d = cluster setup (acts ++ a ∷ []) in
    (d.said ≡ c.said ++ said_of c a) × AllInTime setup c.raft d.raft (actor (event_of a)) (said_of c a)

-- the node isn't started in these acts
abbrev pub NoneStarts : ℕ → List Act → Type 0
NoneStarts n [] = Unit {0}
NoneStarts n (Moves k causes places life ∷ acts) = NoneStarts n acts
NoneStarts n (Breaks k causes stands applied base life ∷ acts) = NoneStarts n acts
NoneStarts n (Crashes k ∷ acts) = NoneStarts n acts
NoneStarts n (Starts k servers ∷ acts) = (n ≢ k) × NoneStarts n acts

-- What a connection of a node has seen is not below what any of its earlier replies rests on, from where the connection came.
abbrev pub ClustersSee : Meaning → EngineKind → Type 0
ClustersSee m kind =
    (setup : Setup) (acts more : List Act) (n conn : ℕ) → ActsFit m kind setup first_cluster (acts ++ more) → NoneStarts n more → NoneComes conn (all_doings n more) →
    Sees conn ((cluster setup acts).lives n) ((cluster setup (acts ++ more)).lives n)

-- The replies to a connection of a node are those to its requests, one by one, each with what the request asked: from a moment
-- at which it is owed nothing, as the one at which it came, up to one at which it is still open.
abbrev pub ClustersAnswer : Meaning → EngineKind → Type 0
ClustersAnswer m kind =
    (setup : Setup) (acts more : List Act) (n conn : ℕ) → ActsFit m kind setup first_cluster (acts ++ more) → NoneStarts n more → NoneComes conn (all_doings n more) →
    is_busy (((cluster setup acts).lives n).gate.session conn) ≡ false → IsOpen (((cluster setup (acts ++ more)).lives n).gate.session conn) →
    ((cluster setup (acts ++ more)).lives n ≡ lives_on ((cluster setup acts).lives n) (all_doings n more)) × RepliesTo conn ((cluster setup acts).lives n) (all_doings n more)

-- What was said stays said.
abbrev pub RepliesStay : Type 0
RepliesStay = (setup : Setup) (acts more : List Act) → take (length (cluster setup acts).said) (cluster setup (acts ++ more)).said ≡ (cluster setup acts).said

-- The configuration that a stopped event leaves is that of the entries that it applied, and these are a front of the chosen ones.
abbrev pub StopsAreSafe : Type 0
StopsAreSafe = (setup : Setup) (events : List Event) (e : Event) → let x = turn setup events e in configuration setup (take x.applied x.log) ≡ configuration setup (take x.applied (chosen setup (events ++ e ∷ [])))

-- Nodes that have applied as many entries have the same databases.
abbrev pub AlikeFiles : Meaning → EngineKind → Type 0
AlikeFiles m kind = (setup : Setup) (acts : List Act) (n k : ℕ) → ActsFit m kind setup first_cluster acts → let c = cluster setup acts in (c.lives n).applied ≡ (c.lives k).applied → databases (c.lives n) ≡ databases (c.lives k)

-- A write that once was whole in a node's log, as each write pending does: if the chosen entries have a commit of its
-- transaction, it is there whole, at its place, and is right by them.
abbrev pub ChosenWhole : Meaning → Type 0
ChosenWhole m =
    (setup : Setup) (events more : List Event) (n : ℕ) (k : Commit) → EventsKeep IsWoven setup (start setup) (events ++ more) → CommitOk m (log_seen (log_at setup events n)) k →
    (i term : ℕ) (name : List ℕ) (pages : List NumberedPage) → 0 < i → Bears (log_seen (chosen setup (events ++ more))) i name (tx_of k.term k.first) true term pages →
    (i ≡ k.last) × CommitOk m (log_seen (chosen setup (events ++ more))) k

-- This holds for a write that is refused as its leadership was lost: it is pending at a running node at some moment, whatever
-- is said to its client. If the chosen entries have a commit of its transaction at a later moment, that is its last entry,
-- with all its entries right before it, and it is right by them. If they have none, no image has its pages.
abbrev pub FlightsWhole : Meaning → EngineKind → Type 0
FlightsWhole m kind =
    (setup : Setup) (acts more : List Act) (n conn : ℕ) (f : Flight) → ActsFit m kind setup first_cluster (acts ++ more) →
    let c = cluster setup acts in let d = cluster setup (acts ++ more) in
    (node_at setup c.raft n).up ≡ true → ((c.lives n).gate.session conn).flight ≡ Some f → is_write f.kind ≡ true →
    (i term : ℕ) (name : List ℕ) (pages : List NumberedPage) → 0 < i → Bears (chosen_seen setup d) i name (tx_of f.term f.first) true term pages →
    (i ≡ f.last) × CommitOk m (chosen_seen setup d) (commit_of f ((c.lives n).trail conn).ran)

-- every reply that waited for an entry waited for one below the index
abbrev pub AllBelow : ℕ → List Said → Type 0
AllBelow a [] = Unit {0}
AllBelow a (x ∷ xs) = (x.index < a) × AllBelow a xs

-- A node leads a term at some moment, and still does at a later one. What it has applied by then past the log that it had at
-- the first, as a barrier that it appended since, is above all that any node had answered at the first. So the image of a
-- barrier query, which runs when the barrier is applied, has every commit that was answered before the query was taken.
abbrev pub BarriersRead : Meaning → EngineKind → Type 0
BarriersRead m kind =
    (setup : Setup) (acts more : List Act) (n t a : ℕ) → ActsFit m kind setup first_cluster (acts ++ more) →
    let c = cluster setup acts in let d = cluster setup (acts ++ more) in
    Leads setup c.raft n t → Leads setup d.raft n t → length (log_at setup c.raft n) < a → a ≤ (node_at setup d.raft n).commit → AllBelow a c.said

-- no query of the session waits for a barrier, or is due
abbrev pub NoneFlies : Option Flight → Type 0
NoneFlies None = Unit {0}
NoneFlies (Some f) = (statement : Statement) → f.kind ≡ Querying statement → ⊥

pub record NoneWaits (s : Session) : Type 0 where
  pub flies : NoneFlies s.flight
  pub due : is_due s.later ≡ false

-- A node leads t at some moment, when no query of a connection waits, and still leads t at the end of a later event, in the same
-- life. What it then runs of that connection's due queries was asked since, and rests on the image of an index above that of
-- every reply that any node had made by that moment for an entry.
abbrev pub FreshQueries : Meaning → EngineKind → Type 0
FreshQueries m kind =
    (setup : Setup) (acts more : List Act) (n t : ℕ) (causes : List Cause) (places : List ℕ) (before after : List Doing) (conn : ℕ) (standing : Standing) (statement : Statement) (answers : List Answer)
    (answer : StatementResult) (left : Session) (name : List ℕ) (ss : List Statement) →
    let c = cluster setup acts in
    let w = lives_on ((cluster setup (acts ++ more)).lives n) before in
    let all = acts ++ (more ++ Moves n causes places (before ++ Resume conn standing answers ∷ after) ∷ []) in
    ActsFit m kind setup first_cluster all → Leads setup c.raft n t → Leads setup (cluster setup all).raft n t → NoneStarts n more → (node_at setup c.raft n).up ≡ true → NoneWaits ((c.lives n).gate.session conn) →
    (w.gate.session conn).later ≡ Some (Due statement) → outcome_later w conn standing statement answers ≡ Answers left (Rows answer) (Outside name ss) →
    (x : Said) × (q : Query) × ((goes_on w (Resume conn standing answers)).said ≡ w.said ++ x ∷ []) × (x.reply ≡ Rows answer) × (x.query ≡ Some q) × AllBelow q.at c.said

-- A leader of t at some moment runs, in a later event and leading t at its end, a query that is due, once its life has applied
-- an index past the log that it had at that moment, as the barrier that the query waited for since. The reply rests on the
-- image of an index above that of every reply that any node had made by that moment for an entry.
abbrev pub BarrierQueries : Meaning → EngineKind → Type 0
BarrierQueries m kind =
    (setup : Setup) (acts more : List Act) (n t : ℕ) (causes : List Cause) (places : List ℕ) (before after : List Doing) (conn : ℕ) (standing : Standing) (statement : Statement) (answers : List Answer)
    (answer : StatementResult) (left : Session) (name : List ℕ) (ss : List Statement) →
    let c = cluster setup acts in
    let w = lives_on ((cluster setup (acts ++ more)).lives n) before in
    let all = acts ++ (more ++ Moves n causes places (before ++ Resume conn standing answers ∷ after) ∷ []) in
    ActsFit m kind setup first_cluster all → Leads setup c.raft n t → Leads setup (cluster setup all).raft n t → length (log_at setup c.raft n) < w.applied →
    (w.gate.session conn).later ≡ Some (Due statement) → outcome_later w conn standing statement answers ≡ Answers left (Rows answer) (Outside name ss) →
    (x : Said) × (q : Query) × ((goes_on w (Resume conn standing answers)).said ≡ w.said ++ x ∷ []) × (x.reply ≡ Rows answer) × (x.query ≡ Some q) × AllBelow q.at c.said
