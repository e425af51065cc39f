-- What a node's step, its start and its stop have to show, so that their runs are acts of a cluster that fit.
use Rattle.std.specs.Prelude.{◌==◌, cond, drop, ◌≡◌, ◌≢◌, ◌⊎◌, ℕ, suc, ◌<◌, ◌≤◌, Bool, true, false, List, [], ◌∷◌, ◌++◌, map, take, slice_get, Option, Some, None, Result, OnErr, IfOk}
use Rattle.sql_engine.specs.declared.kind.EngineKind.{EngineKind}
use Rattle.sql_engine.specs.Meanings.{Meaning}
use Rattle.sql_engine.specs.Replies.{Statement}
use Rattle.session_spec.specs.Engines.{Answer}
use Rattle.session_spec.specs.Sessions.{Reply, Flight, lent_query, is_due, is_busy, Job}
use Rattle.session_safety.specs.Nodes.{Said, Node as Life}
use Rattle.session_safety.specs.Life.{Event as Doing, Connect, Hangup, Call, Resume, Done, Apply, Lose, Lead, Serve, Append, Follow, told_at, AllowsRead, run_from as lives_on}
use Rattle.wire_msgs.specs.declared.request.Request.{Request}
use Rattle.session_safety.specs.Answering.{Handled, handled_in, IsOpen}
use Rattle.session_safety.specs.Lending.{lent_in, answers_in}
use Rattle.session_safety.specs.Laws.{NoneComes}
use Rattle.raft_spec.specs.Log.{Entry, LogEnd}
use Rattle.raft_spec.specs.Node as raft
use Rattle.raft_spec.specs.Account.{Stored, stored_of, loaded, older, steps, said}
use Rattle.raft_spec.specs.NodeValues.{node_of}
use Rattle.raft_spec.specs.Compaction.{compacted_step}
use Rattle.raft_safety.specs.Laws.{SameUpTo, node_at}
use Rattle.raft_safety.specs.World.{Cause}
use Rattle.raft_safety.specs.Members.{Setup, fixed, configuration_from, configuration, voters_after, member_step}
use Rattle.raft_safety.specs.Cuts.{Twin, AlikeAll, AlikeInputs, Told, SameVoters}
use Rattle.raft_membership.specs.Members.{IsOf}
use Rattle.store_laws.specs.Store.{Kept}
use Rattle.cluster_model.specs.Clusters.{Act, Moves, Breaks, Starts, StepFits, StopFits, said_in, said_of, stands_after, booted, taken_in, first_cluster, cluster, ActsFit}
use Rattle.node_spec.specs.Nodes.{Node, SnapshotOf, IsCutOff, KeptIs, Stands}

-- A message as a node makes it: the code's, and with a snapshot its bytes.
pub record Letter : Type 0 where
  pub message : raft.Message
  pub bytes : List ℕ

-- the bytes of a snapshot are those of the front that it represents
abbrev pub FrontIs : Setup → List ℕ → raft.What → Type 0
FrontIs setup bytes (raft.Install last front) = 0 < last.index → SnapshotOf setup front bytes
FrontIs setup bytes (raft.AskVote last transfer) = Unit {0}
FrontIs setup bytes (raft.Vote granted) = Unit {0}
FrontIs setup bytes (raft.Append prev commit entries) = Unit {0}
FrontIs setup bytes (raft.Ack good index) = Unit {0}
FrontIs setup bytes raft.TimeoutNow = Unit {0}

-- What a node takes in by an event, one after another: the event's own message, timeout, heartbeat or request, and then what the
-- node adds, as servers, proposals and own snapshots. With a message that has a snapshot come its bytes; and it may be that a
-- connection comes, or asks something, or that a reader answers the reply to the query which its connection has lent.
pub record Taken : Type 0 where
  pub inputs : List raft.Input
  pub bytes : List ℕ
  pub joins : Option ℕ
  pub read : Option (ℕ × Reply)
  pub asks : ℕ → List Request

-- each snapshot that is taken in has these bytes
abbrev pub BytesAre : Setup → List ℕ → List raft.Input → Type 0
BytesAre setup bytes [] = Unit {0}
BytesAre setup bytes (raft.Local local ∷ is) = BytesAre setup bytes is
BytesAre setup bytes (raft.Receive m ∷ is) = FrontIs setup bytes m.what × BytesAre setup bytes is

-- a snapshot that comes and is kept represents the front of the log after the step
abbrev pub HasFront : raft.Node → raft.What → Type 0
HasFront s (raft.Install last front) = s.snapshot ≡ last → take last.index s.log ≡ front
HasFront s (raft.AskVote last transfer) = Unit {0}
HasFront s (raft.Vote granted) = Unit {0}
HasFront s (raft.Append prev commit entries) = Unit {0}
HasFront s (raft.Ack good index) = Unit {0}
HasFront s raft.TimeoutNow = Unit {0}

abbrev pub HasFrontOf : raft.Node → Option raft.Input → Type 0
HasFrontOf s None = Unit {0}
HasFrontOf s (Some (raft.Local local)) = Unit {0}
HasFrontOf s (Some (raft.Receive m)) = HasFront s m.what

-- It represents what a node of the world takes in.
pub record TakesIn (setup : Setup) (me : ℕ) (old : Node) (s : raft.Node) (is : List raft.Input) (x : Taken) : Type 0 where
  pub alike : AlikeInputs is x.inputs
  -- bytes are those of the fronts
  pub front : BytesAre setup x.bytes is
  -- each step keeps what was applied: the law `applied_kept` gives it in every run
  pub kept : (k : ℕ) → let a = steps (member_step setup me) s (take k is) in let b = steps (member_step setup me) s (take (suc k) is) in (a.commit ≤ b.commit) × SameUpTo a.commit a.log b.log
  -- a snapshot that comes, and is kept after its step, is that of the log's front: the law `snapshot_fronts` gives it in every run
  pub fronts : (k : ℕ) → HasFrontOf (steps (member_step setup me) s (take (suc k) is)) (slice_get is k)
  -- after each step up to which it was given its voters, it is the node of the world except for what is compacted: the law
  -- `cut_steps`
  pub twins : (k : ℕ) → Told setup me s (take k is) → Twin (steps (member_step setup me) s (take k is)) (steps (compacted_step me) (node_of old.raft) (take k x.inputs))

-- What a reader answers is what it makes of answers that the engine may give over the image at which the query was lent. So whoever
-- runs the readers shows it; if no query of the connection is lent, it is asked nothing.
abbrev pub ReadIsAnswered : Meaning → EngineKind → Life → ℕ → Reply → Option Statement → Type 0
ReadIsAnswered m kind w conn reply None = Unit {0}
ReadIsAnswered m kind w conn reply (Some statement) = (answers : List Answer) × AllowsRead m kind w conn answers (Some statement) × (told_at w conn statement answers ≡ Some reply)

abbrev pub ReadsIn : Meaning → EngineKind → Life → Option (ℕ × Reply) → Type 0
ReadsIn m kind w None = Unit {0}
ReadsIn m kind w (Some (conn, reply)) = ReadIsAnswered m kind w conn reply (lent_query (w.gate.session conn).later)

-- What is pending was proposed in the node's term, in which it serves; and a node that serves leads. This holds for each life in a run.
abbrev pub IsServed : ℕ → Bool → Option Flight → Type 0
IsServed term serving None = Unit {0}
IsServed term serving (Some f) = (f.term ≡ term) × (serving ≡ true)

pub record FlightsServed (w : Life) : Type 0 where
  pub leads : w.serving ≡ true → w.leads ≡ true
  pub flights : (conn : ℕ) → IsServed w.term w.serving (w.gate.session conn).flight

-- the voters that a node was given last are those that its log gives
abbrev pub IsTold : Setup → raft.Node → Type 0
IsTold setup s = raft.voters s.servers ≡ voters_after setup s.log

-- A node's voters: it was told last those that its whole log gives, and has the configurations of that log.
pub record Counts (setup : Setup) (n : Node) (s : raft.Node) : Type 0 where
  pub told : IsTold setup s
  pub members : IsOf setup s.log n.members

-- A node that was given its voters is given, at each step of an event, those by which it is to be counted, whether the event ends well or not.
abbrev pub TellsVoters : Setup → ℕ → Node → Taken → Type 0
TellsVoters setup me old x = (s : raft.Node) (w : Life) (is : List raft.Input) → Stands setup old s w → Counts setup old s → TakesIn setup me old s is x → Told setup me s is

-- After an event that ended well it was given its voters again.
abbrev pub VotersWereTold : Setup → ℕ → Node → Node → Taken → Type 0
VotersWereTold setup me old new x =
    (s : raft.Node) (w : Life) (is : List raft.Input) → Stands setup old s w → Counts setup old s → TakesIn setup me old s is x → Told setup me s is → Counts setup new (steps (member_step setup me) s is)

abbrev pub told : Said → ℕ × Reply
told x = (x.conn, x.reply)

-- no connection comes in this life but the one that does
abbrev pub JoinsOnly : Option ℕ → List Doing → Type 0
JoinsOnly joins life = (conn : ℕ) → joins ≢ Some conn → NoneComes conn life

-- the requests of a connection that are handled in a life, in their order
abbrev pub calls : ℕ → List Doing → List Request
calls conn [] = []
calls conn (Connect k ∷ es) = calls conn es
calls conn (Hangup k ∷ es) = calls conn es
calls conn (Call k standing request answers ∷ es) = cond (k == conn) (request ∷ []) [] ++ calls conn es
calls conn (Resume k standing answers ∷ es) = calls conn es
calls conn (Done k answers ∷ es) = calls conn es
calls conn (Apply ∷ es) = calls conn es
calls conn (Lose term ∷ es) = calls conn es
calls conn (Lead term ∷ es) = calls conn es
calls conn (Serve ∷ es) = calls conn es
calls conn (Append contents ∷ es) = calls conn es
calls conn (Follow entries ∷ es) = calls conn es

-- these are the others, in their order, and maybe without some
abbrev pub ArePartOf : List Request → List Request → Type 0
ArePartOf [] ys = Unit {0}
ArePartOf (x ∷ xs) [] = ⊥
ArePartOf (x ∷ xs) (y ∷ ys) = ((x ≡ y) × ArePartOf xs ys) ⊎ ArePartOf (x ∷ xs) ys

-- What is handled, and what still waits, is what waited and what comes, at most once each and in order. Some may be dropped, as
-- what a connection asked that is gone.
abbrev pub Handles : Node → (ℕ → List Request) → Taken → List Doing → Type 0
Handles old left x life = (conn : ℕ) → ArePartOf (calls conn life ++ left conn) (old.waiting conn ++ x.asks conn)

-- Of a connection that is open after the event, and didn't come by it, no request is dropped: each is handled, and something comes
-- of it, or waits still; none waits but after one that waits for its answer; and a query whose barrier is applied has been run.
pub record AllTaken (old new : Node) (x : Taken) (w : Life) (life : List Doing) (conn : ℕ) : Type 0 where
  pub all : calls conn life ++ new.waiting conn ≡ old.waiting conn ++ x.asks conn
  pub handled : map (λ (h : Handled). h.request) (handled_in conn w life) ≡ calls conn life
  pub waits : is_busy (new.sessions.session conn) ≡ false → new.waiting conn ≡ []
  pub run : is_due (new.sessions.session conn).later ≡ false

abbrev pub Completes : Node → Node → Taken → Life → List Doing → Type 0
Completes old new x w life = (conn : ℕ) → IsOpen (new.sessions.session conn) → x.joins ≢ Some conn → AllTaken old new x w life conn

-- An event that ended well: for whatever the old node represented, the events of a life that fit, after which the new one stands
-- for what the steps and these events lead to. It says what they say; the queries that it hands to readers are those that they lend;
-- and the answers of engines that they use are those that its engine answered.
abbrev pub CompletesStep : Meaning → EngineKind → Setup → ℕ → Node → Node → Taken → List Letter → List (ℕ × Reply) → List (ℕ × Job) → List Answer → Type 0
CompletesStep m kind setup me old new x letters replies jobs answers =
    (s : raft.Node) (w : Life) (is : List raft.Input) → Stands setup old s w → TakesIn setup me old s is x → Told setup me s is → ReadsIn m kind w x.read → FlightsServed w →
    (life : List Doing) × StepFits m kind setup me s is w life
    × Stands setup new (steps (member_step setup me) s is) (lives_on w life)
    × (map (λ (l : Letter). l.message) letters ≡ said (compacted_step me) (node_of old.raft) x.inputs)
    × (replies ≡ map told (said_in w life))
    × (jobs ≡ lent_in w life)
    × (answers ≡ answers_in w life)
    × JoinsOnly x.joins life
    × Handles old new.waiting x life
    × Completes old new x w life

-- these are the bytes of the kept snapshot
abbrev pub HasBytes : Kept → LogEnd → List ℕ → Type 0
HasBytes k last bytes = (last.index ≡ k.snap.index) × (bytes ≡ k.snap.bytes)

-- a snapshot that is sent is the one that was kept before the event, or after it
abbrev pub WhatSent : Kept → Kept → List ℕ → raft.What → Type 0
WhatSent old new bytes (raft.Install last front) = HasBytes old last bytes ⊎ HasBytes new last bytes
WhatSent old new bytes (raft.AskVote last transfer) = Unit {0}
WhatSent old new bytes (raft.Vote granted) = Unit {0}
WhatSent old new bytes (raft.Append prev commit entries) = Unit {0}
WhatSent old new bytes (raft.Ack good index) = Unit {0}
WhatSent old new bytes raft.TimeoutNow = Unit {0}

abbrev pub AllSent : Kept → Kept → List Letter → Type 0
AllSent old new [] = Unit {0}
AllSent old new (l ∷ ls) = WhatSent old new l.bytes l.message.what × AllSent old new ls

-- An event that failed or was stopped: what is kept is what is after this many acts of the steps' account, maybe with a longer
-- old part of the log, and the life went as far as these.
abbrev pub StopsInStep : Meaning → EngineKind → Setup → ℕ → Node → Kept → Taken → Type 0
StopsInStep m kind setup me old kept x =
    (s : raft.Node) (w : Life) (is : List raft.Input) → Stands setup old s w → TakesIn setup me old s is x → Told setup me s is → ReadsIn m kind w x.read →
    (stands applied base : ℕ) × (life : List Doing) × KeptIs setup kept (older base (stands_after setup me s is stands applied)) × StopFits m kind setup me s is stands applied w life × JoinsOnly x.joins life × Handles old (λ conn. []) x life

-- A start from what is kept: the node represents the one that is loaded, and a life that begins; it was given the voters that
-- the log gives, and has the log's configurations; and nothing waits.
abbrev pub CompletesStart : Setup → Kept → Node → List raft.Server → Type 0
CompletesStart setup kept new servers = ((x : Stored) → KeptIs setup kept x → IsCutOff x → Stands setup new (loaded true servers x) (booted (loaded true servers x)) × Counts setup new (loaded true servers x)) × ((conn : ℕ) → new.waiting conn ≡ [])

-- A start that failed or was stopped: what was kept is kept, maybe with a longer old part of the log.
abbrev pub StopsInStart : Setup → Kept → Kept → Type 0
StopsInStart setup kept left = (x : Stored) → KeptIs setup kept x → (base : ℕ) × KeptIs setup left (older base x)

-- What a step makes that ended well: its peer messages and replies, the queries that it hands to readers, each with its connection, and the
-- answers that its engine answered in it.
pub record Made : Type 0 where
  pub letters : List Letter
  pub replies : List (ℕ × Reply)
  pub jobs : List (ℕ × Job)
  pub answers : List Answer

-- The clauses of a node's step, with what an Ok makes.
pub record StepHolds {E : Type 0} (m : Meaning) (kind : EngineKind) (setup : Setup) (me : ℕ) (old new : Node) (kept : Kept) (x : Taken) (result : Result Made E) : Type 0 where
  pub tells : TellsVoters setup me old x
  pub counts : IfOk result (λ o. VotersWereTold setup me old new x)
  pub whole : IfOk result (λ o. CompletesStep m kind setup me old new x o.letters o.replies o.jobs o.answers)
  pub sent : IfOk result (λ o. AllSent old.kept new.kept o.letters)
  pub failed : OnErr result (StopsInStep m kind setup me old kept x)

-- ---- voters

-- With fixed voters a node that gives itself no others is given its voters.
abbrev pub FixedTells : Type 0
FixedTells = (servers : List raft.Server) (me : ℕ) (old : Node) (x : Taken) → SameVoters (raft.voters servers) x.inputs → TellsVoters (fixed servers) me old x

-- And this holds afterwards, if it has these servers and no change after them.
abbrev pub FixedCounts : Type 0
FixedCounts =
    (servers : List raft.Server) (me : ℕ) (old new : Node) (x : Taken) → SameVoters (raft.voters servers) x.inputs →
    new.members.at ≤ old.raft.commit → new.members.servers ≡ servers → new.members.later ≡ [] → VotersWereTold (fixed servers) me old new x

-- With voters that change: the configuration of a whole log, and of what is proposed at its end, by the configuration of the
-- snapshot, which its bytes begin with, and the entries after it that the node holds.
abbrev pub MembersKnown : Type 0
MembersKnown =
    (setup : Setup) (s v : raft.Node) (more : List Entry) → Twin s v → v.base ≤ v.snapshot.index →
    configuration setup (s.log ++ more) ≡ configuration_from setup (configuration setup (take v.snapshot.index s.log)) (drop v.snapshot.index v.log ++ more)

-- ---- what follows

-- An event that ended well is an act that fits; the node continues to represent Raft's node and its life; it says what they say,
-- except for what snapshots represent; it hands to readers what the life lends, and its engine gave the answers that the life uses.
pub record Moved (m : Meaning) (kind : EngineKind) (setup : Setup) (acts : List Act) (n : ℕ) (causes : List Cause) (places : List ℕ) (old new : Node) (x : Taken) (letters : List Letter) (replies : List (ℕ × Reply)) (jobs : List (ℕ × Job)) (answers : List Answer) : Type 0 where
  pub life : List Doing
  pub fit : ActsFit m kind setup first_cluster (acts ++ Moves n causes places life ∷ [])
  pub stands : Stands setup new (node_at setup (cluster setup (acts ++ Moves n causes places life ∷ [])).raft n) ((cluster setup (acts ++ Moves n causes places life ∷ [])).lives n)
  pub counts : Counts setup new (node_at setup (cluster setup (acts ++ Moves n causes places life ∷ [])).raft n)
  pub says : AlikeAll (said (member_step setup n) (node_at setup (cluster setup acts).raft n) (taken_in setup (cluster setup acts) n causes)) (map (λ (l : Letter). l.message) letters)
  pub told_so : replies ≡ map told (said_of (cluster setup acts) (Moves n causes places life))
  pub lends : jobs ≡ lent_in ((cluster setup acts).lives n) life
  pub uses : answers ≡ answers_in ((cluster setup acts).lives n) life
  pub joined : JoinsOnly x.joins life
  pub handled : Handles old new.waiting x life
  pub completes : Completes old new x ((cluster setup acts).lives n) life

abbrev pub StepsFit : Meaning → EngineKind → Type 0
StepsFit m kind =
    (setup : Setup) (acts : List Act) (n : ℕ) (causes : List Cause) (places : List ℕ) (old new : Node) (x : Taken) (letters : List Letter) (replies : List (ℕ × Reply)) (jobs : List (ℕ × Job)) (answers : List Answer) →
    ActsFit m kind setup first_cluster acts → Stands setup old (node_at setup (cluster setup acts).raft n) ((cluster setup acts).lives n) → Counts setup old (node_at setup (cluster setup acts).raft n) →
    AlikeInputs (taken_in setup (cluster setup acts) n causes) x.inputs → BytesAre setup x.bytes (taken_in setup (cluster setup acts) n causes) →
    ReadsIn m kind ((cluster setup acts).lives n) x.read → TellsVoters setup n old x → VotersWereTold setup n old new x → CompletesStep m kind setup n old new x letters replies jobs answers →
    Moved m kind setup acts n causes places old new x letters replies jobs answers

-- A stopped event is one that fits too, and leaves what is kept.
pub record Stopped (m : Meaning) (kind : EngineKind) (setup : Setup) (acts : List Act) (n : ℕ) (causes : List Cause) (old : Node) (x : Taken) (kept : Kept) : Type 0 where
  pub upto : ℕ
  pub applied : ℕ
  pub base : ℕ
  pub life : List Doing
  pub fit : ActsFit m kind setup first_cluster (acts ++ Breaks n causes upto applied base life ∷ [])
  pub keeps : KeptIs setup kept (stored_of (node_at setup (cluster setup (acts ++ Breaks n causes upto applied base life ∷ [])).raft n))
  pub joined : JoinsOnly x.joins life
  pub handled : Handles old (λ conn. []) x life

abbrev pub StopsFit : Meaning → EngineKind → Type 0
StopsFit m kind =
    (setup : Setup) (acts : List Act) (n : ℕ) (causes : List Cause) (old : Node) (kept : Kept) (x : Taken) →
    ActsFit m kind setup first_cluster acts → Stands setup old (node_at setup (cluster setup acts).raft n) ((cluster setup acts).lives n) → Counts setup old (node_at setup (cluster setup acts).raft n) →
    AlikeInputs (taken_in setup (cluster setup acts) n causes) x.inputs → BytesAre setup x.bytes (taken_in setup (cluster setup acts) n causes) →
    ReadsIn m kind ((cluster setup acts).lives n) x.read → TellsVoters setup n old x → StopsInStep m kind setup n old kept x → Stopped m kind setup acts n causes old x kept

-- A node that is started from what was kept represents Raft's node and a new life.
abbrev pub StartsFit : Meaning → EngineKind → Type 0
StartsFit m kind =
    (setup : Setup) (acts : List Act) (n : ℕ) (servers : List raft.Server) (kept : Kept) (new : Node) →
    ActsFit m kind setup first_cluster acts → (node_at setup (cluster setup acts).raft n).up ≡ false → KeptIs setup kept (stored_of (node_at setup (cluster setup acts).raft n)) → CompletesStart setup kept new servers →
    ActsFit m kind setup first_cluster (acts ++ Starts n servers ∷ [])
    × Stands setup new (node_at setup (cluster setup (acts ++ Starts n servers ∷ [])).raft n) ((cluster setup (acts ++ Starts n servers ∷ [])).lives n)
    × Counts setup new (node_at setup (cluster setup (acts ++ Starts n servers ∷ [])).raft n)
