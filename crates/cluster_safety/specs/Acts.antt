-- What a run represents: acts of a cluster that fit.
use Rattle.std.specs.Prelude.{cond, ◌==◌, ◌≡◌, ◌≢◌, ℕ, Option, Some, List, [], ◌∷◌, ◌++◌, map}
use Rattle.sql_engine.specs.declared.kind.EngineKind.{EngineKind}
use Rattle.sql_engine.specs.Meanings.{Meaning}
use Rattle.session_spec.specs.Sessions.{Reply, Job}
use Rattle.wire_msgs.specs.declared.request.Request.{Request}
use Rattle.session_safety.specs.Nodes.{Node as Life}
use Rattle.session_safety.specs.Laws.{NoneComes}
use Rattle.session_safety.specs.Lending.{JobsAre}
use Rattle.raft_spec.specs.Node as raft
use Rattle.raft_spec.specs.Account.{stored_of}
use Rattle.raft_safety.specs.Cuts.{AlikeMessage}
use Rattle.raft_safety.specs.Laws.{node_at}
use Rattle.raft_safety.specs.Members.{Setup}
use Rattle.raft_safety.specs.World.{run as raft_run}
use Rattle.cluster_model.specs.Clusters.{Act, all_doings, first_cluster, cluster, ActsFit}
use Rattle.cluster_model.specs.Laws.{NoneStarts}
use Rattle.node_spec.specs.Nodes.{KeptIs, Stands}
use Rattle.node_spec.specs.Steps.{Letter, FrontIs, Counts, told, calls, ArePartOf}
use Rattle.cluster_safety.specs.Runs.{Place, Up, Down, Spoken, Run, Goes, Fails, Crashes, Starts, StartFails, Event, joins_in, asks_in, first_run, run_from, run, AllHold}

-- A message represents one of Raft's world, and its bytes for the front of that one.
pub record LetterIs (setup : Setup) (m : raft.Message) (l : Letter) : Type 0 where
  pub alike : AlikeMessage m l.message
  pub front : FrontIs setup l.bytes m.what

-- so of all messages, one by one
abbrev pub LettersAre : Setup → List raft.Message → List Letter → Type 0
LettersAre setup [] ls = ls ≡ []
LettersAre setup (m ∷ ms) ls = (l : Letter) × (rest : List Letter) × (ls ≡ l ∷ rest) × LetterIs setup m l × LettersAre setup ms rest

-- A node that is up represents one of Raft's world and its life, and the last job of a connection whose query a reader has is that of the
-- life; what one that is down has kept represents what Raft's node has stored.
abbrev pub PlaceIs : Setup → Place → (ℕ → Option Job) → raft.Node → Life → Type 0
PlaceIs setup (Up node) jobs s w = Stands setup node s w × Counts setup node s × JobsAre jobs w
PlaceIs setup (Down kept) jobs s w = KeptIs setup kept (stored_of s)

abbrev pub spoken_to : Spoken → ℕ × Reply
spoken_to x = (x.conn, x.reply)

-- The run represents these acts.
pub record RunIs (m : Meaning) (kind : EngineKind) (setup : Setup) (r : Run) (acts : List Act) : Type 0 where
  pub fit : ActsFit m kind setup first_cluster acts
  pub places : (n : ℕ) → PlaceIs setup (r.places n) (r.jobs n) (node_at setup (cluster setup acts).raft n) ((cluster setup acts).lives n)
  pub letters : LettersAre setup (raft_run setup (cluster setup acts).raft).messages r.letters
  pub said : map spoken_to r.said ≡ map told (cluster setup acts).said

-- Every run represents acts that fit.
abbrev pub RunsMakeActs : Meaning → EngineKind → Type 0
RunsMakeActs m kind = (setup : Setup) (events : List Event) → AllHold m kind setup first_run events → (acts : List Act) × RunIs m kind setup (run events) acts

-- the node isn't started in these events
abbrev pub NotStarted : ℕ → List Event → Type 0
NotStarted n [] = Unit {0}
NotStarted n (Goes k came added new letters replies jobs ∷ events) = NotStarted n events
NotStarted n (Fails k came added kept ∷ events) = NotStarted n events
NotStarted n (Crashes k ∷ events) = NotStarted n events
NotStarted n (Starts k servers new ∷ events) = (n ≢ k) × NotStarted n events
NotStarted n (StartFails k kept ∷ events) = NotStarted n events

-- no connection of this number reaches the node in these events
abbrev pub NotJoined : ℕ → ℕ → List Event → Type 0
NotJoined n conn [] = Unit {0}
NotJoined n conn (Goes k came added new letters replies jobs ∷ events) = (n ≡ k → joins_in came ≢ Some conn) × NotJoined n conn events
NotJoined n conn (Fails k came added kept ∷ events) = (n ≡ k → joins_in came ≢ Some conn) × NotJoined n conn events
NotJoined n conn (Crashes k ∷ events) = NotJoined n conn events
NotJoined n conn (Starts k servers new ∷ events) = NotJoined n conn events
NotJoined n conn (StartFails k kept ∷ events) = NotJoined n conn events

-- what a connection of a node has asked in these events
abbrev pub asked : ℕ → ℕ → List Event → List Request
asked n conn [] = []
asked n conn (Goes k came added new letters replies jobs ∷ events) = cond (n == k) (asks_in came conn) [] ++ asked n conn events
asked n conn (Fails k came added kept ∷ events) = cond (n == k) (asks_in came conn) [] ++ asked n conn events
asked n conn (Crashes k ∷ events) = asked n conn events
asked n conn (Starts k servers new ∷ events) = asked n conn events
asked n conn (StartFails k kept ∷ events) = asked n conn events

-- what a node was asked and hasn't handled yet
abbrev pub waits : Place → ℕ → List Request
waits (Up node) conn = node.waiting conn
waits (Down kept) conn = []

-- A run that continues makes further acts. They start a node only if the run does, and a connection comes only if one comes
-- in the run; and what they handle was asked in the run, each request at most once and in order.
pub record GoesOn (m : Meaning) (kind : EngineKind) (setup : Setup) (r : Run) (acts : List Act) (events : List Event) : Type 0 where
  pub later : List Act
  pub is : RunIs m kind setup (run_from r events) (acts ++ later)
  pub starts : (n : ℕ) → NotStarted n events → NoneStarts n later
  pub comes : (n conn : ℕ) → NotJoined n conn events → NoneComes conn (all_doings n later)
  pub handles : (n conn : ℕ) → ArePartOf (calls conn (all_doings n later) ++ waits ((run_from r events).places n) conn) (waits (r.places n) conn ++ asked n conn events)

abbrev pub RunsGoOn : Meaning → EngineKind → Type 0
RunsGoOn m kind = (setup : Setup) (r : Run) (acts : List Act) (events : List Event) → RunIs m kind setup r acts → AllHold m kind setup r events → GoesOn m kind setup r acts events
