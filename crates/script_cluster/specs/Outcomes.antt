-- What comes of an event at a node, as a script sees it, and what happened at the nodes of a script.
use Rattle.std.specs.Prelude.{ℕ, Bool, true, false, List, [], ◌∷◌, ◌++◌, map, Option, Some, None}
use Rattle.client_connection.specs.declared.connection.CloseReason.{CloseReason}
use Rattle.raft_spec.specs.Node.{Role}
use Rattle.raft_messages.specs.declared.message.RaftMessage.{RaftMessage}
use Rattle.database_state.specs.Files.{Content}
use Rattle.store_laws.specs.Store.{Kept}
use Rattle.session_spec.specs.Engines.{Answer}
use Rattle.script_grammar.specs.declared.grammar.FaultTarget.{FaultTarget}
use Rattle.script_grammar.specs.declared.grammar.FaultTarget.TheVariants.{Nothing, Stop, Fail}

-- how a node stands that runs: its term and role, the index of the last entry that it has applied, and its databases
pub record Standing : Type 0 where
  pub term : ℕ
  pub role : Role
  pub applied : ℕ
  pub databases : List Content

-- what a step says: replies to clients, connections that it closes, messages to other nodes
pub record Outs : Type 0 where
  pub replies : List (ℕ × List ℕ)
  pub closed : List (ℕ × CloseReason)
  pub messages : List RaftMessage

-- How an event ended: a step of a node, which says this and after which the node is so; a start, which loaded what was kept; the
-- disk stopped at a call, or a call failed, when this many things of the event were kept whole; or a start found files that don't load.
pub data Ending : Type 0 where
  Steps : Outs → Standing → Ending
  Starts : Kept → Standing → Ending
  Stops : ℕ → Ending
  Fails : ℕ → Ending
  Unreadable : Ending

-- what a node's engine answered in an event, and how the event ended
pub record Outcome : Type 0 where
  pub answers : List Answer
  pub ending : Ending

-- what a node is asked to do; a start tells with how many voters the cluster was opened
pub data Doing : Type 0 where
  Timeout : Doing
  Beat : Doing
  Connect : (conn : ℕ) → Doing
  Bytes : (conn : ℕ) (bytes : List ℕ) → Doing
  Hangup : (conn : ℕ) → Doing
  Receive : (message : RaftMessage) → Doing
  Start : (voters : ℕ) → Doing

-- what happened at a node: it did something, while the line aimed at a call of its disk; or it crashed
pub data Turn : Type 0 where
  Does : (node : ℕ) (doing : Doing) (aim : FaultTarget) (outcome : Outcome) → Turn
  Crashes : (node pick : ℕ) → Turn

-- ---- the journal

-- what came that the script doesn't say: an engine's answer; how the disk call was met at which a line aims, not at all, or when so
-- many things of its event were kept whole; what was loaded
pub data Item : Type 0 where
  Answered : Answer → Item
  Met : Option ℕ → Item
  Loaded : Kept → Item

-- a line that aims at a call of a disk notes how it was met
abbrev pub met_by : FaultTarget → Option ℕ → List Item
met_by Nothing met = []
met_by (Stop call pick) met = Met met ∷ []
met_by (Fail call) met = Met met ∷ []

-- what is noted of an event by how it ended: of a start also what it loaded, if a call of the node's disk stopped or failed since
-- the last one
abbrev pub noted_by : FaultTarget → Bool → Ending → List Item
noted_by aim failed (Steps outs standing) = met_by aim None
noted_by aim false (Starts kept standing) = met_by aim None
noted_by aim true (Starts kept standing) = met_by aim None ++ Loaded kept ∷ []
noted_by aim failed (Stops keeps) = met_by aim (Some keeps)
noted_by aim failed (Fails keeps) = met_by aim (Some keeps)
noted_by aim failed Unreadable = met_by aim None

-- what is noted of an event: the engine's answers, and then how it ended
abbrev pub noted : FaultTarget → Bool → Outcome → List Item
noted aim failed outcome = map Answered outcome.answers ++ noted_by aim failed outcome.ending
