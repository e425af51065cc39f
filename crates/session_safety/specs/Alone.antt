-- One voter that never stops: what is proposed is applied in the same step. Its run, turn by turn, and that of a script with
-- its journal.
use Rattle.std.specs.Prelude.{◌≡◌, ◌≢◌, ℕ, zero, suc, ◌-◌, ◌<◌, ◌≤◌, Bool, true, false, ◌&&◌, nat_le, List, [], ◌∷◌, ◌++◌, length, drop, map, if◌then◌else◌}
use Rattle.std.specs.List.{filter}
use Rattle.wire_msgs.specs.declared.request.Request.{Request}
use Rattle.log_commands.specs.declared.command.Command.TheVariants.{Checkpoint}
use Rattle.sql_engine.specs.declared.kind.EngineKind.{EngineKind}
use Rattle.sql_engine.specs.Meanings.{Meaning}
use Rattle.session_spec.specs.Asking.{fits_one_voter}
use Rattle.session_spec.specs.Causes.{LeadershipLost}
use Rattle.session_spec.specs.Entries.{Content, Does, Configures, Other, Entry}
use Rattle.session_spec.specs.Machine.{Machine}
use Rattle.session_spec.specs.Engines.{Answer, used_for, AllowsFor}
use Rattle.session_spec.specs.Sessions.{Refusal, Turned, Refused, Lacks, Answers, Proposes, Lends, Affects, is_busy, may_ask}
use Rattle.session_spec.specs.Requests.{on_request, handed}
use Rattle.session_safety.specs.Woven.{Woven}
use Rattle.session_safety.specs.Nodes.{Said, Node, Standing, databases, view_of, started}
use Rattle.session_safety.specs.Life.{Event, Connect, Hangup, Call, Apply, Lead, Serve, Append, happens, run_from}
use Rattle.session_safety.specs.Replies.{AllSaid}
use Rattle.session_safety.specs.Laws.{Sees}

-- What happens at the node in one turn: a timeout; a connection comes, or goes; a request with the engine's answers.
pub data Turn : Type 0 where
  Timeout : Turn
  Join : (conn : ℕ) → Turn
  Leave : (conn : ℕ) → Turn
  Ask : (conn : ℕ) (standing : Standing) (request : Request) (answers : List Answer) → Turn

abbrev pub applies : ℕ → List Event
applies zero = []
applies (suc more) = Apply ∷ applies more

-- all that is in the log is applied
abbrev pub settling : Node → List Event
settling w = applies (length w.log - w.applied)

-- a Checkpoint of each database of which 1,000 pages or more were committed since its last one
abbrev pub due : Machine → List Content
due m = map (λ (name : List ℕ). Does (Checkpoint name)) (filter (λ (name : List ℕ). nat_le 1000 (m.base name).since) m.names)

abbrev pub settled : Node → Node
settled w = run_from w (settling w)

-- the node after the checkpoints that are due
abbrev pub checkpointed : Node → Node
checkpointed w = happens w (Append (due (databases w)))

-- The events of a turn. The first timeout makes the node the leader of term 1, which serves at once.
abbrev pub events_of : Node → Turn → List Event
events_of w Timeout = if w.leads then [] else Lead 1 ∷ Append (Other ∷ []) ∷ Apply ∷ Serve ∷ []
events_of w (Join conn) = Connect conn ∷ []
events_of w (Leave conn) = Hangup conn ∷ []
events_of w (Ask conn standing request answers) =
    if w.leads
    then Call conn standing request answers ∷ settling (happens w (Call conn standing request answers)) ++ Append (due (databases (settled (happens w (Call conn standing request answers))))) ∷ settling (checkpointed (settled (happens w (Call conn standing request answers))))
    else Call conn standing request answers ∷ []

abbrev pub takes_turn : Node → Turn → Node
takes_turn w t = run_from w (events_of w t)

abbrev pub alone_from : Node → List Turn → Node
alone_from w [] = w
alone_from w (t ∷ ts) = alone_from (takes_turn w t) ts

-- the one node after these turns
unfoldable pub alone : List Turn → Node
alone ts = alone_from (started [] 0 0) ts

-- The turn's request is one that a voter takes who has no others and no readers; each answer is one that the engine may give to
-- what the request hands it.
abbrev pub AllowsTurn : Meaning → EngineKind → Node → Turn → Type 0
AllowsTurn m kind w Timeout = Unit {0}
AllowsTurn m kind w (Join conn) = Unit {0}
AllowsTurn m kind w (Leave conn) = Unit {0}
AllowsTurn m kind w (Ask conn standing request answers) = (fits_one_voter request ≡ true) × (standing.readers ≡ false) × (may_ask (w.gate.session conn) ≡ true → AllowsFor m kind (handed (view_of w standing) (databases w) w.gate conn request) answers)

abbrev pub AllowsTurns : Meaning → EngineKind → Node → List Turn → Type 0
AllowsTurns m kind w [] = Unit {0}
AllowsTurns m kind w (t ∷ ts) = AllowsTurn m kind w t × AllowsTurns m kind (takes_turn w t) ts

-- an entry that isn't other servers
abbrev pub KeepsServers : Content → Type 0
KeepsServers (Does command) = Unit {0}
KeepsServers (Configures servers) = ⊥
KeepsServers Other = Unit {0}

-- no entry of the log changes the servers
abbrev pub SameServers : List Entry → Type 0
SameServers [] = Unit {0}
SameServers (e ∷ es) = KeepsServers e.content × SameServers es

-- none of these replies is the refusal of a lost leadership
abbrev pub NoneLost : List Said → Type 0
NoneLost [] = Unit {0}
NoneLost (x ∷ xs) = (x.reply ≢ Refusal LeadershipLost) × NoneLost xs

-- The one node has applied its whole log; each reply is right by it; the entries of each transaction are in one piece; and
-- no request waits for its answer. No entry changes the servers, and no reply says that leadership was lost. If the node
-- leads, it serves, in term 1.
pub record SafeAlone (m : Meaning) (w : Node) : Type 0 where
  pub applied : w.applied ≡ length w.log
  pub said : AllSaid m w.log w.said
  pub woven : Woven w.log
  pub servers : SameServers w.log
  pub kept : NoneLost w.said
  pub answered : (conn : ℕ) → is_busy (w.gate.session conn) ≡ false
  pub serves : w.serving ≡ w.leads
  pub term : w.term ≡ (if w.leads then 1 else 0)

-- This holds after each list of turns.
abbrev pub AloneIsSafe : Meaning → EngineKind → Type 0
AloneIsSafe m kind = (ts : List Turn) → AllowsTurns m kind (started [] 0 0) ts → SafeAlone m (alone ts)

-- A reply that waited is said where its entry has been applied since, and the node leads in the entry's term.
pub record SaidIn (before : ℕ) (v : Node) (x : Said) : Type 0 where
  pub past : before < x.index
  pub within : x.index ≤ v.applied
  pub term : x.term ≡ v.term
  pub leads : v.leads ≡ true

-- this holds for each of these replies that waited
abbrev pub AllIn : ℕ → Node → List Said → Type 0
AllIn before v [] = Unit {0}
AllIn before v (x ∷ xs) = (0 < x.index → SaidIn before v x) × AllIn before v xs

-- What is said from one moment to another: each reply that waited for an entry is said where this entry is applied.
pub record SaysInTime (w v : Node) : Type 0 where
  pub later : List Said
  pub said : v.said ≡ w.said ++ later
  pub here : AllIn w.applied v later

-- This holds in each turn.
abbrev pub TurnsSay : Meaning → EngineKind → Type 0
TurnsSay m kind =
    (ts : List Turn) (t : Turn) → AllowsTurns m kind (started [] 0 0) ts → AllowsTurn m kind (alone ts) t → SaysInTime (alone ts) (takes_turn (alone ts) t)

-- no connection of this number joins
abbrev pub NoneJoins : ℕ → List Turn → Type 0
NoneJoins conn [] = Unit {0}
NoneJoins conn (t ∷ ts) = (t ≢ Join conn) × NoneJoins conn ts

-- In each stretch of turns in which none of a number joins, what its connection has seen is not below what any of its earlier
-- replies rests on.
abbrev pub TurnsSee : Meaning → EngineKind → Type 0
TurnsSee m kind = (ts us : List Turn) (conn : ℕ) → AllowsTurns m kind (started [] 0 0) ts → AllowsTurns m kind (alone ts) us → NoneJoins conn us → Sees conn (alone ts) (alone_from (alone ts) us)

-- ---- scripts

-- an answer that is needed is missing
abbrev pub lacks : Turned → Bool
lacks (Refused cause) = false
lacks Lacks = true
lacks (Answers s reply note) = false
lacks (Proposes s contents note) = false
lacks (Lends s job) = false
lacks (Affects effect) = false

-- what a line of a script asks of the node
pub data Line : Type 0 where
  Times : Line
  Opens : (conn : ℕ) → Line
  Closes : (conn : ℕ) → Line
  Sends : (conn : ℕ) (request : Request) → Line

-- what the request lacks of the journal, if it is handled at all
abbrev pub lacks_now : Standing → Node → ℕ → Request → List Answer → Bool
lacks_now standing w conn request journal = may_ask (w.gate.session conn) && lacks (on_request (view_of w standing) (databases w) w.gate conn request journal)

-- the journal after the answers that the request uses
abbrev pub rest_of : Standing → Node → ℕ → Request → List Answer → List Answer
rest_of standing w conn request journal =
    drop (if may_ask (w.gate.session conn) then used_for (handed (view_of w standing) (databases w) w.gate conn request) journal else 0) journal

-- The turns that lines make with one journal for all of them: each request takes its answers off the front. The run ends
-- before a request that lacks one.
abbrev pub turns_of : (Node → Standing) → Node → List Answer → List Line → List Turn
turns_of standing w journal [] = []
turns_of standing w journal (Times ∷ lines) = Timeout ∷ turns_of standing (takes_turn w Timeout) journal lines
turns_of standing w journal (Opens conn ∷ lines) = Join conn ∷ turns_of standing (takes_turn w (Join conn)) journal lines
turns_of standing w journal (Closes conn ∷ lines) = Leave conn ∷ turns_of standing (takes_turn w (Leave conn)) journal lines
turns_of standing w journal (Sends conn request ∷ lines) =
    if lacks_now (standing w) w conn request journal then []
    else Ask conn (standing w) request journal ∷ turns_of standing (takes_turn w (Ask conn (standing w) request journal)) (rest_of (standing w) w conn request journal) lines

-- the turns of a script's lines with its journal, if a node's standing is described by what it is
abbrev pub script_turns : (Node → Standing) → List Line → List Answer → List Turn
script_turns standing lines journal = turns_of standing (started [] 0 0) journal lines

-- If each answer that the journal gives is one that the engine may give, the run of a script with its journal is safe.
abbrev pub ScriptsAreSafe : Meaning → EngineKind → Type 0
ScriptsAreSafe m kind = (standing : Node → Standing) (lines : List Line) (journal : List Answer) → AllowsTurns m kind (started [] 0 0) (script_turns standing lines journal) → SafeAlone m (alone (script_turns standing lines journal))
