-- A script over places of whole nodes is safe, up to where a checksum matches by chance in what a start finds.
use Rattle.std.specs.Prelude.{◌≡◌, ℕ, List, [], ◌∷◌, ◌++◌, length, Option, Some, None}
use Rattle.sql_engine.specs.declared.kind.EngineKind.{EngineKind}
use Rattle.sqlite_engine.specs.Any.{any_meaning}
use Rattle.disk_model.specs.Stored.{Contents}
use Rattle.node_core.specs.declared.running.Running.{Running}
use Rattle.script_cluster.specs.Outcomes.{Outcome, Turn}
use Rattle.script_cluster.specs.Knowing.{Told, actor, turns_at}
use Rattle.script_cluster.specs.Run.{run}
use Rattle.script_safety.specs.Slots.{setup_of}
use Rattle.script_safety.specs.Laws.{IsSafe}
use Rattle.script_safety.specs.Mails.{ByNodes, OverByNode}
use Rattle.script_whole_nodes.specs.Lives.{Lives, IsFairWithin}
use Rattle.script_whole_nodes.specs.Turns.{Knows, states_in}

-- The life of a node, after these turns of it: this many finds, and what its disk holds now.
pub record NodeLife (kind : EngineKind) (voters n : ℕ) (turns : List Turn) : Type 0 where
  pub finds : ℕ
  pub disk : Contents
  pub node : Option Running
  pub life : Lives (any_meaning kind) kind (setup_of voters) n finds (states_in disk) turns node

-- so each node has one, except for those at which nothing happened
pub data LifeOf (kind : EngineKind) (voters n : ℕ) (turns : List Turn) : Type 0 where
  idle : turns ≡ [] → LifeOf kind voters n turns
  lived : NodeLife kind voters n turns → LifeOf kind voters n turns

abbrev pub AllLive : EngineKind → ℕ → List Turn → Type 0
AllLive kind voters turns = (n : ℕ) → LifeOf kind voters n (turns_at n turns)

-- no checksum matches by chance in what was found within this many turns of a node
abbrev pub IsFairLife : (kind : EngineKind) (voters n : ℕ) (turns : List Turn) → ℕ → LifeOf kind voters n turns → Type 0
IsFairLife kind voters n turns count (idle none) = Unit {0}
IsFairLife kind voters n turns count (lived one) =
    IsFairWithin (any_meaning kind) kind (setup_of voters) n one.finds (states_in one.disk) turns one.node count one.life

-- so of all nodes, within these turns
abbrev pub IsFairTo : (kind : EngineKind) (voters : ℕ) (turns : List Turn) → AllLive kind voters turns → List Turn → Type 0
IsFairTo kind voters turns lives front = (n : ℕ) → IsFairLife kind voters n (turns_at n turns) (length (turns_at n front)) (lives n)

-- the life of a node with what it did after these turns, which isn't among them
abbrev pub OverLives : EngineKind → ℕ → List Turn → Option Turn → Type 0
OverLives kind voters turns None = Unit {0}
OverLives kind voters turns (Some turn) = NodeLife kind voters (actor turn) (turns_at (actor turn) turns ++ turn ∷ [])

abbrev pub IsFairOver : (kind : EngineKind) (voters : ℕ) (turns : List Turn) (over : Option Turn) → OverLives kind voters turns over → Type 0
IsFairOver kind voters turns None life = Unit {0}
IsFairOver kind voters turns (Some turn) life =
    IsFairWithin (any_meaning kind) kind (setup_of voters) (actor turn) life.finds (states_in life.disk) (turns_at (actor turn) turns ++ turn ∷ []) life.node
    (length (turns_at (actor turn) turns ++ turn ∷ [])) life.life

-- These turns are those of whole nodes, each over its own disk, in a cluster that was opened with this many voters: up to any of them, whole
-- nodes did this, if no checksum matched by chance in what was found until then. This holds for what a node did that isn't among them.
pub record AreOfNodes (kind : EngineKind) (turns : List Turn) (over : Option Turn) : Type 0 where
  pub voters : ℕ
  pub lives : AllLive kind voters turns
  pub by_nodes : (front rest : List Turn) → turns ≡ front ++ rest → IsFairTo kind voters turns lives front →
      ByNodes (any_meaning kind) kind (setup_of voters) front
  pub last : OverLives kind voters turns over
  pub by_last : IsFairOver kind voters turns over last → OverByNode (any_meaning kind) kind (setup_of voters) turns over

-- ---- the laws

-- this holds if the places of whole nodes know the turns
abbrev pub PlacesTell : EngineKind → Type 0
PlacesTell kind = (turns : List Turn) (over : Option Turn) → Told (Knows kind) turns over → AreOfNodes kind turns over

-- Whatever script it was, and whatever came of its events: up to any turn it is safe, if nothing was found by chance until then.
abbrev pub WholeScriptsAreSafe : EngineKind → Type 0
WholeScriptsAreSafe kind =
    (script : List ℕ) (outcomes : List Outcome) (over : Option Turn) (of : AreOfNodes kind (run script outcomes).turns over) (front rest : List Turn) →
    (run script outcomes).turns ≡ front ++ rest → IsFairTo kind of.voters (run script outcomes).turns of.lives front →
    IsSafe (any_meaning kind) kind (setup_of of.voters) front
