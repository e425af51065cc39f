-- What reaches a node of a run where an act of a step begins.
use Rattle.std.specs.Prelude.{◌≡◌, ℕ, List, [], ◌∷◌, Option, Some, None, slice_get}
use Rattle.std.specs.List.{AllByRecursion}
use Rattle.sql_engine.specs.declared.kind.EngineKind.{EngineKind}
use Rattle.sql_engine.specs.Meanings.{Meaning}
use Rattle.session_spec.specs.Sessions.{Reply}
use Rattle.session_outcomes.specs.Reading.{read_named}
use Rattle.raft_messages.specs.declared.message.RaftMessage.{RaftMessage}
use Rattle.node_core.specs.declared.event.Event.TheVariants as events
use Rattle.node_core.specs.Account.{letter_of, Begin, Happens, Comes, Compacts}
use Rattle.cluster_safety.specs.Runs as runs
use Rattle.cluster_safety.specs.Runs.{Run, Asks, TellsOf}

-- nothing comes
abbrev pub nothing : runs.Comes
nothing = Asks 0 []

-- The message was made in the run, as the peer message of this number, and is for this node.
pub record IsMade (r : Run) (n : ℕ) (m : RaftMessage) : Type 0 where
  pub number : ℕ
  pub is : slice_get r.letters number ≡ Some (letter_of m)
  pub to : m.to ≡ n

-- What a reader answers is made of answers over the image of its job; one that gives its query back says nothing.
abbrev pub ReadTells : Meaning → EngineKind → Run → ℕ → ℕ → Option Reply → Type 0
ReadTells m kind r n conn None = Unit {0}
ReadTells m kind r n conn (Some reply) = TellsOf m kind (r.jobs n conn) reply

-- What reaches a node where an act begins may come in the run.
abbrev pub Arrives : Meaning → EngineKind → Run → ℕ → Begin → Type 0
Arrives m kind r n (Happens (events.Peer message)) = IsMade r n message
Arrives m kind r n (Happens (events.ReadDone conn read)) = ReadTells m kind r n conn (read_named read)
Arrives m kind r n (Happens events.Timeout) = Unit {0}
Arrives m kind r n (Happens events.Beat) = Unit {0}
Arrives m kind r n (Happens events.Yield) = Unit {0}
Arrives m kind r n (Happens (events.Connect conn)) = Unit {0}
Arrives m kind r n (Happens (events.Bytes conn bytes)) = Unit {0}
Arrives m kind r n (Happens (events.Hangup conn)) = Unit {0}
Arrives m kind r n (Comes message) = IsMade r n message
Arrives m kind r n (Compacts index) = Unit {0}

-- so of an act after the first one: a message on a connection was made in the run
abbrev pub ArrivesLater : Run → ℕ → Begin → Type 0
ArrivesLater r n (Happens event) = ⊥
ArrivesLater r n (Comes message) = IsMade r n message
ArrivesLater r n (Compacts index) = Unit {0}

-- so of the acts of a step
abbrev pub AllArrive : Meaning → EngineKind → Run → ℕ → List Begin → Type 0
AllArrive m kind r n [] = Unit {0}
AllArrive m kind r n (begin ∷ begins) = Arrives m kind r n begin × AllByRecursion (ArrivesLater r n) begins

-- the connection on which bytes come where an act begins so
abbrev pub asks_of : Begin → Option ℕ
asks_of (Happens (events.Bytes conn bytes)) = Some conn
asks_of (Happens (events.Peer message)) = None
asks_of (Happens (events.ReadDone conn read)) = None
asks_of (Happens events.Timeout) = None
asks_of (Happens events.Beat) = None
asks_of (Happens events.Yield) = None
asks_of (Happens (events.Connect conn)) = None
asks_of (Happens (events.Hangup conn)) = None
asks_of (Comes message) = None
asks_of (Compacts index) = None
