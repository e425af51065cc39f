-- How a place with a whole node stands.
use Rattle.std.specs.Prelude.{◌≡◌, ℕ, true, false, Bool, List, [], Option, Some, None}
use Rattle.std.specs.Option.{option_map}
use Rattle.sql_engine.specs.Known.{Known}
use Rattle.sqlite_engine.specs.declared.any.AnyEngine.{AnyEngine}
use Rattle.sqlite_engine.specs.Any.{any_kind, any_known}
use Rattle.engine_recording.specs.Noting.{Noting}
use Rattle.database_state.specs.Databases.{contents_of}
use Rattle.node_core.specs.declared.node.Node.{Node}
use Rattle.node_core.specs.Stepping.{IsUp}
use Rattle.node_core.specs.Values.{raft_of, applied_of, databases_of, has_links}
use Rattle.node_core.specs.Whole.{Agrees, IsSound}
use Rattle.raft_core.specs.declared.role.RaftRole.{RaftRole}
use Rattle.script_cluster.specs.declared.place.NodeLine.{NodeLine}
use Rattle.script_cluster.specs.Outcomes.{Standing}
use Rattle.script_cluster.specs.World.{Place}
use Rattle.script_whole_nodes.specs.declared.node_slot.NodeSlot.{NodeSlot}

-- A node that runs well with an engine that knows this: it isn't down, is sound, no number represents two images at it and the engine, and
-- it has no peer connections.
pub record RunsWell (known : List Known) (node : Node) : Type 0 where
  pub up : IsUp node
  pub sound : IsSound node
  pub agrees : Agrees known node
  pub links : has_links node ≡ false

-- If a node runs, it does so well, and no call of the disk has stopped or failed since it started.
abbrev pub SitsWell : List Known → Bool → Option Node → Type 0
SitsWell known has_failed None = Unit {0}
SitsWell known has_failed (Some node) = RunsWell known node × (has_failed ≡ false)

-- between two calls the engine of a node that runs keeps no answers, and has lost none
abbrev pub IsQuiet : Noting AnyEngine → Option Node → Type 0
IsQuiet engine None = Unit {0}
IsQuiet engine (Some node) = (engine.noted ≡ []) × (engine.cut ≡ false)

abbrev pub Sits : NodeSlot → Type 0
Sits seat = SitsWell (any_known seat.engine.engine) seat.has_failed seat.node

-- And the engine is of the place's kind.
abbrev pub IsSeated : NodeSlot → Type 0
IsSeated seat = Sits seat × IsQuiet seat.engine seat.node × (any_kind seat.engine.engine ≡ seat.kind)

abbrev pub standing_of : Node → Standing
standing_of node = record { term = (raft_of node).term; role = (raft_of node).role; applied = applied_of node; databases = contents_of (databases_of node) }

-- the line of a node in this term and role, which has applied this many entries, with this digest of its files
abbrev pub line_with : ℕ → RaftRole → ℕ → List ℕ → NodeLine
line_with term role applied sum = record { term = term; role = role; applied = applied; digest = sum }

-- how a place shows where this node runs, if one does, and whether a call of the disk has stopped or failed
abbrev pub place_with : Option Node → Bool → Place
place_with seated failed = record { standing = option_map standing_of seated; failed = failed }

abbrev pub place_of : NodeSlot → Place
place_of seat = place_with seat.node seat.has_failed

-- no node runs there, and a call of the disk has stopped or failed
pub record HasFallen (seated : Option Node) (has_failed : Bool) : Type 0 where
  pub none : seated ≡ None
  pub failed : has_failed ≡ true
