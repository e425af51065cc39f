-- With the engine of cells the step of a whole node is decided by what was before it.
use Rattle.std.specs.Prelude.{◌≡◌, ◌≢◌, ℕ, false, List, [], map, Ok, Err}
use Rattle.std.specs.List.{AllByRecursion}
use Rattle.sql_engine.specs.declared.fault.EngineFault.TheVariants.{NoMemory}
use Rattle.sql_engine.specs.declared.kind.EngineKind.TheVariants.{Cells}
use Rattle.sql_engine.specs.Cells.{cells}
use Rattle.session_spec.specs.Engines.{Answer}
use Rattle.raft_spec.specs.Node.{Server}
use Rattle.store_laws.specs.Store.{Kept}
use Rattle.raft_on_disk.specs.Keeping.{kept_at}
use Rattle.node_core.specs.declared.event.Event.{Event}
use Rattle.node_core.specs.declared.event.Event.TheVariants as events
use Rattle.node_core.specs.declared.outs.StepOutputs.{StepOutputs}
use Rattle.node_core.specs.declared.running.Running.{Running}
use Rattle.node_core.specs.Plain.{plain_ran}
use Rattle.node_core.specs.Core.{Core, core_of}
use Rattle.node_core.specs.Exact.{StepsExactly}
use Rattle.node_core.specs.ExactStart.{StartsExactly}
use Rattle.raft_on_disk.specs.Replicas.{kept_of}

-- the engine did not want memory
abbrev pub IsAmple : Answer → Type 0
IsAmple answer = answer ≢ Err NoMemory

-- an answer without the number of the transaction that its pages are listed under
abbrev pub plain_answer : Answer → Answer
plain_answer (Ok ran) = Ok (plain_ran ran)
plain_answer (Err fault) = Err fault

-- the node has no peer connections to other nodes, and no readers that work for it
pub record IsAlone (w : Core) : Type 0 where
  pub links : w.links ≡ []
  pub unlinked : w.view.links ≡ false
  pub unread : w.view.readers ≡ false

-- another event than what a reader answers
abbrev pub IsUnread : Event → Type 0
IsUnread (events.ReadDone conn read) = ⊥
IsUnread events.Timeout = Unit {0}
IsUnread events.Beat = Unit {0}
IsUnread events.Yield = Unit {0}
IsUnread (events.Connect conn) = Unit {0}
IsUnread (events.Bytes conn bytes) = Unit {0}
IsUnread (events.Hangup conn) = Unit {0}
IsUnread (events.Peer message) = Unit {0}

-- One core was left and the same was said, by answers that are the same except for numbers of
-- transactions.
pub record IsSame (v u : Core) (one other : StepOutputs) (a b : List Answer) : Type 0 where
  pub core : v ≡ u
  pub replies : one.replies.items ≡ other.replies.items
  pub closed : one.closed.items ≡ other.closed.items
  pub messages : one.messages.items ≡ other.messages.items
  pub answers : map plain_answer a ≡ map plain_answer b
  pub alone : IsAlone v

-- From one core, with no peer connections and no readers, an event leads to one core, by any answers of cells of which none is out of memory.
abbrev pub StepsAreDecided : Type 0
StepsAreDecided = (event : Event) (w v u : Core) (one other : StepOutputs) (a b : List Answer) → IsUnread event → IsAlone w
    → StepsExactly cells Cells event w v one a → StepsExactly cells Cells event w u other b
    → AllByRecursion IsAmple a → AllByRecursion IsAmple b → IsSame v u one other a b

-- Over what was kept a start of an id leads to one core, which has no peer connections and no readers if the start has none.
abbrev pub StartsAreDecided : Type 0
StartsAreDecided = (me : ℕ) (opening : List Server) (kept : Kept) (v u : Core)
    → StartsExactly me false false opening kept v → StartsExactly me false false opening kept u → (v ≡ u) × IsAlone v

-- what a node keeps is a part of its core
abbrev pub KeptIsOfCore : Type 0
KeptIsOfCore = (n : Running) → kept_at (core_of n).raft (core_of n).snap.bytes ≡ kept_of n.replica
