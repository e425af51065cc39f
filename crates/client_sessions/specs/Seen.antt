-- The clients of a node as the rules see them, over the state machine in which their transactions have pinned images.
use Rattle.std.specs.Prelude.{List}
use Rattle.std.specs.Ordering.{nat_cmp}
use Rattle.std.specs.BTreeMap.{get}
use Rattle.sql_engine.specs.Known.{Known}
use Rattle.database_state.specs.declared.database.Database.{Database}
use Rattle.database_state.specs.Pins.{Pinning, IsPinned}
use Rattle.session_gateway.specs.Seen as gateway
use Rattle.session_gateway.specs.Seen.{seen, PinsOf}
use Rattle.client_sessions.specs.declared.clients.Clients.{Clients as Held}
use Rattle.client_sessions.specs.Clients.{Clients, Sound}

-- the sessions, the streams of the open connections, and whose turn it is
unfoldable pub clients_of : Held → List Database → Clients
clients_of held databases = record { sessions = seen held.gateway databases; streams = λ conn. get nat_cmp held.connections conn; turns = held.turns.items }

-- The clients stand over a state machine: its live marks are those of their transactions, and all is as it has to be of clients.
pub record AreValidOver (held : Held) (databases : List Database) : Type 0 where
  pub pins : PinsOf held.gateway databases
  pub sound : Sound (clients_of held databases)

-- no number represents two images: neither for an engine, nor for the clients' transactions, nor for the databases
abbrev pub Agrees : List Known → Held → List Database → Type 0
Agrees known held databases = gateway.Agrees known held.gateway databases

-- no image of these databases is pinned
abbrev pub HasNoMarks : List Database → Type 0
HasNoMarks databases = (pin : Pinning) → IsPinned databases pin → ⊥
