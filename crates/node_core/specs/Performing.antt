-- What an act for a client leaves.
use Rattle.std.specs.Prelude.{◌≡◌, ◌⊎◌, ℕ, List, [], ◌∷◌, ◌++◌, Option, Some}
use Rattle.wire_msgs.specs.declared.request.Request.{Request}
use Rattle.database_state.specs.Machines.{IsMachine}
use Rattle.session_spec.specs.Machine.{machine_of}
use Rattle.session_spec.specs.Sessions.{Reply}
use Rattle.client_sessions.specs.declared.act.Act.{Act}
use Rattle.client_sessions.specs.declared.act.Act.TheVariants as acts
use Rattle.client_sessions.specs.Clients.{Clients, hung_up}
use Rattle.node_core.specs.declared.running.Running.{Running}
use Rattle.node_spec.specs.ClientTurns.{Stays, Connects, HangsUp, Hears, Reads}
use Rattle.node_core.specs.Account.{proposals_in, moment_of, Says, BytesAsk}
use Rattle.node_core.specs.Acts.{messages_by, proposals_by, jobs_by}
use Rattle.node_core.specs.Values.{clients_in}

-- nothing is said, the configurations stay, and there are peer connections where there were
pub record SaysNothing (old new : Running) : Type 0 where
  pub mail : new.mail ≡ old.mail
  pub replies : new.outs.replies.items ≡ old.outs.replies.items
  pub reads : new.outs.reads.items ≡ old.outs.reads.items
  pub members : new.members ≡ old.members
  pub links : new.has_links ≡ old.has_links

-- a connection that carries a peer's messages from now on has gone
abbrev pub gone_by : Act → Clients → Clients
gone_by (acts.Reply conn messages) k = k
gone_by (acts.Propose conn entries) k = k
gone_by (acts.Lend conn job) k = k
gone_by (acts.Transfer conn to reply) k = k
gone_by (acts.Peer conn id reply) k = hung_up k conn

-- An act was done: its messages follow those that were said, its job after those that were handed to readers, and its proposal is
-- due after what was due.
pub record Performed (old new : Running) (act : Act) : Type 0 where
  pub replies : new.outs.replies.items ≡ old.outs.replies.items ++ messages_by act
  pub reads : new.outs.reads.items ≡ old.outs.reads.items ++ jobs_by act
  pub mail : new.mail ≡ old.mail
  pub due : proposals_in new.due.items ≡ proposals_in old.due.items ++ proposals_by act
  pub clients : clients_in new ≡ gone_by act (clients_in old)
  pub replica : new.replica ≡ old.replica
  pub members : new.members ≡ old.members
  pub links : new.has_links ≡ old.has_links
  pub index : new.applied.index ≡ old.applied.index
  pub serving : new.view.serving ≡ old.view.serving
  pub office : new.office ≡ old.office
  pub machine : IsMachine new.applied.machine
  pub files : machine_of new.applied.machine ≡ machine_of old.applied.machine

-- ---- connections that come, go, and send bytes

-- a connection comes, or carries a peer's messages already
abbrev pub MayConnect : Running → Running → ℕ → Type 0
MayConnect old new conn = Stays (moment_of old) (moment_of new) ⊎ Connects (moment_of old) (moment_of new) conn

-- a connection goes, or it is none that is open, or that is to be closed
abbrev pub MayClose : Running → Running → ℕ → Type 0
MayClose old new conn = Stays (moment_of old) (moment_of new) ⊎ HangsUp (moment_of old) (moment_of new) conn

-- the connection whose bytes came goes where its stream has ended, or none does
abbrev pub ClosesIfEnded : Running → Running → Type 0
ClosesIfEnded old new = Stays (moment_of old) (moment_of new) ⊎ ((conn : ℕ) × ((old.heard ≡ Some conn) × MayClose old new conn))

-- bytes come on a connection, with these requests after those that wait
abbrev pub ReceivesBytes : Running → Running → ℕ → List ℕ → Type 0
ReceivesBytes old new conn bytes = (asks : ℕ → List Request) × Hears (moment_of old) (moment_of new) asks × BytesAsk old conn bytes asks

-- the configurations stay, and there are peer connections where there were
pub record StaysBeside (old new : Running) : Type 0 where
  pub members : new.members ≡ old.members
  pub links : new.has_links ≡ old.has_links

-- what a reader answered was told to the connection, and nothing else; or nothing has changed
abbrev pub DeliversRead : Running → Running → ℕ → Option Reply → Type 0
DeliversRead old new conn told =
    (Stays (moment_of old) (moment_of new) × SaysNothing old new)
    ⊎ ((reply : Reply) × ((told ≡ Some reply) × (Reads (moment_of old) (moment_of new) conn × Says old new [] ((conn, reply) ∷ []) [] × StaysBeside old new)))
