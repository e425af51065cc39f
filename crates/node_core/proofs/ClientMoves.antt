-- Connections that come, go, and send bytes, as stretches of an act.
use Rattle.std.proofs.Common.{◌≡◌, ◌≢◌, inr, ℕ, Bool, false, not, is_none, List, [], ◌∷◌, ◌++◌, Option, Some, None, refl, sym, ap, ◌∙◌, append-nil}
use Rattle.wire_msgs.specs.declared.request.Request.{Request}
use Rattle.client_connection.specs.Connection.{Conn, received}
use Rattle.database_state.specs.Machines.{IsMachine}
use Rattle.session_spec.specs.Machine.{machine_of}
use Rattle.raft_core.specs.declared.event.RaftEvent.TheVariants as raft_events
use Rattle.raft_messages.specs.declared.message.RaftMessage.{RaftMessage}
use Rattle.client_sessions.specs.Clients.{Clients, joined, hung_up, closed, heard, Sound}
use Rattle.node_spec.specs.ClientTurns.{Stays}
use Rattle.node_spec.specs.Turns.{KeepsRaft}
use Rattle.node_core.specs.declared.running.Running.{Running}
use Rattle.node_core.specs.Account.{proposals_in, moment_of, heard_on, BytesAsk}
use Rattle.node_core.specs.Performing.{MayConnect, MayClose, ReceivesBytes}
use Rattle.node_core.specs.Values.{clients_in, requests_in, waiting_on}
use Rattle.node_core.proofs.Bridges.{Shows, same_stays, hung_up_goes, closed_goes, joined_connects, heard_hears}
use Rattle.node_core.proofs.ClientTurns.{keeps_raft}
use Rattle.node_core.proofs.Performing.{proposals_more}

shows_itself : (n : Running) → Shows (moment_of n) (clients_in n)
shows_itself n = record { sessions = refl; waiting = λ conn. refl }

-- what is not Raft's, nor what is due, nor applied, may have changed
pub record SameTurn (old new : Running) : Type 0 where
  pub replica : new.replica ≡ old.replica
  pub index : new.applied.index ≡ old.applied.index
  pub serving : new.view.serving ≡ old.view.serving
  pub due : proposals_in new.due.items ≡ proposals_in old.due.items
  pub machine : IsMachine new.applied.machine
  pub files : machine_of new.applied.machine ≡ machine_of old.applied.machine

keeps : (old new : Running) → SameTurn old new → KeepsRaft (moment_of old) (moment_of new)
keeps old new s = keeps_raft old new s.replica s.index s.serving s.machine s.files

pub stays_so : (old new : Running) → SameTurn old new → clients_in new ≡ clients_in old → Stays (moment_of old) (moment_of new)
stays_so old new s is =
    same_stays (moment_of old) (moment_of new) (clients_in old) (clients_in new) (shows_itself old) (shows_itself new) (keeps old new s) s.due (ap (λ (k : Clients). k.sessions) is) (λ conn. ap (λ (k : Clients). k.streams conn) is)

pub comes_so : (old new : Running) (conn : ℕ) → SameTurn old new → Sound (clients_in old) → clients_in new ≡ joined (clients_in old) conn → MayConnect old new conn
comes_so old new conn s sound is =
    inr (joined_connects (moment_of old) (moment_of new) (clients_in old) (clients_in new) (shows_itself old) (shows_itself new) (keeps old new s) s.due conn sound is)

pub hangs_so : (old new : Running) (conn : ℕ) → SameTurn old new → clients_in new ≡ hung_up (clients_in old) conn → MayClose old new conn
hangs_so old new conn s is = hung_up_goes (moment_of old) (moment_of new) (clients_in old) (clients_in new) (shows_itself old) (shows_itself new) (keeps old new s) s.due conn is

pub closes_so : (old new : Running) (conn : ℕ) → SameTurn old new → clients_in new ≡ closed (clients_in old) conn → MayClose old new conn
closes_so old new conn s is = closed_goes (moment_of old) (moment_of new) (clients_in old) (clients_in new) (shows_itself old) (shows_itself new) (keeps old new s) s.due conn is

-- bytes on a connection of a client
asked_by : (old : Running) (conn : ℕ) (bytes : List ℕ) (asks : ℕ → List Request) (stream : Option Conn) → (clients_in old).streams conn ≡ stream → ((other : ℕ) → other ≢ conn → asks other ≡ [])
    → ((c : Conn) → (clients_in old).streams conn ≡ Some c → requests_in c.waiting ++ asks conn ≡ requests_in (received c bytes).waiting) → ((clients_in old).streams conn ≡ None → asks conn ≡ []) → BytesAsk old conn bytes asks
asked_by old conn bytes asks None is others some none = record {
  here = ap (λ (x : Option Conn). waiting_on x ++ asks conn) is ∙ none is ∙ sym (ap (λ (x : Option Conn). heard_on x bytes) is);
  others = others;
}
asked_by old conn bytes asks (Some c) is others some none = record {
  here = ap (λ (x : Option Conn). waiting_on x ++ asks conn) is ∙ some c is ∙ sym (ap (λ (x : Option Conn). heard_on x bytes) is);
  others = others;
}

pub hears_so : (old new : Running) (conn : ℕ) (bytes : List ℕ) → SameTurn old new → clients_in new ≡ heard (clients_in old) conn bytes → ReceivesBytes old new conn bytes
hears_so old new conn bytes s is =
    let h = heard_hears (moment_of old) (moment_of new) (clients_in old) (clients_in new) (shows_itself old) (shows_itself new) (keeps old new s) s.due conn bytes is in
    (h.0, h.1, asked_by old conn bytes h.0 ((clients_in old).streams conn) refl h.2 h.3 h.4)

-- bytes on one that isn't a client's
not_open : (o : Option Conn) (is_open : Bool) → is_open ≡ not (is_none o) → is_open ≡ false → o ≡ None
not_open None is_open e f = refl
not_open (Some c) is_open e f = absurd (cc (e, f))

pub hears_none : (old new : Running) (conn : ℕ) (bytes : List ℕ) (is_open : Bool) → is_open ≡ not (is_none ((clients_in old).streams conn)) → is_open ≡ false → SameTurn old new → clients_in new ≡ clients_in old → ReceivesBytes old new conn bytes
hears_none old new conn bytes is_open e f s is =
    let none = not_open ((clients_in old).streams conn) is_open e f in
    let stays = stays_so old new s is in (
      (λ other. []),
      record {
        sessions = stays.sessions;
        waiting = λ other. stays.same.waiting other ∙ sym (append-nil ((moment_of old).node.waiting other));
        due = stays.same.due;
        rest = stays.rest;
      },
      record {
        here = append-nil (waiting_on ((clients_in old).streams conn)) ∙ ap waiting_on none ∙ sym (ap (λ (x : Option Conn). heard_on x bytes) none);
        others = λ other apart. refl;
      },
    )

-- a message of a peer is due, which is no proposal
pub message_due : (old new : Running) (m : RaftMessage) → new.due.items ≡ old.due.items ++ raft_events.Message m ∷ [] → proposals_in new.due.items ≡ proposals_in old.due.items
message_due old new m is = ap proposals_in is ∙ proposals_more old.due.items (raft_events.Message m) ∙ append-nil (proposals_in old.due.items)
