-- What a node begins with, exactly: from what its parts show.
use Rattle.std.proofs.Common.{◌≡◌, ◌<◌, ℕ, ◌-◌, Bool, true, false, List, [], length, Some, None, Result, Ok, Err, arith, refl, sym, ap, ◌∙◌}
use Rattle.std.specs.Prelude.{◌==◌, IfOk}
use Rattle.std.proofs.lemmas.Bool.{cond-false, ne_eqb}
use Rattle.raft_spec.specs.Account.{loaded}
use Rattle.raft_spec.specs.Node.{Server}
use Rattle.raft_spec.specs.NodeValues.{node_of}
use Rattle.raft_messages.specs.declared.message.Snapshot.{Snapshot}
use Rattle.raft_membership.specs.Members.{Configurations, last_servers}
use Rattle.session_spec.specs.Machine.{machine_of}
use Rattle.session_spec.specs.Sessions.{View}
use Rattle.client_sessions.specs.Clients.{Clients}
use Rattle.database_state.specs.Databases.{contents_of}
use Rattle.database_state.specs.Machines.{IsMachine}
use Rattle.database_state.specs.Restoring.{restored}
use Rattle.store_laws.specs.Store.{Kept}
use Rattle.store_format.specs.FilesRead.{snap_kept}
use Rattle.raft_on_disk.specs.Replicas.{ReplicaValue, stored_at}
use Rattle.applied_state.specs.declared.applied.Applied.{Applied}
use Rattle.applied_state.specs.Snapshot.{snapshot_in, snapshot_value, IsRestored, contents_in}
use Rattle.applied_state.proofs.Names.{own_contents}
use Rattle.node_core.specs.declared.fault.StartFault.{StartFault}
use Rattle.node_core.specs.declared.running.Running.{Running}
use Rattle.node_core.specs.Plain.{plain_gate}
use Rattle.node_core.specs.Core.{core_of}
use Rattle.node_core.specs.ExactStart.{AppliesExactly, kept_members, started, StartsExactly}
use Rattle.node_core.specs.Starting.{HasStarted}

-- ---- what is applied

-- what a snapshot says
pub snapshot_applies : (opening : List Server) (s : Snapshot) (a : Applied) → 0 < s.index → snapshot_in s.bytes ≡ Some (snapshot_value a) → IsRestored s.index s.bytes a → AppliesExactly opening (snap_kept (Some s)) a
snapshot_applies opening s a past reads is = record {
  state = snapshot_value a;
  found = cond-false (s.index == 0) (Some (record { servers = opening; contents = [] })) (snapshot_in s.bytes) (ne_eqb s.index 0 (λ e. omega arith)) ∙ reads;
  servers = refl;
  machine = is.fresh;
}

-- nothing, with the servers of the opening
pub none_applies : (opening : List Server) (a : Applied) → a ≡ record { machine = []; servers = opening; index = 0 } → AppliesExactly opening (snap_kept None) a
none_applies opening a is = record {
  state = record { servers = opening; contents = [] };
  found = refl;
  servers = ap (λ (x : Applied). x.servers) is;
  machine = ap (λ (x : Applied). x.machine) is;
}

-- if a snapshot was read
pub restored_applies : (r : Result Applied StartFault) (opening : List Server) (s : Snapshot) → 0 < s.index → IfOk r (λ a. snapshot_in s.bytes ≡ Some (snapshot_value a)) → IfOk r (IsRestored s.index s.bytes)
    → IfOk r (AppliesExactly opening (snap_kept (Some s)))
restored_applies (Err fault) opening s past reads is = tt
restored_applies (Ok a) opening s past reads is = snapshot_applies opening s a past reads is

-- ---- all of it

-- the parts of a node that starts
pub record StartedSo (me : ℕ) (links readers : Bool) (opening servers : List Server) (kept : Kept) (replica : ReplicaValue) (members : Configurations) (applied : Applied) (view : View) : Type 0 where
  pub id : replica.id ≡ me
  pub raft : node_of replica.raft ≡ loaded true servers (stored_at kept)
  pub snap : replica.snap ≡ kept.snap
  pub index : applied.index ≡ kept.snap.index
  pub applies : AppliesExactly opening kept.snap applied
  pub members_are : members ≡ kept_members applied.servers kept
  pub current : servers ≡ last_servers members
  pub view_is : view ≡ record {
    id = me;
    leader = None;
    serving = false;
    term = (node_of replica.raft).term;
    last = length (node_of replica.raft).log;
    servers = applied.servers;
    links = links;
    readers = readers;
    even = [];
    near = [];
  }

pub started_exactly : (me : ℕ) (links readers : Bool) (opening servers : List Server) (kept : Kept) (replica : ReplicaValue) (members : Configurations) (applied : Applied) (view : View) (n : Running)
    → StartedSo me links readers opening servers kept replica members applied view → HasStarted replica members applied view n → n.links.all.items ≡ [] → StartsExactly me links readers opening kept (core_of n)
unfolding core_of
started_exactly me links readers opening servers kept replica members applied view n p h unlinked =
    let s = p.applies.state in
    let served : applied.servers ≡ s.servers = p.applies.servers in
    let raft : node_of replica.raft ≡ loaded true (last_servers (kept_members s.servers kept)) (stored_at kept) =
    p.raft ∙ ap (λ (servers : List Server). loaded true servers (stored_at kept)) (p.current ∙ ap last_servers p.members_are ∙ ap (λ (servers : List Server). last_servers (kept_members servers kept)) served) in
    let files : machine_of n.applied.machine ≡ machine_of (restored s.contents) = ap (λ (a : Applied). machine_of a.machine) h.applied_is ∙ ap machine_of p.applies.machine in
    let view_at : n.view ≡ (started me links readers kept s).view =
    h.view_is ∙ p.view_is
    ∙ (λ i. record { id = me; leader = None; serving = false; term = (raft i).term; last = length (raft i).log; servers = served i; links = links; readers = readers; even = []; near = [] }) in
    record {
      state = s;
      found = p.applies.found;
      is = λ i. record {
        me = (ap (λ (r : ReplicaValue). r.id) h.replica_is ∙ p.id) i;
        raft = (ap (λ (r : ReplicaValue). node_of r.raft) h.replica_is ∙ raft) i;
        snap = (ap (λ (r : ReplicaValue). r.snap) h.replica_is ∙ p.snap) i;
        members = (h.members_are ∙ p.members_are ∙ ap (λ (servers : List Server). kept_members servers kept) served) i;
        applied = (ap (λ (a : Applied). a.index) h.applied_is ∙ p.index) i;
        servers = (ap (λ (a : Applied). a.servers) h.applied_is ∙ served) i;
        files = files i;
        sessions = ap (λ (k : Clients). plain_gate k.sessions) h.clients i;
        streams = ap (λ (k : Clients). k.streams) h.clients i;
        turns = ap (λ (k : Clients). k.turns) h.clients i;
        view = view_at i;
        office = h.office i;
        due = h.idle i;
        heard = h.heard i;
        links = unlinked i;
        mail = h.quiet.mail i;
        replies = h.quiet.replies i;
        closed = h.quiet.closed i;
      };
    }

-- its databases are those of its core
pub core_files : (n : Running) → IsMachine n.applied.machine → contents_of n.applied.machine ≡ contents_in (core_of n).files
unfolding core_of
core_files n m = sym (own_contents n.applied.machine m.in_order)
