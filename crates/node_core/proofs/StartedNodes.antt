-- A node over what was loaded.
use Rattle.std.proofs.Common.{◌≡◌, suc, ◌-◌, false, true, List, ◌++◌, length, drop, sym, ap, subst, ◌∙◌, arith}
use Rattle.std.specs.List.{AllByRecursion}
use Rattle.raft_spec.specs.Account.{loaded}
use Rattle.raft_spec.specs.Laws.{HasShortTerm}
use Rattle.raft_spec.specs.Log.{Entry, LogEnd}
use Rattle.raft_spec.specs.Node.{Node, Server, is_leader}
use Rattle.raft_spec.specs.NodeValues.{NodeValue, IsCoherent, node_of}
use Rattle.raft_messages.specs.Servers.{IsConfiguration}
use Rattle.raft_safety.specs.Members.{configuration}
use Rattle.raft_membership.specs.Members.{Configurations, AllStand, IsOf, last_servers, read_setup}
use Rattle.store_laws.specs.Store.{Snap, Kept}
use Rattle.store_format.specs.Starts.{CanStart}
use Rattle.session_spec.specs.Sessions.{View}
use Rattle.client_sessions.specs.Clients.{Clients}
use Rattle.raft_on_disk.specs.Replicas.{ReplicaValue, IsWhole, kept_of, stored_at}
use Rattle.applied_state.specs.declared.applied.Applied.{Applied}
use Rattle.node_spec.specs.RaftTurns.{HasEnded}
use Rattle.node_spec.proofs.EndedSessions.{ends_on_holds}
use Rattle.node_core.specs.declared.running.Running.{Running}
use Rattle.node_core.specs.Account.{proposals_in, moment_of}
use Rattle.node_core.specs.Starting.{AppliesKept, Begun, HasStarted}
use Rattle.node_core.specs.Values.{seen, waiting_on}
use Rattle.node_core.specs.Waiting.{HasTurns}
use Rattle.node_core.specs.Whole.{InOffice, LeadsInOffice, ServesLast, IsFree, IsOwnDue, Rests}
use Rattle.node_core.proofs.Waiting.{none_turns}

-- what is known of the parts of a node that starts
pub record Parts (opening servers : List Server) (kept : Kept) (replica : ReplicaValue) (members : Configurations) (applied : Applied) (view : View) : Type 0 where
  pub starts : CanStart kept
  pub applies : AppliesKept opening kept.snap applied
  pub whole : IsWhole replica
  pub raft : node_of replica.raft ≡ loaded true servers (stored_at kept)
  pub short : HasShortTerm (node_of replica.raft)
  pub keeps : kept_of replica ≡ kept
  pub snap : replica.snap ≡ kept.snap
  pub stand : AllStand members
  pub at : members.at ≡ applied.index
  pub is : (first : List Server) (front : List Entry) → length front ≡ kept.snap.index → configuration (read_setup first) front ≡ applied.servers →
      IsOf (read_setup first) (front ++ drop (suc kept.snap.index - kept.log.first) kept.log.entries) members
  pub current : servers ≡ last_servers members
  pub serving : view.serving ≡ false
  pub term : view.term ≡ replica.raft.term
  pub last : view.last ≡ length (node_of replica.raft).log
  pub told : view.servers ≡ applied.servers

pub started_rests : (opening servers : List Server) (kept : Kept) (replica : ReplicaValue) (members : Configurations) (applied : Applied) (view : View) (n : Running) → Parts opening servers kept replica members applied view → HasStarted replica members applied view n → Rests n
started_rests opening servers kept replica members applied view n p h =
    let snap : replica.raft.snapshot.index ≡ kept.snap.index = ap (λ (e : LogEnd). e.index) p.whole.snap ∙ ap (λ (s : Snap). s.index) p.snap in
    let index : applied.index ≡ kept.snap.index = p.applies.index in
    let commit : replica.raft.commit ≡ kept.snap.index = ap (λ (s : Node). s.commit) p.raft in
    let raft_is : n.replica.raft ≡ replica.raft = ap (λ (r : ReplicaValue). r.raft) h.replica_is in
    let snap_n : n.replica.raft.snapshot.index ≡ replica.raft.snapshot.index = ap (λ (v : NodeValue). v.snapshot.index) raft_is in
    let commit_n : n.replica.raft.commit ≡ replica.raft.commit = ap (λ (v : NodeValue). v.commit) raft_is in
    let index_n : n.applied.index ≡ applied.index = ap (λ (a : Applied). a.index) h.applied_is in
    record {
      going = record {
        holds = record {
          replica = subst IsWhole (sym h.replica_is) p.whole;
          short = subst (λ (v : NodeValue). HasShortTerm (node_of v)) (sym raft_is) p.short;
          clients = h.stand;
          turns = subst HasTurns (sym h.clients) none_turns;
          servers = subst (λ (a : Applied). IsConfiguration a.servers) (sym h.applied_is) p.applies.servers;
          members = subst AllStand (sym h.members_are) p.stand;
          at = ap (λ (m : Configurations). m.at) h.members_are ∙ p.at ∙ sym index_n;
          low = omega (arith, snap, index, snap_n, index_n);
          high = omega (arith, commit, index, commit_n, index_n);
          due = subst (AllByRecursion IsOwnDue) (sym h.idle) tt;
        };
        office = subst (λ o. InOffice o n.view.serving n.replica.raft) (sym h.office) (ap (λ (v : View). v.serving) h.view_is ∙ p.serving);
        seen = ap (λ (v : View). v.servers) h.view_is ∙ p.told ∙ sym (ap (λ (a : Applied). a.servers) h.applied_is);
        in_term = ap (λ (v : View). v.term) h.view_is ∙ p.term ∙ sym (ap (λ (v : NodeValue). v.term) raft_is);
        last = ap (λ (v : View). v.last) h.view_is ∙ p.last ∙ sym (ap (λ (v : NodeValue). length (node_of v).log) raft_is);
      };
      led = record {
        leads = subst (λ o. LeadsInOffice o n.replica.raft) (sym h.office) (ap (λ (v : NodeValue). is_leader v.role) raft_is ∙ ap (λ (s : Node). is_leader s.role) p.raft);
        serves = subst (λ o. ServesLast o n.view.serving) (sym h.office) tt;
        free = subst (λ o. IsFree o (moment_of n)) (sym h.office) (subst HasEnded (sym (ap (λ (k : Clients). k.sessions) h.clients)) ends_on_holds.started, ap proposals_in h.idle);
      };
      applied = index_n ∙ index ∙ sym commit ∙ sym commit_n;
      idle = h.idle;
      turns = ap (λ (k : Clients). k.turns) h.clients;
      heard = h.heard;
      quiet = h.quiet;
    }

pub started_begun : (opening servers : List Server) (kept : Kept) (replica : ReplicaValue) (members : Configurations) (applied : Applied) (view : View) (n : Running) → Parts opening servers kept replica members applied view → HasStarted replica members applied view n → Begun opening servers kept (seen n) applied
started_begun opening servers kept replica members applied view n p h = record {
  raft = ap (λ (r : ReplicaValue). node_of r.raft) h.replica_is ∙ p.raft;
  coherent = subst (λ (r : ReplicaValue). IsCoherent r.raft) (sym h.replica_is) p.whole.coherent;
  machine_is = ap (λ (a : Applied). a.machine) h.applied_is;
  machine = h.machine;
  serving = ap (λ (v : View). v.serving) h.view_is ∙ p.serving;
  sessions = ap (λ (k : Clients). k.sessions) h.clients;
  waiting = λ conn. ap (λ (k : Clients). waiting_on (k.streams conn)) h.clients;
  kept_is = ap kept_of h.replica_is ∙ p.keeps;
  starts = p.starts;
  applies = p.applies;
  members = λ first front len is. subst (IsOf (read_setup first) (front ++ drop (suc kept.snap.index - kept.log.first) kept.log.entries)) (sym h.members_are) (p.is first front len is);
  current = p.current ∙ ap last_servers (sym h.members_are);
}
