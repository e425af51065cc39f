-- A node that starts.
use Rattle.std.proofs.Common.{◌≡◌, ℕ, suc, ◌+◌, ◌-◌, ◌<◌, ◌≤◌, List, [], length, refl, sym, ap, subst, ◌∙◌, arith}
use Rattle.std.specs.Prelude.{Bool, true, false, cond}
use Rattle.raft_spec.specs.Log.{Entry, LogEnd}
use Rattle.raft_spec.specs.Node.{Server, Follower, among, others, voters, peers}
use Rattle.raft_spec.specs.Account.{loaded}
use Rattle.raft_spec.specs.Compaction.{CutLog}
use Rattle.raft_spec.specs.Progress.{LeaderProgress, next_in, match_in, ids_in, rows_for}
use Rattle.raft_spec.specs.NodeValues.{NodeValue, node_of}
use Rattle.raft_spec.proofs.ProgressPeers.{ids_rows_for, next_rows_for, match_rows_for}
use Rattle.raft_log.proofs.PeerTables.{rows_none}
use Rattle.raft_messages.specs.Servers.{IsConfiguration}
use Rattle.raft_core.specs.declared.event.StoredRaft.{StoredRaft}
use Rattle.raft_core.specs.Nodes.{IsLog, IsMembership}
use Rattle.raft_core.specs.Starting.{snapshot_in, stored_in}
use Rattle.raft_core.proofs.PeerLists.{peers_again}

pub first_progress : (p q : LeaderProgress) (own : ℕ) (voting sent : List ℕ) → p ≡ record { own = own; voters = []; rows = rows_for (others [] own) 1 [] } → q ≡ record p { voters = voting; rows = rows_for (others sent p.own) 1 p.rows } → q ≡ record { own = own; voters = voting; rows = rows_for (others sent own) 1 [] }
first_progress p q own voting sent is made =
    made ∙ ap (λ (p : LeaderProgress). record { own = p.own; voters = voting; rows = rows_for (others sent p.own) 1 p.rows }) is
    ∙ (λ k. record { own = own; voters = voting; rows = rows_for (others sent own) 1 ((rows_none own 1 []) k) })

-- what holds of its log
pub starts_log : (l : CutLog) (snapshot : LogEnd) (first : ℕ) (entries : List Entry) → l ≡ record { first = record { index = first - 1; term = snapshot.term }; entries = entries } → 0 < first → first ≤ suc snapshot.index → snapshot.index < first + length entries → IsLog l snapshot.index snapshot
starts_log l snapshot first entries is pos low within =
    let at = ap (λ (l : CutLog). l.first.index) is in
    let size = ap (λ (l : CutLog). length l.entries) is in
    record { low = omega arith; applied = omega arith; within = omega arith; cut = λ e. ap (λ (l : CutLog). l.first.term) is }

-- and of its servers
pub starts_members : (servers copies : List Server) (id : ℕ) (voting sent : List ℕ) (p : LeaderProgress) → copies ≡ servers → IsConfiguration servers → voting ≡ voters servers → sent ≡ peers servers id → p ≡ record { own = id; voters = voting; rows = rows_for (others sent id) 1 [] } → IsMembership id copies voting sent p
starts_members servers copies id voting sent p same config v s is =
    subst (λ (x : List Server). IsMembership id x voting sent p) (sym same) (record {
      config = config;
      voters = v;
      peers = s;
      own = ap (λ (p : LeaderProgress). p.own) is;
      counted = ap (λ (p : LeaderProgress). p.voters) is ∙ v;
      rows = ap (λ (p : LeaderProgress). ids_in p.rows) is ∙ ids_rows_for (others sent id) 1 [] ∙ ap (λ l. others l id) s ∙ peers_again servers id;
    })

-- its value
abbrev pub started : ℕ → List Server → StoredRaft → List ℕ → NodeValue
started id servers kept sent = record {
  id = id;
  term = kept.term;
  vote = kept.vote;
  entries = kept.entries;
  role = Follower;
  leader = 0;
  commit = (snapshot_in kept.snapshot).index;
  grants = [];
  servers = servers;
  rows = rows_for sent 1 [];
  snapshot = snapshot_in kept.snapshot;
  base = kept.first - 1;
}

-- is that of the rules' node that has loaded as much
pub starts_node : (id : ℕ) (servers : List Server) (kept : StoredRaft) (sent : List ℕ) → node_of (started id servers kept sent) ≡ loaded true servers (stored_in kept)
starts_node id servers kept sent = λ k. record (loaded true servers (stored_in kept)) { next_of = λ p. next_is p k; match_of = λ p. match_is p k }
  where
    same : (b : Bool) (z : ℕ) → cond b z z ≡ z
    same true z = refl
    same false z = refl

    next_is : (p : ℕ) → next_in (rows_for sent 1 []) p ≡ 1
    next_is p = next_rows_for sent 1 [] p ∙ same (among sent p) 1

    match_is : (p : ℕ) → match_in (rows_for sent 1 []) p ≡ 0
    match_is p = match_rows_for sent 1 [] p ∙ same (among sent p) 0
