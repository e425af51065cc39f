use Rattle.std.proofs.Common.{◌∙◌, [], length, ap, arith}
use Rattle.raft_spec.specs.Node.{Leader, peers}
use Rattle.raft_spec.specs.Progress.{LeaderProgress, ids_in, rows_for}
use Rattle.raft_spec.specs.NodeValues.{NodeValue}
use Rattle.raft_spec.proofs.ProgressPeers.{ids_rows_for}
use Rattle.raft_core.specs.contracts.node.RaftNode.{the_view}
use Rattle.raft_core.proofs.PeerLists.{few_peers, new_progress}
use Rattle.raft_core.proofs.node.RaftNode.lead.Goals as goal

pub set_peers-requires-clause-peers : goal.set_peers-requires-clause-peers
set_peers-requires-clause-peers c =
    let few = few_peers c.self.inside.servers c.self.inside.votes.id in
    let all = c.self.invariant.1.config.few in
    let same = ap length (c.as_slice-2.ensures.value ∙ c.self.invariant.1.peers) in
    omega arith

pub invariant_of-self : goal.invariant_of-self
invariant_of-self c =
    let id = c.self.inside.votes.id in
    let servers = c.self.inside.servers in
    let q = new_progress c.new-progress.result c.set_peers.new.self id c.id-self-inside.result c.args.next servers c.as_slice.result.now c.as_slice-2.result.now c.new-progress.ensures c.id-self-inside.ensures (c.as_slice.ensures.value ∙ c.self.invariant.1.voters) (c.as_slice-2.ensures.value ∙ c.self.invariant.1.peers) c.set_peers.ensures in (
      c.self.invariant.0,
      record {
        config = c.self.invariant.1.config;
        voters = c.self.invariant.1.voters;
        peers = c.self.invariant.1.peers;
        own = ap (λ (p : LeaderProgress). p.own) q;
        counted = ap (λ (p : LeaderProgress). p.voters) q;
        rows = ap (λ (p : LeaderProgress). ids_in p.rows) q ∙ ids_rows_for (peers servers id) c.args.next [];
      },
      λ e. absurd cc,
    )

pub returns : goal.returns
returns c =
    let id = c.self.inside.votes.id in
    let servers = c.self.inside.servers in
    let q = new_progress c.new-progress.result c.set_peers.new.self id c.id-self-inside.result c.args.next servers c.as_slice.result.now c.as_slice-2.result.now c.new-progress.ensures c.id-self-inside.ensures (c.as_slice.ensures.value ∙ c.self.invariant.1.voters) (c.as_slice-2.ensures.value ∙ c.self.invariant.1.peers) c.set_peers.ensures in
    let rows = ap (λ (p : LeaderProgress). p.rows) q in
    let v : NodeValue = the_view c.self.inside in
    (λ k. record v { role = Leader; leader = c.id-self-inside.ensures k; rows = rows k })
    ∙ ap (λ (h : NodeValue). record h { role = Leader; leader = h.id; rows = rows_for (peers h.servers h.id) c.args.next [] }) c.self.view_is
