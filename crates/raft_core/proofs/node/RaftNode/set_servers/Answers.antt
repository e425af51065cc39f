use Rattle.std.proofs.Common.{◌∙◌, List, length, sym, ap, subst, arith}
use Rattle.raft_spec.specs.Node.{Server, voters, peers}
use Rattle.raft_spec.specs.Progress.{LeaderProgress, ids_in, rows_for}
use Rattle.raft_spec.specs.NodeValues.{NodeValue}
use Rattle.raft_spec.proofs.ProgressPeers.{ids_rows_for}
use Rattle.raft_messages.specs.Grants.{AreAmong}
use Rattle.raft_core.specs.contracts.node.RaftNode.{the_view}
use Rattle.raft_core.specs.Nodes.{IsMembership}
use Rattle.raft_core.proofs.PeerLists.{few_peers}
use Rattle.raft_core.proofs.MemberRules.{told_progress}
use Rattle.raft_core.proofs.node.RaftNode.set_servers.Goals as goal

pub set_peers-requires-clause-peers : goal.set_peers-requires-clause-peers
set_peers-requires-clause-peers c =
    let few = few_peers c.args.servers.items c.args.self.now.id in
    let all = c.requires.config.few in
    let same = ap length (c.as_slice-2.ensures.value ∙ c.requires.peers) in
    omega arith

pub invariant_of-self : goal.invariant_of-self
invariant_of-self c =
    let servers = c.args.servers.items in
    let id = c.self.inside.votes.id in
    let mine = ap (λ (h : NodeValue). h.id) c.self.view_is in
    let sent = c.requires.peers ∙ ap (peers servers) (sym mine) in
    let q = told_progress c.self.inside.progress c.set_peers.new.self id c.args.next servers c.as_slice.result.now c.as_slice-2.result.now c.self.invariant.1.own (c.as_slice.ensures.value ∙ c.requires.voters) (c.as_slice-2.ensures.value ∙ sent) c.set_peers.ensures in (
      c.self.invariant.0,
      subst (λ (s : List Server). IsMembership id s c.args.voting.items c.args.sent.items c.set_peers.new.self) (sym c.new.ensures) (record {
        config = c.requires.config;
        voters = c.requires.voters;
        peers = sent;
        own = ap (λ (p : LeaderProgress). p.own) q;
        counted = ap (λ (p : LeaderProgress). p.voters) q;
        rows = ap (λ (p : LeaderProgress). ids_in p.rows) q ∙ ids_rows_for (peers servers id) c.args.next c.self.inside.progress.rows;
      }),
      λ e. subst (λ (s : List Server). AreAmong c.self.inside.votes.grants (voters s)) (sym c.new.ensures) (subst (AreAmong c.self.inside.votes.grants) (sym (c.requires.same (ap (λ (h : NodeValue). h.role) (sym c.self.view_is) ∙ e) ∙ ap (λ (h : NodeValue). voters h.servers) (sym c.self.view_is))) (c.self.invariant.2 e)),
    )

pub returns-clause-node : goal.returns-clause-node
returns-clause-node c =
    let servers = c.args.servers.items in
    let id = c.self.inside.votes.id in
    let mine = ap (λ (h : NodeValue). h.id) c.self.view_is in
    let sent = c.requires.peers ∙ ap (peers servers) (sym mine) in
    let q = told_progress c.self.inside.progress c.set_peers.new.self id c.args.next servers c.as_slice.result.now c.as_slice-2.result.now c.self.invariant.1.own (c.as_slice.ensures.value ∙ c.requires.voters) (c.as_slice-2.ensures.value ∙ sent) c.set_peers.ensures in
    let rows = ap (λ (p : LeaderProgress). p.rows) q in
    let v : NodeValue = the_view c.self.inside in
    (λ k. record v { servers = c.new.ensures k; rows = rows k }) ∙ ap (λ (h : NodeValue). record h { servers = servers; rows = rows_for (peers servers h.id) c.args.next h.rows }) c.self.view_is
