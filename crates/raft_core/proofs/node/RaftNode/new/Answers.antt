use Rattle.std.proofs.Common.{◌∙◌, [], length, refl, sym, ap, subst, arith}
use Rattle.raft_spec.specs.Log.{LogEnd}
use Rattle.raft_spec.specs.Node.{others}
use Rattle.raft_spec.specs.Compaction.{CutLog}
use Rattle.raft_spec.specs.Progress.{LeaderProgress, rows_for}
use Rattle.raft_spec.specs.Votes.{Votes}
use Rattle.raft_spec.specs.NodeValues.{node_of}
use Rattle.raft_core.specs.Nodes.{IsLog, IsMembership}
use Rattle.raft_core.proofs.PeerLists.{few_peers}
use Rattle.raft_core.proofs.StartRules.{starts_log, starts_members, starts_node, started}
use Rattle.raft_core.proofs.node.RaftNode.new.Goals as goal

pub progress_of-progress-requires-clause-peers : goal.progress_of-progress-requires-clause-peers
progress_of-progress-requires-clause-peers c =
    let few = few_peers c.args.servers.now c.args.id in
    let all = c.requires.config.few in
    let same = ap length (c.as_slice-2.ensures.value ∙ c.in_ok-peers.ensures) in
    omega arith

pub invariant_of-node : goal.invariant_of-node
invariant_of-node c =
    let kept = c.args.kept in
    let end = c.end_of-snapshot.result in
    let last = ap (λ (e : LogEnd). e.index) c.end_of-snapshot.ensures in
    let low = c.requires.low in
    let within = c.requires.within in
    let log = c.in_ok-log.ensures ∙ (λ k. record { first = c.cut_before.ensures k; entries = c.into_vec.ensures k }) in
    let has_log = starts_log c.in_ok-log.log end kept.first kept.entries log c.requires.first (omega arith) (omega arith) in
    let id = ap (λ (v : Votes). v.id) c.new-votes.ensures in
    let progress = c.progress_of-progress.ensures ∙ (λ k. record { own = c.args.id; voters = c.as_slice.ensures.value k; rows = rows_for (others (c.as_slice-2.ensures.value k) c.args.id) 1 [] }) in
    let members = starts_members c.args.servers.now c.new-servers.result c.args.id c.in_ok-voters.voters.items c.in_ok-peers.peers.items c.progress_of-progress.result (c.new-servers.ensures ∙ c.in_ok-copied.ensures) c.requires.config c.in_ok-voters.ensures c.in_ok-peers.ensures progress in (
      subst (λ n. IsLog c.in_ok-log.log n end) (sym (ap (λ (e : LogEnd). e.index) c.snapshot.view_is)) has_log,
      subst (λ n. IsMembership n c.new-servers.result c.in_ok-voters.voters.items c.in_ok-peers.peers.items c.progress_of-progress.result) (sym id) members,
      λ e. absurd cc,
    )

pub returns-clause-node : goal.returns-clause-node
returns-clause-node c =
    let kept = c.args.kept in
    let sent = others c.as_slice-2.result.now c.args.id in
    let id = ap (λ (v : Votes). v.id) c.new-votes.ensures in
    let term = ap (λ (v : Votes). v.term) c.new-votes.ensures in
    let vote = ap (λ (v : Votes). v.vote) c.new-votes.ensures in
    let grants = ap (λ (v : Votes). v.grants) c.new-votes.ensures in
    let entries = ap (λ (l : CutLog). l.entries) c.in_ok-log.ensures ∙ c.into_vec.ensures in
    let base = ap (λ (l : CutLog). l.first.index) c.in_ok-log.ensures ∙ ap (λ (e : LogEnd). e.index) c.cut_before.ensures in
    let commit = ap (λ (e : LogEnd). e.index) (c.snapshot.view_is ∙ c.end_of-snapshot.ensures) in
    let servers = c.new-servers.ensures ∙ c.in_ok-copied.ensures in
    let rows = ap (λ (p : LeaderProgress). p.rows) c.progress_of-progress.ensures in
    ap node_of (λ k. record (started c.args.id c.args.servers.now kept sent) { id = id k; term = term k; vote = vote k; entries = entries k; commit = commit k; grants = grants k; servers = servers k; rows = rows k; snapshot = c.end_of-snapshot.ensures k; base = base k }) ∙ starts_node c.args.id c.args.servers.now kept sent

pub returns-clause-short : goal.returns-clause-short
returns-clause-short c = λ far. absurd (far refl)
