use Rattle.std.proofs.Common.{◌∙◌, ap}
use Rattle.raft_spec.specs.Compaction.{compacted}
use Rattle.raft_spec.specs.NodeValues.{node_of}
use Rattle.raft_spec.specs.Snapshots.{on_install}
use Rattle.raft_core.proofs.EndRules.{says_installed, ends_are, install_replaces}
use Rattle.raft_core.proofs.node.RaftNode.install_whole.Goals as goal

pub returns-clause-outcome : goal.returns-clause-outcome
returns-clause-outcome c =
    let h = c.args.self.now in
    ends_are h c.replace_log.new.self (on_install h.id (node_of h) c.args.from c.args.last (compacted c.args.last c.args.last.index)) c.installs.result _ (c.installs.ensures ∙ ap (λ s. says_installed s c.args.last) c.acked.ensures) (install_replaces h c.follow.new.self c.replace_log.new.self c.args.from c.args.last c.requires.follows c.requires.newer c.requires.differs c.follow.ensures c.replace_log.ensures)
