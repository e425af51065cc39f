use Rattle.std.proofs.Common.{◌∙◌, ap}
use Rattle.raft_spec.specs.Compaction.{compacted}
use Rattle.raft_spec.specs.NodeValues.{node_of}
use Rattle.raft_spec.specs.Snapshots.{on_install}
use Rattle.raft_core.proofs.VoteRules.{only_says}
use Rattle.raft_core.proofs.EndRules.{ends_are, install_old}
use Rattle.raft_core.proofs.node.RaftNode.install_old.Goals as goal

pub returns-clause-outcome : goal.returns-clause-outcome
returns-clause-outcome c =
    let h = c.args.self.now in
    ends_are h c.follow.new.self (on_install h.id (node_of h) c.args.from c.args.last (compacted c.args.last c.args.last.index)) c.says.result _ (c.says.ensures ∙ ap only_says c.acked.ensures) (install_old h c.follow.new.self c.args.from c.args.last (compacted c.args.last c.args.last.index) c.requires.follows c.requires.old c.follow.ensures)
