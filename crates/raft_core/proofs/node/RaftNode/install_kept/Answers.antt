use Rattle.std.proofs.Common.{◌∙◌, ◌<◌, ap, arith}
use Rattle.std.proofs.lemmas.Bool.{leb-false}
use Rattle.raft_spec.specs.Compaction.{compacted}
use Rattle.raft_spec.specs.NodeValues.{node_of}
use Rattle.raft_spec.specs.Snapshots.{on_install}
use Rattle.raft_core.proofs.EndRules.{says_installed, ends_are, install_keeps}
use Rattle.raft_core.proofs.node.RaftNode.install_kept.Goals as goal

pub returns-clause-outcome : goal.returns-clause-outcome
returns-clause-outcome c =
    let h = c.args.self.now in
    let newer : h.commit < c.args.last.index = leb-false _ _ c.requires.newer in
    let cut = c.requires.cut in
    ends_are h c.keep_rest.new.self (on_install h.id (node_of h) c.args.from c.args.last (compacted c.args.last c.args.last.index)) c.installs.result _ (c.installs.ensures ∙ ap (λ s. says_installed s c.args.last) c.acked.ensures) (install_keeps h c.follow.new.self c.keep_rest.new.self c.args.from c.args.last (compacted c.args.last c.args.last.index) (omega arith) c.requires.follows c.requires.newer c.requires.has c.follow.ensures c.keep_rest.ensures)
