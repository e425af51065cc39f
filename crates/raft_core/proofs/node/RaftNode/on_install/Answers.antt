use Rattle.std.proofs.Common.{◌∙◌, sym}
use Rattle.raft_spec.specs.Compaction.{compacted}
use Rattle.raft_spec.specs.NodeValues.{node_of}
use Rattle.raft_spec.specs.Snapshots.{on_install}
use Rattle.raft_core.proofs.EndRules.{ends_are, install_leads}
use Rattle.raft_core.proofs.node.RaftNode.on_install.Goals as goal

pub returns-then-leads-clause-outcome : goal.returns-then-leads-clause-outcome
returns-then-leads-clause-outcome c =
    let h = c.args.self.now in
    ends_are h h (on_install h.id (node_of h) c.args.from c.args.last (compacted c.args.last c.args.last.index)) c.says.result _ c.says.ensures (install_leads h c.args.from c.args.last (compacted c.args.last c.args.last.index) (sym c.leads.ensures ∙ c.if-leads.true))
