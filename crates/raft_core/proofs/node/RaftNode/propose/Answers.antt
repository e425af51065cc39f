use Rattle.std.proofs.Common.{◌∙◌, sym}
use Rattle.raft_spec.specs.NodeValues.{node_of}
use Rattle.raft_spec.specs.Replication.{on_propose}
use Rattle.raft_core.proofs.VoteRules.{effects_are}
use Rattle.raft_core.proofs.LeaderRules.{propose_ignored, propose_none, propose_some, empty_of, some_of}
use Rattle.raft_core.proofs.node.RaftNode.propose.Goals as goal

pub returns-then-not-leads : goal.returns-then-not-leads
returns-then-not-leads c =
    let h = c.args.self.now in
    effects_are h h (on_propose (node_of h) c.args.entries) c.says.result _ c.says.ensures (propose_ignored h c.args.entries (sym c.leads.ensures ∙ c.if-not-leads.true))

pub returns-then-is_empty : goal.returns-then-is_empty
returns-then-is_empty c =
    let h = c.args.self.now in
    effects_are h h (on_propose (node_of h) c.args.entries) c.sends.result _ c.sends.ensures (propose_none h c.args.entries (sym c.leads.ensures ∙ c.if-not-leads.false) (empty_of c.args.entries (sym c.is_empty.ensures ∙ c.if-is_empty.true)))

pub returns : goal.returns
returns c =
    let h = c.args.self.now in
    propose_some h c.append.new.self c.args.entries c.in_ok-first.first (sym c.leads.ensures ∙ c.if-not-leads.false) (some_of c.args.entries (sym c.is_empty.ensures ∙ c.if-is_empty.false)) c.in_ok-first.ensures.next c.in_ok-first.ensures.past c.in_ok-append.ensures
