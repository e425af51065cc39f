use Rattle.std.proofs.Common.{sym, ap, ◌∙◌}
use Rattle.raft_spec.specs.Node.{is_leader}
use Rattle.raft_spec.specs.NodeValues.{node_of}
use Rattle.raft_core.specs.Roles.{role_value}
use Rattle.node_core.proofs.RaftExactly.{ends_at, win_kept, win_not, win_so}
use Rattle.node_core.proofs.running.Running.note_win.Goals as goal

pub returns-then-is_some-clause-exact : goal.returns-then-is_some-clause-exact
returns-then-is_some-clause-exact c = win_kept c.args.self.now (sym c.is_some.ensures ∙ c.if-is_some.true)

pub returns-then-leads-clause-exact : goal.returns-then-leads-clause-exact
returns-then-leads-clause-exact c =
    win_so c.args.self.now c.won.result _ _ (sym c.is_some.ensures ∙ c.if-is_some.false)
    (ap is_leader (sym c.view-raft.ensures.role) ∙ (λ i. is_leader (role_value (sym c.raft.view_is i).role)) ∙ sym c.leads.ensures ∙ c.if-leads.true)
    ((λ i. (c.raft.view_is i).term) ∙ c.view-raft.ensures.term)
    ((λ i. (c.raft.view_is i).last.index) ∙ ends_at (node_of c.args.self.now.replica.raft).log c.view-raft.result.last c.view-raft.ensures.last) c.won.ensures.value

pub returns-else-leads-clause-exact : goal.returns-else-leads-clause-exact
returns-else-leads-clause-exact c =
    win_not c.args.self.now (sym c.is_some.ensures ∙ c.if-is_some.false)
    (ap is_leader (sym c.view-raft.ensures.role) ∙ (λ i. is_leader (role_value (sym c.raft.view_is i).role)) ∙ sym c.leads.ensures ∙ c.if-leads.false)
