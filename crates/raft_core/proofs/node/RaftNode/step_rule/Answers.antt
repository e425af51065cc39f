use Rattle.std.proofs.Common.{ℕ, ◌∙◌, ap, subst}
use Rattle.raft_spec.specs.NodeValues.{NodeValue, node_of}
use Rattle.raft_core.specs.Events.{IsMeta}
use Rattle.raft_core.proofs.StepRules.{step_node, step_sends, writes, offers}
use Rattle.raft_core.proofs.node.RaftNode.step_rule.Goals as goal

pub returns-clause-id : goal.returns-clause-id
returns-clause-id c = ap (λ (n : NodeValue). n.id) c.in_ok-todo.ensures.rest ∙ c.in_ok-effects.ensures.outcome.id

pub returns-clause-node : goal.returns-clause-node
returns-clause-node c = step_node c.args.self.now c.apply.new.self c.args.event c.in_ok-effects.effects (node_of c.end_step.new.self) c.requires c.in_ok-effects.ensures.outcome c.in_ok-todo.ensures.node

pub returns-clause-meta : goal.returns-clause-meta
returns-clause-meta c = subst (λ (m : ℕ × ℕ). IsMeta m.0 m.1 c.end_step.new.self c.in_ok-todo.todo.meta) c.meta-was.ensures c.in_ok-todo.ensures.meta

pub returns-clause-log : goal.returns-clause-log
returns-clause-log c = writes c.args.event c.args.self.now c.apply.new.self c.end_step.new.self c.in_ok-effects.effects c.in_ok-came.came c.in_ok-todo.todo.install c.in_ok-todo.todo.batch c.requires c.coherent.ensures.applied c.in_ok-effects.ensures.outcome c.in_ok-effects.ensures.log c.in_ok-came.ensures c.in_ok-todo.ensures.batch c.in_ok-todo.ensures.install c.in_ok-todo.ensures.rest

pub returns-clause-install : goal.returns-clause-install
returns-clause-install c = offers c.args.event c.in_ok-effects.effects.change c.in_ok-came.came c.in_ok-todo.todo.install c.in_ok-came.ensures c.in_ok-todo.ensures.install

pub returns-clause-sends : goal.returns-clause-sends
returns-clause-sends c = step_sends c.args.self.now c.apply.new.self c.args.event c.in_ok-effects.effects c.in_ok-todo.todo.sends c.requires c.in_ok-effects.ensures.outcome c.in_ok-todo.ensures.sends
