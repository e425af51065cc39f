use Rattle.std.proofs.Common.{◌∙◌, sym, ap}
use Rattle.raft_spec.specs.Node.{is_leader}
use Rattle.raft_spec.specs.NodeValues.{NodeValue}
use Rattle.raft_core.specs.Messages.{sents_value}
use Rattle.raft_core.proofs.MemberRules.{serve_node_quiet, serve_out_quiet, serve_node_leads, serve_out_leads}
use Rattle.raft_core.proofs.node.RaftNode.use_servers.Goals as goal

pub returns-then-not-leads-clause-node : goal.returns-then-not-leads-clause-node
returns-then-not-leads-clause-node c =
    let l = ap (λ (n : NodeValue). is_leader n.role) (sym c.in_ok-gained.ensures.node) ∙ sym c.leads.ensures ∙ c.if-not-leads.true in
    serve_node_quiet c.args.self.now c.tell.new.self c.args.servers.now l c.in_ok-gained.ensures.ids c.in_ok-gained.ensures.node

pub returns-then-not-leads-clause-sends : goal.returns-then-not-leads-clause-sends
returns-then-not-leads-clause-sends c =
    let l = ap (λ (n : NodeValue). is_leader n.role) (sym c.in_ok-gained.ensures.node) ∙ sym c.leads.ensures ∙ c.if-not-leads.true in
    ap (sents_value c.args.self.now.id) c.new.ensures.items ∙ sym (serve_out_quiet c.args.self.now c.args.servers.now l)

pub returns-clause-node : goal.returns-clause-node
returns-clause-node c =
    let l = ap (λ (n : NodeValue). is_leader n.role) (sym c.in_ok-gained.ensures.node) ∙ sym c.leads.ensures ∙ c.if-not-leads.false in
    serve_node_leads c.args.self.now c.tell.new.self c.args.servers.now l c.in_ok-gained.ensures.ids c.in_ok-gained.ensures.node

pub returns-clause-sends : goal.returns-clause-sends
returns-clause-sends c =
    let l = ap (λ (n : NodeValue). is_leader n.role) (sym c.in_ok-gained.ensures.node) ∙ sym c.leads.ensures ∙ c.if-not-leads.false in
    serve_out_leads c.args.self.now c.tell.new.self c.args.servers.now c.new-out.result.items c.send.new.out.items c.as_slice.result.now l c.in_ok-gained.ensures.ids c.in_ok-gained.ensures.node c.new-out.ensures.items (c.as_slice.ensures.value ∙ c.in_ok-gained.ensures.gained) c.in_ok-send.ensures
