use Rattle.std.proofs.Common.{◌∙◌, List, sym, ap}
use Rattle.raft_spec.specs.Membership.{on_servers}
use Rattle.raft_spec.specs.Node.{Server, Outcome}
use Rattle.raft_spec.specs.NodeValues.{node_of}
use Rattle.raft_spec.specs.Steps.{serve}
use Rattle.raft_core.specs.Messages.{sents_value}
use Rattle.raft_core.specs.Steps.{compact_outcome}
use Rattle.raft_core.proofs.StepRules.{servers_step_is}
use Rattle.raft_core.proofs.node.RaftNode.step_servers.Goals as goal

pub returns-clause-node : goal.returns-clause-node
returns-clause-node c =
    let h = c.args.self.now in
    c.in_ok-sends.ensures.node ∙ ap (λ (s : List Server). (compact_outcome (serve h.id (on_servers h.id (node_of h) s))).node) c.as_slice.ensures ∙ ap (λ (d : Outcome). d.node) (sym (servers_step_is h c.args.servers.now))

pub returns-clause-sends : goal.returns-clause-sends
returns-clause-sends c =
    let h = c.args.self.now in
    ap (sents_value h.id) c.new.ensures ∙ c.in_ok-sends.ensures.sends ∙ ap (λ (s : List Server). (compact_outcome (serve h.id (on_servers h.id (node_of h) s))).out) c.as_slice.ensures ∙ ap (λ (d : Outcome). d.out) (sym (servers_step_is h c.args.servers.now))
