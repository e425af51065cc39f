use Rattle.raft_spec.specs.NodeValues.{node_of}
use Rattle.raft_spec.specs.Elections.{on_ask_vote}
use Rattle.raft_core.proofs.VoteRules.{effects_are, does_answer}
use Rattle.raft_core.proofs.node.RaftNode.on_ask_vote.Goals as goal

pub returns : goal.returns
returns c =
    let h = c.args.self.now in
    effects_are h c.ask-granted.new.self (on_ask_vote h.id (node_of h) c.args.from c.args.last) c.says.result _ c.says.ensures (does_answer h c.ask-granted.new.self c.args.from c.args.last c.ask-granted.result c.ask-granted.ensures.answer c.ask-granted.ensures.node)
