use Rattle.raft_spec.specs.Node.{AskVote}
use Rattle.raft_core.specs.Effects.{message_in}
use Rattle.raft_core.specs.Messages.{sents_value}
use Rattle.raft_core.proofs.FinishRules.{asks_none, asks_more}
use Rattle.raft_core.proofs.node.RaftNode.ask_voters.Goals as goal

pub loop-voter-init : goal.loop-voter-init
loop-voter-init c =
    let h = c.args.self.now in
    asks_none (λ to. message_in h.id h.term to (AskVote c.args.last c.args.transfer)) (sents_value h.id c.args.out.now.items) h.id

pub loop-voter-preserved : goal.loop-voter-preserved
loop-voter-preserved c =
    let h = c.args.self.now in
    asks_more (λ to. message_in h.id h.term to (AskVote c.args.last c.args.transfer)) (sents_value h.id c.args.out.now.items) (sents_value h.id c.loop-voter.out.items) (sents_value h.id c.ask_voter.new.out.items) c.voters-voters.result.now c.loop-voter.voter-index h.id c.loop-voter-test.true c.loop-voter.invariant c.in_ok-ask_voter.ensures
