use Rattle.std.proofs.Common.{◌≡◌, ◌++◌, take}
use Rattle.std.specs.Prelude.{map}
use Rattle.raft_spec.specs.Node.{AskVote, others}
use Rattle.raft_core.specs.Effects.{message_in}
use Rattle.raft_core.specs.Messages.{sents_value}
use Rattle.raft_core.proofs.node.RaftNode.ask_voters.Given as goal

abbrev pub invariant-loop-voter : goal.invariant-loop-voter
invariant-loop-voter l =
    sents_value l.self.id l.out.items ≡ sents_value l.self.id l.initial.out.items ++ map
    (λ to. message_in l.self.id l.self.term to (AskVote l.last l.transfer)) (others (take l.voter-index l.voters) l.self.id)
