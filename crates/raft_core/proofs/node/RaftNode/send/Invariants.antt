use Rattle.std.proofs.Common.{◌≡◌, ◌++◌, take}
use Rattle.std.specs.Prelude.{map}
use Rattle.raft_spec.specs.Compaction.{compact_message}
use Rattle.raft_spec.specs.NodeValues.{node_of}
use Rattle.raft_spec.specs.Steps.{message_to}
use Rattle.raft_core.specs.Messages.{sents_value}
use Rattle.raft_core.proofs.node.RaftNode.send.Given as goal

abbrev pub invariant-loop-peer : goal.invariant-loop-peer
invariant-loop-peer l = sents_value l.self.id l.out.items ≡ sents_value l.self.id l.initial.out.items ++ map (λ peer. compact_message (message_to l.self.id (node_of l.self) peer)) (take l.peer-index l.peers)
