-- Messages by which a node shows that it heard of another one.
use Rattle.std.specs.Prelude.{Bool, true, false}
use Rattle.raft_messages.specs.declared.message.MessageBody.{MessageBody}
use Rattle.raft_messages.specs.declared.message.MessageBody.TheVariants.{AskVote, Vote, Append, Ack, Install, TimeoutNow}

-- whether it answers a leader, or gives a vote
abbrev pub is_heard : MessageBody → Bool
is_heard (AskVote last transfer) = false
is_heard (Vote granted) = granted
is_heard (Append prev commit entries) = false
is_heard (Ack good index) = true
is_heard (Install snapshot) = false
is_heard TimeoutNow = false

-- whether it answers a leader
abbrev pub answers_leader : MessageBody → Bool
answers_leader (AskVote last transfer) = false
answers_leader (Vote granted) = false
answers_leader (Append prev commit entries) = false
answers_leader (Ack good index) = true
answers_leader (Install snapshot) = false
answers_leader TimeoutNow = false
