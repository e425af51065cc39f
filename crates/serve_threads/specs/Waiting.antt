-- Messages that wait for a peer.
use Rattle.std.specs.Prelude.{◌⊎◌, ◌++◌, ◌≡◌, Bool, true, false, List, [], ◌∷◌, Option, Some, None}
use Rattle.raft_messages.specs.declared.message.RaftMessage.{RaftMessage}
use Rattle.raft_messages.specs.declared.message.MessageBody.{MessageBody}
use Rattle.raft_messages.specs.declared.message.MessageBody.TheVariants.{AskVote, Vote, Append, Ack, Install, TimeoutNow}

-- whether it is an Append or an Install
abbrev pub is_bulk : MessageBody → Bool
is_bulk (AskVote last transfer) = false
is_bulk (Vote granted) = false
is_bulk (Append prev commit entries) = true
is_bulk (Ack good index) = false
is_bulk (Install snapshot) = true
is_bulk TimeoutNow = false

-- it waits after the others, or is lost
abbrev pub MayJoin : List RaftMessage → RaftMessage → List RaftMessage → Type 0
MayJoin others message after = (after ≡ others ++ message ∷ []) ⊎ (after ≡ others)

-- The first of the others is sent next, and without one the Append or Install; the rest waits on.
abbrev pub SentNext : Option RaftMessage → List RaftMessage → Option RaftMessage → List RaftMessage → Option RaftMessage → Type 0
SentNext bulk [] bulk_after others_after next = (next ≡ bulk) × (bulk_after ≡ None) × (others_after ≡ [])
SentNext bulk (first ∷ rest) bulk_after others_after next = (next ≡ Some first) × (bulk_after ≡ bulk) × (others_after ≡ rest)
