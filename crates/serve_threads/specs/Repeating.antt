-- What is sent to a peer again, and what is not.
use Rattle.std.specs.Prelude.{◌≤◌, ◌<◌, ◌-◌, ◌&&◌, ℕ, Bool, true, false, List, length, Option, Some, None, if◌then◌else◌, nat_le, nat_eq}
use Rattle.raft_messages.specs.declared.message.RaftMessage.{RaftMessage}
use Rattle.raft_messages.specs.declared.message.MessageBody.{MessageBody}
use Rattle.raft_messages.specs.declared.message.MessageBody.TheVariants.{AskVote, Vote, Append, Ack, Install, TimeoutNow}
use Rattle.serve_threads.specs.declared.peer_link.InstallMark.{InstallMark}

-- whether it is an Append
abbrev pub is_append : MessageBody → Bool
is_append (AskVote last transfer) = false
is_append (Vote granted) = false
is_append (Append prev commit entries) = true
is_append (Ack good index) = false
is_append (Install snapshot) = false
is_append TimeoutNow = false

-- whether it is an Append of at most 4,096 bytes
abbrev pub is_small : RaftMessage → List ℕ → Bool
is_small message bytes = is_append message.what && nat_le (length bytes) 4096

-- Which bytes may be sent again once a message was sent: its own, if it is a small Append; else those before it, if they are of its term.
abbrev pub bytes_after : Option (List ℕ) → ℕ → RaftMessage → List ℕ → Option (List ℕ)
bytes_after kept term message bytes =
    if is_small message bytes then Some bytes else (if nat_eq term message.term then kept else None)

-- the last Install on a connection after a message that is this Install, or none
abbrev pub mark_after : Option InstallMark → Option InstallMark → Option InstallMark
mark_after kept None = kept
mark_after kept (Some mark) = Some mark

-- which Install it is in this term, if it is one
abbrev pub install_in : ℕ → MessageBody → Option InstallMark
install_in term (AskVote last transfer) = None
install_in term (Vote granted) = None
install_in term (Append prev commit entries) = None
install_in term (Ack good index) = None
install_in term (Install snapshot) = Some (record { term = term; last_index = snapshot.index; last_term = snapshot.term })
install_in term TimeoutNow = None
