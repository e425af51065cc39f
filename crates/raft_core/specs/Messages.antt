-- What a node sends, as the rules' messages. A snapshot represents a front of a log of which the end alone is known.
use Rattle.std.specs.Prelude.{ℕ, List, [], ◌∷◌, map}
use Rattle.raft_spec.specs.Node as rules
use Rattle.raft_spec.specs.Compaction.{compacted}
use Rattle.raft_spec.specs.Outcomes.{barrier}
use Rattle.raft_messages.specs.declared.message.MessageBody.{MessageBody}
use Rattle.raft_messages.specs.declared.message.MessageBody.TheVariants as whats
use Rattle.raft_messages.specs.declared.message.RaftMessage.{RaftMessage}
use Rattle.raft_messages.specs.Messages.{message_value}
use Rattle.raft_core.specs.declared.sending.Outgoing.{Outgoing}
use Rattle.raft_core.specs.declared.sending.Outgoing.TheVariants as sendings

-- the message of the node of this id
abbrev pub sending_value : ℕ → Outgoing → rules.Message
sending_value me (sendings.Message message) = message_value message
sending_value me (sendings.Install to term last) = record { from = me; to = to; term = term; what = rules.Install last (compacted last last.index) }

-- so of all that it sends
abbrev pub sendings_value : ℕ → List Outgoing → List rules.Message
sendings_value me sends = map (sending_value me) sends

-- what a message says isn't an Install
abbrev pub IsBareWhat : MessageBody → Type 0
IsBareWhat (whats.Install snapshot) = ⊥
IsBareWhat (whats.AskVote last transfer) = Unit {0}
IsBareWhat (whats.Vote granted) = Unit {0}
IsBareWhat (whats.Append prev commit entries) = Unit {0}
IsBareWhat (whats.Ack good index) = Unit {0}
IsBareWhat whats.TimeoutNow = Unit {0}

-- nothing that is sent is an Install but by the name of one: its bytes are those of the kept snapshot, which the owner fills in
abbrev pub IsBare : Outgoing → Type 0
IsBare (sendings.Message message) = IsBareWhat message.what
IsBare (sendings.Install to term last) = Unit {0}

-- ---- the same with a mark: an Install as a message represents one that no step makes

-- what a message says, where an Install is marked by a front that is longer than its end
abbrev pub sent_what : MessageBody → rules.What
sent_what (whats.Install snapshot) = rules.Install (record { index = 0; term = 0 }) (barrier 0 ∷ [])
sent_what (whats.AskVote last transfer) = rules.AskVote last transfer
sent_what (whats.Vote granted) = rules.Vote granted
sent_what (whats.Append prev commit entries) = rules.Append prev commit entries
sent_what (whats.Ack good index) = rules.Ack good index
sent_what whats.TimeoutNow = rules.TimeoutNow

abbrev pub sent_message : RaftMessage → rules.Message
sent_message m = record { from = m.from; to = m.to; term = m.term; what = sent_what m.what }

abbrev pub sent_value : ℕ → Outgoing → rules.Message
sent_value me (sendings.Message message) = sent_message message
sent_value me (sendings.Install to term last) = record { from = me; to = to; term = term; what = rules.Install last (compacted last last.index) }

abbrev pub sents_value : ℕ → List Outgoing → List rules.Message
sents_value me sends = map (sent_value me) sends
