-- The messages of a step: what Raft's step says, an Install with the bytes of the kept snapshot.
use Rattle.std.specs.Prelude.{◌≡◌, ℕ, List, map}
use Rattle.std.specs.List.{AllByRecursion}
use Rattle.raft_spec.specs.Node as rules
use Rattle.raft_messages.specs.declared.message.Snapshot.{Snapshot}
use Rattle.raft_messages.specs.declared.message.MessageBody.{MessageBody}
use Rattle.raft_messages.specs.declared.message.MessageBody.TheVariants as whats
use Rattle.raft_messages.specs.declared.message.RaftMessage.{RaftMessage}
use Rattle.raft_messages.specs.Messages.{message_value}
use Rattle.raft_core.specs.declared.sending.Outgoing.{Outgoing}
use Rattle.raft_core.specs.declared.sending.Outgoing.TheVariants as sendings
use Rattle.store_laws.specs.Store.{Snap}
use Rattle.segment_store.specs.Keeping.{snap_value}

-- the message of what the node of this id sends, with its kept snapshot
abbrev pub letter : ℕ → Snapshot → Outgoing → RaftMessage
letter me kept (sendings.Message message) = message
letter me kept (sendings.Install to term last) = record { from = me; to = to; term = term; what = whats.Install kept }

-- an Install has this snapshot
abbrev pub Carries : Snap → MessageBody → Type 0
Carries kept (whats.Install snapshot) = snap_value snapshot ≡ kept
Carries kept (whats.AskVote last transfer) = Unit {0}
Carries kept (whats.Vote granted) = Unit {0}
Carries kept (whats.Append prev commit entries) = Unit {0}
Carries kept (whats.Ack good index) = Unit {0}
Carries kept whats.TimeoutNow = Unit {0}

abbrev pub CarriesIn : Snap → RaftMessage → Type 0
CarriesIn kept m = Carries kept m.what

-- They are the rules' messages, and each Install has the kept snapshot.
pub record Tells (out : List rules.Message) (kept : Snap) (messages : List RaftMessage) : Type 0 where
  pub says : map message_value messages ≡ out
  pub carries : AllByRecursion (CarriesIn kept) messages
