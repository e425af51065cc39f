-- Connections, peer messages and the journal as the code has them.
use Rattle.std.specs.Prelude.{◌≡◌, ℕ, true, List, [], ◌∷◌, length, map, take, nat_lt, Option, Some, None, Ok, Err, if◌then◌else◌}
use Rattle.std.specs.List.{AllByRecursion}
use Rattle.raft_messages.specs.declared.fault.PeerFault.{PeerFault}
use Rattle.raft_messages.specs.declared.message.RaftMessage.{RaftMessage}
use Rattle.raft_messages.specs.Reading.{peer_message_of}
use Rattle.engine_recording.specs.declared.recorded_item.RecordedItem.{RecordedItem}
use Rattle.engine_recording.specs.Noting.{answer_of}
use Rattle.session_spec.specs.Engines.{Answer}
use Rattle.script_cluster.specs.declared.connections.Endpoint.{Endpoint}
use Rattle.script_cluster.specs.declared.journal.JournalItem.{JournalItem}
use Rattle.script_cluster.specs.declared.journal.JournalItem.TheVariants as items
use Rattle.script_cluster.specs.declared.mail.Letter.{Letter as CodeLetter}
use Rattle.script_cluster.specs.Outcomes.{Item, Answered, Met, Loaded}
use Rattle.store_laws.specs.Store.{Kept}
use Rattle.script_cluster.specs.World.{Link, Letter, first_waiting, wire_message}

abbrev pub link_of : ℕ × Endpoint → Link
link_of entry = record { conn = entry.0; node = entry.1.node; open_now = entry.1.is_open }

-- the node to which an open connection leads
abbrev pub open_node : Endpoint → Option ℕ
open_node link = if link.is_open then Some link.node else None

abbrev pub letter_seen : CodeLetter → Letter
letter_seen letter = record { to = letter.to; bytes = letter.bytes; arrived = letter.has_arrived }

abbrev pub HaveArrived : List Letter → Type 0
HaveArrived mail = AllByRecursion (λ (letter : Letter). letter.arrived ≡ true) mail

-- of the peer messages from a place on, this is the first that has never arrived; without one, it is the number of all peer messages
abbrev pub IsFirstWaiting : List Letter → ℕ → ℕ → Type 0
IsFirstWaiting mail from place = HaveArrived (take from mail) → first_waiting mail ≡ (if nat_lt place (length mail) then Some place else None)

-- by these bytes this message arrives at a node; or none does, as they can't be read
abbrev pub Arrives : ℕ → List ℕ → Option RaftMessage → Type 0
Arrives to bytes (Some message) = peer_message_of to (wire_message bytes) ≡ Ok message
Arrives to bytes None = (fault : PeerFault) × (peer_message_of to (wire_message bytes) ≡ Err fault)

-- the answers that a journal of an engine keeps
abbrev pub answers_in : List RecordedItem → List Answer
answers_in journal = map answer_of journal

abbrev pub items_of : JournalItem → List Item
items_of (items.Answers journal) = map Answered (answers_in journal)
items_of (items.Met met) = Met met ∷ []
items_of (items.Loaded kept) = Loaded kept ∷ []

-- what is noted of what a start has told that it loaded
abbrev pub loaded_in : Option Kept → List Item
loaded_in None = []
loaded_in (Some kept) = Loaded kept ∷ []
