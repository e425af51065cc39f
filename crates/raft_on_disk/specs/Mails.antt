-- The mail of one event: of the Appends and Installs to one peer the last one is sent.
use Rattle.std.specs.Prelude.{ℕ, suc, ◌<◌, Bool, true, false, not, if◌then◌else◌, ◌==◌, nat_le, List, [], ◌∷◌, ◌++◌}
use Rattle.std.specs.List.{filter}
use Rattle.raft_messages.specs.declared.message.MessageBody.{MessageBody}
use Rattle.raft_messages.specs.declared.message.MessageBody.TheVariants as whats
use Rattle.raft_messages.specs.declared.message.RaftMessage.{RaftMessage}

-- The messages that are sent: Appends and Installs, one a peer, ascending by peer, and before them all others as they were made.
pub record MailValue : Type 0 where
  pub others : List RaftMessage
  pub logs : List RaftMessage

-- a message sends a part of the log, or the snapshot
abbrev pub sends_log : MessageBody → Bool
sends_log (whats.Append prev commit entries) = true
sends_log (whats.Install snapshot) = true
sends_log (whats.AskVote last transfer) = false
sends_log (whats.Vote granted) = false
sends_log (whats.Ack good index) = false
sends_log whats.TimeoutNow = false

-- the place of a message to a peer: before the first that is to it or to a greater one
abbrev pub place_for : ℕ → List RaftMessage → ℕ
place_for to [] = 0
place_for to (m ∷ ms) = if nat_le to m.to then 0 else suc (place_for to ms)

-- a message at its place
abbrev pub placed : RaftMessage → List RaftMessage → List RaftMessage
placed new [] = new ∷ []
placed new (m ∷ ms) = if nat_le new.to m.to then new ∷ m ∷ ms else m ∷ placed new ms

-- the messages to other peers
abbrev pub not_to : ℕ → List RaftMessage → List RaftMessage
not_to to ms = filter (λ m. not (m.to == to)) ms

-- one more message: an Append or Install takes the place of an earlier one to its peer
abbrev pub posted : MailValue → RaftMessage → MailValue
posted mail m = if sends_log m.what then record mail { logs = placed m (not_to m.to mail.logs) } else record mail { others = mail.others ++ m ∷ [] }

-- several more, in their order
abbrev pub all_posted : MailValue → List RaftMessage → MailValue
all_posted mail [] = mail
all_posted mail (m ∷ ms) = all_posted (posted mail m) ms

-- a mail without a message
abbrev pub no_mail : MailValue
no_mail = record { others = []; logs = [] }

-- what is sent, in order
abbrev pub sent : MailValue → List RaftMessage
sent mail = mail.others ++ mail.logs

-- ---- what holds of every mail

-- each of these messages goes to a peer past this one
abbrev pub AllPast : ℕ → List RaftMessage → Type 0
AllPast to [] = Unit {0}
AllPast to (m ∷ ms) = (to < m.to) × AllPast to ms

-- no two go to one peer, and they ascend by peer
abbrev pub Ascend : List RaftMessage → Type 0
Ascend [] = Unit {0}
Ascend (m ∷ ms) = AllPast m.to ms × Ascend ms

-- Appends and Installs go one to a peer, ascending, whatever was posted.
abbrev pub MailsAscend : Type 0
MailsAscend = (messages : List RaftMessage) → Ascend (all_posted no_mail messages).logs
