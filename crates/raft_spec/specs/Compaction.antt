-- Logs that are compacted at the front, as the code holds them, and the step of a node that holds one.
use Rattle.std.specs.Prelude.{◌≡◌, ◌≢◌, ◌⊎◌, ℕ, suc, ◌+◌, ◌-◌, ◌<◌, ◌≤◌, Bool, true, false, ◌&&◌, nat_le, Option, Some, None, List, [], ◌++◌, length, take, drop, map, replicate}
use Rattle.raft_spec.specs.Log.{Entry, Barrier, LogEnd, term_at, matches, accept}
use Rattle.raft_spec.specs.Node.{What, AskVote, Vote, Append, Ack, Install, TimeoutNow, Message, Node, voters, Input, Outcome}
use Rattle.raft_spec.specs.Steps.{raft_step}

-- Entries of which only their number is known, and the term of the last one.
abbrev pub compacted : LogEnd → ℕ → List Entry
compacted last n = replicate n (record { term = last.term; kind = Barrier; bytes = [] })

-- A log that is compacted after `first`: of the entries up to there it knows the place and the term, of the later ones all.
pub record CutLog : Type 0 where
  pub first : LogEnd
  pub entries : List Entry

-- A whole log that it represents.
abbrev pub whole_log : CutLog → List Entry
whole_log l = compacted l.first l.first.index ++ l.entries

-- The place is not before the cut, and the log has it.
abbrev pub meets : CutLog → LogEnd → Bool
meets l prev = nat_le l.first.index prev.index && matches (whole_log l) prev

-- Where the new log begins to be another than the old one: the first index that is replaced or added; None where it is the same.
abbrev pub StartsAt : List Entry → List Entry → Option ℕ → Type 0
StartsAt old new None = new ≡ old
StartsAt old new (Some k) = (0 < k) × (k ≤ length new) × (take (k - 1) new ≡ take (k - 1) old) × ((k ≡ suc (length old)) ⊎ (term_at old k ≢ term_at new k))

-- An Append is refused: the log doesn't have the place, tells its last index, and stays.
abbrev pub Differs : CutLog → CutLog → LogEnd → ℕ → Type 0
Differs old new prev last = (meets old prev ≡ false) × (last ≡ length (whole_log old)) × (new ≡ old)

-- An Append is taken: the last index that agrees, the first one that is replaced or added, and the log that the rule gives.
abbrev pub Matches : CutLog → CutLog → LogEnd → List Entry → ℕ → Option ℕ → Type 0
Matches old new prev entries index from =
    (meets old prev ≡ true) × (index ≡ prev.index + length entries) × (whole_log new ≡ accept (whole_log old) prev.index entries) × StartsAt (whole_log old) (whole_log new) from

-- The node with this log in place of its own.
abbrev pub with_whole_log : Node → List Entry → Node
with_whole_log s log = record s { log = log }

-- The node without what it has compacted.
abbrev pub compact : Node → Node
compact s = with_whole_log s (compacted s.snapshot s.base ++ drop s.base s.log)

-- What a message says, where a snapshot says only its end.
abbrev pub compact_what : What → What
compact_what (Install last front) = Install last (compacted last last.index)
compact_what (AskVote last transfer) = AskVote last transfer
compact_what (Vote granted) = Vote granted
compact_what (Append prev commit es) = Append prev commit es
compact_what (Ack good index) = Ack good index
compact_what TimeoutNow = TimeoutNow

-- A message whose snapshot says only its end.
abbrev pub compact_message : Message → Message
compact_message m = record { from = m.from; to = m.to; term = m.term; what = compact_what m.what }

-- The step of the code's node: it uses the voters that it was given, holds no entry that is compacted, and sends no front of a log.
unfoldable pub compacted_step : ℕ → Node → Input → Outcome
compacted_step me v i = record {
  node = compact (raft_step (λ log. voters v.servers) me v i).node;
  out = map compact_message (raft_step (λ log. voters v.servers) me v i).out;
  recipients = (raft_step (λ log. voters v.servers) me v i).recipients;
}
