-- What the rules of logs and of the commit index mean.
use Rattle.std.specs.Prelude.{◌≡◌, ◌≢◌, ◌⊎◌, ℕ, suc, ◌+◌, ◌<◌, ◌≤◌, true, false, List, length, take}
use Rattle.raft_spec.specs.Log.{Entry, LogEnd, nth_term, term_at, accept}
use Rattle.raft_spec.specs.Node.{Follower, What, AskVote, Vote, Append, Ack, Install, TimeoutNow, Node, Input, Local, Receive, Timeout, Beat, Yield, Propose, Transfer, Snapped, UseServers}
use Rattle.raft_spec.specs.Commitment.{is_stored_by_majority, commit_up_to}
use Rattle.raft_spec.specs.Steps.{raft_step}
use Rattle.raft_spec.specs.Compaction.{compacted_step}

-- The entry that came as the k-th, and what the log has at its index, have the same term.
abbrev pub SameTerm : List Entry → ℕ → List Entry → ℕ → Type 0
SameTerm log prev entries k = term_at log (suc (prev + k)) ≡ nth_term entries k

-- What a log is after it has taken an Append's entries.
pub record Taken (log : List Entry) (prev : ℕ) (entries : List Entry) (new : List Entry) : Type 0 where
  -- up to the previous index it is as it was
  pub front : take prev new ≡ take prev log
  -- each entry that came is in it, by index and term
  pub stand : (k : ℕ) → k < length entries → SameTerm new prev entries k
  -- if no entry conflicts, all old ones stay, whatever follows
  pub stays : ((k : ℕ) → k < length entries → prev + k < length log → SameTerm log prev entries k) → take (length log) new ≡ log
  -- if one conflicts, nothing follows those that came
  pub ends : (k : ℕ) → k < length entries → prev + k < length log → term_at log (suc (prev + k)) ≢ nth_term entries k → length new ≡ prev + length entries

-- This holds for each log and all entries, from a place within the log on.
abbrev pub AcceptTakes : Type 0
AcceptTakes = (log entries : List Entry) (prev : ℕ) → prev ≤ length log → Taken log prev entries (accept log prev entries)

-- The commit index is exactly the greatest index, not past the last argument, that a majority has with an entry of the term; it stays where none is greater.
pub record IsGreatest (log : List Entry) (term : ℕ) (ids : List ℕ) (has : ℕ → ℕ) (commit last new : ℕ) : Type 0 where
  pub is : (new ≡ commit) ⊎ ((commit < new) × (new ≤ last) × (is_stored_by_majority log term ids has new ≡ true))
  pub greatest : (k : ℕ) → new < k → commit < k → k ≤ last → is_stored_by_majority log term ids has k ≡ false

-- This holds for each log, all voters and whatever they have.
abbrev pub CommitIsGreatest : Type 0
CommitIsGreatest = (log : List Entry) (term : ℕ) (ids : List ℕ) (has : ℕ → ℕ) (commit last : ℕ) → IsGreatest log term ids has commit last (commit_up_to log term ids has commit last)

-- Who leads or stands for election has a term of at most 4,294,967,295.
abbrev pub HasShortTerm : Node → Type 0
HasShortTerm s = s.role ≢ Follower → s.term ≤ 4294967295

-- Each step keeps that, whatever gives the voters: to lead or to stand comes by an own election alone, which raises a term below the last.
abbrev pub TermsStayShort : Type 0
TermsStayShort = (voters_of : List Entry → List ℕ) (me : ℕ) (s : Node) (i : Input) → HasShortTerm s → HasShortTerm (raft_step voters_of me s i).node

-- So does each step of a node that has compacted its log.
abbrev pub CutTermsStayShort : Type 0
CutTermsStayShort = (me : ℕ) (s : Node) (i : Input) → HasShortTerm s → HasShortTerm (compacted_step me s i).node

-- The message brings a snapshot that ends there.
abbrev pub BringsSnapshot : What → LogEnd → Type 0
BringsSnapshot (Install end front) last = last ≡ end
BringsSnapshot (AskVote end transfer) last = ⊥
BringsSnapshot (Vote granted) last = ⊥
BringsSnapshot (Append prev commit entries) last = ⊥
BringsSnapshot (Ack good index) last = ⊥
BringsSnapshot TimeoutNow last = ⊥

-- The end of the snapshot that an input brings or reports, if it does: that of an Install, and that of an own snapshot.
abbrev pub TellsSnapshot : Input → LogEnd → Type 0
TellsSnapshot (Receive m) last = BringsSnapshot m.what last
TellsSnapshot (Local (Snapped i)) last = last.index ≡ i
TellsSnapshot (Local Timeout) last = ⊥
TellsSnapshot (Local Beat) last = ⊥
TellsSnapshot (Local Yield) last = ⊥
TellsSnapshot (Local (Propose es)) last = ⊥
TellsSnapshot (Local (Transfer to)) last = ⊥
TellsSnapshot (Local (UseServers servers)) last = ⊥

-- Each step keeps the snapshot, or has one of which its input tells.
abbrev pub SnapshotsCome : Type 0
SnapshotsCome = (voters_of : List Entry → List ℕ) (me : ℕ) (s : Node) (i : Input) → ((raft_step voters_of me s i).node.snapshot ≡ s.snapshot) ⊎ TellsSnapshot i (raft_step voters_of me s i).node.snapshot
