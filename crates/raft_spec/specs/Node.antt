-- Messages, the state of one node, and what a step takes in and gives.
use Rattle.std.specs.Prelude.{ℕ, ◌*◌, Bool, true, false, not, ◌==◌, nat_lt, List, length, map}
use Rattle.std.specs.List.{count_by, list_any, filter}
use Rattle.raft_spec.specs.Log.{Entry, LogEnd}

-- What a message says. In the thesis AskVote is RequestVote, Append is AppendEntries and Install is InstallSnapshot; Vote and Ack are their answers.
pub data What : Type 0 where
  -- a candidate asks for a vote, with the end of its log; transfer: a leader handed its leadership to it. No grant depends on that.
  AskVote : (last : LogEnd) (transfer : Bool) → What
  Vote : (granted : Bool) → What
  -- entries that follow a place of the leader's log, and the leader's commit index
  Append : (prev : LogEnd) (commit : ℕ) (entries : List Entry) → What
  -- good: the log agrees with the leader's up to the index; else: no more than up to the index
  Ack : (good : Bool) (index : ℕ) → What
  -- a snapshot; it represents the front of the log up to its end
  Install : (last : LogEnd) (front : List Entry) → What
  -- a leader hands its leadership over: the receiver is to stand for election at once
  TimeoutNow : What

-- A message, with the term that its sender had.
pub record Message : Type 0 where
  pub from : ℕ
  pub to : ℕ
  pub term : ℕ
  pub what : What

-- A node leads, stands for election, or follows.
pub data Role : Type 0 where
  Leader Candidate Follower : Role

-- A server of a configuration. Its role is 0 for a voter, 1 for a standby, 2 for a spare. Ids ascend in a configuration.
pub record Server : Type 0 where
  pub id : ℕ
  pub address : List ℕ
  pub role : ℕ

-- The state of one node. It keeps term, vote, log, snapshot and base on its disk; a crash loses the rest. As vote or leader 0 is nobody.
pub record Node : Type 0 where
  -- it runs
  pub up : Bool
  pub term : ℕ
  -- to whom it gave its vote in this term
  pub vote : ℕ
  -- the whole log that the node represents
  pub log : List Entry
  pub role : Role
  -- the leader of this term, if it is known
  pub leader : ℕ
  -- the commit index; between steps the entries up to it are applied
  pub commit : ℕ
  -- whose votes it has in this term, as a candidate
  pub grants : List ℕ
  -- the servers that it was given last
  pub servers : List Server
  -- the index of the next entry to send to a peer, and up to where that peer's log is known to agree
  pub next_of : ℕ → ℕ
  pub match_of : ℕ → ℕ
  -- the end of the kept snapshot; 0 and 0 for none
  pub snapshot : LogEnd
  -- the entries up to this index are compacted
  pub base : ℕ

-- The id is in the list.
abbrev pub among : List ℕ → ℕ → Bool
among xs x = list_any (λ y. y == x) xs

-- The ids of the servers that vote.
unfoldable pub voters : List Server → List ℕ
voters servers = map (λ s. s.id) (filter (λ s. s.role == 0) servers)

-- These ids without the own one.
unfoldable pub others : List ℕ → ℕ → List ℕ
others ids own = filter (λ v. not (v == own)) ids

-- To whom a leader sends its log: the other voters and the standbys, in the order of the configuration.
unfoldable pub peers : List Server → ℕ → List ℕ
peers servers own = others (map (λ s. s.id) (filter (λ s. nat_lt s.role 2) servers)) own

-- More than half of the voters pass the test.
unfoldable pub majority : List ℕ → (ℕ → Bool) → Bool
majority ids test = nat_lt (length ids) (2 * count_by test ids)

-- The role is that of a leader.
abbrev pub is_leader : Role → Bool
is_leader Leader = true
is_leader Candidate = false
is_leader Follower = false

-- The role is that of a candidate.
abbrev pub is_candidate : Role → Bool
is_candidate Leader = false
is_candidate Candidate = true
is_candidate Follower = false

-- To whom a leader sends its log at the end of a step.
pub data Recipients : Type 0 where
  Nobody : Recipients
  Everyone : Recipients
  Only : (peers : List ℕ) → Recipients

-- What a rule makes: the node after it, the messages said, and to whom the log is sent at the step's end.
pub record Outcome : Type 0 where
  pub node : Node
  pub out : List Message
  pub recipients : Recipients

-- What happens at a node without a message.
pub data LocalEvent : Type 0 where
  -- it heard of no leader for too long
  Timeout : LocalEvent
  -- it is time for a leader's heartbeat
  Beat : LocalEvent
  -- a leader is to give up its leadership
  Yield : LocalEvent
  -- a leader is to append these entries
  Propose : (entries : List Entry) → LocalEvent
  -- a leader is to hand its leadership over
  Transfer : (target : ℕ) → LocalEvent
  -- a snapshot was kept at the index
  Snapped : (index : ℕ) → LocalEvent
  -- these are the servers from now on
  UseServers : (servers : List Server) → LocalEvent

-- What one step takes in.
pub data Input : Type 0 where
  Local : (local : LocalEvent) → Input
  Receive : (message : Message) → Input
