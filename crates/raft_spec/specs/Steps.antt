-- One step of a node: a rule, and then what a leader does at the end of each step.
use Rattle.std.specs.Prelude.{ℕ, ◌-◌, false, cond, nat_lt, List, [], ◌++◌, take, drop, map}
use Rattle.raft_spec.specs.Log.{Entry, term_at}
use Rattle.raft_spec.specs.Node.{Append, Install, Message, Node, peers, is_leader, Recipients, Nobody, Everyone, Only, Outcome, LocalEvent, Timeout, Beat, Yield, Propose, Transfer, Snapped, UseServers, Input, Local, Receive}
use Rattle.raft_spec.specs.Outcomes.{with_log}
use Rattle.raft_spec.specs.Elections.{start_election, on_yield}
use Rattle.raft_spec.specs.Replication.{on_propose, on_beat, on_transfer}
use Rattle.raft_spec.specs.Snapshots.{on_snapped, needs_snapshot}
use Rattle.raft_spec.specs.Membership.{on_servers}
use Rattle.raft_spec.specs.Commitment.{commit_index}
use Rattle.raft_spec.specs.Receiving.{on_message}

-- The one message that a leader sends to a peer: its snapshot where the peer needs it, else up to 16 entries from next on.
unfoldable pub message_to : ℕ → Node → ℕ → Message
message_to me s p = record {
  from = me;
  to = p;
  term = s.term;
  what = cond (needs_snapshot s (s.next_of p))
      (Install s.snapshot (take s.snapshot.index s.log))
      (Append (record { index = s.next_of p - 1; term = term_at s.log (s.next_of p - 1) }) s.commit (take 16 (drop (s.next_of p - 1) s.log)));
}

-- The ids of the recipients.
abbrev pub receivers : ℕ → Node → Recipients → List ℕ
receivers me s Nobody = []
receivers me s Everyone = peers s.servers me
receivers me s (Only ps) = ps

-- A leader moves its commit index; if it moves, the leader sends to all peers.
abbrev pub advance_commit : (List Entry → List ℕ) → ℕ → Outcome → Outcome
advance_commit voters_of me d = record {
  node = with_log d.node d.node.log (commit_index voters_of me d.node);
  out = d.out;
  recipients = cond (nat_lt d.node.commit (commit_index voters_of me d.node)) Everyone d.recipients;
}

-- It sends, at most once to each peer, after the step's other messages.
abbrev pub sends : ℕ → Outcome → Outcome
sends me d = record { node = d.node; out = d.out ++ map (message_to me d.node) (receivers me d.node d.recipients); recipients = Nobody }

-- The end of a step: a leader moves its commit index, then sends.
unfoldable pub finish : (List Entry → List ℕ) → ℕ → Outcome → Outcome
finish voters_of me d = cond (is_leader d.node.role) (sends me (advance_commit voters_of me d)) d

-- The end of a step in which the servers were told: the commit index stays, since their change is in no log yet.
unfoldable pub serve : ℕ → Outcome → Outcome
serve me d = cond (is_leader d.node.role) (sends me d) d

-- A step of something that happens at the node, with the step's end.
abbrev pub on_local_event : (List Entry → List ℕ) → ℕ → Node → LocalEvent → Outcome
on_local_event voters_of me s Timeout = finish voters_of me (start_election voters_of me s false)
on_local_event voters_of me s Beat = finish voters_of me (on_beat s)
on_local_event voters_of me s Yield = finish voters_of me (on_yield s)
on_local_event voters_of me s (Propose es) = finish voters_of me (on_propose s es)
on_local_event voters_of me s (Transfer to) = finish voters_of me (on_transfer me s to)
on_local_event voters_of me s (Snapped i) = finish voters_of me (on_snapped s i)
on_local_event voters_of me s (UseServers servers) = serve me (on_servers me s servers)

-- One step of a running node. `voters_of` gives the voters by a log; a node that is told its voters has `λ log. voters servers`.
unfoldable pub raft_step : (List Entry → List ℕ) → ℕ → Node → Input → Outcome
raft_step voters_of me s (Local local) = on_local_event voters_of me s local
raft_step voters_of me s (Receive m) = finish voters_of me (on_message voters_of me s m)
