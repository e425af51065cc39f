-- Log replication: what an Append does at a follower, what its Ack does at the leader, and what a leader appends.
use Rattle.std.specs.Prelude.{ℕ, suc, ◌+◌, ◌-◌, Bool, true, false, cond, not, ◌&&◌, ◌||◌, ◌==◌, nat_lt, nat_le, min, max, List, [], ◌∷◌, ◌++◌, length}
use Rattle.raft_spec.specs.Log.{Entry, LogEnd, matches, accept_above, first_replaced_above}
use Rattle.raft_spec.specs.Node.{Ack, TimeoutNow, Node, among, peers, is_leader, Nobody, Everyone, Only, Outcome}
use Rattle.raft_spec.specs.Outcomes.{quiet, says, sends_to, answer, as_follower, with_log, with_progress, updated, with_term}

-- The log agrees with an Append's previous place: it matches, or the place is at or below the snapshot.
unfoldable pub agrees : Node → LogEnd → Bool
agrees s prev = nat_le prev.index s.snapshot.index || matches s.log prev

-- The entries are taken; the commit index becomes the leader's, but no more than the last index that is known to agree; the Ack has that index.
unfoldable pub take_entries : ℕ → Node → ℕ → LogEnd → ℕ → List Entry → Outcome
take_entries me s from prev commit entries =
    says (with_log s (accept_above s.log s.snapshot.index prev.index entries) (max s.commit (min commit (prev.index + length entries)))) (answer me s from (Ack true (prev.index + length entries)))

-- An Append that would replace an entry at or below the commit index: no run has one.
unfoldable pub replaces_committed : Node → LogEnd → List Entry → Bool
replaces_committed s prev entries = nat_lt 0 (first_replaced_above s.log s.snapshot.index prev.index entries) && nat_le (first_replaced_above s.log s.snapshot.index prev.index entries) s.commit

-- An Append in the node's term: its sender leads the term. If the logs agree its entries are taken; else the Ack has the own last index.
-- At a leader it changes nothing: no run has one.
unfoldable pub on_append : ℕ → Node → ℕ → LogEnd → ℕ → List Entry → Outcome
on_append me s from prev commit entries = cond (is_leader s.role)
    (quiet s)
    (cond (agrees s prev)
    (cond (replaces_committed s prev entries) (quiet s) (take_entries me (as_follower s from) from prev commit entries))
    (says (as_follower s from) (answer me s from (Ack false (length s.log)))))

-- A good Ack: match becomes the greater of itself and the index, next is match + 1.
abbrev pub good_ack : Node → ℕ → ℕ → Node
good_ack s from index = with_progress s (updated s.next_of from (suc (max (s.match_of from) index))) (updated s.match_of from (max (s.match_of from) index))

-- One that isn't: next becomes the smaller of next - 1 and the index + 1, and at least match + 1.
abbrev pub bad_ack : Node → ℕ → ℕ → Node
bad_ack s from index = with_progress s (updated s.next_of from (max (suc (s.match_of from)) (min (s.next_of from - 1) (suc index)))) s.match_of

-- An Ack of a peer at the leader of its term. The leader sends to it again where the Ack isn't good, or leaves match below the last index.
-- A good one past the leader's log changes nothing: no run has one.
unfoldable pub on_ack : ℕ → Node → ℕ → Bool → ℕ → Outcome
on_ack me s from true index = cond (is_leader s.role && among (peers s.servers me) from && nat_le index (length s.log))
    (sends_to (good_ack s from index) (cond (nat_lt (max (s.match_of from) index) (length s.log)) (Only (from ∷ [])) Nobody))
    (quiet s)
on_ack me s from false index = cond (is_leader s.role && among (peers s.servers me) from)
    (sends_to (bad_ack s from index) (Only (from ∷ [])))
    (quiet s)

-- A leader appends these entries in its term, and sends to all peers.
unfoldable pub on_propose : Node → List Entry → Outcome
on_propose s es = cond (is_leader s.role) (sends_to (with_log s (s.log ++ with_term s.term es) s.commit) Everyone) (quiet s)

-- A leader's heartbeat: it sends to all peers.
unfoldable pub on_beat : Node → Outcome
on_beat s = cond (is_leader s.role) (sends_to s Everyone) (quiet s)

-- A leader hands its leadership over to another node.
unfoldable pub on_transfer : ℕ → Node → ℕ → Outcome
on_transfer me s to = cond (is_leader s.role && not (to == me)) (says s (answer me s to TimeoutNow)) (quiet s)
