-- Log compaction: snapshots that a node takes itself, and those that a leader sends.
use Rattle.std.specs.Prelude.{ℕ, suc, ◌-◌, Bool, true, cond, not, ◌&&◌, ◌||◌, ◌==◌, nat_lt, nat_le, max, List}
use Rattle.raft_spec.specs.Log.{Entry, LogEnd, term_at, matches}
use Rattle.raft_spec.specs.Node.{Ack, Node, is_leader, Outcome}
use Rattle.raft_spec.specs.Outcomes.{quiet, says, answer, as_follower}

-- A snapshot is installed: it represents all entries up to its end, which are applied and cut off; these are the whole log now.
abbrev pub installed : Node → LogEnd → List Entry → Node
installed s last log = record s { log = log; commit = last.index; snapshot = last; base = last.index }

-- An Install in the node's term: its sender leads the term. A snapshot at or below the commit index changes nothing. Of a newer one the log keeps
-- the entries after it, if its term at the snapshot's index is the snapshot's; else none. The Ack has the snapshot's index.
-- At a leader it changes nothing: no run has one.
unfoldable pub on_install : ℕ → Node → ℕ → LogEnd → List Entry → Outcome
on_install me s from last front = cond (is_leader s.role)
    (quiet s)
    (cond (nat_le last.index s.commit)
    (says (as_follower s from) (answer me s from (Ack true last.index)))
    (cond (matches s.log last)
    (says (installed (as_follower s from) last s.log) (answer me s from (Ack true last.index)))
    (says (installed (as_follower s from) last front) (answer me s from (Ack true last.index)))))

-- An own snapshot, at an applied index past the last one's: 16 entries up to it stay, the older ones are compacted.
unfoldable pub on_snapped : Node → ℕ → Outcome
on_snapped s i = cond (nat_lt s.snapshot.index i && nat_le i s.commit)
    (quiet (record s { snapshot = record { index = i; term = term_at s.log i }; base = max s.base (i - 16) }))
    (quiet s)

-- A peer needs the snapshot: its next entry is compacted, or the one before that is and its term isn't kept.
unfoldable pub needs_snapshot : Node → ℕ → Bool
needs_snapshot s next = nat_lt next (suc s.base) || ((next == suc s.base) && not (s.base == 0) && not (s.base == s.snapshot.index))
