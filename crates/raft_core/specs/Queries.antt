-- What a node says of itself.
use Rattle.std.specs.Prelude.{ℕ, Bool, not, ◌&&◌, ◌==◌, nat_le, if◌then◌else◌, Option, Some, None, length}
use Rattle.raft_spec.specs.Log.{term_at}
use Rattle.raft_spec.specs.Node.{is_leader}
use Rattle.raft_spec.specs.NodeValues.{NodeValue, node_of}
use Rattle.raft_spec.specs.Progress.{match_in}

-- the leader of the term, if it is known
abbrev pub leader_at : ℕ → Option ℕ
leader_at leader = if leader == 0 then None else Some leader

-- the log is compacted at the index, which is neither its begin nor the snapshot's end
abbrev pub forgets_at : NodeValue → ℕ → Bool
forgets_at h i = (i == h.base) && not (i == 0) && not (i == h.snapshot.index)

-- the term at an index, if it is known
abbrev pub known_at : NodeValue → ℕ → Option ℕ
known_at h i = if forgets_at h i then None else if nat_le h.base i && nat_le i (length (node_of h).log) then Some (term_at (node_of h).log i) else None

-- what a leader knows of a server's log: up to which index it agrees with the leader's own, which agrees whole; nothing if the node doesn't lead
abbrev pub matched_at : NodeValue → ℕ → Option ℕ
matched_at h id = if is_leader h.role then if id == h.id then Some (length (node_of h).log) else Some (match_in h.rows id) else None
