-- Other servers: what a node does when it is given them.
use Rattle.std.specs.Prelude.{ℕ, suc, cond, not, ◌&&◌, List, length}
use Rattle.std.specs.List.{filter}
use Rattle.raft_spec.specs.Node.{Node, Server, among, peers, is_leader, Only, Outcome}
use Rattle.raft_spec.specs.Outcomes.{quiet, sends_to}

-- The peers of the second list that aren't of the first.
abbrev pub gained : List ℕ → List ℕ → List ℕ
gained old new = filter (λ p. not (among old p)) new

-- Peers that stay keep next and match; a new peer's next is the last index + 1, its match 0; who is no peer has 1 and 0.
abbrev pub next_among : ℕ → Node → List Server → ℕ → ℕ
next_among me s servers p = cond (among (peers servers me) p) (cond (among (peers s.servers me) p) (s.next_of p) (suc (length s.log))) 1

-- The match of each node among these servers.
abbrev pub match_among : ℕ → Node → List Server → ℕ → ℕ
match_among me s servers p = cond (among (peers servers me) p && among (peers s.servers me) p) (s.match_of p) 0

-- The node with these servers, and next and match of its peers.
abbrev pub with_servers : ℕ → Node → List Server → Node
with_servers me s servers = record s { servers = servers; next_of = next_among me s servers; match_of = match_among me s servers }

-- The node is given other servers; a leader sends to each peer that it gains.
unfoldable pub on_servers : ℕ → Node → List Server → Outcome
on_servers me s servers = cond (is_leader s.role) (sends_to (with_servers me s servers) (Only (gained (peers s.servers me) (peers servers me)))) (quiet (with_servers me s servers))
