-- What the rules are written with: outcomes, and a node with some of its state changed.
use Rattle.std.specs.Prelude.{ℕ, cond, ◌==◌, List, [], ◌∷◌, map}
use Rattle.raft_spec.specs.Log.{Entry, Barrier}
use Rattle.raft_spec.specs.Node.{What, Message, Follower, Node, Recipients, Nobody, Outcome}

-- Nothing is said or sent.
abbrev pub quiet : Node → Outcome
quiet s = record { node = s; out = []; recipients = Nobody }

-- One message is said.
abbrev pub says : Node → Message → Outcome
says s m = record { node = s; out = m ∷ []; recipients = Nobody }

-- The log is sent at the step's end.
abbrev pub sends_to : Node → Recipients → Outcome
sends_to s sp = record { node = s; out = []; recipients = sp }

-- A message of this node in its term.
abbrev pub answer : ℕ → Node → ℕ → What → Message
answer me s to what = record { from = me; to = to; term = s.term; what = what }

-- A greater term is taken: no vote, no known leader, and the node is a follower.
abbrev pub in_newer_term : Node → ℕ → Node
in_newer_term s t = record s { term = t; vote = 0; role = Follower; leader = 0; grants = [] }

-- The sender leads this term, and the node follows it.
abbrev pub as_follower : Node → ℕ → Node
as_follower s leader = record s { role = Follower; leader = leader }

-- The node with this log and commit index.
abbrev pub with_log : Node → List Entry → ℕ → Node
with_log s log commit = record s { log = log; commit = commit }

-- The node with this vote.
abbrev pub with_vote : Node → ℕ → Node
with_vote s vote = record s { vote = vote }

-- The candidate with these grants.
abbrev pub with_grants : Node → List ℕ → Node
with_grants s grants = record s { grants = grants }

-- The leader with this progress of its peers.
abbrev pub with_progress : Node → (ℕ → ℕ) → (ℕ → ℕ) → Node
with_progress s next_of match_of = record s { next_of = next_of; match_of = match_of }

-- A function with one value changed.
abbrev pub updated : (ℕ → ℕ) → ℕ → ℕ → ℕ → ℕ
updated f p v q = cond (q == p) v (f q)

-- The entry that a new leader appends first: it has no bytes.
abbrev pub barrier : ℕ → Entry
barrier term = record { term = term; kind = Barrier; bytes = [] }

-- These entries, with the term of the leader that appends them.
abbrev pub with_term : ℕ → List Entry → List Entry
with_term t es = map (λ e. record { term = t; kind = e.kind; bytes = e.bytes }) es
