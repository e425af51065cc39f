-- Messages that no run has.
use Rattle.std.specs.Prelude.{◌≡◌, ℕ, ◌≤◌, true, false, cond, nat_lt, List, length, Some, slice_get}
use Rattle.raft_spec.specs.Node.{What, AskVote, Vote, Append, Ack, Install, TimeoutNow, Message, Node, is_leader}
use Rattle.raft_spec.specs.Outcomes.{in_newer_term}
use Rattle.raft_spec.specs.Replication.{agrees, replaces_committed}
use Rattle.raft_safety.specs.Members.{Setup}
use Rattle.raft_safety.specs.World.{Event, run}

-- a node once it has taken a message's term
abbrev pub at_term : Node → ℕ → Node
at_term s t = cond (nat_lt s.term t) (in_newer_term s t) s

-- an Append or Install reaches no leader of its term; an Append replaces nothing at or below the commit index; a good Ack is of what the leader has
abbrev pub IsNotLost : Node → What → Type 0
IsNotLost s (Append prev commit entries) = (is_leader s.role ≡ false) × (agrees s prev ≡ true → replaces_committed s prev entries ≡ false)
IsNotLost s (Install last front) = is_leader s.role ≡ false
IsNotLost s (Ack true index) = is_leader s.role ≡ true → index ≤ length s.log
IsNotLost s (Ack false index) = Unit {0}
IsNotLost s (AskVote last transfer) = Unit {0}
IsNotLost s (Vote granted) = Unit {0}
IsNotLost s TimeoutNow = Unit {0}

-- no message ever made is one that the rules call lost, whenever it comes in its term
abbrev pub NoneLost : Type 0
NoneLost =
    (setup : Setup) (events : List Event) (k : ℕ) (m : Message) → slice_get (run setup events).messages k ≡ Some m →
    ((run setup events).nodes m.to).term ≤ m.term → IsNotLost (at_term ((run setup events).nodes m.to) m.term) m.what
