-- Whether a message puts a snapshot in the place of entries.
use Rattle.std.specs.Prelude.{ℕ, ◌-◌, Bool, not, ◌&&◌, ◌||◌, nat_lt, nat_le}
use Rattle.raft_spec.specs.Log.{LogEnd}
use Rattle.raft_spec.specs.Node.{Node, is_leader}
use Rattle.raft_spec.specs.Receiving.{fits_the_wire}
use Rattle.raft_messages.specs.declared.message.RaftMessage.{RaftMessage}
use Rattle.raft_core.specs.declared.event.RaftEvent.TheVariants as events
use Rattle.raft_on_disk.specs.Replicas.{ReplicaValue, stepped}

-- Raft's step of the message puts a snapshot in place that is past the commit index
abbrev pub puts_snapshot : ReplicaValue → RaftMessage → Bool
puts_snapshot r m = nat_lt r.raft.commit (stepped r (events.Message m)).snapshot.index

-- the end of a snapshot can be carried
abbrev pub end_fits : LogEnd → Bool
end_fits last = fits_the_wire last.index && fits_the_wire last.term

-- a node of this term looks at an Install: its term isn't too far above the own one, it has a term and a sender, and its numbers are in range
abbrev pub is_looked_at : ℕ → ℕ → ℕ → LogEnd → Bool
is_looked_at own from term last = nat_le (term - own) 1000000 && nat_lt 0 term && nat_lt 0 from && fits_the_wire term && end_fits last

-- an Install reaches a node that isn't past its term, doesn't lead it, and has committed less
abbrev pub takes_install : Node → ℕ → ℕ → LogEnd → Bool
takes_install s from term last =
    is_looked_at s.term from term last && nat_le s.term term && (nat_lt s.term term || not (is_leader s.role)) && nat_lt s.commit last.index
