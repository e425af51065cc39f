-- What holds over every list of events, for any reader and opening configuration.
use Rattle.std.specs.Prelude.{◌≡◌, ◌⊎◌, ℕ, suc, ◌≤◌, true, List, ◌++◌, length, take}
use Rattle.raft_spec.specs.Log.{Entry, term_at}
use Rattle.raft_spec.specs.Node.{Leader, Node}
use Rattle.raft_safety.specs.Members.{Setup, voters_after, one_more}
use Rattle.raft_safety.specs.World.{Event, run}

-- a node after these events
abbrev pub node_at : Setup → List Event → ℕ → Node
node_at setup events n = (run setup events).nodes n

-- its whole log
abbrev pub log_at : Setup → List Event → ℕ → List Entry
log_at setup events n = ((run setup events).nodes n).log

-- after these events the node n leads the term t
abbrev pub Leads : Setup → List Event → ℕ → ℕ → Type 0
Leads setup events n t = ((node_at setup events n).role ≡ Leader) × ((node_at setup events n).term ≡ t)

-- both logs reach the index, and are the same up to it
abbrev pub SameUpTo : ℕ → List Entry → List Entry → Type 0
SameUpTo i xs ys = (i ≤ length xs) × (i ≤ length ys) × (take i xs ≡ take i ys)

-- at any two moments of a run, who leads a term is the same
abbrev pub OneLeader : Type 0
OneLeader = (setup : Setup) (events more : List Event) (n m t : ℕ) → Leads setup events n t → Leads setup (events ++ more) m t → n ≡ m

-- two logs of any two moments with one term at an index are equal up to it
abbrev pub LogsAgree : Type 0
LogsAgree =
    (setup : Setup) (events more : List Event) (n m i : ℕ) → i ≤ length (log_at setup events n) →
    i ≤ length (log_at setup (events ++ more) m) → term_at (log_at setup events n) i ≡ term_at (log_at setup (events ++ more) m) i →
    take i (log_at setup events n) ≡ take i (log_at setup (events ++ more) m)

-- what a node has applied is in the log of each later leader of its term or a greater one
abbrev pub LeadersComplete : Type 0
LeadersComplete =
    (setup : Setup) (events more : List Event) (n m t : ℕ) → Leads setup (events ++ more) m t → (node_at setup events n).term ≤ t →
    SameUpTo (node_at setup events n).commit (log_at setup events n) (log_at setup (events ++ more) m)

-- what two nodes have applied at any two moments is the same, as far as both have
abbrev pub AppliedAgree : Type 0
AppliedAgree =
    (setup : Setup) (events more : List Event) (n m i : ℕ) → i ≤ (node_at setup events n).commit →
    i ≤ (node_at setup (events ++ more) m).commit → take i (log_at setup events n) ≡ take i (log_at setup (events ++ more) m)

-- two lists of voters that are the same, or of which one has one id more
abbrev pub Neighbours : List ℕ → List ℕ → Type 0
Neighbours ids others = (ids ≡ others) ⊎ ((one_more ids others ≡ true) ⊎ (one_more others ids ≡ true))

-- the voters before and after each entry of a log are neighbours
abbrev pub NextVoters : Type 0
NextVoters =
    (setup : Setup) (events : List Event) (n j : ℕ) →
    Neighbours (voters_after setup (take j (log_at setup events n))) (voters_after setup (take (suc j) (log_at setup events n)))
