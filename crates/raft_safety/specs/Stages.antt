-- What stays of an event that is stopped, by where the stop falls.
use Rattle.std.specs.Prelude.{◌≡◌, ℕ, ◌+◌, List, ◌∷◌, ◌++◌, length, take}
use Rattle.raft_spec.specs.Node.{Node, Input}
use Rattle.raft_spec.specs.Account.{Stored, stored_of, enacted, steps, account}
use Rattle.raft_safety.specs.Members.{Setup, member_step}

-- this many acts past the steps of the first inputs
abbrev pub past : Setup → ℕ → Node → List Input → List Input → ℕ → Stored
past setup n s first rest acts = enacted (stored_of s) (take (length (account (member_step setup n) s first) + acts) (account (member_step setup n) s (first ++ rest)))

-- the node between the steps of the first inputs and the next one, and after that
abbrev pub between : Setup → ℕ → Node → List Input → Node
between setup n s first = steps (member_step setup n) s first

-- the node after that next step
abbrev pub next : Setup → ℕ → Node → List Input → Input → Node
next setup n s first i = (member_step setup n (between setup n s first) i).node

-- the whole account of an event leaves what its node has stored
abbrev pub WholeAccount : Type 0
WholeAccount =
    (setup : Setup) (n : ℕ) (s : Node) (is : List Input) →
    enacted (stored_of s) (account (member_step setup n) s is) ≡ stored_of (steps (member_step setup n) s is)

-- a stop before the next step's metadata is kept: what the node had stored
abbrev pub StopsBefore : Type 0
StopsBefore = (setup : Setup) (n : ℕ) (s : Node) (first rest : List Input) → past setup n s first rest 0 ≡ stored_of (between setup n s first)

-- after the metadata, before the batch or snapshot: the new term and vote over the old log
abbrev pub StopsAtMeta : Type 0
StopsAtMeta =
    (setup : Setup) (n : ℕ) (s : Node) (first : List Input) (i : Input) (rest : List Input) →
    past setup n s first (i ∷ rest) 1 ≡ record (stored_of (between setup n s first)) { term = (next setup n s first i).term; vote = (next setup n s first i).vote }

-- after the batch or snapshot, before anything is applied
abbrev pub StopsAtLog : Type 0
StopsAtLog =
    (setup : Setup) (n : ℕ) (s : Node) (first : List Input) (i : Input) (rest : List Input) →
    past setup n s first (i ∷ rest) 2 ≡ record (stored_of (next setup n s first i)) { applied = (between setup n s first).commit }
