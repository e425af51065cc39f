-- What stays of what was applied, and what a barrier is past.
use Rattle.std.specs.Prelude.{ℕ, ◌<◌, ◌≤◌, List, [], ◌∷◌, ◌++◌, length}
use Rattle.raft_spec.specs.Account.{Stored}
use Rattle.raft_safety.specs.Members.{Setup}
use Rattle.raft_safety.specs.World.{Event, run}
use Rattle.raft_safety.specs.Laws.{Leads, node_at, log_at, SameUpTo}
use Rattle.raft_safety.specs.Chosen.{reached, chosen}

-- what the node of the event has stored and applied by it
abbrev pub turn : Setup → List Event → Event → Stored
turn setup events e = reached setup (run setup events) e

-- what a node applied in an event after which its term was t is in the log of each later leader of t or a greater term
abbrev pub AppliedStays : Type 0
AppliedStays =
    (setup : Setup) (events : List Event) (e : Event) (more : List Event) (m t : ℕ) → Leads setup (events ++ e ∷ more) m t →
    (turn setup events e).term ≤ t → SameUpTo (turn setup events e).applied (turn setup events e).log (log_at setup (events ++ e ∷ more) m)

-- what a leader of t has applied, and so may answer, is in the log of each later leader of t or a greater term
abbrev pub AnsweredStays : Type 0
AnsweredStays =
    (setup : Setup) (events more : List Event) (n m t u i : ℕ) → Leads setup events n t → i ≤ (node_at setup events n).commit →
    Leads setup (events ++ more) m u → t ≤ u → SameUpTo i (log_at setup events n) (log_at setup (events ++ more) m)

-- what an event applied, a stopped one too, is the front of the chosen entries
abbrev pub EventsChosen : Type 0
EventsChosen =
    (setup : Setup) (events : List Event) (e : Event) →
    SameUpTo (turn setup events e).applied (turn setup events e).log (chosen setup (events ++ e ∷ []))

-- a leader of t that applies an index past the log that it had at a moment, still leading t, has by then all that any node had applied at that moment:
-- so a barrier that it appends after that moment is past all that was chosen before
abbrev pub BarrierPast : Type 0
BarrierPast =
    (setup : Setup) (events more : List Event) (n t j : ℕ) → Leads setup events n t → Leads setup (events ++ more) n t →
    length (log_at setup events n) < j → j ≤ (node_at setup (events ++ more) n).commit → length (chosen setup events) < j
