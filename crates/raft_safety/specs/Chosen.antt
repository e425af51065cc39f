-- The list of applied entries of a run, and the whole log of a node.
use Rattle.std.specs.Prelude.{◌≡◌, ◌≤◌, ℕ, max, List, [], ◌∷◌, ◌++◌, length, take, drop, Some, slice_get}
use Rattle.raft_spec.specs.Log.{Entry}
use Rattle.raft_spec.specs.Node.{What, AskVote, Vote, Append, Ack, Install, TimeoutNow, Message}
use Rattle.raft_spec.specs.Account.{Stored, stored_of, applied_to}
use Rattle.raft_safety.specs.Members.{Setup}
use Rattle.raft_safety.specs.World.{run, World, Event, Acts, Stops, Crash, Start, stopped, happens, start}
use Rattle.raft_safety.specs.Laws.{node_at, log_at, SameUpTo}

-- at which node an event happens
abbrev pub actor : Event → ℕ
actor (Acts n causes places) = n
actor (Stops n causes acts applied base) = n
actor (Crash n) = n
actor (Start n servers) = n

-- what it has stored and applied by the acts of the event; a stopped event counts with the acts that it has
abbrev pub reached : Setup → World → Event → Stored
reached setup w (Acts n causes places) = stored_of ((happens setup w (Acts n causes places)).nodes n)
reached setup w (Stops n causes acts applied base) = applied_to applied (stopped setup w n causes acts)
reached setup w (Crash n) = stored_of (w.nodes n)
reached setup w (Start n servers) = stored_of (w.nodes n)

-- the entries that this node has applied first; those of its snapshot count as applied
abbrev pub chosen_more : List Entry → Stored → List Entry
chosen_more c x = c ++ drop (length c) (take (max x.applied x.snapshot.index) x.log)

-- the chosen entries after these events, from a world and what was chosen by then
abbrev pub chosen_from : Setup → World → List Entry → List Event → List Entry
chosen_from setup w c [] = c
chosen_from setup w c (e ∷ events) = chosen_from setup (happens setup w e) (chosen_more c (reached setup w e)) events

-- at each index the entry that was applied first there
unfoldable pub chosen : Setup → List Event → List Entry
chosen setup events = chosen_from setup (start setup) [] events

-- the chosen entries up to an applied index, and then the node's entries, are its whole log: so at its snapshot's index, and if it has compacted its log
abbrev pub WholeLogs : Type 0
WholeLogs =
    (setup : Setup) (events : List Event) (n i : ℕ) → i ≤ (node_at setup events n).commit →
    take i (chosen setup events) ++ drop i (log_at setup events n) ≡ log_at setup events n

-- what is compacted is at or below the snapshot, and that is applied
abbrev pub CutsApplied : Type 0
CutsApplied =
    (setup : Setup) (events : List Event) (n : ℕ) →
    ((node_at setup events n).base ≤ (node_at setup events n).snapshot.index) × ((node_at setup events n).snapshot.index ≤ (node_at setup events n).commit)

-- what a node applied is the front of the chosen entries
abbrev pub AppliedChosen : Type 0
AppliedChosen = (setup : Setup) (events : List Event) (n : ℕ) → SameUpTo (node_at setup events n).commit (log_at setup events n) (chosen setup events)

-- the chosen entries only grow
abbrev pub ChosenGrows : Type 0
ChosenGrows = (setup : Setup) (events more : List Event) → take (length (chosen setup events)) (chosen setup (events ++ more)) ≡ chosen setup events

-- a message's snapshot represents no more than the index
abbrev pub WithinWhat : ℕ → What → Type 0
WithinWhat k (Install last front) = last.index ≤ k
WithinWhat k (AskVote last transfer) = Unit {0}
WithinWhat k (Vote granted) = Unit {0}
WithinWhat k (Append prev commit entries) = Unit {0}
WithinWhat k (Ack good index) = Unit {0}
WithinWhat k TimeoutNow = Unit {0}

-- each kept snapshot, and each in a message, represents a front of the chosen entries: an Install applies no entry first
abbrev pub SnapshotsChosen : Type 0
SnapshotsChosen =
    (setup : Setup) (events : List Event) →
    ((n : ℕ) → (node_at setup events n).snapshot.index ≤ length (chosen setup events))
    × ((k : ℕ) (m : Message) → slice_get (run setup events).messages k ≡ Some m → WithinWhat (length (chosen setup events)) m.what)
