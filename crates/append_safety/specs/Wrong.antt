-- Wrong runs, which the laws of this crate refuse.
use Rattle.std.specs.Prelude.{◌≡◌, ◌≢◌, ℕ, ◌<◌, true, List, [], ◌∷◌, ◌++◌, length}
use Rattle.raft_spec.specs.Log.{Entry}
use Rattle.raft_safety.specs.Members.{Setup}
use Rattle.raft_safety.specs.World.{Event, Crash, run}
use Rattle.raft_safety.specs.Laws.{Leads, log_at}
use Rattle.raft_safety.specs.Chosen.{actor, chosen}
use Rattle.raft_safety.specs.Sources.{midway}
use Rattle.raft_safety.specs.Midways.{Made}
use Rattle.append_safety.specs.Appending.{WasAppended}

-- A node crashes and nothing else happens; an entry is applied that no leader appended.
abbrev pub NoEntryWithoutLeader : Type 0
NoEntryWithoutLeader = (setup : Setup) (n : ℕ) (x : Entry) → chosen setup (Crash n ∷ []) ≡ x ∷ [] → ⊥

-- A leader appended the entry y after x, and each append of x comes in a later event.
abbrev pub NoSwappedAppends : Type 0
NoSwappedAppends =
    (setup : Setup) (events : List Event) (x y : Entry) (late : WasAppended setup events (x ∷ y ∷ [])) →
    ((early : WasAppended setup events (x ∷ [])) → length late.first < length early.first) → ⊥

-- A log and the applied list have the same entry at index 2, and other entries at index 1.
abbrev pub NoOtherEntryBelow : Type 0
NoOtherEntryBelow =
    (setup : Setup) (first : List Event) (event : Event) (rest : List Event) (step : ℕ) (x y z : Entry) → x ≢ y →
    ((run setup first).nodes (actor event)).up ≡ true → Made setup (run setup first) event step →
    (midway setup (run setup first) event step).log ≡ x ∷ z ∷ [] → chosen setup (first ++ event ∷ rest) ≡ y ∷ z ∷ [] → ⊥

-- The entry z was at index 2 of a log. After that a leader with an empty log appended y at index 1, and y is applied before z.
abbrev pub NoNewBeforeOld : Type 0
NoNewBeforeOld =
    (setup : Setup) (events more rest : List Event) (n k : ℕ) (x y z : Entry) → log_at setup events n ≡ x ∷ z ∷ [] →
    Leads setup (events ++ more) k y.term → log_at setup (events ++ more) k ≡ [] → chosen setup (events ++ (more ++ rest)) ≡ y ∷ z ∷ [] → ⊥

-- The entries x and z were applied. After that a leader with x alone in its log appended y, and y is applied at the index of z.
abbrev pub NoAppliedReplaced : Type 0
NoAppliedReplaced =
    (setup : Setup) (events more rest : List Event) (k : ℕ) (x y z : Entry) → chosen setup events ≡ x ∷ z ∷ [] →
    Leads setup (events ++ more) k y.term → log_at setup (events ++ more) k ≡ x ∷ [] → chosen setup (events ++ (more ++ rest)) ≡ x ∷ y ∷ [] → ⊥
