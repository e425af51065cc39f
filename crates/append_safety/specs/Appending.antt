-- The step of a run in which a leader appended an entry, and the order of these steps.
use Rattle.std.specs.Prelude.{◌≡◌, ◌⊎◌, ℕ, suc, ◌<◌, ◌≤◌, true, List, ◌∷◌, ◌++◌, length, take}
use Rattle.raft_spec.specs.Log.{Entry, term_at}
use Rattle.raft_spec.specs.Node.{Leader}
use Rattle.raft_safety.specs.Members.{Setup}
use Rattle.raft_safety.specs.World.{Event, run}
use Rattle.raft_safety.specs.Laws.{Leads, log_at}
use Rattle.raft_safety.specs.Chosen.{actor, chosen}
use Rattle.raft_safety.specs.Sources.{midway}
use Rattle.raft_safety.specs.Midways.{Made}

-- In a step of these events, a running node that leads after it appended the last of these entries, which has its term, after the others. `step` is how many
-- steps the node had made in the event before.
pub record WasAppended (setup : Setup) (events : List Event) (entries : List Entry) : Type 0 where
  pub first : List Event
  pub event : Event
  pub rest : List Event
  pub split : events ≡ first ++ event ∷ rest
  pub runs : ((run setup first).nodes (actor event)).up ≡ true
  pub step : ℕ
  pub leads : (midway setup (run setup first) event (suc step)).role ≡ Leader
  pub term : (midway setup (run setup first) event (suc step)).term ≡ term_at entries (length entries)
  pub new : length (midway setup (run setup first) event step).log < length entries
  pub within : length entries ≤ length (midway setup (run setup first) event (suc step)).log
  pub has : take (length entries) (midway setup (run setup first) event (suc step)).log ≡ entries

-- A step of the event after some events is the same as another one, or earlier in the run.
abbrev pub IsNotLater : List Event → ℕ → List Event → ℕ → Type 0
IsNotLater first step first' step' = (length first < length first') ⊎ ((length first ≡ length first') × (step ≤ step'))

-- Each applied entry was appended by a leader of its term.
abbrev pub ChosenAppended : Type 0
ChosenAppended =
    (setup : Setup) (events : List Event) (i : ℕ) → 0 < i → i ≤ length (chosen setup events) → WasAppended setup events (take i (chosen setup events))

-- Entries were appended in their order: when a leader appended the last of these, each of the others had been appended.
abbrev pub AppendedInOrder : Type 0
AppendedInOrder =
    (setup : Setup) (events : List Event) (entries : List Entry) (i : ℕ) → 0 < i → i ≤ length entries → (late : WasAppended setup events entries) →
    (early : WasAppended setup events (take i entries)) × IsNotLater early.first early.step late.first late.step

-- The log of a node between two steps of an event, if these steps are kept, is the same as the applied entries up to each index at which both have one term.
abbrev pub KeptAgrees : Type 0
KeptAgrees =
    (setup : Setup) (first : List Event) (event : Event) (rest : List Event) (step i : ℕ) → ((run setup first).nodes (actor event)).up ≡ true →
    Made setup (run setup first) event step →
    i ≤ length (midway setup (run setup first) event step).log → i ≤ length (chosen setup (first ++ event ∷ rest)) →
    term_at (midway setup (run setup first) event step).log i ≡ term_at (chosen setup (first ++ event ∷ rest)) i →
    take i (midway setup (run setup first) event step).log ≡ take i (chosen setup (first ++ event ∷ rest))

-- At some moment a log has an entry at j, of a node that is up or down. At the same moment or a later one a leader's log ends before i. If in the end the
-- entry at j is applied, and at i an entry of this leader's term, then j is before i.
abbrev pub NewIsLater : Type 0
NewIsLater =
    (setup : Setup) (events more rest : List Event) (n k i j t : ℕ) → 0 < i → j ≤ length (log_at setup events n) →
    Leads setup (events ++ more) k t → length (log_at setup (events ++ more) k) < i →
    let applied = chosen setup (events ++ (more ++ rest)) in
    i ≤ length applied → term_at applied i ≡ t →
    j ≤ length applied → term_at applied j ≡ term_at (log_at setup events n) j → j < i

-- In the same way, all that was applied at a moment is before what a leader appends after it.
abbrev pub AppliedIsFirst : Type 0
AppliedIsFirst =
    (setup : Setup) (events more rest : List Event) (k i t : ℕ) → 0 < i → Leads setup (events ++ more) k t → length (log_at setup (events ++ more) k) < i →
    let applied = chosen setup (events ++ (more ++ rest)) in
    i ≤ length applied → term_at applied i ≡ t → length (chosen setup events) < i
