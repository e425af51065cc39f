-- Wrong runs of whole nodes, which the laws of this crate refuse.
use Rattle.std.specs.Prelude.{◌≡◌, ◌≢◌, ℕ, List, ◌∷◌, ◌++◌}
use Rattle.sql_engine.specs.declared.kind.EngineKind.{EngineKind}
use Rattle.sql_engine.specs.Meanings.{Meaning}
use Rattle.database_state.specs.Databases.{contents_of}
use Rattle.session_spec.specs.Entries.{Entry as Line}
use Rattle.session_spec.specs.Sessions.{Flight}
use Rattle.session_safety.specs.Nodes.{Said}
use Rattle.raft_safety.specs.Members.{Setup}
use Rattle.node_spec.specs.Nodes.{Node}
use Rattle.order_safety.specs.Order.{HasTerm}
use Rattle.cluster_safety.specs.Runs.{Up, Event, first_run, run, AllHold}
use Rattle.cluster_safety.specs.Laws.{SafeRun, applied}
use Rattle.headline.specs.Headline.{shown_image}
use Rattle.headline_safety.specs.Order.{IsPending, MayPropose}

-- A node has applied an index, and a node that has applied the same index, at this moment or a later one, shows another image of a database.
abbrev pub NoOtherFiles : Meaning → EngineKind → Type 0
NoOtherFiles m kind =
    (setup : Setup) (early late : List Event) (n k : ℕ) (v w : Node) (name : List ℕ) → AllHold m kind setup first_run (early ++ late) →
    (run early).places n ≡ Up v → (run (early ++ late)).places k ≡ Up w → applied v ≡ applied w →
    shown_image (contents_of v.machine) name ≢ shown_image (contents_of w.machine) name → ⊥

-- A proposal was pending with its last entry at index 2. After that a leader appends its first entry, and in each list by which the run is safe in the end this
-- one is at index 1, before the proposal's entry.
abbrev pub NoNewBeforePending : Meaning → EngineKind → Type 0
NoNewBeforePending m kind =
    (setup : Setup) (early middle late : List Event) (n conn k term : ℕ) (f : Flight) → AllHold m kind setup first_run (early ++ (middle ++ late)) →
    IsPending (run early) n conn f → f.last ≡ 2 → MayPropose (run (early ++ middle)) k term 1 →
    ((chosen : List Line) (said : List Said) → SafeRun m setup (run (early ++ (middle ++ late))) chosen said →
    HasTerm chosen 1 term × HasTerm chosen 2 f.term) → ⊥

-- By each account of the replies of the first moment the first reply had waited for the entry at index 2. After that a leader appends its first entry, and in
-- each list by which the run is safe in the end this one is at index 1.
abbrev pub NoNewBeforeAnswered : Meaning → EngineKind → Type 0
NoNewBeforeAnswered m kind =
    (setup : Setup) (early middle late : List Event) (k term : ℕ) → AllHold m kind setup first_run (early ++ (middle ++ late)) →
    ((chosen : List Line) (said : List Said) → SafeRun m setup (run early) chosen said →
    (x : Said) × (xs : List Said) × (said ≡ x ∷ xs) × (x.index ≡ 2)) →
    MayPropose (run (early ++ middle)) k term 1 →
    ((chosen : List Line) (said : List Said) → SafeRun m setup (run (early ++ (middle ++ late))) chosen said → HasTerm chosen 1 term) → ⊥
