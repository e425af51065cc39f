-- Wrong scripts, which the laws of this crate refuse.
use Rattle.std.specs.Prelude.{◌≡◌, ◌≢◌, List, [], ◌∷◌, ◌++◌, Option, ℕ}
use Rattle.sql_engine.specs.declared.kind.EngineKind.{EngineKind}
use Rattle.sqlite_engine.specs.Any.{any_meaning}
use Rattle.session_spec.specs.Machine.{machine_of}
use Rattle.node_spec.specs.Nodes.{Node}
use Rattle.cluster_safety.specs.Runs.{Up, first_run}
use Rattle.cluster_safety.specs.Runs as runs
use Rattle.cluster_safety.specs.Laws.{applied}
use Rattle.script_grammar.specs.declared.grammar.FaultTarget.{FaultTarget}
use Rattle.script_cluster.specs.Outcomes.{Doing, Outcome, Stops, Fails, Unreadable, Turn, Does}
use Rattle.script_cluster.specs.Run.{run}
use Rattle.script_safety.specs.Slots.{setup_of}
use Rattle.script_safety.specs.Turns.{AreRun, events_of}
use Rattle.script_whole_nodes.specs.Safe.{AreOfNodes}
use Rattle.script_falls.specs.Falls.{NoneFalls}

-- A call of a disk stops, or it fails, or a start finds files that do not load, and the script counts as one without a fall.
abbrev pub NoStopOverlooked : Type 0
NoStopOverlooked = (n keeps : ℕ) (doing : Doing) (aim : FaultTarget) (outcome : Outcome) → outcome.ending ≡ Stops keeps →
    NoneFalls (Does n doing aim outcome ∷ []) → ⊥

abbrev pub NoFailureOverlooked : Type 0
NoFailureOverlooked = (n keeps : ℕ) (doing : Doing) (aim : FaultTarget) (outcome : Outcome) → outcome.ending ≡ Fails keeps →
    NoneFalls (Does n doing aim outcome ∷ []) → ⊥

abbrev pub NoUnreadableOverlooked : Type 0
NoUnreadableOverlooked = (n : ℕ) (doing : Doing) (aim : FaultTarget) (outcome : Outcome) → outcome.ending ≡ Unreadable →
    NoneFalls (Does n doing aim outcome ∷ []) → ⊥

-- No call of a disk stops or fails in a script, each start loads, and in whatever run its turns are two nodes have applied the same index and have other images
-- of a database.
abbrev pub NoOtherImages : EngineKind → Type 0
NoOtherImages kind =
    (script : List ℕ) (outcomes : List Outcome) (over : Option Turn) (of : AreOfNodes kind (run script outcomes).turns over) (front rest : List Turn)
    (n k : ℕ) (v u : Node) (name : List ℕ) → (run script outcomes).turns ≡ front ++ rest → NoneFalls front →
    ((is : AreRun (any_meaning kind) kind (setup_of of.voters) first_run front) →
    let r = runs.run (events_of (any_meaning kind) kind (setup_of of.voters) first_run front is) in (r.places n ≡ Up v) × (r.places k ≡ Up u)) →
    applied v ≡ applied u → ((machine_of v.machine).base name).image ≢ ((machine_of u.machine).base name).image → ⊥
