-- Wrong scripts, which the law of this crate refuses.
use Rattle.std.specs.Prelude.{◌≡◌, ◌≢◌, ℕ, ◌≤◌, List, Some, None}
use Rattle.dq_base.specs.declared.images.Image.{Image}
use Rattle.sql_engine.specs.declared.kind.EngineKind.{EngineKind}
use Rattle.sql_engine.specs.Meanings.{Meaning}
use Rattle.raft_safety.specs.Members.{Setup}
use Rattle.cluster_safety.specs.Runs.{first_run}
use Rattle.script_cluster.specs.Outcomes.{Standing, Turn}
use Rattle.script_safety.specs.Turns.{AreRun}
use Rattle.headline.specs.Headline.{shown_image}
use Rattle.headline_script_safety.specs.Showing.{IsShownAt}

-- Two nodes are shown at one index, after any two turns, and with other files.
abbrev pub NoOtherFiles : Meaning → EngineKind → Type 0
NoOtherFiles m kind =
    (setup : Setup) (turns : List Turn) (n k : ℕ) (a b : Standing) → AreRun m kind setup first_run turns → IsShownAt turns n a → IsShownAt turns k b →
    a.applied ≡ b.applied → a.databases ≢ b.databases → ⊥

-- A node is shown with a database that another node, or the same one, is shown without at the same index or a later one.
abbrev pub NoLostDatabase : Meaning → EngineKind → Type 0
NoLostDatabase m kind =
    (setup : Setup) (turns : List Turn) (n k : ℕ) (a b : Standing) (name : List ℕ) (image : Image) → AreRun m kind setup first_run turns →
    IsShownAt turns n a → IsShownAt turns k b → a.applied ≤ b.applied → shown_image a.databases name ≡ Some image → shown_image b.databases name ≡ None → ⊥
