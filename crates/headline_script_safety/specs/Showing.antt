-- What the headline says of the files that nodes show, for scripts.
use Rattle.std.specs.Prelude.{◌≡◌, ℕ, ◌≤◌, List, ◌++◌, length, map, take, Some}
use Rattle.sql_engine.specs.declared.kind.EngineKind.{EngineKind}
use Rattle.sql_engine.specs.Meanings.{Meaning}
use Rattle.session_spec.specs.Entries.{Entry as Line}
use Rattle.raft_safety.specs.Members.{Setup}
use Rattle.cluster_safety.specs.Runs.{first_run}
use Rattle.script_cluster.specs.Outcomes.{Standing, Turn}
use Rattle.script_safety.specs.Showing.{stands}
use Rattle.script_safety.specs.Turns.{AreRun}
use Rattle.headline.specs.Headline.{Change, image_in, shown_image}
use Rattle.change_safety.specs.Changes.{new_image, changes_of, changes_at}

-- A node is shown so after the first of these turns.
pub record IsShownAt (turns : List Turn) (n : ℕ) (a : Standing) : Type 0 where
  pub early : List Turn
  pub late : List Turn
  pub split : turns ≡ early ++ late
  pub shown : stands n early ≡ Some a

-- All nodes, at all moments, show prefixes of one list of changes; and nodes at one index show the same files, at any two moments.
pub record ShowsOneList (turns : List Turn) : Type 0 where
  pub chosen : List Line
  pub files : (order : List Change) → map new_image order ≡ changes_of chosen → (n : ℕ) (a : Standing) → IsShownAt turns n a →
      (a.applied ≤ length chosen) × ((name : List ℕ) → shown_image a.databases name ≡ image_in (take (changes_at chosen a.applied) order) name)
  pub alike : (n k : ℕ) (a b : Standing) → IsShownAt turns n a → IsShownAt turns k b → a.applied ≡ b.applied → a.databases ≡ b.databases

-- This holds of every script whose turns are a run of whole nodes.
abbrev pub ScriptsShowChanges : Meaning → EngineKind → Type 0
ScriptsShowChanges m kind = (setup : Setup) (turns : List Turn) → AreRun m kind setup first_run turns → ShowsOneList turns
