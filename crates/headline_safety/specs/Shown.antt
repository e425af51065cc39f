-- What the headline says of the files that nodes show, for runs of whole nodes.
use Rattle.std.specs.Prelude.{◌≡◌, ℕ, ◌≤◌, List, ◌++◌, length, map, take}
use Rattle.sql_engine.specs.declared.kind.EngineKind.{EngineKind}
use Rattle.sql_engine.specs.Meanings.{Meaning}
use Rattle.database_state.specs.Databases.{contents_of}
use Rattle.session_spec.specs.Entries.{Entry as Line}
use Rattle.session_safety.specs.Nodes.{Said}
use Rattle.raft_safety.specs.Members.{Setup}
use Rattle.node_spec.specs.Nodes.{Node}
use Rattle.cluster_safety.specs.Runs.{Up, Event, first_run, run, AllHold}
use Rattle.cluster_safety.specs.Laws.{SafeRun, applied}
use Rattle.headline.specs.Headline.{Change, image_in, shown_image}
use Rattle.change_safety.specs.Changes.{new_image, changes_of, changes_at}

-- A run has one list of entries and one account of its replies for all its moments: at each moment it is safe by a prefix of both.
pub record HasOneList (m : Meaning) (setup : Setup) (events : List Event) : Type 0 where
  pub chosen : List Line
  pub said : List Said
  pub moments : (early late : List Event) → events ≡ early ++ late → (size count : ℕ) × SafeRun m setup (run early) (take size chosen) (take count said)

-- At each moment a node that runs shows the images after the changes that the entries it has applied make.
abbrev pub ShowsChanges : List Line → List Change → List Event → Type 0
ShowsChanges chosen order events =
    (early late : List Event) → events ≡ early ++ late → (n : ℕ) (v : Node) → (run early).places n ≡ Up v →
    (applied v ≤ length chosen) ×
    ((name : List ℕ) → shown_image (contents_of v.machine) name ≡ image_in (take (changes_at chosen (applied v)) order) name)

pub record FilesHold (m : Meaning) (setup : Setup) (events : List Event) : Type 0 where
  pub list : HasOneList m setup events
  pub files : (order : List Change) → map new_image order ≡ changes_of list.chosen → ShowsChanges list.chosen order events

-- This holds of every run in which each call of a node met its clauses.
abbrev pub FilesAreShown : Meaning → EngineKind → Type 0
FilesAreShown m kind = (setup : Setup) (events : List Event) → AllHold m kind setup first_run events → FilesHold m setup events
