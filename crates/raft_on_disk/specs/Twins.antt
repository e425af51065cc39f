-- A node of Raft's world, which has its whole log, and the node that makes its steps without what is compacted: what they keep.
use Rattle.std.specs.Prelude.{◌≡◌, ℕ, suc, ◌-◌, ◌≤◌, false, List, ◌++◌, length, take, drop, Option, Some, None}
use Rattle.raft_spec.specs.Log.{Entry}
use Rattle.raft_spec.specs.Node.{Node}
use Rattle.raft_safety.specs.Cuts.{Twin}
use Rattle.raft_safety.specs.Laws.{SameUpTo}
use Rattle.store_laws.specs.Names.{NodeFiles}
use Rattle.raft_on_disk.specs.Keeping.{kept_at}
use Rattle.raft_on_disk.specs.Replicas.{HasMoved}
use Rattle.raft_on_disk.specs.Stops.{MayLoad}

-- they keep the same
abbrev pub TwinsKeep : Type 0
TwinsKeep = (s v : Node) (bytes : List ℕ) → Twin s v → kept_at v bytes ≡ kept_at s bytes

-- and a load after a stopped step answers of both what it may of one
abbrev pub TwinsStop : Type 0
TwinsStop =
    (s v t u : Node) (was now : List ℕ) (count total : ℕ) (g : NodeFiles) → Twin s v → Twin t u → MayLoad v u was now count total g → MayLoad s t was now count total g

-- ---- the whole log

-- A whole log after a step, by the one before it and the entries that the twin holds: it stays, or it is another one from this index on.
abbrev pub IsFollowed : List Entry → List Entry → List Entry → Option ℕ → Type 0
IsFollowed old new held None = new ≡ old
IsFollowed old new held (Some first) = (first ≤ suc (length old)) × (new ≡ take (first - 1) old ++ drop (first - 1) held)

-- If no snapshot came, the whole log of the node follows what its twin says of its own; what was applied stays, which the law of
-- applied entries gives of each step.
abbrev pub TwinsFollow : Type 0
TwinsFollow =
    (s v t u : Node) (batch : Option ℕ) → Twin s v → Twin t u → v.base ≤ v.commit → u.base ≤ v.commit → SameUpTo s.commit s.log t.log →
    HasMoved v u batch false → IsFollowed s.log t.log u.log batch
