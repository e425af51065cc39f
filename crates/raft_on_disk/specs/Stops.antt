-- What a step leaves that failed or was stopped.
use Rattle.std.specs.Prelude.{◌≡◌, ℕ, ◌+◌, ◌≤◌, cond, ◌&&◌, ◌==◌, Bool, List}
use Rattle.raft_spec.specs.Node.{Node}
use Rattle.disk_model.specs.Disk.{Disk, Leaves as DiskLeaves}
use Rattle.disk_model.specs.Trait.{Text, Known}
use Rattle.store_laws.specs.Names.{NodeFiles, NodeDisk}
use Rattle.store_laws.specs.Store.{Loaded}
use Rattle.store_laws.specs.Meta.{with_vote}
use Rattle.store_laws.specs.Chance.{NoChance}
use Rattle.store_laws.specs.Snapshots.{IsLonger}
use Rattle.store_format.specs.NodeFormat.{node_format}
use Rattle.segment_store.specs.Keeps.{folder}
use Rattle.segment_store.specs.Loading.{kept_in, IsSeen}
use Rattle.raft_on_disk.specs.Keeping.{kept_at}

-- how many times a step from this node to that one keeps a term and a vote
abbrev pub votes_between : Node → Node → ℕ
votes_between s t = cond ((t.term == s.term) && (t.vote == s.vote)) 0 1

-- What a load answers after a step from the node s to t that failed, if the count of what was kept whole went from `count` to `now_count`: the state before, where
-- nothing was; with the new term and vote, if no more than they were; or the new state, if they were, maybe with a longer part of the log before. The bytes of the
-- snapshot are those before the step and after it.
pub data MayLoad (s t : Node) (was now : List ℕ) (count now_count : ℕ) (g : NodeFiles) : Type 0 where
  before : now_count ≡ count → kept_in g ≡ Loaded (kept_at s was) → MayLoad s t was now count now_count g
  between : now_count ≤ count + votes_between s t → kept_in g ≡ Loaded (with_vote t.term t.vote (kept_at s was)) → MayLoad s t was now count now_count g
  after : count + votes_between s t ≤ now_count → IsLonger node_format 10000000000000000 g t.term t.vote (kept_at t now).snap (kept_at s was).log (kept_at t now).log → MayLoad s t was now count now_count g

-- This holds after each crash, and without one.
pub record StopsIn (s t : Node) (was now : List ℕ) (count now_count : ℕ) (d : NodeDisk) : Type 0 where
  pub crash : (g : NodeFiles) → DiskLeaves d g → NoChance node_format d g → MayLoad s t was now count now_count g
  pub seen : IsSeen d

abbrev pub Stops : Bool → (Disk Text → Type 0) → Node → Node → List ℕ → List ℕ → ℕ → ℕ → Type 0
Stops tells states s t was now count now_count = Known tells states (λ d. StopsIn s t was now count now_count (folder d))
