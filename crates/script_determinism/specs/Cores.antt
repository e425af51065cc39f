-- Whole nodes with engines of cells, as the law on scripts takes them.
use Rattle.std.specs.Prelude.{◌≡◌, ℕ, false, List, []}
use Rattle.sql_engine.specs.declared.kind.EngineKind.TheVariants.{Cells}
use Rattle.sql_engine.specs.Cells.{cells}
use Rattle.session_spec.specs.Engines.{Answer}
use Rattle.store_laws.specs.Store.{Kept}
use Rattle.raft_on_disk.specs.Keeping.{kept_at}
use Rattle.applied_state.specs.Snapshot.{contents_in}
use Rattle.node_core.specs.declared.event.Event as core
use Rattle.node_core.specs.declared.outs.StepOutputs as core_outs
use Rattle.node_core.specs.Core.{Core}
use Rattle.node_core.specs.Exact.{StepsExactly}
use Rattle.node_core.specs.ExactStart.{StartsExactly}
use Rattle.cluster_safety.specs.Runs.{nothing_kept}
use Rattle.script_determinism.specs.CoreSteps.{IsAlone}
use Rattle.script_cluster.specs.Voters.{voters_from}
use Rattle.script_cluster.specs.Outcomes.{Standing, Outs, Ending, Steps, Starts, Doing, Start, Turn, Does, Crashes}
use Rattle.script_safety.specs.Slots.{EventIs, outs_of}
use Rattle.script_determinism.specs.Nodes.{Nodes}

-- at a seat is the core of a node that runs, or this is kept
pub data CoreSeat : Type 0 where
  Runs : Core → CoreSeat
  Rests : Kept → CoreSeat

-- how a node with this core stands
abbrev pub stands_at : Core → Standing
stands_at w = record { term = w.raft.term; role = w.raft.role; applied = w.raft.commit; databases = contents_in w.files }

-- A step of a node that has no peer connections and no readers said this, by these answers.
pub record StepsAt (w v : Core) (doing : Doing) (answers : List Answer) (outs : Outs) (standing : Standing) : Type 0 where
  pub alone : IsAlone w
  pub event : core.Event
  pub is : EventIs doing event
  pub said : core_outs.StepOutputs
  pub steps : StepsExactly cells Cells event w v said answers
  pub outs_are : outs ≡ outs_of said
  pub stands : standing ≡ stands_at v

-- A start over what was kept, in a cluster that was opened with this many voters; the engine is asked nothing.
pub record StartsAt (n : ℕ) (kept loaded : Kept) (v : Core) (doing : Doing) (answers : List Answer) (standing : Standing) : Type 0 where
  pub voters : ℕ
  pub is : doing ≡ Start voters
  pub starts : StartsExactly n false false (voters_from voters 1) kept v
  pub loads : loaded ≡ kept
  pub stands : standing ≡ stands_at v
  pub unasked : answers ≡ []

-- what ended well
abbrev pub EndsAt : ℕ → CoreSeat → Doing → List Answer → Ending → CoreSeat → Type 0
EndsAt n (Runs w) doing answers (Steps outs standing) (Runs v) = StepsAt w v doing answers outs standing
EndsAt n (Rests kept) doing answers (Starts loaded standing) (Runs v) = StartsAt n kept loaded v doing answers standing
EndsAt n old doing answers ending new = ⊥

-- a crash leaves what is kept
abbrev pub CrashesAt : CoreSeat → CoreSeat → Type 0
CrashesAt (Runs w) (Rests kept) = kept ≡ kept_at w.raft w.snap.bytes
CrashesAt (Rests old) (Rests kept) = kept ≡ old
CrashesAt old (Runs v) = ⊥

abbrev pub TurnsAt : ℕ → CoreSeat → Turn → CoreSeat → Type 0
TurnsAt n old (Does k doing aim outcome) new = EndsAt n old doing outcome.answers outcome.ending new
TurnsAt n old (Crashes k pick) new = CrashesAt old new

-- All of a seat decides.
abbrev pub cell_nodes : Nodes
cell_nodes = record { Seat = CoreSeat; Core = CoreSeat; core = λ seat. seat; first = Rests nothing_kept; leads = TurnsAt }
