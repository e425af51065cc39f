-- A node that was started over a disk, and then served.
use Rattle.std.specs.Prelude.{◌≡◌, ℕ, Bool, false, List, map, Option, Ok}
use Rattle.disk_model.specs.Disk.{Disk, no_files}
use Rattle.disk_model.specs.Trait.{Text}
use Rattle.sql_engine.specs.declared.kind.EngineKind.{EngineKind}
use Rattle.sql_engine.specs.Meanings.{Meaning, Told}
use Rattle.store_laws.specs.Store.{Loaded}
use Rattle.segment_store.specs.Keeps.{folder}
use Rattle.segment_store.specs.Loading.{kept_in, IsSeen}
use Rattle.session_safety.specs.Lending.{no_jobs}
use Rattle.raft_spec.specs.Node.{Server}
use Rattle.raft_membership.specs.Members.{read_setup}
use Rattle.raft_safety.specs.Members.{Setup}
use Rattle.session_outcomes.specs.declared.job.Read.{Read}
use Rattle.serve_traits.specs.declared.looping.LoopEnd.{LoopEnd}
use Rattle.serve_traits.specs.Looping.{Taken}
use Rattle.node_spec.specs.Steps.{CompletesStart}
use Rattle.node_core.specs.declared.node.Node.{Node}
use Rattle.node_core.specs.Starting.{StartsOver}
use Rattle.node_core.specs.Values.{replica_of, node_of, kept_by, servers_told, has_links}
use Rattle.cluster_safety.specs.Runs.{nothing_kept}
use Rattle.serve_loop.specs.declared.step_report.StepReport.{StepReport}
use Rattle.serve_loop.specs.Bridge.{event_of}
use Rattle.serve_loop.specs.Serving.{RunsByRules}
use Rattle.serve_safety.specs.Paths.{outs_of, ServedSo}
use Rattle.serve_safety.specs.Alone.{Orderly, Served}

-- What was served over a disk that may have been this one: the node has what its files represented, and what it did is by the rules. Where
-- there were no files it had kept nothing; and if it has no peer connections too, and the events were orderly, it is the run of a node alone,
-- which is safe.
pub record ServedFrom (m : Meaning) (kind : EngineKind) (setup : Setup) (n : ℕ) (tells : Bool) (states : Disk Text → Type 0) (first : Disk Text)
    (node : Node) (told : Option Told) (before after : Taken Read) (said said_after : Option (List StepReport)) (end : LoopEnd) : Type 0 where
  pub reads : kept_in (folder first).read ≡ Loaded (kept_by node)
  pub by_rules : ServedSo m kind setup tells states node told before after said said_after end
  pub nothing : first ≡ no_files → kept_by node ≡ nothing_kept
  pub alone : first ≡ no_files → has_links node ≡ false → Orderly m kind no_jobs (map event_of by_rules.events) (map outs_of by_rules.outs) →
      Served m kind setup n (map outs_of by_rules.outs) by_rules.last.running

-- This holds if a node was started over a disk whose files may be read as a start reads them, and a loop has run.
abbrev pub StartServes : {D E : Type 0} → Bool → (D → Disk Text → Type 0) → (D → ℕ) → (EngineKind → Meaning) → (E → EngineKind) → (E → Option Told) → (E → ℕ) →
    Type 0
StartServes {D = D} {E = E} tells states faults meaning kind told refused =
    (opening : List Server) (n : ℕ) (node : Node) (first disk disk_after : D) (engine engine_after : E) (before after : Taken Read)
    (said said_after : Option (List StepReport)) (budget : ℕ) (end : LoopEnd) →
    StartsOver (states first) (states disk) (Ok node) → CompletesStart (read_setup opening) (kept_by node) (node_of node) (servers_told node) →
    (replica_of node).raft.id ≡ n →
    RunsByRules tells states faults meaning kind told refused node disk disk_after engine engine_after before after said said_after budget end →
    (d : Disk Text) → states first d → IsSeen (folder d) →
    ServedFrom (meaning (kind engine)) (kind engine) (read_setup opening) n tells (states disk_after) d node (told engine) before after said said_after end
