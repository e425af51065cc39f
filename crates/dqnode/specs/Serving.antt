-- How the program ends where a node is served.
use Rattle.std.specs.Prelude.{◌≡◌, ℕ, Bool, [], None}
use Rattle.disk_model.specs.Disk.{Disk}
use Rattle.disk_model.specs.Trait.{Text}
use Rattle.session_outcomes.specs.declared.job.Read.{Read}
use Rattle.sqlite_engine.specs.declared.any.AnyEngine.{AnyEngine}
use Rattle.sqlite_engine.specs.Any.{any_meaning, any_kind, any_refused, any_known}
use Rattle.arguments.specs.declared.invocation.Serve.{Serve}
use Rattle.serve_traits.specs.Looping.{Taken}
use Rattle.serve_threads.specs.declared.host_counts.HostCounts.{HostCounts}
use Rattle.serve_loop.specs.Serving.{RunsByRules}
use Rattle.serve_node.specs.declared.end.ServeEnd.{ServeEnd}
use Rattle.serve_node.specs.declared.end.ServeEnd.TheVariants as ends
use Rattle.serve_node.specs.Rules.{IsRunOfRules}
use Rattle.serve_node.specs.Serving.{Serves}
use Rattle.dqnode.specs.declared.status.Status.{Status}
use Rattle.dqnode.specs.declared.status.Status.TheVariants as status
use Rattle.dqnode.specs.Status.{status_code}

-- the status for the end of a served node
abbrev pub serve_status : ServeEnd → Status
serve_status ends.Files = status.Files
serve_status ends.DiskFault = status.DiskFault
serve_status ends.HostFault = status.HostFault
serve_status ends.NoMemory = status.NoMemory
serve_status ends.Internal = status.Internal
serve_status ends.Spent = status.Spent

-- By an engine of the kind that the arguments name, which knew no image, the node was served over this disk, with the events of this host,
-- and ended as this status says. What was served is a run of the rules.
pub record WasServed {D H : Type 0} (tells : Bool) (states : D → Disk Text → Type 0) (faults : D → ℕ) (done : H → HostCounts) (served : Serve)
    (host : H) (disk disk_after : D) (events events_after : Taken Read) (code : ℕ) : Type 0 where
  pub engine : AnyEngine
  pub engine_after : AnyEngine
  pub kind_is : any_kind engine ≡ served.engine
  pub is_new : any_known engine ≡ []
  pub end : ServeEnd
  pub code_is : code ≡ status_code (serve_status end)
  pub serves : Serves served done states (λ started node. RunsByRules tells states faults any_meaning any_kind (λ known. None) any_refused node started disk_after
      engine engine_after events events_after None None served.events) host (record { disk = disk; engine = engine; events = events })
      (record { disk = disk_after; engine = engine_after; events = events_after }) end
  pub by_rules : IsRunOfRules (any_meaning served.engine) served.engine None served tells (states disk) (states disk_after) events events_after end

-- there was not enough memory to read the arguments, and nothing was done
pub record NotServed {D H : Type 0} (disk disk_after : D) (host host_after : H) (code : ℕ) : Type 0 where
  pub code_is : code ≡ 7
  pub disk_is : disk_after ≡ disk
  pub host_is : host_after ≡ host
