-- The steps of a node that was served, by the rules.
use Rattle.std.specs.Prelude.{◌≡◌, ℕ, Bool, List, [], ◌∷◌, ◌++◌, map, Option}
use Rattle.disk_model.specs.Disk.{Disk}
use Rattle.disk_model.specs.Trait.{Text}
use Rattle.sql_engine.specs.declared.kind.EngineKind.{EngineKind}
use Rattle.sql_engine.specs.Meanings.{Meaning, Told}
use Rattle.raft_spec.specs.Node.{Server}
use Rattle.raft_membership.specs.Members.{read_setup}
use Rattle.raft_safety.specs.Members.{Setup}
use Rattle.session_outcomes.specs.declared.job.Read.{Read}
use Rattle.serve_traits.specs.declared.event.Event.{Event}
use Rattle.serve_traits.specs.declared.looping.LoopEnd.{LoopEnd}
use Rattle.serve_traits.specs.declared.looping.LoopEnd.TheVariants.{Closed, DiskFault, Spent, NoMemory, Unfit}
use Rattle.serve_traits.specs.Looping.{Taken, Took}
use Rattle.serve_traits.specs.Told.{Gains}
use Rattle.raft_on_disk.specs.Replicas.{IsKept}
use Rattle.node_core.specs.declared.event.Event as core
use Rattle.node_core.specs.declared.node.Node.{Node}
use Rattle.node_core.specs.declared.outs.StepOutputs.{StepOutputs}
use Rattle.node_core.specs.declared.running.Running.{Running}
use Rattle.node_core.specs.Account.{AccountsForStep, AccountsForStop}
use Rattle.node_core.specs.Finding.{Finds}
use Rattle.node_core.specs.Values.{replica_of}
use Rattle.serve_loop.specs.declared.step_report.StepReport.{StepReport}
use Rattle.serve_loop.specs.Bridge.{event_of}
use Rattle.serve_loop.specs.Serving.{RunsByRules}

-- A node made one step by the rules for each of these events, in order, and said this at each; its engine gave the answers that they use.
abbrev pub PathSo : Meaning → EngineKind → Setup → Running → Option Told → List core.Event → List StepOutputs → Running → Option Told → Type 0
PathSo m kind setup old before [] [] new after = (new ≡ old) × (after ≡ before)
PathSo m kind setup old before [] (outs ∷ more) new after = ⊥
PathSo m kind setup old before (event ∷ events) [] new after = ⊥
PathSo m kind setup old before (event ∷ events) (outs ∷ more) new after =
    (mid : Running) × (told : Option Told) × AccountsForStep m kind setup old mid event outs before told × PathSo m kind setup mid told events more new after

abbrev pub outs_of : StepReport → StepOutputs
outs_of said = said.outs

-- An event more was taken, and its step failed: a load finds what the acts of the rules left.
pub record Failed (m : Meaning) (kind : EngineKind) (setup : Setup) (tells : Bool) (states : Disk Text → Type 0) (last : Node) (before after : Taken Read)
    (events : List (Event Read)) : Type 0 where
  pub event : Event Read
  pub took : Took before after (events ++ event ∷ [])
  pub finds : Finds tells states (AccountsForStop m kind setup last.running (event_of event))

-- How it ended: no other event was taken, and the disk keeps what Raft is; or the step of one more failed.
abbrev pub EndsSo : Meaning → EngineKind → Setup → Bool → (Disk Text → Type 0) → Node → Taken Read → Taken Read → List (Event Read) → LoopEnd → Type 0
EndsSo m kind setup tells states last before after events Closed = Took before after events × IsKept tells states (replica_of last)
EndsSo m kind setup tells states last before after events (Spent count) = Took before after events × IsKept tells states (replica_of last)
EndsSo m kind setup tells states last before after events DiskFault = Failed m kind setup tells states last before after events
EndsSo m kind setup tells states last before after events NoMemory = Failed m kind setup tells states last before after events
EndsSo m kind setup tells states last before after events Unfit = Failed m kind setup tells states last before after events

-- A node was served from here on: it made steps by the rules for the events that were taken, what they say was put, and this is left.
pub record ServedSo (m : Meaning) (kind : EngineKind) (setup : Setup) (tells : Bool) (states : Disk Text → Type 0) (node : Node) (told : Option Told)
    (before after : Taken Read) (said said_after : Option (List StepReport)) (end : LoopEnd) : Type 0 where
  pub events : List (Event Read)
  pub outs : List StepReport
  pub last : Node
  pub told_last : Option Told
  pub path : PathSo m kind setup node.running told (map event_of events) (map outs_of outs) last.running told_last
  pub puts : Gains said said_after outs
  pub ends : EndsSo m kind setup tells states last before after events end

-- This holds if a loop has run over a disk that kept what Raft was.
abbrev pub ServesByRules : {D E : Type 0} → Bool → (D → Disk Text → Type 0) → (D → ℕ) → (EngineKind → Meaning) → (E → EngineKind) →
    (E → Option Told) → (E → ℕ) → Type 0
ServesByRules {D = D} {E = E} tells states faults meaning kind told refused =
    (opening : List Server) (node : Node) (disk disk_after : D) (engine engine_after : E) (before after : Taken Read) (said said_after : Option (List StepReport))
    (budget : ℕ) (end : LoopEnd) →
    RunsByRules tells states faults meaning kind told refused node disk disk_after engine engine_after before after said said_after budget end →
    IsKept tells (states disk) (replica_of node) →
    ServedSo (meaning (kind engine)) (kind engine) (read_setup opening) tells (states disk_after) node (told engine) before after said said_after end
