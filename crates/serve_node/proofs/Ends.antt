-- How a served node ends, by the answer of its start, of its workers and of its loop.
use Rattle.std.proofs.Common.{◌≡◌, ◌≢◌, ◌+◌, ◌⊎◌, inl, inr, ℕ, Bool, List, length, Option, None, refl, sym, subst, ◌∙◌, arith}
use Rattle.disk_model.specs.Disk.{Disk}
use Rattle.disk_model.specs.Trait.{Text}
use Rattle.sql_engine.specs.declared.kind.EngineKind.{EngineKind}
use Rattle.sql_engine.specs.Meanings.{Meaning, Told}
use Rattle.session_outcomes.specs.declared.job.Read.{Read}
use Rattle.serve_traits.specs.declared.event.Event.{Event}
use Rattle.serve_traits.specs.declared.looping.LoopEnd.{LoopEnd}
use Rattle.serve_traits.specs.declared.looping.LoopEnd.TheVariants as loops
use Rattle.serve_traits.specs.Looping.{Taken}
use Rattle.node_core.specs.declared.node.Node.{Node}
use Rattle.node_core.specs.declared.fault.StartFault.{StartFault}
use Rattle.node_core.specs.declared.fault.StartFault.TheVariants as start
use Rattle.serve_loop.specs.Serving.{RunsByRules}
use Rattle.serve_node.specs.declared.fault.CrewFault.{CrewFault}
use Rattle.serve_node.specs.declared.fault.CrewFault.TheVariants as crew
use Rattle.serve_node.specs.declared.end.ServeEnd.{ServeEnd}
use Rattle.serve_node.specs.declared.end.ServeEnd.TheVariants as ends
use Rattle.serve_node.specs.Ending.{end_of_start, end_of_crew, end_of_loop}

-- ---- workers

pub crew_ends : (f : CrewFault) (end : ServeEnd) → end ≡ end_of_crew f → (end ≡ ends.HostFault) ⊎ (end ≡ ends.NoMemory)
crew_ends crew.Host end e = inl e
crew_ends crew.NoMemory end e = inr e

pub crew_no_files : (f : CrewFault) (end : ServeEnd) → end ≡ end_of_crew f → end ≢ ends.Files
crew_no_files crew.Host end e files = let bad : ends.HostFault ≡ ends.Files = sym e ∙ files in cc
crew_no_files crew.NoMemory end e files = let bad : ends.NoMemory ≡ ends.Files = sym e ∙ files in cc

pub crew_no_disk : {P : Type 0} (f : CrewFault) (end : ServeEnd) → end ≡ end_of_crew f → end ≡ ends.DiskFault → P
crew_no_disk crew.Host end e disk = let bad : ends.HostFault ≡ ends.DiskFault = sym e ∙ disk in absurd cc
crew_no_disk crew.NoMemory end e disk = let bad : ends.NoMemory ≡ ends.DiskFault = sym e ∙ disk in absurd cc

pub crew_not_spent : {P : Type 0} (f : CrewFault) (end : ServeEnd) → end ≡ end_of_crew f → end ≡ ends.Spent → P
crew_not_spent crew.Host end e spent = let bad : ends.HostFault ≡ ends.Spent = sym e ∙ spent in absurd cc
crew_not_spent crew.NoMemory end e spent = let bad : ends.NoMemory ≡ ends.Spent = sym e ∙ spent in absurd cc

pub crew_host : (f : CrewFault) (end : ServeEnd) → end ≡ end_of_crew f → end ≡ ends.HostFault → f ≡ crew.Host
crew_host crew.Host end e host = refl
crew_host crew.NoMemory end e host = let bad : ends.NoMemory ≡ ends.HostFault = sym e ∙ host in absurd cc

-- ---- the loop

pub loop_no_files : (l : LoopEnd) (end : ServeEnd) → end ≡ end_of_loop l → end ≢ ends.Files
loop_no_files loops.Closed end e files = let bad : ends.HostFault ≡ ends.Files = sym e ∙ files in cc
loop_no_files loops.DiskFault end e files = let bad : ends.DiskFault ≡ ends.Files = sym e ∙ files in cc
loop_no_files (loops.Spent count) end e files = let bad : ends.Spent ≡ ends.Files = sym e ∙ files in cc
loop_no_files loops.NoMemory end e files = let bad : ends.NoMemory ≡ ends.Files = sym e ∙ files in cc
loop_no_files loops.Unfit end e files = let bad : ends.Internal ≡ ends.Files = sym e ∙ files in cc

pub loop_disk : (l : LoopEnd) (end : ServeEnd) → end ≡ end_of_loop l → end ≡ ends.DiskFault → l ≡ loops.DiskFault
loop_disk loops.Closed end e disk = let bad : ends.HostFault ≡ ends.DiskFault = sym e ∙ disk in absurd cc
loop_disk loops.DiskFault end e disk = refl
loop_disk (loops.Spent count) end e disk = let bad : ends.Spent ≡ ends.DiskFault = sym e ∙ disk in absurd cc
loop_disk loops.NoMemory end e disk = let bad : ends.NoMemory ≡ ends.DiskFault = sym e ∙ disk in absurd cc
loop_disk loops.Unfit end e disk = let bad : ends.Internal ≡ ends.DiskFault = sym e ∙ disk in absurd cc

pub loop_host : (l : LoopEnd) (end : ServeEnd) → end ≡ end_of_loop l → end ≡ ends.HostFault → l ≡ loops.Closed
loop_host loops.Closed end e host = refl
loop_host loops.DiskFault end e host = let bad : ends.DiskFault ≡ ends.HostFault = sym e ∙ host in absurd cc
loop_host (loops.Spent count) end e host = let bad : ends.Spent ≡ ends.HostFault = sym e ∙ host in absurd cc
loop_host loops.NoMemory end e host = let bad : ends.NoMemory ≡ ends.HostFault = sym e ∙ host in absurd cc
loop_host loops.Unfit end e host = let bad : ends.Internal ≡ ends.HostFault = sym e ∙ host in absurd cc

-- as many events as the budget says
pub loop_spent : {D E : Type 0} (tells : Bool) (states : D → Disk Text → Type 0) (faults : D → ℕ) (meaning : EngineKind → Meaning) (kind : E → EngineKind) (told : E → Option Told) (refused : E → ℕ)
    (node : Node) (disk disk_after : D) (engine engine_after : E) (before after : Taken Read) (budget : ℕ) (l : LoopEnd) (end : ServeEnd)
    → RunsByRules tells states faults meaning kind told refused node disk disk_after engine engine_after before after None None budget l
    → end ≡ end_of_loop l → end ≡ ends.Spent → after.count ≡ before.count + budget
loop_spent tells states faults meaning kind told refused node disk disk_after engine engine_after before after budget loops.Closed end h e spent =
    let bad : ends.HostFault ≡ ends.Spent = sym e ∙ spent in absurd cc
loop_spent tells states faults meaning kind told refused node disk disk_after engine engine_after before after budget loops.DiskFault end h e spent =
    let bad : ends.DiskFault ≡ ends.Spent = sym e ∙ spent in absurd cc
loop_spent tells states faults meaning kind told refused node disk disk_after engine engine_after before after budget loops.NoMemory end h e spent =
    let bad : ends.NoMemory ≡ ends.Spent = sym e ∙ spent in absurd cc
loop_spent tells states faults meaning kind told refused node disk disk_after engine engine_after before after budget loops.Unfit end h e spent =
    let bad : ends.Internal ≡ ends.Spent = sym e ∙ spent in absurd cc
loop_spent tells states faults meaning kind told refused node disk disk_after engine engine_after before after budget (loops.Spent count) end h e spent =
    let taken : after.count ≡ before.count + length h.loops.events = h.loops.ends.0.count in
    let all : length h.loops.events ≡ budget = h.loops.ends.3 in
    omega arith

-- what ran from the events at which all workers began, began with those from before
pub from_begun : (runs : Option (List (Event Read)) → ℕ → Type 0) (left begun_left : Option (List (Event Read))) (count begun_count : ℕ)
    → begun_left ≡ left → begun_count ≡ count → runs begun_left begun_count → runs left count
from_begun runs left begun_left count begun_count same_left same_count h = subst (λ l. runs l count) same_left (subst (λ n. runs begun_left n) same_count h)

-- ---- the start

pub start_no_host : {P : Type 0} (f : StartFault) (end : ServeEnd) → end ≡ end_of_start f → end ≡ ends.HostFault → P
start_no_host start.DiskFault end e host = let bad : ends.DiskFault ≡ ends.HostFault = sym e ∙ host in absurd cc
start_no_host (start.Damaged fault) end e host = let bad : ends.Files ≡ ends.HostFault = sym e ∙ host in absurd cc
start_no_host (start.Snapshot index) end e host = let bad : ends.Files ≡ ends.HostFault = sym e ∙ host in absurd cc
start_no_host start.NoMemory end e host = let bad : ends.NoMemory ≡ ends.HostFault = sym e ∙ host in absurd cc

pub start_not_spent : {P : Type 0} (f : StartFault) (end : ServeEnd) → end ≡ end_of_start f → end ≡ ends.Spent → P
start_not_spent start.DiskFault end e spent = let bad : ends.DiskFault ≡ ends.Spent = sym e ∙ spent in absurd cc
start_not_spent (start.Damaged fault) end e spent = let bad : ends.Files ≡ ends.Spent = sym e ∙ spent in absurd cc
start_not_spent (start.Snapshot index) end e spent = let bad : ends.Files ≡ ends.Spent = sym e ∙ spent in absurd cc
start_not_spent start.NoMemory end e spent = let bad : ends.NoMemory ≡ ends.Spent = sym e ∙ spent in absurd cc

pub start_disk : (f : StartFault) (end : ServeEnd) → end ≡ end_of_start f → end ≡ ends.DiskFault → f ≡ start.DiskFault
start_disk start.DiskFault end e disk = refl
start_disk (start.Damaged fault) end e disk = let bad : ends.Files ≡ ends.DiskFault = sym e ∙ disk in absurd cc
start_disk (start.Snapshot index) end e disk = let bad : ends.Files ≡ ends.DiskFault = sym e ∙ disk in absurd cc
start_disk start.NoMemory end e disk = let bad : ends.NoMemory ≡ ends.DiskFault = sym e ∙ disk in absurd cc
