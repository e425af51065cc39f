-- Why a node is served no more.
use Rattle.node_core.specs.declared.fault.StartFault.{StartFault}
use Rattle.node_core.specs.declared.fault.StartFault.TheVariants as start
use Rattle.serve_traits.specs.declared.looping.LoopEnd.{LoopEnd}
use Rattle.serve_traits.specs.declared.looping.LoopEnd.TheVariants as loops
use Rattle.serve_node.specs.declared.fault.CrewFault.{CrewFault}
use Rattle.serve_node.specs.declared.fault.CrewFault.TheVariants as crew
use Rattle.serve_node.specs.declared.end.ServeEnd.{ServeEnd}
use Rattle.serve_node.specs.declared.end.ServeEnd.TheVariants as ends

-- the end by a fault of the start
abbrev pub end_of_start : StartFault → ServeEnd
end_of_start start.DiskFault = ends.DiskFault
end_of_start (start.Damaged fault) = ends.Files
end_of_start (start.Snapshot index) = ends.Files
end_of_start start.NoMemory = ends.NoMemory

-- the end by a fault of the workers
abbrev pub end_of_crew : CrewFault → ServeEnd
end_of_crew crew.Host = ends.HostFault
end_of_crew crew.NoMemory = ends.NoMemory

-- the end by that of the loop
abbrev pub end_of_loop : LoopEnd → ServeEnd
end_of_loop loops.Closed = ends.HostFault
end_of_loop loops.DiskFault = ends.DiskFault
end_of_loop (loops.Spent count) = ends.Spent
end_of_loop loops.NoMemory = ends.NoMemory
end_of_loop loops.Unfit = ends.Internal
