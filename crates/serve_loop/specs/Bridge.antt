-- What a loop's core and a node name differently.
use Rattle.session_outcomes.specs.declared.job.Read.{Read}
use Rattle.serve_traits.specs.declared.event.Event.{Event as LoopEvent}
use Rattle.serve_traits.specs.declared.event.Event.TheVariants as loops
use Rattle.serve_traits.specs.declared.stepping.StepFault.{StepFault}
use Rattle.serve_traits.specs.declared.stepping.StepFault.TheVariants as step
use Rattle.node_core.specs.declared.event.Event.{Event}
use Rattle.node_core.specs.declared.event.Event.TheVariants as happens
use Rattle.node_core.specs.declared.fault.NodeFault.{NodeFault}
use Rattle.node_core.specs.declared.fault.NodeFault.TheVariants as node

-- what happens at a node, for an event of its loop
abbrev pub event_of : LoopEvent Read → Event
event_of loops.Timeout = happens.Timeout
event_of loops.Beat = happens.Beat
event_of loops.Yield = happens.Yield
event_of (loops.Connect conn) = happens.Connect conn
event_of (loops.Bytes conn bytes) = happens.Bytes conn bytes
event_of (loops.Hangup conn) = happens.Hangup conn
event_of (loops.Peer message) = happens.Peer message
event_of (loops.ReadDone conn read) = happens.ReadDone conn read

-- the fault of a step, for that of a node; of one that was down there is none
abbrev pub fault_of : NodeFault → StepFault
fault_of node.DiskFault = step.DiskFault
fault_of node.NoMemory = step.NoMemory
fault_of node.Unfit = step.Unfit
fault_of node.Down = step.NoMemory
