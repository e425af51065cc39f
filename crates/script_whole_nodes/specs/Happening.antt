-- What happens at a node that is at a place.
use Rattle.node_core.specs.declared.event.Event.{Event}
use Rattle.node_core.specs.declared.event.Event.TheVariants as core
use Rattle.script_cluster.specs.declared.place.NodeEvent.{NodeEvent}
use Rattle.script_cluster.specs.declared.place.NodeEvent.TheVariants as event

-- what happens at a node, as the node takes it
abbrev pub core_event : NodeEvent → Event
core_event event.Timeout = core.Timeout
core_event event.Beat = core.Beat
core_event (event.Connect conn) = core.Connect conn
core_event (event.Bytes conn bytes) = core.Bytes conn bytes
core_event (event.Hangup conn) = core.Hangup conn
core_event (event.Peer message) = core.Peer message
