-- What comes of an event at a place, as the code has it.
use Rattle.std.specs.Prelude.{◌≡◌, Bool, true, Some, None, if◌then◌else◌}
use Rattle.file_digest.specs.Digest.{digest}
use Rattle.script_cluster.specs.declared.place.EventResult.{EventResult}
use Rattle.script_cluster.specs.declared.place.EventEnd.{EventEnd}
use Rattle.script_cluster.specs.declared.place.EventEnd.TheVariants as ended
use Rattle.script_grammar.specs.declared.faults.EventFault.{EventFault}
use Rattle.script_grammar.specs.declared.faults.EventFault.TheVariants as faults
use Rattle.script_cluster.specs.declared.place.PlaceFault.{PlaceFault}
use Rattle.script_cluster.specs.declared.place.PlaceFault.TheVariants as place
use Rattle.script_cluster.specs.declared.place.NodeEvent.{NodeEvent}
use Rattle.script_cluster.specs.declared.place.NodeEvent.TheVariants as event
use Rattle.script_cluster.specs.declared.place.NodeLine.{NodeLine}
use Rattle.script_cluster.specs.declared.place.Outs.{Outs as CodeOuts}
use Rattle.script_cluster.specs.Kinds.{role_of}
use Rattle.script_cluster.specs.Outcomes.{Outcome, Standing, Outs, Ending, Steps, Starts, Stops, Fails, Unreadable, Doing, Timeout, Beat, Connect, Bytes, Hangup, Receive}
use Rattle.script_cluster.specs.Seen.{answers_in}
use Rattle.script_cluster.specs.World.{Place, standing_so}

-- the fault that ends a script for one of a place
abbrev pub event_fault : PlaceFault → EventFault
event_fault place.NoMemory = faults.NoMemory
event_fault place.Internal = faults.Internal

abbrev pub doing_of : NodeEvent → Doing
doing_of event.Timeout = Timeout
doing_of event.Beat = Beat
doing_of (event.Connect conn) = Connect conn
doing_of (event.Bytes conn bytes) = Bytes conn bytes
doing_of (event.Hangup conn) = Hangup conn
doing_of (event.Peer message) = Receive message

abbrev pub outs_of : CodeOuts → Outs
outs_of outs = record { replies = outs.replies.items; closed = outs.closed.items; messages = outs.messages.items }

-- the line that shows how a node stands
abbrev pub line_of : Standing → NodeLine
line_of standing = record { term = standing.term; role = role_of standing.role; applied = standing.applied; digest = digest standing.databases }

-- no node runs there
abbrev pub down_place : Bool → Place
down_place failed = record { standing = None; failed = failed }

abbrev pub place_after_crash : Place → Place
place_after_crash place = down_place place.failed

-- how a place is after an event at it that ended so
abbrev pub place_after : Ending → Place → Place
place_after (Steps outs standing) place = standing_so standing
place_after (Starts kept standing) place = standing_so standing
place_after (Stops keeps) place = down_place true
place_after (Fails keeps) place = down_place true
place_after Unreadable place = place

-- This is how it ended. A start says what it has loaded where a call of the disk stopped or failed since the last one.
abbrev pub TellsEnding : Bool → EventEnd → Ending → Type 0
TellsEnding failed (ended.Stepped outs) (Steps told standing) = told ≡ outs_of outs
TellsEnding failed (ended.Started loaded) (Starts kept standing) = loaded ≡ (if failed then Some kept else None)
TellsEnding failed (ended.Stopped keeps) (Stops told) = told ≡ keeps
TellsEnding failed (ended.Failed keeps) (Fails told) = told ≡ keeps
TellsEnding failed ended.Unreadable Unreadable = Unit {0}
TellsEnding failed came ending = ⊥

-- An event at a place ended so, and it is as after that; with this outcome the turn leads on.
pub record Comes (old new : Place) (came : EventResult) (leads : Outcome → Type 0) : Type 0 where
  pub ending : Ending
  pub tells : TellsEnding old.failed came.ended ending
  pub stands : new ≡ place_after ending old
  pub on : leads (record { answers = answers_in came.answers; ending = ending })

-- an event at a node that runs is no start, and the other way round
abbrev pub IsStep : EventEnd → Type 0
IsStep (ended.Stepped outs) = Unit {0}
IsStep (ended.Started loaded) = ⊥
IsStep (ended.Stopped keeps) = Unit {0}
IsStep (ended.Failed keeps) = Unit {0}
IsStep ended.Unreadable = ⊥

abbrev pub IsStart : EventEnd → Type 0
IsStart (ended.Stepped outs) = ⊥
IsStart (ended.Started loaded) = Unit {0}
IsStart (ended.Stopped keeps) = Unit {0}
IsStart (ended.Failed keeps) = Unit {0}
IsStart ended.Unreadable = Unit {0}
