-- What can be sent: texts without a NUL, and rows of whole words.
use Rattle.std.specs.Prelude.{Option, Some, None}
use Rattle.std.specs.List.{AllByRecursion}
use Rattle.wire_msgs.specs.Responses.{IsWritable}
use Rattle.session_gateway.specs.declared.act.Act.{Act}
use Rattle.session_gateway.specs.declared.act.Act.TheVariants as acts
use Rattle.session_spec.specs.Sessions.{Reply, responses_of, Kind, Opening, Configuring, Writing, Committing, Querying, Flight}

-- each response of a reply can be written
abbrev pub CanSend : Reply → Type 0
CanSend reply = AllByRecursion IsWritable (responses_of reply)

abbrev pub KindCanSend : Kind → Type 0
KindCanSend Opening = Unit {0}
KindCanSend (Configuring short) = Unit {0}
KindCanSend (Writing reply) = CanSend reply
KindCanSend Committing = Unit {0}
KindCanSend (Querying statement) = Unit {0}

-- the reply that a proposal gets can be written
abbrev pub FlightCanSend : Option Flight → Type 0
FlightCanSend None = Unit {0}
FlightCanSend (Some f) = KindCanSend f.kind

-- what the gateway says for a connection can be sent
abbrev pub ActCanSend : Act → Type 0
ActCanSend (acts.Reply responses) = AllByRecursion IsWritable responses
ActCanSend (acts.Propose entries) = Unit {0}
ActCanSend (acts.Lend job) = Unit {0}
ActCanSend (acts.Transfer id) = Unit {0}
ActCanSend (acts.Peer id) = Unit {0}
