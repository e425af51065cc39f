-- The nodes of a script with their clients and messages, and what the events of a script do to them.
use Rattle.std.specs.Prelude.{◌==◌, ◌-◌, ◌+◌, ◌&&◌, ℕ, zero, suc, Bool, true, false, not}
use Rattle.std.specs.Prelude.{nat_le, List, [], ◌∷◌, ◌++◌, length, map, set, get_or, slice_get, slice_index, drop}
use Rattle.std.specs.Prelude.{is_some, Option, Some, None, Result, Ok, Err, if◌then◌else◌}
use Rattle.std.specs.List.{filter, sum_by}
use Rattle.std.specs.Option.{option_map}
use Rattle.client_connection.specs.declared.connection.CloseReason.{CloseReason}
use Rattle.client_connection.specs.Connection.{reason_number}
use Rattle.wire_words.specs.declared.message.Message.{Message}
use Rattle.raft_messages.specs.declared.message.RaftMessage.{RaftMessage}
use Rattle.raft_messages.specs.declared.fault.PeerFault.{PeerFault}
use Rattle.raft_messages.specs.Messages.{message_bytes}
use Rattle.raft_messages.specs.Reading.{peer_message_of}
use Rattle.file_digest.specs.Digest.{digest}
use Rattle.script_grammar.specs.declared.events.Event.{Event}
use Rattle.script_grammar.specs.declared.events.Event.TheVariants as event
use Rattle.script_grammar.specs.declared.grammar.FaultTarget.{FaultTarget}
use Rattle.script_grammar.specs.declared.grammar.FaultTarget.TheVariants.{Nothing}
use Rattle.script_grammar.specs.declared.usage.Usage.{Usage}
use Rattle.script_grammar.specs.Usage.{no_usage, with_event, with_messages}
use Rattle.script_cluster.specs.declared.cluster_line.ClusterLine.{ClusterLine}
use Rattle.script_cluster.specs.declared.cluster_line.ClusterLine.TheVariants as says
use Rattle.script_cluster.specs.declared.cluster_line.DownCause.TheVariants as causes
use Rattle.script_cluster.specs.Kinds.{kind_of, role_of}
use Rattle.script_cluster.specs.Outcomes.{Standing, Outs, Ending, Steps, Starts, Stops, Fails, Unreadable, Outcome, Doing, Timeout, Beat, Connect, Bytes}
use Rattle.script_cluster.specs.Outcomes.{Hangup, Receive, Start, Turn, Does, Crashes, Item, noted}

-- ---- what there is

-- the place of a node: how the node stands that runs there, if one does; and whether a call of its disk stopped or failed since the
-- last start that ended well
pub record Place : Type 0 where
  pub standing : Option Standing
  pub failed : Bool

-- a connection that was made: its number, its node, and whether it is open
pub record Link : Type 0 where
  pub conn : ℕ
  pub node : ℕ
  pub open_now : Bool

-- a message that was made: whom it is for, its bytes, and whether it has ever arrived
pub record Letter : Type 0 where
  pub to : ℕ
  pub bytes : List ℕ
  pub arrived : Bool

pub record World : Type 0 where
  -- how many of the nodes are the voters with which the cluster was opened: those with the lowest numbers
  pub voters : ℕ
  -- the places of the nodes, whose numbers are from 1
  pub places : List Place
  -- all connections that were ever made, ascending by their numbers
  pub links : List Link
  -- all messages that were made, in their order
  pub mail : List Letter
  -- how much of what a script may have was used
  pub usage : Usage
  -- what happened at nodes so far, and what is noted of it
  pub turns : List Turn
  pub journal : List Item
  -- what is to come of the next events at nodes
  pub outcomes : List Outcome
  -- what a node did at which events ended, as it says more bytes of messages than a script may make; it isn't in the run
  pub over : Option Turn

-- Why events end: one names what isn't there; one is one more, or makes more messages, than a script may have; or it isn't told
-- what came of it.
pub data Halt : Type 0 where
  NotThere : Halt
  TooMany : Halt
  Untold : Halt

-- if events led, what was said, and why they end, if they do
pub record Went : Type 0 where
  pub world : World
  pub said : List ClusterLine
  pub halt : Option Halt

abbrev pub quiet : World → Went
quiet w = record { world = w; said = []; halt = None }

abbrev pub halted : Halt → World → Went
halted why w = record { world = w; said = []; halt = Some why }

abbrev pub said_before : List ClusterLine → Went → Went
said_before said went = record { world = went.world; said = said ++ went.said; halt = went.halt }

-- it continues so, unless it ended
abbrev pub onward : (World → Went) → Went → Option Halt → Went
onward go went None = said_before went.said (go went.world)
onward go went (Some why) = went

abbrev pub then_on : (World → Went) → Went → Went
then_on go went = onward go went went.halt

-- ---- nodes

abbrev pub is_node : World → ℕ → Bool
is_node w n = nat_le 1 n && nat_le n (length w.places)

-- a place without a node, over a disk without files
abbrev pub empty_place : Place
empty_place = record { standing = None; failed = false }

abbrev pub place_at : World → ℕ → Place
place_at w n = get_or w.places (n - 1) empty_place

-- none runs by the number 0
abbrev pub is_up : World → ℕ → Bool
is_up w n = nat_le 1 n && is_some (place_at w n).standing

abbrev pub with_place : World → ℕ → Place → World
with_place w n place = record w { places = set w.places (n - 1) place }

-- ---- connections

abbrev pub is_known : List Link → ℕ → Bool
is_known [] c = false
is_known (link ∷ links) c = if link.conn == c then true else is_known links c

-- the node of an open connection
abbrev pub node_of : List Link → ℕ → Option ℕ
node_of [] c = None
node_of (link ∷ links) c = if link.conn == c then (if link.open_now then Some link.node else None) else node_of links c

-- a new connection, in its place by its number
abbrev pub with_link : Link → List Link → List Link
with_link new [] = new ∷ []
with_link new (link ∷ links) = if nat_le new.conn link.conn then new ∷ link ∷ links else link ∷ with_link new links

abbrev pub shut : Link → Link
shut link = record link { open_now = false }

-- a connection is closed
abbrev pub without : List Link → ℕ → List Link
without links c = map (λ (link : Link). if link.conn == c then shut link else link) links

abbrev pub is_open_at : ℕ → Link → Bool
is_open_at n link = (link.node == n) && link.open_now

-- the numbers of a node's open connections, ascending
abbrev pub open_at : List Link → ℕ → List ℕ
open_at links n = map (λ (link : Link). link.conn) (filter (is_open_at n) links)

-- these connections are closed
abbrev pub without_each : List Link → List ℕ → List Link
without_each links [] = links
without_each links (c ∷ conns) = without_each (without links c) conns

-- the open connections of a node are closed
abbrev pub without_node : List Link → ℕ → List Link
without_node links n = without_each links (open_at links n)

-- what is said of them: their node is down, which is the reason 4
abbrev pub closings : List Link → ℕ → List ClusterLine
closings links n = map (λ (c : ℕ). says.Closed c 4) (open_at links n)

-- ---- messages

-- the place of the first message that has never arrived
abbrev pub first_waiting : List Letter → Option ℕ
first_waiting [] = None
first_waiting (letter ∷ mail) = if letter.arrived then option_map (λ (place : ℕ). suc place) (first_waiting mail) else Some 0

-- the message at a place has arrived
abbrev pub arrived_at : List Letter → ℕ → List Letter
arrived_at [] place = []
arrived_at (letter ∷ mail) zero = record letter { arrived = true } ∷ mail
arrived_at (letter ∷ mail) (suc place) = letter ∷ arrived_at mail place

-- bytes as a message of the wire: the number of its type, its schema, and what follows the header
abbrev pub wire_message : List ℕ → Message
wire_message bytes = record { kind = slice_index bytes 4; schema = slice_index bytes 5; body = drop 8 bytes }

-- the message as it arrives: read from the bytes that it was written as
abbrev pub arriving : Letter → Result RaftMessage PeerFault
arriving letter = peer_message_of letter.to (wire_message letter.bytes)

-- a new message, which has not arrived
abbrev pub letter_of : RaftMessage → Letter
letter_of m = record { to = m.to; bytes = message_bytes m; arrived = false }

abbrev pub letters_of : List RaftMessage → List Letter
letters_of messages = map letter_of messages

-- how many bytes messages have, with their headers
abbrev pub bytes_in : List RaftMessage → ℕ
bytes_in messages = sum_by (λ (m : RaftMessage). length (message_bytes m)) messages

-- what is said of new messages, the first of which has this number
abbrev pub messages_said : ℕ → List RaftMessage → List ClusterLine
messages_said number [] = []
messages_said number (m ∷ messages) = says.Message number m.from m.to (kind_of m.what) ∷ messages_said (suc number) messages

-- ---- what comes of an event at a node

abbrev pub replies_said : List (ℕ × List ℕ) → List ClusterLine
replies_said replies = map (λ (reply : ℕ × List ℕ). says.Reply reply.0 reply.1) replies

abbrev pub closed_said : List (ℕ × CloseReason) → List ClusterLine
closed_said closed = map (λ (one : ℕ × CloseReason). says.Closed one.0 (reason_number one.1)) closed

abbrev pub without_all : List Link → List (ℕ × CloseReason) → List Link
without_all links [] = links
without_all links (one ∷ closed) = without_all (without links one.0) closed

-- the node is so, and has no failed call after it
abbrev pub standing_so : Standing → Place
standing_so standing = record { standing = Some standing; failed = false }

-- A step ended well: replies first, then what is closed, then messages. With more bytes of messages than a script may make it isn't in
-- the run.
abbrev pub after_step : ℕ → Outs → Standing → World → Option Usage → Went
after_step n outs standing w None = halted TooMany w
after_step n outs standing w (Some usage) = record {
  world = record w {
    places = set w.places (n - 1) (standing_so standing);
    links = without_all w.links outs.closed;
    mail = w.mail ++ letters_of outs.messages;
    usage = usage;
  };
  said = replies_said outs.replies ++ (closed_said outs.closed ++ messages_said (suc (length w.mail)) outs.messages);
  halt = None;
}

-- a node is down: its connections close
abbrev pub fallen : World → ℕ → Bool → World
fallen w n failed = record w { places = set w.places (n - 1) (record { standing = None; failed = failed }); links = without_node w.links n }

-- this holds if its disk stops or a call fails, and this is said after what closes
abbrev pub after_fall : ℕ → ClusterLine → World → Went
after_fall n say w = record { world = fallen w n true; said = closings w.links n ++ say ∷ []; halt = None }

abbrev pub after_ending : ℕ → Ending → World → Went
after_ending n (Steps outs standing) w = after_step n outs standing w (with_messages w.usage (bytes_in outs.messages))
after_ending n (Starts kept standing) w = quiet (with_place w n (standing_so standing))
after_ending n (Stops keeps) w = after_fall n (says.Stopped n) w
after_ending n (Fails keeps) w = after_fall n (says.Down n causes.DiskFault) w
after_ending n Unreadable w = record { world = w; said = says.Down n causes.Unreadable ∷ []; halt = None }

-- the event is noted, among what happened and in the journal
abbrev pub with_turn : World → ℕ → Doing → FaultTarget → Outcome → List Outcome → World
with_turn w n doing aim outcome left = record w {
  turns = w.turns ++ Does n doing aim outcome ∷ [];
  journal = w.journal ++ noted aim (place_at w n).failed outcome;
  outcomes = left;
}

-- what ended so is in the run, unless it has too many bytes of messages
abbrev pub unless_many : World → Went → Option Halt → Went
unless_many w went None = went
unless_many w went (Some why) = halted why w

abbrev pub asked_so : World → Went → Went
asked_so w went = unless_many w went went.halt

-- a node is asked to do something, of which comes what is reported next
abbrev pub asked : ℕ → Doing → FaultTarget → World → List Outcome → Went
asked n doing aim w [] = halted Untold w
asked n doing aim w (outcome ∷ left) =
    asked_so (record w { over = Some (Does n doing aim outcome) }) (after_ending n outcome.ending (with_turn w n doing aim outcome left))

-- a node that runs is asked; at one that is down nothing happens
abbrev pub at_node : ℕ → Doing → FaultTarget → World → Went
at_node n doing aim w = if is_up w n then asked n doing aim w w.outcomes else quiet w

-- ---- events

-- a client opens a connection, which closes at once where the node is down
abbrev pub connects : ℕ → ℕ → World → Went
connects n c w =
    let v = record w { links = with_link (record { conn = c; node = n; open_now = is_up w n }) w.links } in
    if is_up w n then asked n (Connect c) Nothing v v.outcomes else record { world = v; said = says.Closed c 4 ∷ []; halt = None }

-- what comes on a connection; on a closed one nothing happens
abbrev pub on_link : Doing → FaultTarget → World → Option ℕ → Went
on_link doing aim w None = quiet w
on_link doing aim w (Some n) = at_node n doing aim w

-- a client ends its connection
abbrev pub hangs_up : ℕ → FaultTarget → World → Went
hangs_up c aim w = on_link (Hangup c) aim (record w { links = without w.links c }) (node_of w.links c)

-- A message arrives. At a node that isn't there or is down nothing happens, nor by one with a number out of its range.
abbrev pub arrives : FaultTarget → World → Result RaftMessage PeerFault → Went
arrives aim w (Err fault) = quiet w
arrives aim w (Ok m) = if is_node w m.to then at_node m.to (Receive m) aim w else quiet w

abbrev pub delivered : FaultTarget → World → ℕ → Option Letter → Went
delivered aim w place None = quiet w
delivered aim w place (Some letter) = arrives aim (record w { mail = arrived_at w.mail place }) (arriving letter)

abbrev pub delivers : ℕ → FaultTarget → World → Went
delivers place aim w = delivered aim w place (slice_get w.mail place)

-- a node that runs crashes, and its disk takes the outcome of a pick
abbrev pub crashes : ℕ → ℕ → World → Went
crashes n pick w =
    if is_up w n
    then record { world = record (fallen w n (place_at w n).failed) { turns = w.turns ++ Crashes n pick ∷ [] }; said = closings w.links n; halt = None }
    else quiet w

-- a node that is down starts
abbrev pub starts : ℕ → FaultTarget → World → Went
starts n aim w = if is_up w n then quiet w else asked n (Start w.voters) aim w w.outcomes

-- one event more, if there may be one
abbrev pub counted_so : (World → Went) → World → Option Usage → Went
counted_so go w None = halted TooMany w
counted_so go w (Some usage) = go (record w { usage = usage })

abbrev pub counted : (World → Went) → World → Went
counted go w = counted_so go w (with_event w.usage)

-- the first message that has never arrived does, and so on
abbrev pub settled_so : (World → Went) → World → Option ℕ → Went
settled_so go w None = quiet w
settled_so go w (Some place) = then_on go (counted (delivers place Nothing) w)

-- again and again, until none is left or this many did
abbrev pub settles : ℕ → World → Went
settles zero w = quiet w
settles (suc count) w = settled_so (settles count) w (first_waiting w.mail)

-- what an event names is there
abbrev pub exists : World → Event → Bool
exists w (event.Timeout n) = is_node w n
exists w (event.Beat n) = is_node w n
exists w (event.Connect n c) = is_node w n && not (is_known w.links c)
exists w (event.Bytes c bytes) = is_known w.links c
exists w (event.Hangup c) = is_known w.links c
exists w (event.Deliver m) = nat_le 1 m && nat_le m (length w.mail)
exists w (event.Settle count) = true
exists w (event.Crash n pick) = is_node w n
exists w (event.Start n) = is_node w n
exists w (event.Put bytes) = false
exists w (event.Take machine) = false

-- what an event does, while a line aims at a call of its node's disk
unfoldable pub happens : World → Event → FaultTarget → Went
happens w (event.Timeout n) aim = counted (at_node n Timeout aim) w
happens w (event.Beat n) aim = counted (at_node n Beat aim) w
happens w (event.Connect n c) aim = counted (connects n c) w
happens w (event.Bytes c bytes) aim = counted (λ (v : World). on_link (Bytes c bytes) aim v (node_of v.links c)) w
happens w (event.Hangup c) aim = counted (hangs_up c aim) w
happens w (event.Deliver m) aim = counted (delivers (m - 1) aim) w
happens w (event.Settle count) aim = settles count w
happens w (event.Crash n pick) aim = counted (crashes n pick) w
happens w (event.Start n) aim = counted (starts n aim) w
happens w (event.Put bytes) aim = halted NotThere w
happens w (event.Take machine) aim = halted NotThere w

-- the world after an event of a script
abbrev pub takes : World → Event → FaultTarget → Went
takes w e aim = if exists w e then happens w e aim else halted NotThere w

-- ---- the mode line

abbrev pub empty_places : ℕ → List Place
empty_places zero = []
empty_places (suc count) = empty_place ∷ empty_places count

-- this many voters' places and further ones, without a node, and what is to come of the events
abbrev pub empty_world : ℕ → ℕ → List Outcome → World
empty_world voters spare outcomes = record {
  voters = voters;
  places = empty_places (voters + spare);
  links = [];
  mail = [];
  usage = no_usage;
  turns = [];
  journal = [];
  outcomes = outcomes;
  over = None;
}

-- nodes are started one after another, this many, the first of which has this number
abbrev pub all_start : ℕ → ℕ → World → Went
all_start zero n w = quiet w
all_start (suc count) n w = then_on (all_start count (suc n)) (starts n Nothing w)

-- this many voters and further nodes, all started, which is no event
unfoldable pub opened : ℕ → ℕ → List Outcome → Went
opened voters spare outcomes = all_start (voters + spare) 1 (empty_world voters spare outcomes)

-- ---- what is shown

abbrev pub shown_so : ℕ → Option Standing → ClusterLine
shown_so n None = says.NodeDown n
shown_so n (Some standing) = says.Node n standing.term (role_of standing.role) standing.applied (digest standing.databases)

-- how the node of a number stands, if it is there
abbrev pub shown : World → ℕ → Option ClusterLine
shown w n = if is_node w n then Some (shown_so n (place_at w n).standing) else None

abbrev pub all_shown_from : ℕ → List Place → List ClusterLine
all_shown_from n [] = []
all_shown_from n (place ∷ places) = shown_so n place.standing ∷ all_shown_from (suc n) places

-- how all nodes stand, by their numbers
abbrev pub all_shown : World → List ClusterLine
all_shown w = all_shown_from 1 w.places
