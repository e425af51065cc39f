-- What a request asks for, once it has passed the refusals that come before the engine, in their order.
use Rattle.std.specs.Prelude.{ℕ, ◌/◌, ◌%◌, ◌^◌, Bool, true, false, not, ◌&&◌, ◌||◌, ◌==◌, nat_lt, nat_le, List, [], ◌∷◌, ◌++◌, length, map, codes, Option, Some, None, Result, Ok, Err, if◌then◌else◌}
use Rattle.dq_base.specs.declared.images.Image.{Image}
use Rattle.wire_words.specs.declared.value.Value.{Value}
use Rattle.wire_msgs.specs.declared.request.Request.{Request}
use Rattle.wire_msgs.specs.declared.request.Request.TheVariants as requests
use Rattle.wire_msgs.specs.declared.response.Response.{Response}
use Rattle.wire_msgs.specs.declared.response.Response.TheVariants as responses
use Rattle.wire_msgs.specs.declared.response.NodeInfo.{NodeInfo}
use Rattle.wire_msgs.specs.Fields.{body_bytes}
use Rattle.wire_msgs.specs.Responses.{response_line}
use Rattle.sql_scan.specs.declared.pieces.StatementSpan.{StatementSpan}
use Rattle.sql_scan.specs.declared.fault.ScanFault.{ScanFault}
use Rattle.sql_scan.specs.declared.heading.WordKind.{WordKind}
use Rattle.sql_scan.specs.declared.heading.WordKind.TheVariants as words
use Rattle.sql_scan.specs.Statements.{scan_of}
use Rattle.sql_engine.specs.Replies.{Statement}
use Rattle.raft_spec.specs.Node.{Server, among, voters}
use Rattle.session_spec.specs.Causes.{Cause, NotLeader, DatabaseOpen, ChangeInFlight, NoDatabase, NoStatement, NotAllowed, OneStatementWanted, WrongParameters, InTransaction, NoTransaction, BadName, BadNode, BadRole, BadFormat, TargetBehind, TransferFirst, TooManyVoters, TooManyStatements, TooManyDatabases, LogFull, AnswerTooBig, scan_cause, failure}
use Rattle.session_spec.specs.Machine.{Machine, is_named}
use Rattle.session_spec.specs.Sessions.{Prepared, Session, Gateway, View, Effect, HandsOver, JoinsPeer, Weighs, in_tx}
use Rattle.session_spec.specs.Servers.{has_server, has_address, is_spare, server_of, with_server, with_role, without_server}
use Rattle.session_spec.specs.Statements.{prepared_from, any_barred, is_left_out, is_write_word, any_write, wrong_params, with_params, with_all, prepared_at, prepared_count}
use Rattle.session_spec.specs.Limits.{change_in_flight, one_too_many, log_full, write_hindrance}

-- What is asked for: nothing, as it is refused; a response, and nothing else; an effect outside the sessions; a database
-- that is there, or a new one (with barrier reads or without); a statement to be prepared, with the place of the rest of its text if that is reported, or to be
-- let go; a lost transaction to end, with a response; a transaction to begin (at once with the write lock, or not) or to end; other servers of the
-- cluster, with whether a server falls short of what it was to be; statements to run, or one whose rows are reported.
pub data Asked : Type 0 where
  Never : (cause : Cause) → Asked
  Tells : (response : Response) → Asked
  Sets : (effect : Effect) → Asked
  Opens : (name : List ℕ) (barriers : Bool) → Asked
  Creates : (name : List ℕ) (barriers : Bool) → Asked
  Prepares : (prepared : Prepared) (tail : Option ℕ) → Asked
  Drops : (id : ℕ) → Asked
  Forgets : (response : Response) → Asked
  Begins : (at_once : Bool) → Asked
  Commits : Asked
  RollsBack : Asked
  Changes : (servers : List Server) (short : Bool) → Asked
  Runs : (statements : List Statement) → Asked
  Reads : (statement : Statement) → Asked

-- ---- what needs no database

-- a server as the leader; id 0 and no address without one
abbrev pub told_leader : Option Server → Response
told_leader None = responses.Server 0 []
told_leader (Some server) = responses.Server server.id server.address

-- the leader that the node knows, if it is one of the servers
abbrev pub leader_known : List Server → Option ℕ → Response
leader_known servers None = told_leader None
leader_known servers (Some id) = told_leader (server_of servers id)

abbrev pub asks_describe : ℕ → ℕ → Asked
asks_describe weight format = if format == 0 then Tells (responses.Metadata 0 weight) else Never BadFormat

-- a server as it is sent, with its role or not
abbrev pub info_of : Bool → Server → NodeInfo
info_of roles server = record { id = server.id; address = server.address; role = if roles then Some server.role else None }

abbrev pub asks_cluster : View → ℕ → Asked
asks_cluster v format = if nat_le format 1 then Tells (responses.Servers (map (info_of (format == 1)) v.servers)) else Never BadFormat

-- The id is that of another node, also of one that the configuration lacks: a node that was down while another joined and
-- came to lead hears it so.
abbrev pub is_other_node : View → ℕ → Bool
is_other_node v id = not (id == v.id) && nat_lt 0 id && nat_le id 9

abbrev pub asks_connect : View → ℕ → Asked
asks_connect v id = if v.links && is_other_node v id then Sets (JoinsPeer id) else Never BadNode

-- the node is this one, or its log is known to reach the leader's last index
abbrev pub may_take_over : View → ℕ → Bool
may_take_over v id = (id == v.id) || among v.even id

abbrev pub asks_transfer : View → ℕ → Asked
asks_transfer v id = if among (voters v.servers) id then (if may_take_over v id then Sets (HandsOver id) else Never TargetBehind) else Never BadNode

-- ---- other servers

-- one change at a time
abbrev pub if_settled : Gateway → Asked → Asked
if_settled g asked = if change_in_flight g then Never ChangeInFlight else asked

-- The id or the address is a server's already.
abbrev pub is_taken : List Server → ℕ → List ℕ → Bool
is_taken servers id address = has_server servers id || has_address servers address

-- The node can't join: its id is 0 or above 9, its id or its address is a server's, its address has more than 255 bytes, or
-- there are 9 servers.
abbrev pub is_barred_node : List Server → ℕ → List ℕ → Bool
is_barred_node servers id address = (id == 0) || nat_lt 9 id || is_taken servers id address || nat_lt 255 (length address) || nat_le 9 (length servers)

-- a node joins as a spare
abbrev pub asks_add : List Server → ℕ → List ℕ → Asked
asks_add servers id address = if is_barred_node servers id address then Never BadNode else Changes (with_server (record { id = id; address = address; role = 2 }) servers) false

-- another server than this node, which would have to hand over its leadership first
abbrev pub of_other : View → ℕ → Asked → Asked
of_other v id asked = if id == v.id then Never TransferFirst else asked

-- the server isn't a voter yet, and is to be one
abbrev pub is_promotion : List Server → ℕ → ℕ → Bool
is_promotion servers id role = (role == 0) && not (among (voters servers) id)

-- A server that isn't caught up can't be a voter. If it is a spare it becomes a standby, so that it is sent the log, and the client is
-- told once that is applied.
abbrev pub asks_to_catch_up : View → ℕ → Asked
asks_to_catch_up v id = if is_spare v.servers id then Changes (with_role id 1 v.servers) true else Never TargetBehind

-- there are at most 7 voters, and each joins them with all of the log but the last 16 entries at most
abbrev pub asks_role : View → ℕ → ℕ → Asked
asks_role v id role =
    if is_promotion v.servers id role && nat_le 7 (length (voters v.servers)) then Never TooManyVoters
    else if is_promotion v.servers id role && not (among v.near id) then asks_to_catch_up v id
    else Changes (with_role id role v.servers) false

abbrev pub asks_assign : View → ℕ → ℕ → Asked
asks_assign v id role =
    if not (has_server v.servers id) then Never BadNode
    else if nat_lt 2 role then Never BadRole
    else of_other v id (asks_role v id role)

abbrev pub asks_remove : View → ℕ → Asked
asks_remove v id = if has_server v.servers id then of_other v id (Changes (without_server id v.servers) false) else Never BadNode

-- ---- files

-- the two files of a database
abbrev pub files_of : List ℕ → Image → Response
files_of name image = responses.Files (record { name = name; content = image.main } ∷ record { name = name ++ codes "-side"; content = image.side } ∷ [])

-- how many bytes the body of a response has
abbrev pub body_size : Response → ℕ
body_size response = length (body_bytes (response_line response).fields)

abbrev pub within_size : Response → Asked
within_size response = if nat_lt 16777216 (body_size response) then Never AnswerTooBig else Tells response

abbrev pub asks_dump : Machine → List ℕ → Asked
asks_dump m name = if is_named m.names name then within_size (files_of name (m.base name).image) else Never NoDatabase

-- ---- databases

-- the session has opened a database
abbrev pub has_database : Session → Bool
has_database s = nat_lt 0 (length s.database)

-- 1 to 255 bytes
abbrev pub is_name : List ℕ → Bool
is_name name = nat_le 1 (length name) && nat_le (length name) 255

-- bit 32 of an OPEN's flags asks for barrier reads
abbrev pub barriers_asked : ℕ → Bool
barriers_asked flags = flags / 2 ^ 32 % 2 == 1

abbrev pub asks_new : View → Machine → Gateway → List ℕ → Bool → Asked
asks_new v m g name barriers = if one_too_many m g name then Never TooManyDatabases else if log_full v then Never LogFull else Creates name barriers

abbrev pub asks_open : View → Machine → Gateway → Session → List ℕ → Bool → Asked
asks_open v m g s name barriers =
    if has_database s then Never DatabaseOpen
    else if not (is_name name) then Never BadName
    else if is_named m.names name then Opens name barriers
    else asks_new v m g name barriers

-- the number is not that of the session's database
abbrev pub no_database : Session → ℕ → Bool
no_database s db = not (has_database s && (db == 0))

-- what is asked of the session's database
abbrev pub in_database : Session → ℕ → Asked → Asked
in_database s db asked = if no_database s db then Never NoDatabase else asked

-- ---- statements

-- a write, refused for what hinders it
abbrev pub never_or : Option Cause → Asked → Asked
never_or None asked = asked
never_or (Some cause) asked = Never cause

-- a statement with its parameters, by its kind
abbrev pub asks_kind : Option Cause → Bool → WordKind → Statement → Asked
asks_kind hinders active (words.Begin at_once) statement = if active then Never InTransaction else Begins at_once
asks_kind hinders active words.Commit statement = if active then Commits else Never NoTransaction
asks_kind hinders active words.Rollback statement = if active then RollsBack else Never NoTransaction
asks_kind hinders active words.Write statement = never_or hinders (Runs (statement ∷ []))
asks_kind hinders active words.LeftOut statement = Never NotAllowed
asks_kind hinders active words.Other statement = Runs (statement ∷ [])

-- one statement, whose rows are dropped
abbrev pub asks_one : Option Cause → Bool → Prepared → List Value → Asked
asks_one hinders active p params =
    if is_left_out p.word then Never NotAllowed
    else if wrong_params (p ∷ []) params then Never WrongParameters
    else asks_kind hinders active p.word (with_all p params)

-- several statements, or none; a write among them is refused before the first of them runs
abbrev pub asks_several : Option Cause → List Prepared → List Value → Asked
asks_several hinders ps params =
    if any_barred ps then Never NotAllowed
    else if wrong_params ps params then Never WrongParameters
    else if any_write ps then never_or hinders (Runs (with_params ps params))
    else Runs (with_params ps params)

abbrev pub asks_statements : Option Cause → Bool → List Prepared → List Value → Asked
asks_statements hinders active [] params = asks_several hinders [] params
asks_statements hinders active (p ∷ []) params = asks_one hinders active p params
asks_statements hinders active (p ∷ q ∷ ps) params = asks_several hinders (p ∷ q ∷ ps) params

-- a text of statements, as it was cut
abbrev pub asks_text : Option Cause → Bool → List ℕ → Result (List StatementSpan) ScanFault → List Value → Asked
asks_text hinders active sql (Err fault) params = Never (scan_cause fault)
asks_text hinders active sql (Ok pieces) params = asks_statements hinders active (map (prepared_from sql) pieces) params

-- one statement, whose rows are reported
abbrev pub asks_query : Option Cause → Prepared → List Value → Asked
asks_query hinders p params =
    if any_barred (p ∷ []) then Never NotAllowed
    else if wrong_params (p ∷ []) params then Never WrongParameters
    else if is_write_word p.word then never_or hinders (Reads (with_all p params))
    else Reads (with_all p params)

-- not exactly one statement where one is wanted
abbrev pub not_one : List Prepared → Asked
not_one ps = if any_barred ps then Never NotAllowed else Never OneStatementWanted

abbrev pub asks_sole : Option Cause → List Prepared → List Value → Asked
asks_sole hinders [] params = not_one []
asks_sole hinders (p ∷ []) params = asks_query hinders p params
asks_sole hinders (p ∷ q ∷ ps) params = not_one (p ∷ q ∷ ps)

abbrev pub asks_rows : Option Cause → List ℕ → Result (List StatementSpan) ScanFault → List Value → Asked
asks_rows hinders sql (Err fault) params = Never (scan_cause fault)
asks_rows hinders sql (Ok pieces) params = asks_sole hinders (map (prepared_from sql) pieces) params

-- ---- prepared statements

abbrev pub asks_exec : Option Cause → Bool → Option Prepared → List Value → Asked
asks_exec hinders active None params = Never NoStatement
asks_exec hinders active (Some p) params = asks_one hinders active p params

abbrev pub asks_prepared_query : Option Cause → Option Prepared → List Value → Asked
asks_prepared_query hinders None params = Never NoStatement
asks_prepared_query hinders (Some p) params = asks_query hinders p params

abbrev pub asks_finalize : Option Prepared → ℕ → Asked
asks_finalize None id = Never NoStatement
asks_finalize (Some p) id = Drops id

-- a statement is prepared, if there is room
abbrev pub with_room : Session → Prepared → Option ℕ → Asked
with_room s p tail = if nat_le 64 (prepared_count s.statements) then Never TooManyStatements else Prepares p tail

-- the place of the rest, which is told in schema 1
abbrev pub tail_of : Bool → StatementSpan → Option ℕ
tail_of wide piece = if wide then Some piece.after else None

-- in schema 0 there is one statement, in schema 1 the first of several is prepared
abbrev pub asks_prepare_pieces : Session → List ℕ → Bool → List StatementSpan → Asked
asks_prepare_pieces s sql wide [] = Never OneStatementWanted
asks_prepare_pieces s sql wide (p ∷ []) = if is_left_out p.word then Never NotAllowed else with_room s (prepared_from sql p) (tail_of wide p)
asks_prepare_pieces s sql wide (p ∷ q ∷ ps) =
    if any_barred (map (prepared_from sql) (p ∷ q ∷ ps)) then Never NotAllowed
    else if wide then with_room s (prepared_from sql p) (tail_of wide p)
    else Never OneStatementWanted

abbrev pub asks_prepare : Session → List ℕ → Bool → Result (List StatementSpan) ScanFault → Asked
asks_prepare s sql wide (Err fault) = Never (scan_cause fault)
asks_prepare s sql wide (Ok pieces) = asks_prepare_pieces s sql wide pieces

-- ---- a transaction that was lost with leadership

-- COMMIT ends it and is refused, ROLLBACK ends it, and any other statement is refused
abbrev pub lost_word : WordKind → Asked
lost_word (words.Begin at_once) = Never NotLeader
lost_word words.Commit = Forgets (failure NotLeader)
lost_word words.Rollback = Forgets (responses.Result 0 0)
lost_word words.Write = Never NotLeader
lost_word words.LeftOut = Never NotLeader
lost_word words.Other = Never NotLeader

-- if its parameters fit
abbrev pub lost_one : Prepared → List Value → Asked
lost_one p params = if wrong_params (p ∷ []) params then Never NotLeader else lost_word p.word

-- if it is the only statement
abbrev pub lost_statements : List Prepared → List Value → Asked
lost_statements [] params = Never NotLeader
lost_statements (p ∷ []) params = lost_one p params
lost_statements (p ∷ q ∷ ps) params = Never NotLeader

abbrev pub lost_text : List ℕ → Result (List StatementSpan) ScanFault → List Value → Asked
lost_text sql (Err fault) params = Never NotLeader
lost_text sql (Ok pieces) params = lost_statements (map (prepared_from sql) pieces) params

abbrev pub lost_exec : Option Prepared → List Value → Asked
lost_exec None params = Never NotLeader
lost_exec (Some p) params = lost_one p params

-- if it is for the session's database
abbrev pub lost_in : Session → ℕ → Asked → Asked
lost_in s db asked = if no_database s db then Never NotLeader else asked

-- What a request with a statement asks for while the transaction is lost, whether the node leads or not; None for requests
-- without one.
abbrev pub asks_lost : Session → Request → Option Asked
asks_lost s (requests.Prepare db sql wide) = Some (Never NotLeader)
asks_lost s (requests.Exec db id params wide) = Some (lost_in s db (lost_exec (prepared_at s.statements id) params))
asks_lost s (requests.Query db id params wide) = Some (Never NotLeader)
asks_lost s (requests.ExecSql db sql params wide) = Some (lost_in s db (lost_text sql (scan_of sql) params))
asks_lost s (requests.QuerySql db sql params wide) = Some (Never NotLeader)
asks_lost s request = None

abbrev pub unless_lost : Bool → Option Asked → Asked → Asked
unless_lost false lost asked = asked
unless_lost true None asked = asked
unless_lost true (Some lost) asked = lost

-- ---- requests

-- what a serving leader alone answers
abbrev pub at_leader : View → Asked → Asked
at_leader v asked = if v.serving then asked else Never NotLeader

-- What a session without a lost transaction asks for by a request. The refusals are tried in this order: not a serving leader; a second
-- database, or a change of the cluster while one is pending; a missing database or statement; a text, statement, parameters,
-- name, node or format that must not be; a limit on statements, databases or the log; a write that couldn't be kept, as another
-- session has the write lock or the image is old.
unfoldable pub asked_unless_lost : View → Machine → Gateway → ℕ → Session → Request → Asked
asked_unless_lost v m g conn s requests.Leader = Tells (leader_known v.servers v.leader)
asked_unless_lost v m g conn s (requests.Client id) = Tells (responses.Welcome 15000)
asked_unless_lost v m g conn s (requests.Open name flags vfs) = at_leader v (asks_open v m g s name (barriers_asked flags))
asked_unless_lost v m g conn s (requests.Prepare db sql wide) = at_leader v (in_database s db (asks_prepare s sql wide (scan_of sql)))
asked_unless_lost v m g conn s (requests.Exec db id params wide) = at_leader v (in_database s db (asks_exec (write_hindrance m g conn s) (in_tx s) (prepared_at s.statements id) params))
asked_unless_lost v m g conn s (requests.Query db id params wide) = at_leader v (in_database s db (asks_prepared_query (write_hindrance m g conn s) (prepared_at s.statements id) params))
asked_unless_lost v m g conn s (requests.Finalize db id) = in_database s db (asks_finalize (prepared_at s.statements id) id)
asked_unless_lost v m g conn s (requests.ExecSql db sql params wide) = at_leader v (in_database s db (asks_text (write_hindrance m g conn s) (in_tx s) sql (scan_of sql) params))
asked_unless_lost v m g conn s (requests.QuerySql db sql params wide) = at_leader v (in_database s db (asks_rows (write_hindrance m g conn s) sql (scan_of sql) params))
asked_unless_lost v m g conn s (requests.Interrupt db) = in_database s db (Tells responses.Empty)
asked_unless_lost v m g conn s (requests.Connect id address) = asks_connect v id
asked_unless_lost v m g conn s (requests.Add id address) = at_leader v (if_settled g (asks_add v.servers id address))
asked_unless_lost v m g conn s (requests.Assign id role) = at_leader v (if_settled g (asks_assign v id role))
asked_unless_lost v m g conn s (requests.Remove id) = at_leader v (if_settled g (asks_remove v id))
asked_unless_lost v m g conn s (requests.Dump name) = asks_dump m name
asked_unless_lost v m g conn s (requests.Cluster format) = asks_cluster v format
asked_unless_lost v m g conn s (requests.Transfer id) = at_leader v (asks_transfer v id)
asked_unless_lost v m g conn s (requests.Describe format) = asks_describe g.weight format
asked_unless_lost v m g conn s (requests.Weight weight) = Sets (Weighs weight)

-- What the session of a connection asks for by a request.
unfoldable pub asked_by : View → Machine → Gateway → ℕ → Session → Request → Asked
asked_by v m g conn s request = unless_lost s.lost (asks_lost s request) (asked_unless_lost v m g conn s request)

-- the same for a connection's session
abbrev pub asked : View → Machine → Gateway → ℕ → Request → Asked
asked v m g conn request = asked_by v m g conn (g.session conn) request

-- The request asks neither for other servers nor for barrier reads. A node without others, without readers and without these
-- requests has no query that is answered apart from its request.
unfoldable pub fits_one_voter : Request → Bool
fits_one_voter (requests.Open name flags vfs) = not (barriers_asked flags)
fits_one_voter (requests.Add id address) = false
fits_one_voter (requests.Assign id role) = false
fits_one_voter (requests.Remove id) = false
fits_one_voter request = true
