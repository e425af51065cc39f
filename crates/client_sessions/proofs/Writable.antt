-- That what is reported can be written: the texts of refusals, the rows of answers, and what a request is sent at once.
use Rattle.std.proofs.Common.{rules, ⊎_elim, sym, subst, ◌≡◌, ℕ, Bool, true, false, cond, ◌||◌, ◌==◌, List, [], ◌∷◌, ◌++◌, map, codes, Option, Some, None, Result, Ok, Err, refl}
use Rattle.std.specs.List.{AllByRecursion, flat_map}
use Rattle.dq_base.specs.declared.images.Image.{Image}
use Rattle.dq_base.specs.Names.{has_nul}
use Rattle.wire_words.specs.declared.value.Value.{Value}
use Rattle.wire_rows.specs.Cut.{cut}
use Rattle.wire_msgs.specs.declared.request.Request.{Request}
use Rattle.wire_msgs.specs.declared.request.Request.TheVariants as requests
use Rattle.wire_msgs.specs.declared.response.Response.{Response}
use Rattle.wire_msgs.specs.declared.response.Response.TheVariants as responses
use Rattle.wire_msgs.specs.declared.fault.MsgFault.{MsgFault}
use Rattle.wire_msgs.specs.Fields.{Field, HaveSpellings}
use Rattle.wire_msgs.specs.Responses.{IsWritable, optional, server_fields}
use Rattle.sql_scan.specs.declared.pieces.StatementSpan.{StatementSpan}
use Rattle.sql_scan.specs.declared.fault.ScanFault.{ScanFault}
use Rattle.sql_scan.specs.declared.heading.WordKind.{WordKind}
use Rattle.sql_scan.specs.declared.heading.WordKind.TheVariants as words
use Rattle.sql_engine.specs.declared.answer.StatementResult.{StatementResult}
use Rattle.sql_engine.specs.Replies.{Statement}
use Rattle.raft_spec.specs.Node.{Server}
use Rattle.raft_messages.specs.Servers.{IsServer}
use Rattle.session_spec.specs.Causes as causes
use Rattle.session_spec.specs.Causes.{Cause, failure, message, unread_cause}
use Rattle.session_spec.specs.Machine.{Machine}
use Rattle.session_spec.specs.Servers.{server_of}
use Rattle.session_spec.specs.Sessions.{Reply, Refusal, Single, Rows, Prepared, Session, Gateway, View}
use Rattle.session_spec.specs.Statements.{prepared_from}
use Rattle.session_spec.specs.Requests.{reply_of}
use Rattle.session_spec.proofs.Losing.{asked_both}
use Rattle.session_spec.specs.Allowed.{EndsLost}
use Rattle.session_spec.specs.Asking.{Asked, Never, Tells, Sets, Opens, Creates, Prepares, Drops, Forgets, Begins, Commits, RollsBack, Changes, Runs, Reads, asked_unless_lost, asked_by, never_or, told_leader, leader_known, info_of, asks_cluster, files_of, asks_dump, asks_new, asks_open, asks_kind, asks_one, asks_several, asks_statements, asks_text, asks_query, not_one, asks_sole, asks_rows, asks_exec, asks_prepared_query, asks_finalize, with_room, asks_prepare_pieces, asks_prepare, at_leader, in_database, if_settled, of_other, asks_add, asks_role, asks_assign, asks_remove, asks_transfer}
use Rattle.session_gateway.specs.Calls.{HasNoNul, IsConfigured}
use Rattle.session_table.specs.Named.{cause_named}
use Rattle.session_outcomes.specs.declared.job.Read.{Read}
use Rattle.session_outcomes.specs.declared.job.Read.TheVariants as reads
use Rattle.session_outcomes.specs.Reading.{read_named}
use Rattle.client_sessions.specs.Sending.{CanSend}
use Rattle.client_sessions.proofs.Whole.{parts_writable}

-- ---- texts of refusals

message_plain : (cause : Cause) → has_nul (message cause) ≡ false
message_plain causes.BadRequest = refl
message_plain causes.FloatParameter = refl
message_plain causes.NotLeader = refl
message_plain causes.LeadershipLost = refl
message_plain causes.DatabaseOpen = refl
message_plain causes.ChangeInFlight = refl
message_plain causes.NoDatabase = refl
message_plain causes.NoStatement = refl
message_plain causes.OpenQuote = refl
message_plain causes.OpenComment = refl
message_plain causes.NamedParameter = refl
message_plain causes.BadParameterNumber = refl
message_plain causes.NotAllowed = refl
message_plain causes.OneStatementWanted = refl
message_plain causes.WrongParameters = refl
message_plain causes.InTransaction = refl
message_plain causes.NoTransaction = refl
message_plain causes.BadName = refl
message_plain causes.BadNode = refl
message_plain causes.BadRole = refl
message_plain causes.BadFormat = refl
message_plain causes.TargetBehind = refl
message_plain causes.TransferFirst = refl
message_plain causes.TooManyVoters = refl
message_plain causes.TooManyStatements = refl
message_plain causes.TooManyDatabases = refl
message_plain causes.LogFull = refl
message_plain causes.ConstraintFailed = refl
message_plain causes.SqlError = refl
message_plain causes.NotADatabase = refl
message_plain causes.FloatColumn = refl
message_plain causes.NotUtf8 = refl
message_plain causes.OutOfMemory = refl
message_plain causes.NulInText = refl
message_plain causes.AnswerTooBig = refl
message_plain causes.Locked = refl
message_plain causes.OutOfDate = refl
message_plain causes.DatabaseFull = refl

pub refusal_sent : (cause : Cause) → CanSend (Refusal cause)
refusal_sent cause = ((tt, (message_plain cause, tt)), tt)

-- the refusal of a message that doesn't read can be written
pub unread_writable : (fault : MsgFault) → IsWritable (failure (unread_cause fault))
unread_writable fault = (refusal_sent (unread_cause fault)).0

-- ---- rows

rows_sent : (answer : StatementResult) → CanSend (Rows answer)
rows_sent answer = parts_writable answer.columns (cut answer.columns answer.rows)

pub reply_sent : (rows : Bool) (answer : StatementResult) → CanSend (reply_of rows answer)
reply_sent true answer = rows_sent answer
reply_sent false answer = ((tt, (tt, tt)), tt)

pub result_sent : (n : ℕ) → CanSend (Single (responses.Result 0 n))
result_sent n = ((tt, (tt, tt)), tt)

-- ---- what is reported, if anything

abbrev pub ToldCanSend : Option Reply → Type 0
ToldCanSend None = Unit {0}
ToldCanSend (Some reply) = CanSend reply

-- what a reader answers
pub read_sent : (read : Read) → ToldCanSend (read_named read)
read_sent (reads.Answers answer) = rows_sent answer
read_sent (reads.Refused cause) = refusal_sent (cause_named cause)
read_sent reads.GivenBack = tt

pub optional_spelled : (tail : Option ℕ) → HaveSpellings (optional tail)
optional_spelled None = tt
optional_spelled (Some n) = (tt, tt)

-- ---- what a request is sent at once

-- a response that is sent at once can be written
abbrev pub TellsWell : Asked → Type 0
TellsWell (Never cause) = Unit {0}
TellsWell (Tells response) = IsWritable response
TellsWell (Sets effect) = Unit {0}
TellsWell (Opens name barriers) = Unit {0}
TellsWell (Creates name barriers) = Unit {0}
TellsWell (Prepares prepared tail) = Unit {0}
TellsWell (Drops id) = Unit {0}
TellsWell (Forgets response) = IsWritable response
TellsWell (Begins at_once) = Unit {0}
TellsWell Commits = Unit {0}
TellsWell RollsBack = Unit {0}
TellsWell (Changes servers short) = Unit {0}
TellsWell (Runs statements) = Unit {0}
TellsWell (Reads statement) = Unit {0}

either : (b : Bool) (x y : Asked) → TellsWell x → TellsWell y → TellsWell (cond b x y)
either true x y wx wy = wx
either false x y wx wy = wy

new_tells : (v : View) (m : Machine) (g : Gateway) (name : List ℕ) (barriers : Bool) → TellsWell (asks_new v m g name barriers)
new_tells v m g name barriers = search (rules, either)

open_tells : (v : View) (m : Machine) (g : Gateway) (s : Session) (name : List ℕ) (barriers : Bool) → TellsWell (asks_open v m g s name barriers)
open_tells v m g s name barriers = search (rules, either, new_tells)

-- a write that is refused, or isn't
never_tells : (hinders : Option Cause) (asked : Asked) → TellsWell asked → TellsWell (never_or hinders asked)
never_tells None asked t = t
never_tells (Some cause) asked t = tt

kind_tells : (hinders : Option Cause) (within : Bool) (word : WordKind) (statement : Statement) → TellsWell (asks_kind hinders within word statement)
kind_tells hinders true (words.Begin at_once) statement = tt
kind_tells hinders false (words.Begin at_once) statement = tt
kind_tells hinders true words.Commit statement = tt
kind_tells hinders false words.Commit statement = tt
kind_tells hinders true words.Rollback statement = tt
kind_tells hinders false words.Rollback statement = tt
kind_tells hinders within words.Write statement = never_tells hinders (Runs (statement ∷ [])) tt
kind_tells hinders within words.LeftOut statement = tt
kind_tells hinders within words.Other statement = tt

one_tells : (hinders : Option Cause) (within : Bool) (p : Prepared) (params : List Value) → TellsWell (asks_one hinders within p params)
one_tells hinders within p params = search (rules, either, kind_tells)

several_tells : (hinders : Option Cause) (ps : List Prepared) (params : List Value) → TellsWell (asks_several hinders ps params)
several_tells hinders ps params = search (rules, either, never_tells)

statements_tell : (hinders : Option Cause) (within : Bool) (ps : List Prepared) (params : List Value) → TellsWell (asks_statements hinders within ps params)
statements_tell hinders within [] params = several_tells hinders [] params
statements_tell hinders within (p ∷ []) params = one_tells hinders within p params
statements_tell hinders within (p ∷ q ∷ ps) params = several_tells hinders (p ∷ q ∷ ps) params

text_tells : (hinders : Option Cause) (within : Bool) (sql : List ℕ) (scan : Result (List StatementSpan) ScanFault) (params : List Value) → TellsWell (asks_text hinders within sql scan params)
text_tells hinders within sql (Err fault) params = tt
text_tells hinders within sql (Ok pieces) params = statements_tell hinders within (map (prepared_from sql) pieces) params

query_tells : (hinders : Option Cause) (p : Prepared) (params : List Value) → TellsWell (asks_query hinders p params)
query_tells hinders p params = search (rules, either, never_tells)

not_one_tells : (ps : List Prepared) → TellsWell (not_one ps)
not_one_tells ps = search (rules, either)

sole_tells : (hinders : Option Cause) (ps : List Prepared) (params : List Value) → TellsWell (asks_sole hinders ps params)
sole_tells hinders [] params = not_one_tells []
sole_tells hinders (p ∷ []) params = query_tells hinders p params
sole_tells hinders (p ∷ q ∷ ps) params = not_one_tells (p ∷ q ∷ ps)

rows_tell : (hinders : Option Cause) (sql : List ℕ) (scan : Result (List StatementSpan) ScanFault) (params : List Value) → TellsWell (asks_rows hinders sql scan params)
rows_tell hinders sql (Err fault) params = tt
rows_tell hinders sql (Ok pieces) params = sole_tells hinders (map (prepared_from sql) pieces) params

exec_tells : (hinders : Option Cause) (within : Bool) (found : Option Prepared) (params : List Value) → TellsWell (asks_exec hinders within found params)
exec_tells hinders within None params = tt
exec_tells hinders within (Some p) params = one_tells hinders within p params

prepared_tells : (hinders : Option Cause) (found : Option Prepared) (params : List Value) → TellsWell (asks_prepared_query hinders found params)
prepared_tells hinders None params = tt
prepared_tells hinders (Some p) params = query_tells hinders p params

finalize_tells : (found : Option Prepared) (id : ℕ) → TellsWell (asks_finalize found id)
finalize_tells None id = tt
finalize_tells (Some p) id = tt

room_tells : (s : Session) (p : Prepared) (tail : Option ℕ) → TellsWell (with_room s p tail)
room_tells s p tail = search (rules, either)

pieces_tell : (s : Session) (sql : List ℕ) (wide : Bool) (pieces : List StatementSpan) → TellsWell (asks_prepare_pieces s sql wide pieces)
pieces_tell s sql wide [] = tt
pieces_tell s sql wide (p ∷ []) = search (rules, either, room_tells)
pieces_tell s sql wide (p ∷ q ∷ ps) = search (rules, either, room_tells)

prepare_tells : (s : Session) (sql : List ℕ) (wide : Bool) (scan : Result (List StatementSpan) ScanFault) → TellsWell (asks_prepare s sql wide scan)
prepare_tells s sql wide (Err fault) = tt
prepare_tells s sql wide (Ok pieces) = pieces_tell s sql wide pieces

told_plain : (b : Bool) (server : Server) (o : Option Server) → has_nul server.address ≡ false → IsWritable (told_leader o) → IsWritable (told_leader (cond b (Some server) o))
told_plain true server o plain rest = (tt, (plain, tt))
told_plain false server o plain rest = rest

leader_plain : (servers : List Server) (id : ℕ) → AllByRecursion IsServer servers → IsWritable (told_leader (server_of servers id))
leader_plain [] id all = (tt, (refl, tt))
leader_plain (server ∷ servers) id all = told_plain (server.id == id) server (server_of servers id) all.0.1 (leader_plain servers id all.1)

leader_tells : (servers : List Server) (leader : Option ℕ) → AllByRecursion IsServer servers → IsWritable (leader_known servers leader)
leader_tells servers None all = (tt, (refl, tt))
leader_tells servers (Some id) all = leader_plain servers id all

both_spelled : (xs ys : List Field) → HaveSpellings xs → HaveSpellings ys → HaveSpellings (xs ++ ys)
both_spelled [] ys a b = b
both_spelled (x ∷ xs) ys a b = (a.0, both_spelled xs ys a.1 b)

server_spelled : (roles : Bool) (server : Server) → has_nul server.address ≡ false → HaveSpellings (server_fields (info_of roles server))
server_spelled true server plain = (tt, (plain, (tt, tt)))
server_spelled false server plain = (tt, (plain, tt))

servers_spelled : (roles : Bool) (servers : List Server) → AllByRecursion IsServer servers → HaveSpellings (flat_map server_fields (map (info_of roles) servers))
servers_spelled roles [] all = tt
servers_spelled roles (server ∷ servers) all = both_spelled (server_fields (info_of roles server)) _ (server_spelled roles server all.0.1) (servers_spelled roles servers all.1)

cluster_tells : (v : View) (format : ℕ) → IsConfigured v → TellsWell (asks_cluster v format)
cluster_tells v format configured =
    let told : HaveSpellings (flat_map server_fields (map (info_of (format == 1)) v.servers)) = servers_spelled (format == 1) v.servers configured.each in
    search (rules, either, told)

nul_append : (xs ys : List ℕ) → has_nul xs ≡ false → has_nul ys ≡ false → has_nul (xs ++ ys) ≡ false
nul_append [] ys a b = b
nul_append (x ∷ xs) ys a b = none (x == 0) a (λ e. nul_append xs ys e b) where
  none : (zero : Bool) → (zero || has_nul xs) ≡ false → (has_nul xs ≡ false → has_nul (xs ++ ys) ≡ false) → (zero || has_nul (xs ++ ys)) ≡ false
  none true a more = absurd cc
  none false a more = more a

files_told : (name : List ℕ) (image : Image) → has_nul name ≡ false → IsWritable (files_of name image)
files_told name image plain = (tt, (plain, (tt, (nul_append name (codes "-side") plain refl, (tt, tt)))))

dump_tells : (m : Machine) (name : List ℕ) → has_nul name ≡ false → TellsWell (asks_dump m name)
dump_tells m name plain = search (rules, either, files_told, plain)

at_leader_tells : (v : View) (asked : Asked) → TellsWell asked → TellsWell (at_leader v asked)
at_leader_tells v asked t = search (rules, either, t)

in_database_tells : (s : Session) (db : ℕ) (asked : Asked) → TellsWell asked → TellsWell (in_database s db asked)
in_database_tells s db asked t = search (rules, either, t)

settled_tells : (g : Gateway) (asked : Asked) → TellsWell asked → TellsWell (if_settled g asked)
settled_tells g asked t = search (rules, either, t)

other_tells : (v : View) (id : ℕ) (asked : Asked) → TellsWell asked → TellsWell (of_other v id asked)
other_tells v id asked t = search (rules, either, t)

add_tells : (servers : List Server) (id : ℕ) (address : List ℕ) → TellsWell (asks_add servers id address)
add_tells servers id address = search (rules, either)

role_tells : (v : View) (id role : ℕ) → TellsWell (asks_role v id role)
role_tells v id role = search (rules, either)

assign_tells : (v : View) (id role : ℕ) → TellsWell (asks_assign v id role)
assign_tells v id role = search (rules, either, other_tells, role_tells)

remove_tells : (v : View) (id : ℕ) → TellsWell (asks_remove v id)
remove_tells v id = search (rules, either, other_tells)

transfer_tells : (v : View) (id : ℕ) → TellsWell (asks_transfer v id)
transfer_tells v id = search (rules, either)

-- what a lost transaction ends with can be written
ended_tells : (s : Session) (response : Response) → EndsLost s response → IsWritable response
ended_tells s response ends = ⊎_elim
    (λ (e : response ≡ failure causes.NotLeader). subst IsWritable (sym e) (refusal_sent causes.NotLeader).0)
    (λ (e : response ≡ responses.Result 0 0). subst IsWritable (sym e) (result_sent 0).0)
    ends.told

unlost_tells : (v : View) (m : Machine) (g : Gateway) (conn : ℕ) (s : Session) (request : Request) → IsConfigured v → HasNoNul request → TellsWell (asked_unless_lost v m g conn s request)
unfolding asked_unless_lost
unlost_tells v m g conn s requests.Leader configured text = leader_tells v.servers v.leader configured.each
unlost_tells v m g conn s (requests.Client id) configured text = (tt, tt)
unlost_tells v m g conn s (requests.Open name flags vfs) configured text = search (rules, at_leader_tells, open_tells)
unlost_tells v m g conn s (requests.Prepare db sql wide) configured text = search (rules, at_leader_tells, in_database_tells, prepare_tells)
unlost_tells v m g conn s (requests.Exec db id params wide) configured text = search (rules, at_leader_tells, in_database_tells, exec_tells)
unlost_tells v m g conn s (requests.Query db id params wide) configured text = search (rules, at_leader_tells, in_database_tells, prepared_tells)
unlost_tells v m g conn s (requests.Finalize db id) configured text = search (rules, in_database_tells, finalize_tells)
unlost_tells v m g conn s (requests.ExecSql db sql params wide) configured text = search (rules, at_leader_tells, in_database_tells, text_tells)
unlost_tells v m g conn s (requests.QuerySql db sql params wide) configured text = search (rules, at_leader_tells, in_database_tells, rows_tell)
unlost_tells v m g conn s (requests.Interrupt db) configured text = search (rules, in_database_tells)
unlost_tells v m g conn s (requests.Connect id address) configured text = search (rules, either)
unlost_tells v m g conn s (requests.Add id address) configured text = search (rules, at_leader_tells, settled_tells, add_tells)
unlost_tells v m g conn s (requests.Assign id role) configured text = search (rules, at_leader_tells, settled_tells, assign_tells)
unlost_tells v m g conn s (requests.Remove id) configured text = search (rules, at_leader_tells, settled_tells, remove_tells)
unlost_tells v m g conn s (requests.Dump name) configured text = dump_tells m name text
unlost_tells v m g conn s (requests.Cluster format) configured text = cluster_tells v format configured
unlost_tells v m g conn s (requests.Transfer id) configured text = search (rules, at_leader_tells, transfer_tells)
unlost_tells v m g conn s (requests.Describe format) configured text = search (rules, either)
unlost_tells v m g conn s (requests.Weight weight) configured text = tt

pub asked_tells : (v : View) (m : Machine) (g : Gateway) (conn : ℕ) (s : Session) (request : Request) → IsConfigured v → HasNoNul request → TellsWell (asked_by v m g conn s request)
asked_tells v m g conn s request configured text =
    asked_both TellsWell v m g conn s request tt (λ response ends. ended_tells s response ends) (unlost_tells v m g conn s request configured text)
