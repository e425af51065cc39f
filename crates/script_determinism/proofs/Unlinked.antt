-- Without peer connections no connection comes to carry a peer's messages, and without readers no query is lent: what comes of a request is told.
use Rattle.std.proofs.Common.{◌≡◌, ℕ, Bool, true, false, true≢false, cond, ◌&&◌, not, List, [], ◌∷◌, length, map, Option, Some, None, Result, Ok, Err}
use Rattle.std.specs.Prelude.{◌==◌, nat_lt, nat_le}
use Rattle.wire_words.specs.declared.value.Value.{Value}
use Rattle.wire_msgs.specs.declared.request.Request.{Request}
use Rattle.wire_msgs.specs.declared.request.Request.TheVariants as requests
use Rattle.wire_msgs.specs.declared.response.Response.TheVariants as responses
use Rattle.raft_spec.specs.Node.{among, voters}
use Rattle.sql_scan.specs.declared.pieces.StatementSpan.{StatementSpan}
use Rattle.sql_scan.specs.declared.fault.ScanFault.{ScanFault}
use Rattle.sql_scan.specs.declared.heading.WordKind.{WordKind}
use Rattle.sql_scan.specs.declared.heading.WordKind.TheVariants as words
use Rattle.sql_scan.specs.Statements.{scan_of}
use Rattle.sql_engine.specs.Replies.{Statement}
use Rattle.session_spec.specs.Causes.{Cause, NotLeader, NoDatabase, ChangeInFlight, BadNode, TransferFirst}
use Rattle.session_spec.specs.Engines.{Answer, Ending, Lacking, TooLarge, Stopped, Ended, no_answer, runs}
use Rattle.session_spec.specs.Limits.{change_in_flight, one_too_many, log_full, other_holds, write_hindrance}
use Rattle.session_spec.specs.Machine.{Machine, is_named}
use Rattle.session_spec.specs.Servers.{has_server, is_spare}
use Rattle.session_spec.specs.Sessions.{Prepared, Transaction, Session, Gateway, View, JoinsPeer, HandsOver, Weighs, Turned, Refused, Lacks, Answers, Proposes, Lends, Affects, in_tx}
use Rattle.session_spec.specs.Statements.{prepared_from, prepared_at, prepared_count, is_left_out, is_write_word, any_barred, any_write, wrong_params, with_params, with_all}
use Rattle.session_spec.specs.Asking as asking
use Rattle.session_spec.proofs.Losing.{asked_both}
use Rattle.session_spec.specs.Asking.{Asked, Never, Tells, Sets, Opens, Creates, Prepares, Drops, Forgets, Begins, Commits, RollsBack, Changes, Runs, Reads, has_database, barriers_asked, asked_unless_lost, asked_by}
use Rattle.session_spec.specs.Requests.{unless, outside_write, outside, inside, run_in, committed, commit_in, waits_first, was_cut, read_in, does, on_request, on_later}

-- ---- what is asked

-- nothing of a peer's connection
abbrev Stays : Asked → Type 0
Stays (Sets (JoinsPeer id)) = ⊥
Stays (Sets (HandsOver id)) = Unit {0}
Stays (Sets (Weighs weight)) = Unit {0}
Stays (Never cause) = Unit {0}
Stays (Tells response) = Unit {0}
Stays (Opens name barriers) = Unit {0}
Stays (Creates name barriers) = Unit {0}
Stays (Prepares p tail) = Unit {0}
Stays (Drops id) = Unit {0}
Stays (Forgets response) = Unit {0}
Stays (Begins at_once) = Unit {0}
Stays Commits = Unit {0}
Stays RollsBack = Unit {0}
Stays (Changes servers short) = Unit {0}
Stays (Runs ss) = Unit {0}
Stays (Reads s) = Unit {0}

by : (b : Bool) (x y : Asked) → Stays x → Stays y → Stays (cond b x y)
by true x y p q = p
by false x y p q = q

never_stays : (hinders : Option Cause) (x : Asked) → Stays x → Stays (asking.never_or hinders x)
never_stays None x h = h
never_stays (Some cause) x h = tt

kind_stays : (hinders : Option Cause) (active : Bool) (word : WordKind) (s : Statement) → Stays (asking.asks_kind hinders active word s)
kind_stays hinders active (words.Begin at_once) s = by active _ _ tt tt
kind_stays hinders active words.Commit s = by active _ _ tt tt
kind_stays hinders active words.Rollback s = by active _ _ tt tt
kind_stays hinders active words.Write s = never_stays hinders (Runs (s ∷ [])) tt
kind_stays hinders active words.LeftOut s = tt
kind_stays hinders active words.Other s = tt

one_stays : (hinders : Option Cause) (active : Bool) (p : Prepared) (params : List Value) → Stays (asking.asks_one hinders active p params)
one_stays hinders active p params = by (is_left_out p.word) _ _ tt (by (wrong_params (p ∷ []) params) _ _ tt (kind_stays hinders active p.word (with_all p params)))

several_stays : (hinders : Option Cause) (ps : List Prepared) (params : List Value) → Stays (asking.asks_several hinders ps params)
several_stays hinders ps params = by (any_barred ps) _ _ tt (by (wrong_params ps params) _ _ tt (by (any_write ps) _ _ (never_stays hinders (Runs (with_params ps params)) tt) tt))

statements_stay : (hinders : Option Cause) (active : Bool) (ps : List Prepared) (params : List Value) → Stays (asking.asks_statements hinders active ps params)
statements_stay hinders active [] params = several_stays hinders [] params
statements_stay hinders active (p ∷ []) params = one_stays hinders active p params
statements_stay hinders active (p ∷ q ∷ ps) params = several_stays hinders (p ∷ q ∷ ps) params

text_stays : (hinders : Option Cause) (active : Bool) (sql : List ℕ) (t : Result (List StatementSpan) ScanFault) (params : List Value) → Stays (asking.asks_text hinders active sql t params)
text_stays hinders active sql (Err fault) params = tt
text_stays hinders active sql (Ok pieces) params = statements_stay hinders active (map (prepared_from sql) pieces) params

query_stays : (hinders : Option Cause) (p : Prepared) (params : List Value) → Stays (asking.asks_query hinders p params)
query_stays hinders p params = by (any_barred (p ∷ [])) _ _ tt (by (wrong_params (p ∷ []) params) _ _ tt (by (is_write_word p.word) _ _ (never_stays hinders (Reads (with_all p params)) tt) tt))

not_one_stays : (ps : List Prepared) → Stays (asking.not_one ps)
not_one_stays ps = by (any_barred ps) _ _ tt tt

sole_stays : (hinders : Option Cause) (ps : List Prepared) (params : List Value) → Stays (asking.asks_sole hinders ps params)
sole_stays hinders [] params = not_one_stays []
sole_stays hinders (p ∷ []) params = query_stays hinders p params
sole_stays hinders (p ∷ q ∷ ps) params = not_one_stays (p ∷ q ∷ ps)

rows_stay : (hinders : Option Cause) (sql : List ℕ) (t : Result (List StatementSpan) ScanFault) (params : List Value) → Stays (asking.asks_rows hinders sql t params)
rows_stay hinders sql (Err fault) params = tt
rows_stay hinders sql (Ok pieces) params = sole_stays hinders (map (prepared_from sql) pieces) params

exec_stays : (hinders : Option Cause) (active : Bool) (o : Option Prepared) (params : List Value) → Stays (asking.asks_exec hinders active o params)
exec_stays hinders active None params = tt
exec_stays hinders active (Some p) params = one_stays hinders active p params

prepared_stays : (hinders : Option Cause) (o : Option Prepared) (params : List Value) → Stays (asking.asks_prepared_query hinders o params)
prepared_stays hinders None params = tt
prepared_stays hinders (Some p) params = query_stays hinders p params

finalize_stays : (o : Option Prepared) (id : ℕ) → Stays (asking.asks_finalize o id)
finalize_stays None id = tt
finalize_stays (Some p) id = tt

room_stays : (s : Session) (p : Prepared) (tail : Option ℕ) → Stays (asking.with_room s p tail)
room_stays s p tail = by (nat_le 64 (prepared_count s.statements)) _ _ tt tt

pieces_stay : (s : Session) (sql : List ℕ) (wide : Bool) (pieces : List StatementSpan) → Stays (asking.asks_prepare_pieces s sql wide pieces)
pieces_stay s sql wide [] = tt
pieces_stay s sql wide (p ∷ []) = by (is_left_out p.word) _ _ tt (room_stays s (prepared_from sql p) (asking.tail_of wide p))
pieces_stay s sql wide (p ∷ q ∷ ps) = by (any_barred (map (prepared_from sql) (p ∷ q ∷ ps))) _ _ tt (by wide _ _ (room_stays s (prepared_from sql p) (asking.tail_of wide p)) tt)

prepare_stays : (s : Session) (sql : List ℕ) (wide : Bool) (t : Result (List StatementSpan) ScanFault) → Stays (asking.asks_prepare s sql wide t)
prepare_stays s sql wide (Err fault) = tt
prepare_stays s sql wide (Ok pieces) = pieces_stay s sql wide pieces

leading : (v : View) (x : Asked) → Stays x → Stays (asking.at_leader v x)
leading v x h = by v.serving x (Never NotLeader) h tt

opened : (s : Session) (db : ℕ) (x : Asked) → Stays x → Stays (asking.in_database s db x)
opened s db x h = by (asking.no_database s db) (Never NoDatabase) x tt h

open_stays : (v : View) (m : Machine) (g : Gateway) (s : Session) (name : List ℕ) (barriers : Bool) → Stays (asking.asks_open v m g s name barriers)
open_stays v m g s name barriers =
    by (has_database s) _ _ tt (by (not (asking.is_name name)) _ _ tt (by (is_named m.names name) _ _ tt (by (one_too_many m g name) _ _ tt (by (log_full v) _ _ tt tt))))

settled : (g : Gateway) (x : Asked) → Stays x → Stays (asking.if_settled g x)
settled g x h = by (change_in_flight g) (Never ChangeInFlight) x tt h

other_stays : (v : View) (id : ℕ) (x : Asked) → Stays x → Stays (asking.of_other v id x)
other_stays v id x h = by (id == v.id) (Never TransferFirst) x tt h

role_stays : (v : View) (id role : ℕ) → Stays (asking.asks_role v id role)
role_stays v id role =
    by (asking.is_promotion v.servers id role && nat_le 7 (length (voters v.servers))) _ _ tt (by (asking.is_promotion v.servers id role && not (among v.near id)) _ _ (by (is_spare v.servers id) _ _ tt tt) tt)

assign_stays : (v : View) (id role : ℕ) → Stays (asking.asks_assign v id role)
assign_stays v id role = by (not (has_server v.servers id)) _ _ tt (by (nat_lt 2 role) _ _ tt (other_stays v id (asking.asks_role v id role) (role_stays v id role)))

remove_stays : (v : View) (id : ℕ) → Stays (asking.asks_remove v id)
remove_stays v id = by (has_server v.servers id) _ _ (other_stays v id _ tt) tt

connect_stays : (b c : Bool) (id : ℕ) → b ≡ false → Stays (cond (b && c) (Sets (JoinsPeer id)) (Never BadNode))
connect_stays true c id e = absurd (true≢false e)
connect_stays false c id e = tt

unlost_stays : (v : View) (m : Machine) (g : Gateway) (conn : ℕ) (s : Session) (r : Request) → v.links ≡ false → Stays (asked_unless_lost v m g conn s r)
unfolding asked_unless_lost
unlost_stays v m g conn s requests.Leader e = tt
unlost_stays v m g conn s (requests.Client id) e = tt
unlost_stays v m g conn s (requests.Open name flags vfs) e = leading v _ (open_stays v m g s name (barriers_asked flags))
unlost_stays v m g conn s (requests.Prepare db sql wide) e = leading v _ (opened s db _ (prepare_stays s sql wide (scan_of sql)))
unlost_stays v m g conn s (requests.Exec db id params wide) e = leading v _ (opened s db _ (exec_stays (write_hindrance m g conn s) (in_tx s) (prepared_at s.statements id) params))
unlost_stays v m g conn s (requests.Query db id params wide) e = leading v _ (opened s db _ (prepared_stays (write_hindrance m g conn s) (prepared_at s.statements id) params))
unlost_stays v m g conn s (requests.Finalize db id) e = opened s db _ (finalize_stays (prepared_at s.statements id) id)
unlost_stays v m g conn s (requests.ExecSql db sql params wide) e = leading v _ (opened s db _ (text_stays (write_hindrance m g conn s) (in_tx s) sql (scan_of sql) params))
unlost_stays v m g conn s (requests.QuerySql db sql params wide) e = leading v _ (opened s db _ (rows_stay (write_hindrance m g conn s) sql (scan_of sql) params))
unlost_stays v m g conn s (requests.Interrupt db) e = opened s db (Tells responses.Empty) tt
unlost_stays v m g conn s (requests.Connect id address) e = connect_stays v.links (asking.is_other_node v id) id e
unlost_stays v m g conn s (requests.Add id address) e = leading v _ (settled g _ (by (asking.is_barred_node v.servers id address) _ _ tt tt))
unlost_stays v m g conn s (requests.Assign id role) e = leading v _ (settled g _ (assign_stays v id role))
unlost_stays v m g conn s (requests.Remove id) e = leading v _ (settled g _ (remove_stays v id))
unlost_stays v m g conn s (requests.Dump name) e = by (is_named m.names name) _ _ (by (nat_lt 16777216 (asking.body_size (asking.files_of name (m.base name).image))) _ _ tt tt) tt
unlost_stays v m g conn s (requests.Cluster format) e = by (nat_le format 1) _ _ tt tt
unlost_stays v m g conn s (requests.Transfer id) e = leading v _ (by (among (voters v.servers) id) _ _ (by (asking.may_take_over v id) _ _ tt tt) tt)
unlost_stays v m g conn s (requests.Describe format) e = by (format == 0) _ _ tt tt
unlost_stays v m g conn s (requests.Weight weight) e = tt

asked_stays : (v : View) (m : Machine) (g : Gateway) (conn : ℕ) (s : Session) (r : Request) → v.links ≡ false → Stays (asked_by v m g conn s r)
asked_stays v m g conn s r e = asked_both Stays v m g conn s r tt (λ response ends. tt) (unlost_stays v m g conn s r e)

-- ---- what comes of it

-- neither is a query lent nor does the connection come to carry a peer's messages
abbrev pub IsTold : Turned → Type 0
IsTold (Refused cause) = Unit {0}
IsTold Lacks = Unit {0}
IsTold (Answers s reply note) = Unit {0}
IsTold (Proposes s contents note) = Unit {0}
IsTold (Lends s job) = ⊥
IsTold (Affects (HandsOver id)) = Unit {0}
IsTold (Affects (JoinsPeer id)) = ⊥
IsTold (Affects (Weighs weight)) = Unit {0}

on : (b : Bool) (x y : Turned) → IsTold x → IsTold y → IsTold (cond b x y)
on true x y p q = p
on false x y p q = q

unless_told : (o : Option Cause) (x : Turned) → IsTold x → IsTold (unless o x)
unless_told None x p = p
unless_told (Some cause) x p = tt

lent_never : (b c : Bool) (x y : Turned) → b ≡ false → IsTold y → IsTold (cond (b && c) x y)
lent_never true c x y e p = absurd (true≢false e)
lent_never false c x y e p = p

module _ (v : View) (m : Machine) (g : Gateway) (conn : ℕ) (s : Session) where
  outside_told : (ss : List Statement) (rows : Bool) (e : Ending) → IsTold (outside v m g conn s ss rows e)
  unfolding outside outside_write
  outside_told ss rows Lacking = tt
  outside_told ss rows (TooLarge r) = search (on, unless_told)
  outside_told ss rows (Stopped fault) = tt
  outside_told ss rows (Ended to r) = search (on, unless_told)

  inside_told : (x : Transaction) (ss : List Statement) (rows : Bool) (e : Ending) → IsTold (inside m g conn s x ss rows e)
  unfolding inside
  inside_told x ss rows Lacking = tt
  inside_told x ss rows (TooLarge r) = search (on, unless_told)
  inside_told x ss rows (Stopped fault) = tt
  inside_told x ss rows (Ended to r) = search (on, unless_told)

  run_told : (o : Option Transaction) (ss : List Statement) (rows : Bool) (a : List Answer) → IsTold (run_in v m g conn s o ss rows a)
  run_told None ss rows a = outside_told ss rows (runs (m.base s.database).image no_answer ss a)
  run_told (Some x) ss rows a = inside_told x ss rows (runs x.working no_answer ss a)

  read_told : (o : Option Transaction) (q : Statement) (a : List Answer) → v.readers ≡ false → IsTold (read_in v m g conn s o q a)
  read_told None q a unread =
      let e = runs (m.base s.database).image no_answer (q ∷ []) a in
      lent_never v.readers (was_cut e) _ (outside v m g conn s (q ∷ []) true e) unread (outside_told (q ∷ []) true e)
  read_told (Some x) q a unread = run_told (Some x) (q ∷ []) true a

  commit_told : (o : Option Transaction) → IsTold (commit_in v m g conn s o)
  unfolding committed
  commit_told None = tt
  commit_told (Some x) = search (on, unless_told)

  does_told : (x : Asked) (a : List Answer) → v.readers ≡ false → Stays x → IsTold (does v m g conn s x a)
  unfolding does
  does_told (Never cause) a unread h = tt
  does_told (Tells response) a unread h = tt
  does_told (Sets (HandsOver id)) a unread h = tt
  does_told (Sets (JoinsPeer id)) a unread h = h
  does_told (Sets (Weighs weight)) a unread h = tt
  does_told (Opens name barriers) a unread h = tt
  does_told (Creates name barriers) a unread h = search (on)
  does_told (Prepares p tail) a unread h = tt
  does_told (Drops id) a unread h = tt
  does_told (Forgets response) a unread h = tt
  does_told (Begins at_once) a unread h = on (at_once && other_holds g conn s.database) _ _ tt tt
  does_told Commits a unread h = commit_told s.tx
  does_told RollsBack a unread h = tt
  does_told (Changes servers short) a unread h = on (log_full v) _ _ tt tt
  does_told (Runs ss) a unread h = run_told s.tx ss false a
  does_told (Reads q) a unread h = on (waits_first s) _ _ (on (log_full v) _ _ tt tt) (read_told s.tx q a unread)

pub request_told : (v : View) (m : Machine) (g : Gateway) (conn : ℕ) (r : Request) (a : List Answer) → v.links ≡ false → v.readers ≡ false → IsTold (on_request v m g conn r a)
unfolding on_request
request_told v m g conn r a unlinked unread = does_told v m g conn (g.session conn) (asked_by v m g conn (g.session conn) r) a unread (asked_stays v m g conn (g.session conn) r unlinked)

pub later_told : (v : View) (m : Machine) (g : Gateway) (conn : ℕ) (q : Statement) (a : List Answer) → IsTold (on_later v m g conn q a)
unfolding on_later
later_told v m g conn q a = on v.serving _ _ (run_told v m g conn (g.session conn) (g.session conn).tx (q ∷ []) true a) tt
