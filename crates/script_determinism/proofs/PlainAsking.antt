-- What comes of a request looks at other sessions by the names, the kinds and the pages of their proposals alone: it is the same without
-- the numbers of transactions in the replies that wait.
use Rattle.std.proofs.Common.{◌≡◌, ℕ, ◌+◌, Bool, true, false, cond, List, [], ◌∷◌, length, map, Option, Some, None, refl, ap, ◌∙◌}
use Rattle.std.specs.Prelude.{◌==◌, ◌&&◌, ◌||◌, not, nat_lt, nat_le, max, sum_by, bytes_eq}
use Rattle.std.specs.List.{list_any, flat_map}
use Rattle.dq_base.specs.declared.images.Image.{Image}
use Rattle.dq_base.specs.declared.pages.NumberedPage.{NumberedPage}
use Rattle.dq_base.specs.Images.{page_count}
use Rattle.dq_base.specs.Changes.{changed}
use Rattle.wire_msgs.specs.declared.request.Request.{Request}
use Rattle.wire_msgs.specs.declared.request.Request.TheVariants as requests
use Rattle.wire_msgs.specs.declared.response.Response.TheVariants as responses
use Rattle.sql_scan.specs.Statements.{scan_of}
use Rattle.sql_engine.specs.declared.answer.StatementResult.{StatementResult}
use Rattle.sql_engine.specs.Replies.{Statement}
use Rattle.log_commands.specs.declared.command.Command.TheVariants.{OpenDb}
use Rattle.database_state.specs.Files.{empty_image}
use Rattle.session_spec.specs.Causes.{Cause, NotLeader, DatabaseOpen, BadName, ChangeInFlight, Locked, OutOfDate, DatabaseFull, LogFull, TooManyDatabases}
use Rattle.session_spec.specs.Entries.{Does, Configures, Other}
use Rattle.session_spec.specs.Machine.{Machine, is_named}
use Rattle.session_spec.specs.Engines.{Answer, no_pages, takes, Ending, Lacking, TooLarge, Stopped, Ended, no_answer, runs}
use Rattle.session_spec.specs.Sessions.{Reply, Refusal, Single, Rows, result, empty, Prepared, Kind, Opening, Configuring, Writing, Committing, Querying, Flight, Transaction, Lent, Session, Gateway, View, Note, Nothing, Began, Inside, Outside, Turned, Refused, Lacks, Answers, Proposes, Lends, Affects, responses_of, in_tx}
use Rattle.session_spec.specs.Limits.{is_write, writes_to, holds_write_lock, holds, other_holds, configures, is_configuring, change_in_flight, opens, opened_by, with_names, all_names, one_too_many, flown_by, most, pending_pages, held_pages, pages_with, pages_full, too_full, first_cause, change_refusal, hinders_in, write_hindrance, log_full}
use Rattle.session_spec.specs.Statements.{prepared_at, free_id, with_prepared, without_prepared}
use Rattle.session_spec.specs.Asking.{Asked, Never, Tells, Sets, Opens, Creates, Prepares, Drops, Forgets, Begins, Commits, RollsBack, Changes, Runs, Reads, at_leader, in_database, asks_add, asks_assign, asks_remove, asks_text, asks_rows, asks_exec, asks_prepared_query, has_database, is_name, barriers_asked, asks_lost, unless_lost, asked_unless_lost, asked_by}
use Rattle.session_spec.specs.Requests.{with_session, without_later, with_tx, with_statements, with_lost, with_later, with_barriers, worked, begun, begun_over, flying, unless, row_cause, reply_of, change_of, outside_write, outside, inside, run_in, has_nothing, committed, commit_in, waits_first, barrier_first, job_of, was_cut, read_in, does, on_request, on_later, handed_for, handed, handed_later}
use Rattle.node_core.specs.Plain.{plain_reply, plain_kind, plain_flight, plain_session, plain_gate}

-- what comes of a request, without them
abbrev pub plain_turned : Turned → Turned
plain_turned (Refused cause) = Refused cause
plain_turned Lacks = Lacks
plain_turned (Answers s reply note) = Answers (plain_session s) (plain_reply reply) note
plain_turned (Proposes s contents note) = Proposes (plain_session s) contents note
plain_turned (Lends s job) = Lends (plain_session s) job
plain_turned (Affects effect) = Affects effect

-- ---- twice is once

reply_twice : (r : Reply) → plain_reply (plain_reply r) ≡ plain_reply r
reply_twice (Refusal cause) = refl
reply_twice (Single response) = refl
reply_twice (Rows answer) = refl

kind_twice : (k : Kind) → plain_kind (plain_kind k) ≡ plain_kind k
kind_twice Opening = refl
kind_twice (Configuring short) = refl
kind_twice (Writing reply) = ap (λ (r : Reply). Writing r) (reply_twice reply)
kind_twice Committing = refl
kind_twice (Querying statement) = refl

flight_twice : (o : Option Flight) → plain_flight (plain_flight o) ≡ plain_flight o
flight_twice None = refl
flight_twice (Some f) = ap (λ (k : Kind). Some (record { name = f.name; first = f.first; last = f.last; term = f.term; pages = f.pages; kind = k })) (kind_twice f.kind)

pub session_twice : (s : Session) → plain_session (plain_session s) ≡ plain_session s
session_twice s = ap (λ (o : Option Flight). record { there = s.there; hung = s.hung; database = s.database; barriers = s.barriers; later = s.later; statements = s.statements; tx = s.tx; lost = s.lost; flight = o }) (flight_twice s.flight)

pub responses_plain : (r : Reply) → responses_of (plain_reply r) ≡ responses_of r
responses_plain (Refusal cause) = refl
responses_plain (Single response) = refl
responses_plain (Rows answer) = refl

-- a session that is changed
pub without_plain : (g : Gateway) (conn : ℕ) → plain_gate (without_later g conn) ≡ without_later (plain_gate g) conn
unfolding with_session
without_plain g conn = λ i. record { conns = g.conns; session = λ other. at other (other == conn) i; weight = g.weight }
  where
    at : (other : ℕ) (b : Bool) → plain_session (cond b (with_later (g.session conn) None) (g.session other)) ≡ cond b (with_later (plain_session (g.session conn)) None) (plain_session (g.session other))
    at other true = refl
    at other false = refl

-- ---- other sessions

write_plain : (k : Kind) → is_write (plain_kind k) ≡ is_write k
write_plain Opening = refl
write_plain (Configuring short) = refl
write_plain (Writing reply) = refl
write_plain Committing = refl
write_plain (Querying statement) = refl

writes_plain : (o : Option Flight) (name : List ℕ) → writes_to (plain_flight o) name ≡ writes_to o name
writes_plain None name = refl
writes_plain (Some f) name = ap (λ (b : Bool). b && bytes_eq f.name name) (write_plain f.kind)

holds_plain : (s : Session) (name : List ℕ) → holds (plain_session s) name ≡ holds s name
unfolding holds
holds_plain s name = ap (λ (b : Bool). b || holds_write_lock s.tx name) (writes_plain s.flight name)

other_plain : (g : Gateway) (conn : ℕ) (name : List ℕ) → other_holds (plain_gate g) conn name ≡ other_holds g conn name
unfolding other_holds
other_plain g conn name = λ i. list_any (λ (other : ℕ). not (other == conn) && holds_plain (g.session other) name i) g.conns

configures_plain : (k : Kind) → configures (plain_kind k) ≡ configures k
configures_plain Opening = refl
configures_plain (Configuring short) = refl
configures_plain (Writing reply) = refl
configures_plain Committing = refl
configures_plain (Querying statement) = refl

configuring_plain : (o : Option Flight) → is_configuring (plain_flight o) ≡ is_configuring o
configuring_plain None = refl
configuring_plain (Some f) = configures_plain f.kind

change_plain : (g : Gateway) → change_in_flight (plain_gate g) ≡ change_in_flight g
unfolding change_in_flight
change_plain g = λ i. list_any (λ (conn : ℕ). configuring_plain (g.session conn).flight i) g.conns

opens_plain : (k : Kind) (name : List ℕ) → opens (plain_kind k) name ≡ opens k name
opens_plain Opening name = refl
opens_plain (Configuring short) name = refl
opens_plain (Writing reply) name = refl
opens_plain Committing name = refl
opens_plain (Querying statement) name = refl

opened_plain : (o : Option Flight) → opened_by (plain_flight o) ≡ opened_by o
opened_plain None = refl
opened_plain (Some f) = opens_plain f.kind f.name

names_plain : (m : Machine) (g : Gateway) → all_names m (plain_gate g) ≡ all_names m g
unfolding all_names
names_plain m g = λ i. with_names m.names (flat_map (λ (conn : ℕ). opened_plain (g.session conn).flight i) g.conns)

many_plain : (m : Machine) (g : Gateway) (name : List ℕ) → one_too_many m (plain_gate g) name ≡ one_too_many m g name
unfolding one_too_many
many_plain m g name = ap (λ (names : List (List ℕ)). not (is_named names name) && nat_le 16 (length names)) (names_plain m g)

flown_one : (o : Option Flight) (name : List ℕ) → flown_by (plain_flight o) name ≡ flown_by o name
flown_one None name = refl
flown_one (Some f) name = ap (λ (b : Bool). cond b f.pages 0) (writes_plain (Some f) name)

flown_plain : (g : Gateway) (name : List ℕ) → pending_pages (plain_gate g) name ≡ pending_pages g name
unfolding pending_pages
flown_plain g name = λ i. most (map (λ (conn : ℕ). flown_one (g.session conn).flight name i) g.conns)

held_plain : (m : Machine) (g : Gateway) (name : List ℕ) → held_pages m (plain_gate g) name ≡ held_pages m g name
held_plain m g name = ap (λ (n : ℕ). max (page_count (m.base name).image) n) (flown_plain g name)

pages_plain : (m : Machine) (g : Gateway) (name : List ℕ) (pages : ℕ) → pages_with m (plain_gate g) name pages ≡ pages_with m g name pages
unfolding pages_with
pages_plain m g name pages = λ i. max (held_plain m g name i) pages + sum_by (λ (other : List ℕ). cond (bytes_eq other name) 0 (held_plain m g other i)) (names_plain m g i)

full_plain : (m : Machine) (g : Gateway) (name : List ℕ) (to : Image) → pages_full m (plain_gate g) name to ≡ pages_full m g name to
full_plain m g name to = ap (λ (n : ℕ). nat_lt 16384 n) (pages_plain m g name (page_count to))

too_plain : (m : Machine) (g : Gateway) (name : List ℕ) (pages : List NumberedPage) (to : Image) → too_full m (plain_gate g) name pages to ≡ too_full m g name pages to
unfolding too_full
too_plain m g name pages to = ap (λ (b : Bool). not (takes pages) || b) (full_plain m g name to)

hindrance_plain : (m : Machine) (g : Gateway) (conn : ℕ) (name : List ℕ) (mark : ℕ) (pages : List NumberedPage) (to : Image)
    → change_refusal m (plain_gate g) conn name mark pages to ≡ change_refusal m g conn name mark pages to
unfolding change_refusal
hindrance_plain m g conn name mark pages to =
    λ i. first_cause (other_plain g conn name i) Locked (first_cause (not ((m.base name).newest == mark)) OutOfDate (first_cause (too_plain m g name pages to i) DatabaseFull None))

hinders_plain : (m : Machine) (g : Gateway) (conn : ℕ) (s : Session) (o : Option Transaction) → hinders_in m (plain_gate g) conn (plain_session s) o ≡ hinders_in m g conn s o
hinders_plain m g conn s None = ap (λ (b : Bool). first_cause b Locked None) (other_plain g conn s.database)
hinders_plain m g conn s (Some x) = ap (λ (b : Bool). first_cause b Locked (first_cause (not ((m.base x.name).newest == x.mark)) OutOfDate None)) (other_plain g conn x.name)

write_hindrance_plain : (m : Machine) (g : Gateway) (conn : ℕ) (s : Session) → write_hindrance m (plain_gate g) conn (plain_session s) ≡ write_hindrance m g conn s
unfolding write_hindrance
write_hindrance_plain m g conn s = hinders_plain m g conn s s.tx

-- ---- what is asked

unlost_plain : (v : View) (m : Machine) (g : Gateway) (conn : ℕ) (s : Session) (r : Request) → asked_unless_lost v m (plain_gate g) conn (plain_session s) r ≡ asked_unless_lost v m g conn s r
unfolding asked_unless_lost
unlost_plain v m g conn s (requests.Open name flags vfs) =
    ap (λ (b : Bool). at_leader v (cond (has_database s) (Never DatabaseOpen) (cond (not (is_name name)) (Never BadName) (cond (is_named m.names name) (Opens name (barriers_asked flags))
    (cond b (Never TooManyDatabases) (cond (log_full v) (Never LogFull) (Creates name (barriers_asked flags)))))))) (many_plain m g name)
unlost_plain v m g conn s (requests.Exec db id params wide) =
    ap (λ (o : Option Cause). at_leader v (in_database s db (asks_exec o (in_tx s) (prepared_at s.statements id) params))) (write_hindrance_plain m g conn s)
unlost_plain v m g conn s (requests.Query db id params wide) =
    ap (λ (o : Option Cause). at_leader v (in_database s db (asks_prepared_query o (prepared_at s.statements id) params))) (write_hindrance_plain m g conn s)
unlost_plain v m g conn s (requests.ExecSql db sql params wide) =
    ap (λ (o : Option Cause). at_leader v (in_database s db (asks_text o (in_tx s) sql (scan_of sql) params))) (write_hindrance_plain m g conn s)
unlost_plain v m g conn s (requests.QuerySql db sql params wide) =
    ap (λ (o : Option Cause). at_leader v (in_database s db (asks_rows o sql (scan_of sql) params))) (write_hindrance_plain m g conn s)
unlost_plain v m g conn s (requests.Add id address) = ap (λ (b : Bool). at_leader v (cond b (Never ChangeInFlight) (asks_add v.servers id address))) (change_plain g)
unlost_plain v m g conn s (requests.Assign id role) = ap (λ (b : Bool). at_leader v (cond b (Never ChangeInFlight) (asks_assign v id role))) (change_plain g)
unlost_plain v m g conn s (requests.Remove id) = ap (λ (b : Bool). at_leader v (cond b (Never ChangeInFlight) (asks_remove v id))) (change_plain g)
unlost_plain v m g conn s r = refl

-- what is asked while a transaction is lost is of the session's database and statements
lost_plain : (s : Session) (r : Request) → asks_lost (plain_session s) r ≡ asks_lost s r
lost_plain s (requests.Exec db id params wide) = refl
lost_plain s (requests.ExecSql db sql params wide) = refl
lost_plain s r = refl

asked_plain : (v : View) (m : Machine) (g : Gateway) (conn : ℕ) (s : Session) (r : Request) → asked_by v m (plain_gate g) conn (plain_session s) r ≡ asked_by v m g conn s r
unfolding asked_by
asked_plain v m g conn s r =
    ap (λ (o : Option Asked). unless_lost s.lost o (asked_unless_lost v m (plain_gate g) conn (plain_session s) r)) (lost_plain s r)
    ∙ ap (unless_lost s.lost (asks_lost s r)) (unlost_plain v m g conn s r)

pub handed_plain : (v : View) (m : Machine) (g : Gateway) (conn : ℕ) (r : Request) → handed v m (plain_gate g) conn r ≡ handed v m g conn r
unfolding handed
handed_plain v m g conn r = ap (handed_for m (g.session conn)) (asked_plain v m g conn (g.session conn) r)

pub handed_later_plain : (v : View) (m : Machine) (g : Gateway) (conn : ℕ) (s : Statement) → handed_later v m (plain_gate g) conn s ≡ handed_later v m g conn s
unfolding handed_later
handed_later_plain v m g conn s = refl

-- ---- what comes of it

-- a choice that is the same where both sides are
pub both : (b : Bool) (x y u v : Turned) → plain_turned x ≡ plain_turned u → plain_turned y ≡ plain_turned v → plain_turned (cond b x y) ≡ plain_turned (cond b u v)
both true x y u v p q = p
both false x y u v p q = q

-- by a test that is the same too
either : (b c : Bool) (x y u v : Turned) → b ≡ c → plain_turned x ≡ plain_turned u → plain_turned y ≡ plain_turned v → plain_turned (cond b x y) ≡ plain_turned (cond c u v)
either b c x y u v e p q = ap (λ (d : Bool). plain_turned (cond d x y)) e ∙ both c x y u v p q

pub unless_both : (o : Option Cause) (x u : Turned) → plain_turned x ≡ plain_turned u → plain_turned (unless o x) ≡ plain_turned (unless o u)
unless_both None x u p = p
unless_both (Some cause) x u p = refl

unless_either : (o p : Option Cause) (x u : Turned) → o ≡ p → plain_turned x ≡ plain_turned u → plain_turned (unless o x) ≡ plain_turned (unless p u)
unless_either o p x u e h = ap (λ (q : Option Cause). plain_turned (unless q x)) e ∙ unless_both p x u h

-- an answer with the session as it was, or with another transaction
answers_twice : (s : Session) (reply : Reply) (note : Note) → plain_turned (Answers (plain_session s) reply note) ≡ plain_turned (Answers s reply note)
answers_twice s reply note = ap (λ (z : Session). Answers z (plain_reply reply) note) (session_twice s)

tx_twice : (s : Session) (tx : Option Transaction) (reply : Reply) (note : Note) → plain_turned (Answers (with_tx (plain_session s) tx) reply note) ≡ plain_turned (Answers (with_tx s tx) reply note)
tx_twice s tx reply note = ap (λ (z : Session). Answers (with_tx z tx) (plain_reply reply) note) (session_twice s)

statements_twice : (s : Session) (ps : List (Option Prepared)) (reply : Reply) (note : Note) → plain_turned (Answers (with_statements (plain_session s) ps) reply note) ≡ plain_turned (Answers (with_statements s ps) reply note)
statements_twice s ps reply note = ap (λ (z : Session). Answers (with_statements z ps) (plain_reply reply) note) (session_twice s)

lost_twice : (s : Session) (lost : Bool) (reply : Reply) (note : Note) → plain_turned (Answers (with_lost (plain_session s) lost) reply note) ≡ plain_turned (Answers (with_lost s lost) reply note)
lost_twice s lost reply note = ap (λ (z : Session). Answers (with_lost z lost) (plain_reply reply) note) (session_twice s)

lends_twice : (m : Machine) (s : Session) (statement : Statement)
    → plain_turned (Lends (with_later (plain_session s) (Some (Lent statement))) (job_of m (plain_session s) statement)) ≡ plain_turned (Lends (with_later s (Some (Lent statement))) (job_of m s statement))
lends_twice m s statement = ap (λ (z : Session). Lends (with_later z (Some (Lent statement))) (job_of m s statement)) (session_twice s)

module _ (v : View) (m : Machine) (g : Gateway) (conn : ℕ) (s : Session) where
  abbrev proposed : List Statement → Bool → List NumberedPage → Image → StatementResult → Session → Turned
  proposed ss rows pages to r z = Proposes (flying v z s.database (change_of v s.database pages) (page_count to) (Writing (reply_of rows r))) (change_of v s.database pages) (Outside s.database ss)

  write_at : (ss : List Statement) (rows : Bool) (pages : List NumberedPage) (to : Image) (r : StatementResult)
      → plain_turned (outside_write v m (plain_gate g) conn (plain_session s) ss rows pages to r) ≡ plain_turned (outside_write v m g conn s ss rows pages to r)
  unfolding outside_write
  write_at ss rows pages to r =
      unless_either
      (first_cause (log_full v) LogFull (row_cause rows r (change_refusal m (plain_gate g) conn s.database (m.base s.database).newest pages to)))
      (first_cause (log_full v) LogFull (row_cause rows r (change_refusal m g conn s.database (m.base s.database).newest pages to)))
      (proposed ss rows pages to r (plain_session s)) (proposed ss rows pages to r s)
      (ap (λ (o : Option Cause). first_cause (log_full v) LogFull (row_cause rows r o)) (hindrance_plain m g conn s.database (m.base s.database).newest pages to)) refl

  abbrev told_outside : List Statement → Bool → StatementResult → Session → Turned
  told_outside ss rows r z = unless (row_cause rows r None) (Answers z (reply_of rows r) (Outside s.database ss))

  outside_at : (ss : List Statement) (rows : Bool) (e : Ending) → plain_turned (outside v m (plain_gate g) conn (plain_session s) ss rows e) ≡ plain_turned (outside v m g conn s ss rows e)
  unfolding outside
  outside_at ss rows Lacking = refl
  outside_at ss rows (TooLarge r) =
      ap (λ (o : Option Cause). plain_turned (unless (first_cause (log_full v) LogFull (row_cause rows r o)) (Refused DatabaseFull)))
      (hindrance_plain m g conn s.database (m.base s.database).newest r.after.pages (m.base s.database).image)
  outside_at ss rows (Stopped fault) = refl
  outside_at ss rows (Ended to r) =
      let pages = changed (m.base s.database).image to in
      both (no_pages pages) (told_outside ss rows r (plain_session s)) (outside_write v m (plain_gate g) conn (plain_session s) ss rows pages to r)
      (told_outside ss rows r s) (outside_write v m g conn s ss rows pages to r)
      (unless_both (row_cause rows r None) (Answers (plain_session s) (reply_of rows r) (Outside s.database ss)) (Answers s (reply_of rows r) (Outside s.database ss)) (answers_twice s (reply_of rows r) (Outside s.database ss)))
      (write_at ss rows pages to r)

  abbrev told_inside : Transaction → List Statement → Bool → Image → Bool → StatementResult → Session → Turned
  told_inside x ss rows to turn r z = Answers (worked z x to turn) (reply_of rows r) (Inside x.name ss)

  works_twice : (x : Transaction) (ss : List Statement) (rows : Bool) (to : Image) (turn : Bool) (r : StatementResult) → plain_turned (told_inside x ss rows to turn r (plain_session s)) ≡ plain_turned (told_inside x ss rows to turn r s)
  works_twice x ss rows to turn r = ap (λ (z : Session). Answers (worked z x to turn) (plain_reply (reply_of rows r)) (Inside x.name ss)) (session_twice s)

  inside_at : (x : Transaction) (ss : List Statement) (rows : Bool) (e : Ending) → plain_turned (inside m (plain_gate g) conn (plain_session s) x ss rows e) ≡ plain_turned (inside m g conn s x ss rows e)
  unfolding inside
  inside_at x ss rows Lacking = refl
  inside_at x ss rows (TooLarge r) =
      ap (λ (o : Option Cause). plain_turned (unless (row_cause rows r o) (Refused DatabaseFull))) (hindrance_plain m g conn x.name x.mark r.after.pages x.working)
  inside_at x ss rows (Stopped fault) = refl
  inside_at x ss rows (Ended to r) =
      let pages = changed x.working to in
      both (no_pages pages) (unless (row_cause rows r None) (told_inside x ss rows to x.turn r (plain_session s))) (unless (row_cause rows r (change_refusal m (plain_gate g) conn x.name x.mark pages to)) (told_inside x ss rows to true r (plain_session s)))
      (unless (row_cause rows r None) (told_inside x ss rows to x.turn r s)) (unless (row_cause rows r (change_refusal m g conn x.name x.mark pages to)) (told_inside x ss rows to true r s))
      (unless_both (row_cause rows r None) (told_inside x ss rows to x.turn r (plain_session s)) (told_inside x ss rows to x.turn r s) (works_twice x ss rows to x.turn r))
      (unless_either (row_cause rows r (change_refusal m (plain_gate g) conn x.name x.mark pages to)) (row_cause rows r (change_refusal m g conn x.name x.mark pages to)) (told_inside x ss rows to true r (plain_session s)) (told_inside x ss rows to true r s)
      (ap (λ (o : Option Cause). row_cause rows r o) (hindrance_plain m g conn x.name x.mark pages to)) (works_twice x ss rows to true r))

  run_at : (o : Option Transaction) (ss : List Statement) (rows : Bool) (a : List Answer) → plain_turned (run_in v m (plain_gate g) conn (plain_session s) o ss rows a) ≡ plain_turned (run_in v m g conn s o ss rows a)
  run_at None ss rows a = outside_at ss rows (runs (m.base s.database).image no_answer ss a)
  run_at (Some x) ss rows a = inside_at x ss rows (runs x.working no_answer ss a)

  read_at : (o : Option Transaction) (q : Statement) (a : List Answer) → plain_turned (read_in v m (plain_gate g) conn (plain_session s) o q a) ≡ plain_turned (read_in v m g conn s o q a)
  read_at None q a =
      let e = runs (m.base s.database).image no_answer (q ∷ []) a in
      both (v.readers && was_cut e) (Lends (with_later (plain_session s) (Some (Lent q))) (job_of m (plain_session s) q)) (outside v m (plain_gate g) conn (plain_session s) (q ∷ []) true e)
      (Lends (with_later s (Some (Lent q))) (job_of m s q)) (outside v m g conn s (q ∷ []) true e) (lends_twice m s q) (outside_at (q ∷ []) true e)
  read_at (Some x) q a = run_at (Some x) (q ∷ []) true a

  abbrev commits : Transaction → Session → Turned
  commits x z = Proposes (flying v z x.name (change_of v x.name (changed x.pinned x.working)) (page_count x.working) Committing) (change_of v x.name (changed x.pinned x.working)) Nothing

  commit_at : (o : Option Transaction) → plain_turned (commit_in v m (plain_gate g) conn (plain_session s) o) ≡ plain_turned (commit_in v m g conn s o)
  unfolding committed
  commit_at None = refl
  commit_at (Some x) =
      let pages = changed x.pinned x.working in
      both (has_nothing x) (Answers (with_tx (plain_session s) None) (result 0) Nothing) (unless (first_cause (log_full v) LogFull (change_refusal m (plain_gate g) conn x.name x.mark pages x.working)) (commits x (plain_session s)))
      (Answers (with_tx s None) (result 0) Nothing) (unless (first_cause (log_full v) LogFull (change_refusal m g conn x.name x.mark pages x.working)) (commits x s))
      (tx_twice s None (result 0) Nothing)
      (unless_either (first_cause (log_full v) LogFull (change_refusal m (plain_gate g) conn x.name x.mark pages x.working)) (first_cause (log_full v) LogFull (change_refusal m g conn x.name x.mark pages x.working)) (commits x (plain_session s)) (commits x s)
      (ap (λ (o : Option Cause). first_cause (log_full v) LogFull o) (hindrance_plain m g conn x.name x.mark pages x.working)) refl)

  does_at : (x : Asked) (a : List Answer) → plain_turned (does v m (plain_gate g) conn (plain_session s) x a) ≡ plain_turned (does v m g conn s x a)
  unfolding does
  does_at (Never cause) a = refl
  does_at (Tells response) a = answers_twice s (Single response) Nothing
  does_at (Sets effect) a = refl
  does_at (Opens name barriers) a = refl
  does_at (Creates name barriers) a =
      either (pages_full m (plain_gate g) name empty_image) (pages_full m g name empty_image) (Refused DatabaseFull) (Proposes (flying v (with_barriers (plain_session s) barriers) name (Does (OpenDb name) ∷ []) 0 Opening) (Does (OpenDb name) ∷ []) Nothing)
      (Refused DatabaseFull) (Proposes (flying v (with_barriers s barriers) name (Does (OpenDb name) ∷ []) 0 Opening) (Does (OpenDb name) ∷ []) Nothing) (full_plain m g name empty_image) refl refl
  does_at (Prepares p tail) a = statements_twice s (with_prepared p s.statements) (Single (responses.Stmt 0 (free_id s.statements) p.params tail)) Nothing
  does_at (Drops id) a = statements_twice s (without_prepared id s.statements) empty Nothing
  does_at (Forgets response) a = lost_twice s false (Single response) Nothing
  does_at (Begins at_once) a =
      either (at_once && other_holds (plain_gate g) conn s.database) (at_once && other_holds g conn s.database) (Refused Locked) (Answers (begun m (plain_session s) at_once) (result 0) Began)
      (Refused Locked) (Answers (begun m s at_once) (result 0) Began) (ap (λ (b : Bool). at_once && b) (other_plain g conn s.database)) refl
      (tx_twice s (Some (begun_over s.database (m.base s.database) at_once)) (result 0) Began)
  does_at Commits a = commit_at s.tx
  does_at RollsBack a = tx_twice s None (result 0) Nothing
  does_at (Changes servers short) a =
      both (log_full v) (Refused LogFull) (Proposes (flying v (plain_session s) [] (Configures servers ∷ []) 0 (Configuring short)) (Configures servers ∷ []) Nothing)
      (Refused LogFull) (Proposes (flying v s [] (Configures servers ∷ []) 0 (Configuring short)) (Configures servers ∷ []) Nothing) refl refl
  does_at (Runs ss) a = run_at s.tx ss false a
  does_at (Reads q) a =
      both (waits_first s) (barrier_first v (plain_session s) q) (read_in v m (plain_gate g) conn (plain_session s) s.tx q a) (barrier_first v s q) (read_in v m g conn s s.tx q a)
      (both (log_full v) (Refused LogFull) (Proposes (flying v (plain_session s) [] (Other ∷ []) 0 (Querying q)) (Other ∷ []) Nothing) (Refused LogFull) (Proposes (flying v s [] (Other ∷ []) 0 (Querying q)) (Other ∷ []) Nothing) refl refl)
      (read_at s.tx q a)

-- A request gives the same without them,
pub request_plain : (v : View) (m : Machine) (g : Gateway) (conn : ℕ) (r : Request) (a : List Answer) → plain_turned (on_request v m (plain_gate g) conn r a) ≡ plain_turned (on_request v m g conn r a)
unfolding on_request
request_plain v m g conn r a =
    ap (λ (x : Asked). plain_turned (does v m (plain_gate g) conn (plain_session (g.session conn)) x a)) (asked_plain v m g conn (g.session conn) r)
    ∙ does_at v m g conn (g.session conn) (asked_by v m g conn (g.session conn) r) a

-- and so does a query that is run later.
pub later_plain : (v : View) (m : Machine) (g : Gateway) (conn : ℕ) (q : Statement) (a : List Answer) → plain_turned (on_later v m (plain_gate g) conn q a) ≡ plain_turned (on_later v m g conn q a)
unfolding on_later
later_plain v m g conn q a =
    let s = g.session conn in
    both v.serving (run_in v m (plain_gate g) conn (plain_session s) s.tx (q ∷ []) true a) (Refused NotLeader) (run_in v m g conn s s.tx (q ∷ []) true a) (Refused NotLeader) (run_at v m g conn s s.tx (q ∷ []) true a) refl
