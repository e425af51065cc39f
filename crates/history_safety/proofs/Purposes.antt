-- A client opens a database once, and begins transactions in it alone.
use Rattle.std.proofs.Common.{◌≡◌, ℕ, Bool, true, false, List, [], ◌∷◌, refl}
use Rattle.std.specs.Prelude.{not, ◌&&◌, ◌||◌, ◌==◌, is_none, map, Option, Some, None, Result, Ok, Err}
use Rattle.wire_words.specs.declared.value.Value.{Value}
use Rattle.wire_msgs.specs.declared.request.Request.{Request}
use Rattle.wire_msgs.specs.declared.request.Request.TheVariants as requests
use Rattle.sql_scan.specs.declared.pieces.StatementSpan.{StatementSpan}
use Rattle.sql_scan.specs.declared.fault.ScanFault.{ScanFault}
use Rattle.sql_scan.specs.declared.heading.WordKind.{WordKind}
use Rattle.sql_scan.specs.declared.heading.WordKind.TheVariants as words
use Rattle.sql_scan.specs.Statements.{scan_of}
use Rattle.sql_engine.specs.Replies.{Statement}
use Rattle.session_spec.specs.Sessions.{Prepared}
use Rattle.session_spec.specs.Asking.{barriers_asked, is_name, tail_of}
use Rattle.session_spec.specs.Statements.{prepared_from, with_params, with_all, any_barred, is_left_out, wrong_params}
use Rattle.headline.specs.Clients.{Client, Transaction, Idle, Begun, Lost, Purpose, Never, Opens, Begins, Commits, RollsBack, Runs, Prepares, Drops, Dumps, Empties, Other, unless, kind_purpose, is_idle, sole_purpose, list_purpose, text_purpose, query_purpose, query_text_purpose, prepared_purpose, prepare_purpose, has_database, unless_lost, request_purpose, purpose}

-- An OPEN comes first, and a BEGIN comes after it.
abbrev pub NeedsDatabase : Bool → Purpose → Type 0
NeedsDatabase b Never = Unit {0}
NeedsDatabase b (Opens name barriers) = b ≡ false
NeedsDatabase b Begins = b ≡ true
NeedsDatabase b Commits = Unit {0}
NeedsDatabase b RollsBack = Unit {0}
NeedsDatabase b (Runs rows ss) = Unit {0}
NeedsDatabase b (Prepares p tail) = Unit {0}
NeedsDatabase b (Drops id) = Unit {0}
NeedsDatabase b (Dumps name) = Unit {0}
NeedsDatabase b Empties = Unit {0}
NeedsDatabase b Other = Unit {0}

unless_needs : (b c : Bool) (w : Purpose) → NeedsDatabase b w → NeedsDatabase b (unless c w)
unless_needs b true w h = tt
unless_needs b false w h = h

lost_needs : (b : Bool) (t : Transaction) (w : Purpose) → NeedsDatabase b w → NeedsDatabase b (unless_lost t w)
lost_needs b Idle w h = h
lost_needs b (Begun begin last) w h = h
lost_needs b Lost Never h = h
lost_needs b Lost (Opens name barriers) h = h
lost_needs b Lost Begins h = h
lost_needs b Lost Commits h = h
lost_needs b Lost RollsBack h = h
lost_needs b Lost (Runs rows ss) h = tt
lost_needs b Lost (Prepares p tail) h = tt
lost_needs b Lost (Drops id) h = h
lost_needs b Lost (Dumps name) h = h
lost_needs b Lost Empties h = h
lost_needs b Lost Other h = h

open_needs : (b c : Bool) (name : List ℕ) (barriers : Bool) → NeedsDatabase b (unless (b || c) (Opens name barriers))
open_needs true c name barriers = tt
open_needs false true name barriers = tt
open_needs false false name barriers = refl

-- what is asked for in a database is not OPEN, and may be BEGIN
in_needs : (b c : Bool) (w : Purpose) → NeedsDatabase true w → NeedsDatabase b (unless (not (b && c)) w)
in_needs false c w h = tt
in_needs true false w h = tt
in_needs true true w h = h

kind_needs : (idle : Bool) (word : WordKind) (s : Statement) → NeedsDatabase true (kind_purpose idle word s)
kind_needs idle (words.Begin at_once) s = unless_needs true (not idle) Begins refl
kind_needs idle words.Commit s = unless_needs true idle Commits tt
kind_needs idle words.Rollback s = unless_needs true idle RollsBack tt
kind_needs idle words.Write s = tt
kind_needs idle words.LeftOut s = tt
kind_needs idle words.Other s = tt

sole_needs : (s : Client) (p : Prepared) (params : List Value) → NeedsDatabase true (sole_purpose s p params)
sole_needs s p params = unless_needs true (wrong_params (p ∷ []) params) (kind_purpose (is_idle s.transaction) p.word (with_all p params))
    (kind_needs (is_idle s.transaction) p.word (with_all p params))

list_needs : (s : Client) (ps : List Prepared) (params : List Value) → NeedsDatabase true (list_purpose s ps params)
list_needs s [] params = unless_needs true (any_barred [] || wrong_params [] params) (Runs false (with_params [] params)) tt
list_needs s (p ∷ []) params = sole_needs s p params
list_needs s (p ∷ q ∷ ps) params = unless_needs true (any_barred (p ∷ q ∷ ps) || wrong_params (p ∷ q ∷ ps) params)
    (Runs false (with_params (p ∷ q ∷ ps) params)) tt

text_needs : (s : Client) (sql : List ℕ) (scanned : Result (List StatementSpan) ScanFault) (params : List Value) →
    NeedsDatabase true (text_purpose s sql scanned params)
text_needs s sql (Err fault) params = tt
text_needs s sql (Ok spans) params = list_needs s (map (prepared_from sql) spans) params

query_needs : (p : Prepared) (params : List Value) → NeedsDatabase true (query_purpose p params)
query_needs p params = unless_needs true (any_barred (p ∷ []) || wrong_params (p ∷ []) params) (Runs true (with_all p params ∷ [])) tt

query_text_needs : (sql : List ℕ) (scanned : Result (List StatementSpan) ScanFault) (params : List Value) →
    NeedsDatabase true (query_text_purpose sql scanned params)
query_text_needs sql (Ok []) params = tt
query_text_needs sql (Ok (p ∷ [])) params = query_needs (prepared_from sql p) params
query_text_needs sql (Ok (p ∷ q ∷ ps)) params = tt
query_text_needs sql (Err fault) params = tt

prepared_needs : (s : Client) (rows : Bool) (o : Option Prepared) (params : List Value) → NeedsDatabase true (prepared_purpose s rows o params)
prepared_needs s true None params = tt
prepared_needs s false None params = tt
prepared_needs s true (Some p) params = query_needs p params
prepared_needs s false (Some p) params = sole_needs s p params

prepare_needs : (sql : List ℕ) (wide : Bool) (scanned : Result (List StatementSpan) ScanFault) → NeedsDatabase true (prepare_purpose sql wide scanned)
prepare_needs sql wide (Ok []) = tt
prepare_needs sql wide (Ok (p ∷ [])) = unless_needs true (is_left_out p.word) (Prepares (prepared_from sql p) (tail_of wide p)) tt
prepare_needs sql wide (Ok (p ∷ q ∷ ps)) = unless_needs true (not wide || any_barred (map (prepared_from sql) (p ∷ q ∷ ps)))
    (Prepares (prepared_from sql p) (tail_of wide p)) tt
prepare_needs sql wide (Err fault) = tt

request_needs : (s : Client) (r : Request) → NeedsDatabase (has_database s) (request_purpose s r)
request_needs s (requests.Open name flags vfs) = open_needs (has_database s) (not (is_name name)) name (barriers_asked flags)
request_needs s (requests.Prepare db sql wide) = in_needs (has_database s) (db == 0) (prepare_purpose sql wide (scan_of sql))
    (prepare_needs sql wide (scan_of sql))
request_needs s (requests.ExecSql db sql params wide) = in_needs (has_database s) (db == 0) (text_purpose s sql (scan_of sql) params)
    (text_needs s sql (scan_of sql) params)
request_needs s (requests.QuerySql db sql params wide) = in_needs (has_database s) (db == 0) (query_text_purpose sql (scan_of sql) params)
    (query_text_needs sql (scan_of sql) params)
request_needs s (requests.Exec db id params wide) = in_needs (has_database s) (db == 0) (prepared_purpose s false (s.prepared id) params)
    (prepared_needs s false (s.prepared id) params)
request_needs s (requests.Query db id params wide) = in_needs (has_database s) (db == 0) (prepared_purpose s true (s.prepared id) params)
    (prepared_needs s true (s.prepared id) params)
request_needs s (requests.Finalize db id) = in_needs (has_database s) (db == 0) (unless (is_none (s.prepared id)) (Drops id))
    (unless_needs true (is_none (s.prepared id)) (Drops id) tt)
request_needs s (requests.Interrupt db) = in_needs (has_database s) (db == 0) Empties tt
request_needs s (requests.Dump name) = tt
request_needs s (requests.Connect id address) = tt
request_needs s (requests.Add id address) = tt
request_needs s (requests.Assign id role) = tt
request_needs s (requests.Remove id) = tt
request_needs s (requests.Transfer id) = tt
request_needs s (requests.Weight weight) = tt
request_needs s requests.Leader = tt
request_needs s (requests.Client id) = tt
request_needs s (requests.Cluster format) = tt
request_needs s (requests.Describe format) = tt

pub purpose_needs : (s : Client) (request : Option Request) → NeedsDatabase (has_database s) (purpose s request)
purpose_needs s None = tt
purpose_needs s (Some r) = lost_needs (has_database s) s.transaction (request_purpose s r) (request_needs s r)
