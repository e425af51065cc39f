-- Whatever a request asks for, it may: the one walk over the rules that come before the engine.
use Rattle.std.proofs.Common.{◌≡◌, ◌≢◌, inl, inr, ℕ, ◌≤◌, Bool, true, false, true≢false, cond, not, ◌&&◌, ◌||◌, List, [], ◌∷◌, map, Option, Some, None, Result, Ok, Err, refl, sym, ap, length, arith}
use Rattle.std.specs.Prelude.{◌==◌, nat_lt, nat_le}
use Rattle.std.proofs.lemmas.Bool.{eqb-false, leb-false, ltb-false}
use Rattle.wire_words.specs.declared.value.Value.{Value}
use Rattle.wire_msgs.specs.declared.request.Request.{Request}
use Rattle.wire_msgs.specs.declared.request.Request.TheVariants as requests
use Rattle.wire_msgs.specs.declared.response.Response.TheVariants as responses
use Rattle.raft_spec.specs.Node.{Server, among, voters}
use Rattle.sql_scan.specs.declared.pieces.StatementSpan.{StatementSpan}
use Rattle.sql_scan.specs.declared.fault.ScanFault.{ScanFault}
use Rattle.sql_scan.specs.declared.heading.WordKind.{WordKind}
use Rattle.sql_scan.specs.declared.heading.WordKind.TheVariants as words
use Rattle.sql_scan.specs.Statements.{scan_of}
use Rattle.sql_scan.specs.declared.fault.ScanFault.TheVariants as scan_faults
use Rattle.session_spec.specs.Causes.{Cause, scan_cause, Locked, OutOfDate, NotLeader, NoDatabase, DatabaseOpen, ChangeInFlight, BadName, BadNode, BadRole, BadFormat, TransferFirst, TooManyVoters, TargetBehind, TooManyDatabases, TooManyStatements, AnswerTooBig, LogFull, NotAllowed, WrongParameters, OneStatementWanted}
use Rattle.session_spec.specs.Limits.{change_in_flight, other_holds, one_too_many, log_full, first_cause, hinders_in, write_hindrance}
use Rattle.session_spec.specs.Machine.{Machine, is_named}
use Rattle.session_spec.specs.Servers.{has_server, has_address, is_spare, server_of}
use Rattle.session_spec.specs.Sessions.{Prepared, Transaction, Session, Gateway, View, JoinsPeer, HandsOver, in_tx}
use Rattle.session_spec.specs.Statements.{prepared_from, prepared_at, prepared_count, is_left_out, is_write_word, any_barred, any_write, wrong_params, with_params, with_all}
use Rattle.session_spec.specs.Asking as asking
use Rattle.session_spec.specs.Asking.{Asked, Never, Tells, Sets, Opens, Creates, Prepares, Changes, Runs, Reads, has_database, barriers_asked, fits_one_voter, asked_unless_lost, asked_by}
use Rattle.session_spec.specs.Allowed.{IsFailure, IsEarlyCause, IsServed, IsOneChange, IsMadeStandby, IsAllowed, AllAreAllowed}
use Rattle.session_spec.proofs.Losing.{asked_both}

-- none of five tests is passed
record NoneOfFive (a b c d e : Bool) : Type 0 where
  first : a ≡ false
  second : b ≡ false
  third : c ≡ false
  fourth : d ≡ false
  fifth : e ≡ false

neither_of : (a b : Bool) → (a || b) ≡ false → (a ≡ false) × (b ≡ false)
neither_of false b h = (refl, h)
neither_of true b h = absurd (true≢false h)

none_of_five : (a b c d e : Bool) → (a || b || c || d || e) ≡ false → NoneOfFive a b c d e
none_of_five false false false false false h = record { first = refl; second = refl; third = refl; fourth = refl; fifth = refl }
none_of_five false false false false true h = absurd (true≢false h)
none_of_five false false false true e h = absurd (true≢false h)
none_of_five false false true d e h = absurd (true≢false h)
none_of_five false true c d e h = absurd (true≢false h)
none_of_five true b c d e h = absurd (true≢false h)

not_both : (a b : Bool) → (a && b) ≡ false → a ≡ true → b ≡ false
not_both true b h p = h
not_both false b h p = absurd (true≢false (sym p))

if_not_not : (b : Bool) → not b ≡ false → b ≡ true
if_not_not true h = refl
if_not_not false h = absurd (true≢false h)

scan_early : (fault : ScanFault) → IsEarlyCause (scan_cause fault)
scan_early (scan_faults.OpenQuote at) = tt
scan_early (scan_faults.OpenComment at) = tt
scan_early (scan_faults.Named at) = tt
scan_early (scan_faults.Number at) = tt
scan_early scan_faults.NoMemory = tt

-- a cause, if there is one, is found before an engine runs
abbrev EarlyIfAny : Option Cause → Type 0
EarlyIfAny None = Unit {0}
EarlyIfAny (Some cause) = IsEarlyCause cause

turn_early : (b : Bool) → EarlyIfAny (first_cause b Locked None)
turn_early true = tt
turn_early false = tt

either_early : (a b : Bool) → EarlyIfAny (first_cause a Locked (first_cause b OutOfDate None))
either_early true b = tt
either_early false true = tt
either_early false false = tt

hinders_early : (m : Machine) (g : Gateway) (c : ℕ) (s : Session) (o : Option Transaction) → EarlyIfAny (hinders_in m g c s o)
hinders_early m g c s None = turn_early (other_holds g c s.database)
hinders_early m g c s (Some x) = either_early (other_holds g c x.name) (not ((m.base x.name).newest == x.mark))

-- what hinders a write is found before it runs
write_early : (m : Machine) (g : Gateway) (c : ℕ) (s : Session) → EarlyIfAny (write_hindrance m g c s)
unfolding write_hindrance
write_early m g c s = hinders_early m g c s s.tx

leader_told : (o : Option Server) → IsFailure (asking.told_leader o) → ⊥
leader_told None h = h
leader_told (Some server) h = h

leader_tells : (servers : List Server) (o : Option ℕ) → IsFailure (asking.leader_known servers o) → ⊥
leader_tells servers None = leader_told None
leader_tells servers (Some id) = leader_told (server_of servers id)

module _ (v : View) (g : Gateway) (s : Session) (r : Request) where
  -- by a test, with what it says
  if_allowed : (b : Bool) (x y : Asked) → (b ≡ true → IsAllowed v g s r x) → (b ≡ false → IsAllowed v g s r y) → IsAllowed v g s r (cond b x y)
  if_allowed true x y a b = a refl
  if_allowed false x y a b = b refl

  either : (b : Bool) (x y : Asked) → IsAllowed v g s r x → IsAllowed v g s r y → IsAllowed v g s r (cond b x y)
  either b x y a h = if_allowed b x y (λ e. a) (λ e. h)

  leading : (asked : Asked) → (v.serving ≡ true → IsAllowed v g s r asked) → IsAllowed v g s r (asking.at_leader v asked)
  leading asked f = if_allowed v.serving asked (Never NotLeader) f (λ e. tt)

  with_database : (db : ℕ) (asked : Asked) → (has_database s ≡ true → IsAllowed v g s r asked) → IsAllowed v g s r (asking.in_database s db asked)
  with_database db asked f = by (has_database s) (db == 0) refl
    where
      by : (h z : Bool) → has_database s ≡ h → IsAllowed v g s r (cond (not (h && z)) (Never NoDatabase) asked)
      by true true o = f o
      by true false o = tt
      by false z o = tt

  served : (db : ℕ) (asked : Asked) → (IsServed v s → IsAllowed v g s r asked) → IsAllowed v g s r (asking.at_leader v (asking.in_database s db asked))
  served db asked f = leading (asking.in_database s db asked) (λ e. with_database db asked (λ o. f (record { serves = e; opened = o })))

  finalize_too : (o : Option Prepared) (id : ℕ) → has_database s ≡ true → IsAllowed v g s r (asking.asks_finalize o id)
  finalize_too None id h = tt
  finalize_too (Some p) id h = h

  never_too : (hinders : Option Cause) → EarlyIfAny hinders → (asked : Asked) → IsAllowed v g s r asked → IsAllowed v g s r (asking.never_or hinders asked)
  never_too None early asked h = h
  never_too (Some cause) early asked h = early

  module _ (h : IsServed v s) (hinders : Option Cause) (early : EarlyIfAny hinders) where
    kind_too : (active : Bool) → in_tx s ≡ active → (word : WordKind) (p : Prepared) (params : List Value) → IsAllowed v g s r (asking.asks_kind hinders active word (with_all p params))
    kind_too true e (words.Begin at_once) p params = tt
    kind_too false e (words.Begin at_once) p params = (h, e)
    kind_too true e words.Commit p params = (h, e)
    kind_too false e words.Commit p params = tt
    kind_too true e words.Rollback p params = (h, e)
    kind_too false e words.Rollback p params = tt
    kind_too active e words.Write p params = never_too hinders early (Runs (with_all p params ∷ [])) h
    kind_too active e words.LeftOut p params = tt
    kind_too active e words.Other p params = h

    one_too : (p : Prepared) (params : List Value) → IsAllowed v g s r (asking.asks_one hinders (in_tx s) p params)
    one_too p params =
        either (is_left_out p.word) (Never NotAllowed) (cond (wrong_params (p ∷ []) params) (Never WrongParameters) (asking.asks_kind hinders (in_tx s) p.word (with_all p params))) tt
        (either (wrong_params (p ∷ []) params) (Never WrongParameters) (asking.asks_kind hinders (in_tx s) p.word (with_all p params)) tt (kind_too (in_tx s) refl p.word p params))

    -- what runs, or is refused if it is a write
    write_too : (is_write : Bool) (asked : Asked) → IsAllowed v g s r asked → IsAllowed v g s r (cond is_write (asking.never_or hinders asked) asked)
    write_too is_write asked a = either is_write (asking.never_or hinders asked) asked (never_too hinders early asked a) a

    several_too : (ps : List Prepared) (params : List Value) → IsAllowed v g s r (asking.asks_several hinders ps params)
    several_too ps params =
        let runs = Runs (with_params ps params) in
        let last = cond (any_write ps) (asking.never_or hinders runs) runs in
        either (any_barred ps) (Never NotAllowed) (cond (wrong_params ps params) (Never WrongParameters) last) tt
        (either (wrong_params ps params) (Never WrongParameters) last tt (write_too (any_write ps) runs h))

    statements_too : (ps : List Prepared) (params : List Value) → IsAllowed v g s r (asking.asks_statements hinders (in_tx s) ps params)
    statements_too [] params = several_too [] params
    statements_too (p ∷ []) params = one_too p params
    statements_too (p ∷ q ∷ ps) params = several_too (p ∷ q ∷ ps) params

    text_too : (sql : List ℕ) (t : Result (List StatementSpan) ScanFault) (params : List Value) → IsAllowed v g s r (asking.asks_text hinders (in_tx s) sql t params)
    text_too sql (Err fault) params = scan_early fault
    text_too sql (Ok pieces) params = statements_too (map (prepared_from sql) pieces) params

    query_too : (p : Prepared) (params : List Value) → IsAllowed v g s r (asking.asks_query hinders p params)
    query_too p params =
        let reads = Reads (with_all p params) in
        let last = cond (is_write_word p.word) (asking.never_or hinders reads) reads in
        either (any_barred (p ∷ [])) (Never NotAllowed) (cond (wrong_params (p ∷ []) params) (Never WrongParameters) last) tt
        (either (wrong_params (p ∷ []) params) (Never WrongParameters) last tt (write_too (is_write_word p.word) reads h))

    not_one_too : (ps : List Prepared) → IsAllowed v g s r (asking.not_one ps)
    not_one_too ps = either (any_barred ps) (Never NotAllowed) (Never OneStatementWanted) tt tt

    sole_too : (ps : List Prepared) (params : List Value) → IsAllowed v g s r (asking.asks_sole hinders ps params)
    sole_too [] params = not_one_too []
    sole_too (p ∷ []) params = query_too p params
    sole_too (p ∷ q ∷ ps) params = not_one_too (p ∷ q ∷ ps)

    rows_too : (sql : List ℕ) (t : Result (List StatementSpan) ScanFault) (params : List Value) → IsAllowed v g s r (asking.asks_rows hinders sql t params)
    rows_too sql (Err fault) params = scan_early fault
    rows_too sql (Ok pieces) params = sole_too (map (prepared_from sql) pieces) params

    exec_too : (o : Option Prepared) (params : List Value) → IsAllowed v g s r (asking.asks_exec hinders (in_tx s) o params)
    exec_too None params = tt
    exec_too (Some p) params = one_too p params

    prepared_query_too : (o : Option Prepared) (params : List Value) → IsAllowed v g s r (asking.asks_prepared_query hinders o params)
    prepared_query_too None params = tt
    prepared_query_too (Some p) params = query_too p params

  module _ (h : IsServed v s) where
    room_too : (p : Prepared) (tail : Option ℕ) → IsAllowed v g s r (asking.with_room s p tail)
    room_too p tail = either (nat_le 64 (prepared_count s.statements)) (Never TooManyStatements) (Prepares p tail) tt h

    pieces_too : (sql : List ℕ) (wide : Bool) (pieces : List StatementSpan) → IsAllowed v g s r (asking.asks_prepare_pieces s sql wide pieces)
    pieces_too sql wide [] = tt
    pieces_too sql wide (p ∷ []) = either (is_left_out p.word) (Never NotAllowed) (asking.with_room s (prepared_from sql p) (asking.tail_of wide p)) tt (room_too (prepared_from sql p) (asking.tail_of wide p))
    pieces_too sql wide (p ∷ q ∷ ps) =
        either (any_barred (map (prepared_from sql) (p ∷ q ∷ ps))) (Never NotAllowed) (cond wide (asking.with_room s (prepared_from sql p) (asking.tail_of wide p)) (Never OneStatementWanted)) tt
        (either wide (asking.with_room s (prepared_from sql p) (asking.tail_of wide p)) (Never OneStatementWanted) (room_too (prepared_from sql p) (asking.tail_of wide p)) tt)

    prepare_too : (sql : List ℕ) (wide : Bool) (t : Result (List StatementSpan) ScanFault) → IsAllowed v g s r (asking.asks_prepare s sql wide t)
    prepare_too sql wide (Err fault) = scan_early fault
    prepare_too sql wide (Ok pieces) = pieces_too sql wide pieces

  open_too : (m : Machine) (name : List ℕ) (barriers : Bool) → v.serving ≡ true → (barriers ≡ true → fits_one_voter r ≡ false) → IsAllowed v g s r (asking.asks_open v m g s name barriers)
  open_too m name barriers e f =
      either (has_database s) (Never DatabaseOpen) _ tt
      (either (not (asking.is_name name)) (Never BadName) _ tt
      (either (is_named m.names name) (Opens name barriers) _ (e, f)
      (either (one_too_many m g name) (Never TooManyDatabases) _ tt (if_allowed (log_full v) (Never LogFull) (Creates name barriers) (λ q. tt) (λ q. (e, q, f))))))

  changes_too : (servers : List Server) (short : Bool) → v.serving ≡ true → fits_one_voter r ≡ false → change_in_flight g ≡ false → IsOneChange v v.servers servers
      → (short ≡ true → IsMadeStandby v.servers servers) → IsAllowed v g s r (Changes servers short)
  changes_too servers short e f q h made = (e, q, f, h, made)

  settled_too : (asked : Asked) → (change_in_flight g ≡ false → IsAllowed v g s r asked) → IsAllowed v g s r (asking.if_settled g asked)
  settled_too asked f = if_allowed (change_in_flight g) (Never ChangeInFlight) asked (λ e. tt) f

  other_too : (id : ℕ) (asked : Asked) → (id ≢ v.id → IsAllowed v g s r asked) → IsAllowed v g s r (asking.of_other v id asked)
  other_too id asked f = if_allowed (id == v.id) (Never TransferFirst) asked (λ e. tt) (λ e. f (eqb-false id v.id e))

  module _ (e : v.serving ≡ true) (f : fits_one_voter r ≡ false) where
    add_too : (id : ℕ) (address : List ℕ) → change_in_flight g ≡ false → IsAllowed v g s r (asking.asks_add v.servers id address)
    add_too id address q = if_allowed (asking.is_barred_node v.servers id address) (Never BadNode) _ (λ b. tt)
        (λ b. let all = none_of_five (id == 0) (nat_lt 9 id) (asking.is_taken v.servers id address) (nat_lt 255 (length address)) (nat_le 9 (length v.servers)) b in
        let free = neither_of (has_server v.servers id) (has_address v.servers address) all.third in
        changes_too _ _ e f q (inl (record { server = record { id = id; address = address; role = 2 }; unknown = free.0; apart = free.1; spare = refl; named = eqb-false id 0 all.first; low = ltb-false 9 id all.second; short = ltb-false 255 (length address) all.fourth; room = leb-false 9 (length v.servers) all.fifth; is = refl })) (λ p. absurd (true≢false (sym p))))

    -- it has the role 1, which makes no voter
    catch_up_too : (id : ℕ) → change_in_flight g ≡ false → has_server v.servers id ≡ true → id ≢ v.id → IsAllowed v g s r (asking.asks_to_catch_up v id)
    catch_up_too id q known other =
        if_allowed (is_spare v.servers id) _ (Never TargetBehind)
        (λ spare. changes_too _ _ e f q (inr (inl (record { id = id; role = 1; known = known; other = other; low = omega arith; room = λ p. absurd (true≢false (sym p)); near = λ p. absurd (true≢false (sym p)); is = refl })))
        (λ p. record { id = id; spare = spare; is = refl }))
        (λ b. tt)

    role_too : (id role : ℕ) → change_in_flight g ≡ false → has_server v.servers id ≡ true → role ≤ 2 → id ≢ v.id → IsAllowed v g s r (asking.asks_role v id role)
    role_too id role q known low other =
        if_allowed (asking.is_promotion v.servers id role && nat_le 7 (length (voters v.servers))) (Never TooManyVoters) _ (λ b. tt)
        (λ few. if_allowed (asking.is_promotion v.servers id role && not (among v.near id)) (asking.asks_to_catch_up v id) _ (λ b. catch_up_too id q known other)
        (λ all. changes_too _ _ e f q (inr (inl (record { id = id; role = role; known = known; other = other; low = low; room = λ p. leb-false 7 (length (voters v.servers)) (not_both _ _ few p); near = λ p. if_not_not _ (not_both _ _ all p); is = refl }))) (λ p. absurd (true≢false (sym p)))))

    assign_too : (id role : ℕ) → change_in_flight g ≡ false → IsAllowed v g s r (asking.asks_assign v id role)
    assign_too id role q = by (has_server v.servers id) refl
      where
        by : (b : Bool) → has_server v.servers id ≡ b → IsAllowed v g s r (cond (not b) (Never BadNode) (cond (nat_lt 2 role) (Never BadRole) (asking.of_other v id (asking.asks_role v id role))))
        by true known = if_allowed (nat_lt 2 role) (Never BadRole) _ (λ b. tt) (λ b. other_too id _ (role_too id role q known (ltb-false 2 role b)))
        by false known = tt

    remove_too : (id : ℕ) → change_in_flight g ≡ false → IsAllowed v g s r (asking.asks_remove v id)
    remove_too id q = if_allowed (has_server v.servers id) _ (Never BadNode) (λ known. other_too id _ (λ other. changes_too _ _ e f q (inr (inr (record { id = id; known = known; other = other; is = refl }))) (λ p. absurd (true≢false (sym p))))) (λ b. tt)

unlost_allowed : (v : View) (m : Machine) (g : Gateway) (conn : ℕ) (s : Session) (request : Request) → IsAllowed v g s request (asked_unless_lost v m g conn s request)
unfolding asked_unless_lost fits_one_voter
unlost_allowed v m g c s requests.Leader = leader_tells v.servers v.leader
unlost_allowed v m g c s (requests.Client id) = λ h. h
unlost_allowed v m g c s (requests.Open name flags vfs) = leading v g s (requests.Open name flags vfs) _ (λ e. open_too v g s (requests.Open name flags vfs) m name (barriers_asked flags) e (λ b. ap not b))
unlost_allowed v m g c s (requests.Prepare db sql wide) = served v g s (requests.Prepare db sql wide) db (asking.asks_prepare s sql wide (scan_of sql)) (λ h. prepare_too v g s (requests.Prepare db sql wide) h sql wide (scan_of sql))
unlost_allowed v m g c s (requests.Exec db id params wide) = served v g s (requests.Exec db id params wide) db (asking.asks_exec (write_hindrance m g c s) (in_tx s) (prepared_at s.statements id) params) (λ h. exec_too v g s (requests.Exec db id params wide) h (write_hindrance m g c s) (write_early m g c s) (prepared_at s.statements id) params)
unlost_allowed v m g c s (requests.Query db id params wide) = served v g s (requests.Query db id params wide) db (asking.asks_prepared_query (write_hindrance m g c s) (prepared_at s.statements id) params) (λ h. prepared_query_too v g s (requests.Query db id params wide) h (write_hindrance m g c s) (write_early m g c s) (prepared_at s.statements id) params)
unlost_allowed v m g c s (requests.Finalize db id) = with_database v g s (requests.Finalize db id) db (asking.asks_finalize (prepared_at s.statements id) id) (λ h. finalize_too v g s (requests.Finalize db id) (prepared_at s.statements id) id h)
unlost_allowed v m g c s (requests.ExecSql db sql params wide) = served v g s (requests.ExecSql db sql params wide) db (asking.asks_text (write_hindrance m g c s) (in_tx s) sql (scan_of sql) params) (λ h. text_too v g s (requests.ExecSql db sql params wide) h (write_hindrance m g c s) (write_early m g c s) sql (scan_of sql) params)
unlost_allowed v m g c s (requests.QuerySql db sql params wide) = served v g s (requests.QuerySql db sql params wide) db (asking.asks_rows (write_hindrance m g c s) sql (scan_of sql) params) (λ h. rows_too v g s (requests.QuerySql db sql params wide) h (write_hindrance m g c s) (write_early m g c s) sql (scan_of sql) params)
unlost_allowed v m g c s (requests.Interrupt db) = with_database v g s (requests.Interrupt db) db (Tells responses.Empty) (λ h. λ f. f)
unlost_allowed v m g c s (requests.Connect id address) = either v g s (requests.Connect id address) (v.links && asking.is_other_node v id) (Sets (JoinsPeer id)) (Never BadNode) tt tt
unlost_allowed v m g c s (requests.Add id address) = leading v g s (requests.Add id address) _ (λ e. settled_too v g s (requests.Add id address) _ (add_too v g s (requests.Add id address) e refl id address))
unlost_allowed v m g c s (requests.Assign id role) = leading v g s (requests.Assign id role) _ (λ e. settled_too v g s (requests.Assign id role) _ (assign_too v g s (requests.Assign id role) e refl id role))
unlost_allowed v m g c s (requests.Remove id) = leading v g s (requests.Remove id) _ (λ e. settled_too v g s (requests.Remove id) _ (remove_too v g s (requests.Remove id) e refl id))
unlost_allowed v m g c s (requests.Dump name) =
    let files = asking.files_of name (m.base name).image in
    either v g s (requests.Dump name) (is_named m.names name) _ (Never NoDatabase) (either v g s (requests.Dump name) (nat_lt 16777216 (asking.body_size files)) (Never AnswerTooBig) (Tells files) tt (λ h. h)) tt
unlost_allowed v m g c s (requests.Cluster format) = either v g s (requests.Cluster format) (nat_le format 1) (Tells (responses.Servers (map (asking.info_of (format == 1)) v.servers))) (Never BadFormat) (λ h. h) tt
unlost_allowed v m g c s (requests.Transfer id) = leading v g s (requests.Transfer id) _ (λ e. either v g s (requests.Transfer id) (among (voters v.servers) id) _ (Never BadNode) (either v g s (requests.Transfer id) (asking.may_take_over v id) (Sets (HandsOver id)) (Never TargetBehind) tt tt) tt)
unlost_allowed v m g c s (requests.Describe format) = either v g s (requests.Describe format) (format == 0) (Tells (responses.Metadata 0 g.weight)) (Never BadFormat) (λ h. h) tt
unlost_allowed v m g c s (requests.Weight weight) = tt

pub all_allowed : AllAreAllowed
all_allowed v m g c s r = asked_both (IsAllowed v g s r) v m g c s r tt (λ response ends. ends) (unlost_allowed v m g c s r)
