-- What a message asks for is what the node does for it.
use Rattle.std.proofs.Common.{◌≡◌, inl, inr, ℕ, Bool, true, false, true≢false, List, [], ◌∷◌, length, map, refl, sym, ap, ◌∙◌, subst}
use Rattle.std.specs.Prelude.{◌&&◌, ◌||◌, ◌==◌, not, nat_lt, nat_le, is_none, Option, Some, None, Result, Ok, Err, if◌then◌else◌}
use Rattle.std.proofs.lemmas.Bool.{cond_both}
use Rattle.wire_words.specs.declared.value.Value.{Value}
use Rattle.wire_msgs.specs.declared.request.Request.{Request}
use Rattle.wire_msgs.specs.declared.request.Request.TheVariants as requests
use Rattle.sql_scan.specs.declared.pieces.StatementSpan.{StatementSpan}
use Rattle.sql_scan.specs.declared.fault.ScanFault.{ScanFault}
use Rattle.sql_scan.specs.declared.heading.WordKind.{WordKind}
use Rattle.sql_scan.specs.declared.heading.WordKind.TheVariants as words
use Rattle.sql_scan.specs.Statements.{scan_of}
use Rattle.sql_engine.specs.Replies.{Statement}
use Rattle.raft_spec.specs.Node.{Server, among, voters}
use Rattle.session_spec.specs.Asking.{Asked, Never, Tells, Sets, Opens, Creates, Prepares, Drops, Forgets, Begins, Commits, RollsBack, Changes, Runs, Reads, asks_describe, asks_cluster, asks_connect, is_other_node, asks_transfer, may_take_over, if_settled, is_barred_node, asks_add, is_promotion, asks_role, asks_assign, asks_remove, files_of, body_size, asks_dump, has_database, is_name, barriers_asked, asks_open, no_database, in_database, never_or, asks_kind, asks_one, asks_several, asks_statements, asks_text, asks_query, not_one, asks_rows, asks_exec, asks_prepared_query, asks_finalize, with_room, tail_of, asks_prepare, lost_word, lost_one, lost_statements, lost_text, lost_exec, lost_in, asks_lost, unless_lost, at_leader, asked_unless_lost, asked_by}
use Rattle.session_spec.specs.Causes.{Cause, NotAllowed, OneStatementWanted}
use Rattle.session_spec.specs.Laws.{has_statement}
use Rattle.session_spec.specs.Limits.{change_in_flight, one_too_many, log_full, write_hindrance}
use Rattle.session_spec.specs.Machine.{Machine, is_named}
use Rattle.session_spec.specs.Servers.{has_server, is_spare}
use Rattle.session_spec.specs.Sessions.{Prepared, Session, Gateway, View, in_tx}
use Rattle.session_spec.specs.Statements.{prepared_from, any_barred, is_left_out, is_write_word, any_write, wrong_params, with_params, with_all, prepared_at, prepared_count}
use Rattle.session_spec.proofs.Losing.{lost_so}
use Rattle.headline.specs.Clients.{Client, is_idle, Idle, Begun, Lost, Purpose, unless, kind_purpose, sole_purpose, list_purpose, text_purpose, query_purpose, query_text_purpose, prepared_purpose, prepare_purpose, request_purpose, purpose}
use Rattle.headline.specs.Clients as client
use Rattle.client_view_safety.specs.Views.{is_lost, KnowsSession, IsAskedFor, RequestsAskPurposes}

module _ (m : Machine) where
  -- ---- tests

  led : (v : View) (p : Purpose) (x : Asked) → IsAskedFor m p x → IsAskedFor m p (at_leader v x)
  led v p x h = cond_both v.serving x _ (IsAskedFor m p) (λ e. h) (λ e. tt)

  settled : (g : Gateway) (p : Purpose) (x : Asked) → IsAskedFor m p x → IsAskedFor m p (if_settled g x)
  settled g p x h = cond_both (change_in_flight g) _ x (IsAskedFor m p) (λ e. tt) (λ e. h)

  -- the same test on both sides
  tested : (b c : Bool) (p : Purpose) (cause : Cause) (x : Asked) → c ≡ b → IsAskedFor m p x → IsAskedFor m (unless c p) (if b then Never cause else x)
  tested true c p cause x e h = tt
  tested false c p cause x e h = subst (λ d. IsAskedFor m (unless d p) x) (sym e) h

  -- a test of the node alone
  barred : (b : Bool) (p : Purpose) (cause : Cause) (x : Asked) → IsAskedFor m p x → IsAskedFor m p (if b then Never cause else x)
  barred true p cause x h = tt
  barred false p cause x h = h

  hindered : (o : Option Cause) (p : Purpose) (x : Asked) → IsAskedFor m p x → IsAskedFor m p (never_or o x)
  hindered None p x h = h
  hindered (Some cause) p x h = tt

  -- two tests of the node are one of the purpose
  either : (b c : Bool) (p : Purpose) (one two : Cause) (x : Asked) → IsAskedFor m p x →
      IsAskedFor m (unless (b || c) p) (if b then Never one else (if c then Never two else x))
  either true c p one two x h = tt
  either false true p one two x h = tt
  either false false p one two x h = h

  -- ---- statements

  kind_asked : (o : Option Cause) (active : Bool) (word : WordKind) (s : Statement) →
      IsAskedFor m (kind_purpose (not active) word s) (asks_kind o active word s)
  kind_asked o true (words.Begin at_once) s = tt
  kind_asked o false (words.Begin at_once) s = refl
  kind_asked o true words.Commit s = refl
  kind_asked o false words.Commit s = tt
  kind_asked o true words.Rollback s = refl
  kind_asked o false words.Rollback s = tt
  kind_asked o active words.Write s = hindered o (client.Runs false (s ∷ [])) _ refl
  kind_asked o active words.LeftOut s = tt
  kind_asked o active words.Other s = refl

  one_asked : (k : Client) (o : Option Cause) (active : Bool) (p : Prepared) (params : List Value) → is_idle k.transaction ≡ not active →
      IsAskedFor m (sole_purpose k p params) (asks_one o active p params)
  one_asked k o active p params idle =
      barred (is_left_out p.word) (sole_purpose k p params) _ _
      (tested (wrong_params (p ∷ []) params) (wrong_params (p ∷ []) params) (kind_purpose (is_idle k.transaction) p.word (with_all p params)) _ _ refl
      (subst (λ b. IsAskedFor m (kind_purpose b p.word (with_all p params)) (asks_kind o active p.word (with_all p params))) (sym idle)
      (kind_asked o active p.word (with_all p params))))

  several_asked : (o : Option Cause) (ps : List Prepared) (params : List Value) →
      IsAskedFor m (unless (any_barred ps || wrong_params ps params) (client.Runs false (with_params ps params))) (asks_several o ps params)
  several_asked o ps params = either (any_barred ps) (wrong_params ps params) (client.Runs false (with_params ps params)) _ _ _
      (cond_both (any_write ps) _ _ (IsAskedFor m (client.Runs false (with_params ps params)))
      (λ e. hindered o (client.Runs false (with_params ps params)) _ refl) (λ e. refl))

  statements_asked : (k : Client) (o : Option Cause) (active : Bool) (ps : List Prepared) (params : List Value) → is_idle k.transaction ≡ not active →
      IsAskedFor m (list_purpose k ps params) (asks_statements o active ps params)
  statements_asked k o active [] params idle = several_asked o [] params
  statements_asked k o active (p ∷ []) params idle = one_asked k o active p params idle
  statements_asked k o active (p ∷ q ∷ ps) params idle = several_asked o (p ∷ q ∷ ps) params

  text_asked : (k : Client) (o : Option Cause) (active : Bool) (sql : List ℕ) (scanned : Result (List StatementSpan) ScanFault) (params : List Value) →
      is_idle k.transaction ≡ not active → IsAskedFor m (text_purpose k sql scanned params) (asks_text o active sql scanned params)
  text_asked k o active sql (Err fault) params idle = tt
  text_asked k o active sql (Ok spans) params idle = statements_asked k o active (map (prepared_from sql) spans) params idle

  query_asked : (o : Option Cause) (p : Prepared) (params : List Value) → IsAskedFor m (query_purpose p params) (asks_query o p params)
  query_asked o p params = either (any_barred (p ∷ [])) (wrong_params (p ∷ []) params) (client.Runs true (with_all p params ∷ [])) _ _ _
      (cond_both (is_write_word p.word) _ _ (IsAskedFor m (client.Runs true (with_all p params ∷ [])))
      (λ e. hindered o (client.Runs true (with_all p params ∷ [])) _ refl) (λ e. refl))

  none_asked : (ps : List Prepared) (p : Purpose) → IsAskedFor m p (not_one ps)
  none_asked ps p = cond_both (any_barred ps) _ _ (IsAskedFor m p) (λ e. tt) (λ e. tt)

  rows_asked : (o : Option Cause) (sql : List ℕ) (scanned : Result (List StatementSpan) ScanFault) (params : List Value) →
      IsAskedFor m (query_text_purpose sql scanned params) (asks_rows o sql scanned params)
  rows_asked o sql (Err fault) params = tt
  rows_asked o sql (Ok []) params = none_asked [] client.Never
  rows_asked o sql (Ok (p ∷ [])) params = query_asked o (prepared_from sql p) params
  rows_asked o sql (Ok (p ∷ q ∷ ps)) params = none_asked (map (prepared_from sql) (p ∷ q ∷ ps)) client.Never

  exec_asked : (k : Client) (o : Option Cause) (active : Bool) (p : Option Prepared) (params : List Value) → is_idle k.transaction ≡ not active →
      IsAskedFor m (prepared_purpose k false p params) (asks_exec o active p params)
  exec_asked k o active None params idle = tt
  exec_asked k o active (Some p) params idle = one_asked k o active p params idle

  prepared_asked : (k : Client) (o : Option Cause) (p : Option Prepared) (params : List Value) →
      IsAskedFor m (prepared_purpose k true p params) (asks_prepared_query o p params)
  prepared_asked k o None params = tt
  prepared_asked k o (Some p) params = query_asked o p params

  room_asked : (s : Session) (p : Prepared) (tail : Option ℕ) → IsAskedFor m (client.Prepares p tail) (with_room s p tail)
  room_asked s p tail = barred (nat_le 64 (prepared_count s.statements)) (client.Prepares p tail) _ _ refl

  prepare_asked : (s : Session) (sql : List ℕ) (wide : Bool) (scanned : Result (List StatementSpan) ScanFault) →
      IsAskedFor m (prepare_purpose sql wide scanned) (asks_prepare s sql wide scanned)
  prepare_asked s sql wide (Err fault) = tt
  prepare_asked s sql wide (Ok []) = tt
  prepare_asked s sql wide (Ok (p ∷ [])) =
      tested (is_left_out p.word) (is_left_out p.word) (client.Prepares (prepared_from sql p) (tail_of wide p)) _ _ refl
      (room_asked s (prepared_from sql p) (tail_of wide p))
  prepare_asked s sql wide (Ok (p ∷ q ∷ ps)) = by (any_barred (map (prepared_from sql) (p ∷ q ∷ ps))) wide
    where
      by : (b w : Bool) → IsAskedFor m (unless (not w || b) (client.Prepares (prepared_from sql p) (tail_of w p)))
          (if b then Never NotAllowed else (if w then with_room s (prepared_from sql p) (tail_of w p) else Never OneStatementWanted))
      by true w = tt
      by false true = room_asked s (prepared_from sql p) (tail_of true p)
      by false false = tt

  finalize_asked : (o : Option Prepared) (id : ℕ) → IsAskedFor m (unless (is_none o) (client.Drops id)) (asks_finalize o id)
  finalize_asked None id = tt
  finalize_asked (Some p) id = refl

  -- ---- databases

  here : (k : Client) (s : Session) (db : ℕ) (p : Purpose) (x : Asked) → k.name ≡ s.database → IsAskedFor m p x →
      IsAskedFor m (client.in_database k db p) (in_database s db x)
  here k s db p x name h = tested (no_database s db) (not (client.has_database k && (db == 0))) p _ x
      (ap (λ n. not (nat_lt 0 (length n) && (db == 0))) name) h

  open_asked : (v : View) (g : Gateway) (k : Client) (s : Session) (name : List ℕ) (barriers : Bool) → k.name ≡ s.database →
      IsAskedFor m (unless (client.has_database k || not (is_name name)) (client.Opens name barriers)) (asks_open v m g s name barriers)
  open_asked v g k s name barriers same =
      subst (λ b. IsAskedFor m (unless (b || not (is_name name)) (client.Opens name barriers)) (asks_open v m g s name barriers))
      (sym (ap (λ n. nat_lt 0 (length n)) same))
      (either (has_database s) (not (is_name name)) (client.Opens name barriers) _ _ _
      (cond_both (is_named m.names name) _ _ (IsAskedFor m (client.Opens name barriers)) (λ e. refl)
      (λ e. barred (one_too_many m g name) (client.Opens name barriers) _ _ (barred (log_full v) (client.Opens name barriers) _ _ refl))))

  dump_asked : (name : List ℕ) → IsAskedFor m (client.Dumps name) (asks_dump m name)
  dump_asked name = cond_both (is_named m.names name) _ _ (IsAskedFor m (client.Dumps name))
      (λ e. barred (nat_lt 16777216 (body_size (files_of name (m.base name).image))) (client.Dumps name) _ _ (inr (inr (name, refl, refl)))) (λ e. tt)

  -- ---- servers

  add_asked : (servers : List Server) (id : ℕ) (address : List ℕ) → IsAskedFor m client.Empties (asks_add servers id address)
  add_asked servers id address = barred (is_barred_node servers id address) client.Empties _ _ refl

  role_asked : (v : View) (id role : ℕ) → IsAskedFor m client.Empties (asks_role v id role)
  role_asked v id role = barred (is_promotion v.servers id role && nat_le 7 (length (voters v.servers))) client.Empties _ _
      (cond_both (is_promotion v.servers id role && not (among v.near id)) _ _ (IsAskedFor m client.Empties)
      (λ e. cond_both (is_spare v.servers id) _ _ (IsAskedFor m client.Empties) (λ z. refl) (λ z. tt)) (λ e. refl))

  assign_asked : (v : View) (id role : ℕ) → IsAskedFor m client.Empties (asks_assign v id role)
  assign_asked v id role = barred (not (has_server v.servers id)) client.Empties _ _
      (barred (nat_lt 2 role) client.Empties _ _ (barred (id == v.id) client.Empties _ _ (role_asked v id role)))

  remove_asked : (v : View) (id : ℕ) → IsAskedFor m client.Empties (asks_remove v id)
  remove_asked v id = cond_both (has_server v.servers id) _ _ (IsAskedFor m client.Empties) (λ e. barred (id == v.id) client.Empties _ _ refl) (λ e. tt)

  transfer_asked : (v : View) (id : ℕ) → IsAskedFor m client.Empties (asks_transfer v id)
  transfer_asked v id = cond_both (among (voters v.servers) id) _ _ (IsAskedFor m client.Empties)
      (λ e. cond_both (may_take_over v id) _ _ (IsAskedFor m client.Empties) (λ z. refl) (λ z. tt)) (λ e. tt)

  connect_asked : (v : View) (id : ℕ) → IsAskedFor m client.Empties (asks_connect v id)
  connect_asked v id = cond_both (v.links && is_other_node v id) _ _ (IsAskedFor m client.Empties) (λ e. refl) (λ e. tt)

  cluster_asked : (v : View) (format : ℕ) → IsAskedFor m client.Other (asks_cluster v format)
  cluster_asked v format = cond_both (nat_le format 1) _ _ (IsAskedFor m client.Other) (λ e. inl refl) (λ e. tt)

  describe_asked : (weight format : ℕ) → IsAskedFor m client.Other (asks_describe weight format)
  describe_asked weight format = cond_both (format == 0) _ _ (IsAskedFor m client.Other) (λ e. inl refl) (λ e. tt)

  -- ---- requests

  -- if no transaction is lost
  unlost_asked : (v : View) (g : Gateway) (c : ℕ) (s : Session) (k : Client) (r : Request) → KnowsSession k s →
      (has_statement r ≡ true → is_idle k.transaction ≡ not (in_tx s)) → IsAskedFor m (request_purpose k r) (asked_unless_lost v m g c s r)
  unfolding asked_unless_lost
  unlost_asked v g c s k requests.Leader h idle = inl refl
  unlost_asked v g c s k (requests.Client id) h idle = inl refl
  unlost_asked v g c s k (requests.Open name flags vfs) h idle =
      led v (unless (client.has_database k || not (is_name name)) (client.Opens name (barriers_asked flags))) _
      (open_asked v g k s name (barriers_asked flags) h.name)
  unlost_asked v g c s k (requests.Prepare db sql wide) h idle =
      led v (client.in_database k db (prepare_purpose sql wide (scan_of sql))) _
      (here k s db (prepare_purpose sql wide (scan_of sql)) _ h.name (prepare_asked s sql wide (scan_of sql)))
  unlost_asked v g c s k (requests.Exec db id params wide) h idle =
      led v (client.in_database k db (prepared_purpose k false (k.prepared id) params)) _
      (here k s db (prepared_purpose k false (k.prepared id) params) _ h.name
      (subst (λ o. IsAskedFor m (prepared_purpose k false o params) (asks_exec (write_hindrance m g c s) (in_tx s) (prepared_at s.statements id) params))
      (sym (h.prepared id)) (exec_asked k (write_hindrance m g c s) (in_tx s) (prepared_at s.statements id) params (idle refl))))
  unlost_asked v g c s k (requests.Query db id params wide) h idle =
      led v (client.in_database k db (prepared_purpose k true (k.prepared id) params)) _
      (here k s db (prepared_purpose k true (k.prepared id) params) _ h.name
      (subst (λ o. IsAskedFor m (prepared_purpose k true o params) (asks_prepared_query (write_hindrance m g c s) (prepared_at s.statements id) params))
      (sym (h.prepared id)) (prepared_asked k (write_hindrance m g c s) (prepared_at s.statements id) params)))
  unlost_asked v g c s k (requests.Finalize db id) h idle =
      here k s db (unless (is_none (k.prepared id)) (client.Drops id)) _ h.name
      (subst (λ o. IsAskedFor m (unless (is_none o) (client.Drops id)) (asks_finalize (prepared_at s.statements id) id)) (sym (h.prepared id))
      (finalize_asked (prepared_at s.statements id) id))
  unlost_asked v g c s k (requests.ExecSql db sql params wide) h idle =
      led v (client.in_database k db (text_purpose k sql (scan_of sql) params)) _
      (here k s db (text_purpose k sql (scan_of sql) params) _ h.name
      (text_asked k (write_hindrance m g c s) (in_tx s) sql (scan_of sql) params (idle refl)))
  unlost_asked v g c s k (requests.QuerySql db sql params wide) h idle =
      led v (client.in_database k db (query_text_purpose sql (scan_of sql) params)) _
      (here k s db (query_text_purpose sql (scan_of sql) params) _ h.name (rows_asked (write_hindrance m g c s) sql (scan_of sql) params))
  unlost_asked v g c s k (requests.Interrupt db) h idle = here k s db client.Empties _ h.name (inr (inl (refl, refl)))
  unlost_asked v g c s k (requests.Connect id address) h idle = connect_asked v id
  unlost_asked v g c s k (requests.Add id address) h idle = led v client.Empties _ (settled g client.Empties _ (add_asked v.servers id address))
  unlost_asked v g c s k (requests.Assign id role) h idle = led v client.Empties _ (settled g client.Empties _ (assign_asked v id role))
  unlost_asked v g c s k (requests.Remove id) h idle = led v client.Empties _ (settled g client.Empties _ (remove_asked v id))
  unlost_asked v g c s k (requests.Dump name) h idle = dump_asked name
  unlost_asked v g c s k (requests.Cluster format) h idle = cluster_asked v format
  unlost_asked v g c s k (requests.Transfer id) h idle = led v client.Empties _ (transfer_asked v id)
  unlost_asked v g c s k (requests.Describe format) h idle = describe_asked g.weight format
  unlost_asked v g c s k (requests.Weight weight) h idle = refl

  -- ---- a lost transaction

  -- it is about no statement, and no transaction begins
  abbrev IsApart : Purpose → Type 0
  IsApart client.Begins = ⊥
  IsApart (client.Runs rows statements) = ⊥
  IsApart (client.Prepares prepared tail) = ⊥
  IsApart p = Unit {0}

  unless_apart : (b : Bool) (p : Purpose) → IsApart p → IsApart (unless b p)
  unless_apart true p h = tt
  unless_apart false p h = h

  apart : (k : Client) (r : Request) → has_statement r ≡ false → IsApart (request_purpose k r)
  apart k requests.Leader none = tt
  apart k (requests.Client id) none = tt
  apart k (requests.Open name flags vfs) none = unless_apart (client.has_database k || not (is_name name)) (client.Opens name (barriers_asked flags)) tt
  apart k (requests.Prepare db sql wide) none = absurd (true≢false none)
  apart k (requests.Exec db id params wide) none = absurd (true≢false none)
  apart k (requests.Query db id params wide) none = absurd (true≢false none)
  apart k (requests.Finalize db id) none = unless_apart (not (client.has_database k && (db == 0))) (unless (is_none (k.prepared id)) (client.Drops id))
      (unless_apart (is_none (k.prepared id)) (client.Drops id) tt)
  apart k (requests.ExecSql db sql params wide) none = absurd (true≢false none)
  apart k (requests.QuerySql db sql params wide) none = absurd (true≢false none)
  apart k (requests.Interrupt db) none = unless_apart (not (client.has_database k && (db == 0))) client.Empties tt
  apart k (requests.Connect id address) none = tt
  apart k (requests.Add id address) none = tt
  apart k (requests.Assign id role) none = tt
  apart k (requests.Remove id) none = tt
  apart k (requests.Dump name) none = tt
  apart k (requests.Cluster format) none = tt
  apart k (requests.Transfer id) none = tt
  apart k (requests.Describe format) none = tt
  apart k (requests.Weight weight) none = tt

  -- it is asked for whether the client has heard of the loss or not
  same_apart : (t : client.Transaction) (p : Purpose) → IsApart p → client.unless_lost t p ≡ p
  same_apart Idle p h = refl
  same_apart (Begun begin last) p h = refl
  same_apart Lost client.Never h = refl
  same_apart Lost (client.Opens name barriers) h = refl
  same_apart Lost client.Begins h = absurd h
  same_apart Lost client.Commits h = refl
  same_apart Lost client.RollsBack h = refl
  same_apart Lost (client.Runs rows statements) h = absurd h
  same_apart Lost (client.Prepares prepared tail) h = absurd h
  same_apart Lost (client.Drops id) h = refl
  same_apart Lost (client.Dumps name) h = refl
  same_apart Lost client.Empties h = refl
  same_apart Lost client.Other h = refl

  -- what is asked for while it is lost
  abbrev IsLostFor : client.Transaction → Purpose → Asked → Type 0
  IsLostFor t p x = IsAskedFor m (client.unless_lost t p) x

  lost_tested : (t : client.Transaction) (b c : Bool) (p : Purpose) (cause : Cause) (x : Asked) → c ≡ b → IsLostFor t p x →
      IsLostFor t (unless c p) (if b then Never cause else x)
  lost_tested t true c p cause x e h = tt
  lost_tested t false c p cause x e h = subst (λ d. IsLostFor t (unless d p) x) (sym e) h

  word_lost : (t : client.Transaction) (word : WordKind) (s : Statement) → IsLostFor t (kind_purpose false word s) (lost_word word)
  word_lost t (words.Begin at_once) s = tt
  word_lost t words.Commit s = inl (same_apart t client.Commits tt, refl)
  word_lost t words.Rollback s = inr (same_apart t client.RollsBack tt, refl)
  word_lost t words.Write s = tt
  word_lost t words.LeftOut s = tt
  word_lost t words.Other s = tt

  one_lost : (t : client.Transaction) (k : Client) (p : Prepared) (params : List Value) → is_idle k.transaction ≡ false →
      IsLostFor t (sole_purpose k p params) (lost_one p params)
  one_lost t k p params idle =
      lost_tested t (wrong_params (p ∷ []) params) (wrong_params (p ∷ []) params) (kind_purpose (is_idle k.transaction) p.word (with_all p params)) _ _ refl
      (subst (λ b. IsLostFor t (kind_purpose b p.word (with_all p params)) (lost_word p.word)) (sym idle) (word_lost t p.word (with_all p params)))

  statements_lost : (t : client.Transaction) (k : Client) (ps : List Prepared) (params : List Value) → is_idle k.transaction ≡ false →
      IsLostFor t (list_purpose k ps params) (lost_statements ps params)
  statements_lost t k [] params idle = tt
  statements_lost t k (p ∷ []) params idle = one_lost t k p params idle
  statements_lost t k (p ∷ q ∷ ps) params idle = tt

  text_lost : (t : client.Transaction) (k : Client) (sql : List ℕ) (scanned : Result (List StatementSpan) ScanFault) (params : List Value) →
      is_idle k.transaction ≡ false → IsLostFor t (text_purpose k sql scanned params) (lost_text sql scanned params)
  text_lost t k sql (Err fault) params idle = tt
  text_lost t k sql (Ok spans) params idle = statements_lost t k (map (prepared_from sql) spans) params idle

  exec_lost : (t : client.Transaction) (k : Client) (p : Option Prepared) (params : List Value) → is_idle k.transaction ≡ false →
      IsLostFor t (prepared_purpose k false p params) (lost_exec p params)
  exec_lost t k None params idle = tt
  exec_lost t k (Some p) params idle = one_lost t k p params idle

  here_lost : (t : client.Transaction) (k : Client) (s : Session) (db : ℕ) (p : Purpose) (x : Asked) → k.name ≡ s.database → IsLostFor t p x →
      IsLostFor t (client.in_database k db p) (lost_in s db x)
  here_lost t k s db p x name h = lost_tested t (no_database s db) (not (client.has_database k && (db == 0))) p _ x
      (ap (λ n. not (nat_lt 0 (length n) && (db == 0))) name) h

  -- no transaction begins while one is lost
  abbrev pub BeginsUnlost : Bool → Asked → Type 0
  BeginsUnlost lost (Begins at_once) = lost ≡ false
  BeginsUnlost lost x = Unit {0}

  begins_apart : (p : Purpose) (x : Asked) → IsApart p → IsAskedFor m p x → BeginsUnlost true x
  begins_apart p (Never cause) plain is = tt
  begins_apart p (Tells response) plain is = tt
  begins_apart p (Sets effect) plain is = tt
  begins_apart p (Opens name barriers) plain is = tt
  begins_apart p (Creates name barriers) plain is = tt
  begins_apart p (Prepares prepared tail) plain is = tt
  begins_apart p (Drops id) plain is = tt
  begins_apart p (Forgets response) plain is = tt
  begins_apart p (Begins at_once) plain is = absurd (subst IsApart is plain)
  begins_apart p Commits plain is = tt
  begins_apart p RollsBack plain is = tt
  begins_apart p (Changes servers short) plain is = tt
  begins_apart p (Runs statements) plain is = tt
  begins_apart p (Reads statement) plain is = tt

  begins_free : (x : Asked) → BeginsUnlost false x
  begins_free (Never cause) = tt
  begins_free (Tells response) = tt
  begins_free (Sets effect) = tt
  begins_free (Opens name barriers) = tt
  begins_free (Creates name barriers) = tt
  begins_free (Prepares prepared tail) = tt
  begins_free (Drops id) = tt
  begins_free (Forgets response) = tt
  begins_free (Begins at_once) = refl
  begins_free Commits = tt
  begins_free RollsBack = tt
  begins_free (Changes servers short) = tt
  begins_free (Runs statements) = tt
  begins_free (Reads statement) = tt

  -- ---- requests

  unlost_same : (t : client.Transaction) (p : Purpose) → (is_lost t ≡ true → ⊥) → client.unless_lost t p ≡ p
  unlost_same Idle p free = refl
  unlost_same (Begun begin last) p free = refl
  unlost_same Lost p free = absurd (free refl)

  either_false : (b : Bool) → (b || false) ≡ b
  either_false true = refl
  either_false false = refl

  either_true : (b : Bool) → (b || true) ≡ true
  either_true true = refl
  either_true false = refl

  module _ (v : View) (g : Gateway) (c : ℕ) (s : Session) (k : Client) (h : KnowsSession k s) where
    -- what is asked for, by whether a transaction is lost
    abbrev by_loss : Bool → Request → Asked
    by_loss b r = unless_lost b (asks_lost s r) (asked_unless_lost v m g c s r)

    -- without a statement
    bare_asked : (r : Request) → has_statement r ≡ false → IsAskedFor m (request_purpose k r) (asked_unless_lost v m g c s r)
    bare_asked r none = unlost_asked v g c s k r h (λ e. absurd (true≢false (sym e ∙ none)))

    kept_asked : (r : Request) → has_statement r ≡ false → IsLostFor k.transaction (request_purpose k r) (asked_unless_lost v m g c s r)
    kept_asked r none = subst (λ w. IsAskedFor m w (asked_unless_lost v m g c s r)) (sym (same_apart k.transaction (request_purpose k r) (apart k r none)))
        (bare_asked r none)

    kept_begins : (r : Request) → has_statement r ≡ false → BeginsUnlost true (asked_unless_lost v m g c s r)
    kept_begins r none = begins_apart (request_purpose k r) (asked_unless_lost v m g c s r) (apart k r none) (bare_asked r none)

    lost_asked : (r : Request) → is_idle k.transaction ≡ false → IsLostFor k.transaction (request_purpose k r) (by_loss true r)
    lost_asked requests.Leader idle = kept_asked requests.Leader refl
    lost_asked (requests.Client id) idle = kept_asked (requests.Client id) refl
    lost_asked (requests.Open name flags vfs) idle = kept_asked (requests.Open name flags vfs) refl
    lost_asked (requests.Prepare db sql wide) idle = tt
    lost_asked (requests.Exec db id params wide) idle =
        here_lost k.transaction k s db (prepared_purpose k false (k.prepared id) params) _ h.name
        (subst (λ o. IsLostFor k.transaction (prepared_purpose k false o params) (lost_exec (prepared_at s.statements id) params)) (sym (h.prepared id))
        (exec_lost k.transaction k (prepared_at s.statements id) params idle))
    lost_asked (requests.Query db id params wide) idle = tt
    lost_asked (requests.Finalize db id) idle = kept_asked (requests.Finalize db id) refl
    lost_asked (requests.ExecSql db sql params wide) idle =
        here_lost k.transaction k s db (text_purpose k sql (scan_of sql) params) _ h.name (text_lost k.transaction k sql (scan_of sql) params idle)
    lost_asked (requests.QuerySql db sql params wide) idle = tt
    lost_asked (requests.Interrupt db) idle = kept_asked (requests.Interrupt db) refl
    lost_asked (requests.Connect id address) idle = kept_asked (requests.Connect id address) refl
    lost_asked (requests.Add id address) idle = kept_asked (requests.Add id address) refl
    lost_asked (requests.Assign id role) idle = kept_asked (requests.Assign id role) refl
    lost_asked (requests.Remove id) idle = kept_asked (requests.Remove id) refl
    lost_asked (requests.Dump name) idle = kept_asked (requests.Dump name) refl
    lost_asked (requests.Cluster format) idle = kept_asked (requests.Cluster format) refl
    lost_asked (requests.Transfer id) idle = kept_asked (requests.Transfer id) refl
    lost_asked (requests.Describe format) idle = kept_asked (requests.Describe format) refl
    lost_asked (requests.Weight weight) idle = kept_asked (requests.Weight weight) refl

    begins : (b : Bool) (r : Request) → BeginsUnlost b (by_loss b r)
    begins false r = begins_free (by_loss false r)
    begins true requests.Leader = kept_begins requests.Leader refl
    begins true (requests.Client id) = kept_begins (requests.Client id) refl
    begins true (requests.Open name flags vfs) = kept_begins (requests.Open name flags vfs) refl
    begins true (requests.Prepare db sql wide) = tt
    begins true (requests.Exec db id params wide) = lost_so (BeginsUnlost true) s tt tt tt (requests.Exec db id params wide)
    begins true (requests.Query db id params wide) = tt
    begins true (requests.Finalize db id) = kept_begins (requests.Finalize db id) refl
    begins true (requests.ExecSql db sql params wide) = lost_so (BeginsUnlost true) s tt tt tt (requests.ExecSql db sql params wide)
    begins true (requests.QuerySql db sql params wide) = tt
    begins true (requests.Interrupt db) = kept_begins (requests.Interrupt db) refl
    begins true (requests.Connect id address) = kept_begins (requests.Connect id address) refl
    begins true (requests.Add id address) = kept_begins (requests.Add id address) refl
    begins true (requests.Assign id role) = kept_begins (requests.Assign id role) refl
    begins true (requests.Remove id) = kept_begins (requests.Remove id) refl
    begins true (requests.Dump name) = kept_begins (requests.Dump name) refl
    begins true (requests.Cluster format) = kept_begins (requests.Cluster format) refl
    begins true (requests.Transfer id) = kept_begins (requests.Transfer id) refl
    begins true (requests.Describe format) = kept_begins (requests.Describe format) refl
    begins true (requests.Weight weight) = kept_begins (requests.Weight weight) refl

    by_asked : (b : Bool) (r : Request) → s.lost ≡ b → IsAskedFor m (purpose k (Some r)) (by_loss b r)
    by_asked true r e = lost_asked r (h.idle ∙ ap (λ (b : Bool). not (in_tx s || b)) e ∙ ap not (either_true (in_tx s)))
    by_asked false r e = subst (λ w. IsAskedFor m w (by_loss false r))
        (sym (unlost_same k.transaction (request_purpose k r) (λ lost. true≢false (sym (h.lost lost) ∙ e))))
        (unlost_asked v g c s k r h (λ some. h.idle ∙ ap (λ (b : Bool). not (in_tx s || b)) e ∙ ap not (either_false (in_tx s))))

    pub request_asked : (r : Request) → IsAskedFor m (purpose k (Some r)) (asked_by v m g c s r)
    unfolding asked_by
    request_asked r = by_asked s.lost r refl

    pub request_begins : (r : Request) → BeginsUnlost s.lost (asked_by v m g c s r)
    unfolding asked_by
    request_begins r = begins s.lost r

pub requests_ask_purposes_hold : RequestsAskPurposes
requests_ask_purposes_hold v m g c k r h = request_asked m v g c (g.session c) k h r
