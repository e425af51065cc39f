-- Only a CONNECT, at a node with peer connections, has a connection carry a peer's messages.
use Rattle.std.proofs.Common.{◌≡◌, ℕ, Bool, true, false, cond, not, ◌&&◌, List, [], ◌∷◌, length, map, Option, Some, None, Result, Ok, Err, refl, sym, ap, subst, ◌∙◌}
use Rattle.std.specs.Prelude.{◌==◌, nat_lt, nat_le}
use Rattle.wire_words.specs.declared.message.Message.{Message}
use Rattle.wire_words.specs.declared.value.Value.{Value}
use Rattle.wire_msgs.specs.declared.fault.MsgFault.{MsgFault}
use Rattle.wire_msgs.specs.declared.request.Request.{Request}
use Rattle.wire_msgs.specs.declared.request.Request.TheVariants as requests
use Rattle.wire_msgs.specs.Reading.{request_of}
use Rattle.raft_spec.specs.Node.{among, voters}
use Rattle.sql_scan.specs.declared.pieces.StatementSpan.{StatementSpan}
use Rattle.sql_scan.specs.declared.fault.ScanFault.{ScanFault}
use Rattle.sql_scan.specs.declared.heading.WordKind.{WordKind}
use Rattle.sql_scan.specs.declared.heading.WordKind.TheVariants as words
use Rattle.sql_scan.specs.Statements.{scan_of}
use Rattle.sql_engine.specs.Replies.{Statement}
use Rattle.session_spec.specs.Causes.{Cause, BadNode}
use Rattle.session_spec.specs.Engines.{Answer, Ending, Lacking, TooLarge, Stopped, Ended}
use Rattle.session_spec.specs.Limits.{change_in_flight, one_too_many, log_full, write_hindrance}
use Rattle.session_spec.specs.Machine.{Machine, is_named}
use Rattle.session_spec.specs.Requests as rules
use Rattle.session_spec.specs.Requests.{on_request, on_later, does}
use Rattle.session_spec.specs.Servers.{has_server, is_spare}
use Rattle.session_spec.specs.Sessions.{Prepared, Session, Gateway, Transaction, View, Effect, HandsOver, JoinsPeer, Weighs, in_tx}
use Rattle.session_spec.specs.Sessions.{Turned, Refused, Lacks, Answers, Proposes, Lends, Affects}
use Rattle.session_spec.specs.Statements.{prepared_from, prepared_at, prepared_count, is_left_out, is_write_word, any_barred, any_write, wrong_params, with_params, with_all}
use Rattle.session_spec.specs.Asking as asking
use Rattle.session_spec.proofs.Losing.{asked_both}
use Rattle.session_spec.specs.Asking.{Asked, Never, Tells, Sets, Opens, Creates, Prepares, Drops, Forgets, Begins, Commits, RollsBack, Changes, Runs, Reads, asked_unless_lost, asked_by}
use Rattle.session_outcomes.specs.Scenes.{scene}
use Rattle.session_statements.specs.Calls.{EngineCall}
use Rattle.session_gateway.specs.declared.act.Act.{Act as GatewayAct}
use Rattle.session_gateway.specs.Calls.{Is}
use Rattle.client_sessions.specs.declared.act.Act.{Act}
use Rattle.client_sessions.specs.declared.act.Act.TheVariants as acts
use Rattle.client_sessions.specs.Calls.{act_on, Comes, TookOffer}
use Rattle.client_sessions.specs.Clients.{Clients}
use Rattle.client_sessions.specs.Later.{Resumes}

-- this holds of the peer whose messages the connection is to carry, if it is to
abbrev ForEffect : (ℕ → Type 0) → Effect → Type 0
ForEffect P (HandsOver id) = Unit {0}
ForEffect P (JoinsPeer id) = P id
ForEffect P (Weighs weight) = Unit {0}

abbrev MayAsk : (ℕ → Type 0) → Asked → Type 0
MayAsk P (Never cause) = Unit {0}
MayAsk P (Tells response) = Unit {0}
MayAsk P (Sets effect) = ForEffect P effect
MayAsk P (Opens name barriers) = Unit {0}
MayAsk P (Creates name barriers) = Unit {0}
MayAsk P (Prepares prepared tail) = Unit {0}
MayAsk P (Drops id) = Unit {0}
MayAsk P (Forgets response) = Unit {0}
MayAsk P (Begins at_once) = Unit {0}
MayAsk P Commits = Unit {0}
MayAsk P RollsBack = Unit {0}
MayAsk P (Changes servers short) = Unit {0}
MayAsk P (Runs statements) = Unit {0}
MayAsk P (Reads statement) = Unit {0}

abbrev MayTurn : (ℕ → Type 0) → Turned → Type 0
MayTurn P (Refused cause) = Unit {0}
MayTurn P Lacks = Unit {0}
MayTurn P (Answers s reply note) = Unit {0}
MayTurn P (Proposes s contents note) = Unit {0}
MayTurn P (Lends s job) = Unit {0}
MayTurn P (Affects effect) = ForEffect P effect

module _ (v : View) (P : ℕ → Type 0) where
  either : (b : Bool) (x y : Asked) → MayAsk P x → MayAsk P y → MayAsk P (cond b x y)
  either true x y a h = a
  either false x y a h = h

  in_database : (s : Session) (db : ℕ) (asked : Asked) → MayAsk P asked → MayAsk P (asking.in_database s db asked)
  in_database s db asked h = either (asking.no_database s db) _ asked tt h

  served : (s : Session) (db : ℕ) (asked : Asked) → MayAsk P asked → MayAsk P (asking.at_leader v (asking.in_database s db asked))
  served s db asked h = either v.serving (asking.in_database s db asked) _ (in_database s db asked h) tt

  leading : (asked : Asked) → MayAsk P asked → MayAsk P (asking.at_leader v asked)
  leading asked h = either v.serving asked _ h tt

  settled : (g : Gateway) (asked : Asked) → MayAsk P asked → MayAsk P (asking.if_settled g asked)
  settled g asked h = either (change_in_flight g) _ asked tt h

  of_other : (id : ℕ) (asked : Asked) → MayAsk P asked → MayAsk P (asking.of_other v id asked)
  of_other id asked h = either (id == v.id) _ asked tt h

  never : (hinders : Option Cause) (asked : Asked) → MayAsk P asked → MayAsk P (asking.never_or hinders asked)
  never None asked h = h
  never (Some cause) asked h = tt

  -- what runs, or is refused if it is a write
  write : (hinders : Option Cause) (is_write : Bool) (asked : Asked) → MayAsk P asked → MayAsk P (cond is_write (asking.never_or hinders asked) asked)
  write hinders is_write asked h = either is_write (asking.never_or hinders asked) asked (never hinders asked h) h

  module _ (hinders : Option Cause) where
    kind : (active : Bool) (word : WordKind) (s : Statement) → MayAsk P (asking.asks_kind hinders active word s)
    kind true (words.Begin at_once) s = tt
    kind false (words.Begin at_once) s = tt
    kind true words.Commit s = tt
    kind false words.Commit s = tt
    kind true words.Rollback s = tt
    kind false words.Rollback s = tt
    kind active words.Write s = never hinders (Runs (s ∷ [])) tt
    kind active words.LeftOut s = tt
    kind active words.Other s = tt

    one : (active : Bool) (p : Prepared) (params : List Value) → MayAsk P (asking.asks_one hinders active p params)
    one active p params = either (is_left_out p.word) _ _ tt (either (wrong_params (p ∷ []) params) _ _ tt (kind active p.word (with_all p params)))

    several : (ps : List Prepared) (params : List Value) → MayAsk P (asking.asks_several hinders ps params)
    several ps params = either (any_barred ps) _ _ tt (either (wrong_params ps params) _ _ tt (write hinders (any_write ps) (Runs (with_params ps params)) tt))

    statements : (active : Bool) (ps : List Prepared) (params : List Value) → MayAsk P (asking.asks_statements hinders active ps params)
    statements active [] params = several [] params
    statements active (p ∷ []) params = one active p params
    statements active (p ∷ q ∷ ps) params = several (p ∷ q ∷ ps) params

    text : (active : Bool) (sql : List ℕ) (t : Result (List StatementSpan) ScanFault) (params : List Value) → MayAsk P (asking.asks_text hinders active sql t params)
    text active sql (Err fault) params = tt
    text active sql (Ok pieces) params = statements active (map (prepared_from sql) pieces) params

    query : (p : Prepared) (params : List Value) → MayAsk P (asking.asks_query hinders p params)
    query p params = either (any_barred (p ∷ [])) _ _ tt (either (wrong_params (p ∷ []) params) _ _ tt (write hinders (is_write_word p.word) (Reads (with_all p params)) tt))

    not_one : (ps : List Prepared) → MayAsk P (asking.not_one ps)
    not_one ps = either (any_barred ps) _ _ tt tt

    sole : (ps : List Prepared) (params : List Value) → MayAsk P (asking.asks_sole hinders ps params)
    sole [] params = not_one []
    sole (p ∷ []) params = query p params
    sole (p ∷ q ∷ ps) params = not_one (p ∷ q ∷ ps)

    rows : (sql : List ℕ) (t : Result (List StatementSpan) ScanFault) (params : List Value) → MayAsk P (asking.asks_rows hinders sql t params)
    rows sql (Err fault) params = tt
    rows sql (Ok pieces) params = sole (map (prepared_from sql) pieces) params

    exec : (active : Bool) (o : Option Prepared) (params : List Value) → MayAsk P (asking.asks_exec hinders active o params)
    exec active None params = tt
    exec active (Some p) params = one active p params

    prepared_query : (o : Option Prepared) (params : List Value) → MayAsk P (asking.asks_prepared_query hinders o params)
    prepared_query None params = tt
    prepared_query (Some p) params = query p params

  finalize : (o : Option Prepared) (id : ℕ) → MayAsk P (asking.asks_finalize o id)
  finalize None id = tt
  finalize (Some p) id = tt

  room : (s : Session) (p : Prepared) (tail : Option ℕ) → MayAsk P (asking.with_room s p tail)
  room s p tail = either (nat_le 64 (prepared_count s.statements)) _ (Prepares p tail) tt tt

  pieces_too : (s : Session) (sql : List ℕ) (wide : Bool) (pieces : List StatementSpan) → MayAsk P (asking.asks_prepare_pieces s sql wide pieces)
  pieces_too s sql wide [] = tt
  pieces_too s sql wide (p ∷ []) = either (is_left_out p.word) _ _ tt (room s (prepared_from sql p) (asking.tail_of wide p))
  pieces_too s sql wide (p ∷ q ∷ ps) =
      either (any_barred (map (prepared_from sql) (p ∷ q ∷ ps))) _ _ tt (either wide (asking.with_room s (prepared_from sql p) (asking.tail_of wide p)) _ (room s (prepared_from sql p) (asking.tail_of wide p)) tt)

  prepare : (s : Session) (sql : List ℕ) (wide : Bool) (t : Result (List StatementSpan) ScanFault) → MayAsk P (asking.asks_prepare s sql wide t)
  prepare s sql wide (Err fault) = tt
  prepare s sql wide (Ok pieces) = pieces_too s sql wide pieces

  opening : (m : Machine) (g : Gateway) (s : Session) (name : List ℕ) (barriers : Bool) → MayAsk P (asking.asks_open v m g s name barriers)
  opening m g s name barriers =
      either (asking.has_database s) _ _ tt (either (not (asking.is_name name)) _ _ tt
      (either (is_named m.names name) (Opens name barriers) _ tt (either (one_too_many m g name) _ _ tt (either (log_full v) _ (Creates name barriers) tt tt))))

  adding : (id : ℕ) (address : List ℕ) → MayAsk P (asking.asks_add v.servers id address)
  adding id address = either (asking.is_barred_node v.servers id address) _ (Changes _ _) tt tt

  role_too : (id role : ℕ) → MayAsk P (asking.asks_role v id role)
  role_too id role =
      either (asking.is_promotion v.servers id role && nat_le 7 (length (voters v.servers))) _ _ tt
      (either (asking.is_promotion v.servers id role && not (among v.near id)) _ (Changes _ _) (either (is_spare v.servers id) (Changes _ _) (Never _) tt tt) tt)

  assigning : (id role : ℕ) → MayAsk P (asking.asks_assign v id role)
  assigning id role = either (not (has_server v.servers id)) _ _ tt (either (nat_lt 2 role) _ _ tt (of_other id (asking.asks_role v id role) (role_too id role)))

  removing : (id : ℕ) → MayAsk P (asking.asks_remove v id)
  removing id = either (has_server v.servers id) (asking.of_other v id (Changes _ _)) _ (of_other id (Changes _ _) tt) tt

  transferring : (id : ℕ) → MayAsk P (asking.asks_transfer v id)
  transferring id = either (among (voters v.servers) id) _ _ (either (asking.may_take_over v id) (Sets (HandsOver id)) _ tt tt) tt

  connecting : (id : ℕ) → (v.links ≡ true → P id) → MayAsk P (asking.asks_connect v id)
  connecting id may = by v.links (asking.is_other_node v id) refl
    where
      by : (links other : Bool) → v.links ≡ links → MayAsk P (cond (links && other) (Sets (JoinsPeer id)) (Never BadNode))
      by true true e = may e
      by true false e = tt
      by false other e = tt

  unlost_too : (m : Machine) (g : Gateway) (conn : ℕ) (s : Session) (request : Request) → ((id : ℕ) (address : List ℕ) → request ≡ requests.Connect id address → v.links ≡ true → P id) → MayAsk P (asked_unless_lost v m g conn s request)
  unfolding asked_unless_lost
  unlost_too m g conn s requests.Leader may = tt
  unlost_too m g conn s (requests.Client id) may = tt
  unlost_too m g conn s (requests.Open name flags vfs) may = leading (asking.asks_open v m g s name (asking.barriers_asked flags)) (opening m g s name (asking.barriers_asked flags))
  unlost_too m g conn s (requests.Prepare db sql wide) may = served s db (asking.asks_prepare s sql wide (scan_of sql)) (prepare s sql wide (scan_of sql))
  unlost_too m g conn s (requests.Exec db id params wide) may = served s db (asking.asks_exec (write_hindrance m g conn s) (in_tx s) (prepared_at s.statements id) params) (exec (write_hindrance m g conn s) (in_tx s) (prepared_at s.statements id) params)
  unlost_too m g conn s (requests.Query db id params wide) may = served s db (asking.asks_prepared_query (write_hindrance m g conn s) (prepared_at s.statements id) params) (prepared_query (write_hindrance m g conn s) (prepared_at s.statements id) params)
  unlost_too m g conn s (requests.Finalize db id) may = in_database s db (asking.asks_finalize (prepared_at s.statements id) id) (finalize (prepared_at s.statements id) id)
  unlost_too m g conn s (requests.ExecSql db sql params wide) may = served s db (asking.asks_text (write_hindrance m g conn s) (in_tx s) sql (scan_of sql) params) (text (write_hindrance m g conn s) (in_tx s) sql (scan_of sql) params)
  unlost_too m g conn s (requests.QuerySql db sql params wide) may = served s db (asking.asks_rows (write_hindrance m g conn s) sql (scan_of sql) params) (rows (write_hindrance m g conn s) sql (scan_of sql) params)
  unlost_too m g conn s (requests.Interrupt db) may = in_database s db (Tells _) tt
  unlost_too m g conn s (requests.Connect id address) may = connecting id (may id address refl)
  unlost_too m g conn s (requests.Add id address) may = leading _ (settled g (asking.asks_add v.servers id address) (adding id address))
  unlost_too m g conn s (requests.Assign id role) may = leading _ (settled g (asking.asks_assign v id role) (assigning id role))
  unlost_too m g conn s (requests.Remove id) may = leading _ (settled g (asking.asks_remove v id) (removing id))
  unlost_too m g conn s (requests.Dump name) may = either (is_named m.names name) _ _ (either (nat_lt 16777216 (asking.body_size (asking.files_of name (m.base name).image))) _ (Tells _) tt tt) tt
  unlost_too m g conn s (requests.Cluster format) may = either (nat_le format 1) (Tells _) _ tt tt
  unlost_too m g conn s (requests.Transfer id) may = leading (asking.asks_transfer v id) (transferring id)
  unlost_too m g conn s (requests.Describe format) may = either (format == 0) (Tells _) _ tt tt
  unlost_too m g conn s (requests.Weight weight) may = tt

  asked_too : (m : Machine) (g : Gateway) (conn : ℕ) (s : Session) (request : Request) → ((id : ℕ) (address : List ℕ) → request ≡ requests.Connect id address → v.links ≡ true → P id) → MayAsk P (asked_by v m g conn s request)
  asked_too m g conn s request may = asked_both (MayAsk P) v m g conn s request tt (λ response ends. tt) (unlost_too m g conn s request may)

  -- ---- what comes of it

  turns : (b : Bool) (x y : Turned) → MayTurn P x → MayTurn P y → MayTurn P (cond b x y)
  turns true x y a h = a
  turns false x y a h = h

  unless_too : (o : Option Cause) (t : Turned) → MayTurn P t → MayTurn P (rules.unless o t)
  unless_too None t h = h
  unless_too (Some cause) t h = tt

  module _ (m : Machine) (g : Gateway) (conn : ℕ) (s : Session) where
    outside_too : (ss : List Statement) (rs : Bool) (e : Ending) → MayTurn P (rules.outside v m g conn s ss rs e)
    unfolding rules.outside rules.outside_write
    outside_too ss rs Lacking = tt
    outside_too ss rs (TooLarge answer) = search (unless_too, turns)
    outside_too ss rs (Stopped fault) = tt
    outside_too ss rs (Ended to answer) = search (unless_too, turns)

    inside_too : (x : Transaction) (ss : List Statement) (rs : Bool) (e : Ending) → MayTurn P (rules.inside m g conn s x ss rs e)
    unfolding rules.inside
    inside_too x ss rs Lacking = tt
    inside_too x ss rs (TooLarge answer) = search (unless_too, turns)
    inside_too x ss rs (Stopped fault) = tt
    inside_too x ss rs (Ended to answer) = search (unless_too, turns)

    run_too : (o : Option Transaction) (ss : List Statement) (rs : Bool) (answers : List Answer) → MayTurn P (rules.run_in v m g conn s o ss rs answers)
    run_too None ss rs answers = outside_too ss rs _
    run_too (Some x) ss rs answers = inside_too x ss rs _

    read_too : (o : Option Transaction) (statement : Statement) (answers : List Answer) → MayTurn P (rules.read_in v m g conn s o statement answers)
    read_too None statement answers = search (turns, outside_too)
    read_too (Some x) statement answers = run_too (Some x) (statement ∷ []) true answers

    commit_too : (o : Option Transaction) → MayTurn P (rules.commit_in v m g conn s o)
    unfolding rules.committed
    commit_too None = tt
    commit_too (Some x) = search (unless_too, turns)

    does_too : (x : Asked) (answers : List Answer) → MayAsk P x → MayTurn P (does v m g conn s x answers)
    unfolding does
    does_too (Never cause) answers h = tt
    does_too (Tells response) answers h = tt
    does_too (Sets effect) answers h = h
    does_too (Opens name barriers) answers h = tt
    does_too (Creates name barriers) answers h = search (turns)
    does_too (Prepares p tail) answers h = tt
    does_too (Drops id) answers h = tt
    does_too (Forgets response) answers h = tt
    does_too (Begins at_once) answers h = search (turns)
    does_too Commits answers h = commit_too s.tx
    does_too RollsBack answers h = tt
    does_too (Changes servers short) answers h = search (turns)
    does_too (Runs ss) answers h = run_too s.tx ss false answers
    does_too (Reads statement) answers h = search (turns, read_too)

request_too : (v : View) (P : ℕ → Type 0) (m : Machine) (g : Gateway) (conn : ℕ) (request : Request) (answers : List Answer)
    → ((id : ℕ) (address : List ℕ) → request ≡ requests.Connect id address → v.links ≡ true → P id) → MayTurn P (on_request v m g conn request answers)
unfolding on_request
request_too v P m g conn request answers may = does_too v P m g conn (g.session conn) (asking.asked v m g conn request) answers (asked_too v P m g conn (g.session conn) request may)

later_too : (v : View) (P : ℕ → Type 0) (m : Machine) (g : Gateway) (conn : ℕ) (statement : Statement) (answers : List Answer) → MayTurn P (on_later v m g conn statement answers)
unfolding on_later
later_too v P m g conn statement answers = search (turns, run_too)

-- ---- acts

-- the connection carries a peer's messages from now on, of which this holds
abbrev pub IfPeer : (ℕ → ℕ → Type 0) → Act → Type 0
IfPeer P (acts.Reply conn messages) = Unit {0}
IfPeer P (acts.Propose conn entries) = Unit {0}
IfPeer P (acts.Lend conn job) = Unit {0}
IfPeer P (acts.Transfer conn to reply) = Unit {0}
IfPeer P (acts.Peer conn id reply) = P conn id

acts_for : (P : ℕ → ℕ → Type 0) (v : View) (g : Gateway) (conn : ℕ) (t : Turned) (now : Gateway) (act : GatewayAct) → MayTurn (P conn) t → Is v g conn t now act → IfPeer P (act_on conn act)
acts_for P v g conn (Refused cause) now act h is = subst (λ (a : GatewayAct). IfPeer P (act_on conn a)) (sym is.1) tt
acts_for P v g conn Lacks now act h is = absurd is
acts_for P v g conn (Answers s reply note) now act h is = subst (λ (a : GatewayAct). IfPeer P (act_on conn a)) (sym is.1) tt
acts_for P v g conn (Proposes s contents note) now act h is = subst (λ (a : GatewayAct). IfPeer P (act_on conn a)) (sym is.1) tt
acts_for P v g conn (Lends s job) now act h is = subst (λ (a : GatewayAct). IfPeer P (act_on conn a)) (sym is.1) tt
acts_for P v g conn (Affects (HandsOver id)) now act h is = subst (λ (a : GatewayAct). IfPeer P (act_on conn a)) (sym is.1) tt
acts_for P v g conn (Affects (JoinsPeer id)) now act h is = subst (λ (a : GatewayAct). IfPeer P (act_on conn a)) (sym is.1) h
acts_for P v g conn (Affects (Weighs weight)) now act h is = subst (λ (a : GatewayAct). IfPeer P (act_on conn a)) (sym is.1) tt

-- a message of this connection is a CONNECT of this node, and there are peer connections
pub record IsConnect (v : View) (from : ℕ) (message : Message) (conn id : ℕ) : Type 0 where
  pub conn_is : conn ≡ from
  pub links : v.links ≡ true
  pub address : List ℕ
  pub asks : request_of message ≡ Ok (requests.Connect id address)

came_peer : (c : EngineCall) (v : View) (m : Machine) (g : Gateway) (conn : ℕ) (message : Message) (r : Result Request MsgFault) (refused refused_now : ℕ) (now : Gateway) (act : Act)
    → request_of message ≡ r → Comes c (scene v m g conn) r refused refused_now now act → IfPeer (IsConnect v conn message) act
came_peer c v m g conn message (Ok request) refused refused_now now act is x =
    subst (IfPeer (IsConnect v conn message)) (sym x.act_is)
    (acts_for (IsConnect v conn message) v g conn (on_request v m g conn request x.turned.answers) now x.gateway_act
    (request_too v (IsConnect v conn message conn) m g conn request x.turned.answers
    (λ id address asks links. record { conn_is = refl; links = links; address = address; asks = is ∙ ap (λ (q : Request). Ok q) asks })) x.turned.is)
came_peer c v m g conn message (Err fault) refused refused_now now act is x = subst (IfPeer (IsConnect v conn message)) (sym x.act_is) tt

-- What comes of a message has a connection carry a peer's messages only if it is a CONNECT of that peer, and there are peer connections.
pub took_peer : (c : EngineCall) (v : View) (m : Machine) (old : Clients) (refused refused_now : ℕ) (new : Clients) (act : Act) (x : TookOffer c v m old refused refused_now new act)
    → IfPeer (IsConnect v x.offer.conn x.offer.message) act
took_peer c v m old refused refused_now new act x =
    came_peer c v m old.sessions x.offer.conn x.offer.message (request_of x.offer.message) refused refused_now new.sessions act refl x.came

-- What comes of a query that is run later has none.
abbrev pub IsNoPeer : Act → Type 0
IsNoPeer act = IfPeer (λ conn id. ⊥) act

pub resumed_none : (c : EngineCall) (v : View) (m : Machine) (g : Gateway) (conn : ℕ) (o : Option Statement) (refused refused_now : ℕ) (now : Gateway) (act : Act)
    → Resumes c (scene v m g conn) o refused refused_now now (Some act) → IsNoPeer act
resumed_none c v m g conn None refused refused_now now act x = absurd x
resumed_none c v m g conn (Some statement) refused refused_now now act x =
    let h = rules.without_later g conn in
    subst IsNoPeer (sym x.act_is) (acts_for (λ conn id. ⊥) v h conn (on_later v m h conn statement x.ran.answers) now x.gateway_act (later_too v (λ id. ⊥) m h conn statement x.ran.answers) x.ran.is)
