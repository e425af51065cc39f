-- A connection that asks for barrier reads: its next reply, if it gives rows, read an image past the log that the leader had.
use Rattle.std.proofs.Common.{◌≡◌, ◌≢◌, ◌⊎◌, inl, inr, ℕ, suc, ◌+◌, ◌<◌, ◌≤◌, Bool, true, false, true≢false, List, [], ◌∷◌, ◌++◌, length, refl, sym, ap, ◌∙◌, subst, ⊎_elim, arith, append_assoc, length-append}
use Rattle.std.specs.Prelude.{cond, ◌==◌, ◌&&◌, not, is_none, Option, Some, None}
use Rattle.std.proofs.lemmas.Bool.{cond-true, cond-false, cond_both, eqb-true, eq-eqb, ne_eqb, cases_eq, cases_Bool, and_parts, or_cases, or_parts}
use Rattle.std.proofs.lemmas.List.{append-nil}
use Rattle.dq_base.specs.declared.pages.NumberedPage.{NumberedPage}
use Rattle.dq_base.specs.Changes.{changed}
use Rattle.log_commands.specs.Splitting.{before_last}
use Rattle.database_state.specs.Files.{empty_image}
use Rattle.sql_engine.specs.declared.answer.StatementResult.{StatementResult}
use Rattle.sql_engine.specs.declared.kind.EngineKind.{EngineKind}
use Rattle.sql_engine.specs.Meanings.{Meaning}
use Rattle.sql_engine.specs.Replies.{Statement}
use Rattle.wire_msgs.specs.declared.request.Request.{Request}
use Rattle.raft_spec.specs.Node.{among}
use Rattle.session_spec.specs.Asking.{Asked, Never, Tells, Sets, Opens, Creates, Prepares, Drops, Forgets, Begins, Commits, RollsBack, Changes, Runs, Reads, asked}
use Rattle.session_spec.specs.Causes.{Cause}
use Rattle.session_spec.specs.Engines.{Answer, no_pages, Ending, Lacking, TooLarge, Stopped, Ended}
use Rattle.session_spec.specs.Entries.{entries_of}
use Rattle.session_spec.specs.Events.{tidy, landed, settled_by, on_applied, left, on_hangup, connects, connected}
use Rattle.session_spec.specs.Limits.{other_holds, pages_full, log_full}
use Rattle.session_spec.specs.Machine.{Machine}
use Rattle.session_spec.specs.Requests.{unless, change_of, reply_of, outside_write, outside, run_in, commit_in, waits_first, does, on_request, on_later, with_session}
use Rattle.session_spec.specs.Sessions.{Reply, Refusal, Single, Rows, Kind, Opening, Configuring, Writing, Committing, Querying, Flight, Later, Due, Lent, later_query, lent_query, Transaction, Session, Gateway, View, absent, fresh, is_flying, is_busy, may_ask, HandsOver, JoinsPeer, Weighs, Note, Nothing, Began, Inside, Outside, Turned, Refused, Lacks, Answers, Proposes, Lends, Affects}
use Rattle.session_safety.specs.Nodes.{Query, Said, Trail, Standing, databases, view_of, Node as Life}
use Rattle.session_safety.specs.Answering.{said_to}
use Rattle.session_safety.specs.Laws.{NoneComes}
use Rattle.session_safety.specs.Life.{Event as Doing, Connect, Hangup, Call, Resume, Done, Apply, Lose, Lead, Serve, Append, Follow, query_for, query_by, proposed_trail, landed_trail, trail_by, said_landed, said_by, said_applied, undue, outcome_later, resumed_by, resumed, told_at, read_by, read, called, happens as goes_on, run_from as lives_on, Fits, AllFit}
use Rattle.session_safety.proofs.Files.{split_some}
use Rattle.session_safety.proofs.Invariant.{NodeOk}
use Rattle.session_safety.proofs.Laters.{undue_here}
use Rattle.session_safety.proofs.Lives.{none_is, happens_ok}
use Rattle.session_safety.proofs.Replying.{said_to_append}
use Rattle.session_safety.proofs.Terms.{term_up, terms_up}
use Rattle.session_safety.proofs.Ways.{barrier_both, reads_both, later_both}
use Rattle.cluster_model.proofs.Clusters.{applied_run}
use Rattle.cluster_safety.proofs.Speaks.{life_said}

to_it : (c : ℕ) (x : Said) (xs : List Said) → x.conn ≡ c → said_to c (x ∷ xs) ≡ x ∷ said_to c xs
to_it c x xs e = cond-true (x.conn == c) (x ∷ said_to c xs) (said_to c xs) (eq-eqb x.conn c e)

to_other : (c : ℕ) (x : Said) (xs : List Said) → x.conn ≢ c → said_to c (x ∷ xs) ≡ said_to c xs
to_other c x xs e = cond-false (x.conn == c) (x ∷ said_to c xs) (said_to c xs) (ne_eqb x.conn c e)

-- ---- what may be told next

-- past an index that is applied
abbrev pub QueryNew : ℕ → ℕ → Option Query → Type 0
QueryNew k applied None = Unit {0}
QueryNew k applied (Some q) = (k < q.at) × (k < applied)

abbrev pub ReplyNew : ℕ → ℕ → Reply → Type 0
ReplyNew k at (Refusal cause) = Unit {0}
ReplyNew k at (Single response) = Unit {0}
ReplyNew k at (Rows answer) = k < at

abbrev pub KindNew : ℕ → ℕ → Flight → Kind → Type 0
KindNew k at f Opening = Unit {0}
KindNew k at f (Configuring short) = Unit {0}
KindNew k at f (Writing reply) = ReplyNew k at reply
KindNew k at f Committing = Unit {0}
KindNew k at f (Querying statement) = k < f.last

abbrev pub FlightNew : ℕ → ℕ → Option Flight → Type 0
FlightNew k at None = Unit {0}
FlightNew k at (Some f) = KindNew k at f f.kind

abbrev pub LaterNew : ℕ → ℕ → Option Later → Type 0
LaterNew k applied None = Unit {0}
LaterNew k applied (Some (Due s)) = k < applied
LaterNew k applied (Some (Lent s)) = ⊥

-- a leader's log reaches the index; nothing that the connection waits for rests on an image up to it, and it asks for barriers
pub record Quiet (k conn : ℕ) (w : Life) : Type 0 where
  pub leads : w.leads ≡ true
  pub log : k ≤ length w.log
  pub flight : FlightNew k (w.trail conn).at (w.gate.session conn).flight
  pub later : LaterNew k w.applied (w.gate.session conn).later
  pub outside : (w.gate.session conn).tx ≡ None
  pub asks : (w.gate.session conn).flight ≡ None → (w.gate.session conn).later ≡ None → (w.gate.session conn).there ≡ true →
      (w.gate.session conn).barriers ≡ true

record FirstNew (k conn applied : ℕ) (more : List Said) : Type 0 where
  first : Said
  rest : List Said
  is : said_to conn more ≡ first ∷ rest
  new : QueryNew k applied first.query

record Stepped (k conn : ℕ) (w v : Life) : Type 0 where
  more : List Said
  said : v.said ≡ w.said ++ more
  so : ((said_to conn more ≡ []) × Quiet k conn v) ⊎ FirstNew k conn v.applied more

later_up : (k a b : ℕ) (o : Option Later) → a ≤ b → LaterNew k a o → LaterNew k b o
later_up k a b None e h = tt
later_up k a b (Some (Due s)) e h = omega (arith, e, h)
later_up k a b (Some (Lent s)) e h = h

-- the connection's session and trail stay
stays : (k conn : ℕ) (w v : Life) → v.leads ≡ true → k ≤ length v.log → v.applied ≡ w.applied → v.gate.session conn ≡ w.gate.session conn →
    (v.trail conn).at ≡ (w.trail conn).at → Quiet k conn w → Quiet k conn v
stays k conn w v leads log applied session at q = record {
  leads = leads;
  log = log;
  flight =
      subst (λ (s : Session). FlightNew k (v.trail conn).at s.flight) (sym session)
      (subst (λ a. FlightNew k a (w.gate.session conn).flight) (sym at) q.flight);
  later = subst (λ (s : Session). LaterNew k v.applied s.later) (sym session) (subst (λ a. LaterNew k a (w.gate.session conn).later) (sym applied) q.later);
  outside = ap (λ (s : Session). s.tx) session ∙ q.outside;
  asks = subst (λ (s : Session). s.flight ≡ None → s.later ≡ None → s.there ≡ true → s.barriers ≡ true) (sym session) q.asks;
}

none_said : (k conn : ℕ) (w v : Life) → v.said ≡ w.said → Quiet k conn v → Stepped k conn w v
none_said k conn w v e q = record { more = []; said = e ∙ sym (append-nil w.said); so = inl (refl, q) }

-- one reply is said, to the connection, or to another one
answers_it : (k conn : ℕ) (w v : Life) (x : Said) → v.said ≡ w.said ++ x ∷ [] → x.conn ≡ conn → QueryNew k v.applied x.query → Stepped k conn w v
answers_it k conn w v x e here new = record { more = x ∷ []; said = e; so = inr (record { first = x; rest = []; is = to_it conn x [] here; new = new }) }

passes_it : (k conn : ℕ) (w v : Life) (x : Said) → v.said ≡ w.said ++ x ∷ [] → x.conn ≢ conn → Quiet k conn v → Stepped k conn w v
passes_it k conn w v x e there q = record { more = x ∷ []; said = e; so = inl (to_other conn x [] there, q) }

-- ---- what comes of a request

abbrev NoteNew : ℕ → ℕ → Note → Type 0
NoteNew k applied Nothing = ⊥
NoteNew k applied Began = ⊥
NoteNew k applied (Inside name ss) = ⊥
NoteNew k applied (Outside name ss) = k < applied

abbrev RowsNew : ℕ → ℕ → Reply → Note → Type 0
RowsNew k applied (Refusal cause) note = Unit {0}
RowsNew k applied (Single response) note = Unit {0}
RowsNew k applied (Rows answer) note = NoteNew k applied note

abbrev WrittenNew : ℕ → ℕ → Kind → Note → Type 0
WrittenNew k applied Opening note = Unit {0}
WrittenNew k applied (Configuring short) note = Unit {0}
WrittenNew k applied (Writing reply) note = RowsNew k applied reply note
WrittenNew k applied Committing note = Unit {0}
WrittenNew k applied (Querying statement) note = Unit {0}

abbrev TurnedNew : ℕ → ℕ → ℕ → Turned → Type 0
TurnedNew k last applied (Refused cause) = Unit {0}
TurnedNew k last applied Lacks = Unit {0}
TurnedNew k last applied (Answers s reply note) = RowsNew k applied reply note
TurnedNew k last applied (Proposes s contents note) = (f : Flight) × (s.flight ≡ Some f) × (last < f.last) × (s.later ≡ None) ×
    (s.tx ≡ None) × WrittenNew k applied f.kind note
TurnedNew k last applied (Lends s job) = ⊥
TurnedNew k last applied (Affects effect) = Unit {0}

unless_new : (k last applied : ℕ) (o : Option Cause) (t : Turned) → TurnedNew k last applied t → TurnedNew k last applied (unless o t)
unless_new k last applied None t h = h
unless_new k last applied (Some cause) t h = tt

change_some : (v : View) (name : List ℕ) (pages : List NumberedPage) → v.last < v.last + length (change_of v name pages)
change_some v name pages = let some : 0 < length (change_of v name pages) = split_some name _ (before_last pages) pages in omega arith

reply_new : (k applied : ℕ) (rows : Bool) (answer : StatementResult) (name : List ℕ) (ss : List Statement) → (rows ≡ true → k < applied) →
    RowsNew k applied (reply_of rows answer) (Outside name ss)
reply_new k applied true answer name ss h = h refl
reply_new k applied false answer name ss h = tt

module _ (k applied : ℕ) (v : View) (m : Machine) (g : Gateway) (c : ℕ) (s : Session) (out : s.tx ≡ None) (rest : s.later ≡ None) where
  outside_new : (ss : List Statement) (rows : Bool) → (rows ≡ true → k < applied) → (end : Ending) → TurnedNew k v.last applied (outside v m g c s ss rows end)
  unfolding outside outside_write
  outside_new ss rows h Lacking = tt
  outside_new ss rows h (TooLarge answer) = unless_new k v.last applied _ (Refused _) tt
  outside_new ss rows h (Stopped fault) = tt
  outside_new ss rows h (Ended to answer) =
      cond_both (no_pages (changed (m.base s.database).image to)) _ _ (TurnedNew k v.last applied)
      (λ e. unless_new k v.last applied _ (Answers s _ _) (reply_new k applied rows answer s.database ss h))
      (λ e. unless_new k v.last applied _ (Proposes _ _ _) (
        _,
        refl,
        change_some v s.database (changed
            (m.base s.database).image to),
        rest,
        out,
        reply_new k applied rows answer s.database ss h,
      ))

  run_new : (o : Option Transaction) → o ≡ None → (ss : List Statement) (rows : Bool) → (rows ≡ true → k < applied) → (answers : List Answer) →
      TurnedNew k v.last applied (run_in v m g c s o ss rows answers)
  run_new None e ss rows h answers = outside_new ss rows h _
  run_new (Some x) e ss rows h answers = absurd cc

  commit_new : (o : Option Transaction) → o ≡ None → TurnedNew k v.last applied (commit_in v m g c s o)
  commit_new None e = tt
  commit_new (Some x) e = absurd cc

  does_new : waits_first s ≡ true → (x : Asked) (answers : List Answer) → TurnedNew k v.last applied (does v m g c s x answers)
  unfolding does
  does_new first (Never cause) answers = tt
  does_new first (Tells response) answers = tt
  does_new first (Sets effect) answers = tt
  does_new first (Opens name barriers) answers = tt
  does_new first (Creates name barriers) answers =
      cond_both (pages_full m g name empty_image) _ _ (TurnedNew k v.last applied) (λ e. tt) (λ e. (_, refl, omega arith, rest, out, tt))
  does_new first (Prepares p tail) answers = tt
  does_new first (Drops id) answers = tt
  does_new first (Forgets response) answers = tt
  does_new first (Begins at_once) answers = cond_both (at_once && other_holds g c s.database) _ _ (TurnedNew k v.last applied) (λ e. tt) (λ e. tt)
  does_new first Commits answers = commit_new s.tx out
  does_new first RollsBack answers = tt
  does_new first (Changes servers short) answers = cond_both (log_full v) _ _ (TurnedNew k v.last applied) (λ e. tt) (λ e. (_, refl, omega arith, rest, out, tt))
  does_new first (Runs ss) answers = run_new s.tx out ss false (λ e. absurd (true≢false (sym e))) answers
  does_new first (Reads statement) answers = reads_both (TurnedNew k v.last applied) v m g c s statement answers
      (λ e. barrier_both (TurnedNew k v.last applied) v m g c s statement tt (_, refl, omega arith, rest, out, tt))
      (λ e. absurd (true≢false (sym first ∙ e)))

request_new : (k applied : ℕ) (v : View) (m : Machine) (g : Gateway) (c : ℕ) (r : Request) (answers : List Answer) → (g.session c).tx ≡ None →
    (g.session c).later ≡ None → waits_first (g.session c) ≡ true → TurnedNew k v.last applied (on_request v m g c r answers)
unfolding on_request
request_new k applied v m g c r answers out rest first = does_new k applied v m g c (g.session c) out rest first (asked v m g c r) answers

later_new : (k applied : ℕ) (v : View) (m : Machine) (g : Gateway) (c : ℕ) (s : Statement) (answers : List Answer) → (g.session c).tx ≡ None →
    (g.session c).later ≡ None → k < applied → TurnedNew k v.last applied (on_later v m g c s answers)
later_new k applied v m g c s answers out rest past =
    later_both (TurnedNew k v.last applied) v m g c s answers tt
    (λ e. run_new k applied v m g c (g.session c) out rest (g.session c).tx out (s ∷ []) true (λ z. past) answers)

query_new : (k applied : ℕ) (t : Trail) (reply : Reply) (note : Note) → RowsNew k applied reply note → QueryNew k applied (query_by applied t reply note)
query_new k applied t (Refusal cause) Nothing h = tt
query_new k applied t (Refusal cause) Began h = tt
query_new k applied t (Refusal cause) (Inside name ss) h = tt
query_new k applied t (Refusal cause) (Outside name ss) h = tt
query_new k applied t (Single response) Nothing h = tt
query_new k applied t (Single response) Began h = tt
query_new k applied t (Single response) (Inside name ss) h = tt
query_new k applied t (Single response) (Outside name ss) h = tt
query_new k applied t (Rows answer) Nothing h = absurd h
query_new k applied t (Rows answer) Began h = absurd h
query_new k applied t (Rows answer) (Inside name ss) h = absurd h
query_new k applied t (Rows answer) (Outside name ss) h = (h, h)

rows_at : (k applied : ℕ) (t : Trail) (reply : Reply) (note : Note) → RowsNew k applied reply note → ReplyNew k (proposed_trail applied t note).at reply
rows_at k applied t (Refusal cause) note h = tt
rows_at k applied t (Single response) note h = tt
rows_at k applied t (Rows answer) Nothing h = absurd h
rows_at k applied t (Rows answer) Began h = absurd h
rows_at k applied t (Rows answer) (Inside name ss) h = absurd h
rows_at k applied t (Rows answer) (Outside name ss) h = h

kind_at : (k applied : ℕ) (t : Trail) (f : Flight) (kind : Kind) (note : Note) → k < f.last → WrittenNew k applied kind note →
    KindNew k (proposed_trail applied t note).at f kind
kind_at k applied t f Opening note e h = tt
kind_at k applied t f (Configuring short) note e h = tt
kind_at k applied t f (Writing reply) note e h = rows_at k applied t reply note h
kind_at k applied t f Committing note e h = tt
kind_at k applied t f (Querying statement) note e h = e

-- ---- the connection's own

some_none : {A : Type 0} {x : A} {o : Option A} → o ≡ Some x → o ≡ None → ⊥
some_none e n = cc

-- it proposes
proposed : (k conn : ℕ) (w : Life) (s : Session) (contents : List _) (note : Note) → w.leads ≡ true → k ≤ length w.log →
    TurnedNew k (length w.log) w.applied (Proposes s contents note) → Quiet k conn (called w conn (Proposes s contents note))
unfolding with_session
proposed k conn w s contents note leads log h =
    let v = called w conn (Proposes s contents note) in
    let here : v.gate.session conn ≡ s = cond-true (conn == conn) s (w.gate.session conn) (eq-eqb conn conn refl) in
    let trail : v.trail conn ≡ proposed_trail w.applied (w.trail conn) note = cond-true (conn == conn) (proposed_trail w.applied (w.trail conn) note)
    (w.trail conn) (eq-eqb conn conn refl) in
    let past = h.2 in
    let new : FlightNew k (proposed_trail w.applied (w.trail conn) note).at (Some h.0) = kind_at k w.applied (w.trail conn) h.0 (h.0).kind note (omega
    (arith, log, past)) h.5 in
    record {
      leads = leads;
      log = omega (arith, log, length-append w.log (entries_of w.term contents));
      flight =
          subst (λ (z : Session). FlightNew k (v.trail conn).at z.flight) (sym here)
          (subst (λ (t : Trail). FlightNew k t.at s.flight) (sym trail) (subst (FlightNew k (proposed_trail w.applied (w.trail conn) note).at) (sym h.1) new));
      later = subst (λ (z : Session). LaterNew k w.applied z.later) (sym here) (subst (LaterNew k w.applied) (sym h.3) tt);
      outside = ap (λ (z : Session). z.tx) here ∙ h.4;
      asks = λ none l t. absurd (some_none h.1 (sym (ap (λ (z : Session). z.flight) here) ∙ none));
    }

own : (k conn : ℕ) (w : Life) (t : Turned) → w.leads ≡ true → k ≤ length w.log → (t ≡ Lacks → Quiet k conn w) → TurnedNew k (length w.log) w.applied t →
    Stepped k conn w (called w conn t)
own k conn w (Refused cause) leads log q h = answers_it k conn w (called w conn (Refused cause)) _ refl refl tt
own k conn w Lacks leads log q h = none_said k conn w w refl (q refl)
own k conn w (Answers s reply note) leads log q h =
    answers_it k conn w (called w conn (Answers s reply note)) _ refl refl (query_new k w.applied (w.trail conn) reply note h)
own k conn w (Proposes s contents note) leads log q h =
    none_said k conn w (called w conn (Proposes s contents note)) refl (proposed k conn w s contents note leads log h)
own k conn w (Lends s job) leads log q h = absurd h
own k conn w (Affects (HandsOver id)) leads log q h = answers_it k conn w (called w conn (Affects (HandsOver id))) _ refl refl tt
own k conn w (Affects (JoinsPeer id)) leads log q h = answers_it k conn w (called w conn (Affects (JoinsPeer id))) _ refl refl tt
own k conn w (Affects (Weighs weight)) leads log q h = answers_it k conn w (called w conn (Affects (Weighs weight))) _ refl refl tt

-- ---- another connection's

other : (k conn c : ℕ) (w : Life) (t : Turned) → conn ≢ c → Quiet k conn w → Stepped k conn w (called w c t)
unfolding with_session
other k conn c w (Refused cause) n q =
    let v = called w c (Refused cause) in
    passes_it k conn w v _ refl (λ z. n (sym z)) (stays k conn w v q.leads q.log refl refl refl q)
other k conn c w Lacks n q = none_said k conn w w refl q
other k conn c w (Answers s reply note) n q =
    let t = Answers s reply note in
    let e = ne_eqb conn c n in
    passes_it k conn w (called w c t) _ refl (λ z. n (sym z))
    (stays k conn w (called w c t) q.leads q.log refl (cond-false (conn == c) s (w.gate.session conn) e) (ap (λ (x : Trail). x.at) (cond-false
    (conn == c) _ (w.trail conn) e)) q)
other k conn c w (Proposes s contents note) n q =
    let t = Proposes s contents note in
    let e = ne_eqb conn c n in
    let low = q.log in
    none_said k conn w (called w c t) refl (stays k conn w (called w c t) q.leads (omega (
      arith,
      low,
      length-append w.log
          (entries_of w.term contents),
    )) refl (cond-false (conn == c) s (w.gate.session conn) e) (ap (λ (x : Trail). x.at) (cond-false (conn == c) _
    (w.trail conn) e)) q)
other k conn c w (Lends s job) n q =
    let t = Lends s job in
    let e = ne_eqb conn c n in
    none_said k conn w (called w c t) refl (stays k conn w (called w c t) q.leads q.log refl (cond-false (conn == c) s (w.gate.session conn) e) (ap
    (λ (x : Trail). x.at) (cond-false (conn == c) _ (w.trail conn) e)) q)
other k conn c w (Affects (HandsOver id)) n q =
    let v = called w c (Affects (HandsOver id)) in
    passes_it k conn w v _ refl (λ z. n (sym z)) (stays k conn w v q.leads q.log refl refl refl q)
other k conn c w (Affects (JoinsPeer id)) n q =
    let v = called w c (Affects (JoinsPeer id)) in
    passes_it k conn w v _ refl (λ z. n (sym z)) (stays k conn w v q.leads q.log refl refl refl q)
other k conn c w (Affects (Weighs weight)) n q =
    let v = called w c (Affects (Weighs weight)) in
    passes_it k conn w v _ refl (λ z. n (sym z)) (stays k conn w v q.leads q.log refl refl refl q)

-- the query that another connection had is taken from it
undue_other : (k conn c : ℕ) (w : Life) → conn ≢ c → Quiet k conn w → Quiet k conn (undue w c)
unfolding with_session
undue_other k conn c w n q = stays k conn w (undue w c) q.leads q.log refl (cond-false (conn == c) _ (w.gate.session conn) (ne_eqb conn c n)) refl q

-- ---- requests, and queries that are run later

moved_from : (k conn : ℕ) (w u v : Life) → u.said ≡ w.said → Stepped k conn u v → Stepped k conn w v
moved_from k conn w u v e x = record { more = x.more; said = x.said ∙ ap (λ l. l ++ x.more) e; so = x.so }

resumed_other : (k conn c : ℕ) (w : Life) (t : Turned) → conn ≢ c → Quiet k conn w → Stepped k conn w (resumed_by w c t)
resumed_other k conn c w (Refused cause) n q =
    moved_from k conn w (undue w c) (called (undue w c) c (Refused cause)) refl (other k conn c (undue w c) (Refused cause) n (undue_other k conn c w n q))
resumed_other k conn c w Lacks n q = none_said k conn w w refl q
resumed_other k conn c w (Answers s reply note) n q =
    moved_from k conn w (undue w c) (called (undue w c) c (Answers s reply note)) refl
    (other k conn c (undue w c) (Answers s reply note) n (undue_other k conn c w n q))
resumed_other k conn c w (Proposes s contents note) n q =
    moved_from k conn w (undue w c) (called (undue w c) c (Proposes s contents note)) refl
    (other k conn c (undue w c) (Proposes s contents note) n (undue_other k conn c w n q))
resumed_other k conn c w (Lends s job) n q =
    moved_from k conn w (undue w c) (called (undue w c) c (Lends s job)) refl (other k conn c (undue w c) (Lends s job) n (undue_other k conn c w n q))
resumed_other k conn c w (Affects effect) n q =
    moved_from k conn w (undue w c) (called (undue w c) c (Affects effect)) refl (other k conn c (undue w c) (Affects effect) n (undue_other k conn c w n q))

resumed_own : (k conn : ℕ) (w : Life) (t : Turned) → Quiet k conn w → TurnedNew k (length w.log) w.applied t → Stepped k conn w (resumed_by w conn t)
resumed_own k conn w (Refused cause) q h =
    moved_from k conn w (undue w conn) (called (undue w conn) conn (Refused cause)) refl
    (own k conn (undue w conn) (Refused cause) q.leads q.log (λ e. absurd cc) h)
resumed_own k conn w Lacks q h = none_said k conn w w refl q
resumed_own k conn w (Answers s reply note) q h =
    moved_from k conn w (undue w conn) (called (undue w conn) conn (Answers s reply note)) refl
    (own k conn (undue w conn) (Answers s reply note) q.leads q.log (λ e. absurd cc) h)
resumed_own k conn w (Proposes s contents note) q h =
    moved_from k conn w (undue w conn) (called (undue w conn) conn (Proposes s contents note)) refl
    (own k conn (undue w conn) (Proposes s contents note) q.leads q.log (λ e. absurd cc) h)
resumed_own k conn w (Lends s job) q h = absurd h
resumed_own k conn w (Affects effect) q h =
    moved_from k conn w (undue w conn) (called (undue w conn) conn (Affects effect)) refl
    (own k conn (undue w conn) (Affects effect) q.leads q.log (λ e. absurd cc) h)

due_past : (k applied : ℕ) (o : Option Later) (s : Statement) → later_query o ≡ Some s → LaterNew k applied o → k < applied
due_past k applied None s e h = absurd cc
due_past k applied (Some (Due x)) s e h = h
due_past k applied (Some (Lent x)) s e h = absurd h

resume_own : (k conn : ℕ) (w : Life) (standing : Standing) (answers : List Answer) (o : Option Statement) → later_query (w.gate.session conn).later ≡ o →
    Quiet k conn w → Stepped k conn w (resumed w conn standing answers o)
resume_own k conn w standing answers None e q = none_said k conn w w refl q
resume_own k conn w standing answers (Some s) e q =
    let same = undue_here w conn in
    let past = due_past k w.applied (w.gate.session conn).later s e q.later in
    resumed_own k conn w (outcome_later w conn standing s answers) q
    (later_new k w.applied (view_of w standing) (databases w) (undue w conn).gate conn s answers (ap (λ (x : Session). x.tx) same ∙ q.outside) (ap
    (λ (x : Session). x.later) same) past)

resume_other : (k conn c : ℕ) (w : Life) (standing : Standing) (answers : List Answer) (o : Option Statement) → conn ≢ c → Quiet k conn w →
    Stepped k conn w (resumed w c standing answers o)
resume_other k conn c w standing answers None n q = none_said k conn w w refl q
resume_other k conn c w standing answers (Some s) n q = resumed_other k conn c w (outcome_later w c standing s answers) n q

first_of : (s : Session) → s.barriers ≡ true → s.tx ≡ None → waits_first s ≡ true
first_of s b o = ap (λ x. x && is_none s.tx) b ∙ ap (λ (x : Option Transaction). true && is_none x) o

call_own : (k conn : ℕ) (w : Life) (standing : Standing) (r : Request) (answers : List Answer) → Quiet k conn w →
    Stepped k conn w (goes_on w (Call conn standing r answers))
unfolding goes_on may_ask
call_own k conn w standing r answers q =
    let s = w.gate.session conn in
    cond_both (s.there && not s.hung && is_none s.flight && is_none s.later) _ w (Stepped k conn w)
    (λ e.
    let p = and_parts _ _ e in
    let a = and_parts _ _ p.0 in
    let none = none_is s.later p.1 in
    let first = first_of s (q.asks (none_is s.flight a.1) none (and_parts _ _ a.0).0) q.outside in
    own k conn w _ q.leads q.log (λ z. q) (request_new k w.applied (view_of w standing) (databases w) w.gate conn r answers q.outside none first))
    (λ e. none_said k conn w w refl q)

call_other : (k conn c : ℕ) (w : Life) (standing : Standing) (r : Request) (answers : List Answer) → conn ≢ c → Quiet k conn w →
    Stepped k conn w (goes_on w (Call c standing r answers))
unfolding goes_on may_ask
call_other k conn c w standing r answers n q =
    let s = w.gate.session c in
    cond_both (s.there && not s.hung && is_none s.flight && is_none s.later) _ w (Stepped k conn w) (λ e. other k conn c w _ n q)
    (λ e. none_said k conn w w refl q)

-- ---- a reader is done

read_own : (k conn : ℕ) (w : Life) (answers : List Answer) (o : Option Later) → LaterNew k w.applied o → Quiet k conn w →
    Stepped k conn w (read w conn answers (lent_query o))
read_own k conn w answers None h q = none_said k conn w w refl q
read_own k conn w answers (Some (Due s)) h q = none_said k conn w w refl q
read_own k conn w answers (Some (Lent s)) h q = absurd h

told_other : (k conn c : ℕ) (w : Life) (s : Statement) (o : Option Reply) → conn ≢ c → Quiet k conn w → Stepped k conn w (read_by w c s o)
unfolding with_session
told_other k conn c w s None n q = none_said k conn w w refl q
told_other k conn c w s (Some reply) n q =
    let e = ne_eqb conn c n in
    passes_it k conn w (read_by w c s (Some reply)) _ refl (λ z. n (sym z))
    (stays k conn w (read_by w c s (Some reply)) q.leads q.log refl (cond-false (conn == c) _ (w.gate.session conn) e) (ap (λ (x : Trail). x.at)
    (cond-false (conn == c) _ (w.trail conn) e)) q)

read_other : (k conn c : ℕ) (w : Life) (answers : List Answer) (o : Option Statement) → conn ≢ c → Quiet k conn w → Stepped k conn w (read w c answers o)
read_other k conn c w answers None n q = none_said k conn w w refl q
read_other k conn c w answers (Some s) n q = told_other k conn c w s (told_at w c s answers) n q

-- ---- an entry is applied

by_other : (i c d : ℕ) (t : Trail) (hung : Bool) (o : Option Flight) → d ≢ c → said_to c (said_by i d t hung o) ≡ []
by_other i c d t hung None n = refl
by_other i c d t hung (Some f) n =
    cond_both (f.last == i) (cond hung [] (said_landed d t f f.kind)) [] (λ l. said_to c l ≡ [])
    (λ e. cond_both hung [] (said_landed d t f f.kind) (λ l. said_to c l ≡ []) (λ h. refl) (λ h. landed_other f.kind)) (λ e. refl)
  where
    landed_other : (k : Kind) → said_to c (said_landed d t f k) ≡ []
    landed_other Opening = to_other c _ [] n
    landed_other (Configuring short) = to_other c _ [] n
    landed_other (Writing reply) = to_other c _ [] n
    landed_other Committing = to_other c _ [] n
    landed_other (Querying statement) = refl

module _ (i : ℕ) (trail : ℕ → Trail) (session : ℕ → Session) (c : ℕ) where
  abbrev said_at : ℕ → List Said
  said_at d = said_by i d (trail d) (session d).hung (session d).flight

  applied_none : (cs : List ℕ) → said_at c ≡ [] → said_to c (said_applied i trail session cs) ≡ []
  applied_none [] e = refl
  applied_none (d ∷ cs) e =
      said_to_append c (said_at d) (said_applied i trail session cs) ∙ ap (λ l. said_to c (said_at d) ++ l) (applied_none cs e) ∙ append-nil
      (said_to c (said_at d)) ∙ ⊎_elim
      (λ (q : d ≡ c). ap (λ j. said_to c (said_at j)) q ∙ ap (said_to c) e)
      (λ (q : d ≢ c). by_other i c d (trail d) (session d).hung (session d).flight q)
      (cases_eq d c)

  -- what it is told comes first of what it is told
  applied_one : (cs : List ℕ) (x : Said) → among cs c ≡ true → said_at c ≡ x ∷ [] → x.conn ≡ c →
      (xs : List Said) × (said_to c (said_applied i trail session cs) ≡ x ∷ xs)
  applied_one [] x a e h = absurd (true≢false (sym a))
  applied_one (d ∷ cs) x a e h =
      let rest = said_to c (said_applied i trail session cs) in
      ⊎_elim
      (λ (q : d ≡ c). (
        rest,
        said_to_append c (said_at d) (said_applied i trail session cs) ∙ ap (λ l. l ++ rest) (ap (λ j. said_to c (said_at j)) q ∙ ap
            (said_to c) e ∙ to_it c x [] h),
      ))
      (λ (q : d ≢ c).
      let more = applied_one cs x (⊎_elim (λ (r : (d == c) ≡ true). absurd (q (eqb-true d c r))) (λ (r : among cs c ≡ true). r) (or_cases (d == c)
      (among cs c) a)) e h in (
        more.0,
        said_to_append c (said_at d) (said_applied i trail session cs) ∙ ap (λ l. l ++ rest) (by_other i c d (trail d) (session d).hung
            (session d).flight q) ∙ more.1,
      ))
      (cases_eq d c)

-- what the connection is after an entry is applied, or what it is told
record Rests (k i at : ℕ) (said : List Said) (s : Session) : Type 0 where
  none : said ≡ []
  flight : FlightNew k at s.flight
  later : LaterNew k i s.later
  outside : s.tx ≡ None
  asks : s.flight ≡ None → s.later ≡ None → s.there ≡ true → s.barriers ≡ true

record Lands (k conn i : ℕ) (said : List Said) : Type 0 where
  one : Said
  is : said ≡ one ∷ []
  conn_is : one.conn ≡ conn
  new : QueryNew k i one.query

written : (k i : ℕ) (reply : Reply) (name : List ℕ) (at : ℕ) (ss : List Statement) (seen : ℕ) → at < i → ReplyNew k at reply →
    QueryNew k i (query_for reply name at [] ss seen)
written k i (Refusal cause) name at ss seen e h = tt
written k i (Single response) name at ss seen e h = tt
written k i (Rows answer) name at ss seen e h = (h, omega (arith, e, h))

landing : (k conn i : ℕ) (t : Trail) (s : Session) (f : Flight) (kind : Kind) → f.last ≡ i → t.at < i → s.tx ≡ None → KindNew k t.at f kind →
    Rests k i t.at (said_landed conn t f kind) (landed s f kind) ⊎ Lands k conn i (said_landed conn t f kind)
landing k conn i t s f Opening e low out h = inr (record { one = _; is = refl; conn_is = refl; new = tt })
landing k conn i t s f (Configuring short) e low out h = inr (record { one = _; is = refl; conn_is = refl; new = tt })
landing k conn i t s f (Writing reply) e low out h = inr (record { one = _; is = refl; conn_is = refl; new = written k i reply f.name t.at t.ran t.seen low h })
landing k conn i t s f Committing e low out h = inr (record { one = _; is = refl; conn_is = refl; new = tt })
landing k conn i t s f (Querying statement) e low out h =
    inl (record { none = refl; flight = tt; later = subst (λ j. k < j) e h; outside = out; asks = λ a b c. absurd (some_none refl b) })

same_rests : (k a i at : ℕ) (s : Session) → a ≤ i → FlightNew k at s.flight → LaterNew k a s.later → s.tx ≡ None →
    (s.flight ≡ None → s.later ≡ None → s.there ≡ true → s.barriers ≡ true) → Rests k i at [] s
same_rests k a i at s e f l out asks = record { none = refl; flight = f; later = later_up k a i s.later e l; outside = out; asks = asks }

no_session : (k i at : ℕ) → Rests k i at [] absent
no_session k i at = record { none = refl; flight = tt; later = tt; outside = refl; asks = λ a b c. absurd (true≢false (sym c)) }

hung_by : (k conn i : ℕ) (t : Trail) (s : Session) (f : Flight) (b : Bool) → f.last ≡ i → t.at < i → s.tx ≡ None → KindNew k t.at f f.kind →
    Rests k i t.at (cond b [] (said_landed conn t f f.kind)) (cond b absent (landed s f f.kind)) ⊎ Lands k conn i (cond b [] (said_landed conn t f f.kind))
hung_by k conn i t s f true e low out h = inl (no_session k i t.at)
hung_by k conn i t s f false e low out h = landing k conn i t s f f.kind e low out h

last_by : (k conn a i : ℕ) (t : Trail) (s : Session) (f : Flight) (b : Bool) → (b ≡ true → f.last ≡ i) → a ≤ i → t.at < i → s.flight ≡ Some f →
    FlightNew k t.at s.flight → LaterNew k a s.later → s.tx ≡ None → (s.flight ≡ None → s.later ≡ None → s.there ≡ true → s.barriers ≡ true) →
    Rests k i t.at (cond b (cond s.hung [] (said_landed conn t f f.kind)) []) (cond b (cond s.hung absent (landed s f f.kind)) s) ⊎ Lands k conn i (cond b
    (cond s.hung [] (said_landed conn t f f.kind)) [])
last_by k conn a i t s f true e up low is h l out asks = hung_by k conn i t s f s.hung (e refl) low out (subst (FlightNew k t.at) is h)
last_by k conn a i t s f false e up low is h l out asks = inl (same_rests k a i t.at s up h l out asks)

applied_by : (k conn a i : ℕ) (t : Trail) (s : Session) (o : Option Flight) → s.flight ≡ o → a ≤ i → t.at < i → FlightNew k t.at s.flight →
    LaterNew k a s.later → s.tx ≡ None → (s.flight ≡ None → s.later ≡ None → s.there ≡ true → s.barriers ≡ true) →
    Rests k i t.at (said_by i conn t s.hung o) (settled_by i s o) ⊎ (Lands k conn i (said_by i conn t s.hung o) × ((f : Flight) × (o ≡ Some f)))
applied_by k conn a i t s None e up low h l out asks = inl (same_rests k a i t.at s up h l out asks)
applied_by k conn a i t s (Some f) e up low h l out asks =
    ⊎_elim inl (λ (x : Lands k conn i (said_by i conn t s.hung (Some f))). inr (x, (f, refl)))
    (last_by k conn a i t s f (f.last == i) (λ z. eqb-true _ _ z) up low e h l out asks)

trail_kind : (i : ℕ) (t : Trail) (kind : Kind) → (landed_trail i t kind).at ≡ t.at
trail_kind i t Opening = refl
trail_kind i t (Configuring short) = refl
trail_kind i t (Writing reply) = refl
trail_kind i t Committing = refl
trail_kind i t (Querying statement) = refl

trail_at : (i : ℕ) (t : Trail) (o : Option Flight) → (trail_by i t o).at ≡ t.at
trail_at i t None = refl
trail_at i t (Some f) = cond_both (f.last == i) (landed_trail i t f.kind) t (λ (x : Trail). x.at ≡ t.at) (λ e. trail_kind i t f.kind) (λ e. refl)

module _ (mean : Meaning) where
  apply_steps : (k conn : ℕ) (w : Life) → NodeOk mean w → Quiet k conn w → Stepped k conn w (goes_on w Apply)
  unfolding goes_on on_applied tidy
  apply_steps k conn w ok q =
      let s = w.gate.session conn in
      let t = w.trail conn in
      let i = suc w.applied in
      let at = (ok.sessions conn).at in
      let same = trail_at i t s.flight in
      ⊎_elim
      (λ (x : Rests k i t.at (said_by i conn t s.hung s.flight) (settled_by i s s.flight)). record {
        more = _;
        said = refl;
        so = inl (
          applied_none i w.trail w.gate.session conn w.gate.conns x.none,
          record {
            leads = q.leads;
            log = q.log;
            flight = subst (λ a. FlightNew k a (settled_by i s s.flight).flight) (sym same) x.flight;
            later = x.later;
            outside = x.outside;
            asks = x.asks;
          },
        );
      })
      (λ (x : Lands k conn i (said_by i conn t s.hung s.flight) × ((f : Flight) × (s.flight ≡ Some f))).
      let there : s.there ≡ true = ⊎_elim (λ (z : s.there ≡ true). z) (λ (z : s.there ≡ false). absurd (some_none x.1.1 (ok.absent conn z).flight))
      (cases_Bool s.there) in
      let told = applied_one i w.trail w.gate.session conn w.gate.conns x.0.one (ok.listed conn there) x.0.is x.0.conn_is in
      record { more = _; said = refl; so = inr (record { first = x.0.one; rest = told.0; is = told.1; new = x.0.new }) })
      (applied_by k conn w.applied i t s s.flight refl (omega arith) (omega arith) q.flight q.later q.outside q.asks)

-- ---- connections

left_rests : (k applied at : ℕ) (s : Session) (o : Option Flight) → s.flight ≡ o → FlightNew k at s.flight → LaterNew k applied s.later → s.tx ≡ None →
    Rests k applied at [] (left s o)
left_rests k applied at s None e h l out = no_session k applied at
left_rests k applied at s (Some f) e h l out = record { none = refl; flight = h; later = l; outside = out; asks = λ a b c. absurd (some_none e a) }

hangup_steps : (k conn c : ℕ) (w : Life) → Quiet k conn w → Stepped k conn w (goes_on w (Hangup c))
unfolding goes_on on_hangup tidy
hangup_steps k conn c w q = none_said k conn w (goes_on w (Hangup c)) refl (⊎_elim
    (λ (e : conn ≡ c).
    let s = w.gate.session c in
    let x = left_rests k w.applied (w.trail conn).at s s.flight refl (subst (λ d. FlightNew k (w.trail conn).at (w.gate.session d).flight) e q.flight)
    (subst (λ d. LaterNew k w.applied (w.gate.session d).later) e q.later) (subst (λ d. (w.gate.session d).tx ≡ None) e q.outside) in
    let here : cond (conn == c) (left s s.flight) (w.gate.session conn) ≡ left s s.flight = cond-true (conn == c) _ _ (eq-eqb conn c e) in
    record {
      leads = q.leads;
      log = q.log;
      flight = subst (λ (z : Session). FlightNew k (w.trail conn).at z.flight) (sym here) x.flight;
      later = subst (λ (z : Session). LaterNew k w.applied z.later) (sym here) x.later;
      outside = subst (λ (z : Session). z.tx ≡ None) (sym here) x.outside;
      asks = subst (λ (z : Session). z.flight ≡ None → z.later ≡ None → z.there ≡ true → z.barriers ≡ true) (sym here) x.asks;
    })
    (λ (e : conn ≢ c). stays k conn w (goes_on w (Hangup c)) q.leads q.log refl (cond-false (conn == c) _ (w.gate.session conn) (ne_eqb conn c e)) refl q)
    (cases_eq conn c))

connect_steps : (k conn c : ℕ) (w : Life) → conn ≢ c → Quiet k conn w → Stepped k conn w (goes_on w (Connect c))
unfolding goes_on connected
connect_steps k conn c w n q = cond_both (connects w.gate c) _ w (Stepped k conn w)
    (λ e.
    let f = ne_eqb conn c n in
    none_said k conn w _ refl (stays k conn w _ q.leads q.log refl (cond-false (conn == c) fresh (w.gate.session conn) f) (ap (λ (x : Trail). x.at)
    (cond-false (conn == c) _ (w.trail conn) f)) q))
    (λ e. none_said k conn w w refl q)

-- ---- a life in a term

module _ (mean : Meaning) (kind : EngineKind) where
  steps : (k conn : ℕ) (w : Life) (e : Doing) → NodeOk mean w → Fits mean kind w e → e ≢ Connect conn → (goes_on w e).term ≡ w.term → Quiet k conn w →
      Stepped k conn w (goes_on w e)
  unfolding goes_on
  steps k conn w (Connect c) ok h j t q = connect_steps k conn c w (λ z. j (ap Connect (sym z))) q
  steps k conn w (Hangup c) ok h j t q = hangup_steps k conn c w q
  steps k conn w (Call c standing r answers) ok h j t q = ⊎_elim
      (λ (z : conn ≡ c). subst (λ d. Stepped k conn w (goes_on w (Call d standing r answers))) z (call_own k conn w standing r answers q))
      (λ (z : conn ≢ c). call_other k conn c w standing r answers z q)
      (cases_eq conn c)
  steps k conn w (Resume c standing answers) ok h j t q = ⊎_elim
      (λ (z : conn ≡ c). subst (λ d. Stepped k conn w (resumed w d standing answers (later_query (w.gate.session d).later))) z
      (resume_own k conn w standing answers (later_query (w.gate.session conn).later) refl q))
      (λ (z : conn ≢ c). resume_other k conn c w standing answers (later_query (w.gate.session c).later) z q)
      (cases_eq conn c)
  steps k conn w (Done c answers) ok h j t q = ⊎_elim
      (λ (z : conn ≡ c). subst (λ d. Stepped k conn w (read w d answers (lent_query (w.gate.session d).later))) z (read_own k conn w answers
      (w.gate.session conn).later q.later q))
      (λ (z : conn ≢ c). read_other k conn c w answers (lent_query (w.gate.session c).later) z q)
      (cases_eq conn c)
  steps k conn w Apply ok h j t q = apply_steps mean k conn w ok q
  steps k conn w (Lose u) ok h j t q = absurd (omega (arith, h, t))
  steps k conn w (Lead u) ok h j t q = absurd (true≢false (sym q.leads ∙ h.0))
  steps k conn w Serve ok h j t q = none_said k conn w (goes_on w Serve) refl (stays k conn w (goes_on w Serve) q.leads q.log refl refl refl q)
  steps k conn w (Append contents) ok h j t q =
      let low = q.log in
      none_said k conn w (goes_on w (Append contents)) refl (stays k conn w (goes_on w (Append contents)) q.leads (omega (
        arith,
        low,
        length-append w.log
            (entries_of w.term contents),
      )) refl refl refl q)
  steps k conn w (Follow es) ok h j t q = absurd (true≢false (sym q.leads ∙ h.0))

  -- the first reply, if there is one
  pub record Lives (k conn : ℕ) (w v : Life) : Type 0 where
    pub more : List Said
    pub said : v.said ≡ w.said ++ more
    pub so : (said_to conn more ≡ []) ⊎ ((x : Said) × (xs : List Said) × (said_to conn more ≡ x ∷ xs) × QueryNew k v.applied x.query)

  query_up : (k a b : ℕ) (o : Option Query) → a ≤ b → QueryNew k a o → QueryNew k b o
  query_up k a b None e h = tt
  query_up k a b (Some q) e h = (h.0, omega (arith, e, h.1))

  pub lives : (k conn : ℕ) (es : List Doing) (w : Life) → NodeOk mean w → AllFit mean kind w es → NoneComes conn es → (lives_on w es).term ≡ w.term →
      Quiet k conn w → Lives k conn w (lives_on w es)
  lives k conn [] w ok h j t q = record { more = []; said = sym (append-nil w.said); so = inl refl }
  lives k conn (e ∷ es) w ok h j t q =
      let v = goes_on w e in
      let one = term_up mean kind w e h.0 in
      let two = terms_up mean kind es v h.1 in
      let same : v.term ≡ w.term = omega (arith, one, two, t) in
      let next = happens_ok mean kind w e h.0 ok in
      let x = steps k conn w e ok h.0 j.0 same q in
      ⊎_elim
      (λ (z : (said_to conn x.more ≡ []) × Quiet k conn v).
      let y = lives k conn es v next h.1 j.1 (t ∙ sym same) z.1 in
      let here : said_to conn (x.more ++ y.more) ≡ said_to conn y.more = said_to_append conn x.more y.more ∙ ap (λ l. l ++ said_to conn y.more) z.0 in
      record {
        more = x.more ++ y.more;
        said = y.said ∙ ap (λ l. l ++ y.more) x.said ∙ append_assoc w.said x.more y.more;
        so =
            ⊎_elim (λ (n : said_to conn y.more ≡ []). inl (here ∙ n))
            (λ (n : (a : Said) × (ys : List Said) × (said_to conn y.more ≡ a ∷ ys) × QueryNew k (lives_on v es).applied a.query). inr
            (n.0, n.1, here ∙ n.2, n.3)) y.so;
      })
      (λ (z : FirstNew k conn v.applied x.more).
      let y = life_said mean kind v es h.1 next in
      let up = applied_run mean kind v es h.1 next in
      record {
        more = x.more ++ y.0;
        said = y.1 ∙ ap (λ l. l ++ y.0) x.said ∙ append_assoc w.said x.more y.0;
        so =
            inr (
              z.first,
              z.rest ++ said_to conn y.0,
              said_to_append conn x.more y.0 ∙ ap (λ l. l ++ said_to conn y.0) z.is,
              query_up k v.applied
                  (lives_on v es).applied z.first.query up z.new,
            );
      })
      x.so

  -- a session that is owed nothing, asks for barriers, and has no transaction open
  pub begins_quiet : (k conn : ℕ) (w : Life) → w.leads ≡ true → k ≤ length w.log → is_busy (w.gate.session conn) ≡ false → (w.gate.session conn).tx ≡ None →
      (w.gate.session conn).barriers ≡ true → Quiet k conn w
  begins_quiet k conn w leads log free out barriers =
      let s = w.gate.session conn in
      let p = or_parts (is_flying s) (not (is_none s.later)) free in
      let f : s.flight ≡ None = none_is s.flight (not_false (is_none s.flight) p.0) in
      let l : s.later ≡ None = none_is s.later (not_false (is_none s.later) p.1) in
      record {
        leads = leads;
        log = log;
        flight = subst (FlightNew k (w.trail conn).at) (sym f) tt;
        later = subst (LaterNew k w.applied)
            (sym l) tt;
        outside = out;
        asks = λ a b c. barriers;
      }
    where
      not_false : (b : Bool) → not b ≡ false → b ≡ true
      not_false true e = refl
      not_false false e = absurd (true≢false e)
