-- A query that waited for a barrier is new.
use Rattle.std.proofs.Common.{◌≡◌, ◌≢◌, ℕ, suc, ◌<◌, ◌≤◌, true, false, true≢false, cond, List, [], ◌∷◌, ◌++◌, length, refl, sym, ap, ◌∙◌, subst, arith, length-append}
use Rattle.std.specs.Prelude.{◌==◌, ◌&&◌, not, is_none, Option, Some, None}
use Rattle.std.proofs.lemmas.Bool.{cond_both, eqb-true, and_parts}
use Rattle.sql_engine.specs.declared.kind.EngineKind.{EngineKind}
use Rattle.sql_engine.specs.Meanings.{Meaning}
use Rattle.sql_engine.specs.Replies.{Statement}
use Rattle.session_spec.specs.Engines.{Answer}
use Rattle.session_spec.specs.Entries.{entries_of}
use Rattle.session_spec.specs.Events.{tidy, landed, settled_by, on_applied, left, on_hangup, connects, connected}
use Rattle.session_spec.specs.Requests.{with_later, with_session}
use Rattle.session_spec.specs.Sessions.{Reply, Kind, Opening, Configuring, Writing, Committing, Querying, Flight, Later, Due, Lent, is_due, later_query, lent_query, Session, absent, fresh, may_ask, HandsOver, JoinsPeer, Weighs, Turned, Refused, Lacks, Answers, Proposes, Lends, Affects}
use Rattle.session_safety.specs.Nodes.{Node as Life, Standing, databases, view_of}
use Rattle.session_safety.specs.Life.{Event as Doing, Connect, Hangup, Call, Resume, Done, Apply, Lose, Lead, Serve, Append, Follow, undue, outcome_later, resumed, told_at, read_by, read, called, happens as goes_on, run_from as lives_on, Fits, AllFit}
use Rattle.session_safety.proofs.Invariant.{NodeOk, free_later}
use Rattle.session_safety.proofs.Laters.{resumed_both, undue_here}
use Rattle.session_safety.proofs.Lives.{none_is, happens_ok}
use Rattle.session_safety.proofs.Flying.{FlightNext, request_next, later_next}
use Rattle.session_safety.proofs.Terms.{term_up, terms_up}
use Rattle.raft_spec.specs.Node.{is_leader}
use Rattle.raft_safety.specs.Members.{Setup}
use Rattle.raft_safety.specs.Laws.{node_at, log_at}
use Rattle.cluster_model.specs.Clusters.{Cluster, Act, Moves, event_of, doings, acted, first_cluster, cluster_from, cluster, ActsFit}
use Rattle.cluster_model.specs.Laws.{NoneStarts, NoneFlies, FreshQueries}
use Rattle.cluster_model.proofs.Lines.{size_of}
use Rattle.cluster_model.proofs.Clusters.{ClusterOk, cluster_join, fit_parts, act_ok, cluster_ok, move_fit, move_term, raft_of}
use Rattle.cluster_model.proofs.Queries.{with_act, front_fit, back_fit, lives_join, last_fits, fits_join, barrier_queries_hold}
use Rattle.cluster_model.proofs.Seeing.{life_after, head_starts, act_fit}

-- a barrier is past the index
abbrev QueryPast : ℕ → Flight → Kind → Type 0
QueryPast k f Opening = Unit {0}
QueryPast k f (Configuring short) = Unit {0}
QueryPast k f (Writing reply) = Unit {0}
QueryPast k f Committing = Unit {0}
QueryPast k f (Querying statement) = k < f.last

abbrev FlightPast : ℕ → Option Flight → Type 0
FlightPast k None = Unit {0}
FlightPast k (Some f) = QueryPast k f f.kind

abbrev DuePast : ℕ → ℕ → Option Later → Type 0
DuePast k applied None = Unit {0}
DuePast k applied (Some (Due s)) = k < applied
DuePast k applied (Some (Lent s)) = Unit {0}

none_due : (k applied : ℕ) (o : Option Later) → is_due o ≡ false → DuePast k applied o
none_due k applied None e = tt
none_due k applied (Some (Due s)) e = absurd (true≢false e)
none_due k applied (Some (Lent s)) e = tt

-- a leader's log reaches the index, and each query of the connection that waits does so for a barrier past it
record Asked (k conn : ℕ) (w : Life) : Type 0 where
  leads : w.leads ≡ true
  log : k ≤ length w.log
  flight : FlightPast k (w.gate.session conn).flight
  due : DuePast k w.applied (w.gate.session conn).later

past_of : (k : ℕ) (f : Flight) (kind : Kind) → k < f.last → QueryPast k f kind
past_of k f Opening h = tt
past_of k f (Configuring short) h = tt
past_of k f (Writing reply) h = tt
past_of k f Committing h = tt
past_of k f (Querying statement) h = h

none_past : (k : ℕ) (f : Flight) (kind : Kind) → f.kind ≡ kind → NoneFlies (Some f) → QueryPast k f kind
none_past k f Opening e h = tt
none_past k f (Configuring short) e h = tt
none_past k f (Writing reply) e h = tt
none_past k f Committing e h = tt
none_past k f (Querying statement) e h = absurd (h statement e)

none_flight : (k : ℕ) (o : Option Flight) → NoneFlies o → FlightPast k o
none_flight k None h = tt
none_flight k (Some f) h = none_past k f f.kind refl h

asked_called : (k conn c : ℕ) (w : Life) (t : Turned) → FlightNext (length w.log) t → Asked k conn w → Asked k conn (called w c t)
unfolding with_session
asked_called k conn c w (Refused cause) h a = record { leads = a.leads; log = a.log; flight = a.flight; due = a.due }
asked_called k conn c w Lacks h a = a
asked_called k conn c w (Affects (HandsOver id)) h a = record { leads = a.leads; log = a.log; flight = a.flight; due = a.due }
asked_called k conn c w (Affects (JoinsPeer id)) h a = record { leads = a.leads; log = a.log; flight = a.flight; due = a.due }
asked_called k conn c w (Affects (Weighs weight)) h a = record { leads = a.leads; log = a.log; flight = a.flight; due = a.due }
asked_called k conn c w (Answers s reply note) h a = record {
  leads = a.leads;
  log = a.log;
  flight = cond_both (conn == c) s (w.gate.session conn) (λ x. FlightPast k x.flight) (λ e. subst (FlightPast k) (sym h.0) tt) (λ e. a.flight);
  due = cond_both (conn == c) s (w.gate.session conn) (λ x. DuePast k w.applied x.later) (λ e. subst (DuePast k w.applied) (sym h.1) tt) (λ e. a.due);
}
asked_called k conn c w (Lends s job) h a = record {
  leads = a.leads;
  log = a.log;
  flight = cond_both (conn == c) s (w.gate.session conn) (λ x. FlightPast k x.flight) (λ e. subst (FlightPast k) (sym h.0) tt) (λ e. a.flight);
  due = cond_both (conn == c) s (w.gate.session conn) (λ x. DuePast k w.applied x.later) (λ e. subst (DuePast k w.applied) (sym h.1) tt) (λ e. a.due);
}
asked_called k conn c w (Proposes s contents note) h a =
    let low = a.log in
    let past = h.2 in
    record {
      leads = a.leads;
      log = omega (arith, length-append w.log (entries_of w.term contents));
      flight = cond_both (conn == c) s (w.gate.session conn) (λ x. FlightPast k x.flight) (λ e. subst (FlightPast k) (sym h.1) (past_of k h.0 (h.0).kind (omega arith))) (λ e. a.flight);
      due = cond_both (conn == c) s (w.gate.session conn) (λ x. DuePast k w.applied x.later) (λ e. subst (DuePast k w.applied) (sym h.3) tt) (λ e. a.due);
    }

due_later : (k a : ℕ) (o : Option Later) → DuePast k a o → DuePast k (suc a) o
due_later k a None h = tt
due_later k a (Some (Due s)) h = omega (arith, h)
due_later k a (Some (Lent s)) h = tt

landed_flight : (k : ℕ) (s : Session) (f : Flight) (kind : Kind) → FlightPast k (landed s f kind).flight
landed_flight k s f Opening = tt
landed_flight k s f (Configuring short) = tt
landed_flight k s f (Writing reply) = tt
landed_flight k s f Committing = tt
landed_flight k s f (Querying statement) = tt

landed_due : (k index : ℕ) (s : Session) (f : Flight) (kind : Kind) → f.last ≡ index → QueryPast k f kind → DuePast k index s.later → DuePast k index (landed s f kind).later
landed_due k index s f Opening e h d = d
landed_due k index s f (Configuring short) e h d = d
landed_due k index s f (Writing reply) e h d = d
landed_due k index s f Committing e h d = d
landed_due k index s f (Querying statement) e h d = subst (λ i. k < i) e h

settled_flight : (k index : ℕ) (s : Session) (o : Option Flight) → FlightPast k s.flight → FlightPast k (settled_by index s o).flight
settled_flight k index s None h = h
settled_flight k index s (Some f) h = cond_both (f.last == index) (cond s.hung absent (landed s f f.kind)) s (λ x. FlightPast k x.flight) (λ e. cond_both s.hung absent (landed s f f.kind) (λ x. FlightPast k x.flight) (λ z. tt) (λ z. landed_flight k s f f.kind)) (λ e. h)

settled_due : (k a : ℕ) (s : Session) (o : Option Flight) → FlightPast k o → DuePast k a s.later → DuePast k (suc a) (settled_by (suc a) s o).later
settled_due k a s None f h = due_later k a s.later h
settled_due k a s (Some f) p h = cond_both (f.last == suc a) (cond s.hung absent (landed s f f.kind)) s (λ x. DuePast k (suc a) x.later) (λ e. cond_both s.hung absent (landed s f f.kind) (λ x. DuePast k (suc a) x.later) (λ z. tt) (λ z. landed_due k (suc a) s f f.kind (eqb-true _ _ e) p (due_later k a s.later h))) (λ e. due_later k a s.later h)

left_flight : (k : ℕ) (s : Session) (o : Option Flight) → FlightPast k s.flight → FlightPast k (left s o).flight
left_flight k s None h = tt
left_flight k s (Some f) h = h

left_due : (k a : ℕ) (s : Session) (o : Option Flight) → DuePast k a s.later → DuePast k a (left s o).later
left_due k a s None h = tt
left_due k a s (Some f) h = h

asked_undue : (k conn c : ℕ) (w : Life) → Asked k conn w → Asked k conn (undue w c)
unfolding with_session
asked_undue k conn c w a = record {
  leads = a.leads;
  log = a.log;
  flight = cond_both (conn == c) (with_later (w.gate.session c) None) (w.gate.session conn) (λ x. FlightPast k x.flight) (λ e. subst (λ d. FlightPast k (w.gate.session d).flight) (eqb-true conn c e) a.flight) (λ e. a.flight);
  due = cond_both (conn == c) (with_later (w.gate.session c) None) (w.gate.session conn) (λ x. DuePast k w.applied x.later) (λ e. tt) (λ e. a.due);
}

asked_resumed : (k conn c : ℕ) (w : Life) (standing : Standing) (answers : List Answer) (o : Option Statement) → (o ≢ None → (w.gate.session c).flight ≡ None) → Asked k conn w → Asked k conn (resumed w c standing answers o)
asked_resumed k conn c w standing answers None free a = a
asked_resumed k conn c w standing answers (Some s) free a =
    let v = undue w c in
    let same = undue_here w c in
    let t = outcome_later w c standing s answers in
    resumed_both (Asked k conn) w c t a
    (asked_called k conn c v t (later_next (view_of w standing) (databases w) v.gate c s answers (ap (λ (x : Session). x.flight) same ∙ free (λ e. cc)) (ap (λ (x : Session). x.later) same)) (asked_undue k conn c w a))

-- a reader is done
asked_told : (k conn c : ℕ) (w : Life) (s : Statement) (o : Option Reply) → Asked k conn w → Asked k conn (read_by w c s o)
asked_told k conn c w s None a = a
asked_told k conn c w s (Some reply) a = let u = asked_undue k conn c w a in record { leads = u.leads; log = u.log; flight = u.flight; due = u.due }

asked_read : (k conn c : ℕ) (w : Life) (answers : List Answer) (o : Option Statement) → Asked k conn w → Asked k conn (read w c answers o)
asked_read k conn c w answers None a = a
asked_read k conn c w answers (Some s) a = asked_told k conn c w s (told_at w c s answers) a

asked_call : (k conn c : ℕ) (w : Life) (standing : Standing) (r : _) (answers : List Answer) → Asked k conn w → Asked k conn (goes_on w (Call c standing r answers))
unfolding goes_on may_ask
asked_call k conn c w standing r answers a =
    cond_both ((w.gate.session c).there && not (w.gate.session c).hung && is_none (w.gate.session c).flight && is_none (w.gate.session c).later) _ w (Asked k conn)
    (λ e.
    let q = and_parts _ _ e in
    asked_called k conn c w _ (request_next (view_of w standing) (databases w) w.gate c r answers (none_is (w.gate.session c).flight (and_parts _ _ q.0).1) (none_is (w.gate.session c).later q.1)) a)
    (λ e. a)

module _ (mean : Meaning) (kind : EngineKind) where
  asked_step : (k conn : ℕ) (w : Life) (e : Doing) → NodeOk mean w → Fits mean kind w e → (goes_on w e).term ≡ w.term → Asked k conn w → Asked k conn (goes_on w e)
  unfolding goes_on connected on_hangup on_applied tidy
  asked_step k conn w (Connect c) ok h t a = cond_both (connects w.gate c) _ w (Asked k conn)
      (λ e. record { leads = a.leads; log = a.log; flight = cond_both (conn == c) fresh (w.gate.session conn) (λ x. FlightPast k x.flight) (λ z. tt) (λ z. a.flight); due = cond_both (conn == c) fresh (w.gate.session conn) (λ x. DuePast k w.applied x.later) (λ z. tt) (λ z. a.due) })
      (λ e. a)
  asked_step k conn w (Hangup c) ok h t a =
      let s = w.gate.session c in
      record {
        leads = a.leads;
        log = a.log;
        flight = cond_both (conn == c) (left s s.flight) (w.gate.session conn) (λ x. FlightPast k x.flight) (λ e. left_flight k s s.flight (subst (λ d. FlightPast k (w.gate.session d).flight) (eqb-true conn c e) a.flight)) (λ e. a.flight);
        due = cond_both (conn == c) (left s s.flight) (w.gate.session conn) (λ x. DuePast k w.applied x.later) (λ e. left_due k w.applied s s.flight (subst (λ d. DuePast k w.applied (w.gate.session d).later) (eqb-true conn c e) a.due)) (λ e. a.due);
      }
  asked_step k conn w (Call c standing r answers) ok h t a = asked_call k conn c w standing r answers a
  asked_step k conn w (Resume c standing answers) ok h t a = asked_resumed k conn c w standing answers (later_query (w.gate.session c).later) (λ e. flies (later_query (w.gate.session c).later) refl e) a
    where
      flies : (o : Option Statement) → later_query (w.gate.session c).later ≡ o → o ≢ None → (w.gate.session c).flight ≡ None
      flies None is e = absurd (e refl)
      flies (Some s) is e = free_later (w.trail c).seen (w.trail c).at (w.gate.session c).later (w.gate.session c).flight s is (ok.sessions c).free
  asked_step k conn w (Done c answers) ok h t a = asked_read k conn c w answers (lent_query (w.gate.session c).later) a
  asked_step k conn w Apply ok h t a = let s = w.gate.session conn in record { leads = a.leads; log = a.log; flight = settled_flight k (suc w.applied) s s.flight a.flight; due = settled_due k w.applied s s.flight a.flight a.due }
  asked_step k conn w (Lose u) ok h t a = absurd (omega (arith, h, t))
  asked_step k conn w (Lead u) ok h t a = absurd (true≢false (sym a.leads ∙ h.0))
  asked_step k conn w Serve ok h t a = record { leads = a.leads; log = a.log; flight = a.flight; due = a.due }
  asked_step k conn w (Append contents) ok h t a = let low = a.log in record { leads = a.leads; log = omega (arith, length-append w.log (entries_of w.term contents)); flight = a.flight; due = a.due }
  asked_step k conn w (Follow es) ok h t a = absurd (true≢false (sym a.leads ∙ h.0))

  asked_run : (k conn : ℕ) (es : List Doing) (w : Life) → NodeOk mean w → AllFit mean kind w es → (lives_on w es).term ≡ w.term → Asked k conn w → Asked k conn (lives_on w es)
  asked_run k conn [] w ok h t a = a
  asked_run k conn (e ∷ es) w ok h t a =
      let one = term_up mean kind w e h.0 in
      let rest = terms_up mean kind es (goes_on w e) h.1 in
      let same : (goes_on w e).term ≡ w.term = omega arith in
      asked_run k conn es (goes_on w e) (happens_ok mean kind w e h.0 ok) h.1 (t ∙ sym same) (asked_step k conn w e ok h.0 same a)

  -- over acts that don't start the node
  terms_acts : (vs : Setup) (n : ℕ) (more : List Act) (c : Cluster) → ClusterOk mean vs c → ActsFit mean kind vs c more → NoneStarts n more → (c.lives n).term ≤ ((cluster_from vs c more).lives n).term
  terms_acts vs n [] c old h starts = omega arith
  terms_acts vs n (a ∷ more) c old h starts =
      let s = head_starts n a more starts in
      let one = terms_up mean kind (doings n a) (c.lives n) (act_fit mean kind vs c a n old h.0) in
      let same = ap (λ (w : Life). w.term) (life_after vs c a n s.0) in
      let rest = terms_acts vs n more (acted vs c a) (act_ok mean kind vs c a old h.0) h.1 s.1 in
      omega arith

  asked_acts : (vs : Setup) (k conn n : ℕ) (more : List Act) (c : Cluster) → ClusterOk mean vs c → ActsFit mean kind vs c more → NoneStarts n more → ((cluster_from vs c more).lives n).term ≡ (c.lives n).term → Asked k conn (c.lives n) → Asked k conn ((cluster_from vs c more).lives n)
  asked_acts vs k conn n [] c old h starts t a = a
  asked_acts vs k conn n (x ∷ more) c old h starts t a =
      let s = head_starts n x more starts in
      let next = act_ok mean kind vs c x old h.0 in
      let fit = act_fit mean kind vs c x n old h.0 in
      let one = terms_up mean kind (doings n x) (c.lives n) fit in
      let is = life_after vs c x n s.0 in
      let same = ap (λ (w : Life). w.term) is in
      let rest = terms_acts vs n more (acted vs c x) next h.1 s.1 in
      let now : (lives_on (c.lives n) (doings n x)).term ≡ (c.lives n).term = omega arith in
      asked_acts vs k conn n more (acted vs c x) next h.1 s.1 (t ∙ sym (same ∙ now)) (subst (Asked k conn) (sym is) (asked_run k conn (doings n x) (c.lives n) (old.lives n) fit now a))

  pub fresh_queries_hold : FreshQueries mean kind
  unfolding cluster
  fresh_queries_hold vs acts more n t cs places before after conn standing s answers answer left name ss h l k starts up waits due is =
      let c = cluster vs acts in
      let d = cluster vs (acts ++ more) in
      let ls = before ++ Resume conn standing answers ∷ after in
      let last = Moves n cs places ls in
      let both = fits_join mean kind vs acts more last h in
      let parts = fit_parts mean kind vs acts more first_cluster both in
      let old = cluster_ok mean kind vs acts parts.0 in
      let ok = cluster_ok mean kind vs (acts ++ more) both in
      let co = old.coherent n up in
      let w = c.lives n in
      let i = length (log_at vs c.raft n) in
      let size = size_of (log_at vs c.raft n) in
      let long = ap length co.log in
      let first : Asked i conn w = record { leads = co.leads ∙ ap is_leader l.0; log = omega arith; flight = none_flight i (w.gate.session conn).flight waits.flies; due = none_due i w.applied (w.gate.session conn).later waits.due } in
      let fits = (last_fits mean kind vs acts more last h).0 in
      let fit = move_fit mean kind vs d n cs places ls ok fits in
      let front = front_fit mean kind before (Resume conn standing answers ∷ after) (d.lives n) fit in
      let back = back_fit mean kind before (Resume conn standing answers ∷ after) (d.lives n) fit in
      let v = lives_on (d.lives n) before in
      let two = terms_up mean kind before (d.lives n) front in
      let three = terms_up mean kind (Resume conn standing answers ∷ after) v back in
      let whole = ap (λ (x : Life). x.term) (lives_join before (Resume conn standing answers ∷ after) (d.lives n)) in
      let end = move_term mean kind vs d n cs places ls fits in
      let begin = co.term in
      let t1 = l.1 in
      let t2 = k.1 in
      let raft : (cluster vs (acts ++ (more ++ last ∷ []))).raft ≡ d.raft ++ event_of last ∷ [] = ap (λ (x : Cluster). x.raft) (with_act vs acts more last) ∙ raft_of vs d last in
      let ends = ap (λ es. (node_at vs es n).term) raft in
      let join = cluster_join vs acts more first_cluster in
      let lives = ap (λ (x : Cluster). x.lives n) join in
      let terms = ap (λ (x : Life). x.term) lives in
      let one = terms_acts vs n more c old parts.1 starts in
      let same : ((cluster_from vs c more).lives n).term ≡ (c.lives n).term = omega arith in
      let still : v.term ≡ (d.lives n).term = omega arith in
      let then = subst (Asked i conn) (sym lives) (asked_acts vs i conn n more c old parts.1 starts same first) in
      let now = asked_run i conn before (d.lives n) (ok.lives n) front still then in
      let past : i < v.applied = subst (DuePast i v.applied) due now.due in
      barrier_queries_hold mean kind vs acts more n t cs places before after conn standing s answers answer left name ss h l k past due is
