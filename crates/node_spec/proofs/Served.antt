-- What is pending was proposed in the term in which the node serves: so it stays in a life, whatever happens that fits.
use Rattle.std.proofs.Common.{◌≡◌, ◌⊎◌, inl, inr, ℕ, suc, Bool, true, false, true≢false, ◌+◌, List, [], ◌∷◌, length, refl, sym, ◌∙◌, subst}
use Rattle.std.specs.Prelude.{cond, ◌==◌, ◌&&◌, Option, Some, None}
use Rattle.std.proofs.lemmas.Bool.{cond_both}
use Rattle.dq_base.specs.Changes.{changed}
use Rattle.database_state.specs.Files.{empty_image}
use Rattle.sql_engine.specs.declared.kind.EngineKind.{EngineKind}
use Rattle.sql_engine.specs.Meanings.{Meaning}
use Rattle.sql_engine.specs.Replies.{Statement}
use Rattle.wire_msgs.specs.declared.request.Request.{Request}
use Rattle.session_spec.specs.Allowed.{IsAllowed}
use Rattle.session_spec.specs.Asking.{Asked, Never, Tells, Sets, Opens, Creates, Prepares, Drops, Forgets, Begins, Commits, RollsBack, Changes, Runs, Reads, asked}
use Rattle.session_spec.specs.Causes.{Cause, LogFull}
use Rattle.session_spec.specs.Engines.{Answer, no_pages, Ending, Lacking, TooLarge, Stopped, Ended}
use Rattle.session_spec.specs.Entries.{Content, Configures, Other, Entry as Line}
use Rattle.session_spec.specs.Events.{tidy, landed, settled_by, on_applied, lost, on_lost, left, on_hangup, connects, connected}
use Rattle.session_spec.specs.Limits.{other_holds, pages_full, log_full, first_cause}
use Rattle.session_spec.specs.Machine.{Machine}
use Rattle.session_spec.specs.Requests.{unless, flying, barrier_first, outside_write, outside, inside, run_in, has_nothing, committed, commit_in, does, on_request, on_later, with_session, affected_by}
use Rattle.session_spec.specs.Sessions.{Kind, Opening, Configuring, Writing, Committing, Querying, Flight, Transaction, Session, Gateway, View, Note, Nothing, Outside, Effect, HandsOver, JoinsPeer, Weighs, Turned, Refused, Lacks, Answers, Proposes, Lends, Affects, later_query, lent_query, may_ask}
use Rattle.session_spec.proofs.Asked.{all_allowed}
use Rattle.session_safety.specs.Nodes.{Node as Life, Standing, databases, view_of}
use Rattle.session_safety.specs.Life.{Event as Doing, Connect, Hangup, Call, Resume, Done, Apply, Lose, Lead, Serve, Append, Follow, undue, outcome_later, resumed_by, resumed, told_at, read_by, read, called, joined, happens, run_from as lives_on}
use Rattle.session_safety.proofs.Invariant.{NodeOk, FlightIs}
use Rattle.session_safety.proofs.Ways.{read_in_both, reads_both, later_both}
use Rattle.cluster_model.specs.Clusters.{FitsIn, AllFitIn}
use Rattle.node_spec.specs.Steps.{IsServed, FlightsServed}

-- ---- what comes of a request

-- an answer leaves what was pending or nothing; and a proposal is one of the view's term, if the node serves and the log has room
abbrev pub Next : View → Option Flight → Turned → Type 0
Next v old (Refused cause) = Unit {0}
Next v old Lacks = Unit {0}
Next v old (Answers s reply note) = (s.flight ≡ None) ⊎ (s.flight ≡ old)
Next v old (Proposes s contents note) = (f : Flight) × (s.flight ≡ Some f) × (f.term ≡ v.term) × (v.serving ≡ true) × (log_full v ≡ false)
Next v old (Lends s job) = (s.flight ≡ None) ⊎ (s.flight ≡ old)
Next v old (Affects effect) = Unit {0}

unless_next : (v : View) (old : Option Flight) (o : Option Cause) (t : Turned) → (o ≡ None → Next v old t) → Next v old (unless o t)
unless_next v old None t h = h refl
unless_next v old (Some cause) t h = tt

first_free : (full : Bool) (cause : Cause) (rest : Option Cause) → first_cause full cause rest ≡ None → full ≡ false
first_free true cause rest e = absurd cc
first_free false cause rest e = refl

module _ (v : View) (m : Machine) (g : Gateway) (c : ℕ) (s : Session) where
  abbrev So : Turned → Type 0
  So = Next v s.flight

  same : (s.flight ≡ None) ⊎ (s.flight ≡ s.flight)
  same = inr refl

  flies : (name : List ℕ) (contents : List Content) (pages : ℕ) (kind : Kind) (note : Note) → v.serving ≡ true → log_full v ≡ false → So (Proposes (flying v s name contents pages kind) contents note)
  flies name contents pages kind note serves room = (record { name = name; first = suc v.last; last = v.last + length contents; term = v.term; pages = pages; kind = kind }, refl, refl, serves, room)

  outside_next : v.serving ≡ true → (ss : List Statement) (rows : Bool) (end : Ending) → So (outside v m g c s ss rows end)
  unfolding outside outside_write
  outside_next serves ss rows Lacking = tt
  outside_next serves ss rows (TooLarge answer) = unless_next v s.flight _ (Refused _) (λ e. tt)
  outside_next serves ss rows (Stopped fault) = tt
  outside_next serves ss rows (Ended to answer) =
      cond_both (no_pages (changed (m.base s.database).image to)) _ _ So
      (λ e. unless_next v s.flight _ (Answers s _ _) (λ z. same))
      (λ e. unless_next v s.flight _ (Proposes _ _ _) (λ z. flies _ _ _ _ (Outside s.database ss) serves (first_free (log_full v) LogFull _ z)))

  inside_next : (x : Transaction) (ss : List Statement) (rows : Bool) (end : Ending) → So (inside m g c s x ss rows end)
  unfolding inside
  inside_next x ss rows Lacking = tt
  inside_next x ss rows (TooLarge answer) = unless_next v s.flight _ (Refused _) (λ e. tt)
  inside_next x ss rows (Stopped fault) = tt
  inside_next x ss rows (Ended to answer) =
      cond_both (no_pages (changed x.working to)) _ _ So
      (λ e. unless_next v s.flight _ (Answers _ _ _) (λ z. same))
      (λ e. unless_next v s.flight _ (Answers _ _ _) (λ z. same))

  run_next : v.serving ≡ true → (o : Option Transaction) (ss : List Statement) (rows : Bool) (answers : List Answer) → So (run_in v m g c s o ss rows answers)
  run_next serves None ss rows answers = outside_next serves ss rows _
  run_next serves (Some x) ss rows answers = inside_next x ss rows _

  commit_next : v.serving ≡ true → (o : Option Transaction) → So (commit_in v m g c s o)
  unfolding committed
  commit_next serves None = tt
  commit_next serves (Some x) = cond_both (has_nothing x) _ _ So (λ e. same) (λ e. unless_next v s.flight _ (Proposes _ _ _) (λ z. flies _ _ _ _ Nothing serves (first_free (log_full v) LogFull _ z)))

  barrier_next : v.serving ≡ true → (statement : Statement) → So (barrier_first v s statement)
  barrier_next serves statement = cond_both (log_full v) (Refused LogFull) (Proposes (flying v s [] (Other ∷ []) 0 (Querying statement)) (Other ∷ []) Nothing) So (λ e. tt) (λ e. flies [] (Other ∷ []) 0 (Querying statement) Nothing serves e)

  does_next : (r : Request) (x : Asked) (answers : List Answer) → IsAllowed v g s r x → So (does v m g c s x answers)
  unfolding does
  does_next r (Never cause) answers h = tt
  does_next r (Tells response) answers h = same
  does_next r (Sets effect) answers h = tt
  does_next r (Opens name barriers) answers h = inl refl
  does_next r (Creates name barriers) answers h = cond_both (pages_full m g name empty_image) _ _ So (λ e. tt) (λ e. (_, refl, refl, h.0, h.1))
  does_next r (Prepares p tail) answers h = same
  does_next r (Drops id) answers h = same
  does_next r (Forgets response) answers h = same
  does_next r (Begins at_once) answers h = cond_both (at_once && other_holds g c s.database) _ _ So (λ e. tt) (λ e. same)
  does_next r Commits answers h = commit_next h.0.serves s.tx
  does_next r RollsBack answers h = same
  does_next r (Changes servers short) answers h = cond_both (log_full v) _ _ So (λ e. tt) (λ e. flies [] (Configures servers ∷ []) 0 (Configuring short) Nothing h.0 e)
  does_next r (Runs ss) answers h = run_next h.serves s.tx ss false answers
  does_next r (Reads statement) answers h = reads_both So v m g c s statement answers
      (λ e. barrier_next h.serves statement)
      (λ e. read_in_both So v m g c s statement s.tx answers (λ t q. same) (run_next h.serves s.tx (statement ∷ []) true answers))

pub request_next : (v : View) (m : Machine) (g : Gateway) (c : ℕ) (r : Request) (answers : List Answer) → Next v (g.session c).flight (on_request v m g c r answers)
unfolding on_request
request_next v m g c r answers = does_next v m g c (g.session c) r (asked v m g c r) answers (all_allowed v m g c (g.session c) r)

pub later_next : (v : View) (m : Machine) (g : Gateway) (c : ℕ) (s : Statement) (answers : List Answer) → Next v (g.session c).flight (on_later v m g c s answers)
later_next v m g c s answers = later_both (Next v (g.session c).flight) v m g c s answers tt (λ e. run_next v m g c (g.session c) e (g.session c).tx (s ∷ []) true answers)

-- so what was pending stays of the term in which the node serves
abbrev By : ℕ → Bool → Turned → Type 0
By term serving (Refused cause) = Unit {0}
By term serving Lacks = Unit {0}
By term serving (Answers s reply note) = IsServed term serving s.flight
By term serving (Proposes s contents note) = IsServed term serving s.flight
By term serving (Lends s job) = IsServed term serving s.flight
By term serving (Affects effect) = Unit {0}

kept_by : (term : ℕ) (serving : Bool) (old now : Option Flight) → IsServed term serving old → (now ≡ None) ⊎ (now ≡ old) → IsServed term serving now
kept_by term serving old now h (inl e) = subst (IsServed term serving) (sym e) tt
kept_by term serving old now h (inr e) = subst (IsServed term serving) (sym e) h

next_by : (v : View) (old : Option Flight) (t : Turned) → IsServed v.term v.serving old → Next v old t → By v.term v.serving t
next_by v old (Refused cause) h x = tt
next_by v old Lacks h x = tt
next_by v old (Answers s reply note) h x = kept_by v.term v.serving old s.flight h x
next_by v old (Proposes s contents note) h x = subst (IsServed v.term v.serving) (sym x.1) (x.2, x.3)
next_by v old (Lends s job) h x = kept_by v.term v.serving old s.flight h x
next_by v old (Affects effect) h x = tt

-- ---- sessions

abbrev Each : ℕ → Bool → (ℕ → Session) → Type 0
Each term serving session = (conn : ℕ) → IsServed term serving (session conn).flight

put_by : (term : ℕ) (serving : Bool) (conn : ℕ) (s : Session) (session : ℕ → Session) → IsServed term serving s.flight → Each term serving session → Each term serving (λ other. cond (other == conn) s (session other))
put_by term serving conn s session own h other = cond_both (other == conn) s (session other) (λ (z : Session). IsServed term serving z.flight) (λ e. own) (λ e. h other)

landed_by : (term : ℕ) (serving : Bool) (s : Session) (f : Flight) (k : Kind) → IsServed term serving (landed s f k).flight
landed_by term serving s f Opening = tt
landed_by term serving s f (Configuring short) = tt
landed_by term serving s f (Writing reply) = tt
landed_by term serving s f Committing = tt
landed_by term serving s f (Querying statement) = tt

settled_so : (term : ℕ) (serving : Bool) (index : ℕ) (s : Session) (o : Option Flight) → IsServed term serving s.flight → IsServed term serving (settled_by index s o).flight
settled_so term serving index s None h = h
settled_so term serving index s (Some f) h =
    cond_both (f.last == index) _ s (λ (z : Session). IsServed term serving z.flight)
    (λ e. cond_both s.hung _ (landed s f f.kind) (λ (z : Session). IsServed term serving z.flight) (λ u. tt) (λ u. landed_by term serving s f f.kind))
    (λ e. h)

lost_so : (term : ℕ) (serving : Bool) (s : Session) → IsServed term serving (lost s).flight
lost_so term serving s = cond_both s.hung _ _ (λ (z : Session). IsServed term serving z.flight) (λ e. tt) (λ e. tt)

left_so : (term : ℕ) (serving : Bool) (s : Session) (o : Option Flight) → IsServed term serving s.flight → IsServed term serving (left s o).flight
left_so term serving s None h = tt
left_so term serving s (Some f) h = h

affected_so : (term : ℕ) (serving : Bool) (g : Gateway) (e : Effect) → Each term serving g.session → Each term serving (affected_by g e).session
affected_so term serving g (HandsOver id) h = h
affected_so term serving g (JoinsPeer id) h = h
affected_so term serving g (Weighs weight) h = h

-- none is pending where the node doesn't serve
idle_so : (term other : ℕ) (serving : Bool) (o : Option Flight) → serving ≡ false → IsServed term serving o → IsServed other false o
idle_so term other serving None e h = tt
idle_so term other serving (Some f) e h = absurd (true≢false (sym h.1 ∙ e))

-- ---- events

called_so : (w : Life) (conn : ℕ) (t : Turned) → By w.term w.serving t → FlightsServed w → FlightsServed (called w conn t)
unfolding with_session
called_so w conn (Refused cause) t h = record { leads = h.leads; flights = h.flights }
called_so w conn Lacks t h = h
called_so w conn (Answers s reply note) t h = record { leads = h.leads; flights = put_by w.term w.serving conn s w.gate.session t h.flights }
called_so w conn (Proposes s contents note) t h = record { leads = h.leads; flights = put_by w.term w.serving conn s w.gate.session t h.flights }
called_so w conn (Lends s job) t h = record { leads = h.leads; flights = put_by w.term w.serving conn s w.gate.session t h.flights }
called_so w conn (Affects effect) t h = record { leads = h.leads; flights = affected_so w.term w.serving w.gate effect h.flights }

undue_so : (w : Life) (conn : ℕ) → FlightsServed w → FlightsServed (undue w conn)
unfolding with_session
undue_so w conn h = record { leads = h.leads; flights = put_by w.term w.serving conn _ w.gate.session (h.flights conn) h.flights }

resumed_by_so : (w : Life) (conn : ℕ) (t : Turned) → By w.term w.serving t → FlightsServed w → FlightsServed (resumed_by w conn t)
resumed_by_so w conn (Refused cause) t h = called_so (undue w conn) conn (Refused cause) t (undue_so w conn h)
resumed_by_so w conn Lacks t h = h
resumed_by_so w conn (Answers s reply note) t h = called_so (undue w conn) conn (Answers s reply note) t (undue_so w conn h)
resumed_by_so w conn (Proposes s contents note) t h = called_so (undue w conn) conn (Proposes s contents note) t (undue_so w conn h)
resumed_by_so w conn (Lends s job) t h = called_so (undue w conn) conn (Lends s job) t (undue_so w conn h)
resumed_by_so w conn (Affects effect) t h = called_so (undue w conn) conn (Affects effect) t (undue_so w conn h)

resumed_so : (w : Life) (conn : ℕ) (standing : Standing) (answers : List Answer) (o : Option Statement) → FlightsServed w → FlightsServed (resumed w conn standing answers o)
resumed_so w conn standing answers None h = h
resumed_so w conn standing answers (Some statement) h =
    resumed_by_so w conn (outcome_later w conn standing statement answers) (next_by (view_of w standing) ((undue w conn).gate.session conn).flight (outcome_later w conn standing statement answers) ((undue_so w conn h).flights conn) (later_next (view_of w standing) (databases w) (undue w conn).gate conn statement answers)) h

read_so : (w : Life) (conn : ℕ) (answers : List Answer) (o : Option Statement) → FlightsServed w → FlightsServed (read w conn answers o)
read_so w conn answers None h = h
read_so w conn answers (Some statement) h = by (told_at w conn statement answers)
  where
    by : (o : _) → FlightsServed (read_by w conn statement o)
    by None = h
    by (Some reply) = let u = undue_so w conn h in record { leads = u.leads; flights = u.flights }

module _ (m : Meaning) (kind : EngineKind) (logs : ℕ → List Line) where
  pub happens_so : (w : Life) (e : Doing) → FitsIn m kind logs w e → FlightsServed w → FlightsServed (happens w e)
  unfolding happens connected on_hangup on_applied on_lost tidy
  happens_so w (Connect conn) f h = cond_both (connects w.gate conn) (joined w conn) w FlightsServed
      (λ e. record { leads = h.leads; flights = put_by w.term w.serving conn _ w.gate.session tt h.flights })
      (λ e. h)
  happens_so w (Hangup conn) f h = record { leads = h.leads; flights = put_by w.term w.serving conn _ w.gate.session (left_so w.term w.serving (w.gate.session conn) (w.gate.session conn).flight (h.flights conn)) h.flights }
  happens_so w (Call conn standing request answers) f h = cond_both (may_ask (w.gate.session conn)) _ w FlightsServed
      (λ e. called_so w conn (on_request (view_of w standing) (databases w) w.gate conn request answers) (next_by (view_of w standing) (w.gate.session conn).flight (on_request (view_of w standing) (databases w) w.gate conn request answers) (h.flights conn) (request_next (view_of w standing) (databases w) w.gate conn request answers)) h)
      (λ e. h)
  happens_so w (Resume conn standing answers) f h = resumed_so w conn standing answers (later_query (w.gate.session conn).later) h
  happens_so w (Done conn answers) f h = read_so w conn answers (lent_query (w.gate.session conn).later) h
  happens_so w Apply f h = record { leads = h.leads; flights = λ conn. settled_so w.term w.serving (suc w.applied) (w.gate.session conn) (w.gate.session conn).flight (h.flights conn) }
  happens_so w (Lose term) f h = record { leads = λ e. absurd (true≢false (sym e)); flights = λ conn. lost_so term false (w.gate.session conn) }
  happens_so w (Lead term) f h = record { leads = λ e. refl; flights = λ conn. idle_so w.term term w.serving (w.gate.session conn).flight (idle w.serving refl) (h.flights conn) }
    where
      idle : (serving : Bool) → w.serving ≡ serving → w.serving ≡ false
      idle true e = absurd (true≢false (sym (h.leads e) ∙ f.0))
      idle false e = e
  happens_so w Serve f h = record { leads = λ e. f.0; flights = λ conn. by (w.gate.session conn).flight (h.flights conn) }
    where
      by : (o : Option Flight) → IsServed w.term w.serving o → IsServed w.term true o
      by None h = tt
      by (Some x) h = (h.0, refl)
  happens_so w (Append contents) f h = record { leads = h.leads; flights = h.flights }
  happens_so w (Follow entries) f h = record { leads = h.leads; flights = h.flights }

  pub lives_so : (w : Life) (es : List Doing) → AllFitIn m kind logs w es → FlightsServed w → FlightsServed (lives_on w es)
  lives_so w [] f h = h
  lives_so w (e ∷ es) f h = lives_so (happens w e) es f.1 (happens_so w e f.0 h)

-- this holds for each life in a run
pub life_served : (m : Meaning) (w : Life) → NodeOk m w → FlightsServed w
life_served m w ok = record { leads = ok.leads; flights = λ conn. by (w.gate.session conn).flight refl (ok.sessions conn).flight (serves conn w.serving refl) }
  where
    serves : (conn : ℕ) (serving : Bool) → w.serving ≡ serving → (w.serving ≡ true) ⊎ ((w.gate.session conn).flight ≡ None)
    serves conn true e = inl e
    serves conn false e = inr (ok.idle e conn).flight

    by : {conn : ℕ} (o : Option Flight) → (w.gate.session conn).flight ≡ o → FlightIs m w.log w.applied w.term (w.trail conn) o → (w.serving ≡ true) ⊎ ((w.gate.session conn).flight ≡ None) → IsServed w.term w.serving o
    by None e x s = tt
    by (Some f) e x (inl s) = (x.of_term, s)
    by (Some f) e x (inr none) = absurd (some_none f (sym e ∙ none))
      where
        some_none : (f : Flight) → Some f ≡ None → ⊥
        some_none f e = cc
