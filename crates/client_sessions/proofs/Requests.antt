-- What a request makes of its session, and that its reply can be sent: one walk over all that comes of requests, and of queries
-- that are run later than they were asked.
use Rattle.std.proofs.Common.{◌≡◌, ℕ, Bool, true, false, List, [], ◌∷◌, Option, Some, None, refl, sym, subst}
use Rattle.std.specs.Prelude.{◌&&◌}
use Rattle.std.proofs.lemmas.Bool.{cond_both}
use Rattle.dq_base.specs.Changes.{changed}
use Rattle.database_state.specs.Files.{empty_image}
use Rattle.wire_msgs.specs.declared.request.Request.{Request}
use Rattle.sql_engine.specs.Replies.{Statement}
use Rattle.session_spec.specs.Allowed.{IsAllowed}
use Rattle.session_spec.specs.Asking.{Asked, Never, Tells, Sets, Opens, Creates, Prepares, Drops, Forgets, Begins, Commits, RollsBack, Changes, Runs, Reads, has_database, asked}
use Rattle.session_spec.specs.Causes.{Cause}
use Rattle.session_spec.specs.Engines.{Answer, no_pages, Ending, Lacking, TooLarge, Stopped, Ended, runs, no_answer}
use Rattle.session_spec.specs.Entries.{Content, Configures, Other}
use Rattle.session_spec.specs.Limits.{other_holds, pages_full, log_full}
use Rattle.session_spec.specs.Machine.{Machine}
use Rattle.session_spec.specs.Requests.{unless, reply_of, outside, outside_write, inside, run_in, has_nothing, committed, commit_in, does, on_request, on_later, with_later, flying, job_of, was_cut, read_outside, read_in, waits_first, barrier_first, reads}
use Rattle.session_spec.specs.Sessions.{Kind, Configuring, Querying, Flight, Later, Lent, Transaction, Session, Gateway, View, Nothing, Turned, Refused, Lacks, Answers, Proposes, Lends, Affects}
use Rattle.session_spec.proofs.Asked.{all_allowed}
use Rattle.session_gateway.specs.Calls.{HasNoNul, IsConfigured}
use Rattle.client_sessions.specs.Sending.{CanSend, KindCanSend, FlightCanSend}
use Rattle.client_sessions.specs.Clients.{Awaits, KindIsOpened}
use Rattle.client_sessions.proofs.Writable.{TellsWell, asked_tells, reply_sent, result_sent, optional_spelled}

-- The session is there, and hung up, as before; the reply that its proposal gets can be sent, and what it waits for is one thing.
pub record Follows (before after : Session) : Type 0 where
  pub there : after.there ≡ before.there
  pub hung : after.hung ≡ before.hung
  pub sends : FlightCanSend after.flight
  pub awaits : Awaits after.database after.flight after.later

-- this holds for what comes of a request, of which the reply can be sent
abbrev pub Keeps : Session → Turned → Type 0
Keeps s (Refused cause) = Unit {0}
Keeps s Lacks = Unit {0}
Keeps s (Answers after reply note) = Follows s after × CanSend reply
Keeps s (Proposes after contents note) = Follows s after
Keeps s (Lends after job) = Follows s after
Keeps s (Affects effect) = Unit {0}

unless_kept : (s : Session) (cause : Option Cause) (turned : Turned) → Keeps s turned → Keeps s (unless cause turned)
unless_kept s None turned k = k
unless_kept s (Some cause) turned k = tt

awaits_none : (database : List ℕ) (flight : Option Flight) (later : Option Later) → flight ≡ None → later ≡ None → Awaits database flight later
awaits_none database flight later free rest = subst (λ (o : Option Flight). Awaits database o later) (sym free) (subst (λ (l : Option Later). Awaits database None l) (sym rest) tt)

-- it waits for nothing
pub rests : (s after : Session) → after.there ≡ s.there → after.hung ≡ s.hung → after.flight ≡ None → after.later ≡ None → Follows s after
rests s after there hung free rest = record {
  there = there;
  hung = hung;
  sends = subst FlightCanSend (sym free) tt;
  awaits = awaits_none after.database after.flight after.later free rest;
}

-- it waits for a proposal
flies : (s after : Session) (f : Flight) → after.there ≡ s.there → after.hung ≡ s.hung → after.flight ≡ Some f → after.later ≡ None → KindCanSend f.kind → KindIsOpened after.database f.kind → Follows s after
flies s after f there hung flight rest can opened = record {
  there = there;
  hung = hung;
  sends = subst FlightCanSend (sym flight) can;
  awaits = subst (λ (o : Option Flight). Awaits after.database o after.later) (sym flight) (subst (λ (l : Option Later). Awaits after.database (Some f) l) (sym rest) opened);
}

-- ---- what comes of a request at a session that waits for nothing

module _ (v : View) (m : Machine) (g : Gateway) (conn : ℕ) (s : Session) (free : s.flight ≡ None) (rest : s.later ≡ None) where
  -- entries that are proposed
  proposed : (name : List ℕ) (contents : List Content) (pages : ℕ) (kind : Kind) → KindCanSend kind → KindIsOpened s.database kind → Follows s (flying v s name contents pages kind)
  proposed name contents pages kind can opened = flies s _ _ refl refl refl rest can opened

  outside_kept : (ss : List Statement) (rows : Bool) (end : Ending) → Keeps s (outside v m g conn s ss rows end)
  unfolding outside outside_write
  outside_kept ss rows Lacking = tt
  outside_kept ss rows (TooLarge answer) = unless_kept s _ (Refused _) tt
  outside_kept ss rows (Stopped fault) = tt
  outside_kept ss rows (Ended to answer) =
      cond_both (no_pages (changed (m.base s.database).image to)) _ _ (Keeps s)
      (λ e. unless_kept s _ (Answers s (reply_of rows answer) _) (rests s s refl refl free rest, reply_sent rows answer))
      (λ e. unless_kept s _ (Proposes _ _ _) (proposed _ _ _ _ (reply_sent rows answer) tt))

  inside_kept : (x : Transaction) (ss : List Statement) (rows : Bool) (end : Ending) → Keeps s (inside m g conn s x ss rows end)
  unfolding inside
  inside_kept x ss rows Lacking = tt
  inside_kept x ss rows (TooLarge answer) = unless_kept s _ (Refused _) tt
  inside_kept x ss rows (Stopped fault) = tt
  inside_kept x ss rows (Ended to answer) =
      cond_both (no_pages (changed x.working to)) _ _ (Keeps s)
      (λ e. unless_kept s _ (Answers _ (reply_of rows answer) _) (rests s _ refl refl free rest, reply_sent rows answer))
      (λ e. unless_kept s _ (Answers _ (reply_of rows answer) _) (rests s _ refl refl free rest, reply_sent rows answer))

  run_kept : (tx : Option Transaction) (ss : List Statement) (rows : Bool) (answers : List Answer) → Keeps s (run_in v m g conn s tx ss rows answers)
  run_kept None ss rows answers = outside_kept ss rows (runs (m.base s.database).image no_answer ss answers)
  run_kept (Some x) ss rows answers = inside_kept x ss rows (runs x.working no_answer ss answers)

  commit_kept : (tx : Option Transaction) → Keeps s (commit_in v m g conn s tx)
  unfolding committed
  commit_kept None = tt
  commit_kept (Some x) =
      cond_both (has_nothing x) _ _ (Keeps s)
      (λ e. (rests s _ refl refl free rest, result_sent 0))
      (λ e. unless_kept s _ (Proposes _ _ _) (proposed _ _ _ _ tt tt))

  -- ---- queries

  module _ (statement : Statement) (opened : has_database s ≡ true) where
    lent_kept : Follows s (with_later s (Some (Lent statement)))
    lent_kept = record {
      there = refl;
      hung = refl;
      sends = subst FlightCanSend (sym free) tt;
      awaits = subst (λ (o : Option Flight). Awaits s.database o (Some (Lent statement))) (sym free) opened;
    }

    outside_read_kept : (end : Ending) → Keeps s (read_outside v m g conn s statement end)
    outside_read_kept end = cond_both (v.readers && was_cut end) (Lends (with_later s (Some (Lent statement))) (job_of m s statement)) (outside v m g conn s (statement ∷ []) true end) (Keeps s) (λ e. lent_kept) (λ e. outside_kept (statement ∷ []) true end)

    read_kept : (tx : Option Transaction) (answers : List Answer) → Keeps s (read_in v m g conn s tx statement answers)
    read_kept None answers = outside_read_kept (runs (m.base s.database).image no_answer (statement ∷ []) answers)
    read_kept (Some x) answers = run_kept (Some x) (statement ∷ []) true answers

    barrier_kept : Keeps s (barrier_first v s statement)
    barrier_kept = cond_both (log_full v) _ (Proposes (flying v s [] (Other ∷ []) 0 (Querying statement)) (Other ∷ []) Nothing) (Keeps s) (λ e. tt) (λ e. proposed [] (Other ∷ []) 0 (Querying statement) tt opened)

    reads_kept : (answers : List Answer) → Keeps s (reads v m g conn s statement answers)
    reads_kept answers = cond_both (waits_first s) (barrier_first v s statement) (read_in v m g conn s s.tx statement answers) (Keeps s) (λ e. barrier_kept) (λ e. read_kept s.tx answers)

  -- ---- requests

  does_kept : (request : Request) (asks : Asked) (answers : List Answer) → TellsWell asks → IsAllowed v g s request asks → Keeps s (does v m g conn s asks answers)
  unfolding does
  does_kept request (Never cause) answers t a = tt
  does_kept request (Tells response) answers t a = (rests s s refl refl free rest, (t, tt))
  does_kept request (Sets effect) answers t a = tt
  does_kept request (Opens name barriers) answers t a = (rests s _ refl refl refl rest, ((tt, tt), tt))
  does_kept request (Creates name barriers) answers t a = cond_both (pages_full m g name empty_image) _ _ (Keeps s) (λ e. tt) (λ e. flies s _ _ refl refl refl rest tt tt)
  does_kept request (Prepares p tail) answers t a = (rests s _ refl refl free rest, ((tt, (tt, optional_spelled tail)), tt))
  does_kept request (Drops id) answers t a = (rests s _ refl refl free rest, ((tt, tt), tt))
  does_kept request (Forgets response) answers t a = (rests s _ refl refl free rest, (t, tt))
  does_kept request (Begins at_once) answers t a = cond_both (at_once && other_holds g conn s.database) _ _ (Keeps s) (λ e. tt) (λ e. (rests s _ refl refl free rest, result_sent 0))
  does_kept request Commits answers t a = commit_kept s.tx
  does_kept request RollsBack answers t a = (rests s _ refl refl free rest, result_sent 0)
  does_kept request (Changes servers short) answers t a = cond_both (log_full v) _ _ (Keeps s) (λ e. tt) (λ e. proposed [] (Configures servers ∷ []) 0 (Configuring short) tt tt)
  does_kept request (Runs ss) answers t a = run_kept s.tx ss false answers
  does_kept request (Reads statement) answers t a = reads_kept statement a.opened answers

-- What comes of a request keeps its session, and its reply can be sent.
pub request_kept : (v : View) (m : Machine) (g : Gateway) (conn : ℕ) (request : Request) (answers : List Answer) → IsConfigured v → HasNoNul request
    → (g.session conn).flight ≡ None → (g.session conn).later ≡ None → Keeps (g.session conn) (on_request v m g conn request answers)
unfolding on_request
request_kept v m g conn request answers configured text free rest =
    does_kept v m g conn (g.session conn) free rest request (asked v m g conn request) answers (asked_tells v m g conn (g.session conn) request configured text) (all_allowed v m g conn (g.session conn) request)

-- So does what comes of a query that is run later than it was asked.
pub later_kept : (v : View) (m : Machine) (g : Gateway) (conn : ℕ) (statement : Statement) (answers : List Answer)
    → (g.session conn).flight ≡ None → (g.session conn).later ≡ None → Keeps (g.session conn) (on_later v m g conn statement answers)
unfolding on_later
later_kept v m g conn statement answers free rest =
    cond_both v.serving (run_in v m g conn (g.session conn) (g.session conn).tx (statement ∷ []) true answers) _ (Keeps (g.session conn))
    (λ e. run_kept v m g conn (g.session conn) free rest (g.session conn).tx (statement ∷ []) true answers) (λ e. tt)
