-- Whose query a reader has, has the job that was handed out last for its connection.
use Rattle.std.proofs.Common.{◌≡◌, ◌≢◌, ◌⊎◌, inl, inr, ⊎_elim, ℕ, suc, ◌≤◌, Bool, true, false, List, [], ◌∷◌, ◌++◌, length, take, refl, sym, ap, ◌∙◌, subst, arith}
use Rattle.std.specs.Prelude.{◌==◌, ◌&&◌, cond, not, is_none, Option, Some, None}
use Rattle.std.proofs.lemmas.List.{length-take-le}
use Rattle.std.proofs.lemmas.Bool.{cond-true, cond-false, cond_both, cases_eq, eq-eqb, ne_eqb, and_parts}
use Rattle.dq_base.specs.Changes.{changed}
use Rattle.database_state.specs.Files.{empty_image}
use Rattle.sql_engine.specs.declared.kind.EngineKind.{EngineKind}
use Rattle.sql_engine.specs.Meanings.{Meaning}
use Rattle.sql_engine.specs.Replies.{Statement}
use Rattle.wire_msgs.specs.declared.request.Request.{Request}
use Rattle.session_spec.specs.Asking.{Asked, Never, Tells, Sets, Opens, Creates, Prepares, Drops, Forgets, Begins, Commits, RollsBack, Changes, Runs, Reads, asked}
use Rattle.session_spec.specs.Causes.{Cause}
use Rattle.session_spec.specs.Engines.{Answer, no_pages, Ending, Lacking, TooLarge, Stopped, Ended}
use Rattle.session_spec.specs.Entries.{entries_of}
use Rattle.session_spec.specs.Events.{landed, tidy, settled_by, on_applied, still_lent, loses, on_lost, left, on_hangup, connects, connected}
use Rattle.session_spec.specs.Limits.{other_holds, pages_full, log_full}
use Rattle.session_spec.specs.Machine.{Base, base_at, image_at, Machine}
use Rattle.session_spec.specs.Requests.{unless, outside_write, outside, inside, run_in, has_nothing, committed, commit_in, job_of, does, on_request, on_later, with_tx, with_flight, with_later, with_lost, with_session}
use Rattle.session_spec.specs.Sessions.{Reply, Kind, Opening, Configuring, Writing, Committing, Querying, Flight, Later, Due, Lent, later_query, lent_query, Transaction, Session, Gateway, View, absent, fresh, Job, may_ask, HandsOver, JoinsPeer, Weighs, Turned, Refused, Lacks, Answers, Proposes, Lends, Affects}
use Rattle.session_safety.specs.Nodes.{Trail, unseen, Standing, Node as Life, databases, view_of, started}
use Rattle.session_safety.specs.Life.{Event as Doing, Connect, Hangup, Call, Resume, Done, Apply, Lose, Lead, Serve, Append, Follow, trail_by, job_at, told_at, undue, outcome_later, resumed, read_by, read, called, joined, happens as goes_on, run_from as lives_on, AllFit}
use Rattle.session_safety.specs.Lending.{lends_by, lent_by, lent_in, LatersStay, handed_on, no_jobs, JobsAre, JobsAreKnown}
use Rattle.session_safety.proofs.Files.{base_append, base_take}
use Rattle.session_safety.proofs.Invariant.{NodeOk, IsFree, free_flies}
use Rattle.session_safety.proofs.Laters.{resumed_both, undue_here}
use Rattle.session_safety.proofs.Lives.{none_is, happens_ok, started_ok}
use Rattle.session_safety.proofs.Ways.{read_in_both, barrier_both, reads_both, later_both}

some_none : {A : Type 0} {x : A} {o : Option A} → o ≡ Some x → o ≡ None → ⊥
some_none e n = cc

-- ---- jobs that are handed out one after another

pub handed_join : (jobs : ℕ → Option Job) (xs ys : List (ℕ × Job)) (conn : ℕ) → handed_on jobs (xs ++ ys) conn ≡ handed_on (handed_on jobs xs) ys conn
handed_join jobs [] ys conn = refl
handed_join jobs (p ∷ xs) ys conn = handed_join (λ other. cond (p.0 == other) (Some p.1) (jobs other)) xs ys conn

-- ---- what comes of a request

-- no query is lent; what waits for its answer stays
abbrev LendsNone : Session → Turned → Type 0
LendsNone own (Refused cause) = Unit {0}
LendsNone own Lacks = Unit {0}
LendsNone own (Answers s reply note) = s.later ≡ own.later
LendsNone own (Proposes s contents note) = s.later ≡ own.later
LendsNone own (Lends s job) = ⊥
LendsNone own (Affects effect) = Unit {0}

-- the session waits for a reader of this job
record IsLent (m : Machine) (own s : Session) (job : Job) : Type 0 where
  statement : Statement
  later : s.later ≡ Some (Lent statement)
  database : s.database ≡ own.database
  is : job ≡ job_of m own statement

-- a query that is lent is so over the newest image
abbrev LendsNew : Machine → Session → Turned → Type 0
LendsNew m own (Refused cause) = Unit {0}
LendsNew m own Lacks = Unit {0}
LendsNew m own (Answers s reply note) = s.later ≡ own.later
LendsNew m own (Proposes s contents note) = s.later ≡ own.later
LendsNew m own (Lends s job) = IsLent m own s job
LendsNew m own (Affects effect) = Unit {0}

none_new : (m : Machine) (own : Session) (t : Turned) → LendsNone own t → LendsNew m own t
none_new m own (Refused cause) h = h
none_new m own Lacks h = h
none_new m own (Answers s reply note) h = h
none_new m own (Proposes s contents note) h = h
none_new m own (Lends s job) h = absurd h
none_new m own (Affects effect) h = h

none_lends : (conn : ℕ) (own : Session) (t : Turned) → LendsNone own t → lends_by conn t ≡ []
none_lends conn own (Refused cause) h = refl
none_lends conn own Lacks h = refl
none_lends conn own (Answers s reply note) h = refl
none_lends conn own (Proposes s contents note) h = refl
none_lends conn own (Lends s job) h = absurd h
none_lends conn own (Affects effect) h = refl

unless_none : (own : Session) (o : Option Cause) (t : Turned) → LendsNone own t → LendsNone own (unless o t)
unless_none own None t h = h
unless_none own (Some cause) t h = tt

module _ (v : View) (m : Machine) (g : Gateway) (c : ℕ) (s : Session) where
  outside_none : (ss : List Statement) (rows : Bool) (end : Ending) → LendsNone s (outside v m g c s ss rows end)
  unfolding outside outside_write
  outside_none ss rows Lacking = tt
  outside_none ss rows (TooLarge answer) = unless_none s _ (Refused _) tt
  outside_none ss rows (Stopped fault) = tt
  outside_none ss rows (Ended to answer) =
      cond_both (no_pages (changed (m.base s.database).image to)) _ _ (LendsNone s)
      (λ e. unless_none s _ (Answers s _ _) refl)
      (λ e. unless_none s _ (Proposes _ _ _) refl)

  inside_none : (x : Transaction) (ss : List Statement) (rows : Bool) (end : Ending) → LendsNone s (inside m g c s x ss rows end)
  unfolding inside
  inside_none x ss rows Lacking = tt
  inside_none x ss rows (TooLarge answer) = unless_none s _ (Refused _) tt
  inside_none x ss rows (Stopped fault) = tt
  inside_none x ss rows (Ended to answer) =
      cond_both (no_pages (changed x.working to)) _ _ (LendsNone s)
      (λ e. unless_none s _ (Answers _ _ _) refl)
      (λ e. unless_none s _ (Answers _ _ _) refl)

  run_none : (o : Option Transaction) (ss : List Statement) (rows : Bool) (answers : List Answer) → LendsNone s (run_in v m g c s o ss rows answers)
  run_none None ss rows answers = outside_none ss rows _
  run_none (Some x) ss rows answers = inside_none x ss rows _

  commit_none : (o : Option Transaction) → LendsNone s (commit_in v m g c s o)
  unfolding committed
  commit_none None = tt
  commit_none (Some x) =
      cond_both (has_nothing x) _ _ (LendsNone s)
      (λ e. refl)
      (λ e. unless_none s _ (Proposes _ _ _) refl)

  does_new : (x : Asked) (answers : List Answer) → LendsNew m s (does v m g c s x answers)
  unfolding does
  does_new (Never cause) answers = tt
  does_new (Tells response) answers = refl
  does_new (Sets effect) answers = tt
  does_new (Opens name barriers) answers = refl
  does_new (Creates name barriers) answers = cond_both (pages_full m g name empty_image) _ _ (LendsNew m s) (λ e. tt) (λ e. refl)
  does_new (Prepares p tail) answers = refl
  does_new (Drops id) answers = refl
  does_new (Forgets response) answers = refl
  does_new (Begins at_once) answers = cond_both (at_once && other_holds g c s.database) _ _ (LendsNew m s) (λ e. tt) (λ e. refl)
  does_new Commits answers = none_new m s _ (commit_none s.tx)
  does_new RollsBack answers = refl
  does_new (Changes servers short) answers = cond_both (log_full v) _ _ (LendsNew m s) (λ e. tt) (λ e. refl)
  does_new (Runs ss) answers = none_new m s _ (run_none s.tx ss false answers)
  does_new (Reads statement) answers = reads_both (LendsNew m s) v m g c s statement answers
      (λ e. barrier_both (LendsNew m s) v m g c s statement tt refl)
      (λ e. read_in_both (LendsNew m s) v m g c s statement s.tx answers
      (λ t u. record { statement = statement; later = refl; database = refl; is = refl }) (none_new m s _ (run_none s.tx (statement ∷ []) true answers)))

request_new : (v : View) (m : Machine) (g : Gateway) (c : ℕ) (r : Request) (answers : List Answer) → LendsNew m (g.session c) (on_request v m g c r answers)
unfolding on_request
request_new v m g c r answers = does_new v m g c (g.session c) (asked v m g c r) answers

later_none : (v : View) (m : Machine) (g : Gateway) (c : ℕ) (s : Statement) (answers : List Answer) → LendsNone (g.session c) (on_later v m g c s answers)
later_none v m g c s answers =
    later_both (LendsNone (g.session c)) v m g c s answers tt (λ e. run_none v m g c (g.session c) (g.session c).tx (s ∷ []) true answers)

pub laters_stay_hold : LatersStay
laters_stay_hold v m g conn statement answers =
    none_lends conn (g.session conn) (on_later v m g conn statement answers) (later_none v m g conn statement answers)

-- ---- one connection

-- its reader has this job, if it has one
abbrev Known : Option Job → ℕ → Life → Type 0
Known o conn w = (s : Statement) → lent_query (w.gate.session conn).later ≡ Some s → o ≡ Some (job_at w conn s)

-- no reader has a query of it
not_lent : (o : Option Job) (conn : ℕ) (w : Life) → lent_query (w.gate.session conn).later ≡ None → Known o conn w
not_lent o conn w none s e = absurd (some_none e none)

-- its query, its database, and the log up to where the query was lent, stay
still : (o : Option Job) (conn : ℕ) (w v : Life) → lent_query (v.gate.session conn).later ≡ lent_query (w.gate.session conn).later → (v.gate.session conn).database ≡ (w.gate.session conn).database → (v.trail conn).at ≡ (w.trail conn).at →
    ((name : List ℕ) → base_at v.log (w.trail conn).at name ≡ base_at w.log (w.trail conn).at name) → Known o conn w → Known o conn v
still o conn w v later database at log k s e =
    let name = (w.gate.session conn).database in
    let one : job_at v conn s ≡ record { name = name; image = (base_at v.log (v.trail conn).at name).image; statement = s } = ap (λ n. record { name = n; image = (base_at v.log (v.trail conn).at n).image; statement = s }) database in
    let two : record { name = name; image = (base_at v.log (v.trail conn).at name).image; statement = s } ≡ record { name = name; image = (base_at v.log (w.trail conn).at name).image; statement = s } = ap (λ a. record { name = name; image = (base_at v.log a name).image; statement = s }) at in
    let three : record { name = name; image = (base_at v.log (w.trail conn).at name).image; statement = s } ≡ job_at w conn s = ap (λ (d : Base). record { name = name; image = d.image; statement = s }) (log name) in
    k s (sym later ∙ e) ∙ ap (λ j. Some j) (sym (one ∙ two ∙ three))

-- the same session and trail, over a log of which what was applied stays
same : (o : Option Job) (conn : ℕ) (w v : Life) → v.gate.session conn ≡ w.gate.session conn → (v.trail conn).at ≡ (w.trail conn).at →
    ((name : List ℕ) → base_at v.log (w.trail conn).at name ≡ base_at w.log (w.trail conn).at name) → Known o conn w → Known o conn v
same o conn w v session at log k = still o conn w v (ap (λ (z : Session). lent_query z.later) session) (ap (λ (z : Session). z.database) session) at log k

-- ---- what comes of a request, or of a query that is run, at its connection and at another one

known_called : (jobs : ℕ → Option Job) (w : Life) (c : ℕ) (t : Turned) → ((conn : ℕ) → (w.trail conn).at ≤ length w.log) → (w.gate.session c).later ≡ None → LendsNew (databases w) (w.gate.session c) t → JobsAre jobs w → JobsAre (handed_on jobs (lends_by c t)) (called w c t)
unfolding with_session
known_called jobs w c (Refused cause) low rest h k = k
known_called jobs w c Lacks low rest h k = k
known_called jobs w c (Answers x reply note) low rest h k = λ conn. ⊎_elim
    (λ (e : conn ≡ c). not_lent (jobs conn) conn (called w c (Answers x reply note)) (ap (λ (z : Session). lent_query z.later) (cond-true (conn == c) x (w.gate.session conn) (eq-eqb conn c e)) ∙ ap lent_query (h ∙ rest)))
    (λ (n : conn ≢ c). let e = ne_eqb conn c n in same (jobs conn) conn w (called w c (Answers x reply note)) (cond-false (conn == c) x (w.gate.session conn) e) (ap (λ (z : Trail). z.at) (cond-false (conn == c) _ (w.trail conn) e)) (λ name. refl) (k conn))
    (cases_eq conn c)
known_called jobs w c (Proposes x contents note) low rest h k = λ conn. ⊎_elim
    (λ (e : conn ≡ c). not_lent (jobs conn) conn (called w c (Proposes x contents note)) (ap (λ (z : Session). lent_query z.later) (cond-true (conn == c) x (w.gate.session conn) (eq-eqb conn c e)) ∙ ap lent_query (h ∙ rest)))
    (λ (n : conn ≢ c). let e = ne_eqb conn c n in same (jobs conn) conn w (called w c (Proposes x contents note)) (cond-false (conn == c) x (w.gate.session conn) e) (ap (λ (z : Trail). z.at) (cond-false (conn == c) _ (w.trail conn) e))
    (λ name. base_append w.log (entries_of w.term contents) (w.trail conn).at name (low conn)) (k conn))
    (cases_eq conn c)
known_called jobs w c (Lends x job) low rest h k = λ conn. ⊎_elim
    (λ (e : conn ≡ c). λ s q.
    let v = called w c (Lends x job) in
    let own = w.gate.session c in
    let t = eq-eqb conn c e in
    let session : v.gate.session conn ≡ x = cond-true (conn == c) x (w.gate.session conn) t in
    let at : (v.trail conn).at ≡ w.applied = ap (λ (z : Trail). z.at) (cond-true (conn == c) _ (w.trail conn) t) in
    let asked : Some h.statement ≡ Some s = sym (ap (λ (z : Session). lent_query z.later) session ∙ ap lent_query h.later) ∙ q in
    let name : (v.gate.session conn).database ≡ own.database = ap (λ (z : Session). z.database) session ∙ h.database in
    let here : job_at v conn s ≡ job_of (databases w) own s = ap (λ n. record { name = n; image = image_at w.log (v.trail conn).at n; statement = s }) name ∙ ap (λ a. record { name = own.database; image = image_at w.log a own.database; statement = s }) at in
    cond-true (c == conn) (Some job) (jobs conn) (eq-eqb c conn (sym e)) ∙ ap (λ j. Some j) (h.is ∙ ap (job_of (databases w) own) (same_query asked) ∙ sym here))
    (λ (n : conn ≢ c).
    let e = ne_eqb conn c n in
    let f = ne_eqb c conn (λ z. n (sym z)) in
    subst (λ o. Known o conn (called w c (Lends x job))) (sym (cond-false (c == conn) (Some job) (jobs conn) f))
    (same (jobs conn) conn w (called w c (Lends x job)) (cond-false (conn == c) x (w.gate.session conn) e) (ap (λ (z : Trail). z.at) (cond-false (conn == c) _ (w.trail conn) e)) (λ name. refl) (k conn)))
    (cases_eq conn c)
  where
    same_query : {a b : Statement} → Some a ≡ Some b → a ≡ b
    same_query e = cc
known_called jobs w c (Affects (HandsOver id)) low rest h k = k
known_called jobs w c (Affects (JoinsPeer id)) low rest h k = k
known_called jobs w c (Affects (Weighs weight)) low rest h k = k

-- the same where no query is lent
known_told : (jobs : ℕ → Option Job) (w : Life) (c : ℕ) (t : Turned) → ((conn : ℕ) → (w.trail conn).at ≤ length w.log) → (w.gate.session c).later ≡ None → LendsNone (w.gate.session c) t → JobsAre jobs w → JobsAre jobs (called w c t)
known_told jobs w c (Refused cause) low rest h k = known_called jobs w c (Refused cause) low rest h k
known_told jobs w c Lacks low rest h k = k
known_told jobs w c (Answers x reply note) low rest h k = known_called jobs w c (Answers x reply note) low rest h k
known_told jobs w c (Proposes x contents note) low rest h k = known_called jobs w c (Proposes x contents note) low rest h k
known_told jobs w c (Lends x job) low rest h k = absurd h
known_told jobs w c (Affects effect) low rest h k = known_called jobs w c (Affects effect) low rest h k

-- the connection waits for no query any more
known_undue : (jobs : ℕ → Option Job) (w : Life) (c : ℕ) → JobsAre jobs w → JobsAre jobs (undue w c)
unfolding with_session
known_undue jobs w c k = λ conn. ⊎_elim
    (λ (e : conn ≡ c). not_lent (jobs conn) conn (undue w c) (ap (λ (z : Session). lent_query z.later) (cond-true (conn == c) (with_later (w.gate.session c) None) (w.gate.session conn) (eq-eqb conn c e))))
    (λ (n : conn ≢ c). same (jobs conn) conn w (undue w c) (cond-false (conn == c) (with_later (w.gate.session c) None) (w.gate.session conn) (ne_eqb conn c n)) refl (λ name. refl) (k conn))
    (cases_eq conn c)

known_resumed : (jobs : ℕ → Option Job) (w : Life) (c : ℕ) (standing : Standing) (answers : List Answer) (o : Option Statement) → ((conn : ℕ) → (w.trail conn).at ≤ length w.log) → JobsAre jobs w → JobsAre jobs (resumed w c standing answers o)
known_resumed jobs w c standing answers None low k = k
known_resumed jobs w c standing answers (Some s) low k = resumed_both (JobsAre jobs) w c (outcome_later w c standing s answers) k
    (known_told jobs (undue w c) c (outcome_later w c standing s answers) low (ap (λ (x : Session). x.later) (undue_here w c))
    (later_none (view_of w standing) (databases w) (undue w c).gate c s answers) (known_undue jobs w c k))

known_read : (jobs : ℕ → Option Job) (w : Life) (c : ℕ) (s : Statement) (o : Option Reply) → JobsAre jobs w → JobsAre jobs (read_by w c s o)
unfolding with_session
known_read jobs w c s None k = k
known_read jobs w c s (Some reply) k = λ conn. ⊎_elim
    (λ (e : conn ≡ c). not_lent (jobs conn) conn (read_by w c s (Some reply)) (ap (λ (z : Session). lent_query z.later) (cond-true (conn == c) (with_later (w.gate.session c) None) (w.gate.session conn) (eq-eqb conn c e))))
    (λ (n : conn ≢ c). let e = ne_eqb conn c n in same (jobs conn) conn w (read_by w c s (Some reply)) (cond-false (conn == c) (with_later (w.gate.session c) None) (w.gate.session conn) e) (ap (λ (z : Trail). z.at) (cond-false (conn == c) _ (w.trail conn) e)) (λ name. refl) (k conn))
    (cases_eq conn c)

known_done : (jobs : ℕ → Option Job) (w : Life) (c : ℕ) (answers : List Answer) (o : Option Statement) → JobsAre jobs w → JobsAre jobs (read w c answers o)
known_done jobs w c answers None k = k
known_done jobs w c answers (Some s) k = known_read jobs w c s (told_at w c s answers) k

-- ---- other events

-- an entry is applied: a query is due after its barrier, or none waits for its answer
settled_query : (i : ℕ) (x : Session) (seen at : ℕ) (o : Option Flight) → IsFree seen at x.later o → (lent_query (settled_by i x o).later ≡ None) ⊎ ((settled_by i x o ≡ x) × ((t : Trail) → (trail_by i t o).at ≡ t.at))
settled_query i x seen at None free = inr (refl, (λ t. refl))
settled_query i x seen at (Some f) free =
    let none = free_flies seen at x.later f free in
    inl (cond_both (f.last == i) (cond x.hung absent (landed x f f.kind)) x (λ (z : Session). lent_query z.later ≡ None)
    (λ e. cond_both x.hung absent (landed x f f.kind) (λ (z : Session). lent_query z.later ≡ None) (λ z. refl) (λ z. landed_query f.kind none))
    (λ e. ap lent_query none))
  where
    landed_query : (k : Kind) → x.later ≡ None → lent_query (landed x f k).later ≡ None
    landed_query Opening n = ap lent_query n
    landed_query (Configuring short) n = ap lent_query n
    landed_query (Writing reply) n = ap lent_query n
    landed_query Committing n = ap lent_query n
    landed_query (Querying statement) n = refl

still_query : (d : Option Later) → lent_query (still_lent d) ≡ lent_query d
still_query None = refl
still_query (Some (Due statement)) = refl
still_query (Some (Lent statement)) = refl

-- a client goes: nothing is lent to it, as what was pending was no query at a reader
left_query : (x : Session) (seen at : ℕ) (o : Option Flight) → IsFree seen at x.later o → lent_query (left x o).later ≡ None
left_query x seen at None free = refl
left_query x seen at (Some f) free = ap lent_query (free_flies seen at x.later f free)

module _ (mean : Meaning) (kind : EngineKind) where
  known_call : (jobs : ℕ → Option Job) (w : Life) (c : ℕ) (standing : Standing) (r : Request) (answers : List Answer) → ((conn : ℕ) → (w.trail conn).at ≤ length w.log) → JobsAre jobs w → JobsAre (handed_on jobs (lent_by w (Call c standing r answers))) (goes_on w (Call c standing r answers))
  unfolding goes_on may_ask
  known_call jobs w c standing r answers low k =
      let x = w.gate.session c in
      let t = on_request (view_of w standing) (databases w) w.gate c r answers in
      by (x.there && not x.hung && is_none x.flight && is_none x.later)
      (λ e. known_called jobs w c t low (none_is x.later (and_parts _ _ e).1) (request_new (view_of w standing) (databases w) w.gate c r answers) k)
    where
      by : (b : Bool) → (b ≡ true → JobsAre (handed_on jobs (lends_by c (on_request (view_of w standing) (databases w) w.gate c r answers))) (called w c (on_request (view_of w standing) (databases w) w.gate c r answers))) →
          JobsAre (handed_on jobs (cond b (lends_by c (on_request (view_of w standing) (databases w) w.gate c r answers)) [])) (cond b (called w c (on_request (view_of w standing) (databases w) w.gate c r answers)) w)
      by true h = h refl
      by false h = k

  known_step : (jobs : ℕ → Option Job) (w : Life) (e : Doing) → NodeOk mean w → JobsAre jobs w → JobsAre (handed_on jobs (lent_by w e)) (goes_on w e)
  unfolding goes_on connected on_hangup on_applied on_lost tidy
  known_step jobs w (Connect c) ok k = cond_both (connects w.gate c) _ w (JobsAre jobs)
      (λ t. λ conn. ⊎_elim
      (λ (e : conn ≡ c). λ s q. absurd (some_none q (ap (λ (z : Session). lent_query z.later) (cond-true (conn == c) fresh (w.gate.session conn) (eq-eqb conn c e)))))
      (λ (n : conn ≢ c). let e = ne_eqb conn c n in same (jobs conn) conn w (joined w c) (cond-false (conn == c) fresh (w.gate.session conn) e) (ap (λ (z : Trail). z.at) (cond-false (conn == c) unseen (w.trail conn) e)) (λ name. refl) (k conn))
      (cases_eq conn c))
      (λ t. k)
  known_step jobs w (Hangup c) ok k = λ conn. ⊎_elim
      (λ (e : conn ≡ c). not_lent (jobs conn) conn (goes_on w (Hangup c)) (ap (λ (z : Session). lent_query z.later) (cond-true (conn == c) _ (w.gate.session conn) (eq-eqb conn c e)) ∙ left_query (w.gate.session c) (w.trail c).seen (w.trail c).at (w.gate.session c).flight (ok.sessions c).free))
      (λ (n : conn ≢ c). same (jobs conn) conn w (goes_on w (Hangup c)) (cond-false (conn == c) _ (w.gate.session conn) (ne_eqb conn c n)) refl (λ name. refl) (k conn))
      (cases_eq conn c)
  known_step jobs w (Call c standing r answers) ok k =
      known_call jobs w c standing r answers (λ conn. let at = (ok.sessions conn).at in let low = ok.applied in omega arith) k
  known_step jobs w (Resume c standing answers) ok k = known_resumed jobs w c standing answers (later_query (w.gate.session c).later) (λ conn. let at = (ok.sessions conn).at in let low = ok.applied in omega arith) k
  known_step jobs w (Done c answers) ok k = known_done jobs w c answers (lent_query (w.gate.session c).later) k
  known_step jobs w Apply ok k = λ conn.
      let x = w.gate.session conn in
      ⊎_elim
      (λ (none : lent_query (settled_by (suc w.applied) x x.flight).later ≡ None). not_lent (jobs conn) conn (goes_on w Apply) none)
      (λ (both : (settled_by (suc w.applied) x x.flight ≡ x) × ((t : Trail) → (trail_by (suc w.applied) t x.flight).at ≡ t.at)). same (jobs conn) conn w (goes_on w Apply) both.0 (both.1 (w.trail conn)) (λ name. refl) (k conn))
      (settled_query (suc w.applied) x (w.trail conn).seen (w.trail conn).at x.flight (ok.sessions conn).free)
  known_step jobs w (Lose t) ok k = λ conn.
      let x = w.gate.session conn in
      cases_on x.hung
      (λ e. not_lent (jobs conn) conn (goes_on w (Lose t)) (ap (λ (z : Session). lent_query z.later) (cond-true x.hung absent _ e)))
      (λ e. let z = cond-false x.hung absent (with_lost (with_later (with_flight (with_tx x None) None) (still_lent x.later)) (loses x)) e in still (jobs conn) conn w (goes_on w (Lose t)) (ap (λ (y : Session). lent_query y.later) z ∙ still_query x.later) (ap (λ (y : Session). y.database) z) refl (λ name. refl) (k conn))
    where
      cases_on : {A : Type 0} (b : Bool) → (b ≡ true → A) → (b ≡ false → A) → A
      cases_on true f g = f refl
      cases_on false f g = g refl
  known_step jobs w (Lead t) ok k = k
  known_step jobs w Serve ok k = k
  known_step jobs w (Append contents) ok k = λ conn.
      let at = (ok.sessions conn).at in
      let low = ok.applied in
      same (jobs conn) conn w (goes_on w (Append contents)) refl refl (λ name. base_append w.log (entries_of w.term contents) (w.trail conn).at name (omega arith)) (k conn)
  known_step jobs w (Follow es) ok k = λ conn.
      let at = (ok.sessions conn).at in
      let low = ok.applied in
      let front = take w.applied w.log in
      same (jobs conn) conn w (goes_on w (Follow es)) refl refl (λ name. base_append front es (w.trail conn).at name (omega (arith, length-take-le w.applied w.log low)) ∙ base_take w.log (w.trail conn).at w.applied name at) (k conn)

  -- over all that happens
  pub jobs_known : (jobs : ℕ → Option Job) (w : Life) (es : List Doing) → NodeOk mean w → AllFit mean kind w es → JobsAre jobs w → JobsAre (handed_on jobs (lent_in w es)) (lives_on w es)
  jobs_known jobs w [] ok f k = k
  jobs_known jobs w (e ∷ es) ok f k = λ conn s q.
      handed_join jobs (lent_by w e) (lent_in (goes_on w e) es) conn
      ∙ jobs_known (handed_on jobs (lent_by w e)) (goes_on w e) es (happens_ok mean kind w e f.0 ok) f.1 (known_step jobs w e ok k) conn s q

  pub jobs_are_known_hold : JobsAreKnown mean kind
  jobs_are_known_hold log applied term es from h =
      jobs_known no_jobs (started log applied term) es (started_ok mean kind log applied term from.within from.woven) h (λ conn s e. absurd (some_none e refl))
