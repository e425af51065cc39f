-- What no request brings about: other servers, and the refusal of a lost leadership.
use Rattle.std.proofs.Common.{◌≡◌, ◌≢◌, ℕ, suc, Bool, true, false, true≢false, not, List, [], ◌∷◌, ◌++◌, map, Option, Some, None, Result, Ok, Err, refl, sym, ap, ◌∙◌, subst}
use Rattle.std.specs.Prelude.{◌==◌, ◌&&◌}
use Rattle.std.proofs.lemmas.Bool.{cond_both}
use Rattle.dq_base.specs.declared.images.Image.{Image}
use Rattle.dq_base.specs.declared.pages.NumberedPage.{NumberedPage}
use Rattle.dq_base.specs.Changes.{changed}
use Rattle.wire_rows.specs.declared.fault.RowFault.{RowFault}
use Rattle.wire_rows.specs.declared.fault.RowFault.TheVariants as row_faults
use Rattle.wire_rows.specs.Answering.{parts_of}
use Rattle.wire_msgs.specs.declared.request.Request.{Request}
use Rattle.wire_msgs.specs.declared.response.Response.{Response}
use Rattle.log_commands.specs.declared.command.Command.{Command}
use Rattle.database_state.specs.Files.{empty_image}
use Rattle.sql_engine.specs.declared.answer.StatementResult.{StatementResult}
use Rattle.sql_engine.specs.declared.fault.EngineFault.{EngineFault}
use Rattle.sql_engine.specs.declared.fault.EngineFault.TheVariants as engine_faults
use Rattle.sql_engine.specs.Replies.{Statement}
use Rattle.sql_engine.specs.declared.kind.EngineKind.{EngineKind}
use Rattle.sql_engine.specs.Meanings.{Meaning}
use Rattle.session_spec.specs.Causes.{Cause, engine_cause, LeadershipLost, LogFull, DatabaseFull, Locked, OutOfDate}
use Rattle.session_spec.specs.Entries.{Content, Does, Entry, entries_of}
use Rattle.session_spec.specs.Engines.{Answer, no_pages, Ending, Lacking, TooLarge, Stopped, Ended}
use Rattle.session_spec.specs.Limits.{log_full, pages_full, other_holds, first_cause, change_refusal, too_full}
use Rattle.session_spec.specs.Machine.{Machine}
use Rattle.session_spec.specs.Sessions.{Refusal, Single, Kind, Opening, Configuring, Writing, Committing, Querying, Flight, Transaction, Session, Gateway, View, Note, Nothing, Inside, Outside, Turned, Refused, Lacks, Answers, Proposes, Lends, Affects, Effect, HandsOver, JoinsPeer, Weighs, Later, later_query, lent_query, fresh, may_ask}
use Rattle.session_spec.specs.Asking.{Asked, Never, Tells, Sets, Opens, Creates, Prepares, Drops, Forgets, Begins, Commits, RollsBack, Changes, Runs, Reads, fits_one_voter, asked_by}
use Rattle.session_spec.specs.Requests.{unless, rows_cause, or_cause, row_cause, reply_of, change_of, worked, outside, outside_write, inside, run_in, has_nothing, committed, commit_in, does, on_request, with_session, affected_by}
use Rattle.session_spec.specs.Allowed.{IsEarlyCause, IsAllowed}
use Rattle.session_spec.proofs.Asked.{all_allowed}
use Rattle.session_spec.specs.Events.{left, on_applied, on_hangup, tidy, connects, connected}
use Rattle.session_safety.specs.Nodes.{Said, Trail, Node, Standing, databases, view_of}
use Rattle.session_safety.specs.Life.{Event, Connect, Hangup, Call, Resume, Done, Apply, Lose, Lead, Serve, Append, Follow, resumed, read, called, said_landed, said_by, said_applied, happens, run_from, AllFit}
use Rattle.session_safety.specs.Alone.{KeepsServers, SameServers, NoneLost}
use Rattle.session_safety.proofs.Invariant.{FlightIs, IsOf, NodeOk}
use Rattle.session_safety.proofs.Ways.{read_in_both, barrier_both, reads_both}
use Rattle.session_safety.proofs.Plains.{Plain, TurnedPlain, request_plain, fresh_plain, settled_plain, left_plain}
use Rattle.session_safety.proofs.Lives.{happens_ok}

-- ---- causes

-- any but a lost leadership
abbrev NotLost : Cause → Type 0
NotLost LeadershipLost = ⊥
NotLost cause = Unit {0}

-- what is found before an engine runs is another cause
early_mild : (cause : Cause) → IsEarlyCause cause → NotLost cause
early_mild LeadershipLost h = h
early_mild cause h = tt

engine_mild : (fault : EngineFault) → NotLost (engine_cause fault)
engine_mild engine_faults.Constraint = tt
engine_mild engine_faults.Sql = tt
engine_mild (engine_faults.Float row column) = tt
engine_mild (engine_faults.NotText row column) = tt
engine_mild engine_faults.Unopened = tt
engine_mild engine_faults.Cut = tt
engine_mild engine_faults.NoMemory = tt

abbrev NoneOrMild : Option Cause → Type 0
NoneOrMild None = Unit {0}
NoneOrMild (Some cause) = NotLost cause

first_mild : (b : Bool) (cause : Cause) (o : Option Cause) → NotLost cause → NoneOrMild o → NoneOrMild (first_cause b cause o)
first_mild true cause o a b = a
first_mild false cause o a b = b

or_mild : (o later : Option Cause) → NoneOrMild o → NoneOrMild later → NoneOrMild (or_cause o later)
or_mild None later a b = b
or_mild (Some cause) later a b = a

rows_mild : (r : Result (List (List ℕ)) RowFault) → NoneOrMild (rows_cause r)
rows_mild (Ok parts) = tt
rows_mild (Err (row_faults.Nul row column)) = tt
rows_mild (Err (row_faults.TooBig bytes)) = tt
rows_mild (Err row_faults.NoMemory) = tt

row_mild : (rows : Bool) (answer : StatementResult) (o : Option Cause) → NoneOrMild o → NoneOrMild (row_cause rows answer o)
unfolding row_cause
row_mild true answer o a = or_mild (rows_cause (parts_of answer.columns answer.rows)) o (rows_mild (parts_of answer.columns answer.rows)) a
row_mild false answer o a = a

hindrance_mild : (m : Machine) (g : Gateway) (c : ℕ) (name : List ℕ) (mark : ℕ) (pages : List NumberedPage) (to : Image) → NoneOrMild (change_refusal m g c name mark pages to)
unfolding change_refusal
hindrance_mild m g c name mark pages to =
    let full = first_cause (too_full m g name pages to) DatabaseFull None in
    let old = not ((m.base name).newest == mark) in
    first_mild (other_holds g c name) Locked (first_cause old OutOfDate full) tt (first_mild old OutOfDate full tt (first_mild (too_full m g name pages to) DatabaseFull None tt tt))

-- ---- what is asked

abbrev IsMild : Asked → Type 0
IsMild (Never cause) = NotLost cause
IsMild (Tells response) = Unit {0}
IsMild (Sets effect) = Unit {0}
IsMild (Opens name barriers) = Unit {0}
IsMild (Creates name barriers) = Unit {0}
IsMild (Prepares p tail) = Unit {0}
IsMild (Drops id) = Unit {0}
IsMild (Forgets response) = Unit {0}
IsMild (Begins at_once) = Unit {0}
IsMild Commits = Unit {0}
IsMild RollsBack = Unit {0}
IsMild (Changes servers short) = ⊥
IsMild (Runs ss) = Unit {0}
IsMild (Reads s) = Unit {0}

-- a request that one voter takes asks for no other servers
mild_of : (v : View) (g : Gateway) (s : Session) (r : Request) (x : Asked) → fits_one_voter r ≡ true → IsAllowed v g s r x → IsMild x
mild_of v g s r (Never cause) fits h = early_mild cause h
mild_of v g s r (Tells response) fits h = tt
mild_of v g s r (Sets effect) fits h = tt
mild_of v g s r (Opens name barriers) fits h = tt
mild_of v g s r (Creates name barriers) fits h = tt
mild_of v g s r (Prepares p tail) fits h = tt
mild_of v g s r (Drops id) fits h = tt
mild_of v g s r (Forgets response) fits h = tt
mild_of v g s r (Begins at_once) fits h = tt
mild_of v g s r Commits fits h = tt
mild_of v g s r RollsBack fits h = tt
mild_of v g s r (Changes servers short) fits h = absurd (true≢false (sym fits ∙ h.2))
mild_of v g s r (Runs ss) fits h = tt
mild_of v g s r (Reads st) fits h = tt

request_mild : (v : View) (m : Machine) (g : Gateway) (c : ℕ) (s : Session) (r : Request) → fits_one_voter r ≡ true → IsMild (asked_by v m g c s r)
request_mild v m g c s r fits = mild_of v g s r (asked_by v m g c s r) fits (all_allowed v m g c s r)

-- ---- what comes of it

abbrev pub AllContents : List Content → Type 0
AllContents [] = Unit {0}
AllContents (c ∷ cs) = KeepsServers c × AllContents cs

pub does_contents : (cs : List Command) → AllContents (map Does cs)
does_contents [] = tt
does_contents (c ∷ cs) = (tt, does_contents cs)

abbrev TurnedMild : Turned → Type 0
TurnedMild (Refused cause) = NotLost cause
TurnedMild Lacks = Unit {0}
TurnedMild (Answers s reply note) = reply ≢ Refusal LeadershipLost
TurnedMild (Proposes s contents note) = AllContents contents
TurnedMild (Lends s job) = Unit {0}
TurnedMild (Affects effect) = Unit {0}

unless_mild : (o : Option Cause) (t : Turned) → NoneOrMild o → TurnedMild t → TurnedMild (unless o t)
unless_mild None t a b = b
unless_mild (Some cause) t a b = a

single_mild : (r : Response) → Single r ≢ Refusal LeadershipLost
single_mild r e = cc

reply_mild : (rows : Bool) (answer : StatementResult) → reply_of rows answer ≢ Refusal LeadershipLost
reply_mild true answer e = cc
reply_mild false answer e = cc

change_mild : (v : View) (name : List ℕ) (pages : List NumberedPage) → AllContents (change_of v name pages)
change_mild v name pages = does_contents _

module _ (v : View) (m : Machine) (g : Gateway) (c : ℕ) (s : Session) where
  -- pages are proposed, if nothing hinders that
  proposed_mild : (o : Option Cause) (t : Session) (name : List ℕ) (pages : List NumberedPage) (note : Note) → NoneOrMild o → TurnedMild (unless (first_cause (log_full v) LogFull o) (Proposes t (change_of v name pages) note))
  proposed_mild o t name pages note a = unless_mild (first_cause (log_full v) LogFull o) (Proposes t (change_of v name pages) note) (first_mild (log_full v) LogFull o tt a) (change_mild v name pages)

  commit_mild : (o : Option Transaction) → TurnedMild (commit_in v m g c s o)
  unfolding committed
  commit_mild None = tt
  commit_mild (Some x) =
      let pages = changed x.pinned x.working in
      cond_both (has_nothing x) _ _ TurnedMild (λ e. single_mild _)
      (λ e. proposed_mild (change_refusal m g c x.name x.mark pages x.working) _ x.name pages Nothing (hindrance_mild m g c x.name x.mark pages x.working))

  outside_mild : (ss : List Statement) (rows : Bool) (end : Ending) → TurnedMild (outside v m g c s ss rows end)
  unfolding outside outside_write
  outside_mild ss rows Lacking = tt
  outside_mild ss rows (TooLarge answer) =
      let o = row_cause rows answer (change_refusal m g c s.database (m.base s.database).newest answer.after.pages (m.base s.database).image) in
      unless_mild (first_cause (log_full v) LogFull o) (Refused DatabaseFull) (first_mild (log_full v) LogFull o tt (row_mild rows answer (change_refusal m g c s.database (m.base s.database).newest answer.after.pages (m.base s.database).image) (hindrance_mild m g c s.database (m.base s.database).newest answer.after.pages (m.base s.database).image))) tt
  outside_mild ss rows (Stopped fault) = engine_mild fault
  outside_mild ss rows (Ended to answer) =
      let pages = changed (m.base s.database).image to in
      cond_both (no_pages pages) _ _ TurnedMild
      (λ e. unless_mild (row_cause rows answer None) (Answers s (reply_of rows answer) (Outside s.database ss)) (row_mild rows answer None tt) (reply_mild rows answer))
      (λ e. proposed_mild (row_cause rows answer (change_refusal m g c s.database (m.base s.database).newest pages to)) _ s.database pages (Outside s.database ss) (row_mild rows answer (change_refusal m g c s.database (m.base s.database).newest pages to) (hindrance_mild m g c s.database (m.base s.database).newest pages to)))

  inside_mild : (x : Transaction) (ss : List Statement) (rows : Bool) (end : Ending) → TurnedMild (inside m g c s x ss rows end)
  unfolding inside
  inside_mild x ss rows Lacking = tt
  inside_mild x ss rows (TooLarge answer) =
      let o = change_refusal m g c x.name x.mark answer.after.pages x.working in
      unless_mild (row_cause rows answer o) (Refused DatabaseFull) (row_mild rows answer o (hindrance_mild m g c x.name x.mark answer.after.pages x.working)) tt
  inside_mild x ss rows (Stopped fault) = engine_mild fault
  inside_mild x ss rows (Ended to answer) =
      let o = change_refusal m g c x.name x.mark (changed x.working to) to in
      cond_both (no_pages (changed x.working to)) _ _ TurnedMild
      (λ e. unless_mild (row_cause rows answer None) (Answers (worked s x to x.turn) (reply_of rows answer) (Inside x.name ss)) (row_mild rows answer None tt) (reply_mild rows answer))
      (λ e. unless_mild (row_cause rows answer o) (Answers (worked s x to true) (reply_of rows answer) (Inside x.name ss)) (row_mild rows answer o (hindrance_mild m g c x.name x.mark (changed x.working to) to)) (reply_mild rows answer))

  run_mild : (o : Option Transaction) (ss : List Statement) (rows : Bool) (answers : List Answer) → TurnedMild (run_in v m g c s o ss rows answers)
  run_mild None ss rows answers = outside_mild ss rows _
  run_mild (Some x) ss rows answers = inside_mild x ss rows _

  does_mild : (x : Asked) (answers : List Answer) → IsMild x → TurnedMild (does v m g c s x answers)
  unfolding does
  does_mild (Never cause) answers h = h
  does_mild (Tells response) answers h = single_mild response
  does_mild (Sets effect) answers h = tt
  does_mild (Opens name barriers) answers h = single_mild _
  does_mild (Creates name barriers) answers h = cond_both (pages_full m g name empty_image) _ _ TurnedMild (λ e. tt) (λ e. (tt, tt))
  does_mild (Prepares p tail) answers h = single_mild _
  does_mild (Drops id) answers h = single_mild _
  does_mild (Forgets response) answers h = single_mild _
  does_mild (Begins at_once) answers h = cond_both (at_once && other_holds g c s.database) _ _ TurnedMild (λ e. tt) (λ e. single_mild _)
  does_mild Commits answers h = commit_mild s.tx
  does_mild RollsBack answers h = single_mild _
  does_mild (Changes servers short) answers h = absurd h
  does_mild (Runs ss) answers h = run_mild s.tx ss false answers
  does_mild (Reads st) answers h = reads_both TurnedMild v m g c s st answers
      (λ e. barrier_both TurnedMild v m g c s st tt (tt, tt))
      (λ e. read_in_both TurnedMild v m g c s st s.tx answers (λ o q. tt) (run_mild s.tx (st ∷ []) true answers))

turned_mild : (v : View) (m : Machine) (g : Gateway) (c : ℕ) (r : Request) (answers : List Answer) → fits_one_voter r ≡ true → TurnedMild (on_request v m g c r answers)
unfolding on_request
turned_mild v m g c r answers fits = does_mild v m g c (g.session c) (asked_by v m g c (g.session c) r) answers (request_mild v m g c (g.session c) r fits)

-- ---- events

pub record Mild (w : Node) : Type 0 where
  pub servers : SameServers w.log
  pub kept : NoneLost w.said
  pub plain : (c : ℕ) → Plain (w.gate.session c)

servers_append : (xs ys : List Entry) → SameServers xs → SameServers ys → SameServers (xs ++ ys)
servers_append [] ys a b = b
servers_append (x ∷ xs) ys a b = (a.0, servers_append xs ys a.1 b)

servers_of : (t : ℕ) (cs : List Content) → AllContents cs → SameServers (entries_of t cs)
servers_of t [] a = tt
servers_of t (c ∷ cs) a = (a.0, servers_of t cs a.1)

lost_append : (xs ys : List Said) → NoneLost xs → NoneLost ys → NoneLost (xs ++ ys)
lost_append [] ys a b = b
lost_append (x ∷ xs) ys a b = (a.0, lost_append xs ys a.1 b)

refusal_mild : (cause : Cause) → NotLost cause → Refusal cause ≢ Refusal LeadershipLost
refusal_mild cause h e = subst NotLost (same_cause e) h
  where
    same_cause : {x y : Cause} → Refusal x ≡ Refusal y → x ≡ y
    same_cause q = cc

plain_with : (w : Node) (c : ℕ) (s : Session) → Plain s → ((d : ℕ) → Plain (w.gate.session d)) → (d : ℕ) → Plain ((with_session w.gate c s).session d)
unfolding with_session
plain_with w c s p a d = cond_both (d == c) s (w.gate.session d) Plain (λ e. p) (λ e. a d)

affects_plain : (w : Node) (effect : Effect) → ((d : ℕ) → Plain (w.gate.session d)) → (d : ℕ) → Plain ((affected_by w.gate effect).session d)
affects_plain w (HandsOver id) a d = a d
affects_plain w (JoinsPeer id) a d = a d
affects_plain w (Weighs weight) a d = a d

called_mild : (w : Node) (c : ℕ) (t : Turned) → TurnedMild t → TurnedPlain t → Mild w → Mild (called w c t)
called_mild w c (Refused cause) h p a = record { servers = a.servers; kept = lost_append w.said _ a.kept (refusal_mild cause h, tt); plain = a.plain }
called_mild w c Lacks h p a = a
called_mild w c (Answers s r note) h p a = record { servers = a.servers; kept = lost_append w.said _ a.kept (h, tt); plain = plain_with w c s p a.plain }
called_mild w c (Proposes s contents note) h p a = record { servers = servers_append w.log _ a.servers (servers_of w.term contents h); kept = a.kept; plain = plain_with w c s p a.plain }
called_mild w c (Lends s job) h p a = absurd p
called_mild w c (Affects effect) h p a = record { servers = a.servers; kept = lost_append w.said _ a.kept (single_mild _, tt); plain = affects_plain w effect a.plain }

landed_kept : (c : ℕ) (t : Trail) (f : Flight) (k : Kind) (content : Content) → IsOf k f.name content → NoneLost (said_landed c t f k)
landed_kept c t f Opening content h = (single_mild _, tt)
landed_kept c t f (Configuring false) content h = (single_mild _, tt)
landed_kept c t f (Configuring true) content h = (single_mild _, tt)
landed_kept c t f (Writing reply) content h = (h.not_lost, tt)
landed_kept c t f Committing content h = (single_mild _, tt)
landed_kept c t f (Querying statement) content h = tt

-- what one voter does by itself
abbrev pub IsLone : Event → Type 0
IsLone (Lose term) = ⊥
IsLone (Follow entries) = ⊥
IsLone (Append contents) = AllContents contents
IsLone (Call conn standing request answers) = (fits_one_voter request ≡ true) × (standing.readers ≡ false)
IsLone e = Unit {0}

abbrev pub AllLone : List Event → Type 0
AllLone [] = Unit {0}
AllLone (e ∷ es) = IsLone e × AllLone es

module _ (mean : Meaning) (kind : EngineKind) where
  by_kept : (log : List Entry) (before index term c : ℕ) (t : Trail) (hung : Bool) (o : Option Flight) → FlightIs mean log before term t o → NoneLost (said_by index c t hung o)
  by_kept log before index term c t hung None a = tt
  by_kept log before index term c t hung (Some f) a =
      cond_both (f.last == index) _ _ NoneLost (λ e. cond_both hung _ _ NoneLost (λ z. tt) (λ z. landed_kept c t f f.kind a.entry.content a.entry.of)) (λ e. tt)

  applied_kept : (w : Node) (index : ℕ) (cs : List ℕ) → NodeOk mean w → NoneLost (said_applied index w.trail w.gate.session cs)
  applied_kept w index [] a = tt
  applied_kept w index (c ∷ cs) a = lost_append _ _ (by_kept w.log w.applied index w.term c (w.trail c) (w.gate.session c).hung (w.gate.session c).flight (a.sessions c).flight) (applied_kept w index cs a)

  later_none : (w : Node) (c : ℕ) (standing : Standing) (answers : List Answer) → Mild w → (happens w (Resume c standing answers) ≡ w) × (happens w (Done c answers) ≡ w)
  unfolding happens
  later_none w c standing answers m =
      let none = (m.plain c).later in
      (ap (λ (d : Option Later). resumed w c standing answers (later_query d)) none, ap (λ (d : Option Later). read w c answers (lent_query d)) none)

  mild_event : (w : Node) (e : Event) → IsLone e → NodeOk mean w → Mild w → Mild (happens w e)
  unfolding happens connected on_applied on_hangup tidy
  mild_event w (Connect c) h a m = cond_both (connects w.gate c) _ w Mild (λ e. record { servers = m.servers; kept = m.kept; plain = λ d. cond_both (d == c) fresh (w.gate.session d) Plain (λ z. fresh_plain) (λ z. m.plain d) }) (λ e. m)
  mild_event w (Hangup c) h a m = record { servers = m.servers; kept = m.kept; plain = λ d. cond_both (d == c) (left (w.gate.session c) (w.gate.session c).flight) (w.gate.session d) Plain (λ z. left_plain (w.gate.session c) (w.gate.session c).flight (m.plain c)) (λ z. m.plain d) }
  mild_event w (Call c standing r answers) h a m = cond_both (may_ask (w.gate.session c)) _ w Mild (λ e. called_mild w c _ (turned_mild (view_of w standing) (databases w) w.gate c r answers h.0) (request_plain (view_of w standing) (databases w) w.gate c r answers (m.plain c) h.0 h.1) m) (λ e. m)
  mild_event w (Resume c standing answers) h a m = subst Mild (sym (later_none w c standing answers m).0) m
  mild_event w (Done c answers) h a m = subst Mild (sym (later_none w c (record { id = 0; leader = None; servers = []; links = false; readers = false; even = []; near = [] }) answers m).1) m
  mild_event w Apply h a m = record { servers = m.servers; kept = lost_append w.said _ m.kept (applied_kept w _ w.gate.conns a); plain = λ d. settled_plain (suc w.applied) (w.gate.session d) (w.gate.session d).flight refl (m.plain d) }
  mild_event w (Lose t) h a m = absurd h
  mild_event w (Lead t) h a m = record { servers = m.servers; kept = m.kept; plain = m.plain }
  mild_event w Serve h a m = record { servers = m.servers; kept = m.kept; plain = m.plain }
  mild_event w (Append contents) h a m = record { servers = servers_append w.log _ m.servers (servers_of w.term contents h); kept = m.kept; plain = m.plain }
  mild_event w (Follow es) h a m = absurd h

  pub mild_run : (w : Node) (es : List Event) → AllLone es → AllFit mean kind w es → NodeOk mean w → Mild w → Mild (run_from w es)
  mild_run w [] l h a m = m
  mild_run w (e ∷ es) l h a m = mild_run (happens w e) es l.1 h.1 (happens_ok mean kind w e h.0 a) (mild_event w e l.0 a m)
