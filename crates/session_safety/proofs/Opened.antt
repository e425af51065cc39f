-- A session with a query that waits for its answer has opened a database.
use Rattle.std.proofs.Common.{◌≡◌, ℕ, Bool, true, false, true≢false, cond, List, [], ◌∷◌, refl, sym, ap, ◌∙◌}
use Rattle.std.specs.Prelude.{◌==◌, ◌&&◌, not, is_some, is_none, Option, Some, None, IsSome}
use Rattle.std.proofs.lemmas.Bool.{cond_both, and_parts}
use Rattle.dq_base.specs.Changes.{changed}
use Rattle.database_state.specs.Files.{empty_image}
use Rattle.sql_engine.specs.Replies.{Statement}
use Rattle.wire_msgs.specs.declared.request.Request.{Request}
use Rattle.session_spec.specs.Allowed.{IsAllowed}
use Rattle.session_spec.specs.Asking.{Asked, Never, Tells, Sets, Opens, Creates, Prepares, Drops, Forgets, Begins, Commits, RollsBack, Changes, Runs, Reads, has_database, asked}
use Rattle.session_spec.specs.Causes.{Cause}
use Rattle.session_spec.specs.Engines.{Answer, no_pages, Ending, Lacking, TooLarge, Stopped, Ended}
use Rattle.session_spec.specs.Events.{settled_by, landed, still_lent, loses, lost, tidy, on_applied, on_lost, left, on_hangup, connects, connected}
use Rattle.session_spec.specs.Limits.{other_holds, pages_full, log_full}
use Rattle.session_spec.specs.Machine.{Machine}
use Rattle.session_spec.specs.Requests.{unless, outside_write, outside, inside, run_in, has_nothing, committed, commit_in, does, on_request, on_later, with_tx, with_flight, with_later, with_lost, with_session}
use Rattle.session_spec.specs.Sessions.{Reply, absent, fresh, Kind, Opening, Configuring, Writing, Committing, Querying, Flight, Later, Due, Lent, later_query, lent_query, may_ask, Transaction, Session, Gateway, View, HandsOver, JoinsPeer, Weighs, Turned, Refused, Lacks, Answers, Proposes, Lends, Affects}
use Rattle.session_spec.proofs.Asked.{all_allowed}
use Rattle.session_safety.specs.Nodes.{Node, Standing, databases, view_of, started}
use Rattle.session_safety.specs.Life.{Event, Connect, Hangup, Call, Resume, Done, Apply, Lose, Lead, Serve, Append, Follow, called, undue, outcome_later, resumed, told_at, read_by, read, happens, run_from}
use Rattle.session_safety.specs.Laws.{is_barrier, awaits_barrier, HasOpened, QueriesHaveDatabases}
use Rattle.session_safety.proofs.Laters.{resumed_both, undue_here}
use Rattle.session_safety.proofs.Lives.{none_is}
use Rattle.session_safety.proofs.Ways.{read_in_both, barrier_both, reads_both, later_both}

-- a session with a query that waits for its answer has opened a database, and has nothing pending beside it
pub record IsOpened (s : Session) : Type 0 where
  pub opened : HasOpened s
  pub sole : (f : Flight) → s.flight ≡ Some f → s.later ≡ None

some_none : {A : Type 0} {x : A} {o : Option A} → o ≡ Some x → o ≡ None → ⊥
some_none e n = cc

-- no query waits for its answer
pub asks_none : (s : Session) → awaits_barrier s.flight ≡ false → s.later ≡ None → IsOpened s
asks_none s e n = record {
  opened = record { awaits = λ b. absurd (true≢false (sym b ∙ e)); later = λ x. absurd (true≢false (sym x ∙ ap is_some n)) };
  sole = λ f q. n;
}

pub at_rest : (s : Session) → s.flight ≡ None → s.later ≡ None → IsOpened s
at_rest s e n = asks_none s (ap awaits_barrier e) n

-- a query waits after its barrier
pub waits : (s : Session) → has_database s ≡ true → s.later ≡ None → IsOpened s
waits s h n = record { opened = record { awaits = λ b. h; later = λ x. h }; sole = λ f q. n }

-- a query is due, or a reader has it
pub follows : (s : Session) → has_database s ≡ true → s.flight ≡ None → IsOpened s
follows s h n = record { opened = record { awaits = λ b. h; later = λ x. h }; sole = λ f q. absurd (some_none q n) }

-- ---- what comes of a request

abbrev pub LeavesOpened : Turned → Type 0
LeavesOpened (Refused cause) = Unit {0}
LeavesOpened Lacks = Unit {0}
LeavesOpened (Answers s reply note) = IsOpened s
LeavesOpened (Proposes s contents note) = IsOpened s
LeavesOpened (Lends s job) = IsOpened s
LeavesOpened (Affects effect) = Unit {0}

unless_opened : (o : Option Cause) (t : Turned) → LeavesOpened t → LeavesOpened (unless o t)
unless_opened None t h = h
unless_opened (Some cause) t h = tt

module _ (v : View) (m : Machine) (g : Gateway) (c : ℕ) (s : Session) (free : s.flight ≡ None) (rest : s.later ≡ None) where
  outside_opened : (ss : List Statement) (rows : Bool) (end : Ending) → LeavesOpened (outside v m g c s ss rows end)
  unfolding outside outside_write
  outside_opened ss rows Lacking = tt
  outside_opened ss rows (TooLarge answer) = unless_opened _ (Refused _) tt
  outside_opened ss rows (Stopped fault) = tt
  outside_opened ss rows (Ended to answer) =
      cond_both (no_pages (changed (m.base s.database).image to)) _ _ LeavesOpened
      (λ e. unless_opened _ (Answers s _ _) (at_rest s free rest))
      (λ e. unless_opened _ (Proposes _ _ _) (asks_none _ refl rest))

  inside_opened : (x : Transaction) (ss : List Statement) (rows : Bool) (end : Ending) → LeavesOpened (inside m g c s x ss rows end)
  unfolding inside
  inside_opened x ss rows Lacking = tt
  inside_opened x ss rows (TooLarge answer) = unless_opened _ (Refused _) tt
  inside_opened x ss rows (Stopped fault) = tt
  inside_opened x ss rows (Ended to answer) =
      cond_both (no_pages (changed x.working to)) _ _ LeavesOpened
      (λ e. unless_opened _ (Answers _ _ _) (at_rest _ free rest))
      (λ e. unless_opened _ (Answers _ _ _) (at_rest _ free rest))

  pub run_opened : (o : Option Transaction) (ss : List Statement) (rows : Bool) (answers : List Answer) → LeavesOpened (run_in v m g c s o ss rows answers)
  run_opened None ss rows answers = outside_opened ss rows _
  run_opened (Some x) ss rows answers = inside_opened x ss rows _

  commit_opened : (o : Option Transaction) → LeavesOpened (commit_in v m g c s o)
  unfolding committed
  commit_opened None = tt
  commit_opened (Some x) =
      cond_both (has_nothing x) _ _ LeavesOpened
      (λ e. at_rest _ free rest)
      (λ e. unless_opened _ (Proposes _ _ _) (asks_none _ refl rest))

  pub does_opened : (r : Request) (x : Asked) (answers : List Answer) → IsAllowed v g s r x → LeavesOpened (does v m g c s x answers)
  unfolding does
  does_opened r (Never cause) answers h = tt
  does_opened r (Tells response) answers h = at_rest s free rest
  does_opened r (Sets effect) answers h = tt
  does_opened r (Opens name barriers) answers h = at_rest _ refl rest
  does_opened r (Creates name barriers) answers h = cond_both (pages_full m g name empty_image) _ _ LeavesOpened (λ e. tt) (λ e. asks_none _ refl rest)
  does_opened r (Prepares p tail) answers h = at_rest _ free rest
  does_opened r (Drops id) answers h = at_rest _ free rest
  does_opened r (Forgets response) answers h = at_rest _ free rest
  does_opened r (Begins at_once) answers h = cond_both (at_once && other_holds g c s.database) _ _ LeavesOpened (λ e. tt) (λ e. at_rest _ free rest)
  does_opened r Commits answers h = commit_opened s.tx
  does_opened r RollsBack answers h = at_rest _ free rest
  does_opened r (Changes servers short) answers h = cond_both (log_full v) _ _ LeavesOpened (λ e. tt) (λ e. asks_none _ refl rest)
  does_opened r (Runs ss) answers h = run_opened s.tx ss false answers
  does_opened r (Reads statement) answers h = reads_both LeavesOpened v m g c s statement answers
      (λ e. barrier_both LeavesOpened v m g c s statement tt (waits _ h.opened rest))
      (λ e. read_in_both LeavesOpened v m g c s statement s.tx answers (λ t u. follows _ h.opened free) (run_opened s.tx (statement ∷ []) true answers))

pub request_opened : (v : View) (m : Machine) (g : Gateway) (c : ℕ) (r : Request) (answers : List Answer) → (g.session c).flight ≡ None → (g.session c).later ≡ None → LeavesOpened (on_request v m g c r answers)
unfolding on_request
request_opened v m g c r answers free rest = does_opened v m g c (g.session c) free rest r (asked v m g c r) answers (all_allowed v m g c (g.session c) r)

pub later_opened : (v : View) (m : Machine) (g : Gateway) (c : ℕ) (s : Statement) (answers : List Answer) → (g.session c).flight ≡ None → (g.session c).later ≡ None → LeavesOpened (on_later v m g c s answers)
later_opened v m g c s answers free rest =
    later_both LeavesOpened v m g c s answers tt (λ e. run_opened v m g c (g.session c) free rest (g.session c).tx (s ∷ []) true answers)

-- ---- all sessions

-- this holds for each session
abbrev pub AllOpened : Gateway → Type 0
AllOpened g = (conn : ℕ) → IsOpened (g.session conn)

with_opened : (g : Gateway) (c : ℕ) (s : Session) → AllOpened g → IsOpened s → AllOpened (with_session g c s)
unfolding with_session
with_opened g c s a h = λ d. cond_both (d == c) s (g.session d) IsOpened (λ e. h) (λ e. a d)

called_opened : (w : Node) (c : ℕ) (t : Turned) → AllOpened w.gate → LeavesOpened t → AllOpened (called w c t).gate
called_opened w c (Refused cause) a h = a
called_opened w c Lacks a h = a
called_opened w c (Answers s reply note) a h = with_opened w.gate c s a h
called_opened w c (Proposes s contents note) a h = with_opened w.gate c s a h
called_opened w c (Lends s job) a h = with_opened w.gate c s a h
called_opened w c (Affects (HandsOver id)) a h = a
called_opened w c (Affects (JoinsPeer id)) a h = a
called_opened w c (Affects (Weighs weight)) a h = a

-- the sessions after their proposals' entries were applied
landed_opened : (s : Session) (f : Flight) (k : Kind) → f.kind ≡ k → s.flight ≡ Some f → IsOpened s → IsOpened (landed s f k)
landed_opened s f Opening e q h = at_rest _ refl (h.sole f q)
landed_opened s f (Configuring short) e q h = at_rest _ refl (h.sole f q)
landed_opened s f (Writing reply) e q h = at_rest _ refl (h.sole f q)
landed_opened s f Committing e q h = at_rest _ refl (h.sole f q)
landed_opened s f (Querying statement) e q h = follows _ (h.opened.awaits (ap awaits_barrier q ∙ ap is_barrier e)) refl

settled_opened : (i : ℕ) (s : Session) (o : Option Flight) → s.flight ≡ o → IsOpened s → IsOpened (settled_by i s o)
settled_opened i s None q h = h
settled_opened i s (Some f) q h =
    cond_both (f.last == i) (cond s.hung absent (landed s f f.kind)) s IsOpened
    (λ e. cond_both s.hung absent (landed s f f.kind) IsOpened (λ z. at_rest absent refl refl) (λ z. landed_opened s f f.kind refl q h))
    (λ e. h)

still_some : (d : Option Later) → IsSome (still_lent d) → IsSome d
still_some None x = x
still_some (Some (Due statement)) x = refl
still_some (Some (Lent statement)) x = refl

lost_opened : (s : Session) → IsOpened s → IsOpened (lost s)
lost_opened s h =
    cond_both s.hung absent (with_lost (with_later (with_flight (with_tx s None) None) (still_lent s.later)) (loses s)) IsOpened
    (λ e. at_rest absent refl refl)
    (λ e. record { opened = record { awaits = λ b. absurd (true≢false (sym b)); later = λ x. h.opened.later (still_some s.later x) }; sole = λ f q. absurd (some_none q refl) })

left_opened : (s : Session) (o : Option Flight) → IsOpened s → IsOpened (left s o)
left_opened s None h = at_rest absent refl refl
left_opened s (Some f) h = record { opened = record { awaits = h.opened.awaits; later = h.opened.later }; sole = h.sole }

-- ---- events

undue_opened : (w : Node) (c : ℕ) (s : Statement) → later_query (w.gate.session c).later ≡ Some s → AllOpened w.gate → (w.gate.session c).flight ≡ None
undue_opened w c s is a = none_flies (w.gate.session c).flight refl
  where
    none_flies : (o : Option Flight) → (w.gate.session c).flight ≡ o → (w.gate.session c).flight ≡ None
    none_flies None e = e
    none_flies (Some f) e = absurd (some_none is (ap later_query ((a c).sole f e)))

resume_opened : (w : Node) (c : ℕ) (standing : Standing) (answers : List Answer) (o : Option Statement) → later_query (w.gate.session c).later ≡ o → AllOpened w.gate → AllOpened (resumed w c standing answers o).gate
resume_opened w c standing answers None is a = a
resume_opened w c standing answers (Some s) is a =
    let none = undue_opened w c s is a in
    let same = undue_here w c in
    let alone : AllOpened (undue w c).gate = with_opened w.gate c (with_later (w.gate.session c) None) a (at_rest _ none refl) in
    resumed_both (λ x. AllOpened x.gate) w c (outcome_later w c standing s answers) a
    (called_opened (undue w c) c (outcome_later w c standing s answers) alone
    (later_opened (view_of w standing) (databases w) (undue w c).gate c s answers (ap (λ (x : Session). x.flight) same ∙ none) (ap (λ (x : Session). x.later) same)))

told_opened : (w : Node) (c : ℕ) (s : Statement) (o : Option Reply) → (w.gate.session c).flight ≡ None → AllOpened w.gate → AllOpened (read_by w c s o).gate
told_opened w c s None none a = a
told_opened w c s (Some reply) none a = with_opened w.gate c (with_later (w.gate.session c) None) a (at_rest _ none refl)

lent_is_later : (d : Option Later) (s : Statement) → lent_query d ≡ Some s → later_query d ≡ Some s
lent_is_later None s e = e
lent_is_later (Some (Due statement)) s e = absurd (some_none e refl)
lent_is_later (Some (Lent statement)) s e = e

done_opened : (w : Node) (c : ℕ) (answers : List Answer) (o : Option Statement) → lent_query (w.gate.session c).later ≡ o → AllOpened w.gate → AllOpened (read w c answers o).gate
done_opened w c answers None is a = a
done_opened w c answers (Some s) is a = told_opened w c s (told_at w c s answers) (undue_opened w c s (lent_is_later (w.gate.session c).later s is) a) a

call_opened : (w : Node) (c : ℕ) (standing : Standing) (r : Request) (answers : List Answer) → AllOpened w.gate → AllOpened (happens w (Call c standing r answers)).gate
unfolding happens may_ask
call_opened w c standing r answers a =
    cond_both ((w.gate.session c).there && not (w.gate.session c).hung && is_none (w.gate.session c).flight && is_none (w.gate.session c).later) _ w (λ x. AllOpened x.gate)
    (λ e.
    let q = and_parts _ _ e in
    let p = and_parts _ _ q.0 in
    called_opened w c _ a (request_opened (view_of w standing) (databases w) w.gate c r answers (none_is (w.gate.session c).flight p.1) (none_is (w.gate.session c).later q.1)))
    (λ e. a)

pub happens_opened : (w : Node) (e : Event) → AllOpened w.gate → AllOpened (happens w e).gate
unfolding happens on_hangup on_applied on_lost tidy connected
happens_opened w (Connect c) a =
    cond_both (connects w.gate c) _ w (λ x. AllOpened x.gate)
    (λ e d. cond_both (d == c) fresh (w.gate.session d) IsOpened (λ y. at_rest fresh refl refl) (λ y. a d))
    (λ e. a)
happens_opened w (Hangup c) a = λ d. cond_both (d == c) (left (w.gate.session c) (w.gate.session c).flight) (w.gate.session d) IsOpened (λ y. left_opened (w.gate.session c) (w.gate.session c).flight (a c)) (λ y. a d)
happens_opened w (Call c standing r answers) a = call_opened w c standing r answers a
happens_opened w (Resume c standing answers) a = resume_opened w c standing answers (later_query (w.gate.session c).later) refl a
happens_opened w (Done c answers) a = done_opened w c answers (lent_query (w.gate.session c).later) refl a
happens_opened w Apply a = λ d. settled_opened _ (w.gate.session d) (w.gate.session d).flight refl (a d)
happens_opened w (Lose t) a = λ d. lost_opened (w.gate.session d) (a d)
happens_opened w (Lead t) a = a
happens_opened w Serve a = a
happens_opened w (Append contents) a = a
happens_opened w (Follow entries) a = a

pub run_from_opened : (w : Node) (es : List Event) → AllOpened w.gate → AllOpened (run_from w es).gate
run_from_opened w [] a = a
run_from_opened w (e ∷ es) a = run_from_opened (happens w e) es (happens_opened w e a)

pub queries_have_databases_hold : QueriesHaveDatabases
queries_have_databases_hold log applied term es c = (run_from_opened (started log applied term) es (λ d. at_rest absent refl refl) c).opened
