-- Whatever comes of a request, an open transaction has the numbers of all pages in which its two images differ.
use Rattle.std.proofs.Common.{◌≡◌, ℕ, Bool, true, false, cond, List, [], ◌∷◌, Option, Some, None, Result, Ok, Err, IfOk, OnErr, refl, sym, subst}
use Rattle.std.proofs.lemmas.Bool.{cond_both, eqb-true}
use Rattle.std.specs.Prelude.{◌==◌, ◌&&◌}
use Rattle.std.specs.declared.alloc.AllocError.{AllocError}
use Rattle.dq_base.specs.Changes.{changed}
use Rattle.wire_msgs.specs.declared.request.Request.{Request}
use Rattle.sql_engine.specs.declared.kind.EngineKind.{EngineKind}
use Rattle.sql_engine.specs.Meanings.{Meaning, Told}
use Rattle.sql_engine.specs.Replies.{Statement}
use Rattle.database_state.specs.Files.{empty_image}
use Rattle.session_spec.specs.Asking.{Asked, Never, Tells, Sets, Opens, Creates, Prepares, Drops, Forgets, Begins, Commits, RollsBack, Changes, Runs, Reads, asked}
use Rattle.session_spec.specs.Causes.{Cause, DatabaseFull}
use Rattle.session_spec.specs.Engines.{Answer, no_pages, Ending, Lacking, TooLarge, Stopped, Ended, runs, no_answer}
use Rattle.session_spec.specs.Limits.{other_holds, pages_full, log_full}
use Rattle.session_spec.specs.Machine.{Machine}
use Rattle.session_spec.specs.Requests.{unless, outside, outside_write, inside, run_in, has_nothing, committed, commit_in, waits_first, was_cut, read_in, does, on_request, on_later, with_session, with_later, without_later, affected_by}
use Rattle.session_spec.specs.Sessions.{Transaction, Session, Gateway, View, Effect, HandsOver, JoinsPeer, Weighs, Turned, Refused, Lacks, Answers, Proposes, Lends, Affects}
use Rattle.session_spec.specs.Touched.{IsListed}
use Rattle.session_spec.proofs.Touched.{begun_listed, worked_listed}
use Rattle.session_gateway.specs.declared.act.Act.{Act}
use Rattle.session_gateway.specs.Calls.{Is, TurnsByAnswers}
use Rattle.session_gateway.specs.Later.{Resumed}
use Rattle.session_gateway.specs.Seen.{ListsAsBefore}
use Rattle.session_statements.specs.Calls.{call_of}
use Rattle.session_outcomes.specs.Scenes.{scene}

-- the session after it has a transaction that is listed
abbrev StaysListed : Turned → Type 0
StaysListed (Refused cause) = Unit {0}
StaysListed Lacks = Unit {0}
StaysListed (Answers s reply note) = IsListed s.tx
StaysListed (Proposes s contents note) = IsListed s.tx
StaysListed (Lends s job) = IsListed s.tx
StaysListed (Affects effect) = Unit {0}

unless_listed : (cause : Option Cause) (turned : Turned) → StaysListed turned → StaysListed (unless cause turned)
unless_listed None turned h = h
unless_listed (Some cause) turned h = tt

module _ (v : View) (m : Machine) (g : Gateway) (conn : ℕ) (s : Session) where
  outside_listed : (ss : List Statement) (rows : Bool) (end : Ending) → IsListed s.tx → StaysListed (outside v m g conn s ss rows end)
  unfolding outside outside_write
  outside_listed ss rows Lacking h = tt
  outside_listed ss rows (TooLarge answer) h = unless_listed _ (Refused DatabaseFull) tt
  outside_listed ss rows (Stopped fault) h = tt
  outside_listed ss rows (Ended to answer) h =
      cond_both (no_pages (changed (m.base s.database).image to)) _ _ StaysListed
      (λ e. unless_listed _ (Answers s _ _) h)
      (λ e. unless_listed _ (Proposes _ _ _) h)

  inside_listed : (x : Transaction) (ss : List Statement) (rows : Bool) (end : Ending) → IsListed (Some x) → StaysListed (inside m g conn s x ss rows end)
  unfolding inside
  inside_listed x ss rows Lacking h = tt
  inside_listed x ss rows (TooLarge answer) h = unless_listed _ (Refused DatabaseFull) tt
  inside_listed x ss rows (Stopped fault) h = tt
  inside_listed x ss rows (Ended to answer) h =
      cond_both (no_pages (changed x.working to)) _ _ StaysListed
      (λ e. unless_listed _ (Answers _ _ _) (worked_listed s x to x.turn h))
      (λ e. unless_listed _ (Answers _ _ _) (worked_listed s x to true h))

  run_listed : (tx : Option Transaction) (ss : List Statement) (rows : Bool) (answers : List Answer) → s.tx ≡ tx → IsListed s.tx → StaysListed (run_in v m g conn s tx ss rows answers)
  run_listed None ss rows answers is h = outside_listed ss rows (runs (m.base s.database).image no_answer ss answers) h
  run_listed (Some x) ss rows answers is h = inside_listed x ss rows (runs x.working no_answer ss answers) (subst IsListed is h)

  read_listed : (tx : Option Transaction) (statement : Statement) (answers : List Answer) → s.tx ≡ tx → IsListed s.tx → StaysListed (read_in v m g conn s tx statement answers)
  read_listed None statement answers is h =
      cond_both (v.readers && was_cut (runs (m.base s.database).image no_answer (statement ∷ []) answers)) _ _ StaysListed (λ e. h) (λ e. outside_listed (statement ∷ []) true (runs (m.base s.database).image no_answer (statement ∷ []) answers) h)
  read_listed (Some x) statement answers is h = run_listed (Some x) (statement ∷ []) true answers is h

  commit_listed : (tx : Option Transaction) → IsListed s.tx → StaysListed (commit_in v m g conn s tx)
  unfolding committed
  commit_listed None h = tt
  commit_listed (Some x) h = cond_both (has_nothing x) _ _ StaysListed (λ e. tt) (λ e. unless_listed _ (Proposes _ _ _) h)

  does_listed : (asked : Asked) (answers : List Answer) → IsListed s.tx → StaysListed (does v m g conn s asked answers)
  unfolding does
  does_listed (Never cause) answers h = tt
  does_listed (Tells response) answers h = h
  does_listed (Sets effect) answers h = tt
  does_listed (Opens name barriers) answers h = h
  does_listed (Creates name barriers) answers h = cond_both (pages_full m g name empty_image) _ _ StaysListed (λ e. tt) (λ e. h)
  does_listed (Prepares p tail) answers h = h
  does_listed (Drops id) answers h = h
  does_listed (Forgets response) answers h = h
  does_listed (Begins at_once) answers h = cond_both (at_once && other_holds g conn s.database) _ _ StaysListed (λ e. tt) (λ e. begun_listed m s at_once)
  does_listed Commits answers h = commit_listed s.tx h
  does_listed RollsBack answers h = tt
  does_listed (Changes servers short) answers h = cond_both (log_full v) _ _ StaysListed (λ e. tt) (λ e. h)
  does_listed (Runs ss) answers h = run_listed s.tx ss false answers refl h
  does_listed (Reads statement) answers h = cond_both (waits_first s) _ _ StaysListed (λ e. cond_both (log_full v) _ _ StaysListed (λ f. tt) (λ f. h)) (λ e. read_listed s.tx statement answers refl h)

module _ (v : View) (m : Machine) (g : Gateway) (conn : ℕ) where
  request_listed : (request : Request) (answers : List Answer) → IsListed (g.session conn).tx → StaysListed (on_request v m g conn request answers)
  unfolding on_request
  request_listed request answers h = does_listed v m g conn (g.session conn) (asked v m g conn request) answers h

  later_listed : (statement : Statement) (answers : List Answer) → IsListed (g.session conn).tx → StaysListed (on_later v m g conn statement answers)
  unfolding on_later
  later_listed statement answers h = cond_both v.serving _ _ StaysListed (λ e. run_listed v m g conn (g.session conn) (g.session conn).tx (statement ∷ []) true answers refl h) (λ e. tt)

-- ---- all sessions

put_listed : (g : Gateway) (conn : ℕ) (s : Session) → (IsListed (g.session conn).tx → IsListed s.tx) → ListsAsBefore g (with_session g conn s)
unfolding with_session
put_listed g conn s stays other h = by (other == conn) refl
  where
    by : (b : Bool) → (other == conn) ≡ b → IsListed (cond b s (g.session other)).tx
    by true e = stays (subst (λ (c : ℕ). IsListed (g.session c).tx) (eqb-true other conn e) h)
    by false e = h

affected_listed : (g : Gateway) (effect : Effect) → ListsAsBefore g (affected_by g effect)
affected_listed g (HandsOver id) other h = h
affected_listed g (JoinsPeer id) other h = h
affected_listed g (Weighs weight) other h = h

-- what is as it was lists as before
pub same_listed : (g now : Gateway) → now ≡ g → ListsAsBefore g now
same_listed g now is other h = subst (λ (k : Gateway). IsListed (k.session other).tx) (sym is) h

carried_listed : (v : View) (g now : Gateway) (conn : ℕ) (act : Act) (turned : Turned) → (IsListed (g.session conn).tx → StaysListed turned) → Is v g conn turned now act → ListsAsBefore g now
carried_listed v g now conn act (Refused cause) stays is = same_listed g now is.0
carried_listed v g now conn act Lacks stays is = absurd is
carried_listed v g now conn act (Answers s reply note) stays is = subst (ListsAsBefore g) (sym is.0) (put_listed g conn s stays)
carried_listed v g now conn act (Proposes s contents note) stays is = subst (ListsAsBefore g) (sym is.0) (put_listed g conn s stays)
carried_listed v g now conn act (Lends s job) stays is = subst (ListsAsBefore g) (sym is.0) (put_listed g conn s stays)
carried_listed v g now conn act (Affects effect) stays is = subst (ListsAsBefore g) (sym is.0) (affected_listed g effect)

module _ (m : Meaning) (kind : EngineKind) (v : View) (machine : Machine) (g : Gateway) (conn : ℕ) (before after : Option Told) (now : Gateway) where
  -- after a request
  pub turned_listed : (request : Request) (r : Result Act AllocError) → IfOk r (TurnsByAnswers (call_of m kind before after) (scene v machine g conn) request now) → OnErr r (now ≡ g) → ListsAsBefore g now
  turned_listed request (Ok act) turned failed = carried_listed v g now conn act (on_request v machine g conn request turned.answers) (request_listed v machine g conn request turned.answers) turned.is
  turned_listed request (Err e) turned failed = same_listed g now failed

  resumed : (query : Option Statement) (act : Option Act) → Resumed (call_of m kind before after) (scene v machine g conn) query now act → ListsAsBefore g now
  resumed None None is = same_listed g now is.0
  resumed None (Some act) is = absurd is
  resumed (Some statement) None is = absurd is
  resumed (Some statement) (Some act) by = λ other h.
      carried_listed v (without_later g conn) now conn act (on_later v machine (without_later g conn) conn statement by.answers) (later_listed v machine (without_later g conn) conn statement by.answers) by.is other
      (put_listed g conn (with_later (g.session conn) None) (λ its. its) other h)

  -- after a query that was yet to be answered
  pub resumed_listed : (query : Option Statement) (r : Result (Option Act) AllocError) → IfOk r (Resumed (call_of m kind before after) (scene v machine g conn) query now) → OnErr r (now ≡ g) → ListsAsBefore g now
  resumed_listed query (Ok act) is failed = resumed query act is
  resumed_listed query (Err e) is failed = same_listed g now failed
