-- Queries that are run later than they were asked.
use Rattle.std.proofs.Common.{◌≡◌, ℕ, zero, suc, ◌<◌, take, arith, Bool, true, false, true≢false, cond, List, [], ◌∷◌, ◌++◌, length, map, find, Option, Some, None, IsSome, option_map, Ok, Err, refl, sym, ap, subst, ◌∙◌}
use Rattle.std.specs.Prelude.{◌==◌, not, is_none, get_or, set}
use Rattle.std.specs.List.{AllByRecursion}
use Rattle.std.proofs.lemmas.List.{length-set, get_or-set_same}
use Rattle.std.proofs.lemmas.Bool.{cond-true, cond-false, eqb-true, eq-eqb, false≢true}
use Rattle.std.specs.declared.alloc.AllocError.{AllocError}
use Rattle.database_state.specs.declared.database.Database.{Database}
use Rattle.database_state.specs.ImageNumbers.{numbered}
use Rattle.sql_engine.specs.Known.{Known}
use Rattle.session_statements.specs.Agreeing.{Agree}
use Rattle.sql_engine.specs.declared.kind.EngineKind.{EngineKind}
use Rattle.sql_engine.specs.Meanings.{Meaning, Told}
use Rattle.sql_engine.specs.Replies.{Statement}
use Rattle.session_spec.specs.Causes.{NotLeader}
use Rattle.session_spec.specs.Engines.{Answer}
use Rattle.session_spec.specs.Machine.{Machine, machine_of}
use Rattle.session_spec.specs.Requests.{ground, run_in, handed_over, handed_later, on_later, with_session, with_later, without_later}
use Rattle.session_spec.specs.Asking.{has_database}
use Rattle.session_spec.specs.Sessions.{Session, Gateway, View, Later, Reply, Turned, Refused, is_due, later_query, lent_query, responses_of}
use Rattle.session_statements.specs.Running.{TellsAll}
use Rattle.session_table.specs.declared.cause.Cause.TheVariants as causes
use Rattle.session_table.specs.declared.session.Session.{Session as CodeSession}
use Rattle.session_table.specs.Changing.{IsAbsent, StandsAt}
use Rattle.session_table.specs.Named.{later_named}
use Rattle.session_table.specs.Table.{has_conn, session_found, session_at, session_of, table_of, AreApart}
use Rattle.session_table.specs.Working.{works_of}
use Rattle.session_table.proofs.Found.{IsFound, all_found}
use Rattle.session_table.proofs.Swept.{none_there}
use Rattle.session_outcomes.specs.declared.decision.Decision.{Decision}
use Rattle.session_outcomes.specs.declared.decision.Decision.TheVariants as decisions
use Rattle.session_outcomes.specs.Numbers.{work_in, works_in}
use Rattle.session_outcomes.specs.Runs.{RunsTo}
use Rattle.session_outcomes.specs.Turning.{MatchesOutcomeByAnswers, MatchesOutcome}
use Rattle.session_statements.specs.Calls.{call_of}
use Rattle.session_outcomes.specs.Scenes.{scene}
use Rattle.session_gateway.specs.declared.act.Act.{Act}
use Rattle.session_gateway.specs.declared.act.Act.TheVariants as acts
use Rattle.session_gateway.specs.Carrying.{AgreesOn, CanCarry}
use Rattle.session_gateway.specs.Later.{RunsWaitingByAnswers, ReadDone, Resumed, first_due_in, first_due}
use Rattle.session_gateway.proofs.Decided.{can_carry, here_at}
use Rattle.session_gateway.proofs.Numbering.{with_some}

-- ---- what comes of one

module _ (m : Meaning) (kind : EngineKind) (v : View) (machine : Machine) (g : Gateway) (conn : ℕ) (s : Session) (statement : Statement) where
  -- by whether the node serves, and the session of the connection
  abbrev By : Option Told → Option Told → Decision → Bool → Session → Type 0
  By before now decision serves t =
      MatchesOutcomeByAnswers (call_of m kind before now) v machine s (cond serves (handed_over (ground machine t t.tx) (statement ∷ [])) None) (λ (answers : List Answer). cond serves (run_in v machine g conn t t.tx (statement ∷ []) true answers) (Refused NotLeader)) decision

  -- the node doesn't serve any more
  pub not_leader : (told : Option Told) → v.serving ≡ false → MatchesOutcomeByAnswers (call_of m kind told told) v machine s (handed_later v machine g conn statement) (on_later v machine g conn statement) (decisions.Refused causes.NotLeader)
  unfolding handed_later on_later TellsAll
  not_leader told is = subst (λ (b : Bool). By told told (decisions.Refused causes.NotLeader) b (g.session conn)) (sym is) (record { answers = []; allowed = tt; told = refl; exact = refl; is = refl })

  -- it serves, and the query runs
  pub leads : (these : Statement) (before now : Option Told) (decision : Decision) → these ≡ statement → v.serving ≡ true → g.session conn ≡ s → RunsTo (call_of m kind before now) (scene v machine g conn) s (these ∷ []) true decision
      → MatchesOutcomeByAnswers (call_of m kind before now) v machine s (handed_later v machine g conn statement) (on_later v machine g conn statement) decision
  unfolding handed_later on_later
  leads these before now decision query is same ran =
      let r : RunsTo (call_of m kind before now) (scene v machine g conn) s (statement ∷ []) true decision = subst (λ (one : Statement). RunsTo (call_of m kind before now) (scene v machine g conn) s (one ∷ []) true decision) query ran in
      subst (λ (b : Bool). By before now decision b (g.session conn)) (sym is)
      (subst (By before now decision true) (sym same) (record { answers = r.answers; allowed = r.allowed; told = r.told; exact = r.exact; is = r.is }))

-- ---- where it was set aside, and is put back

-- the query is there again
pub put_there : (s : Session) (later : Option Later) → s.later ≡ later → with_later (with_later s None) later ≡ s
put_there s later is = (λ i. record s { later = sym is i })

pub put_back : (g : Gateway) (conn : ℕ) (later : Option Later) → (g.session conn).later ≡ later → with_session (without_later g conn) conn (with_later ((without_later g conn).session conn) later) ≡ g
unfolding with_session
put_back g conn later is = (λ i. record { conns = g.conns; session = λ other. here other (other == conn) refl i; weight = g.weight })
  where
    own : cond (conn == conn) (with_later (g.session conn) None) (g.session conn) ≡ with_later (g.session conn) None
    own = ap (λ (b : Bool). cond b (with_later (g.session conn) None) (g.session conn)) (eq-eqb conn conn refl)

    here : (other : ℕ) (b : Bool) → (other == conn) ≡ b → cond b (with_later (cond (conn == conn) (with_later (g.session conn) None) (g.session conn)) later) (cond b (with_later (g.session conn) None) (g.session other)) ≡ g.session other
    here other true e = ap (λ (s : Session). with_later s later) own ∙ put_there (g.session conn) later is ∙ ap g.session (sym (eqb-true other conn e))
    here other false e = refl

-- without one, nothing is set aside
pub none_aside : (g : Gateway) (conn : ℕ) → (g.session conn).later ≡ None → without_later g conn ≡ g
unfolding with_session
none_aside g conn is = (λ i. record { conns = g.conns; session = λ other. here other (other == conn) refl i; weight = g.weight })
  where
    here : (other : ℕ) (b : Bool) → (other == conn) ≡ b → cond b (with_later (g.session conn) None) (g.session other) ≡ g.session other
    here other true e = (λ i. record (g.session conn) { later = sym is i }) ∙ ap g.session (sym (eqb-true other conn e))
    here other false e = refl

-- what else the session has stays
still_there : (g : Gateway) (conn : ℕ) → ((without_later g conn).session conn).there ≡ (g.session conn).there
unfolding with_session
still_there g conn = ap (λ (b : Bool). (cond b (with_later (g.session conn) None) (g.session conn)).there) (eq-eqb conn conn refl)

still_opened : (g : Gateway) (conn : ℕ) → has_database ((without_later g conn).session conn) ≡ has_database (g.session conn)
unfolding with_session
still_opened g conn = ap (λ (b : Bool). has_database (cond b (with_later (g.session conn) None) (g.session conn))) (eq-eqb conn conn refl)

pub opened_aside : (g aside : Gateway) (conn : ℕ) (later : Later) → Some later ≡ (g.session conn).later → aside ≡ without_later g conn → (IsSome (g.session conn).later → has_database (g.session conn) ≡ true) → has_database (aside.session conn) ≡ true
opened_aside g aside conn later is same opened = ap (λ (h : Gateway). has_database (h.session conn)) same ∙ still_opened g conn ∙ opened (subst IsSome is refl)

-- a run that failed, and the query that is given back
pub given_back : (g run after : Gateway) (conn : ℕ) (later : Later) → Some later ≡ (g.session conn).later → run ≡ without_later g conn → (g.session conn).there ≡ true
    → ((run.session conn).there ≡ true → after ≡ with_session run conn (with_later (run.session conn) (Some later))) → after ≡ g
given_back g run after conn later is same there back =
    back (ap (λ (h : Gateway). (h.session conn).there) same ∙ still_there g conn ∙ there) ∙ ap (λ (h : Gateway). with_session h conn (with_later (h.session conn) (Some later))) same ∙ put_back g conn (Some later) (sym is)

-- another session of the same connection is where it stood
pub set_stands : (ss : List CodeSession) (place conn : ℕ) (to : CodeSession) → StandsAt conn ss place → to.conn ≡ conn → StandsAt conn (set ss place to) place
set_stands ss place conn to at its = record {
  within = subst (λ (n : ℕ). place < n) (sym (length-set ss place to)) at.within;
  own = λ d. ap (λ (s : CodeSession). s.conn) (get_or-set_same ss place to d at.within) ∙ its;
}

-- a connection without a session is not there
pub nowhere : (databases : List Database) (ss : List CodeSession) (weight conn : ℕ) → IsAbsent conn ss → ((table_of databases ss weight).session conn).there ≡ false
unfolding table_of
nowhere databases ss weight conn none = ap (λ (s : Session). s.there) (none_there databases ss conn none)

-- and has nothing to answer
pub nothing_nowhere : (databases : List Database) (ss : List CodeSession) (weight conn : ℕ) → IsAbsent conn ss → ((table_of databases ss weight).session conn).later ≡ None
unfolding table_of
nothing_nowhere databases ss weight conn none = ap (λ (s : Session). s.later) (none_there databases ss conn none)

-- one that is at a place is there
pub is_there : (databases : List Database) (ss : List CodeSession) (weight conn place : ℕ) → AreApart ss → StandsAt conn ss place → ((table_of databases ss weight).session conn).there ≡ true
is_there databases ss weight conn place apart at = with_some ss place at.within (λ d. ap (λ (s : Session). s.there) (sym (here_at databases ss weight conn place d apart at)))

-- what it has yet to answer
pub later_there : (databases : List Database) (ss : List CodeSession) (weight conn place : ℕ) (s : CodeSession) → AreApart ss → StandsAt conn ss place → s ≡ get_or ss place s → option_map later_named s.later ≡ ((table_of databases ss weight).session conn).later
later_there databases ss weight conn place s apart at is = ap (λ (t : Session). t.later) (ap (session_of databases) is ∙ here_at databases ss weight conn place s apart at)

-- ---- at the session at a place

module _ (databases : List Database) (items known : List CodeSession) (conn place : ℕ) (found : CodeSession) (same : known ≡ items) (apart : AreApart items) (at : StandsAt conn items place) (is : found ≡ get_or known place found) where
  there : (weight : ℕ) → session_of databases found ≡ (table_of databases items weight).session conn
  there weight = ap (session_of databases) (is ∙ ap (λ (ss : List CodeSession). get_or ss place found) same) ∙ here_at databases items weight conn place found apart at

  its_conn : found.conn ≡ conn
  its_conn = ap (λ (s : CodeSession). s.conn) (is ∙ ap (λ (ss : List CodeSession). get_or ss place found) same) ∙ at.own found

  pub opened_there : (weight : ℕ) → has_database ((table_of databases items weight).session conn) ≡ true → has_database (session_of databases found) ≡ true
  opened_there weight opened = ap has_database (there weight) ∙ opened

  -- its outcome there is that at the connection's session
  pub came_later : (m : Meaning) (kind : EngineKind) (v : View) (weight : ℕ) (statement : Statement) (before now : Option Told) (decision : Decision)
      → ((table_of databases known weight).session found.conn ≡ session_of databases found → MatchesOutcomeByAnswers (call_of m kind before now) v (machine_of databases) (session_of databases found) (handed_later v (machine_of databases) (table_of databases known weight) found.conn statement) (on_later v (machine_of databases) (table_of databases known weight) found.conn statement) decision)
      → MatchesOutcomeByAnswers (call_of m kind before now) v (machine_of databases) ((table_of databases items weight).session conn) (handed_later v (machine_of databases) (table_of databases items weight) conn statement) (on_later v (machine_of databases) (table_of databases items weight) conn statement) decision
  came_later m kind v weight statement before now decision comes =
      let here : (table_of databases known weight).session found.conn ≡ session_of databases found = ap (λ (ss : List CodeSession). (table_of databases ss weight).session found.conn) same ∙ ap (table_of databases items weight).session its_conn ∙ sym (there weight) in
      subst (λ (s : Session). MatchesOutcomeByAnswers (call_of m kind before now) v (machine_of databases) s (handed_later v (machine_of databases) (table_of databases items weight) conn statement) (on_later v (machine_of databases) (table_of databases items weight) conn statement) decision) (there weight)
      (subst (λ (c : ℕ). MatchesOutcomeByAnswers (call_of m kind before now) v (machine_of databases) (session_of databases found) (handed_later v (machine_of databases) (table_of databases items weight) c statement) (on_later v (machine_of databases) (table_of databases items weight) c statement) decision) its_conn
      (subst (λ (ss : List CodeSession). MatchesOutcomeByAnswers (call_of m kind before now) v (machine_of databases) (session_of databases found) (handed_later v (machine_of databases) (table_of databases ss weight) found.conn statement) (on_later v (machine_of databases) (table_of databases ss weight) found.conn statement) decision) same (comes here)))

  -- and can be carried out there
  pub can_later : (v : View) (weight : ℕ) (turned : Turned) (decision : Decision) (d : CodeSession) → MatchesOutcome v (machine_of databases) ((table_of databases items weight).session conn) turned decision → CanCarry (get_or items place d) decision
  can_later v weight turned decision d comes =
      can_carry v (machine_of databases) databases (get_or items place d) turned decision (subst (λ (s : Session). MatchesOutcome v (machine_of databases) s turned decision) (sym (here_at databases items weight conn place d apart at)) comes)

  -- no number represents two images then
  pub ran_agree : (engine : List Known) (next : ℕ) (decision : Decision) (after : List CodeSession) (new : List Database) → Agree engine (works_in (Ok decision) found.transaction ++ works_of known) next (map numbered databases)
      → ((own : CodeSession) → AgreesOn (work_in decision (get_or items place own).transaction) items databases after new) → Agree engine (works_of after) next (map numbered new)
  ran_agree engine next decision after new given carries =
      let from : get_or items place found ≡ found = ap (λ (ss : List CodeSession). get_or ss place found) (sym same) ∙ sym is in
      subst (λ (s : CodeSession). AgreesOn (work_in decision s.transaction) items databases after new) from (carries found) engine next
      (subst (λ (ss : List CodeSession). Agree engine (work_in decision found.transaction ++ works_of ss) next (map numbered databases)) same given)

  pub failed_there : (engine : List Known) (next : ℕ) (e : AllocError) → Agree engine (works_in (Err e) found.transaction ++ works_of known) next (map numbered databases) → Agree engine (works_of items) next (map numbered databases)
  failed_there engine next e given = subst (λ (ss : List CodeSession). Agree engine (works_of ss) next (map numbered databases)) same given

-- what was reached from the same sessions
pub resumed_from : (m : Meaning) (kind : EngineKind) (v : View) (machine : Machine) (g aside : Gateway) (conn : ℕ) (statement : Statement) (later : Later) (before now : Option Told) (after : Gateway) (act : Act) → Some later ≡ (g.session conn).later
    → later_query (Some later) ≡ Some statement → aside ≡ without_later g conn → RunsWaitingByAnswers (call_of m kind before now) (scene v machine aside conn) statement after act → Resumed (call_of m kind before now) (scene v machine g conn) (later_query (g.session conn).later) after (Some act)
resumed_from m kind v machine g aside conn statement later before now after act has is same by =
    subst (λ (q : Option Statement). Resumed (call_of m kind before now) (scene v machine g conn) q after (Some act)) (sym is ∙ ap later_query has)
    (subst (λ (h : Gateway). RunsWaitingByAnswers (call_of m kind before now) (scene v machine h conn) statement after act) same by)

pub none_resumed : (m : Meaning) (kind : EngineKind) (v : View) (machine : Machine) (g : Gateway) (conn : ℕ) (told : Option Told) (after : Gateway) → (g.session conn).later ≡ None → after ≡ g → Resumed (call_of m kind told told) (scene v machine g conn) (later_query (g.session conn).later) after None
none_resumed m kind v machine g conn told after none is = subst (λ (later : Option Later). Resumed (call_of m kind told told) (scene v machine g conn) (later_query later) after None) (sym none) (is, refl)

-- ---- what a reader answered

pub done_none : (g : Gateway) (conn : ℕ) (query : Option Statement) (reply : Option Reply) → query ≡ None → ReadDone g conn query reply g None
done_none g conn query reply is = subst (λ (q : Option Statement). ReadDone g conn q reply g None) (sym is) (refl, refl)

pub not_lent : (query known : Option Statement) → query ≡ known → not (is_none query) ≡ false → known ≡ None
not_lent None known is e = sym is
not_lent (Some statement) known is e = absurd (true≢false e)

-- the act of a reply
abbrev pub told_by : Option Reply → Option Act
told_by reply = option_map (λ (r : Reply). acts.Reply (responses_of r)) reply

pub done_back : (g : Gateway) (conn : ℕ) (query : Option Statement) (reply : Option Reply) → None ≡ told_by reply → ReadDone g conn query reply g None
done_back g conn None reply is = (refl, refl)
done_back g conn (Some statement) None is = (refl, refl)
done_back g conn (Some statement) (Some reply) is = (cc)

pub done_told : (g now : Gateway) (conn : ℕ) (query known : Option Statement) (reply : Option Reply) (act : Act) → query ≡ known → not (is_none query) ≡ true → now ≡ without_later g conn → Some act ≡ told_by reply → ReadDone g conn known reply now (Some act)
done_told g now conn None known reply act same some is told = absurd (false≢true some)
done_told g now conn (Some statement) known None act same some is told = (cc)
done_told g now conn (Some statement) known (Some reply) act same some is told = subst (λ (q : Option Statement). ReadDone g conn q (Some reply) now (Some act)) same (is, told)

-- ---- who is next

-- the session's query isn't run next
abbrev pub IsNotDue : CodeSession → Type 0
IsNotDue s = is_due (option_map later_named s.later) ≡ false

-- The session at a place is the first whose query is run next, if none before it is.
first_at : (databases : List Database) (all ss : List CodeSession) (weight place : ℕ) (d : CodeSession) → AllByRecursion (IsFound databases all) ss
    → AllByRecursion IsNotDue (take place ss) → place < length ss → is_due (option_map later_named (get_or ss place d).later) ≡ true
    → first_due_in (table_of databases all weight) (map (λ (s : CodeSession). s.conn) ss) ≡ Some (get_or ss place d).conn
unfolding table_of
first_at databases all [] weight place d found none within due = absurd (omega arith)
first_at databases all (s ∷ ss) weight zero d found none within due =
    let is = ap (λ (r : Session). is_due r.later) found.0 ∙ due in
    cond-true (is_due (session_at databases all s.conn).later) (Some s.conn) (first_due_in (table_of databases all weight) (map (λ (t : CodeSession). t.conn) ss)) is
first_at databases all (s ∷ ss) weight (suc place) d found none within due =
    let is = ap (λ (r : Session). is_due r.later) found.0 ∙ none.0 in
    cond-false (is_due (session_at databases all s.conn).later) (Some s.conn) (first_due_in (table_of databases all weight) (map (λ (t : CodeSession). t.conn) ss)) is
    ∙ first_at databases all ss weight place d found.1 none.1 (omega arith) due

pub due_first : (databases : List Database) (ss : List CodeSession) (weight place : ℕ) (d : CodeSession) → AreApart ss → AllByRecursion IsNotDue (take place ss)
    → place < length ss → is_due (option_map later_named (get_or ss place d).later) ≡ true → first_due (table_of databases ss weight) ≡ Some (get_or ss place d).conn
unfolding table_of
due_first databases ss weight place d apart none within due = first_at databases ss ss weight place d (all_found databases ss apart) none within due

pub none_due : (databases : List Database) (ss : List CodeSession) (weight conn : ℕ) → AllByRecursion IsNotDue ss → is_due ((table_of databases ss weight).session conn).later ≡ false
unfolding table_of session_at
none_due databases [] weight conn none = refl
none_due databases (s ∷ ss) weight conn none = by (has_conn conn s) (none_due databases ss weight conn none.1)
  where
    by : (b : Bool) → is_due (session_found databases (find (has_conn conn) ss)).later ≡ false → is_due (session_found databases (cond b (Some s) (find (has_conn conn) ss))).later ≡ false
    by true rest = none.0
    by false rest = rest

-- ---- over what code holds

pub resumed_so : (m : Meaning) (kind : EngineKind) (v : View) (machine : Machine) (g known : Gateway) (conn : ℕ) (before after : Option Told) (now : Gateway) (act : Option Act) → g ≡ known
    → Resumed (call_of m kind before after) (scene v machine g conn) (later_query (g.session conn).later) now act → Resumed (call_of m kind before after) (scene v machine known conn) (later_query (known.session conn).later) now act
resumed_so m kind v machine g known conn before after now act is r = subst (λ (h : Gateway). Resumed (call_of m kind before after) (scene v machine h conn) (later_query (h.session conn).later) now act) is r

pub done_so : (g known : Gateway) (conn : ℕ) (reply : Option Reply) (now : Gateway) (act : Option Act) → g ≡ known → ReadDone g conn (lent_query (g.session conn).later) reply now act → ReadDone known conn (lent_query (known.session conn).later) reply now act
done_so g known conn reply now act is r = subst (λ (h : Gateway). ReadDone h conn (lent_query (h.session conn).later) reply now act) is r
