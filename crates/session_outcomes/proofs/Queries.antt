-- Queries: after a barrier, run now, or lent to a reader.
use Rattle.std.proofs.Common.{◌≡◌, ℕ, Bool, true, false, cond, ◌&&◌, is_none, List, [], ◌∷◌, Option, Some, None, option_map, Result, IfOk, refl, sym, ap, subst, ◌∙◌}
use Rattle.std.specs.declared.alloc.AllocError.{AllocError}
use Rattle.dq_base.specs.declared.images.Image.{Image}
use Rattle.sql_engine.specs.declared.kind.EngineKind.{EngineKind}
use Rattle.sql_engine.specs.Replies.{Statement}
use Rattle.sql_engine.specs.Meanings.{Meaning, Told}
use Rattle.session_spec.specs.Asking.{Reads}
use Rattle.session_spec.specs.Engines.{Answer, Ending, Lacking, TooLarge, Stopped, Ended, no_answer, runs}
use Rattle.session_spec.specs.Machine.{Machine, machine_of}
use Rattle.session_spec.specs.Requests.{ground, handed_over, was_cut, waits_first, barrier_first, job_of, outside, read_in, with_later, does}
use Rattle.session_spec.specs.Sessions.{Gateway, View, Transaction, Lent, Job, Lends}
use Rattle.session_spec.specs.Sessions.{Session as RuleSession}
use Rattle.session_statements.specs.declared.ending.Ending.{Ending as CodeEnding}
use Rattle.session_statements.specs.Running.{Shows, TellsAll}
use Rattle.session_table.specs.declared.session.Session.{Session}
use Rattle.session_table.specs.Table.{database_of, session_of}
use Rattle.database_state.specs.declared.database.Database.{Database}
use Rattle.session_outcomes.specs.declared.decision.Decision.{Decision}
use Rattle.session_outcomes.specs.declared.decision.Decision.TheVariants as decisions
use Rattle.session_outcomes.specs.Reading.{cut_off, query_in}
use Rattle.session_outcomes.specs.Runs.{ran_in}
use Rattle.session_outcomes.specs.Turning.{MatchesOutcomeByAnswers, MatchesOutcome, TurnsTo}
use Rattle.session_statements.specs.Calls.{call_of}
use Rattle.session_outcomes.specs.Scenes.{scene}

-- ---- where the engine cut a query off

pub cut_shown : (tx : ℕ) (from : Image) (e : Ending) (ending : CodeEnding) → Shows tx from e ending → was_cut e ≡ cut_off ending
cut_shown tx from Lacking ending shows = absurd shows
cut_shown tx from (TooLarge answer) ending shows = sym (ap cut_off shows)
cut_shown tx from (Stopped fault) ending shows = sym (ap cut_off shows)
cut_shown tx from (Ended to answer) ending shows = sym (ap cut_off shows.1)

pub none_mapped : {X Y : Type 0} (f : X → Y) (o : Option X) → is_none (option_map f o) ≡ is_none o
none_mapped f None = refl
none_mapped f (Some x) = refl

-- outside a transaction, if there are readers, and the engine interrupted it
pub lent_where : {X Y : Type 0} (f : X → Y) (o : Option X) (readers cut shown : Bool) (test : Bool) → test ≡ (is_none o && (readers && shown)) → cut ≡ shown → (is_none (option_map f o) && (readers && cut)) ≡ test
lent_where f o readers cut shown test is same = ap (λ (b : Bool). b && (readers && cut)) (none_mapped f o) ∙ ap (λ (b : Bool). is_none o && (readers && b)) same ∙ sym is

module _ (v : View) (m : Machine) (g : Gateway) (conn : ℕ) (s : RuleSession) (statement : Statement) (r : Result Decision AllocError) where
  -- it is lent
  pub lends : (tx : Option Transaction) (ended : Ending) → (is_none tx && (v.readers && was_cut ended)) ≡ true
      → IfOk r (MatchesOutcome v m s (Lends (with_later s (Some (Lent statement))) (job_of m s statement))) → IfOk r (MatchesOutcome v m s (query_in v m g conn s tx statement ended))
  lends None ended is comes = subst (λ (b : Bool). IfOk r (MatchesOutcome v m s (cond b (Lends (with_later s (Some (Lent statement))) (job_of m s statement)) (outside v m g conn s (statement ∷ []) true ended)))) (sym is) comes
  lends (Some x) ended is comes = absurd cc

  -- it isn't
  pub goes_on : (tx : Option Transaction) (ended : Ending) → (is_none tx && (v.readers && was_cut ended)) ≡ false
      → IfOk r (MatchesOutcome v m s (ran_in v m g conn s tx (statement ∷ []) true ended)) → IfOk r (MatchesOutcome v m s (query_in v m g conn s tx statement ended))
  goes_on None ended is comes = subst (λ (b : Bool). IfOk r (MatchesOutcome v m s (cond b (Lends (with_later s (Some (Lent statement))) (job_of m s statement)) (outside v m g conn s (statement ∷ []) true ended)))) (sym is) comes
  goes_on (Some x) ended is comes = comes

-- its outcome by the engine's answers
pub read_is : (v : View) (m : Machine) (g : Gateway) (conn : ℕ) (s : RuleSession) (tx : Option Transaction) (statement : Statement) (answers : List Answer)
    → read_in v m g conn s tx statement answers ≡ query_in v m g conn s tx statement (runs (ground m s tx) no_answer (statement ∷ []) answers)
read_is v m g conn s None statement answers = refl
read_is v m g conn s (Some x) statement answers = refl

-- a query as a reader's job
pub job_so : (databases : List Database) (session : Session) (name copy text : List ℕ) (image : Image) (query shared : Statement)
    → database_of session.database ≡ name → copy ≡ name → text ≡ name → image ≡ ((machine_of databases).base text).image → shared ≡ query
    → record { name = copy; image = image; statement = shared } ≡ job_of (machine_of databases) (session_of databases session) query
job_so databases session name copy text image query shared own copied told is same = λ i. record {
  name = (copied ∙ sym own) i;
  image = (is ∙ ap (λ (n : List ℕ). ((machine_of databases).base n).image) (told ∙ sym own)) i;
  statement = same i;
}

-- a query that is lent
pub lent_so : (v : View) (m : Machine) (s : RuleSession) (query asked : Statement) (job : Job) → query ≡ asked → job ≡ job_of m s query → MatchesOutcome v m s (Lends (with_later s (Some (Lent asked))) (job_of m s asked)) (decisions.Lends query job)
lent_so v m s query asked job same is = (ap (λ (statement : Statement). with_later s (Some (Lent statement))) (sym same), ap (job_of m s) (sym same) ∙ sym is)

-- ---- after a barrier, or at once

module _ (meaning : Meaning) (kind : EngineKind) (v : View) (m : Machine) (g : Gateway) (conn : ℕ) (s : RuleSession) (statement : Statement) where
  -- the outcome of a query, by whether it waits
  abbrev By : Option Told → Option Told → Decision → Bool → Type 0
  By before now decision b = MatchesOutcomeByAnswers (call_of meaning kind before now) v m s (cond b None (handed_over (ground m s s.tx) (statement ∷ []))) (λ (answers : List Answer). cond b (barrier_first v s statement) (read_in v m g conn s s.tx statement answers)) decision

  -- it waits for the barrier, and the engine is handed nothing
  pub waits : (told : Option Told) (decision : Decision) → waits_first s ≡ true → MatchesOutcome v m s (barrier_first v s statement) decision → TurnsTo (call_of meaning kind told told) (scene v m g conn) s (Reads statement) decision
  unfolding does TellsAll
  waits told decision is comes = subst (By told told decision) (sym is) (record { answers = []; allowed = tt; told = refl; exact = refl; is = comes })

  -- it runs now
  pub runs_now : (before now : Option Told) (decision : Decision) → waits_first s ≡ false
      → MatchesOutcomeByAnswers (call_of meaning kind before now) v m s (handed_over (ground m s s.tx) (statement ∷ [])) (λ (answers : List Answer). read_in v m g conn s s.tx statement answers) decision
      → TurnsTo (call_of meaning kind before now) (scene v m g conn) s (Reads statement) decision
  unfolding does
  runs_now before now decision is comes = subst (By before now decision) (sym is) comes
