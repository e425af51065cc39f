-- That files were not opened is told only if the engine said so.
use Rattle.std.proofs.Common.{◌≡◌, ℕ, Bool, true, false, cond, not, ◌&&◌, List, [], ◌∷◌, Option, Some, None, Result, Ok, Err, inl, inr, sym, ap, subst, ◌∙◌}
use Rattle.std.specs.Prelude.{◌==◌}
use Rattle.dq_base.specs.declared.images.Image.{Image}
use Rattle.dq_base.specs.declared.pages.NumberedPage.{NumberedPage}
use Rattle.dq_base.specs.Changes.{changed}
use Rattle.wire_rows.specs.declared.fault.RowFault.{RowFault}
use Rattle.wire_rows.specs.declared.fault.RowFault.TheVariants as row_faults
use Rattle.wire_rows.specs.Answering.{parts_of}
use Rattle.sql_engine.specs.declared.answer.StatementResult.{StatementResult}
use Rattle.sql_engine.specs.declared.fault.EngineFault.{EngineFault}
use Rattle.sql_engine.specs.declared.fault.EngineFault.TheVariants as faults
use Rattle.sql_engine.specs.Replies.{Statement}
use Rattle.session_spec.specs.Causes as causes
use Rattle.session_spec.specs.Causes.{Cause, engine_cause}
use Rattle.session_spec.specs.Entries.{Other}
use Rattle.session_spec.specs.Engines.{no_pages, Ending, Lacking, TooLarge, Stopped, Ended}
use Rattle.session_spec.specs.Machine.{Machine}
use Rattle.session_spec.specs.Sessions.{Session, Gateway, View, Transaction, Querying, Lent, Nothing, Turned, Refused, Lacks, Answers, Proposes, Lends, Affects}
use Rattle.session_spec.specs.Limits.{other_holds, too_full, log_full, first_cause, change_refusal}
use Rattle.session_spec.specs.Requests.{unless, rows_cause, or_cause, row_cause, outside, outside_write, inside, was_cut, barrier_first, job_of, flying, with_later}
use Rattle.session_requests.specs.Meant.{IsPlainCause}
use Rattle.session_outcomes.specs.Runs.{ran_in}
use Rattle.session_outcomes.specs.Reading.{query_in}
use Rattle.session_table.specs.declared.cause.Cause.TheVariants as code_causes
use Rattle.session_outcomes.specs.declared.decision.Decision.{Decision}
use Rattle.session_outcomes.specs.declared.decision.Decision.TheVariants as decisions
use Rattle.session_outcomes.specs.Turning.{MatchesOutcome}
use Rattle.session_statements.specs.declared.ending.Ending.{Ending as CodeEnding}
use Rattle.session_statements.specs.Running.{Shows, is_unopened, ends_unopened}
use Rattle.std.proofs.lemmas.Bool.{cases_Bool}

-- a cause that needs no engine, or none
abbrev pub Plain : Option Cause → Type 0
Plain None = Unit {0}
Plain (Some cause) = IsPlainCause cause

-- an outcome that isn't refused for a cause that needs an engine
abbrev pub IsPlain : Turned → Type 0
IsPlain (Refused cause) = IsPlainCause cause
IsPlain Lacks = Unit {0}
IsPlain (Answers s reply note) = Unit {0}
IsPlain (Proposes s contents note) = Unit {0}
IsPlain (Lends s job) = Unit {0}
IsPlain (Affects effect) = Unit {0}

pub plain_unless : (cause : Option Cause) (turned : Turned) → Plain cause → IsPlain turned → IsPlain (unless cause turned)
plain_unless None turned p q = q
plain_unless (Some cause) turned p q = p

pub plain_first : (holds : Bool) (cause : Cause) (others : Option Cause) → IsPlainCause cause → Plain others → Plain (first_cause holds cause others)
plain_first true cause others p q = p
plain_first false cause others p q = q

plain_rows : (parts : Result (List (List ℕ)) RowFault) → Plain (rows_cause parts)
plain_rows (Ok parts) = tt
plain_rows (Err (row_faults.Nul row column)) = tt
plain_rows (Err (row_faults.TooBig bytes)) = tt
plain_rows (Err row_faults.NoMemory) = tt

plain_or : (cause later : Option Cause) → Plain cause → Plain later → Plain (or_cause cause later)
plain_or None later p q = q
plain_or (Some cause) later p q = p

plain_row : (rows : Bool) (answer : StatementResult) (others : Option Cause) → Plain others → Plain (row_cause rows answer others)
unfolding row_cause
plain_row true answer others q = plain_or (rows_cause (parts_of answer.columns answer.rows)) others (plain_rows (parts_of answer.columns answer.rows)) q
plain_row false answer others q = q

pub plain_hindrance : (m : Machine) (g : Gateway) (conn : ℕ) (name : List ℕ) (mark : ℕ) (pages : List NumberedPage) (to : Image) → Plain (change_refusal m g conn name mark pages to)
unfolding change_refusal
plain_hindrance m g conn name mark pages to =
    plain_first (other_holds g conn name) causes.Locked (first_cause (not ((m.base name).newest == mark)) causes.OutOfDate (first_cause (too_full m g name pages to) causes.DatabaseFull None)) tt
    (plain_first (not ((m.base name).newest == mark)) causes.OutOfDate (first_cause (too_full m g name pages to) causes.DatabaseFull None) tt
    (plain_first (too_full m g name pages to) causes.DatabaseFull None tt tt))

-- of an ending, if no file was left unopened
abbrev Opened : Ending → Type 0
Opened (Stopped fault) = is_unopened fault ≡ false
Opened ending = Unit {0}

plain_fault : (fault : EngineFault) → is_unopened fault ≡ false → IsPlainCause (engine_cause fault)
plain_fault faults.Constraint e = tt
plain_fault faults.Sql e = tt
plain_fault (faults.Float row column) e = tt
plain_fault (faults.NotText row column) e = tt
plain_fault faults.Unopened e = absurd cc
plain_fault faults.Cut e = tt
plain_fault faults.NoMemory e = tt

pub plain_if : (b : Bool) (x y : Turned) → IsPlain x → IsPlain y → IsPlain (cond b x y)
plain_if true x y p q = p
plain_if false x y p q = q

plain_outside : (v : View) (m : Machine) (g : Gateway) (conn : ℕ) (s : Session) (ss : List Statement) (rows : Bool) (e : Ending) → Opened e → IsPlain (outside v m g conn s ss rows e)
unfolding outside outside_write
plain_outside v m g conn s ss rows Lacking o = tt
plain_outside v m g conn s ss rows (TooLarge answer) o =
    plain_unless (first_cause (log_full v) causes.LogFull (row_cause rows answer (change_refusal m g conn s.database (m.base s.database).newest answer.after.pages (m.base s.database).image))) (Refused causes.DatabaseFull)
    (plain_first (log_full v) causes.LogFull (row_cause rows answer (change_refusal m g conn s.database (m.base s.database).newest answer.after.pages (m.base s.database).image)) tt
    (plain_row rows answer (change_refusal m g conn s.database (m.base s.database).newest answer.after.pages (m.base s.database).image) (plain_hindrance m g conn s.database (m.base s.database).newest answer.after.pages (m.base s.database).image))) tt
plain_outside v m g conn s ss rows (Stopped fault) o = plain_fault fault o
plain_outside v m g conn s ss rows (Ended to answer) o =
    let pages : List NumberedPage = changed (m.base s.database).image to in
    plain_if (no_pages pages) _ _
    (plain_unless (row_cause rows answer None) _ (plain_row rows answer None tt) tt)
    (plain_unless (first_cause (log_full v) causes.LogFull (row_cause rows answer (change_refusal m g conn s.database (m.base s.database).newest pages to))) _
    (plain_first (log_full v) causes.LogFull (row_cause rows answer (change_refusal m g conn s.database (m.base s.database).newest pages to)) tt
    (plain_row rows answer (change_refusal m g conn s.database (m.base s.database).newest pages to) (plain_hindrance m g conn s.database (m.base s.database).newest pages to))) tt)

plain_inside : (m : Machine) (g : Gateway) (conn : ℕ) (s : Session) (x : Transaction) (ss : List Statement) (rows : Bool) (e : Ending) → Opened e → IsPlain (inside m g conn s x ss rows e)
unfolding inside
plain_inside m g conn s x ss rows Lacking o = tt
plain_inside m g conn s x ss rows (TooLarge answer) o =
    plain_unless (row_cause rows answer (change_refusal m g conn x.name x.mark answer.after.pages x.working)) (Refused causes.DatabaseFull)
    (plain_row rows answer (change_refusal m g conn x.name x.mark answer.after.pages x.working) (plain_hindrance m g conn x.name x.mark answer.after.pages x.working)) tt
plain_inside m g conn s x ss rows (Stopped fault) o = plain_fault fault o
plain_inside m g conn s x ss rows (Ended to answer) o =
    let pages : List NumberedPage = changed x.working to in
    plain_if (no_pages pages) _ _
    (plain_unless (row_cause rows answer None) _ (plain_row rows answer None tt) tt)
    (plain_unless (row_cause rows answer (change_refusal m g conn x.name x.mark pages to)) _ (plain_row rows answer (change_refusal m g conn x.name x.mark pages to) (plain_hindrance m g conn x.name x.mark pages to)) tt)

-- ---- what is reported of it

opened_by : (tx : ℕ) (from : Image) (e : Ending) (ending : CodeEnding) → Shows tx from e ending → ends_unopened ending ≡ false → Opened e
opened_by tx from Lacking ending shows o = absurd shows
opened_by tx from (TooLarge answer) ending shows o = tt
opened_by tx from (Stopped fault) ending shows o = sym (ap ends_unopened shows) ∙ o
opened_by tx from (Ended to answer) ending shows o = tt

plain_ran : (v : View) (m : Machine) (g : Gateway) (conn : ℕ) (s : Session) (tx : Option Transaction) (ss : List Statement) (rows : Bool) (e : Ending) → Opened e → IsPlain (ran_in v m g conn s tx ss rows e)
plain_ran v m g conn s None ss rows e o = plain_outside v m g conn s ss rows e o
plain_ran v m g conn s (Some x) ss rows e o = plain_inside m g conn s x ss rows e o

pub told_plain : (v : View) (m : Machine) (s : Session) (turned : Turned) → MatchesOutcome v m s turned (decisions.Refused code_causes.NotADatabase) → IsPlain turned → ⊥
told_plain v m s (Refused cause) comes plain = subst IsPlainCause comes plain
told_plain v m s Lacks comes plain = comes
told_plain v m s (Answers to reply note) comes plain = comes
told_plain v m s (Proposes to contents note) comes plain = comes
told_plain v m s (Lends to job) comes plain = comes
told_plain v m s (Affects effect) comes plain = comes

-- a request is refused since files were not opened only where running ended so
pub was_unopened : (v : View) (m : Machine) (g : Gateway) (conn : ℕ) (s : Session) (tx : Option Transaction) (ss : List Statement) (rows : Bool) (number : ℕ) (from : Image) (e : Ending) (ending : CodeEnding) (decision : Decision)
    → Shows number from e ending → MatchesOutcome v m s (ran_in v m g conn s tx ss rows e) decision → decision ≡ decisions.Refused code_causes.NotADatabase → ends_unopened ending ≡ true
was_unopened v m g conn s tx ss rows number from e ending decision shows comes is = elim (cases_Bool (ends_unopened ending)) [
  | inl unopened ↦ unopened
  | inr opened ↦ absurd (told_plain v m s (ran_in v m g conn s tx ss rows e) (subst (MatchesOutcome v m s (ran_in v m g conn s tx ss rows e)) is comes) (plain_ran v m g conn s tx ss rows e (opened_by number from e ending shows opened)))
]

-- ---- of queries

plain_query : (v : View) (m : Machine) (g : Gateway) (conn : ℕ) (s : Session) (tx : Option Transaction) (statement : Statement) (e : Ending) → Opened e → IsPlain (query_in v m g conn s tx statement e)
plain_query v m g conn s None statement e o = plain_if (v.readers && was_cut e) (Lends (with_later s (Some (Lent statement))) (job_of m s statement)) (outside v m g conn s (statement ∷ []) true e) tt (plain_outside v m g conn s (statement ∷ []) true e o)
plain_query v m g conn s (Some x) statement e o = plain_inside m g conn s x (statement ∷ []) true e o

pub query_unopened : (v : View) (m : Machine) (g : Gateway) (conn : ℕ) (s : Session) (tx : Option Transaction) (statement : Statement) (number : ℕ) (from : Image) (e : Ending) (ending : CodeEnding) (decision : Decision)
    → Shows number from e ending → MatchesOutcome v m s (query_in v m g conn s tx statement e) decision → decision ≡ decisions.Refused code_causes.NotADatabase → ends_unopened ending ≡ true
query_unopened v m g conn s tx statement number from e ending decision shows comes is = elim (cases_Bool (ends_unopened ending)) [
  | inl unopened ↦ unopened
  | inr opened ↦ absurd (told_plain v m s (query_in v m g conn s tx statement e) (subst (MatchesOutcome v m s (query_in v m g conn s tx statement e)) is comes) (plain_query v m g conn s tx statement e (opened_by number from e ending shows opened)))
]

-- a barrier isn't refused so
pub barrier_opened : (v : View) (m : Machine) (s : Session) (statement : Statement) (decision : Decision) → MatchesOutcome v m s (barrier_first v s statement) decision → decision ≡ decisions.Refused code_causes.NotADatabase → ⊥
barrier_opened v m s statement decision comes is =
    told_plain v m s (barrier_first v s statement) (subst (MatchesOutcome v m s (barrier_first v s statement)) is comes)
    (plain_if (log_full v) (Refused causes.LogFull) (Proposes (flying v s [] (Other ∷ []) 0 (Querying statement)) (Other ∷ []) Nothing) tt tt)
