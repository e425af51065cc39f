-- What code asks for, as the rules have it, with the parameters of the request.
use Rattle.std.specs.Prelude.{◌≡◌, ◌<◌, ℕ, true, false, List, [], ◌∷◌, length, All, Option, Some, None, IsSome, Result, Ok, Err}
use Rattle.dq_base.specs.Names.{has_nul}
use Rattle.wire_words.specs.declared.value.Value.{Value}
use Rattle.wire_msgs.specs.declared.request.Request.{Request}
use Rattle.wire_msgs.specs.declared.request.Request.TheVariants as requests
use Rattle.sql_scan.specs.declared.pieces.StatementSpan.{StatementSpan}
use Rattle.sql_scan.specs.declared.fault.ScanFault.{ScanFault}
use Rattle.sql_scan.specs.Places.{StandsIn}
use Rattle.sql_scan.specs.Statements.{scan_of}
use Rattle.session_spec.specs.Asking as rules
use Rattle.session_spec.specs.Causes as rule_causes
use Rattle.session_spec.specs.Causes.{scan_cause, Cause as RuleCause}
use Rattle.session_spec.specs.Asking.{Asked}
use Rattle.session_spec.specs.Allowed.{IsServed, IsOneChange}
use Rattle.session_spec.specs.Sessions as sessions
use Rattle.session_spec.specs.Sessions.{Prepared, Effect as RuleEffect, View, Session, in_tx}
use Rattle.session_spec.specs.Limits.{log_full}
use Rattle.session_spec.specs.Statements.{prepared_at, free_id, with_all}
use Rattle.session_statements.specs.Texts.{wants, assigned}
use Rattle.session_table.specs.Named.{cause_named}
use Rattle.session_table.specs.declared.cause.Cause.{Cause}
use Rattle.session_requests.specs.declared.wanted.ClusterEffect.{ClusterEffect}
use Rattle.session_requests.specs.declared.wanted.ClusterEffect.TheVariants as effects
use Rattle.session_requests.specs.declared.wanted.RequestPlan.{RequestPlan}
use Rattle.session_requests.specs.declared.wanted.RequestPlan.TheVariants as wanted

abbrev pub effect_named : ClusterEffect → RuleEffect
effect_named (effects.HandsOver id) = sessions.HandsOver id
effect_named (effects.JoinsPeer id) = sessions.JoinsPeer id
effect_named (effects.Weighs weight) = sessions.Weighs weight

abbrev pub meant : List Value → RequestPlan → Asked
meant params (wanted.Never cause) = rules.Never (cause_named cause)
meant params (wanted.Tells response) = rules.Tells response
meant params (wanted.Sets effect) = rules.Sets (effect_named effect)
meant params (wanted.Opens name barriers) = rules.Opens name barriers
meant params (wanted.Creates name barriers) = rules.Creates name barriers
meant params (wanted.Changes servers short) = rules.Changes servers short
meant params (wanted.Prepares prepared tail) = rules.Prepares prepared tail
meant params (wanted.Drops id) = rules.Drops id
meant params (wanted.Forgets response) = rules.Forgets response
meant params (wanted.Begins at_once) = rules.Begins at_once
meant params wanted.Commits = rules.Commits
meant params wanted.RollsBack = rules.RollsBack
meant params (wanted.RunsOne prepared) = rules.Runs (with_all prepared params ∷ [])
meant params (wanted.RunsAll script) = rules.Runs (assigned script.text script.pieces params)
meant params (wanted.Reads prepared) = rules.Reads (with_all prepared params)

-- what is asked for, if nothing else is wanted before
abbrev pub planned_or : List Value → Option RequestPlan → Asked → Asked
planned_or params None asked = asked
planned_or params (Some wanted) asked = meant params wanted

-- The statements of a text, which are in it; or the cause for which it can't be split into statements.
abbrev pub CutInto : List ℕ → Result (List StatementSpan) Cause → Type 0
CutInto sql (Ok pieces) = (scan_of sql ≡ Ok pieces) × All (StandsIn sql) pieces
CutInto sql (Err cause) = (fault : ScanFault) × (scan_of sql ≡ Err fault) × (cause_named cause ≡ scan_cause fault)

-- what is asked, if it isn't refused for a cause
abbrev pub refused_by : Option Cause → Asked → Asked
refused_by None asked = asked
refused_by (Some cause) asked = rules.Never (cause_named cause)

-- what hinders a write, as the rules have it
abbrev pub hinders_named : Option Cause → Option RuleCause
hinders_named None = None
hinders_named (Some cause) = Some (cause_named cause)

-- the statements are in their text, and want as many parameters as there are
abbrev pub CanRun : List Value → RequestPlan → Type 0
CanRun params (wanted.RunsAll script) = All (StandsIn script.text) script.pieces × (wants script.pieces ≡ length params)
CanRun params wanted = Unit {0}

-- the parameters of a request
abbrev pub params_of : Request → List Value
params_of (requests.Exec db id params wide) = params
params_of (requests.Query db id params wide) = params
params_of (requests.ExecSql db sql params wide) = params
params_of (requests.QuerySql db sql params wide) = params
params_of request = []

-- the name of the database that a request opens holds no NUL
abbrev pub NameHasNoNul : Request → Type 0
NameHasNoNul (requests.Open name flags vfs) = has_nul name ≡ false
NameHasNoNul request = Unit {0}

-- What is wanted of a session's statements fits them: one that is let go is there, there is room for one that is prepared,
-- and statements of a text can run with these parameters.
abbrev pub FitsStatements : List (Option Prepared) → List Value → RequestPlan → Type 0
FitsStatements statements params (wanted.Prepares prepared tail) = free_id statements < 64
FitsStatements statements params (wanted.Drops id) = IsSome (prepared_at statements id)
FitsStatements statements params (wanted.RunsAll script) = CanRun params (wanted.RunsAll script)
FitsStatements statements params wanted = Unit {0}

-- a cause that needs no engine: not that an engine didn't open the files
abbrev pub IsPlainCause : RuleCause → Type 0
IsPlainCause rule_causes.NotADatabase = ⊥
IsPlainCause cause = Unit {0}

-- What the rules ask for is asked only if this holds: of a refusal, that it needs no engine; of a new database, that the log has
-- room; of other servers, that the node serves and that they differ in one; of what is done in the session's database, that it is
-- served; and of a transaction, that none is open where it begins, and one where it ends with its changes.
abbrev pub IsAllowed : View → Session → Asked → Type 0
IsAllowed v s (rules.Never cause) = IsPlainCause cause
IsAllowed v s (rules.Creates name barriers) = log_full v ≡ false
IsAllowed v s (rules.Changes servers short) = (v.serving ≡ true) × IsOneChange v v.servers servers
IsAllowed v s (rules.Begins at_once) = IsServed v s × (in_tx s ≡ false)
IsAllowed v s rules.Commits = IsServed v s × (in_tx s ≡ true)
IsAllowed v s (rules.Runs statements) = IsServed v s
IsAllowed v s (rules.Reads statement) = IsServed v s
IsAllowed v s asked = Unit {0}

-- What is wanted can be done.
pub record CanBeDone (v : View) (s : Session) (params : List Value) (w : RequestPlan) : Type 0 where
  pub allowed : IsAllowed v s (meant params w)
  pub fits : FitsStatements s.statements params w
