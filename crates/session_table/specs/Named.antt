-- The causes, replies and kinds of the rules, by those of code.
use Rattle.std.specs.Prelude.{◌≡◌, ℕ, List, [], Some, None, Result, Ok, Err}
use Rattle.wire_rows.specs.Answering.{parts_of}
use Rattle.sql_engine.specs.declared.answer.StatementResult.{StatementResult}
use Rattle.session_spec.specs.Causes as rules
use Rattle.session_spec.specs.Requests.{rows_cause}
use Rattle.session_spec.specs.Causes.{Cause as RuleCause}
use Rattle.session_spec.specs.Sessions.{Reply as RuleReply, Single, Rows, Kind, Opening, Configuring, Writing, Committing, Querying, Due, Lent}
use Rattle.session_spec.specs.Sessions.{Later as RuleLater}
use Rattle.session_table.specs.declared.cause.Cause.{Cause}
use Rattle.session_table.specs.declared.reply.Reply.{Reply}
use Rattle.session_table.specs.declared.reply.Reply.TheVariants as replies
use Rattle.session_table.specs.declared.session.ProposalKind.{ProposalKind}
use Rattle.session_table.specs.declared.session.ProposalKind.TheVariants as kinds
use Rattle.session_table.specs.declared.session.WaitingQuery.{WaitingQuery}
use Rattle.session_table.specs.declared.session.WaitingQuery.TheVariants as laters
use Rattle.session_table.specs.declared.cause.Cause.TheVariants as causes

abbrev pub cause_named : Cause → RuleCause
cause_named causes.BadRequest = rules.BadRequest
cause_named causes.FloatParameter = rules.FloatParameter
cause_named causes.NotLeader = rules.NotLeader
cause_named causes.LeadershipLost = rules.LeadershipLost
cause_named causes.DatabaseOpen = rules.DatabaseOpen
cause_named causes.ChangeInFlight = rules.ChangeInFlight
cause_named causes.NoDatabase = rules.NoDatabase
cause_named causes.NoStatement = rules.NoStatement
cause_named causes.OpenQuote = rules.OpenQuote
cause_named causes.OpenComment = rules.OpenComment
cause_named causes.NamedParameter = rules.NamedParameter
cause_named causes.BadParameterNumber = rules.BadParameterNumber
cause_named causes.NotAllowed = rules.NotAllowed
cause_named causes.OneStatementWanted = rules.OneStatementWanted
cause_named causes.WrongParameters = rules.WrongParameters
cause_named causes.InTransaction = rules.InTransaction
cause_named causes.NoTransaction = rules.NoTransaction
cause_named causes.BadName = rules.BadName
cause_named causes.BadNode = rules.BadNode
cause_named causes.BadRole = rules.BadRole
cause_named causes.BadFormat = rules.BadFormat
cause_named causes.TargetBehind = rules.TargetBehind
cause_named causes.TransferFirst = rules.TransferFirst
cause_named causes.TooManyVoters = rules.TooManyVoters
cause_named causes.TooManyStatements = rules.TooManyStatements
cause_named causes.TooManyDatabases = rules.TooManyDatabases
cause_named causes.LogFull = rules.LogFull
cause_named causes.ConstraintFailed = rules.ConstraintFailed
cause_named causes.SqlError = rules.SqlError
cause_named causes.NotADatabase = rules.NotADatabase
cause_named causes.FloatColumn = rules.FloatColumn
cause_named causes.NotUtf8 = rules.NotUtf8
cause_named causes.OutOfMemory = rules.OutOfMemory
cause_named causes.NulInText = rules.NulInText
cause_named causes.AnswerTooBig = rules.AnswerTooBig
cause_named causes.Locked = rules.Locked
cause_named causes.OutOfDate = rules.OutOfDate
cause_named causes.DatabaseFull = rules.DatabaseFull

abbrev pub reply_named : Reply → RuleReply
reply_named (replies.Single response) = Single response
reply_named (replies.Rows answer) = Rows answer

abbrev pub kind_named : ProposalKind → Kind
kind_named (kinds.Opening name) = Opening
kind_named (kinds.Configuring short) = Configuring short
kind_named (kinds.Writing name pages reply) = Writing (reply_named reply)
kind_named (kinds.Committing name pages) = Committing
kind_named (kinds.Querying query) = Querying query

-- the database of a proposal; the empty name where it is for none
abbrev pub name_for : ProposalKind → List ℕ
name_for (kinds.Opening name) = name
name_for (kinds.Configuring short) = []
name_for (kinds.Writing name pages reply) = name
name_for (kinds.Committing name pages) = name
name_for (kinds.Querying query) = []

-- how many pages it has after the proposal, if that changes them
abbrev pub pages_for : ProposalKind → ℕ
pages_for (kinds.Opening name) = 0
pages_for (kinds.Configuring short) = 0
pages_for (kinds.Writing name pages reply) = pages
pages_for (kinds.Committing name pages) = pages
pages_for (kinds.Querying query) = 0

abbrev pub later_named : WaitingQuery → RuleLater
later_named (laters.Due query) = Due query
later_named (laters.Lent query) = Lent query

-- The rows of an answer are told, if they can be; else the cause is that for which they can't.
abbrev pub TellsRows : StatementResult → Result StatementResult Cause → Type 0
TellsRows answer (Ok told) = (told ≡ answer) × (rows_cause (parts_of answer.columns answer.rows) ≡ None)
TellsRows answer (Err cause) = rows_cause (parts_of answer.columns answer.rows) ≡ Some (cause_named cause)
