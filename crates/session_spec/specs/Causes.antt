-- Why a request is refused, with the code and the text of each failure.
use Rattle.std.specs.Prelude.{ℕ, List, codes}
use Rattle.wire_words.specs.declared.fault.WordFault.TheVariants.{Float}
use Rattle.wire_msgs.specs.declared.fault.MsgFault.{MsgFault}
use Rattle.wire_msgs.specs.declared.fault.MsgFault.TheVariants.{Word}
use Rattle.wire_msgs.specs.declared.response.Response.{Response}
use Rattle.wire_msgs.specs.declared.response.Response.TheVariants as responses
use Rattle.sql_scan.specs.declared.fault.ScanFault.{ScanFault}
use Rattle.sql_scan.specs.declared.fault.ScanFault.TheVariants as scan_faults
use Rattle.sql_engine.specs.declared.fault.EngineFault.{EngineFault}
use Rattle.sql_engine.specs.declared.fault.EngineFault.TheVariants as engine_faults

-- Why a request is refused. `BadRequest` and `FloatParameter` are for messages that don't read as a request; all others are
-- for requests.
pub data Cause : Type 0 where
  BadRequest FloatParameter : Cause
  NotLeader LeadershipLost : Cause
  DatabaseOpen ChangeInFlight : Cause
  NoDatabase NoStatement : Cause
  OpenQuote OpenComment NamedParameter BadParameterNumber : Cause
  NotAllowed OneStatementWanted WrongParameters InTransaction NoTransaction : Cause
  BadName BadNode BadRole BadFormat TargetBehind TransferFirst TooManyVoters : Cause
  TooManyStatements TooManyDatabases LogFull : Cause
  ConstraintFailed SqlError NotADatabase FloatColumn NotUtf8 OutOfMemory : Cause
  NulInText AnswerTooBig : Cause
  Locked OutOfDate DatabaseFull : Cause

-- the code that the client is sent
abbrev pub code : Cause → ℕ
code BadRequest = 1005
code FloatParameter = 20
code NotLeader = 10250
code LeadershipLost = 10506
code DatabaseOpen = 5
code ChangeInFlight = 5
code NoDatabase = 12
code NoStatement = 12
code OpenQuote = 1
code OpenComment = 1
code NamedParameter = 1
code BadParameterNumber = 1
code NotAllowed = 1
code OneStatementWanted = 1
code WrongParameters = 1
code InTransaction = 1
code NoTransaction = 1
code BadName = 1
code BadNode = 1
code BadRole = 1
code BadFormat = 1
code TargetBehind = 1
code TransferFirst = 1
code TooManyVoters = 1
code TooManyStatements = 13
code TooManyDatabases = 13
code LogFull = 13
code ConstraintFailed = 19
code SqlError = 1
code NotADatabase = 26
code FloatColumn = 20
code NotUtf8 = 1
code OutOfMemory = 7
code NulInText = 1
code AnswerTooBig = 18
code Locked = 5
code OutOfDate = 517
code DatabaseFull = 13

-- the text beside it
abbrev pub message : Cause → List ℕ
message BadRequest = codes "bad request"
message FloatParameter = codes "float parameter"
message NotLeader = codes "not leader"
message LeadershipLost = codes "leadership lost"
message DatabaseOpen = codes "a database for this connection is already open"
message ChangeInFlight = codes "a cluster change is in progress"
message NoDatabase = codes "no such database"
message NoStatement = codes "no such statement"
message OpenQuote = codes "open quote"
message OpenComment = codes "open comment"
message NamedParameter = codes "named parameter"
message BadParameterNumber = codes "bad parameter number"
message NotAllowed = codes "statement not allowed"
message OneStatementWanted = codes "one statement wanted"
message WrongParameters = codes "wrong parameter count"
message InTransaction = codes "already in a transaction"
message NoTransaction = codes "no transaction"
message BadName = codes "bad name"
message BadNode = codes "bad node"
message BadRole = codes "bad role"
message BadFormat = codes "bad format"
message TargetBehind = codes "target behind"
message TransferFirst = codes "transfer first"
message TooManyVoters = codes "too many voters"
message TooManyStatements = codes "too many statements"
message TooManyDatabases = codes "too many databases"
message LogFull = codes "log is full"
message ConstraintFailed = codes "constraint failed"
message SqlError = codes "SQL error"
message NotADatabase = codes "file is not a database"
message FloatColumn = codes "float column"
message NotUtf8 = codes "text is not UTF-8"
message OutOfMemory = codes "out of memory"
message NulInText = codes "NUL in text"
message AnswerTooBig = codes "answer too big"
message Locked = codes "database is locked"
message OutOfDate = codes "snapshot is out of date"
message DatabaseFull = codes "database is full"

-- a refusal as it is sent
abbrev pub failure : Cause → Response
failure cause = responses.Failure (code cause) (message cause)

-- of a message that doesn't read as a request
abbrev pub unread_cause : MsgFault → Cause
unread_cause (Word (Float at)) = FloatParameter
unread_cause fault = BadRequest

-- of a text that can't be split into statements
abbrev pub scan_cause : ScanFault → Cause
scan_cause (scan_faults.OpenQuote at) = OpenQuote
scan_cause (scan_faults.OpenComment at) = OpenComment
scan_cause (scan_faults.Named at) = NamedParameter
scan_cause (scan_faults.Number at) = BadParameterNumber
scan_cause scan_faults.NoMemory = OutOfMemory

-- of a statement that an engine refuses
abbrev pub engine_cause : EngineFault → Cause
engine_cause engine_faults.Constraint = ConstraintFailed
engine_cause engine_faults.Sql = SqlError
engine_cause (engine_faults.Float row column) = FloatColumn
engine_cause (engine_faults.NotText row column) = NotUtf8
engine_cause engine_faults.Unopened = NotADatabase
engine_cause engine_faults.Cut = OutOfMemory
engine_cause engine_faults.NoMemory = OutOfMemory
