-- The reply to statements that ran, or why their rows can't be sent; what hinders a change of pages.
use Rattle.std.specs.Prelude.{◌≡◌, Bool, Option, Some, Result, Ok, Err}
use Rattle.sql_engine.specs.declared.answer.StatementResult.{StatementResult}
use Rattle.session_spec.specs.Causes.{Cause as RuleCause}
use Rattle.session_spec.specs.Requests.{row_cause, reply_of}
use Rattle.session_table.specs.declared.cause.Cause.{Cause}
use Rattle.session_table.specs.declared.reply.Reply.{Reply}
use Rattle.session_table.specs.Named.{cause_named, reply_named}

-- The reply is that of the rules, and nothing hinders telling it; or this cause does, before any other that is tried later.
abbrev pub TellsReply : Bool → StatementResult → Result Reply Cause → Type 0
TellsReply rows answer (Ok reply) = (reply_named reply ≡ reply_of rows answer) × ((later : Option RuleCause) → row_cause rows answer later ≡ later)
TellsReply rows answer (Err cause) = (later : Option RuleCause) → row_cause rows answer later ≡ Some (cause_named cause)
