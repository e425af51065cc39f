-- Queries: if the engine cuts one off, and what a reader says of one.
use Rattle.std.specs.Prelude.{◌≡◌, ◌⊎◌, ℕ, Bool, true, false, List, [], ◌∷◌, length, Option, Some, None}
use Rattle.wire_rows.specs.Answering.{parts_of}
use Rattle.sql_engine.specs.declared.answer.StatementResult.{StatementResult}
use Rattle.sql_engine.specs.declared.kind.EngineKind.{EngineKind}
use Rattle.sql_engine.specs.Replies.{Statement}
use Rattle.sql_engine.specs.Meanings.{Meaning, Told}
use Rattle.session_spec.specs.Engines.{Answer, Ending, Lacking, is_cut, no_answer, runs, used, AllowsAll}
use Rattle.session_spec.specs.Machine.{Machine}
use Rattle.session_spec.specs.Requests.{rows_cause, rows_or, inside, read_outside, job_reply}
use Rattle.session_spec.specs.Sessions.{Reply as RuleReply, Refusal, Rows, Session, Gateway, View, Transaction, Job, Turned}
use Rattle.session_table.specs.Named.{cause_named}
use Rattle.session_statements.specs.declared.ending.Ending.{Ending as CodeEnding}
use Rattle.session_statements.specs.declared.ending.Ending.TheVariants as endings
use Rattle.session_statements.specs.Running.{TellsAll}
use Rattle.session_outcomes.specs.declared.job.Read.{Read}
use Rattle.session_outcomes.specs.declared.job.Read.TheVariants as reads

-- the engine cut the statement off
abbrev pub cut_off : CodeEnding → Bool
cut_off (endings.Ended ran) = false
cut_off (endings.TooLarge answer) = false
cut_off (endings.Stopped fault) = is_cut fault

-- a query that ran ends with this, in a transaction or outside of one
abbrev pub query_in : View → Machine → Gateway → ℕ → Session → Option Transaction → Statement → Ending → Turned
query_in v m g conn s None statement ended = read_outside v m g conn s statement ended
query_in v m g conn s (Some x) statement ended = inside m g conn s x (statement ∷ []) true ended

-- what is reported, in the rules' words; nothing of a query that goes back to the node
abbrev pub read_named : Read → Option RuleReply
read_named (reads.Answers answer) = Some (Rows answer)
read_named (reads.Refused cause) = Some (Refusal (cause_named cause))
read_named reads.GivenBack = None

-- rows are reported, or why they can't be
abbrev pub RowsTold : StatementResult → Read → Type 0
RowsTold answer read = read_named read ≡ Some (rows_or (rows_cause (parts_of answer.columns answer.rows)) answer)

-- the engine answered each statement that it came to
abbrev pub IsAnswered : Ending → Type 0
IsAnswered Lacking = ⊥
IsAnswered ending = Unit {0}

-- There are answers that the engine may give to the job's query, and which it gave one after the other. They answer the query, all
-- of them are used, and by them this is told. So a query is given back only if an answer says that it would change pages.
pub record TellsJob (m : Meaning) (kind : EngineKind) (job : Job) (told_before told_now : Option Told) (read : Read) : Type 0 where
  pub answers : List Answer
  pub allowed : AllowsAll m kind job.image (job.statement ∷ []) answers
  pub told : TellsAll answers told_before told_now
  pub exact : used job.image (job.statement ∷ []) answers ≡ length answers
  pub answered : IsAnswered (runs job.image no_answer (job.statement ∷ []) answers)
  pub is : job_reply job (runs job.image no_answer (job.statement ∷ []) answers) ≡ read_named read

-- what the engine may answer to the query over its image tells this; or memory ran out, and the query goes back
abbrev pub TellsOrBack : Meaning → EngineKind → Job → Option Told → Option Told → Read → Type 0
TellsOrBack meaning kind job told_before told_now read = TellsJob meaning kind job told_before told_now read ⊎ (read ≡ reads.GivenBack)
