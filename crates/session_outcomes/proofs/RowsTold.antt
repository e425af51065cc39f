-- Rows that are told, or not.
use Rattle.std.proofs.Common.{◌≡◌, Bool, true, false, cond, Option, Some, Ok, Err, sym, ap, ◌∙◌}
use Rattle.wire_msgs.specs.declared.response.Response.TheVariants as responses
use Rattle.wire_rows.specs.Answering.{parts_of}
use Rattle.sql_engine.specs.declared.answer.StatementResult.{StatementResult}
use Rattle.session_spec.specs.Causes.{Cause as RuleCause}
use Rattle.session_spec.specs.Sessions.{Single, Rows}
use Rattle.session_spec.specs.Requests.{rows_cause, or_cause, row_cause, reply_of}
use Rattle.session_table.specs.declared.cause.Cause.{Cause}
use Rattle.session_table.specs.Named.{cause_named, TellsRows}

-- no rows are to be sent
pub plain_told : (rows : Bool) (answer : StatementResult) → rows ≡ false → (Single (responses.Result 0 answer.affected) ≡ reply_of rows answer) × ((later : Option RuleCause) → row_cause rows answer later ≡ later)
unfolding row_cause
plain_told rows answer miss = (
  ap (λ (b : Bool). reply_of b answer) (sym miss),
  λ later. ap (λ (b : Bool). cond b (or_cause (rows_cause (parts_of answer.columns answer.rows)) later) later) miss,
)

-- they are told
pub rows_told : (rows : Bool) (answer told : StatementResult) → rows ≡ true → TellsRows answer (Ok told) → (Rows told ≡ reply_of rows answer) × ((later : Option RuleCause) → row_cause rows answer later ≡ later)
unfolding row_cause
rows_told rows answer told hit tells = (
  ap Rows tells.0 ∙ ap (λ (b : Bool). reply_of b answer) (sym hit),
  λ later. ap (λ (b : Bool). cond b (or_cause (rows_cause (parts_of answer.columns answer.rows)) later) later) hit ∙ ap (λ (cause : Option RuleCause). or_cause cause later) tells.1,
)

-- they can't be sent
pub rows_refused : (rows : Bool) (answer : StatementResult) (cause : Cause) → rows ≡ true → TellsRows answer (Err cause) → (later : Option RuleCause) → row_cause rows answer later ≡ Some (cause_named cause)
unfolding row_cause
rows_refused rows answer cause hit tells later =
    ap (λ (b : Bool). cond b (or_cause (rows_cause (parts_of answer.columns answer.rows)) later) later) hit ∙ ap (λ (c : Option RuleCause). or_cause c later) tells
