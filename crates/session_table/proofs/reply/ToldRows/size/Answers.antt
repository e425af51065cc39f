use Rattle.std.proofs.Common.{List, ℕ, ap, ◌∙◌}
use Rattle.wire_rows.specs.Answering.{held}
use Rattle.wire_rows.specs.Cut.{cut, bodies, total_size}
use Rattle.sql_engine.specs.declared.answer.StatementResult.{StatementResult}
use Rattle.session_table.proofs.reply.ToldRows.size.Goals as goal

pub returns : goal.returns
returns c =
    c.self.invariant.1
    ∙ ap (λ (told : List (List ℕ)). held (total_size told)) c.self.invariant.0
    ∙ ap (λ (ran : StatementResult). held (total_size (bodies ran.columns (cut ran.columns ran.rows)))) c.self.view_is
