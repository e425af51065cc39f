use Rattle.std.proofs.Common.{◌≡◌, ℕ, List, map, ◌++◌, sym, ap, subst, ◌∙◌}
use Rattle.wire_rows.specs.Cut.{cut, bodies}
use Rattle.sql_engine.specs.declared.answer.StatementResult.{StatementResult}
use Rattle.wire_msgs.specs.declared.response.Response.{Response}
use Rattle.wire_msgs.specs.declared.response.Response.TheVariants as responses
use Rattle.session_table.specs.declared.reply.Reply.{Reply}
use Rattle.session_table.specs.Named.{reply_named}
use Rattle.session_table.specs.Sweeping.{told_in}
use Rattle.session_table.proofs.Telling.{told_rows}
use Rattle.session_table.proofs.reply.Reply.tell.Goals as goal

pub returns-in-Rows-clause-items : goal.returns-in-Rows-clause-items
returns-in-Rows-clause-items c =
    let parts : List (List ℕ) = bodies c.in-Rows.rows.columns (cut c.in-Rows.rows.columns c.in-Rows.rows.rows) in
    let told : c.from_vec-bodies.result.items ≡ parts = c.from_vec-bodies.ensures.items ∙ c.into_vec.ensures ∙ c.rows.invariant.0 ∙ ap (λ (ran : StatementResult). bodies ran.columns (cut ran.columns ran.rows)) c.rows.view_is in
    let behind : List (ℕ × Response) → List (ℕ × Response) = λ (more : List (ℕ × Response)). c.args.told.now.items ++ more in
    subst (λ (reply : Reply). c.tell_rows.new.told.items ≡ behind (told_in (c.args.conn, reply_named reply))) (sym c.in-Rows.is)
    (c.tell_rows.ensures.items ∙ ap behind (ap (map (λ (body : List ℕ). (c.args.conn, responses.Rows body))) told ∙ told_rows c.args.conn parts))
