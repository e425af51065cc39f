use Rattle.std.proofs.Common.{refl, sym, subst, ◌∙◌}
use Rattle.sqlite.specs.Files.{file_state}
use Rattle.sqlite.specs.State.{Shown, FailsToQuery}
use Rattle.sqlite.specs.Values.{bound}
use Rattle.sqlite_engine.specs.Sql.{Conn}
use Rattle.sqlite_engine.proofs.Clean.{always_clean}
use Rattle.sqlite_engine.proofs.connection.query_pinned.Goals as goal

pub returns-in-Ok-clause-ok : goal.returns-in-Ok-clause-ok
returns-in-Ok-clause-ok g c =
    let text = c.args.text.now.text.now in let params = bound c.args.params.now in
    subst (λ (d : Conn). Shown text params (file_state c.args.conn.value) (file_state d) c.in-Ok.rows.items) (sym c.loosened.ensures.value)
    (subst (λ (d : Conn). Shown text params (file_state d) (file_state c.query_all.new.self) c.in-Ok.rows.items)
    (c.deref_mut.ensures.value ∙ c.pinned-conn.ensures)
    (c.in-Ok.ensures.ok (always_clean (λ _. refl) c.query_all.new.self)))

pub returns-in-Err-clause-err : goal.returns-in-Err-clause-err
returns-in-Err-clause-err g c =
    let text = c.args.text.now.text.now in let params = bound c.args.params.now in
    subst (λ (d : Conn). FailsToQuery text params (file_state c.args.conn.value) (file_state d) c.in-Err.error) (sym c.loosened-in-Err.ensures.value)
    (subst (λ (d : Conn). FailsToQuery text params (file_state d) (file_state c.query_all.new.self) c.in-Err.error)
    (c.deref_mut.ensures.value ∙ c.pinned-conn.ensures)
    (c.in-Err.ensures.err (always_clean (λ _. refl) c.query_all.new.self)))
