use Rattle.std.proofs.Common.{sym, subst}
use Rattle.dq_base.specs.declared.images.Image.{Image}
use Rattle.sqlite_facts.specs.Counts.{LooksOnly}
use Rattle.sqlite.specs.Files.{file_state}
use Rattle.sqlite.specs.Listing.{understood}
use Rattle.sqlite.specs.Values.{bound}
use Rattle.sqlite_engine.specs.Led.{Led, IsRefused}
use Rattle.sqlite_engine.specs.Leaving.{IsLeftOver}
use Rattle.sqlite_engine.specs.Looking.{HasReturning, ReturnsNothing}
use Rattle.sqlite_engine.specs.Shows.{showing}
use Rattle.sqlite_engine.specs.Sql.{Conn, HasColumns}
use Rattle.std.specs.Prelude.{◌≡◌, ◌<◌, [], length, IfOk, IfErr, IfSome}
use Rattle.sqlite_engine.proofs.running.run_columns.Goals as goal

pub show_rows-requires-clause-columns : goal.show_rows-requires-clause-columns
show_rows-requires-clause-columns c =
    subst (λ (k : Conn). HasColumns (file_state k) c.args.text.now c.args.statement.now.columns)
    (λ i. (sym c.looks_only-kept.ensures.conn i).value) c.requires

pub show_rows-requires-clause-only : goal.show_rows-requires-clause-only
show_rows-requires-clause-only c is =
    subst (λ (k : Conn). ∥ LooksOnly (understood (file_state k).now.schema c.args.text.now) ∥₁)
    (λ i. (sym c.looks_only-kept.ensures.conn i).value) (c.looks_only-kept.ensures.looks is)

pub show_rows-requires-clause-returns : goal.show_rows-requires-clause-returns
show_rows-requires-clause-returns c is =
    subst (λ (k : Conn). HasReturning (understood (file_state k).now.schema c.args.text.now))
    (λ i. (sym c.looks_only-kept.ensures.conn i).value) (c.looks_only-kept.ensures.returns is)

pub returns-clause-led : goal.returns-clause-led
returns-clause-led c =
    subst (λ (b : Image). IfOk c.show_rows.result (λ r.
    Led b c.args.text.now (bound c.args.params.now) c.args.tx (showing c.args.statement.now.columns r.1) r.2))
    c.looks_only-kept.ensures.base c.show_rows.ensures.led

pub returns-clause-over : goal.returns-clause-over
returns-clause-over c =
    subst (λ (b : Image). IfOk c.show_rows.result (λ r. IsLeftOver b r.2 r.0)) c.looks_only-kept.ensures.base c.show_rows.ensures.over

pub returns-clause-looks : goal.returns-clause-looks
returns-clause-looks c =
    subst (λ (b : Image). IfOk c.show_rows.result (λ r. 0 < length c.args.statement.now.columns → ReturnsNothing b c.args.text.now → r.2.pages ≡ []))
    c.looks_only-kept.ensures.base c.show_rows.ensures.looks

pub returns-clause-left : goal.returns-clause-left
returns-clause-left c =
    subst (λ (b : Image). IfErr c.show_rows.result (λ failure. IfSome failure.left (λ left. left.base ≡ b)))
    c.looks_only-kept.ensures.base c.show_rows.ensures.left

pub returns-clause-fails : goal.returns-clause-fails
returns-clause-fails c =
    let Refused : Image → Conn → Type 0 = λ b k.
    IfErr c.show_rows.result (λ failure. IsRefused b k.step_limit c.args.text.now (bound c.args.params.now) failure.error) in
    subst (λ (b : Image). Refused b c.args.kept.conn.value) c.looks_only-kept.ensures.base
    (subst (Refused c.looks_only-kept.result.0.base) (λ i. (c.looks_only-kept.ensures.conn i).value) c.show_rows.ensures.fails)
