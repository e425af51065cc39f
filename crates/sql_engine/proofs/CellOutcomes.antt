-- What answers say of the outcomes of statements of cells.
use Rattle.std.proofs.Common.{◌≡◌, ℕ, ◌*◌, ◌%◌, ◌+◌, ◌^◌, ◌<◌, ◌≤◌, true, false, cond, eqb, ltb, List, [], ◌∷◌, length, take, codes, Option, Some, None, Result, Ok, Err, IfOk, IfErr, refl, sym, ap, subst, ◌∙◌, arith, inl, inr}
use Rattle.std.proofs.lemmas.Bool.{cond-true, cond-false, eq-eqb, ne_eqb}
use Rattle.std.proofs.lemmas.List.{length-take}
use Rattle.dq_base.specs.declared.images.Image.{Image}
use Rattle.dq_base.specs.Images.{page_at}
use Rattle.dq_base.specs.Changes.{changed}
use Rattle.wire_words.specs.declared.value.Value.{Value}
use Rattle.sql_engine.specs.declared.answer.StatementResult.{StatementResult}
use Rattle.sql_engine.specs.declared.cell_statement.CellStatement.{CellStatement}
use Rattle.sql_engine.specs.declared.fault.EngineFault.{EngineFault}
use Rattle.sql_engine.specs.declared.kind.EngineKind.TheVariants.{Cells}
use Rattle.sql_engine.specs.Replies.{Statement, Reply, fault_in, plain_rows, IsTable}
use Rattle.sql_engine.specs.Meanings.{Refusal, constraint, sql, IsShort, Answers, Faults}
use Rattle.sql_engine.specs.CellTexts.{statement_of}
use Rattle.sql_engine.specs.Cells.{cell_page, with_page, changes_in, with_main, with_cell, wiped, told, cell_rows, read, cell_outcome, outcome_of, cells}
use Rattle.sql_engine.specs.CellAnswers.{TellsOutcome, fault_of, Performs}
use Rattle.sql_engine.proofs.CellFiles.{length-cell_page, length-with_page}

-- ---- files that stay short

short_main : (image : Image) (main : List ℕ) → IsShort image → length main < 2 ^ 64 → IsShort (with_main image main)
short_main image main short fits =
    let count : ℕ = (changes_in image + 1) % 2 ^ 64 in
    let len = length-with_page image.side 1 (cell_page count) (length-cell_page count) in
    let side = short.side in
    record { main = fits; side = omega arith }

pub short_cell : (image : Image) (page value : ℕ) → IsShort image → page ≤ 8192 → IsShort (with_cell image page value)
unfolding with_cell
short_cell image page value short le =
    let len = length-with_page image.main page (cell_page value) (length-cell_page value) in
    let main = short.main in
    short_main image (with_page image.main page (cell_page value)) short (omega arith)

pub short_wiped : (image : Image) (pages : ℕ) → IsShort image → IsShort (wiped image pages)
unfolding wiped
short_wiped image pages short =
    let len = length-take (4096 * pages) image.main in
    let main = short.main in
    let cut : IsShort (with_main image (take (4096 * pages) image.main)) = short_main image (take (4096 * pages) image.main) short (omega arith) in
    elim (ltb (4096 * pages) (length image.main)) as (λ t. IsShort (cond t (with_main image (take (4096 * pages) image.main)) image)) [ true ↦ cut | false ↦ short ]

-- ---- answers that tell an outcome

no_fault : fault_in [] ≡ None
unfolding fault_in
no_fault = refl

no_table : IsTable [] []
no_table = record { named = tt; wide = tt; empty = λ e. refl }

abbrev replied : ℕ → List (List ℕ) → List (List Value) → Reply
replied affected columns rows = record { affected = affected; columns = columns; rows = plain_rows rows }

same_reply : (affected other : ℕ) (columns names : List (List ℕ)) (rows values : List (List Value)) → affected ≡ other → columns ≡ names → rows ≡ values
    → replied affected columns rows ≡ replied other names values
same_reply affected other columns names rows values a c r = λ i. record { affected = a i; columns = c i; rows = plain_rows (r i) }

-- an answer without columns
pub tells_told : (image after : Image) (tx affected : ℕ) (ran : StatementResult) → IsShort after → ran.after ≡ record { tx = tx; pages = changed image after } → ran.affected ≡ affected → ran.columns ≡ [] → ran.rows ≡ []
    → TellsOutcome image tx (record { after = after; reply = told affected }) ran
tells_told image after tx affected ran short pages affected_is columns_are rows_are =
    record {
      short = short;
      reply = same_reply ran.affected affected ran.columns [] ran.rows [] affected_is columns_are rows_are;
      pages = pages;
      readable = ap (λ (rows : List (List Value)). fault_in (plain_rows rows)) rows_are ∙ no_fault;
      table = subst (λ (rows : List (List Value)). IsTable ran.columns rows) (sym rows_are) (subst (λ (columns : List (List ℕ)). IsTable columns []) (sym columns_are) no_table);
    }

cells_readable : (page : Option (List ℕ)) → fault_in (plain_rows (cell_rows page)) ≡ None
unfolding fault_in
cells_readable None = refl
cells_readable (Some page) = refl

one_column : (page : Option (List ℕ)) → IsTable (codes "v" ∷ []) (cell_rows page)
one_column None = record { named = (refl, tt); wide = tt; empty = λ e. refl }
one_column (Some page) = record { named = (refl, tt); wide = (refl, tt); empty = λ e. absurd cc }

-- an answer with the value of a cell
pub tells_read : (image : Image) (page tx : ℕ) (ran : StatementResult) → IsShort image → ran.after ≡ record { tx = tx; pages = changed image image } → ran.affected ≡ 0 → ran.columns ≡ codes "v" ∷ [] → ran.rows ≡ cell_rows (page_at image (2 * page))
    → TellsOutcome image tx (read image page) ran
tells_read image page tx ran short pages affected_is columns_are rows_are =
    let cell : Option (List ℕ) = page_at image (2 * page) in
    record {
      short = short;
      reply = same_reply ran.affected 0 ran.columns (codes "v" ∷ []) ran.rows (cell_rows cell) affected_is columns_are rows_are;
      pages = pages;
      readable = ap (λ (rows : List (List Value)). fault_in (plain_rows rows)) rows_are ∙ cells_readable cell;
      table = subst (λ (rows : List (List Value)). IsTable ran.columns rows) (sym rows_are) (subst (λ (columns : List (List ℕ)). IsTable columns (cell_rows cell)) (sym columns_are) (one_column cell));
    }

-- ---- the outcome of a statement

pub outcome_is : (image : Image) (s : Statement) (o : Option CellStatement) → length s.params ≡ 0 → statement_of s.text ≡ o → outcome_of image s ≡ cell_outcome image o
unfolding outcome_of
outcome_is image s o none is =
    cond-true (eqb (length s.params) 0) (cell_outcome image (statement_of s.text)) (Err sql) (eq-eqb (length s.params) 0 none) ∙ ap (cell_outcome image) is

pub outcome_refused : (image : Image) (s : Statement) → (length s.params ≡ 0 → ⊥) → outcome_of image s ≡ Err sql
unfolding outcome_of
outcome_refused image s some =
    cond-false (eqb (length s.params) 0) (cell_outcome image (statement_of s.text)) (Err sql) (ne_eqb (length s.params) 0 some)

-- ---- the clauses of an engine

pub performed_answers : (image : Image) (s : Statement) (tx : ℕ) (result : Result StatementResult EngineFault) → Performs image tx (outcome_of image s) result → IfOk result (Answers cells image s tx)
performed_answers image s tx (Ok ran) (outcome, (does, tells)) =
    record {
      after = outcome.after;
      short = tells.short;
      runs = does ∙ ap (λ (r : Reply). Ok (record { after = outcome.after; reply = r })) (sym tells.reply);
      pages = tells.pages;
      readable = tells.readable;
      table = tells.table;
    }
performed_answers image s tx (Err fault) p = tt

refused_so : (image : Image) (s : Statement) (refusal : Refusal) → outcome_of image s ≡ Err refusal → Faults cells Cells image s (fault_of refusal)
refused_so image s constraint does = does
refused_so image s sql does = does

pub performed_faults : (image : Image) (s : Statement) (tx : ℕ) (result : Result StatementResult EngineFault) → Performs image tx (outcome_of image s) result → IfErr result (Faults cells Cells image s)
performed_faults image s tx (Ok ran) p = tt
performed_faults image s tx (Err fault) (inl memory) = subst (Faults cells Cells image s) (sym memory) tt
performed_faults image s tx (Err fault) (inr (refusal, (does, is))) = subst (Faults cells Cells image s) (sym is) (refused_so image s refusal does)
