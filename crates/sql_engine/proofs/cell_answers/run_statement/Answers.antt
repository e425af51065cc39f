use Rattle.std.proofs.Common.{◌≡◌, eqb, length, Some, None, Result, refl, sym, ap, subst, ◌∙◌, inr}
use Rattle.std.proofs.lemmas.Bool.{eqb-true, eq-eqb, both_ways}
use Rattle.sql_engine.specs.Replies.{Statement}
use Rattle.sql_engine.specs.Meanings.{Refusal, sql}
use Rattle.sql_engine.specs.CellTexts.{statement_of}
use Rattle.sql_engine.specs.Cells.{Outcome, cell_outcome, outcome_of}
use Rattle.sql_engine.specs.CellAnswers.{Performs}
use Rattle.sql_engine.proofs.CellOutcomes.{outcome_is, outcome_refused}
use Rattle.sql_engine.proofs.SpelledCells.{statement_is}
use Rattle.sql_engine.proofs.cell_answers.run_statement.Goals as goal

pub returns-then-not-is_empty : goal.returns-then-not-is_empty
returns-then-not-is_empty c =
    let s : Statement = record { text = c.args.text.now; params = c.args.params.now } in
    inr (sql, (outcome_refused c.args.image.now s (λ none. both_ways (eqb (length c.args.params.now) 0) (sym (c.if-not-is_empty.ensures)) (eq-eqb (length c.args.params.now) 0 none)), refl))

pub perform-requires-clause-range : goal.perform-requires-clause-range
perform-requires-clause-range c =
    let read : statement_of c.args.text.now ≡ Some c.in-Some.statement = ap statement_of (sym c.as_bytes.ensures.value) ∙ sym c.in-Some.ensures in
    (statement_is c.args.text.now c.in-Some.statement read).in_range

pub returns-in-Some : goal.returns-in-Some
returns-in-Some c =
    let s : Statement = record { text = c.args.text.now; params = c.args.params.now } in
    let read : statement_of c.args.text.now ≡ Some c.in-Some.statement = ap statement_of (sym c.as_bytes.ensures.value) ∙ sym c.in-Some.ensures in
    let none : length c.args.params.now ≡ 0 = eqb-true (length c.args.params.now) 0 (sym c.if-not-is_empty.ensures) in
    let is : outcome_of c.args.image.now s ≡ cell_outcome c.args.image.now (Some c.in-Some.statement) = outcome_is c.args.image.now s (Some c.in-Some.statement) none read in
    subst (λ (does : Result Outcome Refusal). Performs c.args.image.now c.args.tx does c.perform.result) (sym is) c.perform.ensures

pub returns-in-None : goal.returns-in-None
returns-in-None c =
    let s : Statement = record { text = c.args.text.now; params = c.args.params.now } in
    let read : statement_of c.args.text.now ≡ None = ap statement_of (sym c.as_bytes.ensures.value) ∙ sym c.in-None.ensures in
    let none : length c.args.params.now ≡ 0 = eqb-true (length c.args.params.now) 0 (sym c.if-not-is_empty.ensures) in
    inr (sql, (outcome_is c.args.image.now s None none read, refl))
