use Rattle.std.proofs.Common.{ℕ, length, Ok, ap, ◌∙◌}
use Rattle.std.proofs.lemmas.Result.{err_from_is_err_and}
use Rattle.wire_rows.specs.declared.reading.Next.{Next}
use Rattle.wire_rows.specs.Reading.{rows_at}
use Rattle.wire_rows.proofs.ReadLoops.{rows_more, rows_end, rows_fault, rows_none}
use Rattle.wire_rows.proofs.reading.rows.Goals as goal

pub returns-in_err-item : goal.returns-in_err-item
returns-in_err-item c =
    let p = err_from_is_err_and c.from_residual.result c.from_residual.ensures.1 in
    let so_far = c.loop.invariant ∙ ap (λ (n : ℕ). rows_at n c.args.count c.args.words.now) c.left-budget.ensures in
    rw (p.1, p.2) (rows_fault c.in_err-item.field-0.0 c.loop.rows.items c.left-budget.result c.loop.counter c.args.count c.loop.words (rows_at (length c.args.words.now.bytes) c.args.count c.args.words.now) c.loop-test.true c.in_err-item.ensures so_far)

pub returns-in-End : goal.returns-in-End
returns-in-End c =
    let so_far = c.loop.invariant ∙ ap (λ (n : ℕ). rows_at n c.args.count c.args.words.now) c.left-budget.ensures in
    let end = c.in_ok-item.ensures ∙ ap (λ (x : Next). Ok (x, c.row_or_end.new.words)) c.in-End.is in
    rows_end c.loop.rows.items c.left-budget.result c.loop.counter c.args.count c.loop.words c.row_or_end.new.words c.in-End.more (rows_at (length c.args.words.now.bytes) c.args.count c.args.words.now) c.loop-test.true end so_far

pub loop-preserved : goal.loop-preserved
loop-preserved c =
    let one = c.in_ok-item.ensures ∙ ap (λ (x : Next). Ok (x, c.row_or_end.new.words)) c.in-Row.is in
    rw c.in_ok-push-in-Row.ensures.items (rows_more c.loop.rows.items c.left-budget.result c.loop.counter c.args.count c.loop.words c.row_or_end.new.words c.in-Row.row (rows_at c.left-budget.result c.args.count c.args.words.now) c.loop-test.true one c.loop.invariant)

pub returns : goal.returns
returns c =
    let so_far = c.loop.invariant ∙ ap (λ (n : ℕ). rows_at n c.args.count c.args.words.now) c.left-budget.ensures in
    rows_none c.loop.rows.items c.left-budget.result c.loop.counter c.args.count c.loop.words (rows_at (length c.args.words.now.bytes) c.args.count c.args.words.now) c.loop-test.false so_far
