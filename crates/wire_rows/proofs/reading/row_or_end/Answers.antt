use Rattle.std.proofs.Common.{inl, inr, arith}
use Rattle.wire_rows.proofs.Ends.{end_only, end_or_fault, next_is_row}
use Rattle.wire_rows.proofs.reading.row_or_end.Goals as goal
use Rattle.wire_rows.proofs.reading.row_or_end.Goals.{then-count-eq0-via-then-count-eq0, then-count-eq0-via-else-count-eq0+then-left-eq0}

pub returns-then-count-eq0 : goal.returns-then-count-eq0
returns-then-count-eq0 c =
    end_only c.args.count c.args.words.now c.end_or.new.words c.end_or.result
    (elim c.then-count-eq0.branch [ then-count-eq0-via-then-count-eq0 w ↦ inl (omega arith) | then-count-eq0-via-else-count-eq0+then-left-eq0 w ↦ inr (omega arith) ]) c.end_or.ensures

pub returns-in-Ok : goal.returns-in-Ok
returns-in-Ok c = rw c.new.ensures (next_is_row c.args.count c.args.words.now c.row.new.self c.in-Ok.values.items (omega arith) (omega arith) c.in-Ok.ensures)

pub returns-in-Err : goal.returns-in-Err
returns-in-Err c =
    end_or_fault c.args.count c.args.words.now c.row.new.self c.end_or-in-Err.new.words c.in-Err.fault c.from.result c.end_or-in-Err.result (omega arith) (omega arith) c.in-Err.ensures.0 c.in-Err.ensures.1 c.from.ensures c.end_or-in-Err.ensures
