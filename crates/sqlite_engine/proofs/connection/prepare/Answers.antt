use Rattle.sqlite_engine.proofs.Marking.{pinned_by_marks, still_marked}
use Rattle.sqlite_engine.proofs.connection.prepare.Goals as goal

pub prepare_pinned-requires : goal.prepare_pinned-requires
prepare_pinned-requires c = pinned_by_marks c.args.base.now c.args.marks c.args.conn.value c.requires

pub returns-in-Ok-clause-ok_marked : goal.returns-in-Ok-clause-ok_marked
returns-in-Ok-clause-ok_marked c =
    still_marked c.args.base.now c.args.marks c.still_told-marks.result c.in-Ok.conn.value
    (rw c.deref.ensures at c.still_told-marks.ensures) c.in-Ok.ensures.ok_pinned

pub returns-in-Err-clause-err_marked : goal.returns-in-Err-clause-err_marked
returns-in-Err-clause-err_marked c =
    still_marked c.args.base.now c.args.marks c.still_told-marks-in-Err.result c.in-Err.conn.value
    (rw c.deref-in-Err.ensures at c.still_told-marks-in-Err.ensures) c.in-Err.ensures.err_pinned
