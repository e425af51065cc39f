use Rattle.std.proofs.Common.{◌++◌}
use Rattle.std.proofs.lemmas.Result.{err_from_is_err_and}
use Rattle.disk_model.proofs.Told.{write_idle_at, write_told_at}
use Rattle.disk_model.proofs.memory.MemDiskDisk.write_parts.Goals as goal

pub returns-in_err-turn-clause-told : goal.returns-in_err-turn-clause-told
returns-in_err-turn-clause-told c =
    let p = err_from_is_err_and c.from_residual.result c.from_residual.ensures.1 in
    rw p.1 (write_idle_at c.args.self.now c.self.inside.storage c.self.inside.calls c.args.name.now c.args.at (c.args.head.now ++ c.args.body.now ++ c.args.tail.now) _ c.self.view_is)

pub returns-clause-told : goal.returns-clause-told
returns-clause-told c =
    write_told_at c.args.self.now c.self.inside.storage c.write_parts-done.new.self c.self.inside.calls c.args.name.now c.args.at (c.args.head.now ++ c.args.body.now ++ c.args.tail.now) c.write_parts-done.result c.in_ok-turn.turn c.finish.result c.self.view_is c.write_parts-done.ensures.ok c.write_parts-done.ensures.err c.finish.ensures.answer
