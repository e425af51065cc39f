use Rattle.disk_model.proofs.Told.{crash_told_at}
use Rattle.disk_model.proofs.memory.MemDisk.crash.Goals as goal

pub returns-clause-told : goal.returns-clause-told
returns-clause-told c = crash_told_at c.args.self.now c.self.inside.storage c.crash.new.self c.self.inside.calls _ c.self.view_is c.in_ok-crash.ensures.ok
