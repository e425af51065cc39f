use Rattle.disk_model.proofs.Storing.{crash_done}
use Rattle.disk_model.proofs.storage.Storage.crash.Goals as goal

pub returns-clause-ok : goal.returns-clause-ok
returns-clause-ok c =
    crash_done c.args.self.now c.self.inside.folder c.in_ok-self-inside.field-0 c.self.inside.uncovered.items c.clear.new.self.items c.self.view_is c.args.pick c.as_slice.result.now c.in_ok-folder.folder c.replay_picked.new.folder
    c.as_slice.ensures.value c.in_ok-folder.ensures c.in_ok-replay_picked.ensures c.in_ok-self-inside.ensures c.clear.ensures.items
