use Rattle.disk_model.proofs.Storing.{names_done}
use Rattle.disk_model.proofs.storage.Storage.sync_names.Goals as goal

pub returns : goal.returns
returns c = names_done c.args.self.now c.self.inside.folder c.put_names_down.new.self c.self.inside.uncovered.items c.cover_names.new.calls.items c.self.view_is c.put_names_down.ensures c.cover_names.ensures
