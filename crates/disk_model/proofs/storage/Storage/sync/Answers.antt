use Rattle.std.proofs.Common.{rules, ◌≡◌, true, refl}
use Rattle.disk_model.specs.Stored.{memory_of}
use Rattle.disk_model.proofs.Storing.{held_err, same_memory, sync_done}
use Rattle.disk_model.proofs.storage.Storage.sync.Goals as goal

pub returns-in_err-commit_synced-clause-err : goal.returns-in_err-commit_synced-clause-err
returns-in_err-commit_synced-clause-err c =
    held_err c.from_residual.result (same_memory c.args.self.now c.self.inside.folder c.commit_synced.new.self c.self.inside.uncovered.items c.self.inside.uncovered.items c.self.view_is c.in_err-commit_synced.ensures.err refl)

pub returns-clause-ok : goal.returns-clause-ok
returns-clause-ok c =
    let there : ((memory_of c.args.self.now).read c.args.name.now).there ≡ true = search rules in
    sync_done c.args.self.now c.self.inside.folder c.commit_synced.new.self c.self.inside.uncovered.items c.cover_file.new.calls.items c.self.view_is c.args.name.now there c.in_ok-commit_synced.ensures.ok c.cover_file.ensures
