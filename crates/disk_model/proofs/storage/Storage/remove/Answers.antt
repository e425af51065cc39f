use Rattle.std.proofs.Common.{rules, ◌≡◌, true}
use Rattle.disk_model.specs.Stored.{memory_of}
use Rattle.disk_model.proofs.Storing.{remove_done}
use Rattle.disk_model.proofs.storage.Storage.remove.Goals as goal

pub returns-clause-ok : goal.returns-clause-ok
returns-clause-ok c =
    let there : ((memory_of c.args.self.now).read c.args.name.now).there ≡ true = search rules in
    remove_done c.args.self.now c.self.inside.folder c.discard_unsynced.new.self c.self.inside.uncovered.items c.push.new.self.items c.self.view_is c.args.name.now c.in_ok-own.own c.in_ok-own.ensures there c.discard_unsynced.ensures c.in_ok-push.ensures.items
