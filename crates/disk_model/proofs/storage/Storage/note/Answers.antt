use Rattle.std.proofs.Common.{List, [], ◌∷◌, ◌++◌, ap, ◌∙◌}
use Rattle.disk_model.specs.declared.open_calls.UnsyncedCall.{UnsyncedCall}
use Rattle.disk_model.proofs.Storing.{held_err, same_memory, note_done}
use Rattle.disk_model.proofs.storage.Storage.note.Goals as goal

pub returns-in_err-change_read-clause-err : goal.returns-in_err-change_read-clause-err
returns-in_err-change_read-clause-err c =
    held_err c.from_residual-in_err-change_read.result (same_memory c.args.self.now c.self.inside.folder c.change_read.new.self c.self.inside.uncovered.items c.reserve.new.self.items c.self.view_is c.in_err-change_read.ensures.err c.in_ok-reserve.ensures.items)

pub returns-clause-ok : goal.returns-clause-ok
returns-clause-ok c =
    note_done c.args.self.now c.self.inside.folder c.change_read.new.self c.self.inside.uncovered.items c.push.new.self.items c.self.view_is c.args.name.now c.in_ok-own.own c.args.effect c.in_ok-own.ensures c.in_ok-change_read.ensures.ok
    (c.in_ok-push.ensures.items ∙ ap (λ (l : List UnsyncedCall). l ++ record { name = c.in_ok-own.own; effect = c.args.effect } ∷ []) c.in_ok-reserve.ensures.items)
