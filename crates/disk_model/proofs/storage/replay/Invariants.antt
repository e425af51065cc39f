use Rattle.std.proofs.Common.{◌≡◌, take}
use Rattle.disk_model.specs.Folder.{replayed, tables_of}
use Rattle.disk_model.proofs.storage.replay.Given as goal

abbrev pub invariant-loop-call : goal.invariant-loop-call
invariant-loop-call l = tables_of l.folder ≡ replayed (take l.call-index l.calls) (tables_of l.initial.folder)
