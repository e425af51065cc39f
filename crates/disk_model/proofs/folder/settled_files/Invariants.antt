use Rattle.std.proofs.Common.{◌≡◌, take}
use Rattle.disk_model.specs.Folder.{all_settled}
use Rattle.disk_model.proofs.folder.settled_files.Given as goal

abbrev pub invariant-loop-file : goal.invariant-loop-file
invariant-loop-file l = l.copies.items ≡ all_settled (take l.file-index l.files)
