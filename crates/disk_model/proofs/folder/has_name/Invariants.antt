use Rattle.std.proofs.Common.{◌≡◌, drop}
use Rattle.disk_model.specs.Folder.{has_name}
use Rattle.disk_model.proofs.folder.has_name.Given as goal

abbrev pub invariant-loop-own : goal.invariant-loop-own
invariant-loop-own l = has_name l.name l.names ≡ has_name l.name (drop l.own-index l.names)
