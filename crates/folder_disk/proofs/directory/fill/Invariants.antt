use Rattle.std.proofs.Common.{◌≤◌, length}
use Rattle.folder_disk.proofs.directory.fill.Given as goal

abbrev pub invariant-reads : goal.invariant-reads
invariant-reads l = l.count ≤ length l.into
