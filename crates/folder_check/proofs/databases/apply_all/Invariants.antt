use Rattle.std.proofs.Common.{◌≡◌, take}
use Rattle.database_state.specs.Databases.{contents_of}
use Rattle.folder_check.specs.Files.{after_entries}
use Rattle.folder_check.proofs.databases.apply_all.Given as goal

abbrev pub invariant-loop-entry : goal.invariant-loop-entry
invariant-loop-entry l = contents_of l.machine ≡ after_entries (contents_of l.initial.machine) (take l.entry-index l.entries)
