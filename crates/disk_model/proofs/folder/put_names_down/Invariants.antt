use Rattle.std.proofs.Common.{◌≡◌, ◌≤◌, ◌<◌, ℕ, get_or}
use Rattle.disk_model.specs.Folder.{named_file}
use Rattle.disk_model.specs.MemFiles.{MemFile}
use Rattle.disk_model.proofs.folder.put_names_down.Given as goal

abbrev pub invariant-loop-file : goal.invariant-loop-file
invariant-loop-file l =
    ((k : ℕ) → k < l.file-index → (d : MemFile) → get_or l.files k d ≡ named_file (get_or l.initial.files k d))
    × ((k : ℕ) → l.file-index ≤ k → (d : MemFile) → get_or l.files k d ≡ get_or l.initial.files k d)
