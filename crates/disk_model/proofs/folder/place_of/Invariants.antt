use Rattle.std.proofs.Common.{◌≡◌, ℕ, ◌<◌, false, get_or}
use Rattle.std.specs.Str.{bytes_eq}
use Rattle.disk_model.specs.MemFiles.{MemFile}
use Rattle.disk_model.proofs.folder.place_of.Given as goal

abbrev pub invariant-loop-place : goal.invariant-loop-place
invariant-loop-place l = (k : ℕ) → k < l.place → (d : MemFile) → bytes_eq (get_or l.files k d).name l.name ≡ false
