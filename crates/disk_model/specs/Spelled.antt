-- A disk whose names are encoded: what it is under names of another kind.
use Rattle.std.specs.Prelude.{List, [], ◌∷◌}
use Rattle.disk_model.specs.Disk.{Files, Disk}
use Rattle.disk_model.specs.Calls.{Call, WriteAt, CutTo, Sync, Remove, SyncNames}

-- the files and the disk under the names that are encoded so
abbrev pub files_under : {N M : Type 0} → (N → M) → Files M → Files N
files_under spell g n = g (spell n)

abbrev pub under : {N M : Type 0} → (N → M) → Disk M → Disk N
under spell d = record { read = λ n. d.read (spell n); held = λ n. d.held (spell n) }

-- calls with their names encoded
abbrev pub spelled : {N M : Type 0} → (N → M) → Call N → Call M
spelled spell (WriteAt n at bytes) = WriteAt (spell n) at bytes
spelled spell (CutTo n k) = CutTo (spell n) k
spelled spell (Sync n) = Sync (spell n)
spelled spell (Remove n) = Remove (spell n)
spelled spell SyncNames = SyncNames

abbrev pub all_spelled : {N M : Type 0} → (N → M) → List (Call N) → List (Call M)
all_spelled spell [] = []
all_spelled spell (c ∷ cs) = spelled spell c ∷ all_spelled spell cs
