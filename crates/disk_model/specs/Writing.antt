-- Writing a file whole.
use Rattle.std.specs.Prelude.{Bool, cond, ℕ, List, [], ◌∷◌}
use Rattle.disk_model.specs.Calls.{Call, WriteAt, Sync, SyncNames}

-- one write and a sync; the write that makes the file is followed by a sync of the names
abbrev pub replace_calls : {N : Type 0} → N → List ℕ → Bool → List (Call N)
replace_calls n bytes is_there = WriteAt n 0 bytes ∷ Sync n ∷ cond is_there [] (SyncNames ∷ [])
