-- The front of a file over memory that no call touched since it was put down.
use Rattle.std.specs.Prelude.{◌≡◌, ℕ, ◌≤◌, min, List, length, take}
use Rattle.disk_model.specs.declared.open_calls.UnsyncedEffect.{UnsyncedEffect}
use Rattle.disk_model.specs.declared.open_calls.UnsyncedEffect.TheVariants.{Creation, Naming, Write, Truncation, Removal, Nothing}

-- this many bytes at the front of what is read are durable too
abbrev pub SameFront : ℕ → List ℕ → List ℕ → Type 0
SameFront same read base = (same ≤ length read) × (take same read ≡ take same base)

-- how many of them an effect leaves
abbrev pub front_left : UnsyncedEffect → ℕ → ℕ
front_left (Creation bytes) same = 0
front_left Naming same = same
front_left (Write at bytes) same = min same at
front_left (Truncation k) same = min same k
front_left Removal same = same
front_left Nothing same = same
