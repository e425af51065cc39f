-- A disk that says nothing.
use Rattle.std.specs.Prelude.{ℕ}
use Rattle.disk_model.specs.Disk.{Disk}
use Rattle.disk_model.specs.Trait.{Text}

-- the states that it may be said to be in: none
abbrev pub no_states : Disk Text → Type 0
no_states d = ⊥

-- how many times it failed, how many times it wanted memory, and how many calls were made
pub record Counts : Type 0 where
  pub faults : ℕ
  pub wants : ℕ
  pub made : ℕ
