-- When a disk over memory may be said to be in a state.
use Rattle.std.specs.Prelude.{◌≡◌, ◌⊎◌, true, false, List, [], ◌∷◌}
use Rattle.disk_model.specs.Disk.{Found, Held, Disk, Sure, Gone, Absent, LeavesBytes}
use Rattle.disk_model.specs.Trait.{Text}
use Rattle.disk_model.specs.Memory.{Memory, done_to, half_of, done_in_turn, effects_on, shown}
use Rattle.disk_model.specs.declared.open_calls.UnsyncedEffect.{UnsyncedEffect}

-- a crash may leave what shows of this file
pub record Fits (h : Held) (f : Found) : Type 0 where
  pub sure : h.standing ≡ Sure → f.there ≡ true
  pub absent : h.standing ≡ Absent → f.there ≡ false
  pub left : LeavesBytes h.bytes h.since f.bytes

-- so it may of a file after each front of these effects, with or without half of the next one
abbrev pub Allows : Held → Found → List UnsyncedEffect → Type 0
Allows h f [] = Fits h f
Allows h f (c ∷ cs) = Fits h f × Fits h (done_to (half_of c) f) × Allows h (done_to c f) cs

-- one file of the memory against what the disk holds of it
pub record HoldsFile (h : Held) (f base : Found) (effects : List UnsyncedEffect) : Type 0 where
  pub read : f ≡ shown (done_in_turn effects base)
  pub allows : Allows h base effects
  pub clean : (done_in_turn effects base).there ≡ false → (h.standing ≡ Gone) ⊎ ((done_in_turn effects base).bytes ≡ [])

-- The disk over memory may be said to be in this state: it reads so, and all that a pick may make of it is what a crash
-- may leave.
pub record Holds (m : Memory) (d : Disk Text) : Type 0 where
  pub read : (n : Text) → d.read n ≡ m.read n
  pub file : (n : Text) → HoldsFile (d.held n) (m.read n) (m.base n) (effects_on n m.uncovered)
