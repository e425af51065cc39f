-- Steps of a core, one after another.
use Rattle.std.specs.Prelude.{◌≡◌, ◌≤◌, ℕ, List, [], ◌∷◌, Result, Ok, Err}
use Rattle.dq_base.specs.Faults.{Rose}
use Rattle.serve_traits.specs.declared.stepping.StepFault.{StepFault}
use Rattle.serve_traits.specs.declared.stepping.StepFault.TheVariants.{DiskFault, NoMemory, Unfit}

-- a fault of the disk has its cause in the disk's count
abbrev pub FaultCause : ℕ → ℕ → StepFault → Type 0
FaultCause before now DiskFault = Rose before now
FaultCause before now NoMemory = Unit {0}
FaultCause before now Unfit = Unit {0}

abbrev pub AnswerCause : {T : Type 0} → ℕ → ℕ → Result T StepFault → Type 0
AnswerCause before now (Ok outs) = Unit {0}
AnswerCause before now (Err fault) = FaultCause before now fault

-- the disk's count did not fall, and a fault of the disk has its cause in it
pub record StepCause {T : Type 0} (before now : ℕ) (result : Result T StepFault) : Type 0 where
  pub never_falls : before ≤ now
  pub failed : AnswerCause before now result

-- The core makes one step for each of these events, in order, and says this at each of them.
unfoldable pub Steps : {S E T : Type 0} → (S → E → T → S → Type 0) → S → List E → List T → S → Type 0
Steps makes was [] [] now = now ≡ was
Steps makes was [] (outs ∷ more) now = ⊥
Steps makes was (event ∷ events) [] now = ⊥
Steps {S = S} makes was (event ∷ events) (outs ∷ more) now = (next : S) × makes was event outs next × Steps makes next events more now
