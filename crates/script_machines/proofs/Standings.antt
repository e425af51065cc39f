-- State machines that have applied nothing.
use Rattle.std.proofs.Common.{◌≡◌, ℕ, zero, suc, ◌+◌, List, [], ◌∷◌, ◌++◌, refl, ap, add-one}
use Rattle.script_machines.specs.Holding.{Holding}
use Rattle.script_machines.specs.Machines.{idle, idle_machines}

idle_suc : (n : ℕ) → idle_machines n ++ idle ∷ [] ≡ idle_machines (suc n)
idle_suc zero = refl
idle_suc (suc n) = ap (λ (machines : List Holding). idle ∷ machines) (idle_suc n)

-- one more state machine that has applied nothing
pub idle_more : (n : ℕ) → idle_machines n ++ idle ∷ [] ≡ idle_machines (n + 1)
idle_more n = rw add-one (idle_suc n)
