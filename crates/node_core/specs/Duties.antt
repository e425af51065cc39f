-- What a leader does after an entry that was applied.
use Rattle.std.specs.Prelude.{◌≡◌, ◌⊎◌, ℕ, true, List, [], None}
use Rattle.session_spec.specs.Entries.{Content}
use Rattle.session_spec.specs.Machine.{Machine, machine_of}
use Rattle.node_spec.specs.ClientTurns.{Stays, Serves}
use Rattle.node_spec.specs.Turns.{Owes}
use Rattle.node_core.specs.declared.running.Running.{Running}
use Rattle.node_core.specs.Account.{moment_of}

-- no pages are pending
abbrev pub IsCalm : Machine → Type 0
IsCalm m = (name : List ℕ) → (m.base name).pending ≡ None

-- nothing is to be given to Raft, all of the log is applied, and no pages are pending
pub record IsSettled (n : Running) : Type 0 where
  pub idle : n.due.items ≡ []
  pub all : n.applied.index ≡ n.view.last
  pub calm : IsCalm (machine_of n.applied.machine)

-- A node that is settled serves from now on; or nothing has changed.
abbrev pub ServesFrom : Running → Running → Type 0
ServesFrom old new = (new ≡ old) ⊎ (IsSettled old × (new ≡ record old { view = record old.view { serving = true } }))

-- It proposes what it owes, or it serves from now on, or nothing has changed.
abbrev pub PerformsDuty : Running → Running → Type 0
PerformsDuty old new =
    Stays (moment_of old) (moment_of new)
    ⊎ (Serves (moment_of old) (moment_of new) ⊎ ((contents : List Content) × Owes (moment_of old) (moment_of new) contents))
