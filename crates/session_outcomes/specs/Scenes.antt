-- Where a request comes: what it is decided by.
use Rattle.std.specs.Prelude.{ℕ}
use Rattle.session_spec.specs.Machine.{Machine}
use Rattle.session_spec.specs.Sessions.{Gateway, View}

-- The node's view, its state machine and its sessions at the moment before, and the connection that asks.
pub record Scene : Type 0 where
  pub view : View
  pub machine : Machine
  pub sessions : Gateway
  pub conn : ℕ

abbrev pub scene : View → Machine → Gateway → ℕ → Scene
scene view machine sessions conn = record { view = view; machine = machine; sessions = sessions; conn = conn }
