-- The outside over memory.
use Rattle.std.specs.Prelude.{ℕ, List}
use Rattle.dq_base.specs.Calls.{Counted}
use Rattle.serve_traits.specs.declared.event.Event.{Event}

-- the events that an inbox has left, and its counts
pub record Waiting (T : Type 0) : Type 0 where
  pub events : List (Event T)
  pub taken : ℕ
  pub faults : ℕ

-- the events that were put, and the calls so far
pub record Posted (T : Type 0) : Type 0 where
  pub events : List (Event T)
  pub calls : Counted
