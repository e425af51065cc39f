-- What comes of a node's loop.
use Rattle.std.specs.Prelude.{◌≡◌, ◌+◌, ℕ, List, [], ◌∷◌, ◌++◌, length, Option}
use Rattle.serve_traits.specs.declared.event.Event.{Event}
use Rattle.serve_traits.specs.declared.stepping.StepFault.{StepFault}
use Rattle.serve_traits.specs.declared.stepping.StepFault.TheVariants as step
use Rattle.serve_traits.specs.declared.looping.LoopEnd.{LoopEnd}
use Rattle.serve_traits.specs.declared.looping.LoopEnd.TheVariants.{Closed, DiskFault, Spent, NoMemory, Unfit}
use Rattle.serve_traits.specs.Told.{Gains, Gives}
use Rattle.serve_traits.specs.Stepping.{Steps}

-- what an inbox tells before and after: the events that are left, if they are known, and how many were taken
pub record Taken (T : Type 0) : Type 0 where
  pub left : Option (List (Event T))
  pub count : ℕ

-- these events were taken, and no others
pub record Took {T : Type 0} (before after : Taken T) (events : List (Event T)) : Type 0 where
  pub left : Gives before.left after.left events
  pub count : after.count ≡ before.count + length events

-- an event more was taken, and its step failed
pub record Broke {S T : Type 0} (breaks : S → Event T → S → Type 0) (last now : S) (before after : Taken T) (events : List (Event T)) : Type 0 where
  pub event : Event T
  pub took : Took before after (events ++ event ∷ [])
  pub broken : breaks last event now

-- after the steps for these events the loop took no other, or one at whose step it broke
abbrev pub Ends : {S T : Type 0} → (S → Event T → S → Type 0) → S → S → Taken T → Taken T → List (Event T) → ℕ → LoopEnd → Type 0
Ends breaks last now before after events budget Closed = Took before after events × (now ≡ last)
Ends breaks last now before after events budget (Spent count) = Took before after events × (now ≡ last) × (count ≡ budget) × (length events ≡ budget)
Ends breaks last now before after events budget DiskFault = Broke breaks last now before after events
Ends breaks last now before after events budget NoMemory = Broke breaks last now before after events
Ends breaks last now before after events budget Unfit = Broke breaks last now before after events

-- The core makes one step for each of the events that were taken, in order, and what the steps say is put, in order. A step that fails
-- is the last, and says nothing.
pub record Loops {S T O : Type 0} (makes : S → Event T → O → S → Type 0) (breaks : S → Event T → S → Type 0) (was now : S) (before after : Taken T) (said said_after : Option (List O)) (budget : ℕ) (end : LoopEnd) : Type 0 where
  pub events : List (Event T)
  pub outs : List O
  pub last : S
  pub steps : Steps makes was events outs last
  pub puts : Gains said said_after outs
  pub ends : Ends breaks last now before after events budget end

-- the end that a failed step makes
abbrev pub end_of : StepFault → LoopEnd
end_of step.DiskFault = DiskFault
end_of step.NoMemory = NoMemory
end_of step.Unfit = Unfit
