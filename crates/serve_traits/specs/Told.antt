-- Lists that an object of the outside may tell, and what a call does to them.
use Rattle.std.specs.Prelude.{◌≡◌, ◌+◌, ℕ, List, [], ◌∷◌, ◌++◌, Option, Some, None, Result, MatchResult}
use Rattle.dq_base.specs.declared.faults.Failed.{Failed}
use Rattle.serve_traits.specs.declared.event.Event.{Event}

-- a list that is reported begins with these items, and loses them
abbrev pub Gives : {T : Type 0} → Option (List T) → Option (List T) → List T → Type 0
Gives None after items = Unit {0}
Gives (Some before) None items = ⊥
Gives (Some before) (Some after) items = before ≡ items ++ after

-- a list that is reported grows by these items
abbrev pub Gains : {T : Type 0} → Option (List T) → Option (List T) → List T → Type 0
Gains None after items = Unit {0}
Gains (Some before) None items = ⊥
Gains (Some before) (Some after) items = after ≡ before ++ items

-- a list that is reported stays as it was
abbrev pub Remains : {T : Type 0} → Option (List T) → Option (List T) → Type 0
Remains None after = Unit {0}
Remains (Some before) None = ⊥
Remains (Some before) (Some after) = after ≡ before

-- the first event was taken, or none
abbrev pub Takes : {T : Type 0} → Option (List (Event T)) → Option (List (Event T)) → Result (Event T) Failed → Type 0
Takes before after result = MatchResult result (λ event. Gives before after (event ∷ [])) (λ _. Remains before after)

-- the number of events that were taken rose by one if one was
abbrev pub CountsTaken : {T : Type 0} → ℕ → ℕ → Result T Failed → Type 0
CountsTaken before after result = MatchResult result (λ _. after ≡ before + 1) (λ _. after ≡ before)

-- the event was put after the others, or not
abbrev pub Puts : {T : Type 0} → Option (List (Event T)) → Option (List (Event T)) → Event T → Result Unit Failed → Type 0
Puts before after event result = MatchResult result (λ _. Gains before after (event ∷ [])) (λ _. Remains before after)
