-- Steps of a core that are made one after another.
use Rattle.std.proofs.Common.{◌≡◌, ◌+◌, ℕ, List, [], ◌∷◌, ◌++◌, length, refl, ◌∙◌, subst, arith}
use Rattle.std.specs.Prelude.{Option}
use Rattle.std.proofs.lemmas.List.{length-append}
use Rattle.serve_traits.specs.declared.event.Event.{Event}
use Rattle.serve_traits.specs.declared.stepping.StepFault.{StepFault}
use Rattle.serve_traits.specs.declared.stepping.StepFault.TheVariants as step
use Rattle.serve_traits.specs.declared.looping.LoopEnd.TheVariants.{Closed, Spent}
use Rattle.serve_traits.specs.Told.{Gains, Gives, Remains}
use Rattle.serve_traits.specs.Stepping.{Steps}
use Rattle.serve_traits.specs.Looping.{Taken, Took, Broke, Ends, Loops, end_of}
use Rattle.serve_traits.proofs.Lists.{gains_none, gains_then, gives_none, gives_then, gives_stay}

steps_none : {S E T : Type 0} (makes : S → E → T → S → Type 0) (was : S) → Steps makes was [] [] was
unfolding Steps
steps_none makes was = refl

-- one step more
steps_more : {S E T : Type 0} (makes : S → E → T → S → Type 0) (was : S) (events : List E) (outs : List T) (last : S) (event : E) (said : T) (now : S)
    → Steps makes was events outs last → makes last event said now → Steps makes was (events ++ event ∷ []) (outs ++ said ∷ []) now
unfolding Steps
steps_more {S = S} makes was [] [] last event said now so_far made = (now, subst (λ (s : S). makes s event said now) so_far made, refl)
steps_more makes was [] (o ∷ os) last event said now so_far made = absurd so_far
steps_more makes was (e ∷ es) [] last event said now so_far made = absurd so_far
steps_more makes was (e ∷ es) (o ∷ os) last event said now so_far made = (so_far.0, so_far.1, steps_more makes so_far.0 es os last event said now so_far.2 made)

-- This many events were taken, the step for each is made, and what they say is put.
pub record Going {S T O : Type 0} (makes : S → Event T → O → S → Type 0) (was now : S) (before after : Taken T) (said said_now : Option (List O)) (made : ℕ) : Type 0 where
  pub events : List (Event T)
  pub outs : List O
  pub steps : Steps makes was events outs now
  pub puts : Gains said said_now outs
  pub took : Took before after events
  pub count : length events ≡ made

pub begins : {S T O : Type 0} (makes : S → Event T → O → S → Type 0) (was : S) (before : Taken T) (said : Option (List O)) → Going makes was was before before said said 0
begins makes was before said = record {
  events = [];
  outs = [];
  steps = steps_none makes was;
  puts = gains_none said;
  took = record { left = gives_none before.left; count = omega arith };
  count = refl;
}

-- an event more was taken
took_more : {T : Type 0} (before now after : Taken T) (events : List (Event T)) (event : Event T) → Took before now events → Gives now.left after.left (event ∷ []) → after.count ≡ now.count + 1
    → Took before after (events ++ event ∷ [])
took_more before now after events event so_far left counted =
    let count : now.count ≡ before.count + length events = so_far.count in
    record {
      left = gives_then before.left now.left after.left events (event ∷ []) so_far.left left;
      count = omega (arith, length-append events (event ∷ []));
    }

-- its step was made, and what it says was put
pub goes : {S T O : Type 0} (makes : S → Event T → O → S → Type 0) (was now next : S) (before after later : Taken T) (said said_now said_next : Option (List O)) (made : ℕ) (event : Event T) (outs : O)
    → Going makes was now before after said said_now made → Gives after.left later.left (event ∷ []) → later.count ≡ after.count + 1 → makes now event outs next → Gains said_now said_next (outs ∷ [])
    → Going makes was next before later said said_next (made + 1)
goes makes was now next before after later said said_now said_next made event outs so_far left counted steps puts =
    let count : length so_far.events ≡ made = so_far.count in
    record {
      events = so_far.events ++ event ∷ [];
      outs = so_far.outs ++ outs ∷ [];
      steps = steps_more makes was so_far.events so_far.outs now event outs next so_far.steps steps;
      puts = gains_then said said_now said_next so_far.outs (outs ∷ []) so_far.puts puts;
      took = took_more before after later so_far.events event so_far.took left counted;
      count = omega (arith, length-append so_far.events (event ∷ []));
    }

-- the budget is used up
pub spends : {S T O : Type 0} (makes : S → Event T → O → S → Type 0) (breaks : S → Event T → S → Type 0) (was now : S) (before after : Taken T) (said said_now : Option (List O)) (budget : ℕ)
    → Going makes was now before after said said_now budget → Loops makes breaks was now before after said said_now budget (Spent budget)
spends makes breaks was now before after said said_now budget so_far = record {
  events = so_far.events;
  outs = so_far.outs;
  last = now;
  steps = so_far.steps;
  puts = so_far.puts;
  ends = (so_far.took, refl, refl, so_far.count);
}

-- the inbox failed
pub closes : {S T O : Type 0} (makes : S → Event T → O → S → Type 0) (breaks : S → Event T → S → Type 0) (was now : S) (before after later : Taken T) (said said_now : Option (List O)) (budget made : ℕ)
    → Going makes was now before after said said_now made → Remains after.left later.left → later.count ≡ after.count → Loops makes breaks was now before later said said_now budget Closed
closes makes breaks was now before after later said said_now budget made so_far left counted = record {
  events = so_far.events;
  outs = so_far.outs;
  last = now;
  steps = so_far.steps;
  puts = so_far.puts;
  ends = (record { left = gives_stay before.left after.left later.left so_far.events so_far.took.left left; count = counted ∙ so_far.took.count }, refl);
}

-- a step failed
ends_broken : {S T : Type 0} (breaks : S → Event T → S → Type 0) (last now : S) (before after : Taken T) (events : List (Event T)) (budget : ℕ) (fault : StepFault)
    → Broke breaks last now before after events → Ends breaks last now before after events budget (end_of fault)
ends_broken breaks last now before after events budget step.DiskFault broke = broke
ends_broken breaks last now before after events budget step.NoMemory broke = broke
ends_broken breaks last now before after events budget step.Unfit broke = broke

pub breaks_off : {S T O : Type 0} (makes : S → Event T → O → S → Type 0) (breaks : S → Event T → S → Type 0) (was now next : S) (before after later : Taken T) (said said_now : Option (List O)) (budget made : ℕ) (event : Event T) (fault : StepFault)
    → Going makes was now before after said said_now made → Gives after.left later.left (event ∷ []) → later.count ≡ after.count + 1 → breaks now event next
    → Loops makes breaks was next before later said said_now budget (end_of fault)
breaks_off makes breaks was now next before after later said said_now budget made event fault so_far left counted broken = record {
  events = so_far.events;
  outs = so_far.outs;
  last = now;
  steps = so_far.steps;
  puts = so_far.puts;
  ends = ends_broken breaks now next before later so_far.events budget fault (record { event = event; took = took_more before after later so_far.events event so_far.took left counted; broken = broken });
}
