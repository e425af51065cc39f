-- A client that is driven: what holds at each moment, and at its end.
use Rattle.std.specs.Prelude.{◌≡◌, ◌≤◌, ◌<◌, ◌+◌, ◌*◌, ℕ, List, ◌++◌, length, Option, Some, None, Result, MatchResult}
use Rattle.std.specs.declared.alloc.AllocError.{AllocError}
use Rattle.client.specs.declared.events.ClientAction.{ClientAction}
use Rattle.client.specs.declared.events.ClientAction.TheVariants.{Done}
use Rattle.client.specs.declared.events.ClientEnd.{ClientEnd}
use Rattle.client.specs.declared.events.ClientEnd.TheVariants as client_ends
use Rattle.client.specs.declared.course.Awaited.{Awaited}
use Rattle.client.specs.declared.course.Awaited.TheVariants as awaited
use Rattle.client.specs.declared.course.Course.{Course}
use Rattle.client.specs.declared.run.Run.{Run}
use Rattle.client.specs.declared.dialer.NetCall.{NetCall}
use Rattle.client.specs.Course.{begun}
use Rattle.client.specs.Net.{Net, HaveFailed}
use Rattle.client.specs.Running.{Made, IsNamed, AreNamed, after_call, after_calls, HasLed, HaveDialled, EndHasCause}

-- no step of the client was made
abbrev pub IsBegun : Course → Type 0
IsBegun course = course ≡ begun course.addresses course.name course.sql course.query

-- One call was made, which the client named, and this is the client after it.
pub record Goes (old : Net) (from : Run) (new : Net) (to : Run) : Type 0 where
  pub call : NetCall
  pub made : Made old new call
  pub named : IsNamed from.does call
  pub reached : to ≡ after_call from call

-- One call was made, which the client named, and then memory ran out.
pub record Stops (old : Net) (from : Run) (new : Net) : Type 0 where
  pub call : NetCall
  pub made : Made old new call
  pub named : IsNamed from.does call

-- what was dialled at least, in this many tries that have ended: the dials, and that there was a connection
abbrev pub FineAt : Awaited → (ℕ → Type 0) → Type 0 → ℕ → Type 0
FineAt awaited.Begin dials link tries = dials tries
FineAt awaited.Link dials link tries = dials tries
FineAt awaited.Nothing dials link tries = Unit {0}
FineAt a dials link tries = dials (tries + 1) × link

-- an end that has its cause in the dials
abbrev pub DoneBy : (ℕ → Type 0) → Type 0 → ℕ → ClientAction → Type 0
DoneBy dials link addresses (Done (client_ends.NoLeader n)) = dials (3 * addresses)
DoneBy dials link addresses (Done end) = link
DoneBy dials link addresses does = Unit {0}

-- The calls since the start lead to this run, and they dialled enough for it; those that failed are counted.
pub record Going (start : Net) (first : Run) (now : Net) (run : Run) : Type 0 where
  pub failed : HaveFailed start now
  pub led : HasLed first start.calls now.calls run
  pub never_falls : start.dialled ≤ now.dialled
  pub fine : FineAt run.core.awaited (HaveDialled start now) (start.dialled < now.dialled) run.core.tries
  pub done : DoneBy (HaveDialled start now) (start.dialled < now.dialled) (length run.core.addresses) run.does
  pub same : run.core.addresses ≡ first.core.addresses

-- If the calls are reported, those since then are the ones that the client named, in order.
abbrev pub HaveNamed : Run → Option (List NetCall) → Option (List NetCall) → Type 0
HaveNamed first before None = Unit {0}
HaveNamed first None (Some all) = ⊥
HaveNamed first (Some before) (Some all) = (calls : List NetCall) × (all ≡ before ++ calls) × AreNamed first calls

-- If the calls are reported, those since then are the ones that the client named, in order, and by the events that their answers
-- make it ended with this end.
abbrev pub HaveEnded : Run → Option (List NetCall) → Option (List NetCall) → ClientEnd → Type 0
HaveEnded first before None end = Unit {0}
HaveEnded first None (Some all) end = ⊥
HaveEnded first (Some before) (Some all) end =
    (calls : List NetCall) × (all ≡ before ++ calls) × AreNamed first calls × ((after_calls first calls).does ≡ Done end)

-- A client was driven to this end; or memory ran out on the way.
abbrev pub Drives : Net → Run → Net → Result ClientEnd AllocError → Type 0
Drives start first now result = MatchResult result
    (λ end. HaveEnded first start.calls now.calls end × EndHasCause start now (length first.core.addresses) end)
    (λ _. HaveNamed first start.calls now.calls)
