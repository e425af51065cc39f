-- What the code of a cluster holds of a world, and what its calls lead to.
use Rattle.std.specs.Prelude.{◌≡◌, ◌-◌, ◌++◌, ℕ, suc, Bool, true, false, List, [], ◌∷◌, map, set, length, Option, Some, None, Result, Ok, Err}
use Rattle.std.specs.List.{AllByRecursion}
use Rattle.session_spec.specs.Engines.{Answer}
use Rattle.script_grammar.specs.declared.faults.EventFault.{EventFault}
use Rattle.script_grammar.specs.declared.faults.EventFault.TheVariants as faults
use Rattle.script_grammar.specs.declared.grammar.FaultTarget.{FaultTarget}
use Rattle.script_grammar.specs.declared.usage.Usage.{Usage}
use Rattle.script_grammar.specs.Usage.{no_usage, with_messages}
use Rattle.script_cluster.specs.declared.network.Network.{Network}
use Rattle.script_cluster.specs.declared.cluster_line.ClusterLine.{ClusterLine}
use Rattle.script_cluster.specs.Outcomes.{Outs, Ending, Steps, Starts, Stops, Fails, Unreadable, Outcome, Item, Answered, Turn, met_by, noted}
use Rattle.script_cluster.specs.World.{Place, Link, Letter, World, Halt, NotThere, TooMany, Went, standing_so, after_ending}
use Rattle.script_cluster.specs.World.{bytes_in, letters_of, replies_said, closed_said, messages_said, without_all, without_node, closings}
use Rattle.script_cluster.specs.Knowing.{Knowing, AllKnow, KnowsOver, CanHold, messages_of, outcomes_in, outcomes_over}
use Rattle.script_cluster.specs.Places.{down_place}

-- ---- what is held

-- a world except for its turns and for what is to come of events; and its places as the code has
-- them
pub record Held (P : Type 0) : Type 0 where
  pub voters : ℕ
  pub nodes : List P
  pub places : List Place
  pub links : List Link
  pub mail : List Letter
  pub usage : Usage
  pub journal : List Item

-- the world of these after these turns, with this to come of the events
abbrev pub world_of : {P : Type 0} → Held P → List Turn → List Outcome → World
world_of h turns outcomes = record {
  voters = h.voters;
  places = h.places;
  links = h.links;
  mail = h.mail;
  usage = h.usage;
  turns = turns;
  journal = h.journal;
  outcomes = outcomes;
  over = None;
}

-- what there is besides nodes, with these places
abbrev pub beside : {P : Type 0} → ℕ → List P → List Place → Network → Held P
beside voters nodes places o =
    record { voters = voters; nodes = nodes; places = places; links = o.connections; mail = o.mail; usage = o.usage; journal = o.journal }

pub record IsNothing (o : Network) : Type 0 where
  pub links : o.connections ≡ []
  pub mail : o.mail ≡ []
  pub usage : o.usage ≡ no_usage
  pub journal : o.journal ≡ []

-- ---- what comes of an event at a node

-- what is noted of an event with these answers whose line aims so, if its call was met or not
abbrev pub note_of : List Answer → FaultTarget → Option ℕ → List Item
note_of answers aim met = map Answered answers ++ met_by aim met

-- what a step says was said, as its messages are not too many
pub record SaysAll (aim : FaultTarget) (answers : List Answer) (outs : Outs) (old new : Network) (before now : List ClusterLine) : Type 0 where
  pub usage : with_messages old.usage (bytes_in outs.messages) ≡ Some new.usage
  pub links : new.connections ≡ without_all old.connections outs.closed
  pub mail : new.mail ≡ old.mail ++ letters_of outs.messages
  pub journal : new.journal ≡ old.journal ++ note_of answers aim None
  pub says : now ≡ before ++ (replies_said outs.replies ++ (closed_said outs.closed ++ messages_said (suc (length old.mail)) outs.messages))
  pub hold : AllByRecursion CanHold outs.messages

-- nothing of it was said, as its messages are too many
pub record SaysNone (outs : Outs) (old new : Network) (before now : List ClusterLine) : Type 0 where
  pub usage : with_messages old.usage (bytes_in outs.messages) ≡ None
  pub same : new ≡ old
  pub silent : now ≡ before

abbrev pub SaysOuts : Bool → FaultTarget → List Answer → Outs → Network → Network → List ClusterLine → List ClusterLine → Type 0
SaysOuts true aim answers outs old new before now = SaysAll aim answers outs old new before now
SaysOuts false aim answers outs old new before now = SaysNone outs old new before now

-- a node fell, after this many things that were kept whole, and this is said after the connections that close
pub record Falls (node : ℕ) (aim : FaultTarget) (answers : List Answer) (keeps : ℕ) (say : ClusterLine) (old new : Network) (before now : List ClusterLine) : Type 0 where
  pub usage : new.usage ≡ old.usage
  pub links : new.connections ≡ without_node old.connections node
  pub mail : new.mail ≡ old.mail
  pub journal : new.journal ≡ old.journal ++ note_of answers aim (Some keeps)
  pub says : now ≡ before ++ (closings old.connections node ++ say ∷ [])

-- places after an event at this node that ended so
abbrev pub places_after : ℕ → Ending → List Place → List Place
places_after node (Steps outs standing) places = set places (node - 1) (standing_so standing)
places_after node (Starts kept standing) places = set places (node - 1) (standing_so standing)
places_after node (Stops keeps) places = set places (node - 1) (down_place true)
places_after node (Fails keeps) places = set places (node - 1) (down_place true)
places_after node Unreadable places = places

abbrev pub with_note : {P : Type 0} → Held P → FaultTarget → List Answer → Bool → Ending → Held P
with_note h aim answers failed ending = record h { journal = h.journal ++ noted aim failed (record { answers = answers; ending = ending }) }

-- what there is besides nodes, whatever is at these places
abbrev pub outside_of : ℕ → List Place → Network → Held (Unit {0})
outside_of voters places o = beside voters [] places o

-- what came of an event at a node is noted and said: it leads here
pub record Asks (node : ℕ) (aim : FaultTarget) (answers : List Answer) (failed : Bool) (ending : Ending) (old new : Held (Unit {0}))
    (before now : List ClusterLine) : Type 0 where
  pub more : List ClusterLine
  pub goes : (turns : List Turn) (later : List Outcome)
      → after_ending node ending (world_of (with_note old aim answers failed ending) turns later)
      ≡ record { world = world_of new turns later; said = more; halt = None }
  pub says : now ≡ before ++ more
  pub hold : AllByRecursion CanHold (messages_of ending)

-- it isn't in the run, as its messages are too many
pub record Overruns (node : ℕ) (aim : FaultTarget) (answers : List Answer) (failed : Bool) (ending : Ending) (old : Held (Unit {0})) : Type 0 where
  pub halts : (turns : List Turn) (later : List Outcome)
      → (after_ending node ending (world_of (with_note old aim answers failed ending) turns later)).halt ≡ Some TooMany

abbrev pub Tells : Bool → ℕ → FaultTarget → List Answer → Bool → Ending → Network → Network → List ClusterLine → List ClusterLine → Type 0
Tells true node aim answers failed ending old new before now =
    (voters : ℕ) (places : List Place)
    → Asks node aim answers failed ending (outside_of voters places old) (outside_of voters (places_after node ending places) new) before now
Tells false node aim answers failed ending old new before now =
    ((voters : ℕ) (places : List Place) → Overruns node aim answers failed ending (outside_of voters places old)) × (new ≡ old) × (now ≡ before)

-- the same by an answer
abbrev pub TellsAll : {T : Type 0} → Result T EventFault → ℕ → FaultTarget → List Answer → Bool → Ending → Network → Network → List ClusterLine → List ClusterLine → Type 0
TellsAll (Ok x) node aim answers failed ending old new before now = Tells true node aim answers failed ending old new before now
TellsAll (Err faults.NotThere) node aim answers failed ending old new before now = ⊥
TellsAll (Err faults.TooMany) node aim answers failed ending old new before now = Tells false node aim answers failed ending old new before now
TellsAll (Err faults.NoMemory) node aim answers failed ending old new before now = Unit {0}
TellsAll (Err faults.Internal) node aim answers failed ending old new before now = Unit {0}

-- ---- what a call leads to

-- Something was done to a world: these outcomes came, one after another, of these turns. With them at the front of what is to come it
-- leads here, and this was said; and places that were led to by the turns of their nodes are led on by these.
pub record Leads {P : Type 0} (knows : Knowing P) (go : World → Went) (old new : Held P) (before now : List ClusterLine) : Type 0 where
  pub outcomes : List Outcome
  pub turns : List Turn
  pub more : List ClusterLine
  pub goes : (earlier : List Turn) (later : List Outcome)
      → go (world_of old earlier (outcomes ++ later)) ≡ record { world = world_of new (earlier ++ turns) later; said = more; halt = None }
  pub says : now ≡ before ++ more
  pub know : (earlier : List Turn) → AllKnow knows old.voters old.nodes earlier → AllKnow knows new.voters new.nodes (earlier ++ turns)
  -- no other outcomes came
  pub uses : outcomes ≡ outcomes_in turns

-- it ended so, after these turns and by this one that isn't in the run, when this was noted, and this said
pub record HaltsAt (why : Halt) (journal : List Item) (said : List ClusterLine) (turns : List Turn) (over : Option Turn) (went : Went) : Type 0 where
  pub halt : went.halt ≡ Some why
  pub said_is : went.said ≡ said
  pub journal_is : went.world.journal ≡ journal
  pub turns_are : went.world.turns ≡ turns
  pub over_is : went.world.over ≡ over

-- it ended before its end: with these outcomes at the front of what is to come; and these places were led to until then
pub record Halts {P : Type 0} (knows : Knowing P) (go : World → Went) (why : Halt) (old new : Held P) (before now : List ClusterLine) : Type 0 where
  pub outcomes : List Outcome
  pub turns : List Turn
  pub more : List ClusterLine
  pub nodes : List P
  pub over : Option Turn
  pub halts : (earlier : List Turn) (later : List Outcome) → HaltsAt why new.journal more (earlier ++ turns) over (go (world_of old earlier (outcomes ++ later)))
  pub says : now ≡ before ++ more
  pub know : (earlier : List Turn) → AllKnow knows old.voters old.nodes earlier → AllKnow knows new.voters nodes (earlier ++ turns)
  pub last : (earlier : List Turn) → AllKnow knows old.voters old.nodes earlier → KnowsOver knows new.voters (earlier ++ turns) over
  -- no other outcomes came
  pub uses : outcomes ≡ outcomes_in turns ++ outcomes_over over

-- what was done: it leads to its end, or halts before it
abbrev pub DoesBy : {P : Type 0} → Knowing P → (World → Went) → Option Halt → Held P → Held P → List ClusterLine → List ClusterLine → Type 0
DoesBy knows go None old new before now = Leads knows go old new before now
DoesBy knows go (Some why) old new before now = Halts knows go why old new before now

-- the same by its answer; after out of memory or a bug nothing is reported
abbrev pub Does : {P T : Type 0} → Knowing P → (World → Went) → Result T EventFault → Held P → Held P → List ClusterLine → List ClusterLine → Type 0
Does knows go (Ok x) old new before now = DoesBy knows go None old new before now
Does knows go (Err faults.NotThere) old new before now = DoesBy knows go (Some NotThere) old new before now
Does knows go (Err faults.TooMany) old new before now = DoesBy knows go (Some TooMany) old new before now
Does knows go (Err faults.NoMemory) old new before now = Unit {0}
Does knows go (Err faults.Internal) old new before now = Unit {0}
