-- What a cluster's code holds.
use Rattle.std.specs.Prelude.{◌≡◌, ◌+◌, ◌-◌, ℕ, Bool, true, false, List, [], map, set, slice_get, Option, Some, None, Result}
use Rattle.script_grammar.specs.declared.faults.EventFault.{EventFault}
use Rattle.script_grammar.specs.declared.grammar.FaultTarget.{FaultTarget}
use Rattle.script_grammar.specs.Usage.{no_usage, with_event}
use Rattle.script_cluster.specs.declared.cluster.Cluster.{Cluster}
use Rattle.script_cluster.specs.declared.network.Network.{Network}
use Rattle.script_cluster.specs.declared.place.EventResult.{EventResult}
use Rattle.script_cluster.specs.declared.cluster_line.ClusterLine.{ClusterLine}
use Rattle.script_grammar.specs.declared.events.Event.{Event}
use Rattle.script_grammar.specs.declared.events.Event.TheVariants as event
use Rattle.script_cluster.specs.Outcomes.{Outcome, Ending, Timeout, Beat, Bytes}
use Rattle.script_cluster.specs.World.{Place, World, Went, NotThere, halted, empty_places}
use Rattle.script_cluster.specs.World.{at_node, connects, on_link, node_of, hangs_up, delivers, crashes, starts}
use Rattle.script_cluster.specs.Places.{Comes, TellsEnding, place_after_crash}
use Rattle.script_cluster.specs.Seen.{answers_in}
use Rattle.script_cluster.specs.Holding.{Held, TellsAll, beside, world_of}

abbrev pub held : {P : Type 0} → (P → Place) → Cluster P → Held P
held shows c = beside c.voters c.places.items (map shows c.places.items) c.outside

-- the world of these, if nothing is asked of turns or of what is to come
abbrev pub world_now : {P : Type 0} → Held P → World
world_now h = world_of h [] []

-- this many voters and further nodes, at these places, none of which runs
abbrev pub empty_held : {P : Type 0} → ℕ → ℕ → List P → Held P
empty_held voters spare nodes =
    record { voters = voters; nodes = nodes; places = empty_places (voters + spare); links = []; mail = []; usage = no_usage; journal = [] }

-- this came of an event at a place, by which its turn leads on; and the others stay
pub record ComesAt {P : Type 0} (shows : P → Place) (leads : P → P → Outcome → Type 0) (old new : List P) (index : ℕ) (came : EventResult) : Type 0 where
  pub was : P
  pub now : P
  pub there : slice_get old index ≡ Some was
  pub comes : Comes (shows was) (shows now) came (leads was now)
  pub rest : new ≡ set old index now

-- a node at a place goes
pub record CrashesAt {P : Type 0} (shows : P → Place) (leads : P → P → Type 0) (old new : List P) (index : ℕ) : Type 0 where
  pub was : P
  pub now : P
  pub there : slice_get old index ≡ Some was
  pub crashed : shows now ≡ place_after_crash (shows was)
  pub on : leads was now
  pub rest : new ≡ set old index now

-- one event more was counted, or there may be none
abbrev pub Counts : {P : Type 0} → Bool → Held P → Held P → Type 0
Counts true old new = (with_event old.usage ≡ Some new.usage) × (new ≡ record old { usage = new.usage })
Counts false old new = (with_event old.usage ≡ None) × (new ≡ old)

-- however the event ended of which this came, it is noted and said
abbrev pub TellsIn : {T : Type 0} → Result T EventFault → ℕ → FaultTarget → EventResult → Network → Network → List ClusterLine → List ClusterLine → Type 0
TellsIn result node aim came old new before now = (failed : Bool) (ending : Ending) → TellsEnding failed came.ended ending
    → TellsAll result node aim (answers_in came.answers) failed ending old new before now

-- how many messages may arrive by an event, if it settles
abbrev pub settle_count : Event → Option ℕ
settle_count (event.Timeout n) = None
settle_count (event.Beat n) = None
settle_count (event.Connect n c) = None
settle_count (event.Bytes c bytes) = None
settle_count (event.Hangup c) = None
settle_count (event.Deliver m) = None
settle_count (event.Settle count) = Some count
settle_count (event.Crash n pick) = None
settle_count (event.Start n) = None
settle_count (event.Put bytes) = None
settle_count (event.Take machine) = None

-- what an event does that is counted once
abbrev pub once : Event → FaultTarget → World → Went
once (event.Timeout n) aim = at_node n Timeout aim
once (event.Beat n) aim = at_node n Beat aim
once (event.Connect n c) aim = connects n c
once (event.Bytes c bytes) aim = λ (w : World). on_link (Bytes c bytes) aim w (node_of w.links c)
once (event.Hangup c) aim = hangs_up c aim
once (event.Deliver m) aim = delivers (m - 1) aim
once (event.Settle count) aim = halted NotThere
once (event.Crash n pick) aim = crashes n pick
once (event.Start n) aim = starts n aim
once (event.Put bytes) aim = halted NotThere
once (event.Take machine) aim = halted NotThere
