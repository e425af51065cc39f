-- What nodes do in the turns of a script, over any type of seats, and that it is decided by what they are asked.
use Rattle.std.specs.Prelude.{◌≡◌, ◌≢◌, ℕ, List, [], ◌∷◌, Err}
use Rattle.std.specs.List.{AllByRecursion}
use Rattle.sql_engine.specs.declared.fault.EngineFault.TheVariants.{NoMemory}
use Rattle.session_spec.specs.Engines.{Answer}
use Rattle.script_grammar.specs.declared.grammar.FaultTarget.{FaultTarget}
use Rattle.script_cluster.specs.Knowing.{turns_at}
use Rattle.script_cluster.specs.Outcomes.{Ending, Steps, Starts, Stops, Fails, Unreadable, Outcome, Doing, Turn, Does, Crashes}
use Rattle.script_determinism.specs.Plain.{plain_outcome}

-- Nodes, each at a seat: what of a seat decides what comes next there, the seat where nothing has happened yet, and by which turns at the node
-- of a number one seat leads to another.
pub record Nodes : Type 1 where
  pub Seat : Type 0
  pub Core : Type 0
  pub core : Seat → Core
  pub first : Seat
  pub leads : ℕ → Seat → Turn → Seat → Type 0

-- these turns of a node lead from one seat to another
abbrev pub Path : (nodes : Nodes) → ℕ → nodes.Seat → List Turn → nodes.Seat → Type 0
Path nodes n old [] new = old ≡ new
Path nodes n old (turn ∷ turns) new = (mid : nodes.Seat) × nodes.leads n old turn mid × Path nodes n mid turns new

-- a step or a start ended well: no call of the disk stopped or failed, and what was kept loads
abbrev pub EndsWell : Ending → Type 0
EndsWell (Steps outs standing) = Unit {0}
EndsWell (Starts kept standing) = Unit {0}
EndsWell (Stops keeps) = ⊥
EndsWell (Fails keeps) = ⊥
EndsWell Unreadable = ⊥

-- and the engine wanted no memory
abbrev pub IsAmple : Answer → Type 0
IsAmple answer = answer ≢ Err NoMemory

pub record ComesWell (outcome : Outcome) : Type 0 where
  pub ends : EndsWell outcome.ending
  pub ample : AllByRecursion IsAmple outcome.answers

-- so of a turn; a crash is neither
abbrev pub GoesWell : Turn → Type 0
GoesWell (Does n doing aim outcome) = ComesWell outcome
GoesWell (Crashes n pick) = Unit {0}

-- In these turns each node does what it does from the first seat on, each step and start ends well, and no engine wants memory.
pub record AreLed (nodes : Nodes) (turns : List Turn) : Type 0 where
  pub ends : ℕ → nodes.Seat
  pub paths : (n : ℕ) → Path nodes n nodes.first (turns_at n turns) (ends n)
  pub well : AllByRecursion GoesWell turns

-- a crash leads on from every seat
abbrev pub MayCrash : Nodes → Type 0
MayCrash nodes = (n k pick : ℕ) (old : nodes.Seat) → (new : nodes.Seat) × nodes.leads n old (Crashes k pick) new

-- By the same, from seats that are the same in what decides, the same comes, except for the numbers of
-- transactions.
pub record ComesTo (nodes : Nodes) (one other : Outcome) (new now : nodes.Seat) : Type 0 where
  pub outcome : plain_outcome one ≡ plain_outcome other
  pub core : nodes.core new ≡ nodes.core now

-- This holds for a step or a start, whichever call of the disk the line aims at, where all goes well; and of a crash.
pub record AreExact (nodes : Nodes) : Type 0 where
  pub does : (n k also : ℕ) (doing : Doing) (aim aimed : FaultTarget) (one other : Outcome) (old was new now : nodes.Seat) →
      nodes.core old ≡ nodes.core was → nodes.leads n old (Does k doing aim one) new → nodes.leads n was (Does also doing aimed other) now →
      ComesWell one → ComesWell other → ComesTo nodes one other new now
  pub crashes : (n k also pick picked : ℕ) (old was new now : nodes.Seat) → nodes.core old ≡ nodes.core was →
      nodes.leads n old (Crashes k pick) new → nodes.leads n was (Crashes also picked) now → nodes.core new ≡ nodes.core now
