-- With an engine of cells a script alone decides what is written and how the script ends.
use Rattle.std.specs.Prelude.{◌≡◌, ◌++◌, List, ℕ, Option}
use Rattle.std.specs.List.{AllByRecursion}
use Rattle.std.specs.Io.KnownBytes.{Appends}
use Rattle.dq_base.specs.Sink.{AppendsFront}
use Rattle.sql_engine.specs.declared.kind.EngineKind.TheVariants.{Cells}
use Rattle.script_cluster.specs.Knowing.{with_over}
use Rattle.script_cluster.specs.Outcomes.{Item, Turn}
use Rattle.script_cluster.specs.Run.{Fault}
use Rattle.script_whole_nodes.specs.Safe.{IsFairTo, IsFairOver}
use Rattle.script_determinism.specs.Plain.{plain_items, plain_turns}
use Rattle.script_determinism.specs.Repeats.{IsWhole}
use Rattle.script_determinism.specs.Decided.{GoesUntroubled}
use Rattle.script_runner.specs.Ending.{Anything, MayFollow}
use Rattle.dqnode.specs.Program.{BreaksOff, Gives}

-- All went well in a run, also in what a node did last where that isn't in it: no checksum matched by chance in what a start found, no call
-- of a disk stopped or failed, and no engine wanted memory. So each step and each start ended well, as no load fails.
pub record WentWell {fault : Option Fault} {journal : List Item} {left left' written written' : Option (List ℕ)}
    (gives : Gives Cells fault journal left left' written written') : Type 0 where
  pub fair : IsFairTo Cells gives.safe.nodes.voters gives.turns gives.safe.nodes.lives gives.turns
  pub fair_last : IsFairOver Cells gives.safe.nodes.voters gives.turns gives.safe.over gives.safe.nodes.last
  pub well : AllByRecursion GoesUntroubled (with_over gives.turns gives.safe.over)
  pub whole : IsWhole fault

-- So of a run that broke off.
pub record BrokeWell {follows : List ℕ → Type 0} {left left' written written' : Option (List ℕ)} (breaks : BreaksOff Cells follows left left' written written')
    : Type 0 where
  pub fair : IsFairTo Cells breaks.safe.nodes.voters breaks.turns breaks.safe.nodes.lives breaks.turns
  pub fair_last : IsFairOver Cells breaks.safe.nodes.voters breaks.turns breaks.safe.over breaks.safe.nodes.last
  pub well : AllByRecursion GoesUntroubled (with_over breaks.turns breaks.safe.over)

-- The same text was written after what was written before, the faults are the same, and so is what happened at nodes, with what came of it,
-- and what is noted, except for the numbers of transactions.
pub record WroteSame (fault other : Option Fault) (turns others : List Turn) (journal items : List Item) (written written' shown shown' : Option (List ℕ))
    : Type 0 where
  pub text : List ℕ
  pub one : Appends written written' text
  pub also : Appends shown shown' text
  pub faults : fault ≡ other
  pub came : plain_turns turns ≡ plain_turns others
  pub noted : plain_items journal ≡ plain_items items

-- This holds for two calls that ran one script, from the same bytes and whatever may follow those that they read, where all went well in both.
abbrev pub ScriptsDecide : Type 0
ScriptsDecide =
    (fault other : Option Fault) (journal items : List Item) (left left' written written' from from' shown shown' : Option (List ℕ))
    (one : Gives Cells fault journal left left' written written') (also : Gives Cells other items from from' shown shown') →
    WentWell one → WentWell also → (rest more : List ℕ) → MayFollow left' rest → MayFollow from' more → one.read ++ rest ≡ also.read ++ more →
    WroteSame fault other one.turns also.turns journal items written written' shown shown'

-- The one wrote a front of the text that the other wrote after what was written before.
pub record WroteFront (written written' shown shown' : Option (List ℕ)) : Type 0 where
  pub text : List ℕ
  pub front : AppendsFront written written' text
  pub also : Appends shown shown' text

-- This holds for a call that broke off, after whose bytes these may follow, and one that ran the same script to its end or to its fault, if all
-- went well in both.
abbrev pub BrokenDecideBy : (Option (List ℕ) → List ℕ → Type 0) → Type 0
BrokenDecideBy follows =
    (fault : Option Fault) (journal : List Item) (left left' written written' from from' shown shown' : Option (List ℕ))
    (one : BreaksOff Cells (follows left') left left' written written') (also : Gives Cells fault journal from from' shown shown') →
    BrokeWell one → WentWell also → (rest more : List ℕ) → follows left' rest → MayFollow from' more → one.read ++ rest ≡ also.read ++ more →
    WroteFront written written' shown shown'

-- by a fault of the input; by a fault of the output, because memory ran out, or because of a bug of the program
abbrev pub BrokenScriptsDecide : Type 0
BrokenScriptsDecide = BrokenDecideBy (λ left. Anything) × BrokenDecideBy MayFollow
