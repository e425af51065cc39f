-- What the program does: its words, its input, what it writes and the status that it ends with.
use Rattle.std.specs.Prelude.{◌≡◌, ◌⊎◌, ◌++◌, ℕ, List, codes, Option, None}
use Rattle.std.specs.Io.KnownBytes.{Appends, Consumes, IsAtEnd}
use Rattle.dq_base.specs.Sink.{AppendsFront}
use Rattle.sql_engine.specs.declared.kind.EngineKind.{EngineKind}
use Rattle.sqlite_engine.specs.Any.{any_meaning}
use Rattle.script_cluster.specs.Knowing.{outcomes_in, outcomes_over, with_over}
use Rattle.script_cluster.specs.Outcomes.{Outcome, Item, Turn}
use Rattle.script_cluster.specs.Run.{Fault}
use Rattle.script_whole_nodes.specs.Safe.{AreOfNodes, IsFairOver, IsFairTo}
use Rattle.script_falls.specs.Falls.{NoneFalls}
use Rattle.script_runner.specs.Ending.{MayFollow, BeginWith, IsBeside}
use Rattle.script_runner.specs.Run.{run, printed}
use Rattle.script_safety.specs.Complete.{IsComplete}
use Rattle.script_safety.specs.Laws.{IsSafe, IsSafeLater}
use Rattle.script_safety.specs.Mails.{ByNodes}
use Rattle.script_safety.specs.Slots.{setup_of}
use Rattle.script_safety.specs.Turns.{AllLoad}

-- the line for words that ask for nothing
abbrev pub words_error : List ℕ
words_error = codes "error words\n"

-- ---- a run that is safe

-- What came of a run's events is what whole nodes do, and its turns are safe: each moment of it, and each with a later one, up to where a checksum matches by chance in what a start finds;
-- each request of a connection that stays open is answered once, and in its order; and no load fails, neither up to that moment (`loads` of
-- `IsSafe`) nor in what a node did last where that isn't in the run: no start finds `Damaged`, `Gap`, `NoMeta` or `Snapshot`.
pub record SafeTurns (kind : EngineKind) (turns : List Turn) : Type 0 where
  pub over : Option Turn
  pub nodes : AreOfNodes kind turns over
  pub safe : (early late : List Turn) → turns ≡ early ++ late → IsFairTo kind nodes.voters turns nodes.lives early
      → IsSafe (any_meaning kind) kind (setup_of nodes.voters) early
  pub later : (early middle late : List Turn) → turns ≡ (early ++ middle) ++ late → IsFairTo kind nodes.voters turns nodes.lives (early ++ middle)
      → IsSafeLater (any_meaning kind) kind (setup_of nodes.voters) early middle
  pub answers : (early late : List Turn) (parts : turns ≡ early ++ late) (fair : IsFairTo kind nodes.voters turns nodes.lives early)
      → IsComplete (any_meaning kind) kind (setup_of nodes.voters) early (safe early late parts fair)
  -- none does up to the first turn in which a call of a disk stops or fails, or a start finds files that do not load
  pub unfallen : (early late : List Turn) → turns ≡ early ++ late → NoneFalls early → IsFairTo kind nodes.voters turns nodes.lives early
  pub loads : IsFairTo kind nodes.voters turns nodes.lives turns → IsFairOver kind nodes.voters turns over nodes.last → AllLoad (with_over turns over)

-- ---- what a script gives

-- Whatever may follow the bytes read, and whatever comes of later events: the run that the script makes with what came of its events ends
-- so, and all that it prints was written. The journal is what it notes, and its turns are safe.
pub record Gives (kind : EngineKind) (fault : Option Fault) (journal : List Item) (left left' written written' : Option (List ℕ)) : Type 0 where
  pub read : List ℕ
  pub outcomes : List Outcome
  pub turns : List Turn
  pub taken : Consumes left left' read
  pub ends : (more : List ℕ) → MayFollow left' more → (later : List Outcome) → (run (read ++ more) (outcomes ++ later)).fault ≡ fault
  pub text : (more : List ℕ) → MayFollow left' more → (later : List Outcome) → Appends written written' (printed (run (read ++ more) (outcomes ++ later)))
  pub notes : (more : List ℕ) → MayFollow left' more → (later : List Outcome) → (run (read ++ more) (outcomes ++ later)).journal ≡ journal
  pub has : (more : List ℕ) → MayFollow left' more → (later : List Outcome) → (run (read ++ more) (outcomes ++ later)).turns ≡ turns
  pub safe : SafeTurns kind turns
  pub beside : (more : List ℕ) → MayFollow left' more → (later : List Outcome) → (run (read ++ more) (outcomes ++ later)).over ≡ safe.over

-- the script was read to its end, and has no fault
abbrev pub Completes : EngineKind → List Item → Option (List ℕ) → Option (List ℕ) → Option (List ℕ) → Option (List ℕ) → Type 0
Completes kind journal left left' written written' = Gives kind None journal left left' written written' × IsAtEnd left'

-- Whichever bytes of `follows` follow those read, a front was written of what the run prints, its error line counted in: so nothing
-- of a line that was read in part. The run begins with these turns, which are safe.
pub record BreaksOff (kind : EngineKind) (follows : List ℕ → Type 0) (left left' written written' : Option (List ℕ)) : Type 0 where
  pub read : List ℕ
  pub outcomes : List Outcome
  pub turns : List Turn
  pub taken : Consumes left left' read
  pub front : (more : List ℕ) → follows more → (later : List Outcome) → AppendsFront written written' (printed (run (read ++ more) (outcomes ++ later)))
  pub begins : (more : List ℕ) → follows more → (later : List Outcome) → BeginWith (run (read ++ more) (outcomes ++ later)).turns turns
  pub safe : SafeTurns kind turns
  pub beside : (more : List ℕ) → follows more → (later : List Outcome) → IsBeside turns safe.over (run (read ++ more) (outcomes ++ later))
  -- no other outcomes came
  pub uses : outcomes_in turns ++ outcomes_over safe.over ≡ outcomes

-- However the script ended, it gave all that its run prints, or it broke off; so the turns of that run are safe, all that it has where it came
-- to its end or to a fault of the script, and those until then where it broke off.
pub record RunsSafely (kind : EngineKind) (journal : List Item) (left left' written written' : Option (List ℕ)) : Type 0 where
  pub is : ((fault : Option Fault) × Gives kind fault journal left left' written written') ⊎ BreaksOff kind (MayFollow left') left left' written written'

-- Every script is safe up to any moment until which what came of its events is what whole nodes do.
abbrev pub RunsAreSafe : Type 0
RunsAreSafe =
    (kind : EngineKind) (voters : ℕ) (script : List ℕ) (outcomes : List Outcome) (front rest : List Turn) →
    (run script outcomes).turns ≡ front ++ rest → ByNodes (any_meaning kind) kind (setup_of voters) front →
    IsSafe (any_meaning kind) kind (setup_of voters) front
