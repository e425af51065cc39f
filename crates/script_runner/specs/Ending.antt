-- How running a script goes and ends, in terms of what the source had left and of what the sink holds, before and after.
use Rattle.std.specs.Prelude.{◌≡◌, ◌++◌, ℕ, List, [], Option, Some, None, ⊤}
use Rattle.std.specs.Io.KnownBytes.{Appends, Consumes, IsAtEnd}
use Rattle.dq_base.specs.Sink.{AppendsFront}
use Rattle.script_grammar.specs.Lines.{lines_of}
use Rattle.script_grammar.specs.declared.lines.LineFault.{LineFault}
use Rattle.script_grammar.specs.declared.lines.LineFault.TheVariants as line
use Rattle.script_cluster.specs.Knowing.{Knowing, Told, outcomes_in, outcomes_over}
use Rattle.script_cluster.specs.Outcomes.{Outcome as Came, Item, Turn}
use Rattle.script_cluster.specs.Run.{Fault, Line, Large, fault_text}
use Rattle.script_runner.specs.declared.printing.PrintFault.{PrintFault}
use Rattle.script_runner.specs.declared.printing.PrintFault.TheVariants as print
use Rattle.script_runner.specs.declared.run.Outcome.{Outcome}
use Rattle.script_runner.specs.declared.run.Outcome.TheVariants as outcome
use Rattle.script_runner.specs.Run.{Said, Run, Stage, Next, run, run_from, said_before, ends_at, turns_at, over_at, text_of, printed}
use Rattle.script_runner.specs.Scenes.{Holds, Known, Goes, Ends, stage_of, closing_of, turns_of}

-- These bytes may follow those that were read: none if the source is at its end or tells nothing.
abbrev pub MayFollow : Option (List ℕ) → List ℕ → Type 0
MayFollow left more = IsAtEnd left → more ≡ []

-- Any bytes may follow: the source failed, and so it was not seen to be at its end.
abbrev pub Anything : List ℕ → Type 0
Anything more = ⊤

-- a run that said this, ended so, noted this, and has these turns, and this one besides them
pub record IsRun (said : List Said) (fault : Option Fault) (journal : List Item) (turns : List Turn) (over : Option Turn) (r : Run) : Type 0 where
  pub said_is : r.said ≡ said
  pub fault_is : r.fault ≡ fault
  pub journal_is : r.journal ≡ journal
  pub turns_are : r.turns ≡ turns
  pub over_is : r.over ≡ over

-- if a node did something besides these turns, they are those of the run, and it is what a node did outside the run
abbrev pub IsBeside : List Turn → Option Turn → Run → Type 0
IsBeside turns None r = Unit {0}
IsBeside turns (Some turn) r = (r.turns ≡ turns) × (r.over ≡ Some turn)

-- if a node did something besides these turns, a line ends the script after them
abbrev pub EndsBeside : List Turn → Option Turn → Next → Type 0
EndsBeside turns None next = Unit {0}
EndsBeside turns (Some turn) next = (fault : Fault) × (next.fault ≡ Some fault) × (turns_at next.stage ≡ turns) × (over_at next.stage ≡ Some turn)

-- these turns begin with those
abbrev pub BeginWith : List Turn → List Turn → Type 0
BeginWith turns front = (rest : List Turn) × (turns ≡ front ++ rest)

-- ---- on the way

-- The bytes read so far led here with these outcomes, having said this, and what was said was printed; the places there were led to by
-- the turns of their nodes.
pub record Reached {P : Type 0} (knows : Knowing P) (first now written printed_now : Option (List ℕ)) (at : Holds P) (number : ℕ) : Type 0 where
  pub read : List ℕ
  pub outcomes : List Came
  pub turns : List Turn
  pub said : List Said
  pub taken : Consumes first now read
  pub told : Appends written printed_now (text_of said)
  pub goes_on : (more : List ℕ) (later : List Came) → run (read ++ more) (outcomes ++ later)
      ≡ said_before said (run_from (stage_of at turns later) number (lines_of more))
  pub know : Known knows at turns
  pub uses : outcomes_in (turns_of at turns) ≡ outcomes

-- The script was read to its end and led here, having said this, and what was said was printed.
pub record ReadWhole {P : Type 0} (knows : Knowing P) (first now written printed_now : Option (List ℕ)) (at : Holds P) : Type 0 where
  pub read : List ℕ
  pub outcomes : List Came
  pub turns : List Turn
  pub said : List Said
  pub taken : Consumes first now read
  pub end : IsAtEnd now
  pub told : Appends written printed_now (text_of said)
  pub runs : (later : List Came) → run read (outcomes ++ later) ≡ said_before said (ends_at (stage_of at turns later) (closing_of at) None)
  pub know : Known knows at turns
  pub uses : outcomes_in (turns_of at turns) ≡ outcomes

-- ---- the end

-- Whatever may follow the bytes read, and whatever comes of later events: the run says this, ends so, notes this and has these turns; what
-- it says was printed; and places were led to by the turns of their nodes.
pub record Settles {P : Type 0} (knows : Knowing P) (fault : Option Fault) (journal : List Item) (left left' written written' : Option (List ℕ)) : Type 0 where
  pub read : List ℕ
  pub outcomes : List Came
  pub turns : List Turn
  pub said : List Said
  pub taken : Consumes left left' read
  pub told : Appends written written' (text_of said)
  pub over : Option Turn
  pub runs : (more : List ℕ) → MayFollow left' more → (later : List Came) → IsRun said fault journal turns over (run (read ++ more) (outcomes ++ later))
  pub led : Told knows turns over
  pub uses : outcomes_in turns ++ outcomes_over over ≡ outcomes

-- Whichever bytes of `follows` follow those read, a front of what the run says was printed: so nothing of a line that was read
-- in part. The run begins with these turns, by which places were led to.
pub record StopsShort {P : Type 0} (knows : Knowing P) (follows : List ℕ → Type 0) (left left' written written' : Option (List ℕ)) : Type 0 where
  pub read : List ℕ
  pub outcomes : List Came
  pub turns : List Turn
  pub taken : Consumes left left' read
  pub front : (more : List ℕ) → follows more → (later : List Came) → AppendsFront written written' (text_of (run (read ++ more) (outcomes ++ later)).said)
  pub begins : (more : List ℕ) → follows more → (later : List Came) → BeginWith (run (read ++ more) (outcomes ++ later)).turns turns
  pub over : Option Turn
  pub beside : (more : List ℕ) → follows more → (later : List Came) → IsBeside turns over (run (read ++ more) (outcomes ++ later))
  pub led : Told knows turns over
  pub uses : outcomes_in turns ++ outcomes_over over ≡ outcomes

-- what running the lines of a script to this outcome did
abbrev pub Stopped : {P : Type 0} → Knowing P → Outcome → List Item → Option (List ℕ) → Option (List ℕ) → Option (List ℕ) → Option (List ℕ) → Type 0
Stopped knows outcome.Done journal left left' written written' = Settles knows None journal left left' written written' × IsAtEnd left'
Stopped knows (outcome.Script line) journal left left' written written' = Settles knows (Some (Line line)) journal left left' written written'
Stopped knows outcome.Large journal left left' written written' = Settles knows (Some Large) journal left left' written written'
Stopped knows outcome.ReadFault journal left left' written written' = StopsShort knows Anything left left' written written'
Stopped knows outcome.WriteFault journal left left' written written' = StopsShort knows (MayFollow left') left left' written written'
Stopped knows outcome.NoMemory journal left left' written written' = StopsShort knows (MayFollow left') left left' written written'
Stopped knows outcome.Internal journal left left' written written' = StopsShort knows (MayFollow left') left left' written written'

-- Whatever may follow the bytes read, and whatever comes of later events: the run ends so, notes this and has these turns, by which places
-- were led to; and its text was printed.
pub record Prints {P : Type 0} (knows : Knowing P) (fault : Option Fault) (journal : List Item) (left left' written written' : Option (List ℕ)) : Type 0 where
  pub read : List ℕ
  pub outcomes : List Came
  pub turns : List Turn
  pub taken : Consumes left left' read
  pub ends : (more : List ℕ) → MayFollow left' more → (later : List Came) → (run (read ++ more) (outcomes ++ later)).fault ≡ fault
  pub text : (more : List ℕ) → MayFollow left' more → (later : List Came) → Appends written written' (printed (run (read ++ more) (outcomes ++ later)))
  pub notes : (more : List ℕ) → MayFollow left' more → (later : List Came) → (run (read ++ more) (outcomes ++ later)).journal ≡ journal
  pub has : (more : List ℕ) → MayFollow left' more → (later : List Came) → (run (read ++ more) (outcomes ++ later)).turns ≡ turns
  pub over : Option Turn
  pub beside : (more : List ℕ) → MayFollow left' more → (later : List Came) → (run (read ++ more) (outcomes ++ later)).over ≡ over
  pub led : Told knows turns over
  pub uses : outcomes_in turns ++ outcomes_over over ≡ outcomes

-- Whichever bytes of `follows` follow those read, a front of the run's text was printed; and the run begins with these turns, by which
-- places were led to.
pub record PrintsFront {P : Type 0} (knows : Knowing P) (follows : List ℕ → Type 0) (left left' written written' : Option (List ℕ)) : Type 0 where
  pub read : List ℕ
  pub outcomes : List Came
  pub turns : List Turn
  pub taken : Consumes left left' read
  pub front : (more : List ℕ) → follows more → (later : List Came) → AppendsFront written written' (printed (run (read ++ more) (outcomes ++ later)))
  pub begins : (more : List ℕ) → follows more → (later : List Came) → BeginWith (run (read ++ more) (outcomes ++ later)).turns turns
  pub over : Option Turn
  pub beside : (more : List ℕ) → follows more → (later : List Came) → IsBeside turns over (run (read ++ more) (outcomes ++ later))
  pub led : Told knows turns over
  pub uses : outcomes_in turns ++ outcomes_over over ≡ outcomes

-- what running a script to this outcome did, by the journal that it left
abbrev pub Ended : {P : Type 0} → Knowing P → Outcome → List Item → Option (List ℕ) → Option (List ℕ) → Option (List ℕ) → Option (List ℕ) → Type 0
Ended knows outcome.Done journal left left' written written' = Prints knows None journal left left' written written' × IsAtEnd left'
Ended knows (outcome.Script line) journal left left' written written' = Prints knows (Some (Line line)) journal left left' written written'
Ended knows outcome.Large journal left left' written written' = Prints knows (Some Large) journal left left' written written'
Ended knows outcome.ReadFault journal left left' written written' = PrintsFront knows Anything left left' written written'
Ended knows outcome.WriteFault journal left left' written written' = PrintsFront knows (MayFollow left') left left' written written'
Ended knows outcome.NoMemory journal left left' written written' = PrintsFront knows (MayFollow left') left left' written written'
Ended knows outcome.Internal journal left left' written written' = PrintsFront knows (MayFollow left') left left' written written'

-- ---- one line

-- a line led on, and what it said was printed
pub record Ran {P : Type 0} (knows : Knowing P) (go : Stage → Next) (old new : Holds P) (written written' : Option (List ℕ)) : Type 0 where
  pub said : List Said
  pub goes : Goes knows go old new said
  pub told : Appends written written' (text_of said)

-- a line ended the script for this fault, and what it said was printed
pub record RanOut {P : Type 0} (knows : Knowing P) (go : Stage → Next) (fault : Fault) (old new : Holds P) (written written' : Option (List ℕ)) : Type 0 where
  pub said : List Said
  pub ends : Ends knows go fault old new said
  pub told : Appends written written' (text_of said)

-- A front of what a line says was printed. With it the run begins with these turns, by which places were led to.
pub record RanShort {P : Type 0} (knows : Knowing P) (go : Stage → Next) (old : Holds P) (written written' : Option (List ℕ)) : Type 0 where
  pub outcomes : List Came
  pub turns : List Turn → List Turn
  pub front : (earlier : List Turn) (later : List Came) → AppendsFront written written' (text_of (go (stage_of old earlier (outcomes ++ later))).said)
  pub begins : (earlier : List Turn) (later : List Came) → BeginWith (turns_at (go (stage_of old earlier (outcomes ++ later))).stage) (turns earlier)
  pub over : Option Turn
  pub stops : (earlier : List Turn) (later : List Came) → EndsBeside (turns earlier) over (go (stage_of old earlier (outcomes ++ later)))
  pub led : (earlier : List Turn) → Known knows old earlier → Told knows (turns earlier) over
  pub uses : (earlier : List Turn) → outcomes_in (turns earlier) ++ outcomes_over over ≡ outcomes_in (turns_of old earlier) ++ outcomes

abbrev pub Breaks : {P : Type 0} → Knowing P → Outcome → ℕ → (Stage → Next) → Holds P → Holds P → Option (List ℕ) → Option (List ℕ) → Type 0
Breaks knows outcome.Done number go old new written written' = ⊥
Breaks knows (outcome.Script line) number go old new written written' = (line ≡ number) × RanOut knows go (Line line) old new written written'
Breaks knows outcome.Large number go old new written written' = RanOut knows go Large old new written written'
Breaks knows outcome.ReadFault number go old new written written' = ⊥
Breaks knows outcome.WriteFault number go old new written written' = RanShort knows go old written written'
Breaks knows outcome.NoMemory number go old new written written' = RanShort knows go old written written'
Breaks knows outcome.Internal number go old new written written' = RanShort knows go old written written'

-- ---- outcomes of faults

abbrev pub line_outcome : LineFault → Outcome
line_outcome line.Source = outcome.ReadFault
line_outcome line.NoMemory = outcome.NoMemory

abbrev pub print_outcome : PrintFault → Outcome
print_outcome print.Sink = outcome.WriteFault
print_outcome print.NoMemory = outcome.NoMemory

-- the line of a script's fault
abbrev pub fault_line : Outcome → List ℕ
fault_line outcome.Done = []
fault_line (outcome.Script number) = fault_text (Some (Line number))
fault_line outcome.Large = fault_text (Some Large)
fault_line outcome.ReadFault = []
fault_line outcome.WriteFault = []
fault_line outcome.NoMemory = []
fault_line outcome.Internal = []

-- a script that ended so has a line of its fault
abbrev pub HasLine : Outcome → Type 0
HasLine outcome.Done = ⊥
HasLine (outcome.Script number) = Unit {0}
HasLine outcome.Large = Unit {0}
HasLine outcome.ReadFault = ⊥
HasLine outcome.WriteFault = ⊥
HasLine outcome.NoMemory = ⊥
HasLine outcome.Internal = ⊥
