-- The numbers of the ways in which the program ends.
use Rattle.std.specs.Prelude.{◌≡◌, ◌⊎◌, ℕ, Option, Some, List}
use Rattle.sql_engine.specs.declared.kind.EngineKind.{EngineKind}
use Rattle.script_cluster.specs.Outcomes.{Item}
use Rattle.script_cluster.specs.Run.{Line, Large as TooLarge}
use Rattle.script_runner.specs.declared.run.Outcome.{Outcome}
use Rattle.script_runner.specs.declared.run.Outcome.TheVariants as outcome
use Rattle.script_runner.specs.Ending.{MayFollow, Anything}
use Rattle.dqnode.specs.Program.{Gives, Completes, BreaksOff}
use Rattle.dqnode.specs.declared.status.Status.{Status}
use Rattle.dqnode.specs.declared.status.Status.TheVariants.{Done, Words, Script, ReadFault, WriteFault, DiskFault, HostFault, NoMemory, Files, Large, Spent, Refused, NoLeader, Unknown, Internal}

abbrev pub status_code : Status → ℕ
status_code Done = 0
status_code Words = 1
status_code Script = 2
status_code ReadFault = 3
status_code WriteFault = 4
status_code DiskFault = 5
status_code HostFault = 6
status_code NoMemory = 7
status_code Files = 8
status_code Large = 9
status_code Spent = 10
status_code Refused = 11
status_code NoLeader = 12
status_code Unknown = 13
status_code Internal = 15

-- those of a script, of a statement, of a check, and of a node that is served
abbrev pub IsScriptCode : ℕ → Type 0
IsScriptCode code = (code ≡ 0) ⊎ (code ≡ 2) ⊎ (code ≡ 3) ⊎ (code ≡ 4) ⊎ (code ≡ 7) ⊎ (code ≡ 9) ⊎ (code ≡ 15)

abbrev pub IsStatementCode : ℕ → Type 0
IsStatementCode code = (code ≡ 0) ⊎ (code ≡ 4) ⊎ (code ≡ 7) ⊎ (code ≡ 11) ⊎ (code ≡ 12) ⊎ (code ≡ 13)

abbrev pub IsCheckCode : ℕ → Type 0
IsCheckCode code = (code ≡ 0) ⊎ (code ≡ 4) ⊎ (code ≡ 5) ⊎ (code ≡ 7) ⊎ (code ≡ 8)

abbrev pub IsServeCode : ℕ → Type 0
IsServeCode code = (code ≡ 5) ⊎ (code ≡ 6) ⊎ (code ≡ 7) ⊎ (code ≡ 8) ⊎ (code ≡ 10) ⊎ (code ≡ 15)

-- the statuses that there are
abbrev pub IsStatus : ℕ → Type 0
IsStatus code = (code ≡ 1) ⊎ IsScriptCode code ⊎ IsStatementCode code ⊎ IsCheckCode code ⊎ IsServeCode code

-- those of a fault of the output, and of out of memory
abbrev pub IsBroken : ℕ → Type 0
IsBroken code = (code ≡ 4) ⊎ (code ≡ 7)

-- those after which what a script printed may end anywhere, with its input read: the output failed, memory ran out, or the program met a bug
abbrev pub IsBrokenOff : ℕ → Type 0
IsBrokenOff code = IsBroken code ⊎ (code ≡ 15)

-- the status for how running a script ended
abbrev pub status_for : Outcome → Status
status_for outcome.Done = Done
status_for (outcome.Script line) = Script
status_for outcome.Large = Large
status_for outcome.ReadFault = ReadFault
status_for outcome.WriteFault = WriteFault
status_for outcome.NoMemory = NoMemory
status_for outcome.Internal = Internal

-- what a script did that ended with this outcome
abbrev pub OutcomeEnds : EngineKind → List Item → Outcome → Option (List ℕ) → Option (List ℕ) → Option (List ℕ) → Option (List ℕ) → Type 0
OutcomeEnds kind journal outcome.Done left left' written written' = Completes kind journal left left' written written'
OutcomeEnds kind journal (outcome.Script line) left left' written written' = Gives kind (Some (Line line)) journal left left' written written'
OutcomeEnds kind journal outcome.Large left left' written written' = Gives kind (Some TooLarge) journal left left' written written'
OutcomeEnds kind journal outcome.ReadFault left left' written written' = BreaksOff kind Anything left left' written written'
OutcomeEnds kind journal outcome.WriteFault left left' written written' = BreaksOff kind (MayFollow left') left left' written written'
OutcomeEnds kind journal outcome.NoMemory left left' written written' = BreaksOff kind (MayFollow left') left left' written written'
OutcomeEnds kind journal outcome.Internal left left' written written' = BreaksOff kind (MayFollow left') left left' written written'

-- what a script did that ended with this status
abbrev pub ScriptEnds : EngineKind → List Item → Status → Option (List ℕ) → Option (List ℕ) → Option (List ℕ) → Option (List ℕ) → Type 0
ScriptEnds kind journal Done left left' written written' = Completes kind journal left left' written written'
ScriptEnds kind journal Words left left' written written' = ⊥
ScriptEnds kind journal DiskFault left left' written written' = ⊥
ScriptEnds kind journal HostFault left left' written written' = ⊥
ScriptEnds kind journal Files left left' written written' = ⊥
ScriptEnds kind journal Spent left left' written written' = ⊥
ScriptEnds kind journal Refused left left' written written' = ⊥
ScriptEnds kind journal NoLeader left left' written written' = ⊥
ScriptEnds kind journal Unknown left left' written written' = ⊥
ScriptEnds kind journal Script left left' written written' = (line : ℕ) × Gives kind (Some (Line line)) journal left left' written written'
ScriptEnds kind journal ReadFault left left' written written' = BreaksOff kind Anything left left' written written'
ScriptEnds kind journal WriteFault left left' written written' = BreaksOff kind (MayFollow left') left left' written written'
ScriptEnds kind journal NoMemory left left' written written' = BreaksOff kind (MayFollow left') left left' written written'
ScriptEnds kind journal Internal left left' written written' = BreaksOff kind (MayFollow left') left left' written written'
ScriptEnds kind journal Large left left' written written' = Gives kind (Some TooLarge) journal left left' written written'
