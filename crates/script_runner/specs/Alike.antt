-- A run has one list of commands, and state machines that have applied as many of them hold the same files and pending pages, at
-- whichever moments of the run.
use Rattle.std.specs.Prelude.{◌≡◌, ◌≤◌, ◌+◌, ℕ, suc, List, [], ◌∷◌, ◌++◌, take, slice_get, All, Contains, Option, Some, None, ⊤}
use Rattle.log_commands.specs.declared.command.Command.{Command}
use Rattle.database_state.specs.Files.{files}
use Rattle.database_state.specs.AsMap.{AreInOrder, Does}
use Rattle.script_grammar.specs.Lines.{lines_of}
use Rattle.script_cluster.specs.Outcomes.{Outcome}
use Rattle.script_cluster.specs.Run.{Opening, Fault}
use Rattle.script_machines.specs.declared.machine_line.MachineLine.TheVariants.{Machine}
use Rattle.script_machines.specs.Alike as pages
use Rattle.script_machines.specs.Alike.{BeginsWith, Follows, length_of_all}
use Rattle.script_machines.specs.Holding.{Holding}
use Rattle.script_machines.specs.Machines.{Fleet, idle_fleet}
use Rattle.script_runner.specs.Run.{Said, OfNodes, OfMachines, Stage, AtNodes, AtMachines, Next, Run, step, closing, run_from, run}

-- the state machines of a stage and their list of commands; before the mode line and among nodes there are none
abbrev pub fleet_at : Stage → Fleet
fleet_at (AtNodes stage) = idle_fleet 0
fleet_at (AtMachines usage fleet) = fleet

-- where a script leads after a line and those that follow it, unless it ends there
abbrev pub led : (Stage → Stage) → Next → Option Fault → Stage
led go next None = go next.stage
led go next (Some fault) = next.stage

-- where lines lead from a stage, the first of which has this number
abbrev pub led_from : Stage → ℕ → List (List ℕ) → Stage
led_from stage number [] = stage
led_from stage number (line ∷ lines) = led (λ (next : Stage). led_from next (suc number) lines) (step stage number line) (step stage number line).fault

-- where a script leads, after all of its lines or at its first fault
abbrev pub stage_after : List ℕ → List Outcome → Stage
stage_after script outcomes = led_from (AtNodes (Opening outcomes)) 1 (lines_of script)

-- the list of commands of a script's run, which is the one at its end
abbrev pub commands_of : List ℕ → List Outcome → List Command
commands_of script outcomes = (fleet_at (stage_after script outcomes)).commands

-- where this many of its lines lead
abbrev pub stage_until : List ℕ → List Outcome → ℕ → Stage
stage_until script outcomes count = led_from (AtNodes (Opening outcomes)) 1 (take count (lines_of script))

-- a moment of the run: the state machines and their list after this many lines
abbrev pub moment : List ℕ → List Outcome → ℕ → Fleet
moment script outcomes count = fleet_at (stage_until script outcomes count)

-- the run of this many lines, at the end of which all are shown
abbrev pub run_until : List ℕ → List Outcome → ℕ → Run
run_until script outcomes count = run_from (AtNodes (Opening outcomes)) 1 (take count (lines_of script))

-- what is said of a state machine names a number of commands of the list, and the digest of the files that this many make
abbrev pub Tells : List Command → Said → Type 0
Tells commands (OfNodes say) = ⊤
Tells commands (OfMachines say) = pages.Tells commands say

-- what is said of a state machine is how the state machine of its number stands
abbrev pub IsSeenIn : Fleet → Said → Type 0
IsSeenIn fleet (OfNodes say) = ⊤
IsSeenIn fleet (OfMachines say) = pages.IsSeenIn fleet say

-- this holds at some moment of the run
abbrev pub IsSeen : List ℕ → List Outcome → Said → Type 0
IsSeen script outcomes say = (count : ℕ) × IsSeenIn (moment script outcomes count) say

-- what is said of a state machine with this number
abbrev pub machine_said : ℕ → ℕ → List ℕ → Said
machine_said number applied bytes = OfMachines (Machine number applied bytes)

-- What every run of a script keeps, of one list of commands.
pub record KeepsAlike (script : List ℕ) (outcomes : List Outcome) : Type 0 where
  -- From a moment to a later one the list only grows, at its end.
  pub grows : (early late : ℕ) → early ≤ late → BeginsWith (moment script outcomes late).commands (moment script outcomes early).commands
  -- So the list of the run begins with that of each moment.
  pub one_list : (count : ℕ) → BeginsWith (commands_of script outcomes) (moment script outcomes count).commands
  -- At each moment each state machine has applied a front of the run's list, and holds what that front makes.
  pub follow : (count : ℕ) → All (Follows (commands_of script outcomes)) (moment script outcomes count).machines
  -- So at any two moments state machines that have applied as many commands hold the same.
  pub same : (early late : ℕ) (machine other : Holding) → Contains (moment script outcomes early).machines machine
      → Contains (moment script outcomes late).machines other → machine.applied ≡ other.applied → machine.databases ≡ other.databases
  -- At each moment the files of each state machine are together at most 67,108,864 bytes long.
  pub bounded : (count : ℕ) → All (λ (machine : Holding). length_of_all machine.databases ≤ 67108864) (moment script outcomes count).machines
  -- Each line that is printed of a state machine is of that list, also in a script that has a fault.
  pub told : All (Tells (commands_of script outcomes)) (run script outcomes).said
  -- And it is how the state machine of its number is at some moment.
  pub seen : All (IsSeen script outcomes) (run script outcomes).said
  -- So two lines about as many commands show the same digest.
  pub same_digest : (number other applied : ℕ) (bytes others : List ℕ) → Contains (run script outcomes).said (machine_said number applied bytes)
      → Contains (run script outcomes).said (machine_said other applied others) → bytes ≡ others
  -- What is printed up to each moment, and how all are then, is of that list too.
  pub told_until : (count : ℕ) → All (Tells (commands_of script outcomes)) (run_until script outcomes count).said
  -- If a script ends after this many lines, the state machines of that moment are shown. So this script shows at its end those
  -- to which it leads.
  pub shown_until : (count : ℕ) → (run_until script outcomes count).fault ≡ None
      → (said : List Said) × ((run_until script outcomes count).said ≡ said ++ closing (stage_until script outcomes count))
  pub shown : (run script outcomes).fault ≡ None → (said : List Said) × ((run script outcomes).said ≡ said ++ closing (stage_after script outcomes))
  -- The databases that a front of the list makes are in the order of their names.
  pub in_order : (count : ℕ) → AreInOrder (files (take count (commands_of script outcomes)))
  -- The next command of the list does what it says, and nothing else.
  pub does_next : (count : ℕ) (command : Command) → slice_get (commands_of script outcomes) count ≡ Some command
      → Does command (files (take count (commands_of script outcomes))) (files (take (count + 1) (commands_of script outcomes)))
