-- State machines have one list of commands, and those that have applied as many of them hold the same files and pending pages.
use Rattle.std.specs.Prelude.{◌≡◌, ◌≤◌, ℕ, List, [], ◌++◌, length, take, sum_by, true, Some, ⊤}
use Rattle.std.specs.List.{AllByRecursion}
use Rattle.wire_words.specs.Items.{AreBytes}
use Rattle.log_commands.specs.declared.command.Command.{Command}
use Rattle.database_state.specs.Files.{Content, files}
use Rattle.database_state.specs.Stated.{IsSpelled, length_of_files}
use Rattle.script_machines.specs.Limits.{table_of, is_allowed}
use Rattle.file_digest.specs.Digest.{digest}
use Rattle.script_grammar.specs.declared.events.Event.{Event}
use Rattle.script_grammar.specs.declared.events.Event.TheVariants.{Timeout, Beat, Connect, Bytes, Hangup, Deliver, Settle, Crash, Start, Put, Take}
use Rattle.script_machines.specs.declared.machine_line.MachineLine.{MachineLine}
use Rattle.script_machines.specs.declared.machine_line.MachineLine.TheVariants.{Refused, Machine}
use Rattle.script_machines.specs.Holding.{Holding}
use Rattle.script_machines.specs.Machines.{Fleet, applies, standing_of, standings}

-- a list of commands begins with these
abbrev pub BeginsWith : List Command → List Command → Type 0
BeginsWith commands front = (rest : List Command) × (front ++ rest ≡ commands)

-- A state machine has applied a front of the list, and holds what that front makes.
pub record Follows (commands : List Command) (machine : Holding) : Type 0 where
  pub within : machine.applied ≤ length commands
  pub holds : machine.databases ≡ files (take machine.applied commands)

abbrev pub AllFollow : Fleet → Type 0
AllFollow fleet = AllByRecursion (Follows fleet.commands) fleet.machines

-- This many commands of the list are there, and this is the digest of the files that they make.
pub record IsDigestOf (commands : List Command) (applied : ℕ) (bytes : List ℕ) : Type 0 where
  pub within : applied ≤ length commands
  pub bytes_are : bytes ≡ digest (files (take applied commands))

-- what is said of a state machine names a number of commands of the list, and the digest of the files that this many make
abbrev pub Tells : List Command → MachineLine → Type 0
Tells commands Refused = ⊤
Tells commands (Machine number applied bytes) = IsDigestOf commands applied bytes

abbrev pub AllTell : List Command → List MachineLine → Type 0
AllTell commands said = AllByRecursion (Tells commands) said

-- what is said of a state machine is how the state machine of its number stands
abbrev pub IsSeenIn : Fleet → MachineLine → Type 0
IsSeenIn fleet Refused = ⊤
IsSeenIn fleet (Machine number applied bytes) = standing_of fleet number ≡ Some (Machine number applied bytes)

abbrev pub AllSeenIn : Fleet → List MachineLine → Type 0
AllSeenIn fleet said = AllByRecursion (IsSeenIn fleet) said

-- how long the files of databases are, all together
abbrev pub length_of_all : List Content → ℕ
length_of_all contents = sum_by (λ (content : Content). length_of_files content.image) contents

-- Bytes represent each command of a list, and the list is within its limits.
pub record IsSound (commands : List Command) : Type 0 where
  pub spelled : AllByRecursion IsSpelled commands
  pub allowed : is_allowed (table_of commands) ≡ true

-- what an event puts are bytes
abbrev pub PutsBytes : Event → Type 0
PutsBytes (Put bytes) = AreBytes bytes
PutsBytes (Timeout node) = ⊤
PutsBytes (Beat node) = ⊤
PutsBytes (Connect node connection) = ⊤
PutsBytes (Bytes connection bytes) = ⊤
PutsBytes (Hangup connection) = ⊤
PutsBytes (Deliver message) = ⊤
PutsBytes (Settle count) = ⊤
PutsBytes (Crash node pick) = ⊤
PutsBytes (Start node) = ⊤
PutsBytes (Take machine) = ⊤

-- ---- what an event keeps

-- State machines became others, whose list is the longer one; each holds what its front of it makes; and what was said is of that list, and of
-- the state machines as they stood.
pub record GoesAlike (old new : Fleet) (said : List MachineLine) : Type 0 where
  pub follow : AllFollow new
  pub grows : BeginsWith new.commands old.commands
  pub tells : AllTell new.commands said
  pub seen : AllSeenIn old said

-- This holds after each event.
abbrev pub EventsKeepAlike : Type 0
EventsKeepAlike = (fleet : Fleet) (event : Event) (next : Fleet × List MachineLine) → AllFollow fleet → applies fleet event ≡ Some next → GoesAlike fleet next.0 next.1

-- How state machines stand that hold so is told of their list.
pub record StandsAlike (fleet : Fleet) : Type 0 where
  pub one : (number : ℕ) (say : MachineLine) → standing_of fleet number ≡ Some say → Tells fleet.commands say × IsSeenIn fleet say
  pub all : AllTell fleet.commands (standings 1 fleet.machines) × AllSeenIn fleet (standings 1 fleet.machines)

abbrev pub MachinesStandAlike : Type 0
MachinesStandAlike = (fleet : Fleet) → AllFollow fleet → StandsAlike fleet

-- The list stays within its limits, and so the files of a state machine are together at most 67,108,864 bytes long.
abbrev pub ListsStaySound : Type 0
ListsStaySound = (fleet : Fleet) (event : Event) (next : Fleet × List MachineLine) → PutsBytes event → IsSound fleet.commands → applies fleet event ≡ Some next → IsSound next.0.commands

abbrev pub FilesAreBounded : Type 0
FilesAreBounded = (commands : List Command) (machine : Holding) → IsSound commands → Follows commands machine → length_of_all machine.databases ≤ 67108864
