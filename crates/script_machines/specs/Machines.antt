-- Several state machines that apply one list of commands, each at its own pace.
use Rattle.std.specs.Prelude.{◌-◌, ◌+◌, ◌&&◌, ℕ, zero, suc, Bool, true, false, List, [], ◌∷◌, ◌++◌, length, set, get_or, slice_get, nat_le, Option, Some}
use Rattle.std.specs.Prelude.{None, Result, Ok, Err, if◌then◌else◌}
use Rattle.std.specs.Option.{option_map}
use Rattle.log_commands.specs.declared.command.Command.{Command}
use Rattle.log_commands.specs.declared.fault.CommandFault.{CommandFault}
use Rattle.log_commands.specs.Reading.{command_of}
use Rattle.script_machines.specs.declared.machine_line.MachineLine.{MachineLine}
use Rattle.script_machines.specs.declared.machine_line.MachineLine.TheVariants.{Refused, Machine}
use Rattle.script_grammar.specs.declared.events.Event.{Event}
use Rattle.script_grammar.specs.declared.events.Event.TheVariants.{Timeout, Beat, Connect, Bytes, Hangup, Deliver, Settle, Crash, Start, Put, Take}
use Rattle.script_machines.specs.declared.machines.Machines.{Machines}
use Rattle.database_state.specs.Files.{act}
use Rattle.script_machines.specs.Holding.{Holding}
use Rattle.script_machines.specs.Limits.{may_join}
use Rattle.file_digest.specs.Digest.{digest}

-- a list of commands, and the state machines by their numbers from 1
pub record Fleet : Type 0 where
  pub commands : List Command
  pub machines : List Holding

-- a state machine that has applied nothing
abbrev pub idle : Holding
idle = record { databases = []; applied = 0 }

abbrev pub idle_machines : ℕ → List Holding
idle_machines zero = []
idle_machines (suc count) = idle ∷ idle_machines count

-- the state machine after a command of the list, if it has not applied all of them
abbrev pub after_command : Holding → Option Command → Holding
after_command machine None = machine
after_command machine (Some command) = record { databases = act machine.databases command; applied = machine.applied + 1 }

abbrev pub after_next : List Command → Holding → Holding
after_next commands machine = after_command machine (slice_get commands machine.applied)

-- the place of a state machine's number
abbrev pub place_named : ℕ → ℕ → Option ℕ
place_named number count = if nat_le 1 number && nat_le number count then Some (number - 1) else None

-- this many state machines that have applied nothing of an empty list
abbrev pub idle_fleet : ℕ → Fleet
idle_fleet count = record { commands = []; machines = idle_machines count }

-- a state machine applies the next command of the list
abbrev pub take_at : Fleet → ℕ → Fleet
take_at fleet place = record {
  commands = fleet.commands;
  machines = set fleet.machines place (after_next fleet.commands (get_or fleet.machines place idle));
}

-- what is said of a command that may, or may not, join the list
abbrev pub refusal : Bool → List MachineLine
refusal true = []
refusal false = Refused ∷ []

-- A command joins the list within the limits. Bytes that are no command change nothing.
abbrev pub joins : Fleet → Result Command CommandFault → Bool
joins fleet (Err fault) = false
joins fleet (Ok command) = may_join fleet.commands command

abbrev pub with_command : Fleet → Result Command CommandFault → Fleet
with_command fleet (Err fault) = fleet
with_command fleet (Ok command) = if may_join fleet.commands command then record {
  commands = fleet.commands ++ command
      ∷ [];
  machines = fleet.machines;
} else fleet

-- the state machines after an event, and what was said; none if the event names what isn't there
unfoldable pub applies : Fleet → Event → Option (Fleet × List MachineLine)
applies fleet (Put bytes) = Some (with_command fleet (command_of bytes), refusal (joins fleet (command_of bytes)))
applies fleet (Take number) = option_map (λ (place : ℕ). (take_at fleet place, [])) (place_named number (length fleet.machines))
applies fleet (Timeout node) = None
applies fleet (Beat node) = None
applies fleet (Connect node connection) = None
applies fleet (Bytes connection bytes) = None
applies fleet (Hangup connection) = None
applies fleet (Deliver message) = None
applies fleet (Settle count) = None
applies fleet (Crash node pick) = None
applies fleet (Start node) = None

-- how a state machine stands
abbrev pub standing : ℕ → Holding → MachineLine
standing number machine = Machine number machine.applied (digest machine.databases)

-- how the state machine of a number stands, if it is there
abbrev pub standing_of : Fleet → ℕ → Option MachineLine
standing_of fleet number = option_map (λ (place : ℕ). standing number (get_or fleet.machines place idle)) (place_named number (length fleet.machines))

-- how state machines stand, the first of which has this number
abbrev pub standings : ℕ → List Holding → List MachineLine
standings number [] = []
standings number (machine ∷ machines) = standing number machine ∷ standings (suc number) machines

-- the state machines that the runner keeps
abbrev pub fleet_of : Machines → Fleet
fleet_of machines = record { commands = machines.commands; machines = machines.machines.items }
