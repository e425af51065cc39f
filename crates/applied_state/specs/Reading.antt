-- What bytes read as, if they do.
use Rattle.std.specs.Prelude.{◌≡◌, ℕ, List, take, Option, Some, None, Result, Ok, Err}
use Rattle.log_commands.specs.declared.command.Command.{Command}
use Rattle.log_commands.specs.declared.fault.CommandFault.{CommandFault}
use Rattle.log_commands.specs.Spelling.{Writes}
use Rattle.database_state.specs.declared.database.Database.{Database}
use Rattle.database_state.specs.declared.fault.SnapFault.{SnapFault}
use Rattle.database_state.specs.Databases.{contents_of}
use Rattle.database_state.specs.Files.{Content}
use Rattle.database_state.specs.Restoring.{restored}
use Rattle.database_state.specs.Snapshot.{IsSnapshot}
use Rattle.raft_spec.specs.Node.{Server}
use Rattle.raft_messages.specs.declared.servers_fault.ServersFault.{ServersFault}
use Rattle.raft_messages.specs.Servers.{WritesServers}

-- the command that was read, if one was
abbrev pub command_read : Result Command CommandFault → Option Command
command_read (Ok command) = Some command
command_read (Err fault) = None

-- the configuration that was read and the place after it, if one was
abbrev pub servers_read : Result (List Server × ℕ) ServersFault → Option (List Server × ℕ)
servers_read (Ok read) = Some read
servers_read (Err fault) = None

-- the databases that were read, if they were
abbrev pub contents_read : Result (List Content) SnapFault → Option (List Content)
contents_read (Ok contents) = Some contents
contents_read (Err fault) = None

-- What was read is encoded so.
abbrev pub WritesIf : List ℕ → Option Command → Type 0
WritesIf bytes None = Unit {0}
WritesIf bytes (Some command) = Writes command bytes

abbrev pub WritesServersIf : List ℕ → Option (List Server × ℕ) → Type 0
WritesServersIf bytes None = Unit {0}
WritesServersIf bytes (Some read) = WritesServers read.0 (take read.1 bytes)

-- a state machine that was read has no commits and no live marks
abbrev pub IsMachineIf : List ℕ → Option (List Database) → Type 0
IsMachineIf bytes None = Unit {0}
IsMachineIf bytes (Some machine) = IsSnapshot (contents_of machine) bytes × (machine ≡ restored (contents_of machine))
