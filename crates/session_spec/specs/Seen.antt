-- A node's log as its sessions see it: what the bytes of each entry are for.
use Rattle.std.specs.Prelude.{◌≡◌, ℕ, List, map, Option, Some, None, Result, Ok, Err}
use Rattle.std.specs.List.{AllByRecursion}
use Rattle.raft_spec.specs.Log as raft
use Rattle.raft_spec.specs.Node.{Server}
use Rattle.raft_messages.specs.Servers.{servers_bytes, configuration_of, WritesServers}
use Rattle.log_commands.specs.declared.command.Command.{Command}
use Rattle.log_commands.specs.declared.fault.CommandFault.{CommandFault}
use Rattle.log_commands.specs.Reading.{command_of}
use Rattle.log_commands.specs.Spelling.{Writes, command_bytes}
use Rattle.session_spec.specs.Entries.{Content, Does, Configures, Other, Entry, entries_of, written}

-- bytes that don't read as a command are nothing that sessions see
abbrev pub command_seen : Result Command CommandFault → Content
command_seen (Ok command) = Does command
command_seen (Err fault) = Other

abbrev pub servers_seen : Option (List Server) → Content
servers_seen (Some servers) = Configures servers
servers_seen None = Other

abbrev pub content_seen : raft.EntryKind → List ℕ → Content
content_seen raft.Command bytes = command_seen (command_of bytes)
content_seen raft.Change bytes = servers_seen (configuration_of bytes)
content_seen raft.Barrier bytes = Other

abbrev pub entry_seen : raft.Entry → Entry
entry_seen e = record { term = e.term; content = content_seen e.kind e.bytes }

-- a node's log as sessions see it
abbrev pub log_seen : List raft.Entry → List Entry
log_seen log = map entry_seen log

-- what it is for can be written
abbrev pub HasSpelling : Content → Type 0
HasSpelling (Does command) = Writes command (command_bytes command)
HasSpelling (Configures servers) = WritesServers servers (servers_bytes servers)
HasSpelling Other = Unit {0}

-- What is written is seen again, in its term.
abbrev pub WrittenIsSeen : Type 0
WrittenIsSeen = (term : ℕ) (contents : List Content) → AllByRecursion HasSpelling contents → log_seen (written term contents) ≡ entries_of term contents
