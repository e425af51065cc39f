-- The numbers of the kinds of entry and of the roles of a server, and the rules' kinds.
use Rattle.std.specs.Prelude.{ℕ, ◌==◌, if◌then◌else◌, Option, Some, None}
use Rattle.raft_spec.specs.Log.{EntryKind as EntryKindValue, Command, Barrier, Change}
use Rattle.raft_messages.specs.declared.entry.EntryKind.{EntryKind}
use Rattle.raft_messages.specs.declared.entry.EntryKind.TheVariants as kinds
use Rattle.raft_messages.specs.declared.server.ServerRole.{ServerRole}
use Rattle.raft_messages.specs.declared.server.ServerRole.TheVariants as roles

-- the rules' kind of entry
abbrev pub kind_value : EntryKind → EntryKindValue
kind_value kinds.Command = Command
kind_value kinds.Barrier = Barrier
kind_value kinds.Change = Change

-- the number of a kind of entry, by the rules' kind
abbrev pub kind_number : EntryKindValue → ℕ
kind_number Command = 1
kind_number Barrier = 2
kind_number Change = 3

-- the number of a kind of entry
abbrev pub kind_code : EntryKind → ℕ
kind_code kind = kind_number (kind_value kind)

-- the kind of entry that a number represents
abbrev pub kind_with : ℕ → Option EntryKind
kind_with code = if code == 1 then Some kinds.Command else if code == 2 then Some kinds.Barrier else if code == 3 then Some kinds.Change else None

-- the number of a role
abbrev pub role_number : ServerRole → ℕ
role_number roles.Voter = 0
role_number roles.Standby = 1
role_number roles.Spare = 2

-- the role that a number represents
abbrev pub role_with : ℕ → Option ServerRole
role_with number = if number == 0 then Some roles.Voter else if number == 1 then Some roles.Standby else if number == 2 then Some roles.Spare else None
