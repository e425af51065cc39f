-- What sessions see of the entries of a log, and how the entries that they propose are written.
use Rattle.std.specs.Prelude.{ℕ, ◌+◌, ◌*◌, ◌^◌, List, [], map}
use Rattle.raft_spec.specs.Log as raft
use Rattle.raft_spec.specs.Node.{Server}
use Rattle.raft_messages.specs.Servers.{servers_bytes}
use Rattle.log_commands.specs.declared.command.Command.{Command}
use Rattle.log_commands.specs.Spelling.{command_bytes}

-- What an entry is for: a command to the databases; the servers of the cluster from then on; or nothing that sessions
-- see, as the first entry of a leader, or bytes that don't read.
pub data Content : Type 0 where
  Does : (command : Command) → Content
  Configures : (servers : List Server) → Content
  Other : Content

-- an entry, with the term of the leader that appended it
pub record Entry : Type 0 where
  pub term : ℕ
  pub content : Content

-- these as entries of a term
abbrev pub entries_of : ℕ → List Content → List Entry
entries_of term contents = map (λ (content : Content). record { term = term; content = content }) contents

-- the same as they are in a node's log
abbrev pub written_in : ℕ → Content → raft.Entry
written_in term (Does command) = record { term = term; kind = raft.Command; bytes = command_bytes command }
written_in term (Configures servers) = record { term = term; kind = raft.Change; bytes = servers_bytes servers }
written_in term Other = record { term = term; kind = raft.Barrier; bytes = [] }

abbrev pub written : ℕ → List Content → List raft.Entry
written term contents = map (written_in term) contents

-- the number of the transaction whose first entry has this index in this term
unfoldable pub tx_of : ℕ → ℕ → ℕ
tx_of term first = term * 2 ^ 32 + first
