use Rattle.std.proofs.Common.{◌≡◌, ◌-◌, []}
use Rattle.raft_messages.specs.Servers.{more_servers_at}
use Rattle.raft_messages.proofs.configuration.servers.Given as goal

abbrev pub invariant-loop : goal.invariant-loop
invariant-loop l = more_servers_at l.servers.items (l.count - l.counter) l.words ≡ more_servers_at [] l.count l.initial.words
