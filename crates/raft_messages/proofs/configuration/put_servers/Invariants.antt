use Rattle.std.proofs.Common.{◌≡◌, ◌++◌, drop}
use Rattle.std.specs.List.{AllByRecursion}
use Rattle.raft_messages.specs.Servers.{each_bytes, IsServer, HoldsServer}
use Rattle.raft_messages.proofs.configuration.put_servers.Given as goal

abbrev pub invariant-loop-server : goal.invariant-loop-server
invariant-loop-server l = record {
  bytes : l.out ++ each_bytes (drop l.server-index l.servers) ≡ l.initial.out ++ each_bytes l.servers;
  holds : AllByRecursion HoldsServer (drop l.server-index l.servers) → AllByRecursion HoldsServer l.servers;
  left : AllByRecursion IsServer (drop l.server-index l.servers);
}
